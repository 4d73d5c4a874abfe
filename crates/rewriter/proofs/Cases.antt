-- Computed cases of writing into a buffer, and of what is built of a sheet before it is written.
use Rattle.std.specs.Prelude.{ℕ, ◌+◌, ◌<◌, ◌≤◌, ◌≡◌, refl, List, [], ◌∷◌, map, length, Some, None, Ok, Err}
use Rattle.std.proofs.Common.{arith, ap}
use Rattle.std.proofs.Math.Option.{none, some}
use Rattle.std.specs.Borrow.{GName}
use Rattle.buffer.specs.Put.{Put, overwrite_at}
use Rattle.buffer.specs.declared.Buffer.{Buffer}
use Rattle.rules.specs.Numbers.{decode_number, refusal_of}
use Rattle.sheet_rules.specs.Edition1.{archive_edition, decode_record, encode_number, encode_record, hall_edition}
use Rattle.sheet_rules.specs.Edition2.{decode_record2, encode_record2, hall_edition2}
use Rattle.sheet_rules.specs.Offsets.{ending_in}
use Rattle.sheet_rules.specs.Sheet.{Edition, Records, complete, more, record_for}
use Rattle.rewriter.specs.Build.{BuiltOf, PutRecords, PutUnlessLong, records_from, written_for}
use Rattle.rewriter.specs.Output.{no_room, output_of, put, write_whole}

-- ---- Writing.

-- Three, four and five bytes in a buffer of four: the rest is unchanged, and so is the whole buffer where they do not fit.
pub bytes_written :
    map (λ (bytes : List ℕ). write_whole (6 ∷ 7 ∷ 8 ∷ 9 ∷ []) bytes)
    ((1 ∷ 2 ∷ 3 ∷ []) ∷ (1 ∷ 2 ∷ 3 ∷ 4 ∷ []) ∷ (1 ∷ 2 ∷ 3 ∷ 4 ∷ 5 ∷ []) ∷ [])
    ≡ put (1 ∷ 2 ∷ 3 ∷ 9 ∷ []) 3 ∷ put (1 ∷ 2 ∷ 3 ∷ 4 ∷ []) 4 ∷ no_room (6 ∷ 7 ∷ 8 ∷ 9 ∷ []) ∷ []
bytes_written = refl

-- What the results say of a buffer afterwards.
pub results_say : (output_of (Some 1) (8 ∷ 9 ∷ []) ≡ put (8 ∷ 9 ∷ []) 1) × (output_of None (8 ∷ 9 ∷ []) ≡ no_room (8 ∷ 9 ∷ []))
results_say = (refl, refl)

-- ---- What is built.

-- The records from offset 3 on of a sheet of the archive: two of them, padded; they are written in shortest form.
abbrev two : List ℕ
two = 1 ∷ 1 ∷ 1 ∷ 0x84 ∷ 0x00 ∷ 0x87 ∷ 0x00 ∷ 3 ∷ 1 ∷ 2 ∷ 0xAC ∷ 0x82 ∷ 0x00 ∷ []

-- A number that is too large after a record; and three collects of edition 2 from offset 5 on, of which two repeat the desk.
abbrev refused_at6 : List ℕ
refused_at6 = 1 ∷ 1 ∷ 1 ∷ 5 ∷ 1 ∷ 4 ∷ 0x80 ∷ 0x80 ∷ 4 ∷ []

abbrev repeated : List ℕ
repeated = 0 ∷ 2 ∷ 1 ∷ 1 ∷ 1 ∷ 5 ∷ 7 ∷ 13 ∷ 13 ∷ []

pub records_written :
    (written_for hall_edition (records_from archive_edition two 3) ≡ 4 ∷ 7 ∷ 3 ∷ 1 ∷ 2 ∷ 0xAC ∷ 2 ∷ [])
    × (written_for hall_edition (records_from archive_edition refused_at6 3) ≡ 5 ∷ 1 ∷ [])
    × (written_for hall_edition (records_from hall_edition2 repeated 5) ≡ 5 ∷ 7 ∷ 5 ∷ 7 ∷ 5 ∷ 7 ∷ [])
    × (written_for hall_edition2 (records_from hall_edition (1 ∷ 1 ∷ 1 ∷ 5 ∷ 7 ∷ 5 ∷ 7 ∷ 5 ∷ 7 ∷ []) 3) ≡ 5 ∷ 7 ∷ 13 ∷ 13 ∷ [])
unfolding decode_record decode_record2 decode_number encode_record encode_record2 encode_number
records_written = (refl, refl, refl, refl)

-- ---- A buffer with so many bytes put into a slice that was lent. Which slice it is does not matter, so it is any.
module _ (ref_ptr : ℕ × ℕ) (ghost_name : GName) where
  abbrev lent : (words : List ℕ) (len : ℕ) → len ≤ length words → Buffer
  lent words len within = record { bytes = record { ref_ptr = ref_ptr; ghost_name = ghost_name; now = words }; len = len; within = within }

  -- One byte in a buffer of four, and two more.
  abbrev one : Buffer
  one = lent (6 ∷ 7 ∷ 8 ∷ 9 ∷ []) 1 (omega arith)

  abbrev three : Buffer
  three = lent (6 ∷ 1 ∷ 2 ∷ 9 ∷ []) 3 (omega arith)

  -- Two bytes at offset 1 of a buffer; they are not left out there.
  pub put-or-not :
      PutUnlessLong one three (1 ∷ 2 ∷ [])
      × (PutUnlessLong one one (1 ∷ []) → ⊥)
  unfolding overwrite_at
  put-or-not = (
    record { short = λ short. record { same_reference = refl; written = refl; len = refl; long = refl }; long = λ long. absurd (omega (arith, long)) },
    λ was. omega (arith, (was.short (omega arith)).len),
  )

  -- Past 65,536 nothing changes.
  module _ (words more : List ℕ) (within : 65537 ≤ length words) (within_more : 65538 ≤ length more) where
    pub not_put :
        PutUnlessLong (lent words 65537 within) (lent words 65537 within) (1 ∷ 2 ∷ [])
        × (PutUnlessLong (lent words 65537 within) (lent more 65538 within_more) (1 ∷ []) → ⊥)
    not_put = (
      record { short = λ short. absurd (omega (arith, short)); long = λ long. refl },
      λ was. (let same : 65538 ≡ 65537 = ap (λ (buffer : Buffer). buffer.len) (was.long (omega arith)) in omega (arith, same)),
    )

  -- No byte changes, either.
  module _ (words other : List ℕ) (within : 65537 ≤ length words) (within_other : 65537 ≤ length other) (changed : other ≡ words → ⊥) where
    pub no_byte_put : PutUnlessLong (lent words 65537 within) (lent other 65537 within_other) (1 ∷ []) → ⊥
    no_byte_put was = changed (ap (λ (buffer : Buffer). buffer.bytes.now) (was.long (omega arith)))

  -- The records of `two` behind a header of three bytes, with one byte of the buffer left: nothing ends their reading, and they end at offset 10.
  pub built :
      BuiltOf hall_edition (records_from archive_edition two 3)
      (lent (1 ∷ 1 ∷ 1 ∷ 0 ∷ 0 ∷ 0 ∷ 0 ∷ 0 ∷ 0 ∷ 0 ∷ 9 ∷ []) 3 (omega arith)) (Ok tt)
      (lent (1 ∷ 1 ∷ 1 ∷ 4 ∷ 7 ∷ 3 ∷ 1 ∷ 2 ∷ 0xAC ∷ 2 ∷ 9 ∷ []) 10 (omega arith))
  unfolding decode_record decode_number encode_record encode_number overwrite_at
  built = record {
    none_ends = refl;
    short = λ short. record { same_reference = refl; written = refl; len = refl; long = refl };
    long = λ long. absurd (omega (arith, long));
  }

  -- What ends the reading of `refused_at6`; nothing ends that of `two`.
  pub built-refused :
      BuiltOf hall_edition (records_from archive_edition refused_at6 3) one (Err (record { code = 4; number = 16; offset = 6 })) one
      × (BuiltOf hall_edition (records_from archive_edition two 3) one (Err (record { code = 4; number = 16; offset = 6 })) one → ⊥)
      × (BuiltOf hall_edition (records_from archive_edition refused_at6 3) one (Ok tt) three → ⊥)
  unfolding decode_record decode_number
  built-refused = (
    refl,
    λ ends. (let z : ◌≡◌ {A = ℕ} 0 1 = cc in omega arith),
    λ was. (let ends = was.none_ends in let z : ◌≡◌ {A = ℕ} 0 1 = cc in omega arith),
  )

-- ---- What the statements say at 65,536, and one further.
module _ (to : Edition) (records : Records) (out out_after : Buffer) (bytes : List ℕ) where
  pub says_put : out.len ≡ 65536 → PutUnlessLong out out_after bytes → Put out out_after bytes
  says_put at was = was.short (omega (arith, at))

  pub says_not_put : out.len ≡ 65537 → PutUnlessLong out out_after bytes → out_after ≡ out
  says_not_put at was = was.long (omega (arith, at))

  pub says_records_put : out_after.len ≡ 65536 → PutRecords to records out out_after → (ending_in records ≡ none) × Put out out_after (written_for to records)
  says_records_put at was = (was.none_ends, was.short (omega (arith, at)))

  pub says_too_many : out.len ≡ 3 → out_after.len ≡ 65537 → PutRecords to records out out_after → 65536 < 3 + length (written_for to records)
  says_too_many start at was = omega (arith, start, was.long (omega (arith, at)))

  pub says_built : BuiltOf to records out (Ok tt) out_after → PutRecords to records out out_after
  says_built was = was

  pub says_refused : BuiltOf to records out (Err (record { code = 4; number = 16; offset = 6 })) out_after → ending_in records ≡ some (refusal_of 4 16 6)
  says_refused was = was

  -- At offset 65,536 a byte is put; and a retire that ends at 65,536 was put, one that would end at 65,537 need not be.
  pub put_at_65536 : out.len ≡ 65536 → Put out out_after bytes → PutUnlessLong out out_after bytes
  put_at_65536 at done = record { short = λ short. done; long = λ long. absurd (omega (arith, at, long)) }

abbrev one_retire : Records
one_retire = more (record_for 4 7 0 0 0) complete

module _ (out out_after : Buffer) where
  pub ends_at_65536 : out_after.len ≡ 65536 → Put out out_after (4 ∷ 7 ∷ []) → PutRecords hall_edition one_retire out out_after
  unfolding encode_record encode_number
  ends_at_65536 at done = record { none_ends = refl; short = λ short. done; long = λ long. absurd (omega (arith, at, long)) }

  pub ends_at_65537 : out.len ≡ 65535 → out_after.len ≡ 65537 → PutRecords hall_edition one_retire out out_after
  unfolding encode_record encode_number
  ends_at_65537 start at = record { none_ends = refl; short = λ short. absurd (omega (arith, at, short)); long = λ long. omega (arith, start) }
