-- Computed cases of the byte that a refusal shows: what the statements about it admit and refuse. Document 02, "Show the byte".
use Rattle.std.specs.Prelude.{ℕ, zero, suc, ◌+◌, ◌≤◌, ◌≡◌, refl, List, [], ◌∷◌, ◌++◌, map, length, drop, replicate}
use Rattle.std.proofs.Common.{arith, sym, ap, ◌∙◌, subst, inl, inr, ⊎_elim, length-append}
use Rattle.std.proofs.Math.Option.{none, some}
use Rattle.std.proofs.Math.Seq.{drop-append_seam}
use Rattle.rules.specs.Lists.{to_nat}
use Rattle.rules.specs.Numbers.{Parsed, Refusal, barred, decode_number, parsed, refusal, refusal_of, refused}
use Rattle.sheet_rules.specs.Edition1.{decode_header, decode_record, hall_edition, hall_format, training_format}
use Rattle.sheet_rules.specs.Offsets.{NumbersFill, ShowsByte, WholeLines, ending, refuses_number}
use Rattle.sheet_rules.specs.Sheet.{lent_table, no_desk, opening_number, reading}
use Rattle.sheet_rules.proofs.SheetCases.{sheet_d}

-- ---- What ends a reading.

-- Nothing ends the reading of case D. The others end in the third record, in the first, and before it: a truncated header and a refused opening.
pub endings :
    map (λ (sheet : List ℕ). ending (reading hall_edition sheet))
    (sheet_d
    ∷ (0x01 ∷ 0x01 ∷ 0x01 ∷ 0x04 ∷ 0x01 ∷ 0x04 ∷ 0x01 ∷ 0x06 ∷ [])
    ∷ (0x01 ∷ 0x01 ∷ 0x01 ∷ 0x05 ∷ 0x80 ∷ 0x80 ∷ [])
    ∷ (0x01 ∷ 0x80 ∷ [])
    ∷ (0x11 ∷ 0x01 ∷ 0x01 ∷ [])
    ∷ [])
    ≡ none ∷ some (refusal_of 6 17 0) ∷ some (refusal_of 5 15 4) ∷ some (refusal_of 0 15 1) ∷ some (refusal_of 0 1 0) ∷ []
unfolding reading decode_header decode_record decode_number opening_number lent_table
endings = refl

-- "When a number gives 15 or 16", and 19 "with its offset as in Job 2"
pub numbers-with-offset :
    map (λ (number : ℕ). to_nat (refuses_number number)) (0 ∷ 1 ∷ 3 ∷ 14 ∷ 15 ∷ 16 ∷ 17 ∷ 18 ∷ 19 ∷ 20 ∷ []) ≡ 0 ∷ 0 ∷ 0 ∷ 0 ∷ 1 ∷ 1 ∷ 0 ∷ 0 ∷ 1 ∷ 0 ∷ []
numbers-with-offset = refl

-- "offsets reach 65,536": the desk of a record whose code is the last byte of a sheet of 65,536 bytes.
pub offset_65536 : hall_edition.decode_record no_desk (replicate 65535 0x01 ++ (0x05 ∷ [])) 65535 ≡ refusal 5 15 65536
unfolding decode_record decode_number
offset_65536 = refl

-- ---- Whole lines: no bytes, and bytes of which the last is a newline (10); not a digit alone or after one.
pub whole_lines : WholeLines [] × WholeLines (10 ∷ []) × WholeLines (49 ∷ 10 ∷ [])
whole_lines = (inl refl, inr ([], refl), inr (49 ∷ [], refl))

-- what the last byte is
last_newline : (bytes : List ℕ) (n : ℕ) → length bytes ≡ n + 1 → WholeLines bytes → drop n bytes ≡ 10 ∷ []
last_newline bytes n long =
    ⊎_elim (λ none. absurd (omega (arith, long, ap length none)))
    (λ whole.
    let before : length whole.0 ≡ n = omega (arith, long, ap length whole.1, length-append whole.0 (10 ∷ [])) in
    ap (λ (k : ℕ). drop k bytes) (sym before) ∙ ap (drop (length whole.0)) whole.1 ∙ drop-append_seam whole.0 (10 ∷ []))

pub no_whole_lines : (WholeLines (49 ∷ []) → ⊥) × (WholeLines (10 ∷ 49 ∷ []) → ⊥)
no_whole_lines = (
  λ whole. (let z : ◌≡◌ {A = ℕ} 49 10 = cc (last_newline (49 ∷ []) 0 refl whole) in omega arith),
  λ whole. (let z : ◌≡◌ {A = ℕ} 49 10 = cc (last_newline (10 ∷ 49 ∷ []) 1 refl whole) in omega arith),
)

-- ---- Numbers that fill bytes: `81 02` and `01` fill three, each alone its own, and none fills none.
abbrev two_numbers : List ℕ
two_numbers = 0x81 ∷ 0x02 ∷ 0x01 ∷ 0x80 ∷ []

pub numbers-fill :
    NumbersFill (decode_number barred) two_numbers 2 0 3
    × NumbersFill (decode_number barred) two_numbers 1 0 2
    × NumbersFill (decode_number barred) two_numbers 1 2 3
    × NumbersFill (decode_number barred) two_numbers 0 3 3
unfolding decode_number
numbers-fill = (
  record { value = 257; next = 2; read = refl; rest = record { value = 1; next = 3; read = refl; rest = refl } },
  record { value = 257; next = 2; read = refl; rest = refl },
  record { value = 1; next = 3; read = refl; rest = refl },
  refl,
)

not_parsed : {reason : Refusal} {value next : ℕ} → ◌≡◌ {A = Parsed ℕ} (refused reason) (parsed value next) → ⊥
not_parsed e = let z : ◌≡◌ {A = ℕ} 0 1 = cc in omega arith

-- One number fills neither three bytes nor one; from `02` on, one fills one byte, and not two; the byte `80` is no number; no numbers fill no
-- bytes, and not one.
pub numbers-do-not-fill :
    (NumbersFill (decode_number barred) two_numbers 1 0 3 → ⊥)
    × (NumbersFill (decode_number barred) two_numbers 1 0 1 → ⊥)
    × (NumbersFill (decode_number barred) two_numbers 1 1 3 → ⊥)
    × (NumbersFill (decode_number barred) two_numbers 1 3 4 → ⊥)
    × (NumbersFill (decode_number barred) two_numbers 0 3 4 → ⊥)
unfolding decode_number
numbers-do-not-fill = (
  λ fill. (let z : ◌≡◌ {A = ℕ} 2 3 = cc (fill.read, fill.rest) in omega arith),
  λ fill. (let z : ◌≡◌ {A = ℕ} 2 1 = cc (fill.read, fill.rest) in omega arith),
  λ fill. (let z : ◌≡◌ {A = ℕ} 2 3 = cc (fill.read, fill.rest) in omega arith),
  λ fill. not_parsed fill.read,
  λ same. omega (arith, same),
)

-- ---- The byte of a refused number: P is 1, and c starts at offset 1 and does not end.
abbrev pub cut_screens : List ℕ
cut_screens = 0x01 ∷ 0x80 ∷ 0x80 ∷ []

pub shows_byte : ShowsByte hall_format cut_screens 0 15 1
unfolding decode_number
shows_byte = record { before = record { count = 1; numbers = record { value = 1; next = 1; read = refl; rest = refl } }; limit = 65535; limited = inl refl; refuses = refl }

-- numbers fill its first byte at most
fill_from_1 : (count next : ℕ) → NumbersFill (decode_number barred) cut_screens count 1 next → next ≤ 1
unfolding decode_number
fill_from_1 zero next same = omega (arith, same)
fill_from_1 (suc count) next fill = absurd (not_parsed fill.read)

fill_at_most_1 : (count next : ℕ) → NumbersFill (decode_number barred) cut_screens count 0 next → next ≤ 1
unfolding decode_number
fill_at_most_1 zero next same = omega (arith, same)
fill_at_most_1 (suc count) next fill =
    let next_is : fill.next ≡ 1 = cc fill.read in
    fill_from_1 count next (subst (λ (n : ℕ). NumbersFill (decode_number barred) cut_screens count n next) next_is fill.rest)

-- Not the last byte of that number, where a number is refused with 15 too; nor the end of the sheet, where one is missing; nor the byte of P; and
-- not with 16.
pub not-the-byte :
    (ShowsByte hall_format cut_screens 0 15 2 → ⊥)
    × (ShowsByte hall_format cut_screens 0 15 3 → ⊥)
    × (ShowsByte hall_format cut_screens 0 15 0 → ⊥)
    × (ShowsByte hall_format cut_screens 0 16 1 → ⊥)
unfolding decode_number
not-the-byte = (
  λ byte. (let z = fill_at_most_1 byte.before.count 2 byte.before.numbers in omega (arith, z)),
  λ byte. (let z = fill_at_most_1 byte.before.count 3 byte.before.numbers in omega (arith, z)),
  λ byte. (
      let limit : byte.limit ≡ 65535 = ⊎_elim (λ same. same) (λ same. same) byte.limited in
      not_parsed (sym byte.refuses ∙ ap (λ (n : ℕ). decode_number barred n cut_screens 0) limit)
      ),
  λ byte. (
      let same : refusal_of 0 15 1 ≡ refusal_of 0 16 1 = cc byte.refuses in
      let z : ◌≡◌ {A = ℕ} 15 16 = ap (λ (reason : Refusal). reason.number) same in
      omega arith
      ),
)

-- The limit is 65,535 or that of a session: 65,536 is refused in both formats, and 1,000 where sessions are at most 999.
pub limits-of-numbers :
    ShowsByte hall_format (0x80 ∷ 0x80 ∷ 0x04 ∷ []) 0 16 0
    × ShowsByte training_format (0x80 ∷ 0x80 ∷ 0x04 ∷ []) 0 16 0
    × ShowsByte training_format (0xE8 ∷ 0x07 ∷ []) 0 16 0
unfolding decode_number
limits-of-numbers = (
  record { before = record { count = 0; numbers = refl }; limit = 65535; limited = inr refl; refuses = refl },
  record { before = record { count = 0; numbers = refl }; limit = 65535; limited = inl refl; refuses = refl },
  record { before = record { count = 0; numbers = refl }; limit = 999; limited = inr refl; refuses = refl },
)

-- 1,000 is not refused in the hall's format, and 1 not even in the training room's.
pub no-other-limits :
    (ShowsByte hall_format (0xE8 ∷ 0x07 ∷ []) 0 16 0 → ⊥)
    × (ShowsByte training_format (0x01 ∷ []) 0 16 0 → ⊥)
unfolding decode_number
no-other-limits = (
  λ byte. (
      let limit : byte.limit ≡ 65535 = ⊎_elim (λ same. same) (λ same. same) byte.limited in
      not_parsed (sym byte.refuses ∙ ap (λ (n : ℕ). decode_number barred n (0xE8 ∷ 0x07 ∷ []) 0) limit)
      ),
  λ byte.
      ⊎_elim (λ limit. not_parsed (sym byte.refuses ∙ ap (λ (n : ℕ). decode_number barred n (0x01 ∷ []) 0) limit))
      (λ limit. not_parsed (sym byte.refuses ∙ ap (λ (n : ℕ). decode_number barred n (0x01 ∷ []) 0) limit))
      byte.limited,
)
