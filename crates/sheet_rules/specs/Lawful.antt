-- What every edition must satisfy: it reads back what it writes; what it reads has at least one byte, is no shorter than what is written for
-- it, and can be written. And what makes an edition exact: it reads nothing else.
use Rattle.std.specs.Prelude.{ℕ, ◌+◌, ◌≤◌, ◌<◌, ◌≡◌, true, List, ◌++◌, length, take, drop}
use Rattle.rules.specs.Bytes.{IsBytes}
use Rattle.rules.specs.Hall.{Hall}
use Rattle.rules.specs.Numbers.{Parsed, Refusal, max_number, parsed, refusal_of, refused}
use Rattle.sheet_rules.specs.Edition1.{NumberReader, encode_number}
use Rattle.sheet_rules.specs.Offsets.{refuses_number}
use Rattle.sheet_rules.specs.Sheet.{Carried, Edition, GoodRecord, Record, is_code, last_desk, no_desk, opening_number}

-- A sheet contains these bytes, from one offset up to another.
pub record Stands (bytes sheet : List ℕ) (at next : ℕ) : Type 0 where
  pub content : drop at sheet ≡ bytes ++ drop next sheet
  pub end : next ≡ at + length bytes

-- A parser finds a value wherever a sheet contains its bytes.
abbrev pub ReadsBack : {A : Type 0} → (List ℕ → ℕ → Parsed A) → List ℕ → A → Type 0
ReadsBack parser bytes value = (sheet : List ℕ) (at next : ℕ) → Stands bytes sheet at next → parser sheet at ≡ parsed value next

-- A parser consumed at least one byte, and no byte past the end of the sheet.
pub record Moved (sheet : List ℕ) (at next : ℕ) : Type 0 where
  pub past : at < next
  pub inside : next ≤ length sheet

-- A desk that is carried over is at most 65,535, as every number of a sheet.
abbrev pub CarriedHolds : Carried → Type 0
CarriedHolds no_desk = Unit {0}
CarriedHolds (last_desk desk) = desk ≤ max_number

pub record Lawful (edition : Edition) : Type 0 where
  -- A header that opens a hall is read back.
  pub header_read_back : (hall : Hall) → opening_number edition.limits hall ≡ 0 → ReadsBack edition.decode_header (edition.encode_header hall) hall
  -- A header that is read has at least one byte.
  pub header_moves : (sheet : List ℕ) (at : ℕ) (hall : Hall) (next : ℕ) → edition.decode_header sheet at ≡ parsed hall next → Moved sheet at next
  -- What is written for it has no more bytes.
  pub header_no_longer : (sheet : List ℕ) (at : ℕ) (hall : Hall) (next : ℕ) → edition.decode_header sheet at ≡ parsed hall next
      → at + length (edition.encode_header hall) ≤ next
  -- A good record is read back, if the same was carried over when it was written.
  pub record_read_back : (carried : Carried) (entry : Record) → GoodRecord edition.limits.sessions entry
      → ReadsBack (edition.decode_record carried) (edition.encode_record carried entry) entry
  -- A record that is read has at least one byte,
  pub record_moves : (carried : Carried) (sheet : List ℕ) (at : ℕ) (entry : Record) (next : ℕ)
      → edition.decode_record carried sheet at ≡ parsed entry next
      → Moved sheet at next
  -- what is written for it has no more bytes,
  pub record_no_longer : (carried : Carried) (sheet : List ℕ) (at : ℕ) (entry : Record) (next : ℕ)
      → edition.decode_record carried sheet at ≡ parsed entry next
      → at + length (edition.encode_record carried entry) ≤ next
  -- it has the code of a step,
  pub record_code : (carried : Carried) (sheet : List ℕ) (at : ℕ) (entry : Record) (next : ℕ)
      → edition.decode_record carried sheet at ≡ parsed entry next
      → is_code entry.code ≡ true
  -- and it is good, if the desk that was carried over is at most 65,535.
  pub record_good : (carried : Carried) (sheet : List ℕ) (at : ℕ) (entry : Record) (next : ℕ) → CarriedHolds carried
      → edition.decode_record carried sheet at ≡ parsed entry next
      → GoodRecord edition.limits.sessions entry

-- An edition is exact if it reads nothing but what it writes, in a sheet that consists of bytes.
pub record Exact (edition : Edition) : Type 0 where
  pub header_exact : (sheet : List ℕ) (at : ℕ) (hall : Hall) (next : ℕ) → IsBytes sheet → edition.decode_header sheet at ≡ parsed hall next
      → Stands (edition.encode_header hall) sheet at next
  pub record_exact : (carried : Carried) (sheet : List ℕ) (at : ℕ) (entry : Record) (next : ℕ) → IsBytes sheet
      → edition.decode_record carried sheet at ≡ parsed entry next
      → Stands (edition.encode_record carried entry) sheet at next

-- The refusal of a number that is read at this offset.
pub record RefusedAt (at : ℕ) (reason : Refusal) : Type 0 where
  pub carries : reason ≡ refusal_of 0 reason.number at
  pub refuses : refuses_number reason.number ≡ true

-- What both editions require of a reader of numbers: it reads back the shortest form; what it reads has at least one byte, no fewer bytes than
-- the shortest form, and is at most the limit. What it reads depends neither on the bytes after the number nor on a larger limit. A refusal
-- carries the offset at which the number was read.
pub record LawfulNumbers (read_number : NumberReader) : Type 0 where
  pub read_back : (limit value : ℕ) → value ≤ limit → limit ≤ max_number → ReadsBack (read_number limit) (encode_number value) value
  pub small : (limit : ℕ) (sheet : List ℕ) (at value next : ℕ) → read_number limit sheet at ≡ parsed value next → value ≤ limit
  pub moves : (limit : ℕ) (sheet : List ℕ) (at value next : ℕ) → read_number limit sheet at ≡ parsed value next → Moved sheet at next
  pub no_longer : (limit : ℕ) (sheet : List ℕ) (at value next : ℕ) → read_number limit sheet at ≡ parsed value next
      → at + length (encode_number value) ≤ next
  pub bytes_after : (limit : ℕ) (sheet other : List ℕ) (at value next : ℕ) → read_number limit sheet at ≡ parsed value next
      → take next other ≡ take next sheet
      → read_number limit other at ≡ parsed value next
  pub larger_limit : (limit larger : ℕ) (sheet : List ℕ) (at value next : ℕ) → read_number limit sheet at ≡ parsed value next → limit ≤ larger
      → read_number larger sheet at ≡ parsed value next
  pub own_offset : (limit : ℕ) (sheet : List ℕ) (at : ℕ) (reason : Refusal) → read_number limit sheet at ≡ refused reason
      → RefusedAt at reason

-- A reader of numbers is exact if it reads nothing but the shortest form.
abbrev pub ExactNumbers : NumberReader → Type 0
ExactNumbers read_number = (limit : ℕ) (sheet : List ℕ) (at value next : ℕ) → IsBytes sheet → read_number limit sheet at ≡ parsed value next
    → Stands (encode_number value) sheet at next
