-- Writing a sheet anew, in another edition. Document 02, "Padded numbers go": "Old sheets in the archive are kept, and a small program rewrites
-- each in shortest form, with the same meaning record by record, refusing what the old reader refused." And "Edition 2 of the day sheet, and a
-- converter": "Write reader, writer and a converter each way".
use Rattle.std.specs.Prelude.{ℕ, ◌≤◌, ◌<◌, ◌≡◌, cond, List, [], ◌∷◌, ◌⊎◌, length, leb}
use Rattle.std.proofs.Math.Option.{Option, none, some}
use Rattle.rules.specs.Hall.{Hall}
use Rattle.rules.specs.Numbers.{Refusal}
use Rattle.sheet_rules.specs.Edition1.{archive_edition, hall_edition}
use Rattle.sheet_rules.specs.Edition2.{hall_edition2}
use Rattle.sheet_rules.specs.Lines.{spaced}
use Rattle.sheet_rules.specs.Offsets.{ending, ending_in}
use Rattle.sheet_rules.specs.Sheet.{Accepted, Edition, Meaning, Reading, Record, Records, complete, encode_sheet, max_bytes, more, opened, reading, stop, unopened}

-- "A refused sheet, here, in Job 4's converters and in Job 13, gives only a line: the number, a space, its offset or 0."
unfoldable pub refused_sheet_line : ℕ → ℕ → List ℕ
refused_sheet_line number offset = spaced (number ∷ offset ∷ [])

-- The records that were read.
abbrev pub entries_in : Records → List Record
entries_in complete = []
entries_in (stop reason) = []
entries_in (more entry rest) = entry ∷ entries_in rest

abbrev pub meaning_of : Hall → Records → Meaning
meaning_of hall records = record { header = hall; records = entries_in records }

-- "an output over 65,536 bytes is 18"
abbrev pub unless_too_long : List ℕ → List ℕ
unless_too_long sheet = cond (leb (length sheet) max_bytes) sheet (refused_sheet_line 18 0)

-- "Converting refuses what ends a reading": a meaning is written, unless something ended the reading.
abbrev pub write_unless : Edition → Option Refusal → Meaning → List ℕ
write_unless to none meaning = unless_too_long (encode_sheet to meaning)
write_unless to (some reason) meaning = refused_sheet_line reason.number reason.offset

abbrev pub write_reading : Edition → Reading → List ℕ
write_reading to (unopened reason) = refused_sheet_line reason.number reason.offset
write_reading to (opened hall records) = write_unless to (ending_in records) (meaning_of hall records)

-- A sheet is read in one edition and written in another.
unfoldable pub rewrite : Edition → Edition → List ℕ → List ℕ
rewrite from to sheet = write_reading to (reading from sheet)

-- "a small program rewrites each in shortest form"
abbrev pub shorten : List ℕ → List ℕ
shorten sheet = rewrite archive_edition hall_edition sheet

-- "a converter each way"
abbrev pub to_edition2 : List ℕ → List ℕ
to_edition2 sheet = rewrite hall_edition hall_edition2 sheet

abbrev pub to_edition1 : List ℕ → List ℕ
to_edition1 sheet = rewrite hall_edition2 hall_edition sheet

-- ---- What a program's output is to be.

-- "each keeps the meaning": the sheet is accepted, and what is written for its meaning is accepted with the same meaning.
pub record Rewritten (from to : Edition) (sheet output : List ℕ) : Type 0 where
  pub meaning : Meaning
  pub was_accepted_lem : Accepted from sheet meaning
  pub written : output ≡ encode_sheet to meaning
  pub is_accepted_lem : Accepted to output meaning

-- "an output over 65,536 bytes is 18": the sheet is accepted, and the line is written.
pub record TooLong (from to : Edition) (sheet output : List ℕ) : Type 0 where
  pub meaning : Meaning
  pub was_accepted_lem : Accepted from sheet meaning
  pub over : 65536 < length (encode_sheet to meaning)
  pub line : output ≡ refused_sheet_line 18 0

-- "refuses what ends a reading", with the line
pub record RefusedSheet (from : Edition) (sheet output : List ℕ) : Type 0 where
  pub reason : Refusal
  pub ends : ending (reading from sheet) ≡ some reason
  pub line : output ≡ refused_sheet_line reason.number reason.offset

abbrev pub RewrittenOrRefused : Edition → Edition → List ℕ → List ℕ → Type 0
RewrittenOrRefused from to sheet output = Rewritten from to sheet output ⊎ (TooLong from to sheet output ⊎ RefusedSheet from sheet output)

-- "rewrites each in shortest form, with the same meaning record by record": the new reader accepts it, and it is no longer than it was.
pub record Shortened (sheet output : List ℕ) : Type 0 where
  pub rewritten : Rewritten archive_edition hall_edition sheet output
  pub no_longer : length output ≤ length sheet

-- "refusing what the old reader refused"
abbrev pub ShortenedOrRefused : List ℕ → List ℕ → Type 0
ShortenedOrRefused sheet output = Shortened sheet output ⊎ RefusedSheet archive_edition sheet output
