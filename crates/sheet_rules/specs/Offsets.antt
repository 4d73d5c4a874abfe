-- The byte that a refusal shows. Document 02, "Show the byte": "When a number gives 15 or 16, the number reader's reply must carry the offset
-- of that number's first byte, and the session column prints it where demand 1 has 0."
use Rattle.std.specs.Prelude.{ℕ, zero, suc, ◌≡◌, Bool, true, false, ◌||◌, List, [], ◌∷◌, ◌++◌, ◌⊎◌, eqb}
use Rattle.std.proofs.Math.Option.{Option, none, some}
use Rattle.rules.specs.Numbers.{Parsed, Refusal, max_number, parsed, refusal, refused}
use Rattle.sheet_rules.specs.Edition1.{Format, NumberReader}
use Rattle.sheet_rules.specs.Lines.{end_line, line}
use Rattle.sheet_rules.specs.Sheet.{Carried, Edition, Reading, Records, complete, more, opened, stop, unopened}
use Rattle.sheet_rules.specs.Tally.{Tally}

-- ---- What ends a reading, if anything does.
abbrev pub ending_in : Records → Option Refusal
ending_in complete = none
ending_in (stop reason) = some reason
ending_in (more entry rest) = ending_in rest

abbrev pub ending : Reading → Option Refusal
ending (unopened reason) = some reason
ending (opened hall records) = ending_in records

-- "When a number gives 15 or 16"; and "Padded numbers go": "19 for a padded number, [..] with its offset as in Job 2"
abbrev pub refuses_number : ℕ → Bool
refuses_number number = eqb number 15 || (eqb number 16 || eqb number 19)

-- Bytes that are whole lines: there are none, or the last is a newline.
abbrev pub WholeLines : List ℕ → Type 0
WholeLines bytes = (bytes ≡ []) ⊎ ((start : List ℕ) × (bytes ≡ start ++ (10 ∷ [])))

-- "the session column prints it": the last line but one is that of the refusal.
pub record PrintsRefusal (text : List ℕ) (reason : Refusal) : Type 0 where
  pub before : List ℕ
  pub whole : WholeLines before
  pub index : ℕ
  pub tally : Tally
  pub printed : text ≡ before ++ (line index reason.code reason.number reason.offset ++ end_line tally)

-- ---- Where the refused number is.

-- A number is read at an offset, and the rest holds of the offset after it.
pub record NumberThen (read_number : NumberReader) (sheet : List ℕ) (at : ℕ) (Rest : ℕ → Type 0) : Type 0 where
  pub value : ℕ
  pub next : ℕ
  pub read : read_number max_number sheet at ≡ parsed value next
  pub rest : Rest next

-- So many numbers are read one after another, and they fill the bytes from one offset up to another.
abbrev pub NumbersFill : NumberReader → List ℕ → ℕ → ℕ → ℕ → Type 0
NumbersFill read_number sheet zero at end = at ≡ end
NumbersFill read_number sheet (suc count) at end = NumberThen read_number sheet at (λ next. NumbersFill read_number sheet count next end)

-- Some count of numbers fills them.
pub record NumbersBetween (format : Format) (sheet : List ℕ) (at end : ℕ) : Type 0 where
  pub count : ℕ
  pub numbers : NumbersFill format.read_number sheet count at end

-- "the offset of that number's first byte": numbers fill the bytes before it, and the number that starts there is refused with just this reply
-- number. The limit is that of a session or of any other number.
pub record ShowsByte (format : Format) (sheet : List ℕ) (at number offset : ℕ) : Type 0 where
  pub before : NumbersBetween format sheet at offset
  pub limit : ℕ
  pub limited : (limit ≡ max_number) ⊎ (limit ≡ format.limits.sessions)
  pub refuses : format.read_number limit sheet offset ≡ refusal 0 number offset

-- A refusal in a sheet that is read from an offset on: 15, 16 and 19 show the byte of a number, and no other refusal shows an offset.
pub record Located (format : Format) (sheet : List ℕ) (at : ℕ) (reason : Refusal) : Type 0 where
  pub shows : refuses_number reason.number ≡ true → ShowsByte format sheet at reason.number reason.offset
  pub no_offset : refuses_number reason.number ≡ false → reason.offset ≡ 0

-- ---- Parsers that read numbers and nothing else.

-- The result of such a parser: a value, and numbers fill the bytes up to the next offset; or a refusal that is located.
abbrev pub OfNumbers : {A : Type 0} → Format → List ℕ → ℕ → Parsed A → Type 0
OfNumbers format sheet at (parsed value next) = NumbersBetween format sheet at next
OfNumbers format sheet at (refused reason) = Located format sheet at reason

-- An edition whose headers and records consist of numbers.
pub record EditionOfNumbers (format : Format) (edition : Edition) : Type 0 where
  pub header_of_numbers : (sheet : List ℕ) (at : ℕ) → OfNumbers format sheet at (edition.decode_header sheet at)
  pub record_of_numbers : (carried : Carried) (sheet : List ℕ) (at : ℕ) → OfNumbers format sheet at (edition.decode_record carried sheet at)
