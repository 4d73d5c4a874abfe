-- How much of a sheet's output was handed over. Document 01, "The day sheet": "The sheet program reads standard input and prints".
use Rattle.std.specs.Prelude.{ℕ, ◌≤◌, ◌≡◌, Bool, true, false, List, ◌++◌, ◌⊎◌, Option, IsNone, length, drop}
use Rattle.program.specs.Outcome.{WritesKnown}
use Rattle.rules.specs.Messages.{send}
use Rattle.rules.specs.Steps.{Call, end}
use Rattle.sheet.specs.Batch.{calls_of, remaining_calls, remaining_output, start_table}
use Rattle.sheet.specs.declared.State.{State}
use Rattle.sheet_rules.specs.Lines.{printed}
use Rattle.sheet_rules.specs.Sheet.{Edition, reading}

-- A state in the run of a sheet, or none after the last line: the remaining output is the whole output without its first so many bytes, and the table is the one after
-- the calls before the state.
pub record Reached (edition : Edition) (sheet : List ℕ) (bytes : ℕ) (state : Option State) (table : List ℕ) : Type 0 where
  pub within : bytes ≤ length (printed edition sheet)
  pub output : remaining_output edition sheet state table ≡ drop bytes (printed edition sheet)
  pub calls : List Call
  pub run : calls ++ remaining_calls edition sheet state ≡ calls_of (reading edition sheet)
  pub left : table ≡ end (send edition.limits) (start_table edition.limits (reading edition sheet)) calls

-- So many bytes of a sheet's output were handed over: at least one, and those before such a state, so whole lines. If complete, all of them
-- (`Whole.complete_output`).
pub record HandedOver (edition : Edition) (sheet : List ℕ) (complete : Bool) (bytes : ℕ) : Type 0 where
  pub some : 1 ≤ bytes
  pub state : Option State
  pub table : List ℕ
  pub reached : Reached edition sheet bytes state table
  pub finished : complete ≡ true → IsNone state

-- What was handed over of the sheet on standard input, whichever it was; or nothing, because it could not be read.
abbrev pub OfInput : Edition → Bool → ℕ → Type 0
OfInput edition complete bytes = ((complete ≡ false) × (bytes ≡ 0)) ⊎ ((sheet : List ℕ) × HandedOver edition sheet complete bytes)

-- The output holds all that the rules print for a sheet: for all of the input, if its bytes are known.
abbrev pub PrintsKnown : Edition → Option (List ℕ) → Option (List ℕ) → Option (List ℕ) → Type 0
PrintsKnown edition = WritesKnown (printed edition)
