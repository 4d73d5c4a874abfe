-- How many bytes were handed over for the sheet on standard input.
use Rattle.std.specs.Prelude.{ℕ, ◌≡◌, Bool, false, List, ◌⊎◌, Option, length}
use Rattle.program.specs.Outcome.{WritesKnown}
use Rattle.sheet_rules.specs.Rewriting.{rewrite}
use Rattle.sheet_rules.specs.Sheet.{Edition}

-- Those of some sheet's output.
abbrev pub OfSheet : Edition → Edition → ℕ → Type 0
OfSheet from to bytes = (sheet : List ℕ) × (bytes ≡ length (rewrite from to sheet))

-- Those of its output, whichever sheet it was; or none, because it could not be read, and then the output is not complete.
abbrev pub OfInput : Edition → Edition → Bool → ℕ → Type 0
OfInput from to complete bytes = ((complete ≡ false) × (bytes ≡ 0)) ⊎ OfSheet from to bytes

-- The output holds all that is to be written for a sheet: for all of the input, if its bytes are known.
abbrev pub RewritesKnown : Edition → Edition → Option (List ℕ) → Option (List ℕ) → Option (List ℕ) → Type 0
RewritesKnown from to = WritesKnown (rewrite from to)
