-- The codes of the five steps. Document 01, "The day sheet": "take 1, drop 2, swap 3, retire 4, collect 5".
use Rattle.std.specs.Prelude.{◌≡◌, ℕ, Result, Ok, Err, false, ◌&&◌, nat_le}
use Rattle.reply.specs.declared.Reason.{Reason}
use Rattle.reply.specs.declared.Reason.TheVariants.{NoCode}
use Rattle.codes.specs.declared.Code.{Code}
use Rattle.codes.specs.declared.Code.TheVariants.{Collect, Drop, Retire, Swap, Take}

abbrev pub code_of : Code → ℕ
code_of Take = 1
code_of Drop = 2
code_of Swap = 3
code_of Retire = 4
code_of Collect = 5

-- A number from 1 to 5 is read as the step with that code; any other is refused with 17.
abbrev pub Decodes : ℕ → Result Code Reason → Type 0
Decodes code (Ok step) = code_of step ≡ code
Decodes code (Err reason) = (reason ≡ NoCode) × (nat_le 1 code && nat_le code 5 ≡ false)
