-- Which codes are a step's.
use Rattle.std.specs.Prelude.{◌≡◌, true}
use Rattle.std.proofs.Common.{refl}
use Rattle.sheet_rules.specs.Sheet.{is_code}
use Rattle.codes.specs.Code.{code_of}
use Rattle.codes.specs.declared.Code.{Code}
use Rattle.codes.specs.declared.Code.TheVariants.{Collect, Drop, Retire, Swap, Take}

pub step_is_code : (step : Code) → is_code (code_of step) ≡ true
step_is_code Take = refl
step_is_code Drop = refl
step_is_code Swap = refl
step_is_code Retire = refl
step_is_code Collect = refl
