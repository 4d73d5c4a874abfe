-- What arguments ask for, computed: none, `--help`, `--help` and another, and an empty one.
use Rattle.std.specs.Prelude.{ℕ, refl, List, [], ◌∷◌, length}
use Rattle.std.proofs.Common.{arith, ap}
use Rattle.arguments.specs.Asks.{Asks}
use Rattle.arguments.specs.declared.Request.TheVariants.{Help, Run, Unknown}

abbrev help : List ℕ
help = 0x2D ∷ 0x2D ∷ 0x68 ∷ 0x65 ∷ 0x6C ∷ 0x70 ∷ []

pub not-asked : (Asks Run 2 help → ⊥) × (Asks Help 3 help → ⊥) × (Asks Help 2 [] → ⊥) × (Asks Unknown 2 help → ⊥) × (Asks Unknown 1 [] → ⊥)
not-asked = (
  λ run. omega (arith, run),
  λ both. omega (arith, both.one),
  λ none. omega (arith, ap length none.is_help),
  λ unknown. unknown.1 (record { one = refl; is_help = refl }),
  λ unknown. omega (arith, unknown.0),
)

pub asked : Asks Run 1 [] × Asks Help 2 help × Asks Unknown 3 help × Asks Unknown 2 []
asked = (omega arith, record { one = refl; is_help = refl }, (omega arith, λ both. omega (arith, both.one)), (omega arith, λ none. omega (arith, ap length none.is_help)))
