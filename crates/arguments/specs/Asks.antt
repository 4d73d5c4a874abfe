-- What a command line asks for: how many arguments it has, with the program's name, and the first after the name.
use Rattle.std.specs.Prelude.{ℕ, ◌≤◌, ◌<◌, ◌≡◌, List, [], ◌∷◌}
use Rattle.arguments.specs.declared.Request.{Request}
use Rattle.arguments.specs.declared.Request.TheVariants.{Help, Run, Unknown}

-- The only argument is `--help`.
pub record AsksHelp (arguments : ℕ) (first : List ℕ) : Type 0 where
  pub one : arguments ≡ 2
  pub is_help : first ≡ 45 ∷ 45 ∷ 104 ∷ 101 ∷ 108 ∷ 112 ∷ []

-- For any arguments just one of the three holds.
abbrev pub Asks : Request → ℕ → List ℕ → Type 0
Asks Run arguments first = arguments < 2
Asks Help arguments first = AsksHelp arguments first
Asks Unknown arguments first = (2 ≤ arguments) × (AsksHelp arguments first → ⊥)
