-- The answer of an opening depends only on the number of words of the table, not on their content.
use Rattle.std.specs.Prelude.{◌≡◌, ℕ, List, length}
use Rattle.rules.specs.Hall.{Hall, Limits}
use Rattle.rules.specs.Steps.{Answer}
use Rattle.board.specs.Kind.{Kind}

abbrev pub OpeningAnswer : Kind → Limits → Hall → ℕ → Answer → Type 0
OpeningAnswer kind limits hall words answer = (t : List ℕ) → length t ≡ words → answer ≡ (kind.opens limits hall t).answer
