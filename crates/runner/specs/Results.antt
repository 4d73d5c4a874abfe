-- What a run on bytes gives, from its reply and the two tables that it leaves.
use Rattle.std.specs.Prelude.{ℕ, List}
use Rattle.rules.specs.Runs.{Lent, lent_of}
use Rattle.rules.specs.Steps.{Result}
use Rattle.reply.specs.Answer.{Reply, answer_of}

abbrev pub lent_result : Reply → List ℕ → List ℕ → Result Lent
lent_result r replies table = record { answer = answer_of r; after = lent_of replies table }
