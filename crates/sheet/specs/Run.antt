-- What a record did to a table that was lent as bytes, against the rules on its words.
use Rattle.std.specs.Prelude.{ℕ, List}
use Rattle.rules.specs.Bytes.{words_of_bytes}
use Rattle.rules.specs.Hall.{Limits}
use Rattle.board.specs.Results.{Matches}
use Rattle.reply.specs.Answer.{Reply}
use Rattle.sheet_rules.specs.Run.{run_record}
use Rattle.sheet_rules.specs.Sheet.{Record}

abbrev pub Ran : Limits → Record → List ℕ → Reply → List ℕ → Type 0
Ran limits entry before = Matches (run_record limits (words_of_bytes before) entry) before
