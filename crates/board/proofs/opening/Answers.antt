-- `board::opening` meets its contract: in each branch the answers so far choose the law.
use Rattle.std.proofs.Common.{arith}
use Rattle.board.proofs.OpenLaws.{bad_desks, bad_positions, bad_screens, opens, over_limits, table_short}
use Rattle.board.proofs.SoundLaws.{said_false, said_true}
use Rattle.board.proofs.opening.Goals as goal
use Rattle.board.proofs.opening.Given.{Over}
use Rattle.board.specs.Kind.{Laws}

laws : (g : Over) → Laws g.K.Records.kind
laws g = g.met.K.Records.laws

pub returns-then-not-in_range : goal.returns-then-not-in_range
returns-then-not-in_range g c = λ t long. bad_desks (laws g) _ _ t (search said_false)

pub returns-then-not-in_range-2 : goal.returns-then-not-in_range-2
returns-then-not-in_range-2 g c = λ t long. bad_screens (laws g) _ _ t (search said_true) (search said_false)

pub returns-then-not-in_range-3 : goal.returns-then-not-in_range-3
returns-then-not-in_range-3 g c = λ t long. bad_positions (laws g) _ _ t (search said_true) (search said_true) (search said_false)

pub returns-then-not-within : goal.returns-then-not-within
returns-then-not-within g c = λ t long. over_limits (laws g) _ _ t (search said_true) (search said_true) (search said_true) (search said_false)

pub returns-then-words-need : goal.returns-then-words-need
returns-then-words-need g c = λ t long. table_short (laws g) _ _ t (search said_true) (search said_true) (search said_true) (search said_true) (omega arith)

pub returns : goal.returns
returns g c = λ t long. opens (laws g) _ _ t (search said_true) (search said_true) (search said_true) (search said_true) (omega arith)
