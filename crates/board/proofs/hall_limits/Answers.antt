-- `board::hall_limits` meets its contract.
use Rattle.std.proofs.Common.{refl}
use Rattle.board.proofs.hall_limits.Goals as goal

pub returns : goal.returns
returns c = refl
