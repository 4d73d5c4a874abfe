-- `marks::unmarked_from` meets its contract.
use Rattle.std.proofs.Common.{arith}
use Rattle.marks.proofs.WordLaws.{unmarked}
use Rattle.marks.proofs.unmarked_from.Goals as goal

pub returns : goal.returns
returns c = unmarked c.args.bits c.args.n (omega arith)
