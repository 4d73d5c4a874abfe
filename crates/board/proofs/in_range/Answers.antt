-- `board::in_range` meets its contract.
use Rattle.std.proofs.Common.{le-leb}
use borrow.Author.Tests.{lt-leb}
use Rattle.board.proofs.in_range.Goals as goal

pub returns-then-x-ge1 : goal.returns-then-x-ge1
returns-then-x-ge1 c = rw (le-leb 1 c.args.n c.if-x-ge1.true)

pub returns-else-x-ge1 : goal.returns-else-x-ge1
returns-else-x-ge1 c = rw (lt-leb 1 c.args.n c.if-x-ge1.false)
