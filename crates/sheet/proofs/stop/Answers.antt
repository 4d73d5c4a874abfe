-- `sheet::stop` meets its contract.
use native.Mathlib.Omega.{arith}
use Rattle.buffer.proofs.Laws.Put.{put_on}
use Rattle.sheet_rules.proofs.Laws.Longest.{line-length}
use Rattle.sheet.proofs.stop.Goals as goal

pub put_line-requires : goal.put_line-requires
put_line-requires c = omega (arith, line-length c.args.index c.from.result c.from-2.result c.args.refusal.offset, c.requires)

pub finish-requires : goal.finish-requires
finish-requires c =
    let line = c.put_line.ensures in
    omega (arith, line-length c.args.index c.from.result c.from-2.result c.args.refusal.offset, c.requires, line.len, line.long)

pub returns : goal.returns
returns c = put_on (rw (c.from.ensures, c.from-2.ensures) at c.put_line.ensures) c.finish.ensures
