-- `sheet::finish` meets its contract.
use native.Mathlib.Omega.{arith}
use Rattle.sheet_rules.specs.Tally.{tally_of}
use Rattle.sheet_rules.proofs.Laws.Longest.{end_length}
use Rattle.sheet.proofs.finish.Goals as goal

pub put_end-requires : goal.put_end-requires
put_end-requires c = omega (arith, end_length (tally_of c.from.result c.from-2.result c.from-3.result), c.requires)
