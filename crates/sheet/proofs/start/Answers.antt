-- `sheet::start` meets its contract.
use native.Mathlib.Omega.{arith}
use Rattle.limits.specs.Room.{limits_of}
use Rattle.sheet_rules.proofs.Laws.Longest.{line-length}
use Rattle.sheet.proofs.StartLaws.{lent_unsound, started_opened, started_stopped}
use Rattle.sheet.proofs.start.Goals as goal

pub put_line-requires : goal.put_line-requires
put_line-requires c = omega (arith, line-length 0 0 0 0, c.requires.1)

pub returns-in-Err-clause-started : goal.returns-in-Err-clause-started
returns-in-Err-clause-started c = started_stopped c.in-Err.ensures.0 c.in-Err.ensures.1 c.stop.ensures

pub returns-in-Ok-clause-started : goal.returns-in-Ok-clause-started
returns-in-Ok-clause-started c = started_opened c.in-Ok.ensures c.put_line.ensures

pub returns-in-Err-clause-unopened : goal.returns-in-Err-clause-unopened
returns-in-Err-clause-unopened c = lent_unsound (limits_of c.args.edition.format.limits) c.in-Err.ensures.1
