-- `rewriter::put_records` meets its contract.
use native.Mathlib.Omega.{arith}
use mathlib.Core.Path.{sym, ap, ◌∙◌}
use Rattle.reader.specs.Results.{carried_of, edition_of, record_of, record_result}
use Rattle.reader.proofs.Laws.Editions.{edition_lawful}
use Rattle.rewriter.proofs.RecordLaws.{WasRead, building_first, building_next, record_past}
use Rattle.rewriter.proofs.put_records.Goals as goal
use Rattle.rewriter.proofs.put_records.Goals.{After-put_unless_long}

-- the record that was read
record_read : (c : After-put_unless_long) → WasRead (edition_of c.args.from) (edition_of c.args.to) c.args.sheet.now (carried_of c.loop-offset.carried) c.loop-offset.offset (record_of c.in_ok-entry.entry) c.in_ok-entry.next
record_read c = record { read = sym c.read_record.ensures ∙ ap record_result c.in_ok-entry.was }

pub loop-offset-init : goal.loop-offset-init
loop-offset-init c = building_first _ _ _ _ _

pub loop-offset-smaller : goal.loop-offset-smaller
loop-offset-smaller c = omega (arith, c.loop-offset-test.true, record_past (edition_lawful c.args.from (omega arith)) (record_read (goal.at.loop-offset-smaller c).After-put_unless_long))

pub loop-offset-preserved : goal.loop-offset-preserved
loop-offset-preserved c =
    building_next (edition_lawful c.args.from (omega arith)) c.loop-offset.invariant c.loop-offset-test.true
    (record_read (goal.at.loop-offset-preserved c).After-put_unless_long) c.put_unless_long.ensures
