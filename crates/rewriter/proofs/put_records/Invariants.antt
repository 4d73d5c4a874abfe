-- The loop of `rewriter::put_records`.
use Prim.Native.Nat.{◌-◌}
use lib.ListN.{length}
use Rattle.reader.specs.Results.{carried_of, edition_of}
use Rattle.rewriter.proofs.RecordLaws.{Building}
use Rattle.rewriter.proofs.put_records.Given as goal

abbrev pub invariant-loop-offset : goal.invariant-loop-offset
invariant-loop-offset l = Building (edition_of l.from) (edition_of l.to) l.sheet l.initial.out l.first l.offset (carried_of l.carried) l.out

abbrev pub decreases-loop-offset : goal.decreases-loop-offset
decreases-loop-offset l = length l.sheet - l.offset
