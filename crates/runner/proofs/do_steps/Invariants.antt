use Rattle.std.proofs.Common.{◌≡◌}
use Rattle.std.specs.Slice.Iter.{chunks_rest, chunks_size}
use Rattle.std.specs.Iterator.Adapters.{enumerate_count, enumerate_source}
use Rattle.limits.specs.Room.{limits_of}
use Rattle.runner.proofs.RunLaws.{Done, step_bytes_width}
use Rattle.runner.proofs.do_steps.Given as goal

-- the steps before those that the iterator has left are done
abbrev pub invariant-loop-i : goal.invariant-loop-i
invariant-loop-i l =
    let at = l.i-iterator in
    (goal.iterator-loop-i).can_next at
    × (goal.iterator-loop-i).is_finite at
    × (chunks_size (enumerate_source at) ≡ step_bytes_width)
    × (Done (limits_of l.limits) l.steps l.initial.replies l.initial.table (enumerate_count at) (chunks_rest (enumerate_source at)) l.replies l.table)
