use Rattle.std.proofs.Common.{◌≡◌, ◌+◌, ◌-◌, ◌≤◌, true, drop}
use Rattle.rules.specs.Bytes.{words_of_bytes}
use Rattle.rules.specs.Lists.{chunks, every}
use Rattle.rules.specs.Table.{header_words}
use Rattle.board.proofs.sound_records.Given as goal

-- the records before d are sound
abbrev pub invariant-loop-d : goal.invariant-loop-d
invariant-loop-d g l = (l.d ≤ l.p) × (every (g.K.Records.kind.record_sound l.s) (chunks l.d (g.K.Records.kind.width l.s) (drop (header_words + l.l + l.s) (words_of_bytes l.t))) ≡ true)

abbrev pub decreases-loop-d : goal.decreases-loop-d
decreases-loop-d g l = l.p - l.d
