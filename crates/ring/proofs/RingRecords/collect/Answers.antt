-- `ring::RingRecords::collect` meets its contract: a sound record encodes a desk, whose k is less than S.
use Rattle.std.proofs.Common.{arith}
use Rattle.rules.specs.Bytes.{words_of_bytes}
use Rattle.ring.specs.RingLaws.{ring_laws}
use Rattle.ring.proofs.RingRecordLaws.{ring_encoded}
use Rattle.ring.proofs.RingRecords.collect.Goals as goal

pub collect_ring-requires : goal.collect_ring-requires
collect_ring-requires c =
    let whole = c.requires.0 in
    let below = ring_laws.scanned-below c.args.s (words_of_bytes c.args.r.now) whole.some whole.passes in
    (ring_encoded c.args.r.now whole (λ i. (c.slice_known-1.given i).fits), whole.long, omega (arith, below, whole.bounded), c.requires.1, c.requires.2)
