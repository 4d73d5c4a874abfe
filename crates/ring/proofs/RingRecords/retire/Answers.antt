-- `ring::RingRecords::retire` meets its contract: a sound record encodes a desk.
use Rattle.ring.proofs.RingRecordLaws.{ring_encoded}
use Rattle.ring.proofs.RingRecords.retire.Goals as goal

pub retire_ring-requires : goal.retire_ring-requires
retire_ring-requires c = (ring_encoded c.args.r.now c.requires (λ i. (c.slice_known-1.given i).fits), c.requires.long)

pub returns : goal.returns
returns c = let r = c.retire_ring.ensures in record { number = r.number; session = r.session; after = r.after }
