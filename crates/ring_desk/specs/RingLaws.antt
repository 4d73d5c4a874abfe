-- The ring's layout keeps the laws of layouts.
use Rattle.std.proofs.Common.{arith}
use Rattle.desk.specs.Layout.{LayoutLaws}
use Rattle.ring_desk.specs.RingRecord.{ring}
use Rattle.ring_desk.specs.RingReads.{head_same, reads_circular, reads_end, reads_head, reads_marks, reads_slot, slot_below}

pub ring_laws : LayoutLaws ring
ring_laws = record {
  wide = λ s. omega arith;
  known = λ s b r w h e. reads_end s b r w (omega (arith, h)) e;
  lies = λ s b w h long. reads_circular s b w long (omega (arith, h));
  head = head_same;
  put_head = reads_head;
  put_marks = λ s b r w words eight e. reads_marks s b r w words eight e;
  slot_below = λ s b i h below. slot_below s b i h (omega (arith, below));
  put_slot = reads_slot;
}
