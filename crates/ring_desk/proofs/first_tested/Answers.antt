-- `ring_desk::first_tested` meets its contract.
use native.Mathlib.Omega.{arith}
use Rattle.rules.specs.Bytes.{words_of_bytes}
use Rattle.desk.proofs.LayoutLaws.{tested_fits}
use Rattle.ring_desk.specs.RingLaws.{ring_laws}
use Rattle.ring_desk.specs.RingRecord.{ring}
use Rattle.ring_desk.proofs.first_tested.Goals as goal

pub slot_after-requires : goal.slot_after-requires
slot_after-requires c = (
  c.requires.laid.reads.bounded,
  omega (arith, c.beginning.ensures, c.requires.laid.begins),
  omega (arith, c.count.ensures, tested_fits ring ring_laws c.args.s (words_of_bytes c.args.r.now) c.requires.laid),
)
