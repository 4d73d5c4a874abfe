-- `marks::ones` meets its contract.
use Rattle.std.proofs.Common.{arith}
use Rattle.marks.proofs.SlotLaws.{ones_of_digits}
use Rattle.marks.proofs.ones.Goals as goal

pub returns : goal.returns
returns c = ones_of_digits c.args.m.now c.mark_bits.result (λ i. (c.type_inv.m i).fits) (omega arith) c.mark_bits.ensures
