-- `marks::marks_sound` meets its contract.
use Rattle.std.proofs.Common.{leb, ap, sym, arith}
use Rattle.std.proofs.lemmas.Bool.{le-leb}
use Rattle.std.proofs.lemmas.Nat.{ones-le}
use Rattle.rules.specs.Bytes.{words_of_bytes}
use Rattle.marks.specs.Marks.{ones_in}
use Rattle.marks.proofs.SlotLaws.{ones_of_digits}
use Rattle.marks.proofs.WordLaws.{none_above}
use Rattle.marks.proofs.marks_sound.Goals as goal

pub returns-then-bits-eq0 : goal.returns-then-bits-eq0
returns-then-bits-eq0 c =
    let zero = c.if-bits-eq0.true in
    let bits = c.mark_bits-bits in
    let count = ones_of_digits c.args.m.now bits.result (λ i. (c.type_inv.m i).fits) (omega arith) bits.ensures in
    rw (bits.ensures, none_above bits.result c.args.n zero, le-leb (ones_in (words_of_bytes c.args.m.now)) c.args.k (omega (arith, count, ones-le 0 bits.result)))

pub returns-then-unmarked_from : goal.returns-then-unmarked_from
returns-then-unmarked_from c =
    let bits = c.mark_bits-bits in
    rw (bits.ensures, sym c.unmarked_from.ensures, c.if-unmarked_from.true)
    (ap (λ n. leb n c.args.k) (ones_of_digits c.args.m.now bits.result (λ i. (c.type_inv.m i).fits) (omega arith) bits.ensures))

pub returns-else-unmarked_from : goal.returns-else-unmarked_from
returns-else-unmarked_from c = rw (c.mark_bits-bits.ensures, sym c.unmarked_from.ensures, c.if-unmarked_from.false)
