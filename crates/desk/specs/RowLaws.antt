-- The first board's layout keeps the laws of layouts: a record reads as itself.
use Rattle.std.proofs.Common.{◌+◌, arith, ap, refl, sym, ◌∙◌}
use lib.ListN.{length-set, set, take}
use borrow.Rule.Slice.PartMut.{mid_len, same_len_mid}
use Rattle.desk.specs.Layout.{LayoutLaws, row, with_marks}

pub row_laws : LayoutLaws row
row_laws = record {
  wide = λ s. omega arith;
  known = λ s b r w h e. e.is;
  lies = λ s b w h l. let first = h in record { long = l; begins = omega arith; is = refl };
  head = λ s b r w e. ap (take 13) e.is;
  put_head = λ s b r w i v h e. record { long = length-set r i v ∙ e.long; begins = e.begins; is = ap (λ x. set x i v) e.is };
  put_marks = λ s b r w words l e. record { long = same_len_mid 5 8 r words (l ∙ sym (mid_len 5 13 r (omega (arith, e.long)))) ∙ e.long; begins = e.begins; is = ap (λ x. with_marks x words) e.is };
  slot_below = λ s b i h below. below;
  put_slot = λ s b r w i v h below e. record { long = length-set r (13 + i) v ∙ e.long; begins = e.begins; is = ap (λ x. set x (13 + i) v) e.is };
}
