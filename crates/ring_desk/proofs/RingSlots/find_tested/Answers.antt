-- `ring_desk::Ring::find_tested` meets its contract.
use Prim.Native.Nat.{ℕ, ◌+◌, ◌*◌, ◌≤◌}
use native.Mathlib.Omega.{arith}
use mathlib.Core.List.{List}
use mathlib.Core.Path.{ap, ap₂, ◌∙◌}
use lib.ListN.{length, take}
use borrow.Rule.Slice.PartMut.{mid_len}
use Rattle.rules.specs.Bytes.{words_of_bytes}
use Rattle.rules.specs.Table.{list_offset, marks_offset}
use Rattle.marks.specs.Marks.{find_slot, marks}
use Rattle.words.proofs.Laws.{words-part}
use Rattle.desk.specs.Layout.{marks_of_record}
use Rattle.desk.proofs.LayoutLaws.{tested_fits}
use Rattle.ring_rules.specs.Ring.{rotate}
use Rattle.ring_desk.specs.RingLaws.{ring_laws}
use Rattle.ring_desk.specs.RingRecord.{ring}
use Rattle.ring_desk.proofs.RingParts.{lent_words}
use Rattle.ring_desk.proofs.RingSettle.{tested_are}
use Rattle.ring_desk.proofs.RingSlots.find_tested.Goals as goal

pub find_around-requires : goal.find_around-requires
find_around-requires c =
    let most : 2 * (list_offset + 2 * c.args.s) ≤ length c.args.r.now = omega (arith, c.requires.whole) in (
      record {
        bounded = c.requires.laid.reads.bounded;
        whole = mid_len (2 * list_offset) (2 * (list_offset + 2 * c.args.s)) c.args.r.now most ∙ omega arith;
        slot = c.first_tested-a.ensures.1;
      },
      omega (arith, c.count-n.ensures, tested_fits ring ring_laws c.args.s (words_of_bytes c.args.r.now) c.requires.laid),
      mid_len (2 * marks_offset) (2 * list_offset) c.args.r.now (omega (arith, c.requires.whole)) ∙ omega arith,
    )

pub returns : goal.returns
returns c =
    let s = c.args.s in
    let bytes = c.args.r.now in
    let words = words_of_bytes bytes in
    let a = c.first_tested-a.result in
    let n = c.count-n.result in
    c.find_around.ensures
    ∙ ap₂ (λ (l m : List ℕ). find_slot c.args.x (take n (rotate a l)) (marks m)) (lent_words s bytes) (words-part marks_offset list_offset bytes)
    ∙ ap (λ (l : List ℕ). find_slot c.args.x l (marks (marks_of_record words))) (tested_are s words c.requires.laid a n c.count-n.ensures.0 c.first_tested-a.ensures.0)
