-- `ring_desk::Ring::partition_tested` meets its contract.
use Prim.Native.Nat.{ℕ, ◌+◌, ◌*◌, ◌≤◌}
use native.Mathlib.Omega.{arith}
use mathlib.Core.List.{List}
use mathlib.Core.Path.{◌≡◌, refl, subst, ◌∙◌}
use lib.ListN.{length}
use borrow.Author.Rules.{rules}
use borrow.Rule.Slice.PartMut.{mid_len}
use Rattle.rules.specs.Bytes.{words_of_bytes}
use Rattle.rules.specs.Table.{list_offset}
use Rattle.marks.specs.Marks.{marks}
use Rattle.words.proofs.Laws.{length-words, words_put}
use Rattle.desk.proofs.LayoutLaws.{tested_fits}
use Rattle.ring_desk.specs.Around.{Parted}
use Rattle.ring_desk.specs.RingLaws.{ring_laws}
use Rattle.ring_desk.specs.RingReads.{reads_as}
use Rattle.ring_desk.specs.RingRecord.{ring}
use Rattle.ring_desk.proofs.RingParts.{lent_words}
use Rattle.ring_desk.proofs.RingSettle.{partitioned_list}
use Rattle.ring_desk.proofs.RingSlots.partition_tested.Goals as goal
use Rattle.ring_desk.proofs.RingSlots.partition_tested.Goals.{Start}

-- the list is lent whole
whole : (o : Start) → 2 * (list_offset + 2 * o.args.s) ≤ length o.args.r.now
whole o = omega (arith, o.requires.whole)

pub partition_around-requires : goal.partition_around-requires
partition_around-requires c =
    let lent = c.requires in (
      record {
        bounded = lent.laid.reads.bounded;
        whole = mid_len (2 * list_offset) (2 * (list_offset + 2 * c.args.s)) c.args.r.now (whole (goal.at.partition_around-requires c).Start) ∙ omega arith;
        slot = c.first_tested-a.ensures.1;
      },
      omega (arith, c.count-n.ensures, tested_fits ring ring_laws c.args.s (words_of_bytes c.args.r.now) lent.laid),
    )

pub returns : goal.returns
returns c =
    let s = c.args.s in
    let bytes = c.args.r.now in
    let words = words_of_bytes bytes in
    let a = c.first_tested-a.result in
    let n = c.count-n.result in
    let m = words_of_bytes c.args.m.now in
    let sixteen : length c.args.m.now ≡ 16 = search rules in
    let part = c.partition_around.new.l in
    let most = whole (goal.at.returns c).Start in
    let wide = c.partition_around.auto.l ∙ mid_len (2 * list_offset) (2 * (list_offset + 2 * s)) bytes most in
    let many : length (words_of_bytes part) ≡ 2 * s = omega (arith, length-words part, wide) in
    let parted = subst (λ (slots : List ℕ). Parted slots (marks m) a n (words_of_bytes part)) (lent_words s bytes) c.partition_around.ensures in
    reads_as s _ _ _ _ _ (partitioned_list s words c.requires.laid a n c.count-n.ensures.0 c.first_tested-a.ensures.0 m (words_of_bytes part) (omega (arith, length-words c.args.m.now, sixteen)) many parted)
    (words_put list_offset (list_offset + 2 * s) bytes part (omega arith) most wide) refl
