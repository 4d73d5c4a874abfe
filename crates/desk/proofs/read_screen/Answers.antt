-- `desk::read_screen` meets its contract.
use Prim.Native.Nat.{ℕ, ◌+◌, ◌*◌, ◌≤◌}
use native.Mathlib.Omega.{arith}
use mathlib.Core.List.{List}
use mathlib.Core.Path.{ap, ap₂, ◌∙◌}
use lib.ListN.{get_or, length, set}
use borrow.Rule.Slice.PartMut.{mid_len, put_mid}
use Rattle.rules.specs.Bytes.{words_of_bytes}
use Rattle.rules.specs.Table.{list_offset, mark_words, marks_offset}
use Rattle.marks.specs.Marks.{mark_slot, marks}
use Rattle.words.proofs.Laws.{words-part, words_put}
use Rattle.desk.proofs.LayoutLaws.{mark_stores, scanned_count, slot_unmarked, tested_fits, unmarked_stores}
use Rattle.desk.proofs.read_screen.Goals as goal
use Rattle.desk.proofs.read_screen.Goals.{then-j-n, else-j-n}

pub mark_slot-requires : goal.mark_slot-requires
mark_slot-requires g c =
    let laws = g.L.Slots.laws in
    let words = words_of_bytes c.args.r.now in
    let laid = c.requires.0.laid in
    let there = laws.wide c.args.s in
    let sixteen = mid_len (2 * marks_offset) (2 * list_offset) c.args.r.now (omega (arith, c.requires.0.whole)) in
    let free = slot_unmarked _ laws c.args.s words laid c.args.x c.find_tested-j.result c.find_tested-j.ensures (omega (arith, c.if-j-n.true, c.count-n.ensures)) in (
      sixteen ∙ omega arith,
      omega (arith, c.if-j-n.true, c.count-n.ensures, tested_fits _ laws c.args.s words laid, laid.reads.bounded),
      ap (λ (m : List ℕ). get_or (marks m) c.find_tested-j.result 0) (words-part marks_offset list_offset c.args.r.now) ∙ free,
    )

pub overflow_add-k : goal.overflow_add-k
overflow_add-k g c = omega (arith, c.word-k.ensures, scanned_count _ g.L.Slots.laws c.args.s (words_of_bytes c.args.r.now) c.requires.0.laid, c.requires.1)

pub returns : goal.returns
returns g c =
    let laws = g.L.Slots.laws in
    let s = c.args.s in
    let bytes = c.args.r.now in
    let words = words_of_bytes bytes in
    let laid = c.requires.0.laid in
    let j = c.find_tested-j.result in
    let wide = laws.wide s in
    let there : 2 * list_offset ≤ length bytes = omega (arith, c.requires.0.whole) in
    elim c.if-j-n.branch [
      | then-j-n w ↦ let marked = w.mark_slot.ensures.holds ∙ ap (λ (m : List ℕ). mark_slot m j) (words-part marks_offset list_offset bytes) in
          let put = words_put marks_offset list_offset bytes w.mark_slot.new.m (omega arith) there (w.mark_slot.auto.m ∙ mid_len (2 * marks_offset) (2 * list_offset) bytes there) in
          c.put_word.ensures.holds ∙ ap₂ (λ (l : List ℕ) (k : ℕ). set l 1 (k + 1)) (ap words_of_bytes w.r-is ∙ put ∙ ap (put_mid marks_offset mark_words words) marked) c.word-k.ensures
          ∙ mark_stores _ laws s words laid c.args.x j c.find_tested-j.ensures (omega (arith, w.if-j-n.true, c.count-n.ensures))
      | else-j-n w ↦ c.put_word.ensures.holds ∙ ap₂ (λ (l : List ℕ) (k : ℕ). set l 1 (k + 1)) (ap words_of_bytes w.r-is) c.word-k.ensures
          ∙ unmarked_stores _ laws s words laid c.args.x j c.find_tested-j.ensures (omega (arith, w.if-j-n.false, c.count-n.ensures))
    ]
