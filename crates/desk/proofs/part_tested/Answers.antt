-- `desk::part_tested` meets its contract.
use Prim.Native.Nat.{ℕ, ◌*◌, ◌≤◌}
use native.Mathlib.Omega.{arith}
use mathlib.Core.Path.{ap, sym, ◌∙◌}
use lib.ListN.{length, replicate}
use borrow.Author.Rules.{rules}
use borrow.Rule.Slice.PartMut.{mid_len}
use Rattle.rules.specs.Bytes.{words_of_bytes}
use Rattle.rules.specs.Table.{list_offset, mark_words, marks_offset}
use Rattle.rules.proofs.Laws.Bytes.Bytes.{words_are_16, zero_words}
use Rattle.words.proofs.Laws.{words-part, words_put}
use Rattle.desk.proofs.LayoutLaws.{marked_count, parted_same, parted_stores}
use Rattle.desk.proofs.part_tested.Goals as goal

pub returns-then-kept-eq0 : goal.returns-then-kept-eq0
returns-then-kept-eq0 g c =
    let layout = g.L.Slots.layout in
    let laws = g.L.Slots.laws in
    let bytes = c.args.r.now in
    let words = words_of_bytes bytes in
    let m = words_of_bytes c.copy_from_slice.new.self in
    let small = words_are_16 bytes (search rules) in
    let copied = ap words_of_bytes c.copy_from_slice.ensures.after ∙ words-part marks_offset list_offset bytes in (
      sym c.if-kept-eq0.true ∙ marked_count layout laws c.args.s words c.requires.laid c.ones-kept.result m small copied c.ones-kept.ensures,
      parted_same layout laws c.args.s words c.requires.laid c.ones-kept.result m small copied c.ones-kept.ensures c.if-kept-eq0.true,
    )

pub returns : goal.returns
returns g c =
    let layout = g.L.Slots.layout in
    let laws = g.L.Slots.laws in
    let bytes = c.args.r.now in
    let words = words_of_bytes bytes in
    let m = words_of_bytes c.copy_from_slice.new.self in
    let small = words_are_16 bytes (search rules) in
    let copied = ap words_of_bytes c.copy_from_slice.ensures.after ∙ words-part marks_offset list_offset bytes in
    let after = c.partition_tested.new.r in
    let wide = laws.wide c.args.s in
    let there : 2 * list_offset ≤ length after = omega (arith, c.partition_tested.auto.r, c.requires.whole) in
    let sixteen = mid_len (2 * marks_offset) (2 * list_offset) after there in
    let cleared = ap words_of_bytes (c.clear.ensures ∙ ap (λ (k : ℕ). replicate k 0) sixteen) ∙ zero_words mark_words in
    let zeros = words_put marks_offset list_offset after c.clear.new.l (omega arith) there (c.clear.auto.l ∙ sixteen) in (
      marked_count layout laws c.args.s words c.requires.laid c.ones-kept.result m small copied c.ones-kept.ensures,
      zeros ∙ parted_stores layout laws c.args.s words c.requires.laid c.ones-kept.result m small copied c.ones-kept.ensures (words_of_bytes after) (words_of_bytes c.clear.new.l) c.partition_tested.ensures cleared,
    )
