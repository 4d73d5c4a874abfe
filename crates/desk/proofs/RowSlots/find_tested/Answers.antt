-- `desk::Row::find_tested` meets its contract.
use Prim.Native.Nat.{ℕ, ◌+◌, ◌*◌, ◌≤◌}
use native.Mathlib.Omega.{arith}
use mathlib.Core.List.{List}
use mathlib.Core.Path.{ap₂, ◌∙◌}
use lib.ListN.{length}
use borrow.Rule.Slice.PartMut.{mid_len}
use Rattle.rules.specs.Bytes.{words_of_bytes}
use Rattle.rules.specs.Table.{list_offset, marks_offset}
use Rattle.marks.specs.Marks.{find_slot, marks}
use Rattle.words.proofs.Laws.{words-part}
use Rattle.desk.proofs.DeskLaws.{tested_at}
use Rattle.desk.proofs.DeskTie.{desk_counts}
use Rattle.desk.proofs.RowSlots.find_tested.Goals as goal

pub slice_bounds-find_slot-end : goal.slice_bounds-find_slot-end
slice_bounds-find_slot-end c =
    let counts = desk_counts c.args._s (words_of_bytes c.args.r.now) c.requires.laid.reads in
    omega (arith, c.requires.whole, c.requires.laid.reads.room, c.count-a.ensures, c.count.ensures, counts.ready, counts.tested)

pub find_slot-requires : goal.find_slot-requires
find_slot-requires c =
    let a = list_offset + c.count-a.result in
    let counts = desk_counts c.args._s (words_of_bytes c.args.r.now) c.requires.laid.reads in
    let most : 2 * (a + c.count.result) ≤ length c.args.r.now = omega (arith, c.requires.whole, c.requires.laid.reads.room, c.count-a.ensures, c.count.ensures, counts.ready, counts.tested) in
    (omega (arith, mid_len (2 * a) (2 * (a + c.count.result)) c.args.r.now most, c.requires.laid.reads.bounded, c.requires.laid.reads.room, c.count.ensures, counts.tested), mid_len (2 * marks_offset) (2 * list_offset) c.args.r.now (omega (arith, c.requires.whole)))

pub returns : goal.returns
returns c =
    let bytes = c.args.r.now in
    let words = words_of_bytes bytes in
    let a = list_offset + c.count-a.result in
    let tested = words-part a (a + c.count.result) bytes ∙ tested_at words c.count-a.result c.count.result c.count-a.ensures.0 c.count.ensures.0 in
    c.find_slot.ensures ∙ ap₂ (λ (l m : List ℕ). find_slot c.args.x l (marks m)) tested (words-part marks_offset list_offset bytes)
