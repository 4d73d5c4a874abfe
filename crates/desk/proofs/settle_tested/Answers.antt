-- `desk::settle_tested` meets its contract.
use Prim.Native.Nat.{◌+◌, ◌-◌}
use native.Mathlib.Omega.{arith}
use mathlib.Core.List.{List, ◌++◌}
use mathlib.Core.Path.{◌≡◌, ap, ◌∙◌}
use lib.ListN.{length, length-append, set}
use Rattle.rules.specs.Bytes.{words_of_bytes}
use Rattle.rules.specs.Steps.{marked_of, unmarked_of}
use Rattle.rules.proofs.Laws.Desk.Marks.{unmarked_and_marked}
use Rattle.desk.specs.Layout.{decode}
use Rattle.desk.proofs.LayoutLaws.{ready_count, settled_stores, tested_count, waiting_count}
use Rattle.desk.proofs.settle_tested.Goals as goal

pub overflow_sub-b : goal.overflow_sub-b
overflow_sub-b g c =
    let layout = g.L.Slots.layout in
    let words = words_of_bytes c.args.r.now in
    let tested = tested_count layout g.L.Slots.laws c.args.s words c.requires.laid in
    omega (arith, c.count-b.ensures, c.part_tested-kept.ensures.0, unmarked_and_marked (decode layout c.args.s words).tested)

pub overflow_cast-a : goal.overflow_cast-a
overflow_cast-a g c =
    let laws = g.L.Slots.laws in
    let words = words_of_bytes c.args.r.now in
    omega (arith, c.requires.laid.reads.bounded, c.requires.laid.reads.room, c.count-a.ensures, c.count-b.ensures, ready_count _ laws c.args.s words c.requires.laid, tested_count _ laws c.args.s words c.requires.laid)

pub overflow_add-w : goal.overflow_add-w
overflow_add-w g c =
    let layout = g.L.Slots.layout in
    let words = words_of_bytes c.args.r.now in
    omega (arith, c.requires.laid.reads.bounded, c.requires.laid.reads.room, c.count-w.ensures, c.part_tested-kept.ensures.0, waiting_count layout g.L.Slots.laws c.args.s words c.requires.laid, unmarked_and_marked (decode layout c.args.s words).tested)

pub overflow_cast-w : goal.overflow_cast-w
overflow_cast-w g c =
    let layout = g.L.Slots.layout in
    let words = words_of_bytes c.args.r.now in
    omega (arith, c.requires.laid.reads.bounded, c.requires.laid.reads.room, c.count-w.ensures, c.part_tested-kept.ensures.0, waiting_count layout g.L.Slots.laws c.args.s words c.requires.laid, unmarked_and_marked (decode layout c.args.s words).tested)

pub returns : goal.returns
returns g c =
    let layout = g.L.Slots.layout in
    let laws = g.L.Slots.laws in
    let s = c.args.s in
    let words = words_of_bytes c.args.r.now in
    let laid = c.requires.laid in
    let D = decode layout s words in
    let a = c.count-a.result + (c.count-b.result - c.part_tested-kept.result) in
    let w = c.count-w.result + c.part_tested-kept.result in
    let ready : a ≡ length (D.ready ++ unmarked_of D.tested) =
    omega (arith, c.count-a.ensures, c.count-b.ensures, c.part_tested-kept.ensures.0, ready_count layout laws s words laid, tested_count layout laws s words laid, unmarked_and_marked D.tested, length-append D.ready (unmarked_of D.tested)) in
    let waiting : w ≡ length (marked_of D.tested ++ D.waiting) =
    omega (arith, c.count-w.ensures, c.part_tested-kept.ensures.0, waiting_count layout laws s words laid, length-append (marked_of D.tested) D.waiting) in
    let first = c.put_word.ensures.holds in
    let second = c.put_word-2.ensures.holds ∙ ap (λ (x : List _). set x 2 a) first in
    let third = c.put_word-3.ensures.holds ∙ ap (λ (x : List _). set x 3 0) second in
    c.put_word-4.ensures.holds ∙ ap (λ (x : List _). set x 4 w) third
    ∙ settled_stores layout laws s words laid (words_of_bytes c.part_tested-kept.new.r) a w c.part_tested-kept.ensures.1 ready waiting
