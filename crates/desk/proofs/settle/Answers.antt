-- `desk::settle` meets its contract.
use mathlib.Core.Path.{sym, ◌∙◌}
use borrow.Author.Tests.{eq-eqb, ne_eqb}
use Rattle.rules.specs.Bytes.{words_of_bytes}
use Rattle.desk.specs.Layout.{decode}
use Rattle.desk.proofs.LayoutLaws.{record_same, scanned_count}
use Rattle.desk.proofs.settle.Goals as goal

pub returns-then-count-s : goal.returns-then-count-s
returns-then-count-s g c =
    let layout = g.L.Slots.layout in
    let s = c.args.s in
    let words = words_of_bytes c.args.r.now in
    let scanned = c.count.ensures.0 ∙ scanned_count layout g.L.Slots.laws s words c.requires.laid in
    rw (eq-eqb (decode layout s words).scanned s (sym scanned ∙ c.if-count-s.true)) c.settle_tested.ensures

pub returns-else-count-s : goal.returns-else-count-s
returns-else-count-s g c =
    let layout = g.L.Slots.layout in
    let laws = g.L.Slots.laws in
    let s = c.args.s in
    let words = words_of_bytes c.args.r.now in
    let scanned = c.count.ensures.0 ∙ scanned_count layout laws s words c.requires.laid in
    rw (ne_eqb (decode layout s words).scanned s (λ z. c.if-count-s.false (scanned ∙ z))) (record_same layout laws s words c.requires.laid)
