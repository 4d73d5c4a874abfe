-- `desk::scan` meets its contract.
use mathlib.Core.Path.{ap, sym, ◌∙◌}
use Rattle.rules.specs.Bytes.{words_of_bytes}
use Rattle.desk.specs.Layout.{decode, with_desk}
use Rattle.desk.proofs.DeskTie.{scan_none, scan_some}
use Rattle.desk.proofs.LayoutLaws.{record_same, tested_count}
use Rattle.desk.proofs.scan.Goals as goal

pub returns-then-count-ne0 : goal.returns-then-count-ne0
returns-then-count-ne0 g c =
    let layout = g.L.Slots.layout in
    let s = c.args.s in
    let words = words_of_bytes c.args.r.now in
    let found = decode layout s words in
    let tested = c.count.ensures.0 ∙ tested_count layout g.L.Slots.laws s words c.requires.0.laid in
    c.read_screens.ensures ∙ ap (with_desk layout s words) (scan_some found.tested c.args.shown.now found (λ z. c.if-count-ne0.true (tested ∙ z)))

pub returns-else-count-ne0 : goal.returns-else-count-ne0
returns-else-count-ne0 g c =
    let layout = g.L.Slots.layout in
    let laws = g.L.Slots.laws in
    let s = c.args.s in
    let words = words_of_bytes c.args.r.now in
    let found = decode layout s words in
    let tested = c.count.ensures.0 ∙ tested_count layout laws s words c.requires.0.laid in
    record_same layout laws s words c.requires.0.laid ∙ ap (with_desk layout s words) (scan_none found.tested c.args.shown.now found (sym tested ∙ c.if-count-ne0.false))
