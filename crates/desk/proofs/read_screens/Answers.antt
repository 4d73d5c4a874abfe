-- `desk::read_screens` meets its contract.
use native.Mathlib.Omega.{arith}
use mathlib.Core.List.{List, [], ◌∷◌}
use mathlib.Core.Path.{sym, ap, ◌∙◌}
use lib.ListN.{get_or, take}
use lib.Seq.{length-take-le}
use Rattle.std.proofs.lemmas.List.{take_more}
use Rattle.rules.specs.Bytes.{words_of_bytes}
use Rattle.rules.specs.Hall.{Desk}
use Rattle.rules.specs.Steps.{read_screens}
use Rattle.desk.specs.Layout.{with_desk}
use Rattle.desk.specs.Record.{desk_in}
use Rattle.desk.proofs.DeskTie.{read_more, read_slots}
use Rattle.desk.proofs.LayoutLaws.{Left, does, then}
use Rattle.desk.proofs.read_screens.Goals as goal
use Rattle.desk.proofs.read_screens.Goals.{In-loop-x}

-- the desk after the first screens
past : (g : _) (c : In-loop-x g) → Left g.L.Slots.layout g.L.Slots.laws c.args.s (g.L.Slots.layout.beginning c.args.s (words_of_bytes c.args.r.now))
    (read_screens (take c.loop-x.x-index c.args.shown.now) (desk_in g.L.Slots.layout c.args.s c.args.r.now)) c.loop-x.r
past g c =
    let shown = take c.loop-x.x-index c.args.shown.now in
    does g.L.Slots.layout g.L.Slots.laws c.args.s (read_screens shown) c.args.r.now c.loop-x.r c.requires.0
    (read_slots shown (desk_in g.L.Slots.layout c.args.s c.args.r.now)) c.loop-x.auto.r c.loop-x.invariant

pub read_screen-requires : goal.read_screen-requires
read_screen-requires g c =
    let so_far = past g (goal.at.read_screen-requires g c).In-loop-x in
    let few = length-take-le c.loop-x.x-index c.args.shown.now (omega (arith, c.loop-x-test.true)) in
    (so_far.lent, omega (arith, ap (λ (desk : Desk). desk.scanned) so_far.desk_is, c.requires.1, c.loop-x-test.true))

pub loop-x-preserved : goal.loop-x-preserved
loop-x-preserved g c =
    let layout = g.L.Slots.layout in
    let s = c.args.s in
    let words = words_of_bytes c.args.r.now in
    let D = desk_in layout s c.args.r.now in
    let i = c.loop-x.x-index in
    let x = get_or c.args.shown.now i 0 in
    then layout g.L.Slots.laws s _ _ (read_screens (x ∷ [])) c.loop-x.r c.read_screen.new.r (past g (goal.at.loop-x-preserved g c).In-loop-x) c.read_screen.ensures
    ∙ ap (with_desk layout s words) (read_more (take i c.args.shown.now) x D)
    ∙ ap (λ (shown : List _). with_desk layout s words (read_screens shown D)) (sym (take_more c.args.shown.now i 0 c.loop-x-test.true))
