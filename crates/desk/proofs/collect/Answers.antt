-- `desk::collect` meets its contract: each part leaves the record of a desk, from which the next goes on.
use Prim.Native.Nat.{ℕ}
use native.Mathlib.Omega.{arith}
use mathlib.Core.Path.{ap, ◌∙◌}
use Rattle.rules.specs.Bytes.{words_of_bytes}
use Rattle.rules.specs.Hall.{Desk}
use Rattle.rules.specs.Steps.{begin, hand_back, scan_at, settle}
use Rattle.desk.specs.Layout.{handed_back}
use Rattle.desk.specs.Record.{desk_in}
use Rattle.desk.proofs.DeskTie.{begin-scanned, begin-slots, scan-slots, settle-slots}
use Rattle.desk.proofs.LayoutLaws.{Left, left, then}
use Rattle.desk.proofs.collect.Goals as goal
use Rattle.desk.proofs.collect.Goals.{Start, After-begin_test, After-scan, After-settle}

-- where the list begins, and the desk before and after each part
abbrev begins : (g : _) → Start g → ℕ
begins g o = g.L.Slots.layout.beginning o.args.s (words_of_bytes o.args.r.now)

abbrev found : (g : _) → Start g → Desk
found g o = desk_in g.L.Slots.layout o.args.s o.args.r.now

abbrev begun : (g : _) → Start g → Desk
begun g o = begin (found g o)

abbrev scanned : (g : _) → Start g → Desk
scanned g o = scan_at (begun g o).tested o.args.shown.now (begun g o)

abbrev settled : (g : _) → Start g → Desk
settled g o = settle o.args.s (scanned g o)

past_a : (g : _) (c : After-begin_test g) → Left g.L.Slots.layout g.L.Slots.laws c.args.s (begins g (goal.at.After-begin_test g c).Start) (begun g (goal.at.After-begin_test g c).Start) c.begin_test.new.r
past_a g c =
    let o = (goal.at.After-begin_test g c).Start in
    let laid = c.requires.0.laid in
    left g.L.Slots.layout g.L.Slots.laws c.args.s (begins g o) (begun g o) c.begin_test.new.r laid.reads.bounded laid.begins
    (omega (arith, begin-slots (found g o), laid.reads.room)) (c.begin_test.auto.r ∙ c.requires.0.whole) c.begin_test.ensures

past_b : (g : _) (c : After-scan g) → Left g.L.Slots.layout g.L.Slots.laws c.args.s (begins g (goal.at.After-scan g c).Start) (scanned g (goal.at.After-scan g c).Start) c.scan.new.r
past_b g c =
    let o = (goal.at.After-scan g c).Start in
    let laid = c.requires.0.laid in
    left g.L.Slots.layout g.L.Slots.laws c.args.s (begins g o) (scanned g o) c.scan.new.r laid.reads.bounded laid.begins
    (omega (arith, begin-slots (found g o), scan-slots (begun g o).tested c.args.shown.now (begun g o), laid.reads.room)) (c.scan.auto.r ∙ c.begin_test.auto.r ∙ c.requires.0.whole)
    (then g.L.Slots.layout g.L.Slots.laws c.args.s (begins g o) (begun g o) (λ desk. scan_at desk.tested c.args.shown.now desk) c.begin_test.new.r c.scan.new.r (past_a g (goal.at.After-scan g c).After-begin_test) c.scan.ensures)

past_c : (g : _) (c : After-settle g) → Left g.L.Slots.layout g.L.Slots.laws c.args.s (begins g (goal.at.After-settle g c).Start) (settled g (goal.at.After-settle g c).Start) c.settle.new.r
past_c g c =
    let o = (goal.at.After-settle g c).Start in
    let laid = c.requires.0.laid in
    left g.L.Slots.layout g.L.Slots.laws c.args.s (begins g o) (settled g o) c.settle.new.r laid.reads.bounded laid.begins
    (omega (arith, begin-slots (found g o), scan-slots (begun g o).tested c.args.shown.now (begun g o), settle-slots c.args.s (scanned g o), laid.reads.room))
    (c.settle.auto.r ∙ c.scan.auto.r ∙ c.begin_test.auto.r ∙ c.requires.0.whole)
    (then g.L.Slots.layout g.L.Slots.laws c.args.s (begins g o) (scanned g o) (settle c.args.s) c.scan.new.r c.settle.new.r (past_b g (goal.at.After-settle g c).After-scan) c.settle.ensures)

pub scan-requires : goal.scan-requires
scan-requires g c =
    let past = past_a g (goal.at.scan-requires g c).After-begin_test in
    (past.lent, omega (arith, ap (λ (desk : Desk). desk.scanned) past.desk_is, begin-scanned (found g (goal.at.scan-requires g c).Start), c.requires.1))

pub settle-requires : goal.settle-requires
settle-requires g c = (past_b g (goal.at.settle-requires g c).After-scan).lent

pub hand_back-requires : goal.hand_back-requires
hand_back-requires g c = (past_c g (goal.at.hand_back-requires g c).After-settle).lent

pub returns : goal.returns
returns g c =
    let past = past_c g (goal.at.returns g c).After-settle in (
      c.hand_back.ensures.0 ∙ ap (λ (desk : Desk). (hand_back desk).session) past.desk_is,
      c.hand_back.ensures.1 ∙ (λ i. handed_back g.L.Slots.layout c.args.s (past.begins_same i) (past.desk_is i)),
    )
