-- `ring_desk::lacks_around` meets its contract.
use Prim.Native.Nat.{ℕ}
use native.Mathlib.Omega.{arith}
use mathlib.Core.Bool.{Bool, not}
use mathlib.Core.Path.{sym, ◌∙◌}
use lib.Dec.{eqb}
use Rattle.ring_desk.proofs.AroundLaws.{test_inside, test_past}
use Rattle.ring_desk.proofs.lacks_around.Goals as goal

pub returns-then-e-s : goal.returns-then-e-s
returns-then-e-s c =
    let given = c.requires in
    let test : ℕ → Bool = λ (word : ℕ). not (eqb word c.args.x) in
    c.lacks.ensures ∙ sym (test_inside test c.args.s c.args.a c.args.n c.args.l.now given.0.whole given.0.slot given.1 c.if-e-s.true)

pub returns-then-not-lacks : goal.returns-then-not-lacks
returns-then-not-lacks c =
    let given = c.requires in
    let test : ℕ → Bool = λ (word : ℕ). not (eqb word c.args.x) in
    let past = c.if-e-s.false in
    sym (test_past test c.args.s c.args.a c.args.n c.args.l.now given.0.whole given.0.slot given.1 (omega arith)
    ∙ rw (sym c.lacks-2.ensures ∙ c.if-not-lacks.true))

pub returns : goal.returns
returns c =
    let given = c.requires in
    let test : ℕ → Bool = λ (word : ℕ). not (eqb word c.args.x) in
    let past = c.if-e-s.false in
    sym (test_past test c.args.s c.args.a c.args.n c.args.l.now given.0.whole given.0.slot given.1 (omega arith)
    ∙ rw (sym c.lacks-2.ensures ∙ c.if-not-lacks.false) (sym c.lacks-3.ensures))
