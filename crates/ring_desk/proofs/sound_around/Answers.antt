-- `ring_desk::sound_around` meets its contract: the count and one part answer for both parts.
use Prim.Native.Nat.{ℕ, ◌+◌, ◌*◌}
use native.Mathlib.Omega.{arith}
use mathlib.Core.Bool.{not}
use mathlib.Core.List.{List}
use mathlib.Core.Path.{◌≡◌, sym, ◌∙◌}
use lib.Dec.{eqb}
use lib.ListN.{drop, length, length-drop, take}
use Rattle.rules.specs.Bytes.{words_of_bytes}
use Rattle.words.proofs.Laws.{length-words}
use Rattle.words.specs.Words.{zeros_in}
use Rattle.ring_rules.specs.Ring.{rotate}
use Rattle.ring_rules.proofs.Laws.Rotations.{rotate-length}
use Rattle.ring_desk.proofs.AroundLaws.{rest_past, test_inside}
use Rattle.ring_desk.proofs.ZeroLaws.{first_speaks, miscounted, second_speaks, zeros-around}
use Rattle.ring_desk.proofs.sound_around.Goals as goal
use Rattle.ring_desk.proofs.sound_around.Goals.{Start}

-- the used slots, and the others
abbrev used : Start → List ℕ
used o = take o.args.n (rotate o.args.b (words_of_bytes o.args.l.now))

abbrev others : Start → List ℕ
others o = drop o.args.n (rotate o.args.b (words_of_bytes o.args.l.now))

-- how many others there are
others_many : (o : Start) → length (others o) + o.args.n ≡ 2 * o.args.s
others_many o =
    let words = words_of_bytes o.args.l.now in
    omega (arith, length-drop o.args.n (rotate o.args.b words), rotate-length o.args.b words, length-words o.args.l.now, o.requires)

-- the count, in both
count_is : (o : Start) → zeros_in (words_of_bytes o.args.l.now) ≡ zeros_in (used o) + zeros_in (others o)
count_is o = zeros-around o.args.b o.args.n (words_of_bytes o.args.l.now)

pub returns-then-zeros-s : goal.returns-then-zeros-s
returns-then-zeros-s c = sym (miscounted (used (goal.at.returns-then-zeros-s c).Start) (others (goal.at.returns-then-zeros-s c).Start) (λ z. c.if-zeros-s.true (omega (arith, z, c.zeros.ensures, count_is (goal.at.returns-then-zeros-s c).Start, others_many (goal.at.returns-then-zeros-s c).Start))))

pub returns-then-e-s : goal.returns-then-e-s
returns-then-e-s c =
    let given = c.requires in
    c.lacks.ensures ∙ sym (test_inside (λ (word : ℕ). not (eqb word 0)) c.args.s c.args.b c.args.n c.args.l.now given.0.whole given.0.slot given.1 c.if-e-s.true)
    ∙ first_speaks (used (goal.at.returns-then-e-s c).Start) (others (goal.at.returns-then-e-s c).Start) (omega (arith, c.if-zeros-s.false, c.zeros.ensures, count_is (goal.at.returns-then-e-s c).Start, others_many (goal.at.returns-then-e-s c).Start))

pub returns : goal.returns
returns c =
    let given = c.requires in
    let past = c.if-e-s.false in
    c.all_zero.ensures ∙ sym (rest_past (λ (word : ℕ). eqb word 0) c.args.s c.args.b c.args.n c.args.l.now given.0.whole given.0.slot given.1 (omega arith))
    ∙ second_speaks (used (goal.at.returns c).Start) (others (goal.at.returns c).Start) (omega (arith, c.if-zeros-s.false, c.zeros.ensures, count_is (goal.at.returns c).Start, others_many (goal.at.returns c).Start))
