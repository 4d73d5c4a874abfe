-- `ring_desk::sound_list` meets its contract.
use Prim.Native.Nat.{ℕ, ◌*◌, ◌-◌}
use native.Mathlib.Omega.{arith}
use mathlib.Core.Bool.{Bool, ◌&&◌}
use mathlib.Core.List.{List, append-nil}
use mathlib.Core.Path.{◌≡◌, sym, ap, ◌∙◌}
use lib.ListN.{drop, length, length-drop, take}
use lib.Seq.{take_all}
use borrow.Rule.Slice.PartMut.{mid_of}
use Rattle.rules.specs.Bytes.{words_of_bytes}
use Rattle.words.proofs.Laws.{words-drop, words_take}
use Rattle.words.specs.Words.{all_zero, lacks}
use Rattle.ring_rules.specs.Ring.{rotate}
use Rattle.ring_desk.proofs.sound_list.Goals as goal
use Rattle.ring_desk.proofs.sound_list.Goals.{Start, After-lacks}

-- the tests of the used slots and of the others
abbrev used-pass : Start → Bool
used-pass o = lacks 0 (take o.args.n (rotate o.args.b (words_of_bytes o.args.l.now)))

abbrev rest-pass : Start → Bool
rest-pass o = all_zero (drop o.args.n (rotate o.args.b (words_of_bytes o.args.l.now)))

-- a list that begins at slot 0 is read as it lies
from_first_lem : (o : Start) → o.args.b ≡ 0 → (part : List ℕ → List ℕ) → part (words_of_bytes o.args.l.now) ≡ part (rotate o.args.b (words_of_bytes o.args.l.now))
from_first_lem o first part = ap part (sym (ap (λ (k : ℕ). rotate k (words_of_bytes o.args.l.now)) first ∙ append-nil (words_of_bytes o.args.l.now)))

-- its words from slot n on
rest_words : (o : Start) →
    words_of_bytes (mid_of (2 * o.args.n) (length o.args.l.now - 2 * o.args.n) o.args.l.now) ≡ drop o.args.n (words_of_bytes o.args.l.now)
rest_words o =
    let bytes = o.args.l.now in
    ap words_of_bytes (take_all (length bytes - 2 * o.args.n) (drop (2 * o.args.n) bytes) (omega (arith, length-drop (2 * o.args.n) bytes))) ∙ words-drop o.args.n bytes

-- what the code finds of it
used_tested : (c : After-lacks) → used-pass (goal.at.After-lacks c).Start ≡ c.lacks.result
used_tested c =
    let given = c.requires in
    sym (c.lacks.ensures ∙ ap (lacks 0) (words_take c.args.n c.args.l.now ∙ from_first_lem (goal.at.After-lacks c).Start c.if-b-ne0.false (take c.args.n)))

pub returns-then-not-lacks : goal.returns-then-not-lacks
returns-then-not-lacks c = sym (ap (λ (passed : Bool). passed && rest-pass (goal.at.returns-then-not-lacks c).Start) (used_tested (goal.at.returns-then-not-lacks c).After-lacks ∙ c.if-not-lacks.true))

pub returns : goal.returns
returns c =
    c.all_zero.ensures ∙ ap all_zero (rest_words (goal.at.returns c).Start ∙ from_first_lem (goal.at.returns c).Start c.if-b-ne0.false (drop c.args.n))
    ∙ sym (ap (λ (passed : Bool). passed && rest-pass (goal.at.returns c).Start) (used_tested (goal.at.returns c).After-lacks ∙ c.if-not-lacks.false))
