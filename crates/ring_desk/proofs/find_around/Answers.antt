-- `ring_desk::find_around` meets its contract.
use Prim.Native.Nat.{ℕ, ◌+◌, ◌*◌, ◌≤◌, ◌<◌}
use native.Mathlib.Omega.{arith}
use mathlib.Core.List.{List}
use mathlib.Core.Path.{◌≡◌, sym, ap, ◌∙◌}
use lib.ListN.{get_or, length, take}
use borrow.Author.Tests.{eqb-true}
use Rattle.rules.specs.Bytes.{words_of_bytes}
use Rattle.words.proofs.Laws.{length-words, words-part}
use Rattle.marks.specs.Marks.{find_slot, marks}
use Rattle.marks.proofs.MarkLaws.{is_unmarked, marks-length}
use Rattle.marks.proofs.SlotLaws.{find_found, find_lacking, find_marked, find_other}
use Rattle.ring_rules.specs.Ring.{rotate}
use Rattle.ring_desk.proofs.AroundLaws.{around_inside, around-length, around_word}
use Rattle.ring_desk.proofs.find_around.Goals as goal
use Rattle.ring_desk.proofs.find_around.Goals.{then-word-x+else-not-marked, else-word-x, Start}

-- the slots that are gone through, and the marks
abbrev slots : Start → List ℕ
slots o = take o.args.n (rotate o.args.a (words_of_bytes o.args.l.now))

abbrev marks_of_lem : Start → List ℕ
marks_of_lem o = marks (words_of_bytes o.args.m.now)

list_long : (o : Start) → length (words_of_bytes o.args.l.now) ≡ 2 * o.args.s
list_long o = omega (arith, length-words o.args.l.now, o.requires)

slots-long : (o : Start) → length (slots o) ≡ o.args.n
slots-long o = around-length o.args.s o.args.a (words_of_bytes o.args.l.now) (list_long o) o.requires.0.slot o.args.n o.requires.1

-- every slot has a mark
marks_many : (o : Start) → o.args.n ≤ length (marks_of_lem o)
marks_many o = omega (arith, marks-length (words_of_bytes o.args.m.now), length-words o.args.m.now, o.requires)

pub returns-then-a-n : goal.returns-then-a-n
returns-then-a-n c =
    c.find_slot.ensures ∙ ap (λ (part : List ℕ). find_slot c.args.x part (marks_of_lem (goal.at.returns-then-a-n c).Start))
    (words-part c.args.a (c.args.a + c.args.n) c.args.l.now ∙ sym (around_inside c.args.s c.args.a (words_of_bytes c.args.l.now) (list_long (goal.at.returns-then-a-n c).Start) c.requires.0.slot c.args.n c.if-a-n.true))

pub returns-then-lacks_around : goal.returns-then-lacks_around
returns-then-lacks_around c =
    sym (slots-long (goal.at.returns-then-lacks_around c).Start)
    ∙ find_lacking c.args.x (slots (goal.at.returns-then-lacks_around c).Start) (marks_of_lem (goal.at.returns-then-lacks_around c).Start) (omega (arith, slots-long (goal.at.returns-then-lacks_around c).Start, marks_many (goal.at.returns-then-lacks_around c).Start))
    (sym c.lacks_around.ensures ∙ c.if-lacks_around.true)

pub returns-then-not-marked : goal.returns-then-not-marked
returns-then-not-marked c =
    let j = c.loop-j.j in
    let x = c.args.x in
    let below = c.loop-j-test.true in
    let session = around_word c.args.s c.args.a (words_of_bytes c.args.l.now) (list_long (goal.at.returns-then-not-marked c).Start) c.requires.0.slot c.args.n j c.slot_after-p.result
    c.requires.1 below c.slot_after-p.ensures.0 in
    find_found x (find_slot x (slots (goal.at.returns-then-not-marked c).Start) (marks_of_lem (goal.at.returns-then-not-marked c).Start)) (slots (goal.at.returns-then-not-marked c).Start) (marks_of_lem (goal.at.returns-then-not-marked c).Start) j
    (omega (arith, slots-long (goal.at.returns-then-not-marked c).Start, below)) (omega (arith, marks_many (goal.at.returns-then-not-marked c).Start, below)) c.loop-j.invariant
    (sym session ∙ sym c.word.ensures ∙ c.if-word-x.true)
    (is_unmarked (words_of_bytes c.args.m.now) j (sym c.marked.ensures ∙ c.if-not-marked.true))

pub loop-j-preserved : goal.loop-j-preserved
loop-j-preserved c =
    let j = c.loop-j.j in
    let x = c.args.x in
    let n = find_slot x (slots (goal.at.loop-j-preserved c).Start) (marks_of_lem (goal.at.loop-j-preserved c).Start) in
    let below = c.loop-j-test.true in
    let in_slots : j < length (slots (goal.at.loop-j-preserved c).Start) = omega (arith, slots-long (goal.at.loop-j-preserved c).Start, below) in
    let in_marks : j < length (marks_of_lem (goal.at.loop-j-preserved c).Start) = omega (arith, marks_many (goal.at.loop-j-preserved c).Start, below) in
    let session = around_word c.args.s c.args.a (words_of_bytes c.args.l.now) (list_long (goal.at.loop-j-preserved c).Start) c.requires.0.slot c.args.n j c.slot_after-p.result
    c.requires.1 below c.slot_after-p.ensures.0 in
    elim c.if-word-x.branch [
      | then-word-x+else-not-marked w ↦ let is_marked = eqb-true (get_or (marks_of_lem (goal.at.loop-j-preserved c).Start) j 0) 1 (sym w.marked.ensures ∙ w.if-not-marked.false) in
          find_marked x n (slots (goal.at.loop-j-preserved c).Start) (marks_of_lem (goal.at.loop-j-preserved c).Start) j in_slots in_marks c.loop-j.invariant (λ z. omega arith)
      | else-word-x w ↦ find_other x n (slots (goal.at.loop-j-preserved c).Start) (marks_of_lem (goal.at.loop-j-preserved c).Start) j in_slots in_marks c.loop-j.invariant (λ z. w.if-word-x.false (c.word.ensures ∙ session ∙ z))
    ]
