-- `ring_desk::Ring::sound_list` meets its contract: each test answers a part of the definition.
use Prim.Native.Nat.{ℕ, ◌*◌, ◌<◌}
use native.Mathlib.Omega.{arith}
use mathlib.Core.Bool.{◌&&◌}
use mathlib.Core.List.{List}
use mathlib.Core.Path.{◌≡◌, sym, ◌∙◌}
use lib.ListN.{drop, take}
use borrow.Author.Tests.{le-leb, lt-leb, lt-ltb}
use Rattle.rules.specs.Bytes.{words_of_bytes}
use Rattle.rules.specs.Table.{used_in}
use Rattle.words.proofs.Laws.{length-words}
use Rattle.words.specs.Words.{all_zero, lacks}
use Rattle.ring_rules.specs.Ring.{beginning_in, linear, rotate}
use Rattle.ring_desk.specs.RingReads.{Reads, reads_start, slots_rotated, used_same}
use Rattle.ring_desk.proofs.RingParts.{lent_words}
use Rattle.ring_desk.proofs.RingSlots.sound_list.Goals as goal
use Rattle.ring_desk.proofs.RingSlots.sound_list.Goals.{Start, After-used_slots-n, Else-s-b}

-- the record in words, and the one that it reads as
abbrev words : Start → List ℕ
words o = words_of_bytes o.args.r.now

abbrev read : Start → List ℕ
read o = linear o.args.s (words o)

reads : (o : Start) → Reads o.args.s (beginning_in o.args.s (words o)) (words o) (read o)
reads o = reads_start o.args.s (words o) (omega (arith, length-words o.args.r.now, o.requires))

-- the count of used slots
counted : (c : After-used_slots-n) → c.used_slots-n.result ≡ used_in (read (goal.at.After-used_slots-n c).Start)
counted c =
    let o = (goal.at.After-used_slots-n c).Start in
    c.used_slots-n.ensures.0 ∙ used_same o.args.s (beginning_in o.args.s (words o)) (words o) (read o) (reads o)

-- the list begins at a slot
begins : (c : Else-s-b) → beginning_in c.args.s (words (goal.at.Else-s-b c).Start) < 2 * c.args.s
begins c = omega (arith, c.beginning-b.ensures, c.if-s-b.false)

pub returns-then-s-n : goal.returns-then-s-n
returns-then-s-n c =
    let o = (goal.at.returns-then-s-n c).Start in
    let used = counted (goal.at.returns-then-s-n c).After-used_slots-n in
    sym (rw (lt-ltb (beginning_in c.args.s (words o)) (2 * c.args.s) (begins (goal.at.returns-then-s-n c).Else-s-b), lt-leb (used_in (read o)) (2 * c.args.s) (omega (arith, used, c.if-s-n.true))))

pub returns : goal.returns
returns c =
    let o = (goal.at.returns c).Start in
    let b = beginning_in c.args.s (words o) in
    let used = counted (goal.at.returns c).After-used_slots-n in
    let slots_are = slots_rotated c.args.s b (words o) (read o) (reads o) in
    c.sound_list.ensures
    ∙ (λ i. let l = rotate (c.beginning-b.ensures.0 i) (lent_words c.args.s c.args.r.now i) in lacks 0 (take c.used_slots-n.result l) && all_zero (drop c.used_slots-n.result l))
    ∙ (λ i. lacks 0 (take (used i) (slots_are i)) && all_zero (drop (used i) (slots_are i)))
    ∙ sym (rw (lt-ltb b (2 * c.args.s) (begins (goal.at.returns c).Else-s-b), le-leb (used_in (read o)) (2 * c.args.s) (omega (arith, used, c.if-s-n.false))))
