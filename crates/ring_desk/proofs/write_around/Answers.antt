-- `ring_desk::write_around` meets its contract.
use Prim.Native.Nat.{ℕ}
use native.Mathlib.Omega.{arith}
use mathlib.Core.List.{List, ◌++◌}
use mathlib.Core.Path.{◌≡◌, ap, ◌∙◌}
use lib.ListN.{drop, length, set, take}
use lib.Seq.{take_all}
use Rattle.rules.specs.Bytes.{words_of_bytes}
use Rattle.words.proofs.Laws.{length-words}
use Rattle.ring_rules.specs.Ring.{rotate}
use Rattle.ring_desk.proofs.AroundLaws.{write_next}
use Rattle.ring_desk.proofs.write_around.Goals as goal

pub loop-i-preserved : goal.loop-i-preserved
loop-i-preserved c =
    let long₀ = length-words c.args.l.now in
    let long = length-words c.loop-i.l in
    let many = length-words c.args.part.now in
    let same = c.loop-i.auto.l in
    ap (rotate c.args.a) (c.put_word.ensures.holds ∙ ap (set (words_of_bytes c.loop-i.l) c.slot_after-p.result) c.word-x.ensures)
    ∙ write_next c.args.s c.args.a (words_of_bytes c.args.l.now) (words_of_bytes c.loop-i.l)
    (words_of_bytes c.args.part.now) c.loop-i.i c.slot_after-p.result
    (omega (arith, c.requires.0.whole)) (omega (arith, c.requires.0.whole)) c.requires.0.slot (omega (arith, c.loop-i-test.true)) (omega (arith, c.requires.1)) c.slot_after-p.ensures.0 c.loop-i.invariant

pub returns : goal.returns
returns c =
    let part = words_of_bytes c.args.part.now in
    let before = rotate c.args.a (words_of_bytes c.args.l.now) in
    let many = length-words c.args.part.now in
    let end : c.loop-i.i ≡ length part = omega (arith, c.loop-i-test.false, c.loop-i.auto) in
    c.loop-i.invariant ∙ ap (λ (k : ℕ). take k part ++ drop k before) end ∙ ap (λ (x : List ℕ). x ++ drop (length part) before) (take_all (length part) part (omega arith))
