-- `ring_desk::read_around` meets its contract.
use Prim.Native.Nat.{ℕ, ◌+◌}
use native.Mathlib.Omega.{arith}
use mathlib.Core.Path.{◌≡◌, sym, ap, ◌∙◌}
use lib.ListN.{length, set, take}
use lib.Seq.{take_all}
use Rattle.rules.specs.Bytes.{words_of_bytes}
use Rattle.words.proofs.Laws.{length-words}
use Rattle.ring_rules.specs.Ring.{rotate}
use Rattle.ring_desk.proofs.AroundLaws.{read_next}
use Rattle.ring_desk.proofs.read_around.Goals as goal

pub loop-i-preserved : goal.loop-i-preserved
loop-i-preserved c =
    let long = length-words c.args.l.now in
    let many = length-words c.loop-i.part in
    let same = c.loop-i.auto.part in
    ap (take (c.loop-i.i + 1)) (c.put_word.ensures.holds ∙ ap (set (words_of_bytes c.loop-i.part) c.loop-i.i) c.word-x.ensures)
    ∙ read_next c.args.s c.args.a (words_of_bytes c.args.l.now) (omega (arith, c.requires.0.whole)) c.requires.0.slot
    (words_of_bytes c.loop-i.part) c.loop-i.i c.slot_after-p.result
    (omega (arith, c.loop-i-test.true)) (omega (arith, c.requires.1)) c.slot_after-p.ensures.0 c.loop-i.invariant

pub returns : goal.returns
returns c =
    let many = length-words c.loop-i.part in
    let many₀ = length-words c.args.part.now in
    let end : c.loop-i.i ≡ length (words_of_bytes c.args.part.now) = omega (arith, c.loop-i-test.false, c.loop-i.auto) in
    sym (take_all c.loop-i.i (words_of_bytes c.loop-i.part) (omega (arith, c.loop-i.auto.part))) ∙ c.loop-i.invariant
    ∙ ap (λ (k : ℕ). take k (rotate c.args.a (words_of_bytes c.args.l.now))) end
