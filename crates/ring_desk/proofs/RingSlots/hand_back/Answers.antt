-- `ring_desk::Ring::hand_back` meets its contract.
use Prim.Native.Nat.{ℕ, ◌+◌, ◌-◌, ◌<◌}
use native.Mathlib.Omega.{arith}
use mathlib.Core.List.{List}
use mathlib.Core.Path.{sym, ap, ap₂, ◌∙◌}
use lib.ListN.{get_or, set}
use Rattle.rules.specs.Bytes.{words_of_bytes}
use Rattle.rules.specs.Table.{list_offset, width_for}
use Rattle.ring_rules.specs.Ring.{slot_after}
use Rattle.ring_desk.proofs.RingSettle.{first_session, hand_nothing, hand_stores, no_session}
use Rattle.ring_desk.proofs.RingSlots.hand_back.Goals as goal

pub returns-then-n-eq0 : goal.returns-then-n-eq0
returns-then-n-eq0 c =
    let words = words_of_bytes c.args.r.now in
    let none = sym c.word-n.ensures ∙ c.if-n-eq0.true in
    (no_session c.args.s words c.requires.laid none, hand_nothing c.args.s words c.requires.laid none)

pub returns : goal.returns
returns c =
    let s = c.args.s in
    let words = words_of_bytes c.args.r.now in
    let b = c.beginning-b.result in
    let p = c.slot_after-p.result in
    let begins = c.beginning-b.ensures.0 in
    let some : 0 < get_or words 2 0 = omega (arith, c.word-n.ensures, c.if-n-eq0.false) in
    let next = c.slot_after-p.ensures.0 ∙ ap (λ (k : ℕ). slot_after s k 1) begins in
    let emptied = c.put_word.ensures.holds in
    let moved = c.put_word-2.ensures.holds ∙ ap₂ (λ (x : List ℕ) (k : ℕ). set x k p) emptied c.record_words.ensures in
    let stored = c.put_word-3.ensures.holds ∙ ap₂ (λ (x : List ℕ) (k : ℕ). set x 2 (k - 1)) moved c.word-n.ensures in (
      c.word-x.ensures ∙ ap (λ (k : ℕ). get_or words (list_offset + k) 0) begins ∙ first_session s words c.requires.laid some,
      stored ∙ ap (λ (k : ℕ). set (set (set words (list_offset + k) 0) (width_for s) p) 2 (get_or words 2 0 - 1)) begins
          ∙ hand_stores s words c.requires.laid some p next,
    )
