-- Marking changes no session and no number of slots; each reading marks at most one slot, and a copy of what it reads if one is left.
use Rattle.std.specs.Prelude.{ℕ, suc, ◌+◌, ◌-◌, ◌≤◌, min, ◌≡◌, refl, Bool, true, false, cond, List, [], ◌∷◌, map, length, take, drop, eqb}
use Rattle.std.proofs.Common.{arith, ap, ◌∙◌, length-take, length-drop, eqb-true}
use Rattle.std.proofs.lemmas.Bool.{eqb-false}
use Rattle.rules.specs.Hall.{TestedSlot, marked, unmarked}
use Rattle.rules.specs.Lists.{occurrences}
use Rattle.rules.specs.Steps.{mark, mark_each, marked_of, unmarked_of}
use Rattle.rules.proofs.Laws.Lists.Lists.{indicator, indicator_apart, occurrences-drop, occurrences-take}

-- One reading, by what it does to each slot: nothing to a marked one, a mark to the first unmarked one with its session.
by_mark : (Q : List TestedSlot → List TestedSlot → Type 0) (v : ℕ) → Q [] []
    → ((x : ℕ) (ps qs : List TestedSlot) → Q ps qs → Q (marked x ∷ ps) (marked x ∷ qs))
    → ((x : ℕ) (ps : List TestedSlot) → v ≡ x → Q (unmarked x ∷ ps) (marked x ∷ ps))
    → ((x : ℕ) (ps qs : List TestedSlot) → (v ≡ x → ⊥) → Q ps qs → Q (unmarked x ∷ ps) (unmarked x ∷ qs)) → (ps : List TestedSlot) → Q ps (mark v ps)
by_mark Q v none had gets past [] = none
by_mark Q v none had gets past (marked x ∷ ps) = had x ps (mark v ps) (by_mark Q v none had gets past ps)
by_mark Q v none had gets past (unmarked x ∷ ps) = by_cases (eqb v x) refl (by_mark Q v none had gets past ps)
  where
    by_cases : (b : Bool) → eqb v x ≡ b → Q ps (mark v ps) → Q (unmarked x ∷ ps) (cond b (marked x ∷ ps) (unmarked x ∷ mark v ps))
    by_cases true q h = gets x ps (eqb-true v x q)
    by_cases false q h = past x ps (mark v ps) (eqb-false v x q) h

-- ---- The slots, and the marks on them.
abbrev pub mark_count : List TestedSlot → ℕ
mark_count ps = length (marked_of ps)

pub length-mark : (v : ℕ) (ps : List TestedSlot) → length (mark v ps) ≡ length ps
length-mark v = by_mark (λ ps qs. length qs ≡ length ps) v refl (λ x ps qs e. ap suc e) (λ x ps q. refl) (λ x ps qs q e. ap suc e)

pub length-mark_each : (vs : List ℕ) (ps : List TestedSlot) → length (mark_each vs ps) ≡ length ps
length-mark_each [] ps = refl
length-mark_each (v ∷ vs) ps = length-mark_each vs (mark v ps) ∙ length-mark v ps

mark_count-mark : (v : ℕ) (ps : List TestedSlot) → mark_count (mark v ps) ≤ mark_count ps + 1
mark_count-mark v =
    by_mark (λ ps qs. mark_count qs ≤ mark_count ps + 1) v (omega arith) (λ x ps qs e. omega arith) (λ x ps q. omega arith) (λ x ps qs q e. e)

pub mark_count-mark_each : (vs : List ℕ) (ps : List TestedSlot) → mark_count (mark_each vs ps) ≤ mark_count ps + length vs
mark_count-mark_each [] ps = omega arith
mark_count-mark_each (v ∷ vs) ps = omega (arith, mark_count-mark_each vs (mark v ps), mark_count-mark v ps)

pub unmarked_and_marked : (ps : List TestedSlot) → length (unmarked_of ps) + length (marked_of ps) ≡ length ps
unmarked_and_marked [] = refl
unmarked_and_marked (unmarked x ∷ ps) = omega (arith, unmarked_and_marked ps)
unmarked_and_marked (marked x ∷ ps) = omega (arith, unmarked_and_marked ps)

pub mark_count-begin : (w : List ℕ) → mark_count (map unmarked w) ≡ 0
mark_count-begin [] = refl
mark_count-begin (x ∷ w) = mark_count-begin w

-- ---- The copies of a session on the tested slots.
abbrev pub tested_copies : ℕ → List TestedSlot → ℕ
tested_copies s ps = occurrences s (unmarked_of ps) + occurrences s (marked_of ps)

pub tested_copies-begin : (s : ℕ) (w : List ℕ) → tested_copies s (map unmarked w) ≡ occurrences s w
tested_copies-begin s [] = refl
tested_copies-begin s (x ∷ w) = omega (arith, tested_copies-begin s w)

pub marked_copies_begin : (s : ℕ) (w : List ℕ) → occurrences s (marked_of (map unmarked w)) ≡ 0
marked_copies_begin s [] = refl
marked_copies_begin s (x ∷ w) = marked_copies_begin s w

pub tested_copies-mark : (s v : ℕ) (ps : List TestedSlot) → tested_copies s (mark v ps) ≡ tested_copies s ps
tested_copies-mark s v =
    by_mark (λ ps qs. tested_copies s qs ≡ tested_copies s ps) v refl (λ x ps qs e. omega arith) (λ x ps q. omega arith) (λ x ps qs q e. omega arith)

pub tested_copies-mark_each : (s : ℕ) (vs : List ℕ) (ps : List TestedSlot) → tested_copies s (mark_each vs ps) ≡ tested_copies s ps
tested_copies-mark_each s [] ps = refl
tested_copies-mark_each s (v ∷ vs) ps = tested_copies-mark_each s vs (mark v ps) ∙ tested_copies-mark s v ps

-- a session that is not read is not marked
marked_copies_mark : (s v : ℕ) → indicator s v ≡ 0 → (ps : List TestedSlot) → occurrences s (marked_of (mark v ps)) ≡ occurrences s (marked_of ps)
marked_copies_mark s v h =
    by_mark (λ ps qs. occurrences s (marked_of qs) ≡ occurrences s (marked_of ps)) v refl (λ x ps qs e. omega arith) (λ x ps q. omega (arith, ap (indicator s) q))
    (λ x ps qs q e. e)

pub marked_copies_mark_each : (s : ℕ) (vs : List ℕ) (ps : List TestedSlot) → occurrences s vs ≡ 0
    → occurrences s (marked_of (mark_each vs ps)) ≡ occurrences s (marked_of ps)
marked_copies_mark_each s [] ps h = refl
marked_copies_mark_each s (v ∷ vs) ps h = marked_copies_mark_each s vs (mark v ps) (omega arith) ∙ marked_copies_mark s v (omega arith) ps

-- a session that is read marks a copy of it, if one is left
pub mark_finds_a_copy : (s v : ℕ) (ps : List TestedSlot)
    → min (occurrences s (marked_of ps) + indicator s v) (tested_copies s ps) ≤ occurrences s (marked_of (mark v ps))
mark_finds_a_copy s v =
    by_mark (λ ps qs. min (occurrences s (marked_of ps) + indicator s v) (tested_copies s ps) ≤ occurrences s (marked_of qs)) v (omega arith)
    (λ x ps qs h. omega arith) (λ x ps q. omega (arith, ap (indicator s) q)) (λ x ps qs q h. omega (arith, indicator_apart s v x q))

-- The screens read by one collect.
pub length-next_screens : (k : ℕ) (shown : List ℕ) → length (take 2 (drop k shown)) ≡ min 2 (length shown - k)
length-next_screens k shown = simp (length-take, length-drop)

pub occurrences-next_screens : (s k : ℕ) (shown : List ℕ) → occurrences s shown ≡ 0 → occurrences s (take 2 (drop k shown)) ≡ 0
occurrences-next_screens s k shown h = omega (arith, occurrences-take s 2 (drop k shown), occurrences-drop s k shown)
