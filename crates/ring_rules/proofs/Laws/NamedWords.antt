-- Words that a list names, or does not: offsets in a record, ranges of numbers.
use Rattle.std.specs.Prelude.{ℕ, zero, suc, ◌+◌, ◌≤◌, ◌<◌, ◌≡◌, refl, Bool, true, false, List, [], ◌∷◌, ◌++◌, map, eqb, ltb}
use Rattle.std.proofs.Common.{arith, sym, ap, eq-eqb, eqb-true, ltb-false}
use Rattle.std.proofs.Math.Decide.{dec_lt, ℕ_discrete}
use Rattle.std.proofs.lemmas.Bool.{eqb-false}
use Rattle.rules.specs.Lists.{occurrences, to_nat}
use Rattle.rules.proofs.Laws.Lists.Lists.{indicator, indicator_other, indicator_same, occurrences-append}
use Rattle.ring_rules.specs.RingDemands.{range}

-- a word that is not named
pub unnamed : (i : ℕ) (names : List ℕ) → ltb 0 (occurrences i names) ≡ false → occurrences i names ≡ 0
unnamed i names e = omega (arith, ltb-false 0 (occurrences i names) e)

pub not_first : (i x : ℕ) (names : List ℕ) → occurrences i (x ∷ names) ≡ 0 → (i ≡ x → ⊥) × (occurrences i names ≡ 0)
not_first i x names e = ((λ same. omega (arith, ap (indicator i) same, indicator_same i, e)), omega (arith, e))

pub not_either : (i : ℕ) (xs ys : List ℕ) → occurrences i (xs ++ ys) ≡ 0 → (occurrences i xs ≡ 0) × (occurrences i ys ≡ 0)
not_either i xs ys e = (omega (arith, occurrences-append i xs ys), omega (arith, occurrences-append i xs ys))

-- the same offset, from the start of a record on
same_indicator : (a j x : ℕ) → indicator (a + j) (a + x) ≡ indicator j x
same_indicator a j x = by_offset (eqb j x) refl
  where
    by_offset : (b : Bool) → eqb j x ≡ b → indicator (a + j) (a + x) ≡ to_nat b
    by_offset true e = ap to_nat (eq-eqb (a + j) (a + x) (ap (λ (k : ℕ). a + k) (eqb-true j x e)))
    by_offset false e = indicator_other (a + j) (a + x) (λ same. eqb-false j x e (omega arith))

pub offsets_named : (a j : ℕ) (xs : List ℕ) → occurrences (a + j) (map (λ offset. a + offset) xs) ≡ occurrences j xs
offsets_named a j [] = refl
offsets_named a j (x ∷ xs) = omega (arith, same_indicator a j x, offsets_named a j xs)

-- every number of a range is named, and so is what a function makes of it
pub range-named : (f : ℕ → ℕ) (m n i : ℕ) → m ≤ i → i < m + n → 1 ≤ occurrences (f i) (map f (range m n))
range-named f m zero i h l = absurd (omega arith)
range-named f m (suc n) i h l = by_first (ℕ_discrete i m) (λ other. range-named f (suc m) n i (omega arith) (omega arith))
  where
    by_first : Dec (i ≡ m) → ((i ≡ m → ⊥) → 1 ≤ occurrences (f i) (map f (range (suc m) n))) → 1 ≤ occurrences (f i) (f m ∷ map f (range (suc m) n))
    by_first (yes e) later = omega (arith, ap (λ (k : ℕ). indicator (f i) (f k)) (sym e), indicator_same (f i))
    by_first (no e) later = omega (arith, later e)

pub outside_range : (f : ℕ → ℕ) (m n i : ℕ) → occurrences (f i) (map f (range m n)) ≡ 0 → m ≤ i → m + n ≤ i
outside_range f m n i e h = by_place (dec_lt i (m + n))
  where
    by_place : Dec (i < m + n) → m + n ≤ i
    by_place (yes l) = absurd (omega (arith, range-named f m n i h l))
    by_place (no l) = omega arith
