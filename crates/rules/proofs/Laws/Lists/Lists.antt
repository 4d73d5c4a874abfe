-- How often a session occurs in a list, how often after the first n elements, and what a store changes.
use Rattle.std.specs.Prelude.{ℕ, zero, suc, ◌+◌, ◌≤◌, ◌<◌, ◌≡◌, refl, Bool, true, false, cond, List, [], ◌∷◌, ◌++◌, length, get_or, take, drop, set, eqb}
use Rattle.std.proofs.Common.{arith, sym, ap, ◌∙◌, drop_of_length-le, get_or-set_same, get_or-set_other, drop-drop, eqb-true, eq-eqb, ne_eqb}
use Rattle.std.proofs.lemmas.Bool.{eqb-false}
use Rattle.rules.specs.Lists.{occurrences, to_nat}

-- 1 where two sessions are the same, and else 0
abbrev pub indicator : ℕ → ℕ → ℕ
indicator s x = to_nat (eqb s x)

pub indicator_other : (s x : ℕ) → (s ≡ x → ⊥) → indicator s x ≡ 0
indicator_other s x h = ap to_nat (ne_eqb s x h)

pub one_if_le : (b : Bool) → to_nat b ≤ 1
one_if_le true = omega arith
one_if_le false = omega arith

pub indicator_same : (x : ℕ) → indicator x x ≡ 1
indicator_same x = ap to_nat (eq-eqb x x refl)

pub indicator_at_most_one : (s x : ℕ) → indicator s x ≤ 1
indicator_at_most_one s x = one_if_le (eqb s x)

-- one session is not two others
pub indicator_apart : (s v x : ℕ) → (v ≡ x → ⊥) → indicator s v + indicator s x ≤ 1
indicator_apart s v x h = by_cases (eqb s v) refl
  where
    by_cases : (b : Bool) → eqb s v ≡ b → to_nat b + indicator s x ≤ 1
    by_cases true q = omega (arith, indicator_other s x (λ e. h (sym (eqb-true s v q) ∙ e)))
    by_cases false q = omega (arith, indicator_at_most_one s x)

pub occurrences-append : (s : ℕ) (xs ys : List ℕ) → occurrences s (xs ++ ys) ≡ occurrences s xs + occurrences s ys
occurrences-append s [] ys = omega arith
occurrences-append s (x ∷ xs) ys = omega (arith, occurrences-append s xs ys)

pub occurrences-drop : (s n : ℕ) (xs : List ℕ) → occurrences s (drop n xs) ≤ occurrences s xs
occurrences-drop s zero xs = omega arith
occurrences-drop s (suc n) [] = omega arith
occurrences-drop s (suc n) (x ∷ xs) = omega (arith, occurrences-drop s n xs)

pub occurrences-take : (s n : ℕ) (xs : List ℕ) → occurrences s (take n xs) ≤ occurrences s xs
occurrences-take s zero xs = omega arith
occurrences-take s (suc n) [] = omega arith
occurrences-take s (suc n) (x ∷ xs) = omega (arith, occurrences-take s n xs)

pub occurrences-drop-append : (s n : ℕ) (xs ys : List ℕ) → occurrences s (drop n (xs ++ ys)) ≤ occurrences s (drop n xs) + occurrences s ys
occurrences-drop-append s zero xs ys = omega (arith, occurrences-append s xs ys)
occurrences-drop-append s (suc n) [] ys = omega (arith, occurrences-drop s (suc n) ys)
occurrences-drop-append s (suc n) (x ∷ xs) ys = omega (arith, occurrences-drop-append s n xs ys)

pub drop-after-first : (n : ℕ) (xs : List ℕ) → drop n (drop 1 xs) ≡ drop (suc n) xs
drop-after-first n xs = let e : 1 + n ≡ suc n = omega arith in drop-drop n 1 xs ∙ ap (λ (m : ℕ). drop m xs) e

pub occurrences_past_end : (s n : ℕ) (xs : List ℕ) → length xs ≤ n → occurrences s (drop n xs) ≡ 0
occurrences_past_end s n xs h = ap (occurrences s) (drop_of_length-le xs h)

-- an element of a list after a store
pub get_after_set : (xs : List ℕ) (i j v : ℕ) → i < length xs → get_or (set xs i v) j 0 ≡ cond (eqb i j) v (get_or xs j 0)
get_after_set xs i j v h = by_cases (eqb i j) refl
  where
    by_cases : (b : Bool) → eqb i j ≡ b → get_or (set xs i v) j 0 ≡ cond b v (get_or xs j 0)
    by_cases true t = ap (λ (m : ℕ). get_or (set xs i v) m 0) (sym (eqb-true i j t)) ∙ get_or-set_same xs i v 0 h
    by_cases false t = let ne = eqb-false i j t in get_or-set_other xs i j v 0 (λ m. ne (sym m))
