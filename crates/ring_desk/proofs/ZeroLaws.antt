-- A count of the words that are 0, and what it says of the test of a list in two parts: the first without a 0, the second all 0.
use Prim.Native.Nat.{ℕ, suc, ◌+◌, ◌≤◌}
use native.Mathlib.Omega.{arith}
use mathlib.Core.Bool.{Bool, true, false, cond, not, ◌&&◌, and-false, false≢true}
use mathlib.Core.List.{List, [], ◌∷◌, ◌++◌}
use mathlib.Core.Path.{◌≡◌, refl, sym, ap}
use lib.Dec.{eqb}
use lib.ListN.{length, take, drop, take-append-drop}
use Rattle.words.specs.Words.{all_zero, lacks, zeros_in}
use Rattle.ring_rules.specs.Ring.{rotate}

zeros-append : (xs ys : List ℕ) → zeros_in (xs ++ ys) ≡ zeros_in xs + zeros_in ys
zeros-append [] ys = omega arith
zeros-append (x ∷ xs) ys = omega (arith, zeros-append xs ys)

zeros_few : (xs : List ℕ) → zeros_in xs ≤ length xs
zeros_few [] = omega arith
zeros_few (x ∷ xs) = few (eqb x 0) (zeros_few xs)
  where
    few : (b : Bool) → zeros_in xs ≤ length xs → cond b 1 0 + zeros_in xs ≤ suc (length xs)
    few true h = omega arith
    few false h = omega arith

-- none is 0 where the count is 0, and all are where it is the length
none_zero : (xs : List ℕ) → zeros_in xs ≡ 0 → lacks 0 xs ≡ true
none_zero [] e = refl
none_zero (x ∷ xs) e = first (eqb x 0) (none_zero xs) e
  where
    first : (b : Bool) → (zeros_in xs ≡ 0 → lacks 0 xs ≡ true) → cond b 1 0 + zeros_in xs ≡ 0 → not b && lacks 0 xs ≡ true
    first true others e = absurd (omega arith)
    first false others e = others (omega arith)

count_none : (xs : List ℕ) → lacks 0 xs ≡ true → zeros_in xs ≡ 0
count_none [] e = refl
count_none (x ∷ xs) e = first (eqb x 0) (count_none xs) e
  where
    first : (b : Bool) → (lacks 0 xs ≡ true → zeros_in xs ≡ 0) → not b && lacks 0 xs ≡ true → cond b 1 0 + zeros_in xs ≡ 0
    first true others e = absurd (false≢true e)
    first false others e = omega (arith, others e)

every_zero : (xs : List ℕ) → zeros_in xs ≡ length xs → all_zero xs ≡ true
every_zero [] e = refl
every_zero (x ∷ xs) e = first (eqb x 0) (every_zero xs) e
  where
    first : (b : Bool) → (zeros_in xs ≡ length xs → all_zero xs ≡ true) → cond b 1 0 + zeros_in xs ≡ suc (length xs) → b && all_zero xs ≡ true
    first true others e = others (omega arith)
    first false others e = absurd (omega (arith, zeros_few xs))

count-every : (xs : List ℕ) → all_zero xs ≡ true → zeros_in xs ≡ length xs
count-every [] e = refl
count-every (x ∷ xs) e = first (eqb x 0) (count-every xs) e
  where
    first : (b : Bool) → (all_zero xs ≡ true → zeros_in xs ≡ length xs) → b && all_zero xs ≡ true → cond b 1 0 + zeros_in xs ≡ suc (length xs)
    first true others e = omega (arith, others e)
    first false others e = absurd (false≢true e)

-- the count of a list read from slot a on and around, in its first n words and the others
pub zeros-around : (a n : ℕ) (l : List ℕ) → zeros_in l ≡ zeros_in (take n (rotate a l)) + zeros_in (drop n (rotate a l))
zeros-around a n l =
    omega (
      arith,
      ap zeros_in (take-append-drop a l),
      zeros-append (take a l) (drop a l),
      zeros-append (drop a l) (take a l),
      ap zeros_in (take-append-drop n (rotate a l)),
      zeros-append (take n (rotate a l)) (drop n (rotate a l)),
    )

-- ---- a list in two parts, xs and ys
module _ (xs ys : List ℕ) where
  -- the count is not the length of ys
  pub miscounted : (zeros_in xs + zeros_in ys ≡ length ys → ⊥) → lacks 0 xs && all_zero ys ≡ false
  miscounted other = found (lacks 0 xs) (all_zero ys) refl refl
    where
      found : (u z : Bool) → lacks 0 xs ≡ u → all_zero ys ≡ z → u && z ≡ false
      found false z p q = refl
      found true false p q = refl
      found true true p q = absurd (other (omega (arith, count_none xs p, count-every ys q)))

  -- it is: either part speaks for the other
  module _ (counted : zeros_in xs + zeros_in ys ≡ length ys) where
    pub first_speaks : lacks 0 xs ≡ lacks 0 xs && all_zero ys
    first_speaks = found (lacks 0 xs) refl
      where
        found : (u : Bool) → lacks 0 xs ≡ u → u ≡ u && all_zero ys
        found false p = refl
        found true p = sym (every_zero ys (omega (arith, count_none xs p)))

    pub second_speaks : all_zero ys ≡ lacks 0 xs && all_zero ys
    second_speaks = found (all_zero ys) refl
      where
        found : (z : Bool) → all_zero ys ≡ z → z ≡ lacks 0 xs && z
        found false p = sym (and-false (lacks 0 xs))
        found true p = sym (ap (λ (u : Bool). u && true) (none_zero xs (omega (arith, count-every ys p))))
