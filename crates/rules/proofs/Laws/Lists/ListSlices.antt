-- A list in three parts: reading, storing and replacing in the middle one. Assumes nothing.
use Rattle.std.specs.Prelude.{ℕ, suc, ◌+◌, ◌-◌, ◌≤◌, ◌<◌, ◌≡◌, List, [], ◌∷◌, ◌++◌, length, get_or, take, drop, set}
use Rattle.std.proofs.Common.{arith, sym, ap, ap₂, ◌∙◌, take_at, drop_at, get_or-append-add, get_or-drop, get_or-take, length-take-le}
use Rattle.std.proofs.Math.Decide.{dec_lt}
use Rattle.std.proofs.Math.ListN.{get_or-append}
use Rattle.std.proofs.lemmas.List.{set-append_left}

pub set_append_add : (a l : List ℕ) (i v : ℕ) → set (a ++ l) (length a + i) v ≡ a ++ set l i v
set_append_add [] l i v = let e : 0 + i ≡ i = omega arith in ap (λ (k : ℕ). set l k v) e
set_append_add (x ∷ a) l i v =
    let e : suc (length a) + i ≡ suc (length a + i) = omega arith in
    ap (λ (k : ℕ). set (x ∷ (a ++ l)) k v) e ∙ ap (λ (y : List ℕ). x ∷ y) (set_append_add a l i v)

module _ (a m b : List ℕ) (n : ℕ) (h : length a ≡ n) where
  pub get_mid : (i : ℕ) → i < length m → get_or (a ++ (m ++ b)) (n + i) 0 ≡ get_or m i 0
  get_mid i l = ap (λ (k : ℕ). get_or (a ++ (m ++ b)) (k + i) 0) (sym h) ∙ get_or-append-add a (m ++ b) i 0 ∙ get_or-append m b 0 i l

  pub set_mid : (i v : ℕ) → i < length m → set (a ++ (m ++ b)) (n + i) v ≡ a ++ (set m i v ++ b)
  set_mid i v l =
      ap (λ (k : ℕ). set (a ++ (m ++ b)) (k + i) v) (sym h) ∙ set_append_add a (m ++ b) i v ∙ ap (λ (y : List ℕ). a ++ y) (set-append_left m b i v l)

  pub take_mid : (w : ℕ) → length m ≡ w → take w (drop n (a ++ (m ++ b))) ≡ m
  take_mid w e = ap (take w) (drop_at a (m ++ b) n h) ∙ take_at m b w e

  pub put_mid_lem : (w : ℕ) (r : List ℕ) → length m ≡ w → take n (a ++ (m ++ b)) ++ (r ++ drop w (drop n (a ++ (m ++ b)))) ≡ a ++ (r ++ b)
  put_mid_lem w r e = ap₂ (λ (x y : List ℕ). x ++ (r ++ y)) (take_at a (m ++ b) n h) (ap (drop w) (drop_at a (m ++ b) n h) ∙ drop_at m b w e)

pub get_past : (a b : List ℕ) (i : ℕ) → length a ≤ i → get_or (a ++ b) i 0 ≡ get_or b (i - length a) 0
get_past a b i h =
    let e : length a + (i - length a) ≡ i = omega arith in ap (λ (k : ℕ). get_or (a ++ b) k 0) (sym e) ∙ get_or-append-add a b (i - length a) 0

-- ---- n elements from index a on replaced: those outside, and those inside.
module _ (t w : List ℕ) (a n : ℕ) (fits : a + n ≤ length t) (wide : length w ≡ n) where
  abbrev put : List ℕ
  put = take a t ++ (w ++ drop n (drop a t))

  starts : length (take a t) ≡ a
  starts = length-take-le a t (omega arith)

  put_before : (i : ℕ) → i < a → get_or put i 0 ≡ get_or t i 0
  put_before i h = get_or-append (take a t) (w ++ drop n (drop a t)) 0 i (omega (arith, starts)) ∙ get_or-take a t i 0 h

  put_inside : (j : ℕ) → j < n → get_or put (a + j) 0 ≡ get_or w j 0
  put_inside j h = get_mid (take a t) w (drop n (drop a t)) a starts j (omega arith)

  put_after : (i : ℕ) → a + n ≤ i → get_or put i 0 ≡ get_or t i 0
  put_after i h =
      get_past (take a t) (w ++ drop n (drop a t)) i (omega (arith, starts))
      ∙ get_past w (drop n (drop a t)) (i - length (take a t)) (omega (arith, starts))
      ∙ get_or-drop n (drop a t) (i - length (take a t) - length w) 0
      ∙ get_or-drop a t (n + (i - length (take a t) - length w)) 0
      ∙ (let e : a + (n + (i - length (take a t) - length w)) ≡ i = omega (arith, starts) in ap (λ (k : ℕ). get_or t k 0) e)

  -- what stands at an index: y, if it is so inside and outside
  pub put_is : (i y : ℕ) → ((j : ℕ) → j < n → a + j ≡ i → get_or w j 0 ≡ y) → ((a ≤ i → a + n ≤ i) → get_or t i 0 ≡ y) → get_or put i 0 ≡ y
  put_is i y inside outside = by_cases (dec_lt i a) (dec_lt i (a + n))
    where
      by_cases : Dec (i < a) → Dec (i < a + n) → get_or put i 0 ≡ y
      by_cases (yes l) m = put_before i l ∙ outside (λ h. omega arith)
      by_cases (no l) (yes m) =
          let e : a + (i - a) ≡ i = omega arith in
          ap (λ (k : ℕ). get_or put k 0) (sym e) ∙ put_inside (i - a) (omega arith) ∙ inside (i - a) (omega arith) e
      by_cases (no l) (no m) = put_after i (omega arith) ∙ outside (λ h. omega arith)
