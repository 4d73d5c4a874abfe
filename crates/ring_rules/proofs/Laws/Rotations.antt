-- Lists read from one of their elements on and around: back again, and what a store does. The slots of a ring.
use Rattle.std.specs.Prelude.{ℕ, suc, ◌+◌, ◌*◌, ◌-◌, ◌≤◌, ◌<◌, ◌≡◌, refl, Bool, true, false, cond, ltb, List, [], ◌∷◌, ◌++◌, length, get_or, take, drop, set}
use Rattle.std.proofs.Common.{arith, sym, ap, ap₂, ◌∙◌, ltb-true, ltb-false, append_assoc, append-nil, length-append, length-drop, length-set, take-append-drop, drop_of_length-le, drop_at, drop-drop, take-add, take-take, drop-cons, drop-set-lt, get_or-append-add, get_or-drop, get_or-take, length-take-le, take_at, take-suc-set, take_all}
use Rattle.std.proofs.Math.ListN.{get_or-append}
use Rattle.std.proofs.Math.Seq.{drop-append-add, take-append-add, take-set-lt}
use Rattle.std.proofs.lemmas.List.{drop-append-le, take-append-le, drop-set-add, set-append_left, take-set-le}
use Rattle.rules.proofs.Laws.Lists.ListSlices.{set_append_add}
use Rattle.ring_rules.specs.Ring.{slot_after, rotate}

pub rotate-length : (b : ℕ) (l : List ℕ) → length (rotate b l) ≡ length l
rotate-length b l = omega (arith, length-append (drop b l) (take b l), length-append (take b l) (drop b l), ap length (take-append-drop b l))

-- rotated by b, then by the rest of its length, a list is as it was
pub rotate-back : (b m : ℕ) (l : List ℕ) → length l ≡ m → b ≤ m → rotate (m - b) (rotate b l) ≡ l
rotate-back b m l e h =
    let n : length (drop b l) ≡ m - b = omega (arith, length-drop b l) in
    ap₂ {C = List ℕ} (λ x y. x ++ y) (drop_at (drop b l) (take b l) (m - b) n) (take_at (drop b l) (take b l) (m - b) n) ∙ take-append-drop b l

pub rotate_there : (b m : ℕ) (l : List ℕ) → length l ≡ m → b ≤ m → rotate b (rotate (m - b) l) ≡ l
rotate_there b m l e h =
    let q : b ≡ m - (m - b) = omega arith in
    ap (λ (k : ℕ). rotate k (rotate (m - b) l)) q ∙ rotate-back (m - b) m l e (omega arith)

-- element i of the rotated list is at b + i, or once around
module _ (b : ℕ) (l : List ℕ) (h : b ≤ length l) where
  tail_length : length (drop b l) ≡ length l - b
  tail_length = length-drop b l

  pub rotate_get : (i : ℕ) → b + i < length l → get_or (rotate b l) i 0 ≡ get_or l (b + i) 0
  rotate_get i g = get_or-append (drop b l) (take b l) 0 i (omega (arith, tail_length)) ∙ get_or-drop b l i 0

  pub rotate_get_around : (i j : ℕ) → i < length l → b + i ≡ length l + j → get_or (rotate b l) i 0 ≡ get_or l j 0
  rotate_get_around i j g e =
      let q : i ≡ length (drop b l) + j = omega (arith, tail_length) in
      ap (λ (k : ℕ). get_or (rotate b l) k 0) q ∙ get_or-append-add (drop b l) (take b l) j 0 ∙ get_or-take b l j 0 (omega arith)

  pub rotate-set : (i v : ℕ) → b + i < length l → rotate b (set l (b + i) v) ≡ set (rotate b l) i v
  rotate-set i v g =
      ap₂ {C = List ℕ} (λ x y. x ++ y) (drop-set-add b l i v) (take-set-le b l (b + i) v (omega arith))
      ∙ sym (set-append_left (drop b l) (take b l) i v (omega (arith, tail_length)))

  pub rotate-set-around : (i j v : ℕ) → i < length l → b + i ≡ length l + j → rotate b (set l j v) ≡ set (rotate b l) i v
  rotate-set-around i j v g e =
      let q : length (drop b l) + j ≡ i = omega (arith, tail_length) in
      ap₂ {C = List ℕ} (λ x y. x ++ y) (drop-set-lt b l j v (omega arith)) (take-set-lt b l j v (omega arith))
      ∙ sym (set_append_add (drop b l) (take b l) j v)
      ∙ ap (λ (k : ℕ). set (rotate b l) k v) q

-- the first element becomes 0 and the list begins at the next: the others first, then 0
pub rotate-next : (b : ℕ) (l : List ℕ) → b < length l → rotate (b + 1) (set l b 0) ≡ drop 1 (rotate b l) ++ (0 ∷ [])
rotate-next b l h =
    let z : b + 1 ≡ suc b = omega arith in
    let d : drop 1 (rotate b l) ≡ drop (suc b) l ++ take b l = ap (λ (x : List ℕ). drop 1 (x ++ take b l)) (drop-cons l b 0 h) in
    ap (λ (k : ℕ). rotate k (set l b 0)) z
    ∙ ap₂ {C = List ℕ} (λ x y. x ++ y) (drop-set-lt (suc b) l b 0 (omega arith)) (take-suc-set l b 0 h)
    ∙ sym (append_assoc (drop (suc b) l) (take b l) (0 ∷ []))
    ∙ ap (λ (x : List ℕ). x ++ (0 ∷ [])) (sym d)

-- rotated by its whole length, it is as it was
pub rotate_all : (m : ℕ) (l : List ℕ) → length l ≡ m → rotate 0 l ≡ rotate m l
rotate_all m l e =
    append-nil l ∙ sym (ap₂ {C = List ℕ} (λ x y. x ++ y) (drop_of_length-le l {i = m} (omega arith)) (take_all m l (omega arith)))

-- ---- The 2S slots of a ring.
module _ (S b : ℕ) (l : List ℕ) (long : length l ≡ 2 * S) (h : b < 2 * S) where
  pub slot_get : (i : ℕ) → i < 2 * S → get_or (rotate b l) i 0 ≡ get_or l (slot_after S b i) 0
  slot_get i g = by_wrap (ltb (b + i) (2 * S)) refl
    where
      by_wrap : (q : Bool) → ltb (b + i) (2 * S) ≡ q → get_or (rotate b l) i 0 ≡ get_or l (cond q (b + i) (b + i - 2 * S)) 0
      by_wrap true e = let n = ltb-true (b + i) (2 * S) e in rotate_get b l (omega arith) i (omega arith)
      by_wrap false e = let n = ltb-false (b + i) (2 * S) e in rotate_get_around b l (omega arith) i (b + i - 2 * S) (omega arith) (omega arith)

  pub slot_set : (i v : ℕ) → i < 2 * S → rotate b (set l (slot_after S b i) v) ≡ set (rotate b l) i v
  slot_set i v g = by_wrap (ltb (b + i) (2 * S)) refl
    where
      by_wrap : (q : Bool) → ltb (b + i) (2 * S) ≡ q → rotate b (set l (cond q (b + i) (b + i - 2 * S)) v) ≡ set (rotate b l) i v
      by_wrap true e = let n = ltb-true (b + i) (2 * S) e in rotate-set b l (omega arith) i v (omega arith)
      by_wrap false e = let n = ltb-false (b + i) (2 * S) e in rotate-set-around b l (omega arith) i (b + i - 2 * S) v (omega arith) (omega arith)

  -- the first session leaves
  pub slot_next : rotate (slot_after S b 1) (set l b 0) ≡ drop 1 (rotate b l) ++ (0 ∷ [])
  slot_next = by_wrap (ltb (b + 1) (2 * S)) refl
    where
      by_wrap : (q : Bool) → ltb (b + 1) (2 * S) ≡ q → rotate (cond q (b + 1) (b + 1 - 2 * S)) (set l b 0) ≡ drop 1 (rotate b l) ++ (0 ∷ [])
      by_wrap true e = rotate-next b l (omega arith)
      by_wrap false e =
          let n = ltb-false (b + 1) (2 * S) e in
          let z : b + 1 - 2 * S ≡ 0 = omega arith in
          ap (λ (k : ℕ). rotate k (set l b 0)) z ∙ rotate_all (b + 1) (set l b 0) (omega (arith, length-set l b 0)) ∙ rotate-next b l (omega arith)

  -- rotated twice
  pub slot_rotate : (a : ℕ) → a ≤ 2 * S → rotate a (rotate b l) ≡ rotate (slot_after S b a) l
  slot_rotate a g = by_wrap (ltb (b + a) (2 * S)) refl
    where
      tail : length (drop b l) ≡ 2 * S - b
      tail = omega (arith, length-drop b l)

      rejoin : (j : ℕ) → j ≤ b → drop j (take b l) ++ drop b l ≡ drop j l
      rejoin j g =
          let lb = length-take-le b l (omega arith) in
          sym (drop-append-le j (take b l) (drop b l) (omega (arith, lb))) ∙ ap (drop j) (take-append-drop b l)

      by_wrap : (q : Bool) → ltb (b + a) (2 * S) ≡ q → rotate a (rotate b l) ≡ rotate (cond q (b + a) (b + a - 2 * S)) l
      by_wrap true e =
          let n = ltb-true (b + a) (2 * S) e in
          ap₂ {C = List ℕ} (λ x y. x ++ y) (drop-append-le a (drop b l) (take b l) (omega (arith, tail)) ∙ ap {B = List ℕ} (λ x. x ++ take b l) (drop-drop a b l)) (take-append-le a (drop b l) (take b l) (omega (arith, tail)))
          ∙ append_assoc (drop (b + a) l) (take b l) (take a (drop b l))
          ∙ ap {B = List ℕ} (λ x. drop (b + a) l ++ x) (sym (take-add b a l))
      by_wrap false e =
          let n = ltb-false (b + a) (2 * S) e in
          let j = b + a - 2 * S in
          let z : a ≡ length (drop b l) + j = omega (arith, tail) in
          let y : j + (b - j) ≡ b = omega arith in
          ap (λ (k : ℕ). rotate k (rotate b l)) z
          ∙ ap₂ {C = List ℕ} (λ u v. u ++ v) (drop-append-add (drop b l) (take b l) j) (take-append-add (drop b l) (take b l) j)
          ∙ sym (append_assoc (drop j (take b l)) (drop b l) (take j (take b l)))
          ∙ ap₂ {C = List ℕ} (λ u v. u ++ v) (rejoin j (omega arith)) (take-take j b l (omega arith))
