-- Slots of a list from one of them on and around: the parts of the list that they are, a loop that reads or writes them, their partition.
use Prim.Native.Nat.{ℕ, suc, ◌+◌, ◌-◌, ◌*◌, ◌≤◌, ◌<◌}
use native.Mathlib.Omega.{arith}
use mathlib.Core.Bool.{Bool, ◌&&◌, and_assoc}
use mathlib.Core.List.{List, [], ◌∷◌, ◌++◌, append_assoc}
use mathlib.Core.Path.{◌≡◌, refl, sym, ap, ap₂, ◌∙◌}
use lib.ListN.{length, get_or, take, drop, set, length-append, length-drop, length-replicate, replicate}
use lib.Seq.{drop-append-add, drop-append-le, drop_at, drop-cons, get_or-take, length-take-le, set_at, take-add, take_all, take-append-add, take-append-le, take_at, take-suc, take-take}
use borrow.Rule.Slice.PartMut.{mid_len, mid_of, put_mid}
use Rattle.rules.specs.Bytes.{words_of_bytes}
use Rattle.rules.specs.Lists.{every}
use Rattle.words.proofs.Copies.{copy_next}
use Rattle.words.proofs.Laws.{length-words, words-part, words_put, words_take}
use Rattle.marks.specs.Marks.{pick}
use Rattle.ring_rules.specs.Ring.{rotate, slot_after}
use Rattle.ring_desk.specs.Around.{Parted}
use Rattle.ring_rules.proofs.Laws.Rotations.{rotate-back, rotate-length, slot_get, slot_set}

-- a test of all elements of a list in two parts
pub every_append : (f : ℕ → Bool) (xs ys : List ℕ) → every f (xs ++ ys) ≡ every f xs && every f ys
every_append f [] ys = refl
every_append f (x ∷ xs) ys = ap (λ (b : Bool). f x && b) (every_append f xs ys) ∙ sym (and_assoc (f x) (every f xs) (every f ys))

-- ---- n slots from slot a on, of the 2s slots of a list
module _ (s a : ℕ) (l : List ℕ) (long : length l ≡ 2 * s) (h : a < 2 * s) where
  behind : length (drop a l) ≡ 2 * s - a
  behind = omega (arith, length-drop a l)

  pub around-length : (n : ℕ) → n ≤ 2 * s → length (take n (rotate a l)) ≡ n
  around-length n few = length-take-le n (rotate a l) (omega (arith, rotate-length a l))

  pub around_word : (n j p : ℕ) → n ≤ 2 * s → j < n → p ≡ slot_after s a j → get_or l p 0 ≡ get_or (take n (rotate a l)) j 0
  around_word n j p few below is =
      ap (λ (k : ℕ). get_or l k 0) is ∙ sym (get_or-take n (rotate a l) j 0 below ∙ slot_get s a l long h j (omega arith))

  -- they are one part of the list, or its end and its front
  pub around_inside : (n : ℕ) → a + n ≤ 2 * s → take n (rotate a l) ≡ take (a + n - a) (drop a l)
  around_inside n fits =
      let e : n ≡ a + n - a = omega arith in
      take-append-le n (drop a l) (take a l) (omega (arith, behind)) ∙ ap (λ (k : ℕ). take k (drop a l)) e

  pub around_past : (n : ℕ) → n ≤ 2 * s → 2 * s < a + n → take n (rotate a l) ≡ take (2 * s - a) (drop a l) ++ take (a + n - 2 * s) l
  around_past n few past =
      let e : n ≡ length (drop a l) + (a + n - 2 * s) = omega (arith, behind) in
      ap (λ (k : ℕ). take k (rotate a l)) e ∙ take-append-add (drop a l) (take a l) (a + n - 2 * s)
      ∙ ap₂ {C = List ℕ} (λ x y. x ++ y) (sym (take_all (2 * s - a) (drop a l) (omega (arith, behind)))) (take-take (a + n - 2 * s) a l (omega arith))

  -- one word more is read
  pub read_next : (part : List ℕ) (i p : ℕ) → i < length part → length part ≤ 2 * s → p ≡ slot_after s a i → take i part ≡ take i (rotate a l)
      → take (i + 1) (set part i (get_or l p 0)) ≡ take (i + 1) (rotate a l)
  read_next part i p below few is read =
      let word : get_or l p 0 ≡ get_or (rotate a l) i 0 = ap (λ (k : ℕ). get_or l k 0) is ∙ sym (slot_get s a l long h i (omega arith)) in
      ap (λ (v : ℕ). take (i + 1) (set part i v)) word ∙ copy_next part (rotate a l) i below (omega (arith, rotate-length a l)) read

-- ---- a test of n slots from slot a on, on the bytes of a list: of one part, or of the end and then the front
module _ (f : ℕ → Bool) (s a n : ℕ) (bytes : List ℕ) (long : length bytes ≡ 2 * (2 * s)) (h : a < 2 * s) (few : n ≤ 2 * s) where
  words_long : length (words_of_bytes bytes) ≡ 2 * s
  words_long = omega (arith, length-words bytes)

  pub test_inside : a + n ≤ 2 * s → every f (take n (rotate a (words_of_bytes bytes))) ≡ every f (words_of_bytes (mid_of (2 * a) (2 * (a + n) - 2 * a) bytes))
  test_inside fits = ap (every f) (around_inside s a (words_of_bytes bytes) words_long h n fits ∙ sym (words-part a (a + n) bytes))

  pub test_past : 2 * s < a + n
      → every f (take n (rotate a (words_of_bytes bytes))) ≡ every f (words_of_bytes (mid_of (2 * a) (length bytes - 2 * a) bytes)) && every f (words_of_bytes (take (2 * (a + n - 2 * s)) bytes))
  test_past past =
      let e : 2 * (2 * s) - 2 * a ≡ length bytes - 2 * a = omega arith in
      ap (every f) (around_past s a (words_of_bytes bytes) words_long h n few past) ∙ every_append f (take (2 * s - a) (drop a (words_of_bytes bytes))) (take (a + n - 2 * s) (words_of_bytes bytes))
      ∙ ap₂ {C = Bool} (λ x y. every f x && every f y) (sym (words-part a (2 * s) bytes) ∙ ap (λ (k : ℕ). words_of_bytes (mid_of (2 * a) k bytes)) e) (sym (words_take (a + n - 2 * s) bytes))

  -- the same test of the other slots, where these are the part between
  pub rest_past : 2 * s < a + n → every f (drop n (rotate a (words_of_bytes bytes))) ≡ every f (words_of_bytes (mid_of (2 * (a + n - 2 * s)) (2 * a - 2 * (a + n - 2 * s)) bytes))
  rest_past past =
      let words = words_of_bytes bytes in
      let j = a + n - 2 * s in
      let all : n ≡ length (drop a words) + j = omega (arith, length-drop a words, words_long) in
      let front : a ≡ j + (a - j) = omega arith in
      ap (every f) (ap (λ (k : ℕ). drop k (rotate a words)) all ∙ drop-append-add (drop a words) (take a words) j ∙ ap (λ (k : ℕ). drop j (take k words)) front
      ∙ ap (drop j) (take-add j (a - j) words) ∙ drop_at (take j words) (take (a - j) (drop j words)) j (length-take-le j words (omega (arith, words_long)))
      ∙ sym (words-part j a bytes))

-- one word more is written
pub write_next : (s a : ℕ) (l₀ l part : List ℕ) (i p : ℕ) → length l₀ ≡ 2 * s → length l ≡ 2 * s → a < 2 * s → i < length part → length part ≤ 2 * s → p ≡ slot_after s a i
    → rotate a l ≡ take i part ++ drop i (rotate a l₀) → rotate a (set l p (get_or part i 0)) ≡ take (i + 1) part ++ drop (i + 1) (rotate a l₀)
write_next s a l₀ l part i p long₀ long h below few is written =
    let v = get_or part i 0 in
    let before = rotate a l₀ in
    let first : length (take i part) ≡ i = length-take-le i part (omega arith) in
    let next : suc i ≡ i + 1 = omega arith in
    ap (λ (k : ℕ). rotate a (set l k v)) is ∙ slot_set s a l long h i v (omega arith)
    ∙ ap (λ (y : List ℕ). set y i v) (written ∙ ap {B = List ℕ} (λ y. take i part ++ y) (drop-cons before i 0 (omega (arith, rotate-length a l₀))))
    ∙ set_at (take i part) (get_or before i 0) (drop (suc i) before) v i first
    ∙ sym (append_assoc (take i part) (v ∷ []) (drop (suc i) before))
    ∙ ap {B = List ℕ} (λ y. y ++ drop (suc i) before) (sym (take-suc part i 0 below))
    ∙ ap (λ (k : ℕ). take k part ++ drop k before) next

-- ---- n slots from slot a on replaced by ys, where they do not pass the end of the list
module _ (a n : ℕ) (l ys : List ℕ) (fits : a + n ≤ length l) where
  rest : drop n (rotate a l) ≡ drop n (drop a l) ++ take a l
  rest = drop-append-le n (drop a l) (take a l) (omega (arith, length-drop a l))

  -- replaced in the list, they are replaced in the rotated list
  pub rotate_put : rotate a (put_mid a n l ys) ≡ ys ++ drop n (rotate a l)
  rotate_put =
      let first : length (take a l) ≡ a = length-take-le a l (omega arith) in
      let after : List ℕ = ys ++ drop n (drop a l) in
      ap₂ {C = List ℕ} (λ x y. x ++ y) (drop_at (take a l) after a first) (take_at (take a l) after a first)
      ∙ append_assoc ys (drop n (drop a l)) (take a l) ∙ ap (λ (x : List ℕ). ys ++ x) (sym rest)

  -- and back: the list is known by the rotated one
  pub put_rotated : (l' : List ℕ) → length l' ≡ length l → length ys ≡ n → rotate a l' ≡ ys ++ drop n (rotate a l) → l' ≡ take a l ++ (ys ++ drop n (drop a l))
  put_rotated l' same wide is =
      let m = length l in
      let after : List ℕ = ys ++ drop n (drop a l) in
      let long : length after ≡ m - a = omega (arith, length-append ys (drop n (drop a l)), length-drop n (drop a l), length-drop a l) in
      let rotated : rotate a l' ≡ after ++ take a l = is ∙ ap (λ (x : List ℕ). ys ++ x) rest ∙ sym (append_assoc ys (drop n (drop a l)) (take a l)) in
      sym (rotate-back a m l' same (omega arith)) ∙ ap (rotate (m - a)) rotated
      ∙ ap₂ {C = List ℕ} (λ x y. x ++ y) (drop_at after (take a l) (m - a) long) (take_at after (take a l) (m - a) long)

-- ---- a partition of n slots from slot a on: in place, where they are one part of the list
pub parted_inside : (s a n : ℕ) (bytes part marks : List ℕ) → length bytes ≡ 2 * (2 * s) → a < 2 * s → a + n ≤ 2 * s
    → length part ≡ length (mid_of (2 * a) (2 * (a + n) - 2 * a) bytes)
    → words_of_bytes part ≡ pick 0 marks (words_of_bytes (mid_of (2 * a) (2 * (a + n) - 2 * a) bytes)) ++ pick 1 marks (words_of_bytes (mid_of (2 * a) (2 * (a + n) - 2 * a) bytes))
    → Parted (words_of_bytes bytes) marks a n (words_of_bytes (put_mid (2 * a) (2 * (a + n) - 2 * a) bytes part))
parted_inside s a n bytes part marks long h fits same parted =
    let words = words_of_bytes bytes in
    let many : length words ≡ 2 * s = omega (arith, length-words bytes) in
    let e : a + n - a ≡ n = omega arith in
    let some : words_of_bytes (mid_of (2 * a) (2 * (a + n) - 2 * a) bytes) ≡ take n (rotate a words) = words-part a (a + n) bytes ∙ sym (around_inside s a words many h n fits) in
    let picked = parted ∙ ap (λ (x : List ℕ). pick 0 marks x ++ pick 1 marks x) some in
    ap (rotate a) (words_put a (a + n) bytes part (omega arith) (omega arith) (same ∙ mid_len (2 * a) (2 * (a + n)) bytes (omega arith)))
    ∙ (λ i. rotate a (put_mid a (e i) words (words_of_bytes part))) ∙ rotate_put a n words (words_of_bytes part) (omega (arith, many)) ∙ ap (λ (x : List ℕ). x ++ drop n (rotate a words)) picked

-- by way of a copy: what was read, its partition, and what is left when it is written back
pub parted_copy : (slots slots' marks : List ℕ) (a n : ℕ) (part part' : List ℕ) → part ≡ take n (rotate a slots) → part' ≡ pick 0 marks part ++ pick 1 marks part → length part' ≡ n
    → rotate a slots' ≡ part' ++ drop (length part') (rotate a slots) → Parted slots marks a n slots'
parted_copy slots slots' marks a n part part' read parted wide written =
    written ∙ (λ i. (parted ∙ ap (λ (x : List ℕ). pick 0 marks x ++ pick 1 marks x) read) i ++ drop (wide i) (rotate a slots))

-- the room for the copy
pub room-length : (n : ℕ) → n ≤ 128 → length (take (2 * n) (replicate {A = ℕ} 256 0)) ≡ 2 * n
room-length n few = length-take-le (2 * n) (replicate 256 0) (omega (arith, length-replicate {A = ℕ} 256 0))
