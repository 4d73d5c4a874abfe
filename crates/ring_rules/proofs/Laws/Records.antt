-- A ring's record and the record of the first board that it reads as: its parts, there and back, and what a store does.
use Prim.Native.Nat.{ℕ, zero, suc, ◌+◌, ◌*◌, ◌-◌, ◌≤◌, ◌<◌}
use Rattle.std.proofs.Common.{arith, ap₂, ◌∙◌, length-drop, length-set, take-append-drop, drop_of_length-le, drop_at, drop-cons, drop-drop, get_or-append-add, get_or-drop, get_or-take, length-take-le, take_at}
use Rattle.std.specs.Prelude.{◌≡◌, length, get_or, drop, set}
use Rattle.std.proofs.Math.Path.{sym, ap}
use mathlib.Core.List.{List, [], ◌∷◌, ◌++◌}
use Rattle.std.proofs.Math.ListN.{take, length-append, get_or-append}
use Rattle.std.proofs.lemmas.List.{get_or_at, set-append_left}
use Rattle.rules.specs.Bytes.{Words16}
use Rattle.rules.specs.Table.{list_offset, slots_in, tail_in, tail_offset, tail_words, width_for}
use Rattle.rules.proofs.Laws.Desk.Decoding.{small-drop, small-take}
use Rattle.rules.proofs.Laws.Lists.ListSlices.{set_append_add}
use Rattle.rules.proofs.Laws.Table.WordBounds.{below-append}
use Rattle.ring_rules.specs.Ring.{beginning_in, circular, linear, ring_width_for, rotate}
use Rattle.ring_rules.proofs.Laws.Rotations.{rotate-back, rotate-length, rotate_there}

-- ---- A record in its four parts: the words before the list, the slots, the tail of the first board's record, the beginning.
module _ (S : ℕ) (head slots tail : List ℕ) (b : ℕ) (head-long : length head ≡ list_offset) (slots-long : length slots ≡ 2 * S) (tail_long : length tail ≡ tail_words) where
  abbrev R : List ℕ
  R = head ++ (slots ++ (tail ++ (b ∷ [])))

  pub head_of : take list_offset R ≡ head
  head_of = take_at head (slots ++ (tail ++ (b ∷ []))) list_offset head-long

  pub slots_of_lem : slots_in S R ≡ slots
  slots_of_lem = ap (take (2 * S)) (drop_at head (slots ++ (tail ++ (b ∷ []))) list_offset head-long) ∙ take_at slots (tail ++ (b ∷ [])) (2 * S) slots-long

  past_slots : tail_in S R ≡ tail ++ (b ∷ [])
  past_slots =
      sym (drop-drop (2 * S) list_offset R)
      ∙ ap (drop (2 * S)) (drop_at head (slots ++ (tail ++ (b ∷ []))) list_offset head-long)
      ∙ drop_at slots (tail ++ (b ∷ [])) (2 * S) slots-long

  pub tail_of : take tail_words (tail_in S R) ≡ tail
  tail_of = ap (take tail_words) past_slots ∙ take_at tail (b ∷ []) tail_words tail_long

  pub beginning_of : beginning_in S R ≡ b
  beginning_of =
      let e : length head + (length slots + tail_words) ≡ width_for S = omega arith in
      ap (λ (k : ℕ). get_or R k 0) (sym e)
      ∙ get_or-append-add head (slots ++ (tail ++ (b ∷ []))) (length slots + tail_words) 0
      ∙ get_or-append-add slots (tail ++ (b ∷ [])) tail_words 0
      ∙ get_or_at tail b [] 0 tail_words tail_long

  pub linear_of : linear S R ≡ head ++ (rotate b slots ++ tail)
  unfolding linear
  linear_of = λ i. head_of i ++ (rotate (beginning_of i) (slots_of_lem i) ++ tail_of i)

-- A record of the first board in its three parts.
module _ (S : ℕ) (head slots tail : List ℕ) (head-long : length head ≡ list_offset) (slots-long : length slots ≡ 2 * S) where
  abbrev W : List ℕ
  W = head ++ (slots ++ tail)

  first_head : take list_offset W ≡ head
  first_head = take_at head (slots ++ tail) list_offset head-long

  first-slots : slots_in S W ≡ slots
  first-slots = ap (take (2 * S)) (drop_at head (slots ++ tail) list_offset head-long) ∙ take_at slots tail (2 * S) slots-long

  first_tail : tail_in S W ≡ tail
  first_tail =
      sym (drop-drop (2 * S) list_offset W) ∙ ap (drop (2 * S)) (drop_at head (slots ++ tail) list_offset head-long) ∙ drop_at slots tail (2 * S) slots-long

  pub circular_of : (b : ℕ) → circular S b W ≡ head ++ (rotate (2 * S - b) slots ++ (tail ++ (b ∷ [])))
  unfolding circular
  circular_of b = λ i. first_head i ++ (rotate (2 * S - b) (first-slots i) ++ (first_tail i ++ (b ∷ [])))

rotate-words : (n : ℕ) (l : List ℕ) → Words16 l → Words16 (rotate n l)
rotate-words n l small = below-append 65536 (drop n l) (take n l) (small-drop n l small) (small-take n l small)

-- ---- The parts of any record of the right length.
pub head-length : (S : ℕ) (r : List ℕ) → width_for S ≤ length r → length (take list_offset r) ≡ list_offset
head-length S r long = length-take-le list_offset r (omega arith)

pub slots_length : (S : ℕ) (r : List ℕ) → width_for S ≤ length r → length (slots_in S r) ≡ 2 * S
slots_length S r long = length-take-le (2 * S) (drop list_offset r) (omega (arith, length-drop list_offset r))

pub tail_length : (S : ℕ) (r : List ℕ) → width_for S ≤ length r → length (take tail_words (tail_in S r)) ≡ tail_words
tail_length S r long = length-take-le tail_words (tail_in S r) (omega (arith, length-drop (tail_offset S) r))

three_parts : (S : ℕ) (r : List ℕ) → r ≡ take list_offset r ++ (slots_in S r ++ tail_in S r)
three_parts S r =
    sym
    (ap (λ (x : List ℕ). take list_offset r ++ (slots_in S r ++ x)) (sym (drop-drop (2 * S) list_offset r))
    ∙ ap (λ (x : List ℕ). take list_offset r ++ x) (take-append-drop (2 * S) (drop list_offset r))
    ∙ take-append-drop list_offset r)

pub parts_of_lem : (S : ℕ) (r : List ℕ) → length r ≡ ring_width_for S → r ≡ take list_offset r ++ (slots_in S r ++ (take tail_words (tail_in S r) ++ (beginning_in S r ∷ [])))
parts_of_lem S r long =
    let last : drop tail_words (tail_in S r) ≡ beginning_in S r ∷ [] =
    drop-drop tail_words (tail_offset S) r ∙ drop-cons r (width_for S) 0 (omega arith)
    ∙ ap (λ (x : List ℕ). beginning_in S r ∷ x) (drop_of_length-le r {i = suc (width_for S)} (omega arith)) in
    three_parts S r
    ∙ ap (λ (x : List ℕ). take list_offset r ++ (slots_in S r ++ x)) (sym (take-append-drop tail_words (tail_in S r)) ∙ ap (λ (x : List ℕ). take tail_words (tail_in S r) ++ x) last)

-- words of 16 bits stay so
pub linear-words : (S : ℕ) (r : List ℕ) → length r ≡ ring_width_for S → Words16 r → Words16 (linear S r)
unfolding linear
linear-words S r long small =
    let slots = small-take (2 * S) (drop list_offset r) (small-drop list_offset r small) in
    below-append 65536 (take list_offset r) (rotate (beginning_in S r) (slots_in S r) ++ take tail_words (tail_in S r)) (small-take list_offset r small)
    (below-append 65536 (rotate (beginning_in S r) (slots_in S r)) (take tail_words (tail_in S r)) (rotate-words (beginning_in S r) (slots_in S r) slots)
    (small-take tail_words (tail_in S r) (small-drop (tail_offset S) r small)))

pub circular-words : (S b : ℕ) (w : List ℕ) → b < 65536 → Words16 w → Words16 (circular S b w)
unfolding circular
circular-words S b w h small =
    let slots = small-take (2 * S) (drop list_offset w) (small-drop list_offset w small) in
    let tail = small-drop (tail_offset S) w small in
    below-append 65536 (take list_offset w) (rotate (2 * S - b) (slots_in S w) ++ (tail_in S w ++ (b ∷ []))) (small-take list_offset w small)
    (below-append 65536 (rotate (2 * S - b) (slots_in S w)) (tail_in S w ++ (b ∷ [])) (rotate-words (2 * S - b) (slots_in S w) slots)
    (below-append 65536 (tail_in S w) (b ∷ []) tail last))
  where
    last : Words16 (b ∷ [])
    last zero = h
    last (suc i) = omega arith

pub linear-length : (S : ℕ) (r : List ℕ) → length r ≡ ring_width_for S → length (linear S r) ≡ width_for S
unfolding linear
linear-length S r long =
    let l : width_for S ≤ length r = omega arith in
    let slots : List ℕ = rotate (beginning_in S r) (slots_in S r) in
    let tail : List ℕ = take tail_words (tail_in S r) in
    omega
    (arith, length-append (take list_offset r) (slots ++ tail), length-append slots tail, head-length S r l, rotate-length (beginning_in S r) (slots_in S r), slots_length S r l, tail_length S r l)

-- ---- A record of the first board, laid around from slot b on.
module _ (S b : ℕ) (w : List ℕ) (long : length w ≡ width_for S) (few : b ≤ 2 * S) where
  whole : width_for S ≤ length w
  whole = omega arith

  rotated_length : length (rotate (2 * S - b) (slots_in S w)) ≡ 2 * S
  rotated_length = rotate-length (2 * S - b) (slots_in S w) ∙ slots_length S w whole

  tail_whole : length (tail_in S w) ≡ tail_words
  tail_whole = omega (arith, length-drop (tail_offset S) w)

  -- it reads as that record, begins there, and has the ring's width
  pub linear-circular : linear S (circular S b w) ≡ w
  unfolding circular
  linear-circular =
      linear_of S (take list_offset w) (rotate (2 * S - b) (slots_in S w)) (tail_in S w) b (head-length S w whole) rotated_length tail_whole
      ∙ ap (λ (x : List ℕ). take list_offset w ++ (x ++ tail_in S w)) (rotate_there b (2 * S) (slots_in S w) (slots_length S w whole) few)
      ∙ sym (three_parts S w)

  pub circular_beginning : beginning_in S (circular S b w) ≡ b
  unfolding circular
  circular_beginning =
      beginning_of S (take list_offset w) (rotate (2 * S - b) (slots_in S w)) (tail_in S w) b (head-length S w whole) rotated_length tail_whole

  pub circular-slots : slots_in S (circular S b w) ≡ rotate (2 * S - b) (slots_in S w)
  unfolding circular
  circular-slots = slots_of_lem S (take list_offset w) (rotate (2 * S - b) (slots_in S w)) (tail_in S w) b (head-length S w whole) rotated_length tail_whole

  pub circular-length : length (circular S b w) ≡ ring_width_for S
  unfolding circular
  circular-length =
      let slots : List ℕ = rotate (2 * S - b) (slots_in S w) in
      omega
      (arith, length-append (take list_offset w) (slots ++ (tail_in S w ++ (b ∷ []))), length-append slots (tail_in S w ++ (b ∷ [])), length-append (tail_in S w) (b ∷ []), head-length S w whole, rotated_length, tail_whole)

-- A ring's record is the record that it reads as, laid around from its beginning on.
pub circular-linear : (S : ℕ) (r : List ℕ) → length r ≡ ring_width_for S → beginning_in S r ≤ 2 * S → circular S (beginning_in S r) (linear S r) ≡ r
circular-linear S r long few =
    let b = beginning_in S r in
    let l : width_for S ≤ length r = omega arith in
    let head = take list_offset r in
    let slots = slots_in S r in
    let tail = take tail_words (tail_in S r) in
    ap (λ (x : List ℕ). circular S b (linear S x)) (parts_of_lem S r long)
    ∙ ap (circular S b) (linear_of S head slots tail b (head-length S r l) (slots_length S r l) (tail_length S r l))
    ∙ circular_of S head (rotate b slots) tail (head-length S r l) (rotate-length b slots ∙ slots_length S r l) b
    ∙ ap (λ (x : List ℕ). head ++ (x ++ (tail ++ (b ∷ [])))) (rotate-back b (2 * S) slots (slots_length S r l) few)
    ∙ sym (parts_of_lem S r long)

-- ---- A store in the words before the list, and in the tail.
module _ (S : ℕ) (r : List ℕ) (long : length r ≡ ring_width_for S) where
  abbrev head : List ℕ
  head = take list_offset r

  abbrev slots : List ℕ
  slots = slots_in S r

  abbrev tail : List ℕ
  tail = take tail_words (tail_in S r)

  abbrev b : ℕ
  b = beginning_in S r

  enough : width_for S ≤ length r
  enough = omega arith

  linear_parts : linear S r ≡ head ++ (rotate b slots ++ tail)
  linear_parts = ap (linear S) (parts_of_lem S r long) ∙ linear_of S head slots tail b (head-length S r enough) (slots_length S r enough) (tail_length S r enough)

  -- the slots that it reads as
  pub linear-slots : slots_in S (linear S r) ≡ rotate b slots
  linear-slots = ap (slots_in S) linear_parts ∙ first-slots S head (rotate b slots) tail (head-length S r enough) (rotate-length b slots ∙ slots_length S r enough)

  -- a word before the list, and a word of the tail
  pub linear-head : (i : ℕ) → i < list_offset → get_or (linear S r) i 0 ≡ get_or r i 0
  linear-head i h =
      ap (λ (x : List ℕ). get_or x i 0) linear_parts
      ∙ get_or-append head (rotate b slots ++ tail) 0 i (omega (arith, head-length S r enough))
      ∙ get_or-take list_offset r i 0 h

  pub linear_tail : (i : ℕ) → i < tail_words → get_or (linear S r) (tail_offset S + i) 0 ≡ get_or r (tail_offset S + i) 0
  linear_tail i h =
      let e : tail_offset S + i ≡ length head + (length (rotate b slots) + i) = omega (arith, head-length S r enough, slots_length S r enough, rotate-length b slots) in
      ap₂ {C = ℕ} (λ x k. get_or x k 0) linear_parts e
      ∙ get_or-append-add head (rotate b slots ++ tail) (length (rotate b slots) + i) 0
      ∙ get_or-append-add (rotate b slots) tail i 0
      ∙ get_or-take tail_words (tail_in S r) i 0 h
      ∙ get_or-drop (tail_offset S) r i 0

  pub linear-set : (i v : ℕ) → i < list_offset → linear S (set r i v) ≡ set (linear S r) i v
  linear-set i v h =
      ap (λ (x : List ℕ). linear S (set x i v)) (parts_of_lem S r long)
      ∙ ap (linear S) (set-append_left head (slots ++ (tail ++ (b ∷ []))) i v (omega (arith, head-length S r enough)))
      ∙ linear_of S (set head i v) slots tail b (length-set head i v ∙ head-length S r enough) (slots_length S r enough) (tail_length S r enough)
      ∙ sym (set-append_left head (rotate b slots ++ tail) i v (omega (arith, head-length S r enough)))
      ∙ ap (λ (x : List ℕ). set x i v) (sym linear_parts)

  pub linear_set_tail : (i v : ℕ) → i < tail_words → linear S (set r (tail_offset S + i) v) ≡ set (linear S r) (tail_offset S + i) v
  linear_set_tail i v h =
      let e : tail_offset S + i ≡ length head + (length slots + i) = omega (arith, head-length S r enough, slots_length S r enough) in
      let f : tail_offset S + i ≡ length head + (length (rotate b slots) + i) = omega (arith, e, rotate-length b slots) in
      ap₂ {C = List ℕ} (λ x k. linear S (set x k v)) (parts_of_lem S r long) e
      ∙ ap (linear S)
      (set_append_add head (slots ++ (tail ++ (b ∷ []))) (length slots + i) v
      ∙ ap (λ (x : List ℕ). head ++ x) (set_append_add slots (tail ++ (b ∷ [])) i v ∙ ap (λ (x : List ℕ). slots ++ x) (set-append_left tail (b ∷ []) i v (omega (arith, tail_length S r enough)))))
      ∙ linear_of S head slots (set tail i v) b (head-length S r enough) (slots_length S r enough) (length-set tail i v ∙ tail_length S r enough)
      ∙ sym
      (ap₂ {C = List ℕ} (λ x k. set x k v) linear_parts f
      ∙ set_append_add head (rotate b slots ++ tail) (length (rotate b slots) + i) v
      ∙ ap (λ (x : List ℕ). head ++ x) (set_append_add (rotate b slots) tail i v))
