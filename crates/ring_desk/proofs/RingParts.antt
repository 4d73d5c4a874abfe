-- A ring's record with its mark words replaced, or its list, beside the record of the first board that it reads as.
use Prim.Native.Nat.{ℕ, ◌+◌, ◌-◌, ◌*◌, ◌^◌, ◌≤◌, ◌<◌}
use native.Mathlib.Omega.{arith}
use mathlib.Core.List.{List, [], ◌∷◌, ◌++◌, append_assoc}
use mathlib.Core.Path.{◌≡◌, sym, ap, ap₂, ◌∙◌}
use lib.ListN.{length, get_or, take, drop, length-drop, take-append-drop}
use lib.Seq.{drop-append-le, drop-drop, length-take-le, take-add, take-append-le, take-take}
use borrow.Rule.Slice.PartMut.{mid_of, put_mid}
use Rattle.rules.specs.Bytes.{words_of_bytes}
use Rattle.rules.specs.Table.{list_offset, mark_words, marks_offset, slots_in, tail_in, tail_words, width_for}
use Rattle.rules.proofs.Laws.Desk.Decoding.{small-drop, small-take}
use Rattle.rules.proofs.Laws.Lists.ListSlices.{put_mid_lem}
use Rattle.rules.proofs.Laws.Table.WordBounds.{below-append}
use Rattle.words.proofs.Laws.{words-part}
use Rattle.desk.proofs.WordDesk.{mark_words_in}
use Rattle.ring_rules.specs.Ring.{beginning_in, linear, rotate, slot_after}
use Rattle.ring_rules.proofs.Laws.Rotations.{slot_rotate}
use Rattle.ring_rules.proofs.Laws.Records.{slots_length}
use Rattle.ring_desk.specs.RingReads.{Reads, head-long, head_same, in_parts, reads_as, reads_in_parts, reads_parts, rotated_long, slots-long, slots_rotated, tail_long, tail_same}

-- ---- the list, as the code lends it
pub lent_slots : (s : ℕ) (r : List ℕ) → mid_of list_offset (list_offset + 2 * s - list_offset) r ≡ slots_in s r
lent_slots s r = let n : list_offset + 2 * s - list_offset ≡ 2 * s = omega arith in ap (λ (k : ℕ). take k (drop list_offset r)) n

pub lent_words : (s : ℕ) (bytes : List ℕ) → words_of_bytes (mid_of (2 * list_offset) (2 * (list_offset + 2 * s) - 2 * list_offset) bytes) ≡ slots_in s (words_of_bytes bytes)
lent_words s bytes = words-part list_offset (list_offset + 2 * s) bytes ∙ lent_slots s (words_of_bytes bytes)

-- ---- the mark words
marks_in-head : (head rest : List ℕ) → length head ≡ list_offset → mark_words_in (head ++ rest) ≡ mark_words_in head
marks_in-head head rest long =
    ap (take mark_words) (drop-append-le marks_offset head rest (omega arith))
    ∙ take-append-le mark_words (drop marks_offset head) rest (omega (arith, length-drop marks_offset head))

pub marks_same : (s b : ℕ) (r w : List ℕ) → Reads s b r w → mark_words_in r ≡ mark_words_in w
marks_same s b r w e =
    let head = take list_offset r in
    let tail = take tail_words (tail_in s r) in
    let long = head-long s b r w e in
    ap mark_words_in (in_parts s b r w e) ∙ marks_in-head head (slots_in s r ++ (tail ++ (b ∷ []))) long
    ∙ sym (ap mark_words_in (reads_in_parts s b r w e) ∙ marks_in-head head (rotate b (slots_in s r) ++ tail) long)

-- ---- the list
pub reads_list : (s b : ℕ) (r w slots' : List ℕ) → length slots' ≡ 2 * s → Reads s b r w
    → Reads s b (put_mid list_offset (list_offset + 2 * s - list_offset) r slots') (take list_offset w ++ (rotate b slots' ++ tail_in s w))
reads_list s b r w slots' long' e =
    let head = take list_offset r in
    let slots = slots_in s r in
    let tail = take tail_words (tail_in s r) in
    let n : list_offset + 2 * s - list_offset ≡ 2 * s = omega arith in
    reads_as s b (head ++ (slots' ++ (tail ++ (b ∷ [])))) (put_mid list_offset (list_offset + 2 * s - list_offset) r slots') (head ++ (rotate b slots' ++ tail)) (take list_offset w ++ (rotate b slots' ++ tail_in s w))
    (reads_parts s b head slots' tail (head-long s b r w e) long' (tail_long s b r w e))
    (ap₂ {C = List ℕ} (λ k x. put_mid list_offset k x slots') n (in_parts s b r w e) ∙ put_mid_lem head slots (tail ++ (b ∷ [])) list_offset (head-long s b r w e) (2 * s) slots' (slots-long s b r w e))
    (λ i. head_same s b r w e i ++ (rotate b slots' ++ tail_same s b r w e i))

-- ---- slots of a record of the first board
module _ (s : ℕ) (w : List ℕ) (long : length w ≡ width_for s) (a n : ℕ) (fits : a + n ≤ 2 * s) where
  abbrev slots : List ℕ
  slots = slots_in s w

  many : length slots ≡ 2 * s
  many = slots_length s w (omega (arith, long))

  from_list : drop list_offset w ≡ slots ++ tail_in s w
  from_list = sym (ap (λ (x : List ℕ). slots ++ x) (sym (drop-drop (2 * s) list_offset w)) ∙ take-append-drop (2 * s) (drop list_offset w))

  from_slot : drop (list_offset + a) w ≡ drop a slots ++ tail_in s w
  from_slot = sym (drop-drop a list_offset w) ∙ ap (drop a) from_list ∙ drop-append-le a slots (tail_in s w) (omega (arith, many))

  -- n of them from slot a on, as the laws of `desk` have them
  from_slots : take n (drop a slots) ≡ take n (drop (list_offset + a) w)
  from_slots = sym (ap (take n) from_slot ∙ take-append-le n (drop a slots) (tail_in s w) (omega (arith, many, length-drop a slots)))

  pub tested_length : length (take n (drop (list_offset + a) w)) ≡ n
  tested_length = ap length (sym from_slots) ∙ length-take-le n (drop a slots) (omega (arith, many, length-drop a slots))

  -- and replaced
  pub put_slots : (ys : List ℕ) → take list_offset w ++ ((take a slots ++ (ys ++ drop n (drop a slots))) ++ tail_in s w) ≡ take (list_offset + a) w ++ (ys ++ drop n (drop (list_offset + a) w))
  put_slots ys =
      let front : take list_offset w ++ take a slots ≡ take (list_offset + a) w
      = sym (take-add list_offset a w ∙ ap (λ (x : List ℕ). take list_offset w ++ x) (sym (take-take a (2 * s) (drop list_offset w) (omega arith)))) in
      let back : drop n (drop a slots) ++ tail_in s w ≡ drop n (drop (list_offset + a) w)
      = sym (ap (drop n) from_slot ∙ drop-append-le n (drop a slots) (tail_in s w) (omega (arith, many, length-drop a slots))) in
      ap (λ (x : List ℕ). take list_offset w ++ x) (append_assoc (take a slots) (ys ++ drop n (drop a slots)) (tail_in s w))
      ∙ sym (append_assoc (take list_offset w) (take a slots) ((ys ++ drop n (drop a slots)) ++ tail_in s w))
      ∙ ap (λ (x : List ℕ). (take list_offset w ++ take a slots) ++ x) (append_assoc ys (drop n (drop a slots)) (tail_in s w))
      ∙ ap₂ {C = List ℕ} (λ x y. x ++ (ys ++ y)) front back

-- n slots of the ring, a places after its beginning on, are those of the list that it reads as
pub tested_around : (s b : ℕ) (r w : List ℕ) (a n : ℕ) → b < 2 * s → a + n ≤ 2 * s → length w ≡ width_for s → Reads s b r w
    → take n (rotate (slot_after s b a) (slots_in s r)) ≡ take n (drop (list_offset + a) w)
tested_around s b r w a n hb fits long e =
    let slots = slots_in s r in
    let many = slots-long s b r w e in
    ap (take n) (sym (slot_rotate s b slots many hb a (omega arith)))
    ∙ take-append-le n (drop a (rotate b slots)) (take a (rotate b slots)) (omega (arith, rotated_long s b r w e, length-drop a (rotate b slots)))
    ∙ ap (λ (x : List ℕ). take n (drop a x)) (slots_rotated s b r w e)
    ∙ from_slots s w long a n fits

-- ---- 16-bit words read as 16-bit words
pub linear-small : (s : ℕ) (r : List ℕ) → ((i : ℕ) → get_or r i 0 < 2 ^ 16) → (i : ℕ) → get_or (linear s r) i 0 < 2 ^ 16
unfolding linear
linear-small s r small =
    let b = beginning_in s r in
    let slots = slots_in s r in
    let in_slots = small-take (2 * s) (drop list_offset r) (small-drop list_offset r small) in
    let in_tail = small-take tail_words (tail_in s r) (small-drop (list_offset + 2 * s) r small) in
    below-append (2 ^ 16) (take list_offset r) (rotate b slots ++ take tail_words (tail_in s r)) (small-take list_offset r small)
    (below-append (2 ^ 16) (rotate b slots) (take tail_words (tail_in s r)) (below-append (2 ^ 16) (drop b slots) (take b slots) (small-drop b slots in_slots) (small-take b slots in_slots)) in_tail)
