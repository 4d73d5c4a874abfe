-- What the code does to a ring's record, store by store, beside the record of the first board that it reads as: each part of the code is
-- then the law of `desk` about that record.
use Prim.Native.Nat.{ℕ, ◌+◌, ◌-◌, ◌*◌, ◌≤◌, ◌<◌}
use native.Mathlib.Omega.{arith}
use mathlib.Core.Bool.{Bool, true, false, cond}
use mathlib.Core.List.{List, [], ◌∷◌, ◌++◌, append_assoc}
use mathlib.Core.Path.{◌≡◌, refl, sym, ap, ap₂, ◌∙◌}
use lib.Dec.{ltb}
use lib.ListN.{length, get_or, take, drop, set, length-append, length-set}
use lib.Seq.{length-take-le, take-append-le, drop_at, drop-drop, get_or-drop, get_or-set_other, get_or-take, set_at, take_at}
use borrow.Author.Tests.{ltb-true, ltb-false, lt-ltb}
use Rattle.rules.specs.Table.{list_offset, mark_words, marks_offset, slots_in, tail_in, tail_words, used_in, width_for}
use Rattle.rules.proofs.Laws.Lists.ListSlices.{set_append_add, set_mid}
use Rattle.desk.specs.Layout.{Reads as ReadsAs, with_marks}
use Rattle.ring_rules.specs.Ring.{beginning_in, circular, linear, ring_width_for, rotate, slot_after}
use Rattle.ring_desk.specs.RingRecord.{ring}
use Rattle.ring_rules.proofs.Laws.Rotations.{rotate-length, slot_get, slot_next, slot_set}
use Rattle.ring_rules.proofs.Laws.Records.{beginning_of, circular_beginning, circular-length, circular-linear, head-length, linear-circular, linear_of, linear-set, parts_of_lem}
use Rattle.ring_rules.proofs.Laws.Records.{slots_length, tail_length}

-- ---- the slot that comes i places after slot b is one of the 2s
pub slot_below : (s b i : ℕ) → b < 2 * s → i ≤ 2 * s → slot_after s b i < 2 * s
slot_below s b i hb hi = by_wrap (ltb (b + i) (2 * s)) refl
  where
    by_wrap : (q : Bool) → ltb (b + i) (2 * s) ≡ q → cond q (b + i) (b + i - 2 * s) < 2 * s
    by_wrap true e = ltb-true (b + i) (2 * s) e
    by_wrap false e = omega (arith, ltb-false (b + i) (2 * s) e)

pub slot_first : (s b : ℕ) → b < 2 * s → slot_after s b 0 ≡ b
slot_first s b h =
    let none : b + 0 ≡ b = omega arith in
    ap (λ (k : ℕ). cond (ltb k (2 * s)) k (k - 2 * s)) none ∙ ap (λ (q : Bool). cond q b (b - 2 * s)) (lt-ltb b (2 * s) h)

-- r is a ring's record that begins at slot b and reads as w.
abbrev pub Reads : ℕ → ℕ → List ℕ → List ℕ → Type 0
Reads s b r w = ReadsAs ring s b r w

pub reads_start : (s : ℕ) (r : List ℕ) → length r ≡ ring_width_for s → Reads s (beginning_in s r) r (linear s r)
reads_start s r long = record { long = long; begins = refl; is = refl }

pub reads_circular : (s b : ℕ) (w : List ℕ) → length w ≡ width_for s → b ≤ 2 * s → Reads s b (circular s b w) w
reads_circular s b w long few =
    record { long = circular-length s b w long few; begins = circular_beginning s b w long few; is = linear-circular s b w long few }

pub reads_end : (s b : ℕ) (r w : List ℕ) → b ≤ 2 * s → Reads s b r w → r ≡ circular s b w
reads_end s b r w few e =
    let begins = e.begins in
    sym (circular-linear s r e.long (omega arith)) ∙ ap₂ (circular s) e.begins e.is

-- another record and what it reads as, by equations
pub reads_as : (s b : ℕ) (r r' w w' : List ℕ) → Reads s b r w → r' ≡ r → w ≡ w' → Reads s b r' w'
reads_as s b r r' w w' e er ew =
    record { long = ap length er ∙ e.long; begins = ap (beginning_in s) er ∙ e.begins; is = ap (linear s) er ∙ e.is ∙ ew }

-- ---- a record of the first board in its parts
module _ (s : ℕ) (head slots tail : List ℕ) (head-long : length head ≡ list_offset) (slots-long : length slots ≡ 2 * s) where
  pub first_head : take list_offset (head ++ (slots ++ tail)) ≡ head
  first_head = take_at head (slots ++ tail) list_offset head-long

  pub first-slots : slots_in s (head ++ (slots ++ tail)) ≡ slots
  first-slots = ap (take (2 * s)) (drop_at head (slots ++ tail) list_offset head-long) ∙ take_at slots tail (2 * s) slots-long

  pub first_tail : tail_in s (head ++ (slots ++ tail)) ≡ tail
  first_tail =
      sym (drop-drop (2 * s) list_offset (head ++ (slots ++ tail))) ∙ ap (drop (2 * s)) (drop_at head (slots ++ tail) list_offset head-long)
      ∙ drop_at slots tail (2 * s) slots-long

-- ---- a ring's record from its parts
module _ (s b : ℕ) (head slots tail : List ℕ) (head-long : length head ≡ list_offset) (slots-long : length slots ≡ 2 * s) (tail_long : length tail ≡ tail_words) where
  pub reads_parts : Reads s b (head ++ (slots ++ (tail ++ (b ∷ [])))) (head ++ (rotate b slots ++ tail))
  reads_parts = record {
    long = omega (arith, length-append head (slots ++ (tail ++ (b ∷ []))), length-append slots (tail ++ (b ∷ [])), length-append tail (b ∷ []));
    begins = beginning_of s head slots tail b head-long slots-long tail_long;
    is = linear_of s head slots tail b head-long slots-long tail_long;
  }

  set_beginning : (v : ℕ) → set (head ++ (slots ++ (tail ++ (b ∷ [])))) (width_for s) v ≡ head ++ (slots ++ (tail ++ (v ∷ [])))
  set_beginning v =
      let e : width_for s ≡ length head + (length slots + tail_words) = omega arith in
      ap (λ (k : ℕ). set (head ++ (slots ++ (tail ++ (b ∷ [])))) k v) e ∙ set_append_add head (slots ++ (tail ++ (b ∷ []))) (length slots + tail_words) v
      ∙ ap (λ (x : List ℕ). head ++ x) (set_append_add slots (tail ++ (b ∷ [])) tail_words v ∙ ap (λ (x : List ℕ). slots ++ x) (set_at tail b [] v tail_words tail_long))

-- ---- the parts of a record that reads as w
module _ (s b : ℕ) (r w : List ℕ) (e : Reads s b r w) where
  abbrev head : List ℕ
  head = take list_offset r

  abbrev slots : List ℕ
  slots = slots_in s r

  abbrev tail : List ℕ
  tail = take tail_words (tail_in s r)

  whole : width_for s ≤ length r
  whole = omega (arith, e.long)

  pub head-long : length head ≡ list_offset
  head-long = head-length s r whole

  pub slots-long : length slots ≡ 2 * s
  slots-long = slots_length s r whole

  pub tail_long : length tail ≡ tail_words
  tail_long = tail_length s r whole

  pub rotated_long : length (rotate b slots) ≡ 2 * s
  rotated_long = rotate-length b slots ∙ slots-long

  pub in_parts : r ≡ head ++ (slots ++ (tail ++ (b ∷ [])))
  in_parts = parts_of_lem s r e.long ∙ ap (λ (k : ℕ). head ++ (slots ++ (tail ++ (k ∷ [])))) e.begins

  pub reads_in_parts : w ≡ head ++ (rotate b slots ++ tail)
  reads_in_parts = sym e.is ∙ ap (linear s) in_parts ∙ linear_of s head slots tail b head-long slots-long tail_long

  pub head_same : head ≡ take list_offset w
  head_same = sym (ap (take list_offset) reads_in_parts ∙ first_head s head (rotate b slots) tail head-long rotated_long)

  pub slots_rotated : rotate b slots ≡ slots_in s w
  slots_rotated = sym (ap (slots_in s) reads_in_parts ∙ first-slots s head (rotate b slots) tail head-long rotated_long)

  pub tail_same : tail ≡ tail_in s w
  tail_same = sym (ap (tail_in s) reads_in_parts ∙ first_tail s head (rotate b slots) tail head-long rotated_long)

  -- its words before the list, and the slots from the beginning on, are those of w
  pub head_word : (i : ℕ) → i < list_offset → get_or r i 0 ≡ get_or w i 0
  head_word i h = sym (get_or-take list_offset r i 0 h) ∙ ap (λ (x : List ℕ). get_or x i 0) head_same ∙ get_or-take list_offset w i 0 h

  pub used_same : used_in r ≡ used_in w
  used_same = λ i. head_word 2 (omega arith) i + head_word 3 (omega arith) i + head_word 4 (omega arith) i

  pub slot_word : (i : ℕ) → b < 2 * s → i < 2 * s → get_or r (list_offset + slot_after s b i) 0 ≡ get_or w (list_offset + i) 0
  slot_word i hb hi =
      sym (get_or-take (2 * s) (drop list_offset r) (slot_after s b i) 0 (slot_below s b i hb (omega arith)) ∙ get_or-drop list_offset r (slot_after s b i) 0)
      ∙ sym (slot_get s b slots slots-long hb i hi) ∙ ap (λ (x : List ℕ). get_or x i 0) slots_rotated
      ∙ get_or-take (2 * s) (drop list_offset w) i 0 hi ∙ get_or-drop list_offset w i 0

-- ---- a store before the list
pub reads_head : (s b : ℕ) (r w : List ℕ) (i v : ℕ) → i < list_offset → Reads s b r w → Reads s b (set r i v) (set w i v)
reads_head s b r w i v h e =
    record {
      long = length-set r i v ∙ e.long;
      begins = get_or-set_other r i _ v 0 (λ q. omega arith) ∙ e.begins;
      is = linear-set s r e.long i v h ∙ ap (λ (x : List ℕ). set x i v) e.is;
    }

-- ---- a store in a slot: the one that comes i places after the beginning
pub reads_slot : (s b : ℕ) (r w : List ℕ) (i v : ℕ) → b < 2 * s → i < 2 * s → Reads s b r w
    → Reads s b (set r (list_offset + slot_after s b i) v) (set w (list_offset + i) v)
reads_slot s b r w i v hb hi e =
    let head = take list_offset r in
    let slots = slots_in s r in
    let tail = take tail_words (tail_in s r) in
    let p = slot_after s b i in
    let head_is = head-long s b r w e in
    let slots_is = slots-long s b r w e in
    let below = slot_below s b i hb (omega arith) in
    let stored : set r (list_offset + p) v ≡ head ++ (set slots p v ++ (tail ++ (b ∷ [])))
    = ap (λ (x : List ℕ). set x (list_offset + p) v) (in_parts s b r w e) ∙ set_mid head slots (tail ++ (b ∷ [])) list_offset head_is p v (omega arith) in
    let read : head ++ (rotate b (set slots p v) ++ tail) ≡ set w (list_offset + i) v
    = ap (λ (x : List ℕ). head ++ (x ++ tail)) (slot_set s b slots slots_is hb i v hi)
    ∙ sym (ap (λ (x : List ℕ). set x (list_offset + i) v) (reads_in_parts s b r w e) ∙ set_mid head (rotate b slots) tail list_offset head_is i v (omega (arith, rotated_long s b r w e))) in
    reads_as s b (head ++ (set slots p v ++ (tail ++ (b ∷ [])))) (set r (list_offset + p) v) (head ++ (rotate b (set slots p v) ++ tail)) (set w (list_offset + i) v)
    (reads_parts s b head (set slots p v) tail head_is (length-set slots p v ∙ slots_is) (tail_long s b r w e)) stored read

-- ---- the first session leaves: its slot becomes 0, and the list begins at the next one
pub reads_next : (s b : ℕ) (r w : List ℕ) → b < 2 * s → Reads s b r w
    → Reads s (slot_after s b 1) (set (set r (list_offset + b) 0) (width_for s) (slot_after s b 1)) (take list_offset w ++ ((drop 1 (slots_in s w) ++ (0 ∷ [])) ++ tail_in s w))
reads_next s b r w hb e =
    let head = take list_offset r in
    let slots = slots_in s r in
    let tail = take tail_words (tail_in s r) in
    let next = slot_after s b 1 in
    let emptied = set slots b 0 in
    let head_is = head-long s b r w e in
    let tail_is = tail_long s b r w e in
    let slots_is = slots-long s b r w e in
    let emptied_is : length emptied ≡ 2 * s = length-set slots b 0 ∙ slots_is in
    let stored : set (set r (list_offset + b) 0) (width_for s) next ≡ head ++ (emptied ++ (tail ++ (next ∷ [])))
    = ap (λ (x : List ℕ). set (set x (list_offset + b) 0) (width_for s) next) (in_parts s b r w e)
    ∙ ap (λ (x : List ℕ). set x (width_for s) next) (set_mid head slots (tail ++ (b ∷ [])) list_offset head_is b 0 (omega arith))
    ∙ set_beginning s b head emptied tail head_is emptied_is tail_is next in
    let read : head ++ (rotate next emptied ++ tail) ≡ take list_offset w ++ ((drop 1 (slots_in s w) ++ (0 ∷ [])) ++ tail_in s w)
    = ap (λ (x : List ℕ). head ++ (x ++ tail)) (slot_next s b slots slots_is hb)
    ∙ (λ i. head_same s b r w e i ++ ((drop 1 (slots_rotated s b r w e i) ++ (0 ∷ [])) ++ tail_same s b r w e i)) in
    reads_as s next (head ++ (emptied ++ (tail ++ (next ∷ [])))) (set (set r (list_offset + b) 0) (width_for s) next)
    (head ++ (rotate next emptied ++ tail)) (take list_offset w ++ ((drop 1 (slots_in s w) ++ (0 ∷ [])) ++ tail_in s w))
    (reads_parts s next head emptied tail head_is emptied_is tail_is) stored read

-- ---- the mark words
put_head : (head rest marks : List ℕ) → length head ≡ list_offset → with_marks (head ++ rest) marks ≡ (take marks_offset head ++ marks) ++ rest
put_head head rest marks long =
    ap₂ {C = List ℕ} (λ x y. x ++ (marks ++ y)) (take-append-le marks_offset head rest (omega arith)) (drop-drop mark_words marks_offset (head ++ rest) ∙ drop_at head rest list_offset long)
    ∙ sym (append_assoc (take marks_offset head) marks rest)

pub reads_marks : (s b : ℕ) (r w marks : List ℕ) → length marks ≡ mark_words → Reads s b r w
    → Reads s b (with_marks r marks) (with_marks w marks)
reads_marks s b r w marks eight e =
    let head = take list_offset r in
    let slots = slots_in s r in
    let tail = take tail_words (tail_in s r) in
    let long = head-long s b r w e in
    let head' : List ℕ = take marks_offset head ++ marks in
    let long' : length head' ≡ list_offset = omega (arith, length-append (take marks_offset head) marks, length-take-le marks_offset head (omega arith)) in
    reads_as s b (head' ++ (slots ++ (tail ++ (b ∷ [])))) (with_marks r marks) (head' ++ (rotate b slots ++ tail)) (with_marks w marks)
    (reads_parts s b head' slots tail long' (slots-long s b r w e) (tail_long s b r w e))
    (ap (λ (x : List ℕ). with_marks x marks) (in_parts s b r w e) ∙ put_head head (slots ++ (tail ++ (b ∷ []))) marks long)
    (sym (ap (λ (x : List ℕ). with_marks x marks) (reads_in_parts s b r w e) ∙ put_head head (rotate b slots ++ tail) marks long))
