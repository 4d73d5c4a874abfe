-- The slots of a ring's record after a retire and after a collect: those that the step does not name keep their words.
use Rattle.std.specs.Prelude.{ℕ, suc, ◌+◌, ◌*◌, ◌-◌, ◌≤◌, ◌<◌, ◌≡◌, refl, Bool, true, false, cond, ◌&&◌, List, [], ◌∷◌, ◌++◌, map, eqb, ltb, length, get_or, take, drop, set, replicate}
use Rattle.std.proofs.Common.{arith, sym, ap, ◌∙◌, subst, append_assoc, append-nil, ltb-false, ltb-true, lt-ltb, length-append, length-set, get_or-set_other}
use Rattle.std.proofs.Math.Decide.{dec_lt}
use Rattle.std.proofs.lemmas.List.{length-replicate, replicate-append-replicate}
use Rattle.std.proofs.Math.ListN.{get_or-append}
use Rattle.rules.specs.Hall.{Desk, TestedSlot, marked, unmarked, used_slots}
use Rattle.rules.specs.Steps.{begin, begin_at, hand_back, mark, mark_each, marked_of, retire, scan, scan_at, settle, settle_if, unmarked_of}
use Rattle.rules.specs.Table.{list_of, sessions_of, slots_for}
use Rattle.rules.proofs.Laws.Desk.Encoding.{length_list, length_sessions}
use Rattle.rules.proofs.Laws.Desk.Marks.{unmarked_and_marked}
use Rattle.rules.proofs.Laws.Lists.ListSlices.{get_past, set_append_add}
use Rattle.ring_rules.specs.Ring.{beginning_after, rotate, slot_after}
use Rattle.ring_rules.specs.RingDemands.{marks_at_end}
use Rattle.ring_rules.proofs.Laws.RingSteps.{slot_below}
use Rattle.ring_rules.proofs.Laws.Rotations.{rotate-back, rotate-length, rotate_there, slot_get, slot_next, slot_set}

-- ---- Parts (a) to (c) of a collect, on the list.
sessions_unmarked : (xs : List ℕ) → sessions_of (map unmarked xs) ≡ xs
sessions_unmarked [] = refl
sessions_unmarked (x ∷ xs) = ap {B = List ℕ} (λ l. x ∷ l) (sessions_unmarked xs)

begin_list : (D : Desk) → list_of (begin D) ≡ list_of D
begin_list D = by_tested D.tested
  where
    with_tested : List TestedSlot → Desk
    with_tested T = record { owed = D.owed; scanned = D.scanned; ready = D.ready; tested = T; waiting = D.waiting; next = D.next }

    by_tested : (T : List TestedSlot) → list_of (begin_at T (with_tested T)) ≡ list_of (with_tested T)
    by_tested [] = ap {B = List ℕ} (λ l. D.ready ++ l) (append-nil (sessions_of (map unmarked D.waiting)) ∙ sessions_unmarked D.waiting)
    by_tested (slot ∷ T) = refl

sessions_mark : (x : ℕ) (T : List TestedSlot) → sessions_of (mark x T) ≡ sessions_of T
sessions_mark x [] = refl
sessions_mark x (marked y ∷ T) = ap {B = List ℕ} (λ l. y ∷ l) (sessions_mark x T)
sessions_mark x (unmarked y ∷ T) = by_session (eqb x y) (sessions_mark x T)
  where
    by_session : (b : Bool) → sessions_of (mark x T) ≡ sessions_of T → sessions_of (cond b (marked y ∷ T) (unmarked y ∷ mark x T)) ≡ y ∷ sessions_of T
    by_session true later = refl
    by_session false later = ap {B = List ℕ} (λ l. y ∷ l) later

sessions_mark_each : (xs : List ℕ) (T : List TestedSlot) → sessions_of (mark_each xs T) ≡ sessions_of T
sessions_mark_each [] T = refl
sessions_mark_each (x ∷ xs) T = sessions_mark_each xs (mark x T) ∙ sessions_mark x T

scan_list : (shown : List ℕ) (D : Desk) → list_of (scan shown D) ≡ list_of D
scan_list shown D = by_tested D.tested
  where
    by_tested : (T : List TestedSlot) → list_of (scan_at T (take 2 (drop D.scanned shown)) D) ≡ list_of D
    by_tested [] = refl
    by_tested (slot ∷ T) = ap (λ (l : List ℕ). D.ready ++ (l ++ D.waiting)) (sessions_mark_each (take 2 (drop D.scanned shown)) D.tested)

-- only the middle one of three parts differs
outside_middle : (a m n b : List ℕ) → length m ≡ length n → (i : ℕ) → (length a ≤ i → length a + length m ≤ i) → get_or (a ++ (m ++ b)) i 0 ≡ get_or (a ++ (n ++ b)) i 0
outside_middle a m n b e i outside = by_place (dec_lt i (length a))
  where
    by_place : Dec (i < length a) → get_or (a ++ (m ++ b)) i 0 ≡ get_or (a ++ (n ++ b)) i 0
    by_place (yes l) = get_or-append a (m ++ b) 0 i l ∙ sym (get_or-append a (n ++ b) 0 i l)
    by_place (no l) =
        let past = outside (omega arith) in
        let same : i - length a - length m ≡ i - length a - length n = omega (arith, e) in
        get_past a (m ++ b) i (omega arith) ∙ get_past m b (i - length a) (omega arith)
        ∙ ap (λ (k : ℕ). get_or b k 0) same
        ∙ sym (get_past a (n ++ b) i (omega arith) ∙ get_past n b (i - length a) (omega (arith, e)))

none_marked : (T : List TestedSlot) → length (marked_of T) ≡ 0 → unmarked_of T ++ marked_of T ≡ sessions_of T
none_marked [] e = refl
none_marked (unmarked x ∷ T) e = ap {B = List ℕ} (λ l. x ∷ l) (none_marked T e)
none_marked (marked x ∷ T) e = absurd (omega arith)

-- the list after (c): ready, then the tested sessions in their new order, then waiting
settled_list : (D : Desk) → list_of (settle_if true D) ≡ D.ready ++ ((unmarked_of D.tested ++ marked_of D.tested) ++ D.waiting)
settled_list D = simp append_assoc

reordered_length : (T : List TestedSlot) → length (unmarked_of T ++ marked_of T) ≡ length (sessions_of T)
reordered_length T = omega (arith, length-append (unmarked_of T) (marked_of T), unmarked_and_marked T, length_sessions T)

settled-length : (D : Desk) → length (list_of (settle_if true D)) ≡ length (list_of D)
settled-length D =
    let new : List ℕ = unmarked_of D.tested ++ marked_of D.tested in
    ap length (settled_list D)
    ∙ omega (arith, length-append D.ready (new ++ D.waiting), length-append new D.waiting, reordered_length D.tested, length-append D.ready (sessions_of D.tested ++ D.waiting), length-append (sessions_of D.tested) D.waiting)

settle-length : (S : ℕ) (A : Desk) → length (list_of (settle S A)) ≡ length (list_of A)
settle-length S A = by_end (eqb A.scanned S)
  where
    by_end : (b : Bool) → length (list_of (settle_if b A)) ≡ length (list_of A)
    by_end false = refl
    by_end true = settled-length A

-- a slot of the settled desk's list
settle_slot : (S : ℕ) (A : Desk) (i : ℕ) → (marks_at_end S A ≡ true → length A.ready ≤ i → length A.ready + length A.tested ≤ i)
    → get_or (slots_for S (settle S A)) i 0 ≡ get_or (slots_for S A) i 0
settle_slot S A i unnamed = by_end (eqb A.scanned S) refl
  where
    in_parts : (m : List ℕ) → (A.ready ++ (m ++ A.waiting)) ++ replicate (2 * S - length (list_of A)) 0 ≡ A.ready ++ (m ++ (A.waiting ++ replicate (2 * S - length (list_of A)) 0))
    in_parts m = simp append_assoc

    by_marks : (b : Bool) → ltb 0 (length (marked_of A.tested)) ≡ b → (b ≡ true → length A.ready ≤ i → length A.ready + length A.tested ≤ i)
        → get_or ((A.ready ++ ((unmarked_of A.tested ++ marked_of A.tested) ++ A.waiting)) ++ replicate (2 * S - length (list_of A)) 0) i 0 ≡ get_or (slots_for S A) i 0
    by_marks false e named =
        let none : length (marked_of A.tested) ≡ 0 = omega (arith, ltb-false 0 (length (marked_of A.tested)) e) in
        ap (λ (m : List ℕ). get_or ((A.ready ++ (m ++ A.waiting)) ++ replicate (2 * S - length (list_of A)) 0) i 0) (none_marked A.tested none)
    by_marks true e named =
        let outside = named refl in
        ap (λ (l : List ℕ). get_or l i 0) (in_parts (unmarked_of A.tested ++ marked_of A.tested))
        ∙ outside_middle A.ready (unmarked_of A.tested ++ marked_of A.tested) (sessions_of A.tested) (A.waiting ++ replicate (2 * S - length (list_of A)) 0) (reordered_length A.tested) i
        (λ h. omega (arith, outside h, reordered_length A.tested, length_sessions A.tested))
        ∙ ap (λ (l : List ℕ). get_or l i 0) (sym (in_parts (sessions_of A.tested)))

    by_end : (b : Bool) → eqb A.scanned S ≡ b → get_or (slots_for S (settle_if b A)) i 0 ≡ get_or (slots_for S A) i 0
    by_end false e = refl
    by_end true e =
        (λ j. get_or (settled_list A j ++ replicate (2 * S - settled-length A j) 0) i 0)
        ∙ by_marks (ltb 0 (length (marked_of A.tested))) refl (λ some. unnamed (ap (λ (b : Bool). b && ltb 0 (length (marked_of A.tested))) e ∙ some))

-- ---- Part (d): with none ready nothing changes; otherwise the first leaves and a 0 comes last.
abbrev padded : ℕ → List ℕ → List ℕ
padded S list = list ++ replicate (2 * S - length list) 0

hand_back_none : (S : ℕ) (M : Desk) → M.ready ≡ [] → slots_for S (hand_back M).after ≡ slots_for S M
hand_back_none S M e =
    let rest : List ℕ = sessions_of M.tested ++ M.waiting in
    ap (λ (ready : List ℕ). padded S (drop 1 ready ++ rest)) e ∙ sym (ap (λ (ready : List ℕ). padded S (ready ++ rest)) e)

hand_back-first : (S : ℕ) (M : Desk) (x : ℕ) (ready : List ℕ) → M.ready ≡ x ∷ ready → length (list_of M) ≤ 2 * S
    → slots_for S (hand_back M).after ≡ drop 1 (slots_for S M) ++ (0 ∷ [])
hand_back-first S M x ready e room =
    let rest : List ℕ = sessions_of M.tested ++ M.waiting in
    let list : List ℕ = ready ++ rest in
    let full : suc (length list) ≤ 2 * S = subst (λ (k : ℕ). k ≤ 2 * S) (ap (λ (r : List ℕ). length (r ++ rest)) e) room in
    let zeros : 2 * S - suc (length list) + 1 ≡ 2 * S - length list = omega arith in
    ap (λ (r : List ℕ). padded S (drop 1 r ++ rest)) e
    ∙ sym
    (ap (λ (r : List ℕ). drop 1 (padded S (r ++ rest)) ++ (0 ∷ [])) e
    ∙ append_assoc list (replicate (2 * S - suc (length list)) 0) (0 ∷ [])
    ∙ ap (λ (l : List ℕ). list ++ l) (replicate-append-replicate (2 * S - suc (length list)) 1 0 ∙ ap (λ (k : ℕ). replicate {A = ℕ} k 0) zeros))

-- ---- The slots of a ring that begins at b and reads as the list of a desk.
-- the index in the list of slot j, which is i places after slot b
abbrev pub index_of : ℕ → ℕ → ℕ → ℕ
index_of S b j = cond (ltb j b) (j + 2 * S - b) (j - b)

pub index_below : (S b j : ℕ) (hb : b < 2 * S) (hj : j < 2 * S) → index_of S b j < 2 * S
index_below S b j hb hj = by_side (ltb j b) refl
  where
    by_side : (q : Bool) → ltb j b ≡ q → cond q (j + 2 * S - b) (j - b) < 2 * S
    by_side true e = let l = ltb-true j b e in omega arith
    by_side false e = omega arith

pub index_slot : (S b j : ℕ) (hb : b < 2 * S) (hj : j < 2 * S) → slot_after S b (index_of S b j) ≡ j
index_slot S b j hb hj = by_side (ltb j b) refl
  where
    wraps : (i : ℕ) (q : Bool) → ltb (b + i) (2 * S) ≡ q → b + i ≡ j + 2 * S → cond q (b + i) (b + i - 2 * S) ≡ j
    wraps i true e f = absurd (let l = ltb-true (b + i) (2 * S) e in omega arith)
    wraps i false e f = omega arith

    by_side : (q : Bool) → ltb j b ≡ q → slot_after S b (cond q (j + 2 * S - b) (j - b)) ≡ j
    by_side true e = wraps (j + 2 * S - b) (ltb (b + (j + 2 * S - b)) (2 * S)) refl (omega arith)
    by_side false e =
        let l = ltb-false j b e in
        let sum : b + (j - b) ≡ j = omega arith in
        ap (λ (k : ℕ). cond (ltb k (2 * S)) k (k - 2 * S)) sum ∙ ap (λ (q : Bool). cond q j (j - 2 * S)) (lt-ltb j (2 * S) hj)

-- ---- A retire: the first unused slot.
retire-slots : (S : ℕ) (D : Desk) → used_slots D < 2 * S → slots_for S (retire D) ≡ set (slots_for S D) (used_slots D) D.owed
retire-slots S D room =
    let n = length (list_of D) in
    let used : n ≡ used_slots D = length_list D in
    let list : list_of (retire D) ≡ list_of D ++ (D.owed ∷ []) = simp append_assoc in
    let more : 2 * S - length (list_of D ++ (D.owed ∷ [])) ≡ 2 * S - suc n = omega (arith, length-append (list_of D) (D.owed ∷ [])) in
    let fewer : 2 * S - n ≡ suc (2 * S - suc n) = omega (arith, used) in
    let at_end : n + 0 ≡ used_slots D = omega (arith, used) in
    (λ j. list j ++ replicate (2 * S - length (list j)) 0)
    ∙ ap (λ (k : ℕ). (list_of D ++ (D.owed ∷ [])) ++ replicate k 0) more
    ∙ append_assoc (list_of D) (D.owed ∷ []) (replicate (2 * S - suc n) 0)
    ∙ sym
    (ap (λ (k : ℕ). set (list_of D ++ replicate (2 * S - n) 0) k D.owed) (sym at_end)
    ∙ ap (λ (k : ℕ). set (list_of D ++ replicate k 0) (n + 0) D.owed) fewer
    ∙ set_append_add (list_of D) (replicate (suc (2 * S - suc n)) 0) 0 D.owed)

module _ (S b : ℕ) (begins : b < 2 * S) (l : List ℕ) (long : length l ≡ 2 * S) (D : Desk) (reads : rotate b l ≡ slots_for S D) where
  slot_of : (j : ℕ) (h : j < 2 * S) → get_or l j 0 ≡ get_or (slots_for S D) (index_of S b j) 0
  slot_of j h =
      ap (λ (k : ℕ). get_or l k 0) (sym (index_slot S b j begins h))
      ∙ sym (slot_get S b l long begins (index_of S b j) (index_below S b j begins h))
      ∙ ap (λ (x : List ℕ). get_or x (index_of S b j) 0) reads

  pub retired_slot : used_slots D < 2 * S → (l' : List ℕ) → length l' ≡ 2 * S → rotate b l' ≡ slots_for S (retire D) → (j : ℕ)
      → (j ≡ slot_after S b (used_slots D) → ⊥) → get_or l' j 0 ≡ get_or l j 0
  retired_slot room l' long' reads' j elsewhere =
      let stored : rotate b l' ≡ rotate b (set l (slot_after S b (used_slots D)) D.owed) =
      reads' ∙ retire-slots S D room ∙ sym (slot_set S b l long begins (used_slots D) D.owed room ∙ ap (λ (x : List ℕ). set x (used_slots D) D.owed) reads) in
      let same : l' ≡ set l (slot_after S b (used_slots D)) D.owed =
      sym (rotate-back b (2 * S) l' long' (omega arith)) ∙ ap (rotate (2 * S - b)) stored
      ∙ rotate-back b (2 * S) (set l (slot_after S b (used_slots D)) D.owed) (length-set l (slot_after S b (used_slots D)) D.owed ∙ long) (omega arith) in
      ap (λ (x : List ℕ). get_or x j 0) same ∙ get_or-set_other l (slot_after S b (used_slots D)) j D.owed 0 elsewhere

  -- a collect: the desk after its parts (a) to (c), and after part (d)
  pub collected_slot : (shown : List ℕ) → used_slots D ≤ 2 * S
      → let read = scan shown (begin D) in
      let ready = (settle S read).ready in
      (l' : List ℕ) → length l' ≡ 2 * S → rotate (beginning_after S ready b) l' ≡ slots_for S (hand_back (settle S read)).after → (j : ℕ) → j < 2 * S
      → (marks_at_end S read ≡ true → length read.ready ≤ index_of S b j → length read.ready + length read.tested ≤ index_of S b j)
      → ((x : ℕ) (rest : List ℕ) → ready ≡ x ∷ rest → j ≡ b → ⊥)
      → get_or l' j 0 ≡ get_or l j 0
  collected_slot shown room l' long' reads' j h unnamed left =
      by_ready (settle S (scan shown (begin D))).ready refl reads' left
      ∙ settle_slot S (scan shown (begin D)) (index_of S b j) unnamed
      ∙ ap (λ (x : List ℕ). get_or (padded S x) (index_of S b j) 0) (scan_list shown (begin D) ∙ begin_list D)
      ∙ sym (slot_of j h)
    where
      list_fits : length (list_of (settle S (scan shown (begin D)))) ≤ 2 * S
      list_fits = omega (arith, settle-length S (scan shown (begin D)), ap length (scan_list shown (begin D) ∙ begin_list D), length_list D, room)

      settled-long : length (slots_for S (settle S (scan shown (begin D)))) ≡ 2 * S
      settled-long =
          let list = list_of (settle S (scan shown (begin D))) in
          omega (arith, length-append list (replicate (2 * S - length list) 0), length-replicate {A = ℕ} (2 * S - length list) 0, list_fits)

      -- the slots with the settled desk's list from b on
      slots : List ℕ
      slots = rotate (2 * S - b) (slots_for S (settle S (scan shown (begin D))))

      slots-long : length (rotate (2 * S - b) (slots_for S (settle S (scan shown (begin D))))) ≡ 2 * S
      slots-long = rotate-length (2 * S - b) (slots_for S (settle S (scan shown (begin D)))) ∙ settled-long

      slots_read : rotate b (rotate (2 * S - b) (slots_for S (settle S (scan shown (begin D))))) ≡ slots_for S (settle S (scan shown (begin D)))
      slots_read = rotate_there b (2 * S) (slots_for S (settle S (scan shown (begin D)))) settled-long (omega arith)

      of_index : (k : List ℕ) → length k ≡ 2 * S → get_or k j 0 ≡ get_or (rotate b k) (index_of S b j) 0
      of_index k e =
          ap (λ (n : ℕ). get_or k n 0) (sym (index_slot S b j begins h)) ∙ sym (slot_get S b k e begins (index_of S b j) (index_below S b j begins h))

      by_ready : (ready : List ℕ) → (settle S (scan shown (begin D))).ready ≡ ready → rotate (beginning_after S ready b) l' ≡ slots_for S (hand_back (settle S (scan shown (begin D)))).after
          → ((x : ℕ) (rest : List ℕ) → ready ≡ x ∷ rest → j ≡ b → ⊥)
          → get_or l' j 0 ≡ get_or (slots_for S (settle S (scan shown (begin D)))) (index_of S b j) 0
      by_ready [] e r left = of_index l' long' ∙ ap (λ (k : List ℕ). get_or k (index_of S b j) 0) (r ∙ hand_back_none S (settle S (scan shown (begin D))) e)
      by_ready (x ∷ rest) e r left =
          let next = slot_after S b 1 in
          let below = slot_below S b 1 begins (omega arith) in
          let stored : rotate next l' ≡ rotate next (set slots b 0) =
          r ∙ hand_back-first S (settle S (scan shown (begin D))) x rest e list_fits
          ∙ sym (slot_next S b slots slots-long begins ∙ ap (λ (k : List ℕ). drop 1 k ++ (0 ∷ [])) slots_read) in
          let same : l' ≡ set slots b 0 =
          sym (rotate-back next (2 * S) l' long' (omega (arith, below))) ∙ ap (rotate (2 * S - next)) stored
          ∙ rotate-back next (2 * S) (set slots b 0) (length-set slots b 0 ∙ slots-long) (omega (arith, below)) in
          ap (λ (k : List ℕ). get_or k j 0) same ∙ get_or-set_other slots b j 0 0 (left x rest refl)
          ∙ of_index slots slots-long ∙ ap (λ (k : List ℕ). get_or k (index_of S b j) 0) slots_read
