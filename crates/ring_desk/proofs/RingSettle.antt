-- Collect (c) and (d) on a ring's record: what the code finds and partitions around, and the words that a hand-back leaves.
use Prim.Native.Nat.{ℕ, suc, ◌+◌, ◌-◌, ◌*◌, ◌≤◌, ◌<◌}
use native.Mathlib.Omega.{arith}
use mathlib.Core.List.{List, [], ◌∷◌, ◌++◌, append_assoc}
use mathlib.Core.Path.{◌≡◌, refl, sym, ap, ◌∙◌}
use lib.ListN.{length, get_or, take, drop, set, replicate, length-append, length-drop, length-replicate, replicate-append-replicate}
use borrow.Rule.Slice.PartMut.{put_mid}
use Rattle.rules.specs.Hall.{Desk, used_slots}
use Rattle.rules.specs.Steps.{hand_back}
use Rattle.rules.specs.Table.{encode_desk, encode_tail, list_of, list_offset, mark_words, sessions_of, slots_for, slots_in, tail_in, width_for, words_of_bits}
use Rattle.rules.proofs.Laws.Desk.Encoding.{length_sessions}
use Rattle.marks.specs.Marks.{marks, pick}
use Rattle.marks.proofs.MarkLaws.{mark-small, marks-length}
use Rattle.marks.proofs.SlotLaws.{pick_all}
use Rattle.desk.specs.Layout.{handed_back, partitioned, tested_slots}
use Rattle.desk.specs.Record.{Laid}
use Rattle.desk.proofs.MarkTie.{mark_bits}
use Rattle.desk.proofs.DeskLaws.{first_ready, hand_none, none_ready}
use Rattle.desk.proofs.DeskTie.{first-handed, formed_of, handed_encoded}
use Rattle.desk.proofs.LayoutLaws.{ready_count, same_word, tested_fits}
use Rattle.ring_rules.specs.Ring.{beginning_after, beginning_in, circular, decode_ring, encode_ring, linear, rotate, slot_after}
use Rattle.ring_rules.proofs.Laws.Rotations.{slot_rotate, rotate-length}
use Rattle.ring_desk.specs.RingRecord.{ring}
use Rattle.ring_desk.specs.RingReads.{Reads, first_head, first-slots, first_tail, reads_as, reads_end, reads_head, reads_next, reads_start, slot_below, slot_first, slot_word, slots-long, slots_rotated}
use Rattle.ring_desk.specs.RingLaws.{ring_laws}
use Rattle.ring_desk.specs.Around.{Parted}
use Rattle.ring_desk.proofs.AroundLaws.{put_rotated}
use Rattle.ring_desk.proofs.RingParts.{put_slots, reads_list, tested_around, tested_length}

-- ---- (d): the list of a desk without its first session. A zero comes behind its last slot, so the slot that the session leaves, which is now
-- the last one, must hold 0.
slots-handed : (q : ℕ) (ready rest : List ℕ) → 0 < length ready → length (ready ++ rest) ≤ q
    → drop 1 ((ready ++ rest) ++ replicate (q - length (ready ++ rest)) 0) ++ (0 ∷ []) ≡ (drop 1 ready ++ rest) ++ replicate (q - length (drop 1 ready ++ rest)) 0
slots-handed q [] rest some room = absurd (omega arith)
slots-handed q (x ∷ ready) rest some room =
    let n = length (ready ++ rest) in
    let e : q - suc n + 1 ≡ q - n = omega arith in
    append_assoc (ready ++ rest) (replicate (q - suc n) 0) (0 ∷ [])
    ∙ ap (λ (z : List ℕ). (ready ++ rest) ++ z) (replicate-append-replicate (q - suc n) 1 0 ∙ ap (λ (k : ℕ). replicate {A = ℕ} k 0) e)

-- the words of a desk, without its first session
module _ (s : ℕ) (D : Desk) (some : 0 < length D.ready) (room : used_slots D ≤ 2 * s) where
  abbrev head : List ℕ
  head = D.owed ∷ D.scanned ∷ length D.ready ∷ length D.tested ∷ length D.waiting ∷ words_of_bits mark_words (mark_bits D.tested)

  rest_many : length (list_of D) ≤ 2 * s
  rest_many = omega (arith, length-append D.ready (sessions_of D.tested ++ D.waiting), length-append (sessions_of D.tested) D.waiting, length_sessions D.tested)

  many : length (slots_for s D) ≡ 2 * s
  many = omega (arith, rest_many, length-append (list_of D) (replicate (2 * s - length (list_of D)) 0), length-replicate {A = ℕ} (2 * s - length (list_of D)) 0)

  handed-words : set (take list_offset (encode_desk s D) ++ ((drop 1 (slots_in s (encode_desk s D)) ++ (0 ∷ [])) ++ tail_in s (encode_desk s D))) 2 (length D.ready - 1)
      ≡ encode_desk s (hand_back D).after
  unfolding encode_desk
  handed-words =
      let head_is = first_head s head (slots_for s D) (encode_tail D) refl many in
      let slots_are = first-slots s head (slots_for s D) (encode_tail D) refl many in
      let tail_is = first_tail s head (slots_for s D) (encode_tail D) refl many in
      (λ i. set (head_is i ++ ((drop 1 (slots_are i) ++ (0 ∷ [])) ++ tail_is i)) 2 (length D.ready - 1))
      ∙ (λ i. D.owed ∷ D.scanned ∷ sym (length-drop 1 D.ready) i ∷ length D.tested ∷ length D.waiting
      ∷ (words_of_bits mark_words (mark_bits D.tested) ++ (slots-handed (2 * s) D.ready (sessions_of D.tested ++ D.waiting) some rest_many i ++ encode_tail D)))

beginning_moved : (s b : ℕ) (ready : List ℕ) → 0 < length ready → slot_after s b 1 ≡ beginning_after s ready b
beginning_moved s b [] some = absurd (omega arith)
beginning_moved s b (x ∷ ready) some = refl

beginning_stays : (s b : ℕ) (ready : List ℕ) → length ready ≡ 0 → b ≡ beginning_after s ready b
beginning_stays s b [] none = refl
beginning_stays s b (x ∷ ready) none = absurd (omega arith)

-- ---- the record that a call is lent
module _ (s : ℕ) (r : List ℕ) (e : Laid ring s r) where
  abbrev b : ℕ
  b = beginning_in s r

  abbrev w : List ℕ
  w = linear s r

  abbrev D : Desk
  D = decode_ring s r

  reads : Reads s b r w
  reads = reads_start s r e.long

  ready_is : get_or r 2 0 ≡ get_or w 2 0
  ready_is = same_word ring ring_laws s r e 2 (omega arith)

  -- ---- (c), the list. Read from the beginning on, and from there past the ready ones, it starts with the tested slots: they are what the code
  -- finds and partitions.
  module _ (a n : ℕ) (count : n ≡ get_or r 3 0) (starts : a ≡ slot_after s b (get_or r 2 0)) where
    abbrev before : ℕ
    before = get_or r 2 0

    tested_is : n ≡ get_or w 3 0
    tested_is = count ∙ same_word ring ring_laws s r e 3 (omega arith)

    fits : before + n ≤ 2 * s
    fits = omega (arith, count, tested_fits ring ring_laws s r e)

    around : take n (rotate a (slots_in s r)) ≡ take n (drop (list_offset + before) w)
    around = ap (λ (p : ℕ). take n (rotate p (slots_in s r))) starts ∙ tested_around s b r w before n e.begins fits e.reads.long reads

    pub tested_are : take n (rotate a (slots_in s r)) ≡ tested_slots w
    tested_are = around ∙ (λ i. take (tested_is i) (drop (list_offset + ready_is i) w))

    pub partitioned_list : (m slots' : List ℕ) → length m ≡ mark_words → length slots' ≡ 2 * s → Parted (slots_in s r) (marks m) a n slots'
        → Reads s b (put_mid list_offset (list_offset + 2 * s - list_offset) r slots') (partitioned (marks m) w)
    partitioned_list m slots' eight long' is =
        let slots = slots_in s r in
        let long = slots-long s b r w reads in
        let rotated = rotate b slots in
        let tested = take n (drop (list_offset + before) w) in
        let ys : List ℕ = pick 0 (marks m) tested ++ pick 1 (marks m) tested in
        let many = tested_length s w e.reads.long before n fits in
        let wide : length ys ≡ n =
        length-append (pick 0 (marks m) tested) (pick 1 (marks m) tested)
        ∙ pick_all (marks m) tested (λ i. mark-small m i) (omega (arith, marks-length m, eight, many, fits, e.reads.bounded)) ∙ many in
        let rotated_twice : rotate before (rotate b slots') ≡ ys ++ drop n (rotate before rotated) =
        slot_rotate s b slots' long' e.begins before (omega (arith, fits)) ∙ ap (λ (p : ℕ). rotate p slots') (sym starts) ∙ is
        ∙ (λ i. (pick 0 (marks m) (around i) ++ pick 1 (marks m) (around i)) ++ drop n (rotate (starts i) slots))
        ∙ ap {B = List ℕ} (λ x. ys ++ drop n x) (sym (slot_rotate s b slots long e.begins before (omega (arith, fits)))) in
        let put : rotate b slots' ≡ take before rotated ++ (ys ++ drop n (drop before rotated)) =
        put_rotated before n rotated ys (omega (arith, rotate-length b slots, long, fits)) (rotate b slots') (rotate-length b slots' ∙ long' ∙ sym (rotate-length b slots ∙ long)) wide rotated_twice in
        let read : take list_offset w ++ (rotate b slots' ++ tail_in s w) ≡ take (list_offset + before) w ++ (ys ++ drop n (drop (list_offset + before) w)) =
        ap {B = List ℕ} (λ x. take list_offset w ++ (x ++ tail_in s w)) (put ∙ ap {B = List ℕ} (λ x. take before x ++ (ys ++ drop n (drop before x))) (slots_rotated s b r w reads))
        ∙ put_slots s w e.reads.long before n fits ys in
        reads_as s b _ _ _ _ (reads_list s b r w slots' long' reads) refl
        (read ∙ (λ i. take (list_offset + ready_is i) w
        ++ ((pick 0 (marks m) (take (tested_is i) (drop (list_offset + ready_is i) w)) ++ pick 1 (marks m) (take (tested_is i) (drop (list_offset + ready_is i) w)))
        ++ drop (tested_is i) (drop (list_offset + ready_is i) w))))

  -- ---- (d)
  pub first_session : 0 < get_or r 2 0 → get_or r (list_offset + b) 0 ≡ (hand_back D).session
  first_session some =
      let ready = ready_is in
      ap (λ (k : ℕ). get_or r (list_offset + k) 0) (sym (slot_first s b e.begins))
      ∙ slot_word s b r w reads 0 e.begins (omega (arith, e.begins)) ∙ first_ready s w (omega (arith, ready)) ∙ first-handed s w e.reads

  pub no_session : get_or r 2 0 ≡ 0 → 0 ≡ (hand_back D).session
  no_session none = none_ready s w (sym (ready_is) ∙ none) ∙ first-handed s w e.reads

  pub hand_stores : 0 < get_or r 2 0 → (p : ℕ) → p ≡ slot_after s b 1 → set (set (set r (list_offset + b) 0) (width_for s) p) 2 (get_or r 2 0 - 1) ≡ handed_back ring s b D
  hand_stores some p is =
      let next = slot_after s b 1 in
      let count = ready_count ring ring_laws s r e in
      let below = slot_below s b 1 e.begins (omega (arith, e.begins)) in
      ap (λ (k : ℕ). set (set (set r (list_offset + b) 0) (width_for s) k) 2 (get_or r 2 0 - 1)) is
      ∙ reads_end s next _ _ (omega arith) (reads_head s next _ _ 2 (get_or r 2 0 - 1) (omega arith) (reads_next s b r w e.begins reads))
      ∙ ap (circular s next)
      ((λ i. set (take list_offset (e.reads.is i) ++ ((drop 1 (slots_in s (e.reads.is i)) ++ (0 ∷ [])) ++ tail_in s (e.reads.is i))) 2 (count i - 1)) ∙ handed-words s D (omega (arith, count)) e.reads.room)
      ∙ ap (λ (k : ℕ). encode_ring s k (hand_back D).after) (beginning_moved s b D.ready (omega (arith, count)))

  pub hand_nothing : get_or r 2 0 ≡ 0 → r ≡ handed_back ring s b D
  hand_nothing none =
      let count = ready_count ring ring_laws s r e in
      reads_end s b r w (omega (arith, e.begins)) reads
      ∙ ap (circular s b) (hand_none s w (formed_of s w e.reads) (sym (ready_is) ∙ none) ∙ handed_encoded s w e.reads)
      ∙ ap (λ (k : ℕ). encode_ring s k (hand_back D).after) (beginning_stays s b D.ready (sym count ∙ none))
