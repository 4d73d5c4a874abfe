-- Demand 1 of the ring: a refused call writes nothing, an accepted one only the words that its step names and its desk's message number.
use Rattle.std.specs.Prelude.{ℕ, zero, suc, ◌+◌, ◌*◌, ◌-◌, ◌≤◌, ◌<◌, ◌≡◌, refl, Bool, true, false, cond, not, List, [], ◌∷◌, ◌++◌, map, eqb, ltb, length, get_or, drop, set, replicate}
use Rattle.std.proofs.Common.{arith, sym, ap, ◌∙◌, subst, true≢false, eqb-true, ltb-false, length-append, length-drop, length-set, get_or-drop, get_or-set_other, get_or-set_same, get_or-take}
use Rattle.std.proofs.Math.Decide.{dec_lt}
use Rattle.std.proofs.lemmas.Bool.{eqb-false}
use Rattle.std.proofs.lemmas.List.{length-map, length-replicate}
use Rattle.rules.specs.Bytes.{Words16}
use Rattle.rules.specs.Demands.{Demand1, opening_refusals, refusals}
use Rattle.rules.specs.Hall.{Desk, Hall, Limits, State, all_screens, used_slots}
use Rattle.rules.specs.Lists.{occurrences}
use Rattle.rules.specs.Steps.{Call, Collect, Drop, Result, Retire, Step, Swap, Take, ◌numbered◌, ◌sends◌, accept, advance, begin, collect, is_repeat, is_session}
use Rattle.rules.specs.Steps.{perform, questions, refuse, retire, scan, settle}
use Rattle.rules.specs.Table.{encode_desk, hall_in, header_words, list_offset, owed_offset, position_word, record_sound, screen_word, slots_for, slots_in, tail_offset, used_in, waiting_offset, width_for}
use Rattle.rules.proofs.Laws.Desk.Collect.{owed_collect}
use Rattle.rules.proofs.Laws.Desk.Decoding.{record_again, small-drop, small-take}
use Rattle.rules.proofs.Laws.Desk.Encoding.{slots_read_back, tail_word}
use Rattle.rules.proofs.Laws.Desk.Sound.{Sound, collect-sound, retire-sound}
use Rattle.rules.proofs.Laws.History.StepEffects.{IsDesk, SwapAsked, desk_asked, retire-asked, swap_asked}
use Rattle.rules.proofs.Laws.Lists.Bools.{and_right}
use Rattle.rules.proofs.Laws.Lists.ListSlices.{get_past, put_is}
use Rattle.rules.proofs.Laws.Lists.Lists.{indicator, indicator_same}
use Rattle.rules.proofs.Laws.Table.Demand1.{owed_first, retire_keeps, tail_collect}
use Rattle.rules.proofs.Laws.Table.EncodedStep.{some_screens}
use Rattle.rules.proofs.Laws.Table.TableHistories.{counts_encoded}
use Rattle.rules.proofs.Laws.Table.WordBounds.{first_no_is_asked, refusals_are_asked}
use Rattle.ring_rules.specs.Ring.{beginning_after, beginning_in, decode_ring, encode_ring, linear, open_ring, opened_ring, put_ring, ring_after, ring_after_step, ring_need, ring_next_word}
use Rattle.ring_rules.specs.Ring.{ring_questions, ring_record_of, ring_sound, ring_start, ring_state, ring_width_for, rotate, settled, slot_after, step_ring}
use Rattle.ring_rules.specs.RingDemands.{collect_offsets, hand_back_offsets, marks_at_end, reading_offsets, retire_offsets, ring_footprint, ring_names, ring_opening_footprint, ring_step_names, tested_offsets}
use Rattle.ring_rules.proofs.Laws.NamedWords.{not_either, not_first, offsets_named, outside_range, unnamed}
use Rattle.ring_rules.proofs.Laws.Records.{linear-head, linear-length, linear-slots, linear_tail, linear-words, slots_length}
use Rattle.ring_rules.proofs.Laws.RingOpening.{by_opening, ring_fits}
use Rattle.ring_rules.proofs.Laws.RingSteps.{Laid, RingKnown, accepted_ring, after-below, begins-below, desk_good, desk_is, held, laid, record_good, refused_ring, ring_known, ring_asked}
use Rattle.ring_rules.proofs.Laws.RingSteps.{unsound-ring, writes}
use Rattle.ring_rules.proofs.Laws.RingTables.{record_long, record_within}
use Rattle.ring_rules.proofs.Laws.SlotWords.{collected_slot, index_of, index_slot, retired_slot}

-- ---- A ring's record and another one, word by word.
module _ (S : ℕ) (r r' : List ℕ) (long : length r ≡ ring_width_for S) (long' : length r' ≡ ring_width_for S) where
  -- the words that are not of the list are those of the records of the first board
  record_kept : (j : ℕ) → j < ring_width_for S
      → (j < list_offset → get_or (linear S r') j 0 ≡ get_or (linear S r) j 0)
      → ((i : ℕ) → list_offset + i ≡ j → i < 2 * S → get_or (slots_in S r') i 0 ≡ get_or (slots_in S r) i 0)
      → (j ≡ tail_offset S → get_or (linear S r') j 0 ≡ get_or (linear S r) j 0)
      → (j ≡ width_for S → beginning_in S r' ≡ beginning_in S r)
      → get_or r' j 0 ≡ get_or r j 0
  record_kept j h head slots number begins = by_place (dec_lt j list_offset) (dec_lt j (tail_offset S)) (dec_lt j (width_for S))
    where
      slot_word : (x : List ℕ) → length x ≡ ring_width_for S → (i : ℕ) → i < 2 * S → get_or (slots_in S x) i 0 ≡ get_or x (list_offset + i) 0
      slot_word x e i l = get_or-take (2 * S) (drop list_offset x) i 0 l ∙ get_or-drop list_offset x i 0

      number_word : (x : List ℕ) → length x ≡ ring_width_for S → get_or (linear S x) (tail_offset S) 0 ≡ get_or x (tail_offset S) 0
      number_word x e =
          let z : tail_offset S + 0 ≡ tail_offset S = omega arith in
          subst (λ (k : ℕ). get_or (linear S x) k 0 ≡ get_or x k 0) z (linear_tail S x e 0 (omega arith))

      by_place : Dec (j < list_offset) → Dec (j < tail_offset S) → Dec (j < width_for S) → get_or r' j 0 ≡ get_or r j 0
      by_place (yes l) in_list in_tail = sym (linear-head S r' long' j l) ∙ head l ∙ linear-head S r long j l
      by_place (no l) (yes m) in_tail =
          let e : list_offset + (j - list_offset) ≡ j = omega arith in
          subst (λ (k : ℕ). get_or r' k 0 ≡ get_or r k 0) e
          (sym (slot_word r' long' (j - list_offset) (omega arith)) ∙ slots (j - list_offset) e (omega arith) ∙ slot_word r long (j - list_offset) (omega arith))
      by_place (no l) (no m) (yes n) =
          let e : tail_offset S ≡ j = omega arith in
          subst (λ (k : ℕ). get_or r' k 0 ≡ get_or r k 0) e
          (sym (number_word r' long') ∙ subst (λ (k : ℕ). get_or (linear S r') k 0 ≡ get_or (linear S r) k 0) (sym e) (number (sym e)) ∙ number_word r long)
      by_place (no l) (no m) (no n) =
          let e : width_for S ≡ j = omega arith in subst (λ (k : ℕ). get_or r' k 0 ≡ get_or r k 0) e (begins (sym e))

-- ---- The record of a desk, and the record of another desk in its place.
module _ (S : ℕ) (r : List ℕ) (D : Desk) (long : length r ≡ ring_width_for S) (begins : beginning_in S r < 2 * S) (reads : linear S r ≡ encode_desk S D) (good : Sound S D) where
  slots_read : (x : List ℕ) (E : Desk) → length x ≡ ring_width_for S → linear S x ≡ encode_desk S E → used_slots E ≤ 2 * S → rotate (beginning_in S x) (slots_in S x) ≡ slots_for S E
  slots_read x E wide e room = sym (linear-slots S x wide) ∙ ap (slots_in S) e ∙ slots_read_back S E room

  retired_record : (D.owed ≡ 0 → ⊥) → used_slots D < 2 * S → Laid S (beginning_in S r) (retire D) → (j : ℕ) → j < ring_width_for S
      → occurrences j (owed_offset ∷ waiting_offset ∷ (list_offset + slot_after S (beginning_in S r) (used_slots D)) ∷ []) ≡ 0
      → get_or (encode_ring S (beginning_in S r) (retire D)) j 0 ≡ get_or r j 0
  retired_record owes room l j h none =
      let b = beginning_in S r in
      let r' = encode_ring S b (retire D) in
      let owed = not_first j owed_offset (waiting_offset ∷ (list_offset + slot_after S b (used_slots D)) ∷ []) none in
      let waiting = not_first j waiting_offset ((list_offset + slot_after S b (used_slots D)) ∷ []) owed.1 in
      let slot = not_first j (list_offset + slot_after S b (used_slots D)) [] waiting.1 in
      let kept : (j ≡ list_offset + used_slots D → ⊥) → get_or (linear S r') j 0 ≡ get_or (linear S r) j 0 =
      (λ elsewhere. ap (λ (x : List ℕ). get_or x j 0) l.reads ∙ retire_keeps S D j room owed.0 waiting.0 elsewhere ∙ ap (λ (x : List ℕ). get_or x j 0) (sym reads)) in
      record_kept S r r' long l.long j h
      (λ q. kept (λ e. omega arith))
      (λ i e q. retired_slot S b begins (slots_in S r) (slots_length S r (omega (arith, long))) D (slots_read r D long reads good.total) room (slots_in S r') (slots_length S r' (omega (arith, l.long)))
      (ap (λ (k : ℕ). rotate k (slots_in S r')) (sym l.begins) ∙ slots_read r' (retire D) l.long l.reads (retire-sound S D owes room good).total) i
      (λ same. slot.0 (sym e ∙ ap (λ (k : ℕ). list_offset + k) same)))
      (λ e. kept (λ q. omega arith))
      (λ e. l.begins)

  collected_record : (shown : List ℕ)
      → let b = beginning_in S r in
      let read = scan shown (begin D) in
      let ready = (settle S read).ready in
      let E = (collect S shown D).after in
      Laid S (beginning_after S ready b) E → used_slots E ≤ 2 * S → (j : ℕ) → j < ring_width_for S
      → occurrences j (reading_offsets ++ (hand_back_offsets S b ready ++ cond (marks_at_end S read) (tested_offsets S b read) [])) ≡ 0
      → get_or (encode_ring S (beginning_after S ready b) E) j 0 ≡ get_or r j 0
  collected_record shown l fits j h none =
      let b = beginning_in S r in
      let read = scan shown (begin D) in
      let ready = (settle S read).ready in
      let E = (collect S shown D).after in
      let r' = encode_ring S (beginning_after S ready b) E in
      let marked = cond (marks_at_end S read) (tested_offsets S b read) [] in
      let parts = not_either j reading_offsets (hand_back_offsets S b ready ++ marked) none in
      let later = not_either j (hand_back_offsets S b ready) marked parts.1 in
      record_kept S r r' long l.long j h
      (λ q. by_owed l (dec_lt 0 j) (outside_range (λ (x : ℕ). x) 1 12 j parts.0) q)
      (λ i e q. collected_slot S b begins (slots_in S r) (slots_length S r (omega (arith, long))) D (slots_read r D long reads good.total) shown good.total (slots_in S r') (slots_length S r' (omega (arith, l.long)))
      (ap (λ (k : ℕ). rotate k (slots_in S r')) (sym l.begins) ∙ slots_read r' E l.long l.reads fits) i q
      (tested_unnamed i q e (marks_at_end S read) later.1) (λ x rest is same. slot_left x rest i e is same later.0))
      (λ e. number_kept l e)
      (λ e. l.begins ∙ beginning_kept ready later.0 e)
    where
      by_owed : Laid S (beginning_after S (settle S (scan shown (begin D))).ready (beginning_in S r)) (collect S shown D).after → Dec (0 < j) → (1 ≤ j → 1 + 12 ≤ j) → j < list_offset
          → get_or (linear S (encode_ring S (beginning_after S (settle S (scan shown (begin D))).ready (beginning_in S r)) (collect S shown D).after)) j 0 ≡ get_or (linear S r) j 0
      by_owed l (yes some) outside q = absurd (let past = outside some in omega arith)
      by_owed l (no none) outside q =
          let e : 0 ≡ j = omega arith in
          subst (λ (k : ℕ). get_or (linear S (encode_ring S (beginning_after S (settle S (scan shown (begin D))).ready (beginning_in S r)) (collect S shown D).after)) k 0 ≡ get_or (linear S r) k 0) e
          (ap (λ (x : List ℕ). get_or x 0 0) l.reads ∙ owed_first S (collect S shown D).after ∙ owed_collect S shown D ∙ sym (ap (λ (x : List ℕ). get_or x 0 0) reads ∙ owed_first S D))

      number_kept : Laid S (beginning_after S (settle S (scan shown (begin D))).ready (beginning_in S r)) (collect S shown D).after → j ≡ tail_offset S
          → get_or (linear S (encode_ring S (beginning_after S (settle S (scan shown (begin D))).ready (beginning_in S r)) (collect S shown D).after)) j 0 ≡ get_or (linear S r) j 0
      number_kept l e =
          ap (λ (x : List ℕ). get_or x j 0) l.reads ∙ tail_word S (collect S shown D).after fits j (omega arith)
          ∙ ap (λ (x : List ℕ). get_or x (j - tail_offset S) 0) (tail_collect S shown D)
          ∙ sym (ap (λ (x : List ℕ). get_or x j 0) reads ∙ tail_word S D good.total j (omega arith))

      beginning_kept : (ready : List ℕ) → occurrences j (hand_back_offsets S (beginning_in S r) ready) ≡ 0 → j ≡ width_for S → beginning_after S ready (beginning_in S r) ≡ beginning_in S r
      beginning_kept [] none e = refl
      beginning_kept (x ∷ rest) none e =
          let slot = not_first j (list_offset + beginning_in S r) (width_for S ∷ []) none in absurd ((not_first j (width_for S) [] slot.1).0 e)

      slot_left : (x : ℕ) (rest : List ℕ) (i : ℕ) → list_offset + i ≡ j → (settle S (scan shown (begin D))).ready ≡ x ∷ rest → i ≡ beginning_in S r
          → occurrences j (hand_back_offsets S (beginning_in S r) (settle S (scan shown (begin D))).ready) ≡ 0 → ⊥
      slot_left x rest i e is same none =
          (not_first j (list_offset + beginning_in S r) (width_for S ∷ []) (subst (λ (l : List ℕ). occurrences j (hand_back_offsets S (beginning_in S r) l) ≡ 0) is none)).0
          (sym e ∙ ap (λ (k : ℕ). list_offset + k) same)

      tested_unnamed : (i : ℕ) → i < 2 * S → list_offset + i ≡ j → (b : Bool) → occurrences j (cond b (tested_offsets S (beginning_in S r) (scan shown (begin D))) []) ≡ 0
          → b ≡ true → length (scan shown (begin D)).ready ≤ index_of S (beginning_in S r) i
          → length (scan shown (begin D)).ready + length (scan shown (begin D)).tested ≤ index_of S (beginning_in S r) i
      tested_unnamed i q e true none is =
          let read = scan shown (begin D) in
          let b = beginning_in S r in
          outside_range (λ (x : ℕ). list_offset + slot_after S b x) (length read.ready) (length read.tested) (index_of S b i)
          (subst (λ (k : ℕ). occurrences k (tested_offsets S b read) ≡ 0) (sym (ap (λ (k : ℕ). list_offset + k) (index_slot S b i begins q) ∙ e)) none)
      tested_unnamed i q e false none is = absurd (true≢false (sym is))

-- ---- An accepted step on a sound ring of 16-bit words.
module _ (limits : Limits) (t : List ℕ) (small : Words16 t) (k : RingKnown limits t) where
  abbrev H : Hall
  H = hall_in t

  abbrev S : ℕ
  S = all_screens H

  abbrev st : State
  st = ring_state t

  module _ (d : ℕ) (there : IsDesk H d) where
    abbrev r : List ℕ
    r = ring_record_of H t d

    abbrev D : Desk
    D = decode_ring S r

    wide : length r ≡ ring_width_for S
    wide = record_long H t k.long d there.0 there.1

    small_record : Words16 (linear S r)
    small_record = linear-words S r wide (small-take (ring_width_for S) (drop (ring_start H d) t) (small-drop (ring_start H d) t small))

    -- it reads as the record of the desk that it holds
    reads_as : linear S r ≡ encode_desk S D
    reads_as =
        sym
        (record_again S (linear S r) (linear-length S r wide) (held limits t k).bounded small_record
        (and_right (ltb (beginning_in S r) (2 * S)) (record_sound S (linear S r)) (record_good H t k.long k.records d there.0 there.1)))

    fits : ring_start H d + ring_width_for S ≤ length t
    fits = let l = k.long in omega (arith, record_within H t k.long d there.0 there.1)

    -- a record written anew keeps each word of the table that it keeps
    put_kept : (q : List ℕ) → length q ≡ ring_width_for S → (i : ℕ) → ((j : ℕ) → j < ring_width_for S → ring_start H d + j ≡ i → get_or q j 0 ≡ get_or r j 0) → get_or (put_ring H t d q) i 0 ≡ get_or t i 0
    put_kept q long i kept =
        put_is t q (ring_start H d) (ring_width_for S) fits long i (get_or t i 0)
        (λ j h e. kept j h e ∙ get_or-take (ring_width_for S) (drop (ring_start H d) t) j 0 h ∙ get_or-drop (ring_start H d) t j 0 ∙ ap (λ (n : ℕ). get_or t n 0) e)
        (λ outside. refl)

    used-words : used_in r ≡ used_slots D
    used-words =
        (λ i. sym (linear-head S r wide 2 (omega arith)) i + sym (linear-head S r wide 3 (omega arith)) i + sym (linear-head S r wide 4 (omega arith)) i)
        ∙ ap used_in reads_as ∙ counts_encoded S D

  -- a swap writes the owed word only where the old session is not 0; a repeat writes nothing
  swap_keeps : (m d p new : ℕ) → ring_asked limits t (d sends Swap p new numbered m) ≡ 0 → (i : ℕ) → occurrences i (ring_step_names t d (Swap p new)) ≡ 0
      → get_or (ring_after_step t d (Swap p new)) i 0 ≡ get_or t i 0
  swap_keeps m d p new e i none = by_repeat (is_repeat (get_or t (position_word p) 0) new) none
    where
      asks : SwapAsked H st d p
      asks = swap_asked limits H st m d p new e

      owed_word : get_or t (ring_start H d) 0 ≡ 0
      owed_word =
          let there = asks.desk in
          let e0 : ring_start H d + 0 ≡ ring_start H d = omega arith in
          sym
          (sym asks.owes_nothing ∙ ap (λ (X : Desk). X.owed) (desk_is limits t k d there)
          ∙ sym (owed_first S (D d there)) ∙ ap (λ (x : List ℕ). get_or x 0 0) (sym (reads_as d there)) ∙ linear-head S (r d there) (wide d there) 0 (omega arith)
          ∙ get_or-take (ring_width_for S) (drop (ring_start H d) t) 0 0 (omega arith) ∙ get_or-drop (ring_start H d) t 0 0 ∙ ap (λ (n : ℕ). get_or t n 0) e0)

      by_owed : (i ≡ position_word p → ⊥) → (b : Bool) → is_session (get_or t (position_word p) 0) ≡ b → occurrences i (cond b (ring_start H d ∷ []) []) ≡ 0
          → get_or (set (set t (position_word p) new) (ring_start H d) (get_or t (position_word p) 0)) i 0 ≡ get_or t i 0
      by_owed elsewhere true z none =
          get_or-set_other (set t (position_word p) new) (ring_start H d) i (get_or t (position_word p) 0) 0 (not_first i (ring_start H d) [] none).0
          ∙ get_or-set_other t (position_word p) i new 0 elsewhere
      by_owed elsewhere false z none = by_word (eqb i (ring_start H d)) refl
        where
          old_none : (q : Bool) → eqb (get_or t (position_word p) 0) 0 ≡ q → not q ≡ false → get_or t (position_word p) 0 ≡ 0
          old_none true y x = eqb-true (get_or t (position_word p) 0) 0 y
          old_none false y x = absurd (true≢false x)

          by_word : (q : Bool) → eqb i (ring_start H d) ≡ q → get_or (set (set t (position_word p) new) (ring_start H d) (get_or t (position_word p) 0)) i 0 ≡ get_or t i 0
          by_word true y =
              let is : i ≡ ring_start H d = eqb-true i (ring_start H d) y in
              let old : get_or t (position_word p) 0 ≡ 0 = old_none (eqb (get_or t (position_word p) 0) 0) refl z in
              ap (λ (n : ℕ). get_or (set (set t (position_word p) new) (ring_start H d) (get_or t (position_word p) 0)) n 0) is
              ∙ get_or-set_same (set t (position_word p) new) (ring_start H d) (get_or t (position_word p) 0) 0 (omega (arith, fits d asks.desk, length-set t (position_word p) new))
              ∙ old ∙ sym owed_word ∙ ap (λ (n : ℕ). get_or t n 0) (sym is)
          by_word false y =
              get_or-set_other (set t (position_word p) new) (ring_start H d) i (get_or t (position_word p) 0) 0 (eqb-false i (ring_start H d) y)
              ∙ get_or-set_other t (position_word p) i new 0 elsewhere

      by_repeat : (b : Bool) → occurrences i (cond b [] (position_word p ∷ cond (is_session (get_or t (position_word p) 0)) (ring_start H d ∷ []) [])) ≡ 0
          → get_or (cond b t (set (set t (position_word p) new) (ring_start H d) (get_or t (position_word p) 0))) i 0 ≡ get_or t i 0
      by_repeat true none = refl
      by_repeat false none =
          let parts = not_first i (position_word p) (cond (is_session (get_or t (position_word p) 0)) (ring_start H d ∷ []) []) none in
          by_owed parts.0 (is_session (get_or t (position_word p) 0)) refl parts.1

  retire_keeps_words : (m d : ℕ) → ring_asked limits t (d sends Retire numbered m) ≡ 0 → (i : ℕ) → occurrences i (ring_step_names t d Retire) ≡ 0
      → get_or (ring_after_step t d Retire) i 0 ≡ get_or t i 0
  retire_keeps_words m d e i none =
      let asks = retire-asked limits H st m d e in
      let there = asks.desk in
      let same = desk_is limits t k d there in
      let record_now = r d there in
      let desk = D d there in
      let b = beginning_in S record_now in
      let room : used_slots desk < 2 * S = subst (λ (X : Desk). used_slots X < 2 * S) same asks.room in
      let owes : desk.owed ≡ 0 → ⊥ = subst (λ (X : Desk). X.owed ≡ 0 → ⊥) same asks.owes in
      let good = desk_good limits t k d there in
      let l = laid H (held limits t k).fits b (retire desk) (held limits t k).bounded (begins-below limits t k d there) (retire-sound S desk owes room good) in
      put_kept d there (encode_ring S b (retire desk)) l.long i
      (λ j h at-word. retired_record S record_now desk (wide d there) (begins-below limits t k d there) (reads_as d there) good owes room l j h
      (subst (λ (n : ℕ). occurrences j (owed_offset ∷ waiting_offset ∷ (list_offset + slot_after S b n) ∷ []) ≡ 0) (used-words d there)
      (sym (offsets_named (ring_start H d) j (retire_offsets S record_now)) ∙ ap (λ (n : ℕ). occurrences n (ring_step_names t d Retire)) at-word ∙ none)))

  collect_keeps_words : (m d : ℕ) → ring_asked limits t (d sends Collect numbered m) ≡ 0 → (i : ℕ) → occurrences i (ring_step_names t d Collect) ≡ 0
      → get_or (ring_after_step t d Collect) i 0 ≡ get_or t i 0
  collect_keeps_words m d e i none =
      let there = desk_asked limits H st (d sends Collect numbered m) e in
      let record_now = r d there in
      let desk = D d there in
      let b = beginning_in S record_now in
      let shown = st.shown in
      let good = desk_good limits t k d there in
      let ready = (settled S shown desk).ready in
      let after_good = collect-sound S shown desk (some_screens H (held limits t k).fits) (held limits t k).valid_state.formed.screens good in
      let l = laid H (held limits t k).fits (beginning_after S ready b) (collect S shown desk).after (held limits t k).bounded (after-below S ready b (begins-below limits t k d there)) after_good in
      put_kept d there (encode_ring S (beginning_after S ready b) (collect S shown desk).after) l.long i
      (λ j h at-word. collected_record S record_now desk (wide d there) (begins-below limits t k d there) (reads_as d there) good shown l after_good.total j h
      (sym (offsets_named (ring_start H d) j (collect_offsets S shown record_now)) ∙ ap (λ (n : ℕ). occurrences n (ring_step_names t d Collect)) at-word ∙ none))

  after_keeps : (c : Call) → ring_asked limits t c ≡ 0 → (i : ℕ) → ring_footprint t c i ≡ false → get_or (ring_after t c) i 0 ≡ get_or t i 0
  after_keeps c e i q =
      let number = ring_next_word H c.desk in
      let parts = not_first i number (ring_step_names t c.desk c.step) (unnamed i (ring_names t c) q) in
      get_or-set_other (ring_after_step t c.desk c.step) number i (advance (get_or t number 0)) 0 parts.0
      ∙ by_step c.message c.desk c.step e parts.1
    where
      by_step : (m d : ℕ) (s : Step) → ring_asked limits t (d sends s numbered m) ≡ 0 → occurrences i (ring_step_names t d s) ≡ 0 → get_or (ring_after_step t d s) i 0 ≡ get_or t i 0
      by_step m d (Take c p) e none = get_or-set_other t (screen_word H d c) i (get_or t (position_word p) 0) 0 (not_first i (screen_word H d c) [] none).0
      by_step m d (Drop c) e none = get_or-set_other t (screen_word H d c) i 0 0 (not_first i (screen_word H d c) [] none).0
      by_step m d (Swap p new) e none = swap_keeps m d p new e i none
      by_step m d Retire e none = retire_keeps_words m d e i none
      by_step m d Collect e none = collect_keeps_words m d e i none

-- a collect that does not end a reading with a marked session names at most 15 words
pub collect_names_few : (t : List ℕ) (m d : ℕ)
    → let H = hall_in t in
    let read = scan (ring_state t).shown (begin (decode_ring (all_screens H) (ring_record_of H t d))) in
    marks_at_end (all_screens H) read ≡ false → length (ring_names t (d sends Collect numbered m)) ≤ 15
collect_names_few t m d none =
    let H = hall_in t in
    let S = all_screens H in
    let r = ring_record_of H t d in
    let b = beginning_in S r in
    let read = scan (ring_state t).shown (begin (decode_ring S r)) in
    let handed = hand_back_offsets S b (settle S read).ready in
    let moved = cond (marks_at_end S read) (tested_offsets S b read) [] in
    let offsets = collect_offsets S (ring_state t).shown r in
    omega (arith, length-map offsets (λ offset. ring_start H d + offset), length-append handed moved, handed_few S b (settle S read).ready, ap (λ (q : Bool). length (cond q (tested_offsets S b read) [])) none)
  where
    handed_few : (S b : ℕ) (ready : List ℕ) → length (hand_back_offsets S b ready) ≤ 2
    handed_few S b [] = omega arith
    handed_few S b (x ∷ ready) = omega arith

-- ---- Every step, by its three cases.
pub by_ring_step : (limits : Limits) (Q : Result (List ℕ) → Type 0) (t : List ℕ) (c : Call)
    → Q (refuse 5 t)
    → ((n : ℕ) → ring_asked limits t c ≡ suc n → Q (refuse (suc n) t))
    → (ring_sound limits t ≡ true → ring_asked limits t c ≡ 0 → Q (accept (perform (hall_in t) (ring_state t) c).session (ring_after t c)))
    → Q (step_ring limits t c)
by_ring_step limits Q t c unsound refused accepted = by_soundness (ring_sound limits t) refl
  where
    by_number_lem : (n : ℕ) → ring_asked limits t c ≡ n → ring_sound limits t ≡ true → Q (step_ring limits t c)
    by_number_lem zero q s = subst Q (sym (accepted_ring limits t c s q)) (accepted s q)
    by_number_lem (suc n) q s = subst Q (sym (refused_ring limits t c n s q)) (refused n q)

    by_soundness : (b : Bool) → ring_sound limits t ≡ b → Q (step_ring limits t c)
    by_soundness true s = by_number_lem (ring_asked limits t c) refl s
    by_soundness false s = subst Q (sym (unsound-ring limits t c s)) unsound

pub ring_demand1 : (limits : Limits) (t : List ℕ) → Words16 t → (c : Call) → Demand1 (refusals c) (ring_footprint t c) t (step_ring limits t c)
ring_demand1 limits t small c =
    record {
      refused =
          by_ring_step limits (λ r. (n : ℕ) → r.answer.number ≡ suc n → (1 ≤ occurrences (suc n) (refusals c)) × (r.answer.session ≡ 0) × (r.after ≡ t)) t c
          (λ n e. (unsound n e, refl, refl)) (λ m q n e. (asks m q n e, refl, refl)) (λ s q n e. absurd (omega arith));
      accepted =
          by_ring_step limits (λ r. r.answer.number ≡ 0 → (i : ℕ) → ring_footprint t c i ≡ false → get_or r.after i 0 ≡ get_or t i 0) t c
          (λ q. absurd (omega arith)) (λ n a q. absurd (omega arith)) (λ s a q. after_keeps limits t small (ring_known limits t s) c a);
      same_length = by_ring_step limits (λ r. length r.after ≡ length t) t c refl (λ n q. refl) (λ s q. (writes limits t (ring_known limits t s) c q).long);
    }
  where
    first : (n : ℕ) → occurrences (suc n) (refusals c) ≡ occurrences (suc n) (5 ∷ map (λ q. q.number) (questions limits (hall_in t) (ring_state t) c))
    first n = ap (occurrences (suc n)) (refusals_are_asked limits (hall_in t) (ring_state t) c)

    unsound : (n : ℕ) → 5 ≡ suc n → 1 ≤ occurrences (suc n) (refusals c)
    unsound n e = omega (arith, first n, ap (indicator (suc n)) e, indicator_same (suc n))

    asks : (m : ℕ) → ring_asked limits t c ≡ suc m → (n : ℕ) → suc m ≡ suc n → 1 ≤ occurrences (suc n) (refusals c)
    asks m q n e = omega (arith, first n, first_no_is_asked (questions limits (hall_in t) (ring_state t) c) n (q ∙ e))

-- ---- Every opening.
opened_past : (H : Hall) (t : List ℕ) (i : ℕ) → ring_need H ≤ i → get_or (opened_ring H t) i 0 ≡ get_or t i 0
opened_past H t i h =
    let front : List ℕ = H.desks ∷ H.screens ∷ H.positions ∷ replicate (ring_need H - header_words) 0 in
    let long : length front ≡ ring_need H = omega (arith, length-replicate {A = ℕ} (ring_need H - header_words) 0) in
    let e : ring_need H + (i - length front) ≡ i = omega (arith, long) in
    get_past front (drop (ring_need H) t) i (omega (arith, long)) ∙ get_or-drop (ring_need H) t (i - length front) 0 ∙ ap (λ (n : ℕ). get_or t n 0) e

pub ring_open_length : (limits : Limits) (H : Hall) (t : List ℕ) → length (open_ring limits H t).after ≡ length t
ring_open_length limits H t =
    by_opening limits (λ r. length r.after ≡ length t) H t (λ n q. refl)
    (λ q. omega (arith, (ring_fits limits H t q).1, length-append (H.desks ∷ H.screens ∷ H.positions ∷ replicate (ring_need H - header_words) 0) (drop (ring_need H) t), length-replicate {A = ℕ} (ring_need H - header_words) 0, length-drop (ring_need H) t))

pub ring_opening_demand1 : (limits : Limits) (H : Hall) (t : List ℕ) → Demand1 opening_refusals (ring_opening_footprint H) t (open_ring limits H t)
ring_opening_demand1 limits H t =
    record {
      refused =
          by_opening limits (λ r. (n : ℕ) → r.answer.number ≡ suc n → (1 ≤ occurrences (suc n) opening_refusals) × (r.answer.session ≡ 0) × (r.after ≡ t)) H t
          (λ m a n q. (first_no_is_asked (ring_questions limits H t) n (a ∙ q), refl, refl)) (λ a n q. absurd (omega arith));
      accepted =
          by_opening limits (λ r. r.answer.number ≡ 0 → (i : ℕ) → ring_opening_footprint H i ≡ false → get_or r.after i 0 ≡ get_or t i 0) H t
          (λ m a q. absurd (omega arith)) (λ a q i past. opened_past H t i (ltb-false i (ring_need H) past));
      same_length = ring_open_length limits H t;
    }
