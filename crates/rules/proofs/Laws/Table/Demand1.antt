-- Demand 1 of one call on a table: a refused call writes nothing, an accepted one only the words that its step names,
-- and a sound table stays sound.
use Rattle.std.specs.Prelude.{ℕ, ◌+◌, ◌-◌, ◌≤◌, zero, suc, ◌*◌, ◌<◌, ◌≡◌, refl, Bool, true, false, cond, not, ◌&&◌, ◌||◌, List, [], ◌∷◌, ◌++◌, length, take, get_or, drop, set, replicate, eqb}
use Rattle.std.proofs.Common.{arith, sym, ap, ◌∙◌, subst, true≢false, append_assoc, length-drop, length-set, get_or-set_same, get_or-set_other, length-take-le, get_or-drop, get_or-take, eqb-true, lt-ltb, ltb-false}
use Rattle.std.proofs.lemmas.List.{length-replicate}
use Rattle.std.proofs.Math.ListN.{get_or-append}
use Rattle.std.proofs.lemmas.Bool.{eqb-false}
use Rattle.std.proofs.Math.Decide.{dec_lt}
use Rattle.rules.specs.Bytes.{Words16}
use Rattle.rules.specs.Demands.{Demand1, footprint, opening_footprint, opening_refusals, refusals, step_footprint}
use Rattle.rules.specs.Hall.{Desk, Hall, Limits, State, all_screens, used_slots}
use Rattle.rules.specs.History.{number_at}
use Rattle.rules.specs.Lists.{occurrences}
use Rattle.rules.specs.Steps.{Call, Collect, Drop, Result, Retire, Step, Swap, Take, ◌numbered◌, ◌sends◌, advance, collect, decide, end, first_no, is_repeat}
use Rattle.rules.specs.Steps.{is_session, perform, questions, retire, run}
use Rattle.rules.specs.Table.{all_marks, decode, decode_desk, encode_desk, encode_tail, hall_in, header_words, list_of, list_offset, mark_words, marks_of, need, next_word}
use Rattle.rules.specs.Table.{open_questions, open_table, opened_table, owed_offset, position_word, put_record, record_of, record_sound, record_start, record_width}
use Rattle.rules.specs.Table.{screen_word, sessions_of, slots_for, sound, step_table, table_after, table_after_step, tail_offset, used_in, waiting_offset, words_of_bits}
use Rattle.rules.proofs.Laws.Desk.Collect.{next-collect, owed_collect, retire-slots}
use Rattle.rules.proofs.Laws.Desk.Decoding.{record_again, small-drop, small-take}
use Rattle.rules.proofs.Laws.Desk.Encoding.{length_list, length-slots_for, tail_word}
use Rattle.rules.proofs.Laws.Desk.Sound.{Sound, collect-sound, retire-sound}
use Rattle.rules.proofs.Laws.History.InitialState.{get_same}
use Rattle.rules.proofs.Laws.History.StepEffects.{IsDesk, SwapAsked, desk_asked, retire-asked, swap_asked}
use Rattle.rules.proofs.Laws.Lists.Bools.{and-true}
use Rattle.rules.proofs.Laws.Lists.ListSlices.{get_past, put_is}
use Rattle.rules.proofs.Laws.Table.DecodeStepEncode.{desk_sound, encoded, valid}
use Rattle.rules.proofs.Laws.Table.EncodedStep.{Valid, encode-is_sound, hall-opens, length_encoded, some_screens, sound-table, valid_step}
use Rattle.rules.proofs.Laws.Table.TableHistories.{counts_encoded}
use Rattle.rules.proofs.Laws.Table.TableSteps.{Known, accepted_step, asked, desk_word, known, known_inside, owed_word, record_sound_lem, record_within}
use Rattle.rules.proofs.Laws.Table.TableSteps.{refused_step}
use Rattle.rules.proofs.Laws.Table.WordBounds.{by_open, by_step, first_no_is_asked, open_length, step-length, step_refused}

-- ---- What a retire leaves of its record.
get_behind : (a x y : List ℕ) (i : ℕ) → ((j : ℕ) → length a + j ≡ i → get_or x j 0 ≡ get_or y j 0) → get_or (a ++ x) i 0 ≡ get_or (a ++ y) i 0
get_behind [] x y i h = h i (omega arith)
get_behind (v ∷ a) x y zero h = refl
get_behind (v ∷ a) x y (suc i) h = get_behind a x y i (λ j e. h j (omega arith))

get_before : (x y z : List ℕ) (i : ℕ) → length x ≡ length y → get_or x i 0 ≡ get_or y i 0 → get_or (x ++ z) i 0 ≡ get_or (y ++ z) i 0
get_before x y z i same h = by_order (dec_lt i (length x))
  where
    by_order : Dec (i < length x) → get_or (x ++ z) i 0 ≡ get_or (y ++ z) i 0
    by_order (yes l) = get_or-append x z 0 i l ∙ h ∙ sym (get_or-append y z 0 i (omega arith))
    by_order (no l) =
        get_past x z i (omega arith) ∙ ap (λ (n : ℕ). get_or z (i - n) 0) same ∙ sym (get_past y z i (omega arith))

-- one more session on the list, in the slot of a zero
list_longer : (l : List ℕ) (v n m i : ℕ) → (i ≡ length l → ⊥) → get_or ((l ++ (v ∷ [])) ++ replicate n 0) i 0 ≡ get_or (l ++ replicate m 0) i 0
list_longer l v n m i ne =
    ap (λ (x : List ℕ). get_or x i 0) (append_assoc l (v ∷ []) (replicate n 0)) ∙ get_behind l (v ∷ replicate n 0) (replicate m 0) i after
  where
    after : (j : ℕ) → length l + j ≡ i → get_or (v ∷ replicate n 0) j 0 ≡ get_or (replicate m 0) j 0
    after zero e = absurd (ne (omega arith))
    after (suc j) e = get_same n j 0 ∙ sym (get_same m (suc j) 0)

-- the words of a record, with the owed word, the count of waiting and what stands from the list on changed
words_kept : (o o' k r t w w' : ℕ) (m x y : List ℕ) (j : ℕ) → (j ≡ 0 → ⊥) → (j ≡ 4 → ⊥) → ((i : ℕ) → 5 + (length m + i) ≡ j → get_or x i 0 ≡ get_or y i 0)
    → get_or (o ∷ k ∷ r ∷ t ∷ w ∷ (m ++ x)) j 0 ≡ get_or (o' ∷ k ∷ r ∷ t ∷ w' ∷ (m ++ y)) j 0
words_kept o o' k r t w w' m x y zero n0 n4 h = absurd (n0 refl)
words_kept o o' k r t w w' m x y (suc zero) n0 n4 h = refl
words_kept o o' k r t w w' m x y (suc (suc zero)) n0 n4 h = refl
words_kept o o' k r t w w' m x y (suc (suc (suc zero))) n0 n4 h = refl
words_kept o o' k r t w w' m x y (suc (suc (suc (suc zero)))) n0 n4 h = absurd (n4 refl)
words_kept o o' k r t w w' m x y (suc (suc (suc (suc (suc j))))) n0 n4 h = get_behind m x y j (λ i e. h i (omega arith))

retire_list : (D : Desk) → list_of (retire D) ≡ list_of D ++ (D.owed ∷ [])
retire_list D =
    sym
    (append_assoc D.ready (sessions_of D.tested ++ D.waiting) (D.owed ∷ []) ∙ ap (λ (l : List ℕ). D.ready ++ l) (append_assoc (sessions_of D.tested) D.waiting (D.owed ∷ [])))

-- neither a retire nor a collect changes the tail
tail_retire : (D : Desk) → encode_tail (retire D) ≡ encode_tail D
tail_retire D = refl

pub tail_collect : (S : ℕ) (shown : List ℕ) (D : Desk) → encode_tail (collect S shown D).after ≡ encode_tail D
tail_collect S shown D = ap (λ (number : ℕ). number ∷ []) (next-collect S shown D)

pub retire_keeps : (S : ℕ) (D : Desk) (j : ℕ) → used_slots D < 2 * S → (j ≡ owed_offset → ⊥) → (j ≡ waiting_offset → ⊥) → (j ≡ list_offset + used_slots D → ⊥)
    → get_or (encode_desk S (retire D)) j 0 ≡ get_or (encode_desk S D) j 0
unfolding encode_desk
retire_keeps S D j room n0 n4 nl =
    words_kept 0 D.owed D.scanned (length D.ready) (length D.tested) (length (D.waiting ++ (D.owed ∷ []))) (length D.waiting)
    (words_of_bits mark_words (marks_of D.tested ++ replicate (all_marks - length D.tested) false))
    (slots_for S (retire D) ++ encode_tail (retire D)) (slots_for S D ++ encode_tail D) j n0 n4
    (λ i e. ap (λ (z : List ℕ). get_or (slots_for S (retire D) ++ z) i 0) (tail_retire D)
    ∙ get_before (slots_for S (retire D)) (slots_for S D) (encode_tail D) i same_length_lem (slots i (λ q. nl (omega (arith, length_list D)))))
  where
    same_length_lem : length (slots_for S (retire D)) ≡ length (slots_for S D)
    same_length_lem = length-slots_for S (retire D) (omega (arith, retire-slots D)) ∙ sym (length-slots_for S D (omega arith))

    slots : (i : ℕ) → (i ≡ length (list_of D) → ⊥) → get_or (slots_for S (retire D)) i 0 ≡ get_or (slots_for S D) i 0
    slots i ne =
        ap (λ (l : List ℕ). get_or (l ++ replicate (2 * S - length (list_of (retire D))) 0) i 0) (retire_list D)
        ∙ list_longer (list_of D) D.owed (2 * S - length (list_of (retire D))) (2 * S - length (list_of D)) i ne

pub owed_first : (S : ℕ) (D : Desk) → get_or (encode_desk S D) 0 0 ≡ D.owed
unfolding encode_desk
owed_first S D = refl

pub or_no : (a b : Bool) → a || b ≡ false → (a ≡ false) × (b ≡ false)
or_no true b e = let z : ◌≡◌ {A = ℕ} 0 1 = cc in absurd (omega arith)
or_no false b e = (refl, e)

-- ---- An accepted step on a sound table of 16-bit words.
module _ (limits : Limits) (t : List ℕ) (small : Words16 t) (s : sound limits t ≡ true) where
  k : Known t
  k = known limits t s

  v : Valid (hall_in t) (decode (hall_in t) t)
  v = valid t (known limits t s)

  -- the record of desk d, and the desk that it holds
  abbrev record_in : ℕ → List ℕ
  record_in d = record_of (hall_in t) t d

  abbrev desk_at : ℕ → Desk
  desk_at d = decode_desk (all_screens (hall_in t)) (record_of (hall_in t) t d)

  module _ (d : ℕ) (r : IsDesk (hall_in t) d) where
    fits : record_start (hall_in t) d + record_width (hall_in t) ≤ length t
    fits = omega (arith, record_within (hall_in t) d r.0 r.1, k.long)

    wide : length (record_of (hall_in t) t d) ≡ record_width (hall_in t)
    wide = length-take-le (record_width (hall_in t)) (drop (record_start (hall_in t) d) t) (omega (arith, fits, length-drop (record_start (hall_in t) d) t))

    passes : record_sound (all_screens (hall_in t)) (record_of (hall_in t) t d) ≡ true
    passes = record_sound_lem t d k r.0 r.1

    desk_is_sound : Sound (all_screens (hall_in t)) (decode_desk (all_screens (hall_in t)) (record_of (hall_in t) t d))
    desk_is_sound = desk_sound (all_screens (hall_in t)) (record_of (hall_in t) t d) wide k.bounded passes

    again : encode_desk (all_screens (hall_in t)) (decode_desk (all_screens (hall_in t)) (record_of (hall_in t) t d)) ≡ record_of (hall_in t) t d
    again =
        record_again (all_screens (hall_in t)) (record_of (hall_in t) t d) wide k.bounded
        (small-take (record_width (hall_in t)) (drop (record_start (hall_in t) d) t) (small-drop (record_start (hall_in t) d) t small)) passes

    word_inside : (j : ℕ) → j < record_width (hall_in t)
        → get_or (encode_desk (all_screens (hall_in t)) (decode_desk (all_screens (hall_in t)) (record_of (hall_in t) t d))) j 0 ≡ get_or t (record_start (hall_in t) d + j) 0
    word_inside j h =
        ap (λ (l : List ℕ). get_or l j 0) again ∙ get_or-take (record_width (hall_in t)) (drop (record_start (hall_in t) d) t) j 0 h
        ∙ get_or-drop (record_start (hall_in t) d) t j 0

    -- the record is written anew
    record_kept : (E : Desk) → Sound (all_screens (hall_in t)) E → (i : ℕ)
        → ((j : ℕ) → j < record_width (hall_in t) → record_start (hall_in t) d + j ≡ i → get_or (encode_desk (all_screens (hall_in t)) E) j 0 ≡ get_or (encode_desk (all_screens (hall_in t)) (decode_desk (all_screens (hall_in t)) (record_of (hall_in t) t d))) j 0)
        → get_or (put_record (hall_in t) t d (encode_desk (all_screens (hall_in t)) E)) i 0 ≡ get_or t i 0
    record_kept E sE i h =
        put_is t (encode_desk (all_screens (hall_in t)) E) (record_start (hall_in t) d) (record_width (hall_in t)) fits
        (length_encoded (hall_in t) k.fits E sE) i (get_or t i 0)
        (λ j l e. h j l e ∙ word_inside j l ∙ ap (λ (n : ℕ). get_or t n 0) e) (λ _. refl)

  -- a swap writes the owed word only where the old session is not 0; a repeat writes nothing
  swap_keeps : (m d p new : ℕ) → asked limits t (d sends Swap p new numbered m) ≡ 0 → (i : ℕ) → step_footprint t d (Swap p new) i ≡ false
      → get_or (table_after_step t d (Swap p new)) i 0 ≡ get_or t i 0
  swap_keeps m d p new e i q = by_repeat (is_repeat (get_or t (position_word p) 0) new) q
    where
      asks : SwapAsked (hall_in t) (decode (hall_in t) t) d p
      asks = swap_asked limits (hall_in t) (decode (hall_in t) t) m d p new e

      none : (b : Bool) → eqb (get_or t (position_word p) 0) 0 ≡ b → not b ≡ false → get_or t (position_word p) 0 ≡ 0
      none true t0 z = eqb-true (get_or t (position_word p) 0) 0 t0
      none false t0 z = let o : ◌≡◌ {A = ℕ} 0 1 = cc in absurd (omega arith)

      by_word : eqb i (position_word p) ≡ false → (b : Bool) → eqb i (record_start (hall_in t) d) ≡ b → b && is_session (get_or t (position_word p) 0) ≡ false
          → get_or (set (set t (position_word p) new) (record_start (hall_in t) d) (get_or t (position_word p) 0)) i 0 ≡ get_or t i 0
      by_word elsewhere true z q =
          let is : i ≡ record_start (hall_in t) d = eqb-true i (record_start (hall_in t) d) z in
          let old : get_or t (position_word p) 0 ≡ 0 = none (eqb (get_or t (position_word p) 0) 0) refl q in
          let owed : get_or t (record_start (hall_in t) d) 0 ≡ 0 = sym (owed_word t d asks.desk.0 asks.desk.1) ∙ asks.owes_nothing in
          ap (λ (n : ℕ). get_or (set (set t (position_word p) new) (record_start (hall_in t) d) (get_or t (position_word p) 0)) n 0) is
          ∙ get_or-set_same (set t (position_word p) new) (record_start (hall_in t) d) (get_or t (position_word p) 0) 0
          (omega (arith, fits d asks.desk, length-set t (position_word p) new))
          ∙ old ∙ sym owed ∙ ap (λ (n : ℕ). get_or t n 0) (sym is)
      by_word elsewhere false z q =
          get_or-set_other (set t (position_word p) new) (record_start (hall_in t) d) i (get_or t (position_word p) 0) 0
          (λ y. eqb-false i (record_start (hall_in t) d) z y)
          ∙ get_or-set_other t (position_word p) i new 0 (λ y. eqb-false i (position_word p) elsewhere y)

      by_repeat : (b : Bool) → not b && (eqb i (position_word p) || (eqb i (record_start (hall_in t) d) && is_session (get_or t (position_word p) 0))) ≡ false
          → get_or (cond b t (set (set t (position_word p) new) (record_start (hall_in t) d) (get_or t (position_word p) 0))) i 0 ≡ get_or t i 0
      by_repeat true q = refl
      by_repeat false q =
          let parts = or_no (eqb i (position_word p)) (eqb i (record_start (hall_in t) d) && is_session (get_or t (position_word p) 0)) q in
          by_word parts.0 (eqb i (record_start (hall_in t) d)) refl parts.1

  retire_keeps_words : (m d : ℕ) → asked limits t (d sends Retire numbered m) ≡ 0 → (i : ℕ) → step_footprint t d Retire i ≡ false
      → get_or (table_after_step t d Retire) i 0 ≡ get_or t i 0
  retire_keeps_words m d e i q =
      let asks = retire-asked limits (hall_in t) (decode (hall_in t) t) m d e in
      let r = asks.desk in
      let same = desk_word t d r.0 r.1 in
      let room : used_slots (desk_at d) < 2 * all_screens (hall_in t) = subst (λ (X : Desk). used_slots X < 2 * all_screens (hall_in t)) same asks.room in
      let owes : (desk_at d).owed ≡ 0 → ⊥ = (λ z. asks.owes (ap (λ (X : Desk). X.owed) same ∙ z)) in
      let start = record_start (hall_in t) d in
      let n1 = or_no (eqb i start) (eqb i (start + waiting_offset) || eqb i (start + (list_offset + used_in (record_in d)))) q in
      let n2 = or_no (eqb i (start + waiting_offset)) (eqb i (start + (list_offset + used_in (record_in d)))) n1.1 in
      let u : used_in (record_in d) ≡ used_slots (desk_at d) = ap used_in (sym (again d r)) ∙ counts_encoded (all_screens (hall_in t)) (desk_at d) in
      let x0 = eqb-false i start n1.0 in
      let x4 = eqb-false i (start + waiting_offset) n2.0 in
      let xl = eqb-false i (start + (list_offset + used_in (record_in d))) n2.1 in
      record_kept d r (retire (desk_at d)) (retire-sound (all_screens (hall_in t)) (desk_at d) owes room (desk_is_sound d r)) i
      (λ j l a. retire_keeps (all_screens (hall_in t)) (desk_at d) j room (λ z. x0 (omega arith)) (λ z. x4 (omega arith)) (λ z. xl (omega arith)))

  collect_keeps_words : (m d : ℕ) → asked limits t (d sends Collect numbered m) ≡ 0 → (i : ℕ) → step_footprint t d Collect i ≡ false
      → get_or (table_after_step t d Collect) i 0 ≡ get_or t i 0
  collect_keeps_words m d e i q = record_kept d r after after-sound i (λ j l a. by_word j a (dec_lt 0 j) (dec_lt j (tail_offset S)))
    where
      S : ℕ
      S = all_screens (hall_in t)

      shown : List ℕ
      shown = (decode (hall_in t) t).shown

      after : Desk
      after = (collect (all_screens (hall_in t)) (decode (hall_in t) t).shown (desk_at d)).after

      r : IsDesk (hall_in t) d
      r = desk_asked limits (hall_in t) (decode (hall_in t) t) (d sends Collect numbered m) e

      after-sound : Sound (all_screens (hall_in t)) (collect (all_screens (hall_in t)) (decode (hall_in t) t).shown (desk_at d)).after
      after-sound =
          collect-sound (all_screens (hall_in t)) (decode (hall_in t) t).shown (desk_at d) (some_screens (hall_in t) k.fits) v.formed.screens
          (desk_is_sound d (desk_asked limits (hall_in t) (decode (hall_in t) t) (d sends Collect numbered m) e))

      -- of the record only its first word, the owed session, and its tail are not named, and a collect keeps them
      by_word : (j : ℕ) → record_start (hall_in t) d + j ≡ i → Dec (0 < j) → Dec (j < tail_offset (all_screens (hall_in t)))
          → get_or (encode_desk (all_screens (hall_in t)) (collect (all_screens (hall_in t)) (decode (hall_in t) t).shown (desk_at d)).after) j 0
          ≡ get_or (encode_desk (all_screens (hall_in t)) (desk_at d)) j 0
      by_word j a (no z) inside =
          let first : j ≡ 0 = omega arith in
          rw first
          (owed_first (all_screens (hall_in t)) _ ∙ owed_collect (all_screens (hall_in t)) (decode (hall_in t) t).shown (desk_at d)
          ∙ sym (owed_first (all_screens (hall_in t)) (desk_at d)))
      by_word j a (yes z) (no inside) =
          let there = desk_is_sound d (desk_asked limits (hall_in t) (decode (hall_in t) t) (d sends Collect numbered m) e) in
          tail_word (all_screens (hall_in t)) _ after-sound.total j (omega arith)
          ∙ ap (λ (l : List ℕ). get_or l (j - tail_offset (all_screens (hall_in t))) 0) (tail_collect (all_screens (hall_in t)) (decode (hall_in t) t).shown (desk_at d))
          ∙ sym (tail_word (all_screens (hall_in t)) (desk_at d) there.total j (omega arith))
      by_word j a (yes z) (yes inside) =
          absurd (true≢false (sym (and-true _ _ (lt-ltb (record_start (hall_in t) d) i (omega arith)) (lt-ltb i (record_start (hall_in t) d + tail_offset (all_screens (hall_in t))) (omega arith))) ∙ q))

  after_keeps : (c : Call) → asked limits t c ≡ 0 → (i : ℕ) → footprint t c i ≡ false → get_or (table_after t c) i 0 ≡ get_or t i 0
  after_keeps c e i q =
      let number = next_word (hall_in t) c.desk in
      let parts = or_no (step_footprint t c.desk c.step i) (eqb i number) q in
      get_or-set_other (table_after_step t c.desk c.step) number i (advance (get_or t number 0)) 0 (λ same. eqb-false i number parts.1 same)
      ∙ by_step c.message c.desk c.step e i parts.0
    where
      by_step : (m d : ℕ) (s : Step) → asked limits t (d sends s numbered m) ≡ 0 → (i : ℕ) → step_footprint t d s i ≡ false → get_or (table_after_step t d s) i 0 ≡ get_or t i 0
      by_step m d (Take c p) e i q =
          get_or-set_other t (screen_word (hall_in t) d c) i (get_or t (position_word p) 0) 0 (λ z. eqb-false i (screen_word (hall_in t) d c) q z)
      by_step m d (Drop c) e i q = get_or-set_other t (screen_word (hall_in t) d c) i 0 0 (λ z. eqb-false i (screen_word (hall_in t) d c) q z)
      by_step m d (Swap p new) e i q = swap_keeps m d p new e i q
      by_step m d Retire e i q = retire_keeps_words m d e i q
      by_step m d Collect e i q = collect_keeps_words m d e i q

  -- what an accepted call writes is the table of a valid state
  after_valid : (c : Call) → asked limits t c ≡ 0 → Valid (hall_in t) (perform (hall_in t) (decode (hall_in t) t) c).after
  after_valid c e =
      subst (λ (r : Result State). Valid (hall_in t) r.after)
      (ap (λ (n : ℕ). let outcome = perform (hall_in t) (decode (hall_in t) t) c in decide n (decode (hall_in t) t) outcome.session outcome.after) e)
      (valid_step (hall_in t) k.fits limits (decode (hall_in t) t) c v)

  after-is_sound : (c : Call) → asked limits t c ≡ 0 → sound limits (table_after t c) ≡ true
  after-is_sound c e =
      rw (encoded limits t c small k e)
      (encode-is_sound limits (hall_in t) (known_inside limits t s) (perform (hall_in t) (decode (hall_in t) t) c).after (after_valid c e) (drop (need (hall_in t)) t))

-- ---- Every step.
pub demand1 : (limits : Limits) (t : List ℕ) → Words16 t → (c : Call) → Demand1 (refusals c) (footprint t c) t (step_table limits t c)
demand1 limits t small c =
    record {
      refused = step_refused limits t c;
      accepted =
          by_step limits (λ r. r.answer.number ≡ 0 → (i : ℕ) → footprint t c i ≡ false → get_or r.after i 0 ≡ get_or t i 0) t c
          (λ q. absurd (omega arith)) (λ n a q. absurd (omega arith)) (λ s a q. after_keeps limits t small s c a);
      same_length = step-length limits t c small;
    }

pub step_stays_sound : (limits : Limits) (t : List ℕ) → Words16 t → (c : Call) → sound limits t ≡ true → sound limits (step_table limits t c).after ≡ true
step_stays_sound limits t small c =
    by_step limits (λ r. sound limits t ≡ true → sound limits r.after ≡ true) t c (λ q. q) (λ n a q. q) (λ s a q. after-is_sound limits t small s c a)

-- ---- A list of steps on tables that are sound: 5 is no question's number.
not_five : (limits : Limits) (H : Hall) (st : State) (c : Call) → first_no (questions limits H st c) ≡ 5 → ⊥
not_five limits H st c e = by_step c.step e
  where
    by_step : (s : Step) → first_no (questions limits H st (c.desk sends s numbered c.message)) ≡ 5 → ⊥
    by_step (Take x p) e = omega (arith, first_no_is_asked (questions limits H st (c.desk sends Take x p numbered c.message)) 4 e)
    by_step (Drop x) e = omega (arith, first_no_is_asked (questions limits H st (c.desk sends Drop x numbered c.message)) 4 e)
    by_step (Swap p new) e = omega (arith, first_no_is_asked (questions limits H st (c.desk sends Swap p new numbered c.message)) 4 e)
    by_step Retire e = omega (arith, first_no_is_asked (questions limits H st (c.desk sends Retire numbered c.message)) 4 e)
    by_step Collect e = omega (arith, first_no_is_asked (questions limits H st (c.desk sends Collect numbered c.message)) 4 e)

never_five_step : (limits : Limits) (t : List ℕ) (c : Call) → sound limits t ≡ true → (step_table limits t c).answer.number ≡ 5 → ⊥
never_five_step limits t c s e = by_number_lem (asked limits t c) refl
  where
    by_number_lem : (m : ℕ) → asked limits t c ≡ m → ⊥
    by_number_lem zero a = omega (arith, ap (λ (r : Result (List ℕ)). r.answer.number) (accepted_step limits t c s a))
    by_number_lem (suc m) a =
        not_five limits (hall_in t) (decode (hall_in t) t) c (omega (arith, ap (λ (r : Result (List ℕ)). r.answer.number) (refused_step limits t c m s a)))

pub never_five : (limits : Limits) (cs : List Call) (t : List ℕ) → ((i : ℕ) → sound limits (end (step_table limits) t (take i cs)) ≡ true) → (i : ℕ) → number_at (run (step_table limits) t cs) i ≡ 5 → ⊥
never_five limits [] t s i e = omega arith
never_five limits (c ∷ cs) t s zero e = never_five_step limits t c (s 0) e
never_five limits (c ∷ cs) t s (suc i) e = never_five limits cs (step_table limits t c).after (λ j. s (suc j)) i e

-- ---- Every opening.
opened_past : (H : Hall) (t : List ℕ) (i : ℕ) → need H ≤ i → get_or (opened_table H t) i 0 ≡ get_or t i 0
opened_past H t i h =
    let front : List ℕ = H.desks ∷ H.screens ∷ H.positions ∷ replicate (need H - header_words) 0 in
    let lf : length front ≡ need H = omega (arith, length-replicate {A = ℕ} (need H - header_words) 0) in
    let e : need H + (i - length front) ≡ i = omega (arith, lf) in
    get_past front (drop (need H) t) i (omega (arith, lf)) ∙ get_or-drop (need H) t (i - length front) 0 ∙ ap (λ (n : ℕ). get_or t n 0) e

pub opening_demand1 : (limits : Limits) (H : Hall) (t : List ℕ) → Demand1 opening_refusals (opening_footprint H) t (open_table limits H t)
opening_demand1 limits H t =
    record {
      refused =
          by_open limits
          (λ r. (n : ℕ) → r.answer.number ≡ suc n → (1 ≤ occurrences (suc n) opening_refusals) × (r.answer.session ≡ 0) × (r.after ≡ t)) H t
          (λ m a n q. (first_no_is_asked (open_questions limits H t) n (a ∙ q), refl, refl)) (λ a n q. absurd (omega arith));
      accepted =
          by_open limits (λ r. r.answer.number ≡ 0 → (i : ℕ) → opening_footprint H i ≡ false → get_or r.after i 0 ≡ get_or t i 0) H t
          (λ m a q. absurd (omega arith)) (λ a q i past. opened_past H t i (ltb-false i (need H) past));
      same_length = open_length limits H t;
    }

pub opening_is_sound : (limits : Limits) (H : Hall) (t : List ℕ) → (open_table limits H t).answer.number ≡ 0 → sound limits (open_table limits H t).after ≡ true
opening_is_sound limits H t =
    by_open limits (λ r. r.answer.number ≡ 0 → sound limits r.after ≡ true) H t (λ m a q. absurd (omega arith))
    (λ a q. sound-table limits H (hall-opens limits H t a).0 t [])
