-- "Words past the need are neither read nor written": a call on a ring that is long enough for its hall, and anything behind it.
use Rattle.std.specs.Prelude.{ℕ, zero, suc, ◌+◌, ◌*◌, ◌-◌, ◌≤◌, ◌<◌, ◌≡◌, refl, Bool, true, false, cond, ◌&&◌, List, ◌∷◌, ◌++◌, length, take, get_or, drop, set, replicate}
use Rattle.std.proofs.Common.{arith, ap₂, ◌∙◌, append_assoc, length-drop, length-set}
use Rattle.std.proofs.Math.Path.{sym, ap}
use Rattle.std.proofs.Math.ListN.{length-append, get_or-append}
use Rattle.std.proofs.lemmas.List.{set-append_left, take-append-le}
use Rattle.std.proofs.Math.Dec.{leb}
use borrow.Author.Tests.{le-leb}
use Rattle.rules.specs.Hall.{Hall, Limits, State, all_screens}
use Rattle.rules.specs.Lists.{chunks, every}
use Rattle.rules.specs.Steps.{Call, Collect, Drop, Result, Retire, Step, Swap, Take, ◌numbered◌, ◌sends◌, accept, advance, decide, first_no, is_repeat, perform, questions}
use Rattle.rules.specs.Table.{decode, hall_in, header_words, in_limits, position_word, screen_word}
use Rattle.rules.proofs.Laws.History.ScreenIndex.{screen_in}
use Rattle.rules.proofs.Laws.History.StepEffects.{IsDesk, desk_asked, drop-asked, swap_asked, take-asked}
use Rattle.rules.proofs.Laws.Table.NeedSuffices.{chunks-append, decode_same, drop_append_left, hall_same}
use Rattle.ring_rules.specs.Ring.{collect_ring, front_words, linear, linear_in, linear_records, open_ring, opened_ring, put_ring, retire_ring, ring_after, ring_after_step, ring_need}
use Rattle.ring_rules.specs.Ring.{ring_next_word, ring_questions, ring_record_of, ring_record_sound, ring_records_in, ring_sound, ring_start, ring_state, ring_width_for, step_ring}
use Rattle.ring_rules.proofs.Laws.RingSteps.{RingKnown, accepted_ring, refused_ring, ring_known, ring_asked, unsound-ring, writes_step}
use Rattle.ring_rules.proofs.Laws.RingTables.{linear_table-length, record_within}

-- the records and what they read as
linear_records-append : (S n : ℕ) (x b : List ℕ) → n * ring_width_for S ≤ length x → linear_records S n (x ++ b) ≡ linear_records S n x ++ b
linear_records-append S zero x b h = refl
linear_records-append S (suc n) x b h =
    let w = ring_width_for S in
    (λ i. linear S (take-append-le w x b (omega arith) i)
    ++ (ap (linear_records S n) (drop_append_left w x b (omega arith)) ∙ linear_records-append S n (drop w x) b (omega (arith, length-drop w x))) i)
    ∙ sym (append_assoc (linear S (take w x)) (linear_records S n (drop w x)) b)

module _ (a b : List ℕ) (H : Hall) (far : ring_need H ≤ length a) where
  front_same : drop (front_words H) (a ++ b) ≡ drop (front_words H) a ++ b
  front_same = drop_append_left (front_words H) a b (omega arith)

  rows : H.desks * ring_width_for (all_screens H) ≤ length (drop (front_words H) a)
  rows = omega (arith, length-drop (front_words H) a)

  records-append : ring_records_in H (a ++ b) ≡ ring_records_in H a
  records-append =
      ap (chunks H.desks (ring_width_for (all_screens H))) front_same ∙ chunks-append H.desks (ring_width_for (all_screens H)) (drop (front_words H) a) b rows

  linear-append : linear_in H (a ++ b) ≡ linear_in H a ++ b
  linear-append =
      (λ i. take-append-le (front_words H) a b (omega arith) i
      ++ (ap (linear_records (all_screens H) H.desks) front_same ∙ linear_records-append (all_screens H) H.desks (drop (front_words H) a) b rows) i)
      ∙ sym (append_assoc (take (front_words H) a) (linear_records (all_screens H) H.desks (drop (front_words H) a)) b)

  state_append : decode H (linear_in H (a ++ b)) ≡ decode H (linear_in H a)
  state_append =
      let long = linear_table-length H a far in
      ap (decode H) linear-append ∙ decode_same (linear_in H a) b (omega (arith, long)) H (omega (arith, long))

  -- a word and a store before the need
  word_append : (i : ℕ) → i < ring_need H → get_or (a ++ b) i 0 ≡ get_or a i 0
  word_append i h = get_or-append a b 0 i (omega arith)

  set-append : (t : List ℕ) (i v : ℕ) → length t ≡ length a → i < ring_need H → set (t ++ b) i v ≡ set t i v ++ b
  set-append t i v l h = set-append_left t b i v (omega arith)

  -- the record of a desk
  module _ (d : ℕ) (there : IsDesk H d) where
    fits : ring_start H d + ring_width_for (all_screens H) ≤ ring_need H
    fits = record_within H a far d there.0 there.1

    record_append : ring_record_of H (a ++ b) d ≡ ring_record_of H a d
    record_append =
        let w = ring_width_for (all_screens H) in
        ap (take w) (drop_append_left (ring_start H d) a b (omega (arith, fits)))
        ∙ take-append-le w (drop (ring_start H d) a) b (omega (arith, fits, length-drop (ring_start H d) a))

    put_append : (words : List ℕ) → put_ring H (a ++ b) d words ≡ put_ring H a d words ++ b
    put_append words =
        let s : ℕ = ring_start H d in
        let w : ℕ = ring_width_for (all_screens H) in
        (λ i. take-append-le s a b (omega (arith, fits)) i
        ++ (words ++ (ap (drop w) (drop_append_left s a b (omega (arith, fits))) ∙ drop_append_left w (drop s a) b (omega (arith, fits, length-drop s a))) i))
        ∙ sym
        (append_assoc (take s a) (words ++ drop w (drop s a)) b ∙ ap (λ (l : List ℕ). take s a ++ l) (append_assoc words (drop w (drop s a)) b))

-- ---- A step on a ring that is long enough.
module _ (limits : Limits) (a b : List ℕ) (far : ring_need (hall_in a) ≤ length a) where
  hall-append : hall_in (a ++ b) ≡ hall_in a
  hall-append = hall_same a b (omega arith)

  sound-append : ring_sound limits (a ++ b) ≡ ring_sound limits a
  unfolding ring_sound
  sound-append =
      ap (λ (h : Hall). in_limits limits h && (leb (ring_need h) (length (a ++ b)) && every (ring_record_sound (all_screens h)) (ring_records_in h (a ++ b)))) hall-append
      ∙ (λ i. in_limits limits (hall_in a) && (long i && every (ring_record_sound (all_screens (hall_in a))) (records-append a b (hall_in a) far i)))
    where
      long : leb (ring_need (hall_in a)) (length (a ++ b)) ≡ leb (ring_need (hall_in a)) (length a)
      long = le-leb (ring_need (hall_in a)) (length (a ++ b)) (omega (arith, length-append a b)) ∙ sym (le-leb (ring_need (hall_in a)) (length a) far)

  ring_state-append : ring_state (a ++ b) ≡ ring_state a
  ring_state-append = ap (λ (h : Hall). decode h (linear_in h (a ++ b))) hall-append ∙ state_append a b (hall_in a) far

  asked-append : (c : Call) → ring_asked limits (a ++ b) c ≡ ring_asked limits a c
  asked-append c = ap₂ (λ (h : Hall) (st : State). first_no (questions limits h st c)) hall-append ring_state-append

  session_append : (c : Call) → (perform (hall_in (a ++ b)) (ring_state (a ++ b)) c).session ≡ (perform (hall_in a) (ring_state a) c).session
  session_append c = ap₂ (λ (h : Hall) (st : State). (perform h st c).session) hall-append ring_state-append

  step-append : (m d : ℕ) (s : Step) → ring_asked limits a (d sends s numbered m) ≡ 0 → ring_after_step (a ++ b) d s ≡ ring_after_step a d s ++ b
  step-append m d (Take c p) e =
      let f = take-asked limits (hall_in a) (ring_state a) m d c p e in
      let screen = screen_in (hall_in a) d c f.desk.0 f.desk.1 f.screen.0 f.screen.1 in
      (λ i. set (a ++ b) (screen_word (hall-append i) d c) (word_append a b (hall_in a) far (position_word p) (omega (arith, f.position)) i))
      ∙ set-append a b (hall_in a) far a (screen_word (hall_in a) d c) (get_or a (position_word p) 0) refl (omega arith)
  step-append m d (Drop c) e =
      let f = drop-asked limits (hall_in a) (ring_state a) m d c e in
      let screen = screen_in (hall_in a) d c f.desk.0 f.desk.1 f.screen.0 f.screen.1 in
      ap (λ (h : Hall). set (a ++ b) (screen_word h d c) 0) hall-append ∙ set-append a b (hall_in a) far a (screen_word (hall_in a) d c) 0 refl (omega arith)
  step-append m d (Swap p v) e =
      let f = swap_asked limits (hall_in a) (ring_state a) m d p v e in
      let old = get_or a (position_word p) 0 in
      let room = fits a b (hall_in a) far d f.desk in
      (λ i. let x = word_append a b (hall_in a) far (position_word p) (omega (arith, f.position)) i in cond (is_repeat x v) (a ++ b) (set (set (a ++ b) (position_word p) v) (ring_start (hall-append i) d) x))
      ∙ by_repeat (is_repeat old v) (set (set a (position_word p) v) (ring_start (hall_in a) d) old)
      ((λ i. set (set-append a b (hall_in a) far a (position_word p) v refl (omega (arith, f.position)) i) (ring_start (hall_in a) d) old)
      ∙ set-append a b (hall_in a) far (set a (position_word p) v) (ring_start (hall_in a) d) old (length-set a (position_word p) v) (omega (arith, room)))
    where
      by_repeat : (r : Bool) (y : List ℕ) {x : List ℕ} → x ≡ y ++ b → cond r (a ++ b) x ≡ cond r a y ++ b
      by_repeat true y e = refl
      by_repeat false y e = e
  step-append m d Retire e =
      let there = desk_asked limits (hall_in a) (ring_state a) (d sends Retire numbered m) e in
      ap (λ (h : Hall). put_ring h (a ++ b) d (retire_ring (all_screens h) (ring_record_of h (a ++ b) d))) hall-append
      ∙ ap (λ (r : List ℕ). put_ring (hall_in a) (a ++ b) d (retire_ring (all_screens (hall_in a)) r)) (record_append a b (hall_in a) far d there)
      ∙ put_append a b (hall_in a) far d there (retire_ring (all_screens (hall_in a)) (ring_record_of (hall_in a) a d))
  step-append m d Collect e =
      let there = desk_asked limits (hall_in a) (ring_state a) (d sends Collect numbered m) e in
      ap₂ (λ (h : Hall) (st : State). put_ring h (a ++ b) d (collect_ring (all_screens h) st.shown (ring_record_of h (a ++ b) d))) hall-append ring_state-append
      ∙ ap (λ (r : List ℕ). put_ring (hall_in a) (a ++ b) d (collect_ring (all_screens (hall_in a)) (ring_state a).shown r)) (record_append a b (hall_in a) far d there)
      ∙ put_append a b (hall_in a) far d there (collect_ring (all_screens (hall_in a)) (ring_state a).shown (ring_record_of (hall_in a) a d))

  after-append : RingKnown limits a → (c : Call) → ring_asked limits a c ≡ 0 → ring_after (a ++ b) c ≡ ring_after a c ++ b
  after-append k c e =
      let there = desk_asked limits (hall_in a) (ring_state a) c e in
      let d = c.desk in
      let number = ring_next_word (hall_in a) d in
      let room = fits a b (hall_in a) far d there in
      ap (λ (h : Hall). set (ring_after_step (a ++ b) d c.step) (ring_next_word h d) (advance (get_or (a ++ b) (ring_next_word h d) 0))) hall-append
      ∙ (λ i. set (step-append c.message d c.step e i) number (advance (word_append a b (hall_in a) far number (omega (arith, room)) i)))
      ∙ set-append a b (hall_in a) far (ring_after_step a d c.step) number (advance (get_or a number 0)) (writes_step limits a k c.message d c.step e).long (omega (arith, room))

  pub ring-step-append : (c : Call) → step_ring limits (a ++ b) c ≡ record { answer = (step_ring limits a c).answer; after = (step_ring limits a c).after ++ b }
  ring-step-append c = by_soundness (ring_sound limits a) refl
    where
      followed : Result (List ℕ) → Result (List ℕ)
      followed r = record { answer = r.answer; after = r.after ++ b }

      by_number_lem : (n : ℕ) → ring_asked limits a c ≡ n → ring_sound limits a ≡ true → step_ring limits (a ++ b) c ≡ followed (step_ring limits a c)
      by_number_lem zero q s =
          accepted_ring limits (a ++ b) c (sound-append ∙ s) (asked-append c ∙ q)
          ∙ (λ i. accept (session_append c i) (after-append (ring_known limits a s) c q i))
          ∙ sym (ap followed (accepted_ring limits a c s q))
      by_number_lem (suc n) q s = refused_ring limits (a ++ b) c n (sound-append ∙ s) (asked-append c ∙ q) ∙ sym (ap followed (refused_ring limits a c n s q))

      by_soundness : (x : Bool) → ring_sound limits a ≡ x → step_ring limits (a ++ b) c ≡ followed (step_ring limits a c)
      by_soundness true s = by_number_lem (ring_asked limits a c) refl s
      by_soundness false s = unsound-ring limits (a ++ b) c (sound-append ∙ s) ∙ sym (ap followed (unsound-ring limits a c s))

-- ---- The opening.
pub ring_open_append : (limits : Limits) (H : Hall) (a b : List ℕ) → ring_need H ≤ length a
    → open_ring limits H (a ++ b) ≡ record { answer = (open_ring limits H a).answer; after = (open_ring limits H a).after ++ b }
unfolding open_ring
ring_open_append limits H a b far =
    ap (λ (n : ℕ). decide n (a ++ b) 0 (opened_ring H (a ++ b))) same ∙ by_number_lem (first_no (ring_questions limits H a))
  where
    same : first_no (ring_questions limits H (a ++ b)) ≡ first_no (ring_questions limits H a)
    same = rw (le-leb (ring_need H) (length (a ++ b)) (omega (arith, far, length-append a b)), le-leb (ring_need H) (length a) far)

    opened-append : opened_ring H (a ++ b) ≡ opened_ring H a ++ b
    opened-append =
        let front : List ℕ = H.desks ∷ H.screens ∷ H.positions ∷ replicate (ring_need H - header_words) 0 in
        ap (λ (l : List ℕ). front ++ l) (drop_append_left (ring_need H) a b far) ∙ sym (append_assoc front (drop (ring_need H) a) b)

    by_number_lem : (n : ℕ) → decide n (a ++ b) 0 (opened_ring H (a ++ b)) ≡ record { answer = (decide n a 0 (opened_ring H a)).answer; after = (decide n a 0 (opened_ring H a)).after ++ b }
    by_number_lem zero = λ i. accept 0 (opened-append i)
    by_number_lem (suc n) = refl
