-- Rings of 16-bit words: the opening and the steps keep the width of each word; so the ring is a `WordBoard`, for which the laws of bytes are stated.
use Rattle.std.specs.Prelude.{ℕ, zero, suc, ◌*◌, ◌-◌, ◌≤◌, ◌<◌, ◌≡◌, refl, Bool, true, false, List, ◌++◌, length, get_or, take, drop, replicate, set}
use Rattle.std.proofs.Common.{arith, sym, subst, length-drop, length-take-le}
use Rattle.rules.specs.Bytes.{Call16, Step16, Words16}
use Rattle.rules.specs.Hall.{Desk, Hall, Limits, State, all_screens, desk_of, used_slots}
use Rattle.rules.specs.Steps.{Answer, Call, Collect, Drop, Result, Retire, Step, Swap, Take, ◌numbered◌, ◌sends◌, advance, collect, is_repeat, retire}
use Rattle.rules.specs.Table.{decode, encode_desk, hall_in, header_words, position_word, screen_word}
use Rattle.rules.proofs.Laws.Bytes.Bytes.{WordBoard}
use Rattle.rules.proofs.Laws.Desk.Decoding.{small-drop, small-take}
use Rattle.rules.proofs.Laws.History.StepEffects.{IsDesk, desk_asked, retire-asked}
use Rattle.rules.proofs.Laws.Lists.Bools.{cond_both}
use Rattle.rules.proofs.Laws.Table.EncodedStep.{Fits, limits_fit, some_screens}
use Rattle.rules.proofs.Laws.Table.TableSteps.{known}
use Rattle.rules.proofs.Laws.Table.WordBounds.{Desk16, below-append, collect_16, desk_read, record_words_lem, retire_16, step_session, words-set, words-zeros}
use Rattle.ring_rules.specs.Ring.{beginning_after, beginning_in, decode_ring, encode_ring, front_words, linear, linear_in, linear_records, linear_table, open_ring, opened_ring, put_ring, ring_after}
use Rattle.ring_rules.specs.Ring.{ring_after_step, ring_need, ring_next_word, ring_record_of, ring_sound, ring_start, ring_state, ring_width_for, settled, step_ring}
use Rattle.ring_rules.proofs.Laws.Records.{circular-words, linear-words}
use Rattle.ring_rules.proofs.Laws.RingDemand1.{by_ring_step, ring_demand1, ring_open_length}
use Rattle.ring_rules.proofs.Laws.RingOpening.{by_opening, ring_fits}
use Rattle.ring_rules.proofs.Laws.RingSteps.{RingKnown, after-below, begins-below, desk_is, first-sound, held, ring_known, ring-step, ring_asked, same_hall_read, unsound-ring}

-- ---- The first board that it reads as.
linear_records-words : (S n : ℕ) (x : List ℕ) → n * ring_width_for S ≤ length x → Words16 x → Words16 (linear_records S n x)
linear_records-words S zero x h small = small
linear_records-words S (suc n) x h small =
    below-append 65536 (linear S (take (ring_width_for S) x)) (linear_records S n (drop (ring_width_for S) x))
    (linear-words S (take (ring_width_for S) x) (length-take-le (ring_width_for S) x (omega arith)) (small-take (ring_width_for S) x small))
    (linear_records-words S n (drop (ring_width_for S) x) (omega (arith, length-drop (ring_width_for S) x)) (small-drop (ring_width_for S) x small))

pub linear_table-words : (H : Hall) (t : List ℕ) → ring_need H ≤ length t → Words16 t → Words16 (linear_in H t)
linear_table-words H t long small =
    below-append 65536 (take (front_words H) t) (linear_records (all_screens H) H.desks (drop (front_words H) t)) (small-take (front_words H) t small)
    (linear_records-words (all_screens H) H.desks (drop (front_words H) t) (omega (arith, length-drop (front_words H) t)) (small-drop (front_words H) t small))

-- ---- The words after a step.
put_words : (H : Hall) (t : List ℕ) (d : ℕ) (words : List ℕ) → Words16 t → Words16 words → Words16 (put_ring H t d words)
put_words H t d words small wide =
    let start = ring_start H d in
    let width = ring_width_for (all_screens H) in
    below-append 65536 (take start t) (words ++ drop width (drop start t)) (small-take start t small)
    (below-append 65536 words (drop width (drop start t)) wide (small-drop width (drop start t) (small-drop start t small)))

module _ (limits : Limits) (t : List ℕ) (small : Words16 t) (k : RingKnown limits t) where
  abbrev H : Hall
  H = hall_in t

  abbrev S : ℕ
  S = all_screens H

  abbrev st : State
  st = ring_state t

  desk_16 : (d : ℕ) → IsDesk H d → Desk16 S (decode_ring S (ring_record_of H t d))
  desk_16 d there =
      subst (Desk16 S) (desk_is limits t k d there)
      (subst (λ (h : Hall). IsDesk h d → Desk16 (all_screens h) (desk_of (decode h (linear_table t)) d)) (same_hall_read limits t k)
      (desk_read (linear_table t) d (linear_table-words H t k.long small) (known limits (linear_table t) (first-sound limits t k))) there)

  -- the record of a desk of 16-bit words, from slot b on
  laid_words : (b : ℕ) (D : Desk) → b < 2 * S → Desk16 S D → Words16 (encode_ring S b D)
  laid_words b D h wide = circular-words S b (encode_desk S D) (omega (arith, (held limits t k).bounded)) (record_words_lem S D (held limits t k).bounded wide)

  step_words : (m d : ℕ) (s : Step) → Step16 s → ring_asked limits t (d sends s numbered m) ≡ 0 → Words16 (ring_after_step t d s)
  step_words m d (Take c p) w q = words-set t (screen_word H d c) (get_or t (position_word p) 0) (small (position_word p)) small
  step_words m d (Drop c) w q = words-set t (screen_word H d c) 0 (omega arith) small
  step_words m d (Swap p v) w q =
      let old = get_or t (position_word p) 0 in
      cond_both Words16 (is_repeat old v) small
      (words-set (set t (position_word p) v) (ring_start H d) old (small (position_word p)) (words-set t (position_word p) v w.1 small))
  step_words m d Retire w q =
      let asks = retire-asked limits H st m d q in
      let same = desk_is limits t k d asks.desk in
      let D = decode_ring S (ring_record_of H t d) in
      let room = subst (λ (x : Desk). used_slots x < 2 * S) same asks.room in
      let owes = subst (λ (x : Desk). x.owed ≡ 0 → ⊥) same asks.owes in
      put_words H t d (encode_ring S (beginning_in S (ring_record_of H t d)) (retire D)) small
      (laid_words (beginning_in S (ring_record_of H t d)) (retire D) (begins-below limits t k d asks.desk) (retire_16 S D owes room (desk_16 d asks.desk)))
  step_words m d Collect w q =
      let there = desk_asked limits H st (d sends Collect numbered m) q in
      let D = decode_ring S (ring_record_of H t d) in
      let b = beginning_after S (settled S st.shown D).ready (beginning_in S (ring_record_of H t d)) in
      put_words H t d (encode_ring S b (collect S st.shown D).after) small
      (laid_words b (collect S st.shown D).after (after-below S (settled S st.shown D).ready (beginning_in S (ring_record_of H t d)) (begins-below limits t k d there))
      (collect_16 S st.shown D (some_screens H (held limits t k).fits) (held limits t k).valid_state.formed.screens (desk_16 d there)))

  pub after-words : (c : Call) → Call16 c → ring_asked limits t c ≡ 0 → Words16 (ring_after t c)
  after-words c w q =
      let number = ring_next_word H c.desk in
      words-set (ring_after_step t c.desk c.step) number (advance (get_or t number 0)) (omega arith) (step_words c.message c.desk c.step w.2 q)

-- the session in an answer is that of the first board
session_16 : (limits : Limits) (t : List ℕ) (c : Call) → Words16 t → ring_sound limits t ≡ true → (step_ring limits t c).answer.session < 65536
session_16 limits t c small is-sound =
    subst (λ (a : Answer). a.session < 65536) (sym (ring-step limits t is-sound c).answer)
    (step_session limits (linear_table t) c (linear_table-words (hall_in t) t (ring_known limits t is-sound).long small))

pub ring_session : (limits : Limits) (t : List ℕ) (c : Call) → Words16 t → (step_ring limits t c).answer.session < 65536
ring_session limits t c small = by_soundness (ring_sound limits t) refl
  where
    by_soundness : (b : Bool) → ring_sound limits t ≡ b → (step_ring limits t c).answer.session < 65536
    by_soundness true s = session_16 limits t c small s
    by_soundness false s = subst (λ (r : Result (List ℕ)). r.answer.session < 65536) (sym (unsound-ring limits t c s)) (omega arith)

-- ---- The opening.
pub opened-words : (H : Hall) (t : List ℕ) → Words16 t → Fits H → Words16 (opened_ring H t)
opened-words H t h o zero = omega (arith, o.desks)
opened-words H t h o (suc zero) = omega (arith, o.screens)
opened-words H t h o (suc (suc zero)) = omega (arith, o.positions)
opened-words H t h o (suc (suc (suc i))) =
    below-append 65536 (replicate (ring_need H - header_words) 0) (drop (ring_need H) t) (words-zeros (ring_need H - header_words)) (small-drop (ring_need H) t h) i

-- ---- The ring as a board on words.
abbrev pub ring_board : Limits → WordBoard
ring_board limits = record {
  opens = open_ring limits;
  does = step_ring limits;
  open_keeps = λ hall table wide.
      (record {
        session = by_opening limits (λ r. r.answer.session < 65536) hall table (λ n q. omega arith) (λ q. omega arith);
        words = by_opening limits (λ r. Words16 r.after) hall table (λ n q. wide) (λ q. opened-words hall table wide (limits_fit limits hall (ring_fits limits hall table q).0));
        same_length = ring_open_length limits hall table;
      });
  step_keeps = λ table call wide numbers.
      (record {
        session = ring_session limits table call wide;
        words = by_ring_step limits (λ r. Words16 r.after) table call wide (λ n q. wide) (λ s q. after-words limits table wide (ring_known limits table s) call numbers q);
        same_length = (ring_demand1 limits table wide call).same_length;
      });
}
