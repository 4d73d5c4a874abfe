-- Where each desk's list begins after a call, and after a list of calls: as many slots on, around, as the desk handed back.
use Rattle.std.specs.Prelude.{ℕ, zero, suc, ◌+◌, ◌*◌, ◌-◌, ◌%◌, ◌≤◌, ◌<◌, ◌≡◌, refl, Bool, true, false, cond, List, [], ◌∷◌, eqb, ltb, length, get_or, drop, set}
use Rattle.std.proofs.Common.{arith, mod-eq_of_lt, mul-le-mul_right, sym, ap, ◌∙◌, subst, eqb-true, ltb-false, ltb-true, ne_eqb, get_or-drop, get_or-set_other, get_or-take}
use Rattle.std.proofs.Math.Decide.{dec_lt}
use Rattle.std.proofs.Math.Nat.{mod-add-mod, mod_self}
use Rattle.std.proofs.lemmas.Bool.{eqb-false}
use Rattle.rules.specs.Hall.{Desk, Hall, Limits, State, all_screens, used_slots}
use Rattle.rules.specs.History.{Action, accepted_action, by_desk, collects, effect_of, hand_backs, hands_back, is_hand_back, no_action, out_of_room, refused_action, swaps, ◌by◌}
use Rattle.rules.specs.Lists.{occurrences, to_nat}
use Rattle.rules.specs.Steps.{Call, Collect, Drop, Result, Retire, Step, Swap, Take, ◌numbered◌, ◌sends◌, advance, collect, end, first_no, is_none, is_repeat, perform}
use Rattle.rules.specs.Steps.{perform_step, questions, retire, run}
use Rattle.rules.specs.Table.{hall_in, position_word, screen_word, tail_offset, width_for}
use Rattle.rules.proofs.Laws.Desk.Collect.{before_hand_back_lem}
use Rattle.rules.proofs.Laws.Desk.Sound.{Sound, collect-sound, retire-sound, sound_orderly}
use Rattle.rules.proofs.Laws.History.StepEffects.{IsDesk, desk_asked, drop-asked, retire-asked, swap_asked, take-asked}
use Rattle.rules.proofs.Laws.Lists.ListSlices.{put_is}
use Rattle.rules.proofs.Laws.Table.EncodedStep.{some_screens}
use Rattle.ring_rules.specs.Ring.{beginning_after, beginning_in, beginning_word, decode_ring, encode_ring, front_words, put_ring, ring_after, ring_after_step, ring_need, ring_next_word}
use Rattle.ring_rules.specs.Ring.{ring_record_of, ring_sound, ring_start, ring_state, ring_width_for, settled, slot_after, step_ring}
use Rattle.ring_rules.proofs.Laws.RingSteps.{RingKnown, accepted_ring, after-below, begins-below, desk_good, desk_is, held, laid, refused_ring, ring_known, ring-step, ring_asked}
use Rattle.ring_rules.proofs.Laws.RingSteps.{screen_below, writes}
use Rattle.ring_rules.proofs.Laws.RingTables.{record_within}

-- the beginning, as a word of the table
pub beginning_word_lem : (H : Hall) (t : List ℕ) (d : ℕ) → beginning_in (all_screens H) (ring_record_of H t d) ≡ get_or t (beginning_word H d) 0
beginning_word_lem H t d =
    get_or-take (ring_width_for (all_screens H)) (drop (ring_start H d) t) (width_for (all_screens H)) 0 (omega arith) ∙ get_or-drop (ring_start H d) t (width_for (all_screens H)) 0

-- ---- Words of two records: they are the same only if desk and offset are.
records_apart : (w a d : ℕ) → 1 ≤ a → a < d → (a - 1) * w + w ≤ (d - 1) * w
records_apart w a d h l = let m : suc (a - 1) * w ≤ (d - 1) * w = mul-le-mul_right w (omega arith) in omega arith

pub same_desk_lem : (H : Hall) (a d i j : ℕ) → 1 ≤ a → 1 ≤ d → i < ring_width_for (all_screens H) → j < ring_width_for (all_screens H)
    → ring_start H a + i ≡ ring_start H d + j → (a ≡ d) × (i ≡ j)
same_desk_lem H a d i j ha hd hi hj e = by_order (dec_lt a d) (dec_lt d a)
  where
    by_order : Dec (a < d) → Dec (d < a) → (a ≡ d) × (i ≡ j)
    by_order (yes l) m = absurd (let z = records_apart (ring_width_for (all_screens H)) a d ha l in omega arith)
    by_order (no l) (yes m) = absurd (let z = records_apart (ring_width_for (all_screens H)) d a hd m in omega arith)
    by_order (no l) (no m) = let same : a ≡ d = omega arith in (same, omega (arith, ap (ring_start H) same))

-- ---- Stores that leave the beginnings alone.
front_keeps : (H : Hall) (t : List ℕ) (i v d : ℕ) → i < front_words H → get_or (set t i v) (beginning_word H d) 0 ≡ get_or t (beginning_word H d) 0
front_keeps H t i v d h = get_or-set_other t i (beginning_word H d) v 0 (λ q. omega arith)

word_keeps : (H : Hall) (t : List ℕ) (a i v d : ℕ) → 1 ≤ a → 1 ≤ d → i < width_for (all_screens H)
    → get_or (set t (ring_start H a + i) v) (beginning_word H d) 0 ≡ get_or t (beginning_word H d) 0
word_keeps H t a i v d ha hd h =
    get_or-set_other t (ring_start H a + i) (beginning_word H d) v 0
    (λ q. let same = (same_desk_lem H d a (width_for (all_screens H)) i hd ha (omega arith) (omega arith) q).1 in omega arith)

-- ---- A record replaced: the desk's own beginning, and the others.
module _ (H : Hall) (t : List ℕ) (long : ring_need H ≤ length t) (a : ℕ) (there : IsDesk H a) (q : List ℕ) (wide : length q ≡ ring_width_for (all_screens H)) where
  fits : ring_start H a + ring_width_for (all_screens H) ≤ length t
  fits = omega (arith, record_within H t long a there.0 there.1)

  pub beginning_put : (d : ℕ) → 1 ≤ d
      → get_or (put_ring H t a q) (beginning_word H d) 0 ≡ cond (eqb a d) (beginning_in (all_screens H) q) (get_or t (beginning_word H d) 0)
  beginning_put d hd = by_desk_lem (eqb a d) refl
    where
      by_desk_lem : (b : Bool) → eqb a d ≡ b → get_or (put_ring H t a q) (beginning_word H d) 0 ≡ cond b (beginning_in (all_screens H) q) (get_or t (beginning_word H d) 0)
      by_desk_lem true x =
          put_is t q (ring_start H a) (ring_width_for (all_screens H)) fits wide (beginning_word H d) (beginning_in (all_screens H) q)
          (λ j h e. ap (λ (k : ℕ). get_or q k 0) (same_desk_lem H a d j (width_for (all_screens H)) there.0 hd h (omega arith) e).1)
          (λ f. absurd (let same = eqb-true a d x in let g = f (omega (arith, ap (ring_start H) same)) in omega (arith, ap (ring_start H) same)))
      by_desk_lem false x =
          put_is t q (ring_start H a) (ring_width_for (all_screens H)) fits wide (beginning_word H d) (get_or t (beginning_word H d) 0)
          (λ j h e. absurd (eqb-false a d x (same_desk_lem H a d j (width_for (all_screens H)) there.0 hd h (omega arith) e).0))
          (λ f. refl)

-- ---- The beginning and the reply: in a list of sessions the first is not 0.
after_by_reply : (S b : ℕ) (ready : List ℕ) → occurrences 0 ready ≡ 0 → beginning_after S ready b ≡ cond (is_none (get_or ready 0 0)) b (slot_after S b 1)
after_by_reply S b [] h = refl
after_by_reply S b (x ∷ ready) h = ap (λ (q : Bool). cond q b (slot_after S b 1)) (sym (ne_eqb x 0 (λ z. omega (arith, rw z at h))))

-- one slot on, around
pub slot_modulo : (S b : ℕ) → b < 2 * S → slot_after S b 1 ≡ (b + 1) % (2 * S)
slot_modulo S b h = by_wrap (ltb (b + 1) (2 * S)) refl
  where
    by_wrap : (q : Bool) → ltb (b + 1) (2 * S) ≡ q → cond q (b + 1) (b + 1 - 2 * S) ≡ (b + 1) % (2 * S)
    by_wrap true e = sym (mod-eq_of_lt (ltb-true (b + 1) (2 * S) e))
    by_wrap false e =
        let n = ltb-false (b + 1) (2 * S) e in
        let all : b + 1 ≡ 2 * S = omega arith in
        let none : b + 1 - 2 * S ≡ 0 = omega arith in
        none ∙ sym (ap (λ (k : ℕ). k % (2 * S)) all ∙ mod_self (2 * S))

stays : (S b : ℕ) → b < 2 * S → b ≡ (b + 0) % (2 * S)
stays S b h = let e : b ≡ b + 0 = omega arith in e ∙ sym (mod-eq_of_lt (let l : b + 0 < 2 * S = omega arith in l))

-- the beginning b after an action of the same desk, or of another
abbrev moved : ℕ → ℕ → Action → ℕ
moved S b action = (b + to_nat (is_hand_back action)) % (2 * S)

no_hand_back : (S b : ℕ) (own : Bool) (a : Action) → b < 2 * S → is_hand_back a ≡ false → b ≡ moved S b (cond own a no_action)
no_hand_back S b true a h e = stays S b h ∙ ap (λ (q : Bool). (b + to_nat q) % (2 * S)) (sym e)
no_hand_back S b false a h e = stays S b h

module _ (limits : Limits) (t : List ℕ) (k : RingKnown limits t) where
  abbrev H : Hall
  H = hall_in t

  abbrev S : ℕ
  S = all_screens H

  abbrev st : State
  st = ring_state t

  abbrev beginning : ℕ → ℕ
  beginning d = get_or t (beginning_word H d) 0

  below : (d : ℕ) → IsDesk H d → beginning d < 2 * S
  below d there = subst (λ (b : ℕ). b < 2 * S) (beginning_word_lem H t d) (begins-below limits t k d there)

  -- a record laid around from slot b on, in place of desk a's
  put_laid : (a : ℕ) → IsDesk H a → (b : ℕ) (D : Desk) → b < 2 * S → Sound S D → (d : ℕ) → 1 ≤ d
      → get_or (put_ring H t a (encode_ring S b D)) (beginning_word H d) 0 ≡ cond (eqb a d) b (beginning d)
  put_laid a there b D h s d hd =
      let l = laid H (held limits t k).fits b D (held limits t k).bounded h s in
      beginning_put H t k.long a there (encode_ring S b D) l.long d hd ∙ ap (λ (x : ℕ). cond (eqb a d) x (beginning d)) l.begins

  same_beginning : (a d : ℕ) → cond (eqb a d) (beginning a) (beginning d) ≡ beginning d
  same_beginning a d = by_desk_lem (eqb a d) refl
    where
      by_desk_lem : (q : Bool) → eqb a d ≡ q → cond q (beginning a) (beginning d) ≡ beginning d
      by_desk_lem true e = ap beginning (eqb-true a d e)
      by_desk_lem false e = refl

  -- a collect that replies v: where desk d's list begins then
  collected : (a d v : ℕ) → IsDesk H d
      → cond (eqb a d) (cond (is_none v) (beginning a) (slot_after S (beginning a) 1)) (beginning d) ≡ moved S (beginning d) (cond (eqb a d) (cond (is_none v) collects (hands_back v)) no_action)
  collected a d v there = by_desk_lem (eqb a d) refl (is_none v)
    where
      own_list : (none : Bool) → cond none (beginning d) (slot_after S (beginning d) 1) ≡ moved S (beginning d) (cond none collects (hands_back v))
      own_list true = stays S (beginning d) (below d there)
      own_list false = slot_modulo S (beginning d) (below d there)

      by_desk_lem : (q : Bool) → eqb a d ≡ q → (none : Bool)
          → cond q (cond none (beginning a) (slot_after S (beginning a) 1)) (beginning d) ≡ moved S (beginning d) (cond q (cond none collects (hands_back v)) no_action)
      by_desk_lem true e none = ap (λ (x : ℕ). cond none (beginning x) (slot_after S (beginning x) 1)) (eqb-true a d e) ∙ own_list none
      by_desk_lem false e none = stays S (beginning d) (below d there)

  begins-step : (m a : ℕ) (s : Step) → first_no (questions limits H st (a sends s numbered m)) ≡ 0 → (d : ℕ) → IsDesk H d
      → get_or (ring_after_step t a s) (beginning_word H d) 0 ≡ moved S (beginning d) (by_desk d (accepted_action s (perform_step H st a s).session by a))
  begins-step m a (Take c p) e d there =
      let asks = take-asked limits H st m a c p e in
      front_keeps H t (screen_word H a c) (get_or t (position_word p) 0) d (screen_below limits t k a c asks.desk asks.screen.0 asks.screen.1)
      ∙ no_hand_back S (beginning d) (eqb a d) (accepted_action (Take c p) (perform_step H st a (Take c p)).session) (below d there) refl
  begins-step m a (Drop c) e d there =
      let asks = drop-asked limits H st m a c e in
      front_keeps H t (screen_word H a c) 0 d (screen_below limits t k a c asks.desk asks.screen.0 asks.screen.1)
      ∙ no_hand_back S (beginning d) (eqb a d) (accepted_action (Drop c) (perform_step H st a (Drop c)).session) (below d there) refl
  begins-step m a (Swap p s) e d there =
      let asks = swap_asked limits H st m a p s e in
      let old = get_or t (position_word p) 0 in
      let owed : ring_start H a ≡ ring_start H a + 0 = omega arith in
      by_repeat (is_repeat old s) (set (set t (position_word p) s) (ring_start H a) old)
      (ap (λ (x : ℕ). get_or (set (set t (position_word p) s) x old) (beginning_word H d) 0) owed
      ∙ word_keeps H (set t (position_word p) s) a 0 old d asks.desk.0 there.0 (omega arith)
      ∙ front_keeps H t (position_word p) s d (omega (arith, asks.position)))
      ∙ swap_action (is_repeat (perform_step H st a (Swap p s)).session s)
    where
      by_repeat : (b : Bool) (u : List ℕ) → get_or u (beginning_word H d) 0 ≡ beginning d → get_or (cond b t u) (beginning_word H d) 0 ≡ beginning d
      by_repeat true u x = refl
      by_repeat false u x = x

      swap_action : (b : Bool) → beginning d ≡ moved S (beginning d) (cond (eqb a d) (cond b no_action (swaps p)) no_action)
      swap_action true = no_hand_back S (beginning d) (eqb a d) no_action (below d there) refl
      swap_action false = no_hand_back S (beginning d) (eqb a d) (swaps p) (below d there) refl
  begins-step m a Retire e d there =
      let asks = retire-asked limits H st m a e in
      let i = desk_is limits t k a asks.desk in
      let D = decode_ring S (ring_record_of H t a) in
      let room = subst (λ (x : Desk). used_slots x < 2 * S) i asks.room in
      let owes = subst (λ (x : Desk). x.owed ≡ 0 → ⊥) i asks.owes in
      put_laid a asks.desk (beginning_in S (ring_record_of H t a)) (retire D) (begins-below limits t k a asks.desk)
      (retire-sound S D owes room (desk_good limits t k a asks.desk)) d there.0
      ∙ ap (λ (x : ℕ). cond (eqb a d) x (beginning d)) (beginning_word_lem H t a)
      ∙ same_beginning a d
      ∙ no_hand_back S (beginning d) (eqb a d) (accepted_action Retire (perform_step H st a Retire).session) (below d there) refl
  begins-step m a Collect e d there =
      let own = desk_asked limits H st (a sends Collect numbered m) e in
      let D = decode_ring S (ring_record_of H t a) in
      let b = beginning_in S (ring_record_of H t a) in
      let shown = st.shown in
      let some = some_screens H (held limits t k).fits in
      let all = (held limits t k).valid_state.formed.screens in
      let good = desk_good limits t k a own in
      let ready = (settled S shown D).ready in
      let kept = before_hand_back_lem S shown D some all (sound_orderly S D good) in
      let sessions : occurrences 0 ready ≡ 0 = omega (arith, kept.copy 0, good.real) in
      let session : (collect S shown D).session ≡ (perform_step H st a Collect).session = ap (λ (x : Desk). (collect S shown x).session) (sym (desk_is limits t k a own)) in
      put_laid a own (beginning_after S ready b) (collect S shown D).after (after-below S ready b (begins-below limits t k a own)) (collect-sound S shown D some all good) d there.0
      ∙ ap (λ (x : ℕ). cond (eqb a d) x (beginning d))
      (after_by_reply S b ready sessions ∙ ap (λ (x : ℕ). cond (is_none x) b (slot_after S b 1)) session ∙ ap (λ (x : ℕ). cond (is_none (perform_step H st a Collect).session) x (slot_after S x 1)) (beginning_word_lem H t a))
      ∙ collected a d (perform_step H st a Collect).session there

  begins-after : (c : Call) → first_no (questions limits H st c) ≡ 0 → (d : ℕ) → IsDesk H d
      → get_or (ring_after t c) (beginning_word H d) 0 ≡ moved S (beginning d) (by_desk d (accepted_action c.step (perform H st c).session by c.desk))
  begins-after c e d there =
      let own = desk_asked limits H st c e in
      let number = ring_next_word H c.desk in
      word_keeps H (ring_after_step t c.desk c.step) c.desk (tail_offset S) (advance (get_or t number 0)) d own.0 there.0 (omega arith)
      ∙ begins-step c.message c.desk c.step e d there

-- ---- Any call on a sound ring.
begins_call : (limits : Limits) (t : List ℕ) → ring_sound limits t ≡ true → (c : Call) (d : ℕ) → IsDesk (hall_in t) d
    → let result = step_ring limits t c in
    get_or result.after (beginning_word (hall_in t) d) 0
    ≡ moved (all_screens (hall_in t)) (get_or t (beginning_word (hall_in t) d) 0) (by_desk d (effect_of (record { call = c; answer = result.answer })))
begins_call limits t is-sound c d there = by_number_lem (ring_asked limits t c) refl
  where
    Begins : Result (List ℕ) → Type 0
    Begins result =
        get_or result.after (beginning_word (hall_in t) d) 0
        ≡ moved (all_screens (hall_in t)) (get_or t (beginning_word (hall_in t) d) 0) (by_desk d (effect_of (record { call = c; answer = result.answer })))

    no_hand_back_refused : (s : Step) (n : ℕ) → is_hand_back (refused_action s n) ≡ false
    no_hand_back_refused (Take x p) n = refl
    no_hand_back_refused (Drop x) n = refl
    no_hand_back_refused (Swap p x) n = refl
    no_hand_back_refused Retire n = by_reason (eqb n 14)
      where
        by_reason : (b : Bool) → is_hand_back (cond b out_of_room no_action) ≡ false
        by_reason true = refl
        by_reason false = refl
    no_hand_back_refused Collect n = refl

    by_number_lem : (n : ℕ) → ring_asked limits t c ≡ n → Begins (step_ring limits t c)
    by_number_lem zero e = subst Begins (sym (accepted_ring limits t c is-sound e)) (begins-after limits t (ring_known limits t is-sound) c e d there)
    by_number_lem (suc n) e =
        subst Begins (sym (refused_ring limits t c n is-sound e))
        (no_hand_back (all_screens (hall_in t)) (get_or t (beginning_word (hall_in t) d) 0) (eqb c.desk d) (refused_action c.step (suc n))
        (below limits t (ring_known limits t is-sound) d there) (no_hand_back_refused c.step (suc n)))

pub hall_kept : (limits : Limits) (t : List ℕ) → ring_sound limits t ≡ true → (c : Call) → hall_in (step_ring limits t c).after ≡ hall_in t
hall_kept limits t is-sound c = by_number_lem (ring_asked limits t c) refl
  where
    by_number_lem : (n : ℕ) → ring_asked limits t c ≡ n → hall_in (step_ring limits t c).after ≡ hall_in t
    by_number_lem zero e =
        ap (λ (r : Result (List ℕ)). hall_in r.after) (accepted_ring limits t c is-sound e) ∙ (writes limits t (ring_known limits t is-sound) c e).hall
    by_number_lem (suc n) e = ap (λ (r : Result (List ℕ)). hall_in r.after) (refused_ring limits t c n is-sound e)

-- ---- A list of calls.
pub beginnings_run : (limits : Limits) (H : Hall) (d : ℕ) → IsDesk H d → (cs : List Call) (t : List ℕ) → ring_sound limits t ≡ true → hall_in t ≡ H
    → get_or (end (step_ring limits) t cs) (beginning_word H d) 0 ≡ (get_or t (beginning_word H d) 0 + hand_backs d (run (step_ring limits) t cs)) % (2 * all_screens H)
beginnings_run limits H d there [] t is-sound e =
    subst (λ (h : Hall). IsDesk h d → get_or t (beginning_word h d) 0 ≡ (get_or t (beginning_word h d) 0 + 0) % (2 * all_screens h)) e
    (λ own. stays (all_screens (hall_in t)) (get_or t (beginning_word (hall_in t) d) 0) (below limits t (ring_known limits t is-sound) d own)) there
beginnings_run limits H d there (c ∷ cs) t is-sound e =
    let r = step_ring limits t c in
    let m = 2 * all_screens H in
    let b = get_or t (beginning_word H d) 0 in
    let x = to_nat (is_hand_back (by_desk d (effect_of (record { call = c; answer = r.answer })))) in
    let n = hand_backs d (run (step_ring limits) r.after cs) in
    let sum : b + x + n ≡ b + (x + n) = omega arith in
    beginnings_run limits H d there cs r.after (ring-step limits t is-sound c).stays (hall_kept limits t is-sound c ∙ e)
    ∙ ap (λ (k : ℕ). (k + n) % m)
    (subst (λ (h : Hall). IsDesk h d → get_or r.after (beginning_word h d) 0 ≡ moved (all_screens h) (get_or t (beginning_word h d) 0) (by_desk d (effect_of (record { call = c; answer = r.answer })))) e
    (begins_call limits t is-sound c d) there)
    ∙ mod-add-mod (b + x) m n
    ∙ ap (λ (k : ℕ). k % m) sum
