-- Message numbers along a list of calls: the word is the number of the desk's accepted calls, so a message that was accepted and is delivered
-- again is refused.
use Rattle.std.specs.Prelude.{ℕ, zero, suc, ◌+◌, ◌-◌, ◌%◌, ◌≤◌, ◌<◌, ◌≡◌, refl, Bool, true, false, cond, ◌&&◌, List, [], ◌∷◌, length, get_or, take, drop, set, eqb}
use Rattle.std.proofs.Common.{arith, sym, ap, ◌∙◌, subst, true≢false, get_or-set_same, get_or-set_other, eq-eqb, eqb-true, ne_eqb}
use Rattle.std.proofs.Math.Seq.{take-nil}
use Rattle.std.proofs.lemmas.Bool.{eqb-false}
use Rattle.rules.specs.Hall.{Desk, Formed, Hall, Limits, State, all_screens, desk_of, empty_desk, fresh}
use Rattle.rules.specs.History.{Effect, ◌by◌, effect_at, hands_back, is_hand_back, no_action, number_at, out_of_room, refused_action}
use Rattle.rules.specs.Lists.{to_nat}
use Rattle.rules.specs.Messages.{MessageNumbers, Redelivered, accepted_between, accepted_of, call_at, is_accepted_from}
use Rattle.rules.specs.Steps.{Call, Collect, Drop, Event, Result, Retire, Step, Swap, Take, advance, change_position, collect, decide}
use Rattle.rules.specs.Steps.{end, first_no, in_range, is_repeat, owe, perform, perform_step, questions, renumber, retire, run, step, step_questions}
use Rattle.rules.specs.Table.{in_limits, need, next_word, opened_table, step_table}
use Rattle.rules.proofs.Laws.Desk.Collect.{next-collect}
use Rattle.rules.proofs.Laws.History.InitialState.{fresh_formed, get_same}
use Rattle.rules.proofs.Laws.History.RunSplitting.{run_take}
use Rattle.rules.proofs.Laws.History.StepEffects.{IsDesk, desk_asked, formed_performed, formed_step, number_asked, range_holds}
use Rattle.rules.proofs.Laws.Table.EncodedStep.{limits_fit, number_word_is}
use Rattle.rules.proofs.Laws.Table.TableHistories.{end_is, run_is, valid}
use Rattle.rules.proofs.Laws.Table.WordBounds.{first_no_is_asked, step_refused}

-- ---- 23 is not the number of any question of a step's own.
not_23 : (limits : Limits) (H : Hall) (st : State) (d : ℕ) (s : Step) → first_no (step_questions limits H st d s) ≡ 23 → ⊥
not_23 limits H st d (Take c p) e = omega (arith, first_no_is_asked (step_questions limits H st d (Take c p)) 22 e)
not_23 limits H st d (Drop c) e = omega (arith, first_no_is_asked (step_questions limits H st d (Drop c)) 22 e)
not_23 limits H st d (Swap p v) e = omega (arith, first_no_is_asked (step_questions limits H st d (Swap p v)) 22 e)
not_23 limits H st d Retire e = omega (arith, first_no_is_asked (step_questions limits H st d Retire) 22 e)
not_23 limits H st d Collect e = omega (arith, e)

-- the questions of a call of a desk of the hall, by whether its number is right
asked_number : (limits : Limits) (H : Hall) (st : State) (c : Call) → in_range c.desk H.desks ≡ true → (right : Bool) → eqb c.message (desk_of st c.desk).next ≡ right
    → first_no (questions limits H st c) ≡ cond right (first_no (step_questions limits H st c.desk c.step)) 23
asked_number limits H st c there right q = λ i. cond (there i) (cond (q i) (first_no (step_questions limits H st c.desk c.step)) 23) 6

-- the right number is not refused with 23, another is
pub right_number : (limits : Limits) (H : Hall) (st : State) (c : Call) → in_range c.desk H.desks ≡ true → c.message ≡ (desk_of st c.desk).next
    → first_no (questions limits H st c) ≡ 23 → ⊥
right_number limits H st c there same e =
    not_23 limits H st c.desk c.step (sym (asked_number limits H st c there true (eq-eqb c.message (desk_of st c.desk).next same)) ∙ e)

pub outside_is_6 : (limits : Limits) (H : Hall) (st : State) (c : Call) → in_range c.desk H.desks ≡ false → first_no (questions limits H st c) ≡ 6
outside_is_6 limits H st c out =
    λ i. cond (out i) (cond (eqb c.message (desk_of st c.desk).next) (first_no (step_questions limits H st c.desk c.step)) 23) 6

decided_number : (n session : ℕ) {T : Type 0} (before after : T) → (decide n before session after).answer.number ≡ n
decided_number zero session before after = refl
decided_number (suc n) session before after = refl

module _ (limits : Limits) (H : Hall) where
  answered_by_first_no : (st : State) (c : Call) → (step limits H st c).answer.number ≡ first_no (questions limits H st c)
  answered_by_first_no st c = decided_number (first_no (questions limits H st c)) (perform H st c).session st (perform H st c).after

  -- ---- One call, seen from a desk's number.

  -- one that is stored with the number that it had
  next_stored : (Ds : List Desk) (i j : ℕ) (E : Desk) → E.next ≡ (get_or Ds i empty_desk).next → (get_or (set Ds i E) j empty_desk).next ≡ (get_or Ds j empty_desk).next
  next_stored [] i j E same = refl
  next_stored (D ∷ Ds) zero zero E same = same
  next_stored (D ∷ Ds) zero (suc j) E same = refl
  next_stored (D ∷ Ds) (suc i) zero E same = refl
  next_stored (D ∷ Ds) (suc i) (suc j) E same = next_stored Ds i j E same

  next_performed : (st : State) (e : ℕ) (s : Step) (d : ℕ) → (desk_of (perform_step H st e s).after d).next ≡ (desk_of st d).next
  next_performed st e (Take c p) d = refl
  next_performed st e (Drop c) d = refl
  next_performed st e (Swap p v) d = by_repeat (is_repeat (get_or st.held (p - 1) 0) v)
    where
      by_repeat : (b : Bool) → (desk_of (cond b st (change_position st e p v)) d).next ≡ (desk_of st d).next
      by_repeat true = refl
      by_repeat false = next_stored st.desks (e - 1) (d - 1) (owe (desk_of st e) (get_or st.held (p - 1) 0)) refl
  next_performed st e Retire d = next_stored st.desks (e - 1) (d - 1) (retire (desk_of st e)) refl
  next_performed st e Collect d =
      next_stored st.desks (e - 1) (d - 1) (collect (all_screens H) st.shown (desk_of st e)).after (next-collect (all_screens H) st.shown (desk_of st e))

  next-step : (st : State) → Formed H st → (c : Call) (d : ℕ) → IsDesk H d
      → (desk_of (step limits H st c).after d).next
      ≡ cond (is_accepted_from d (record { call = c; answer = (step limits H st c).answer })) (advance (desk_of st d).next) (desk_of st d).next
  next-step st formed c d r = by_number_lem (first_no (questions limits H st c)) refl
    where
      by_number_lem : (n : ℕ) → first_no (questions limits H st c) ≡ n
          → let result = decide n st (perform H st c).session (perform H st c).after in
          (desk_of result.after d).next
          ≡ cond (eqb c.desk d && eqb result.answer.number 0) (advance (desk_of st d).next) (desk_of st d).next
      by_number_lem zero e = by_desk_lem (eqb c.desk d) refl
        where
          after : State
          after = (perform_step H st c.desk c.step).after

          new : Desk
          new = renumber (desk_of (perform_step H st c.desk c.step).after c.desk) (advance (desk_of st c.desk).next)

          there : IsDesk H c.desk
          there = desk_asked limits H st c e

          by_desk_lem : (b : Bool) → eqb c.desk d ≡ b
              → (get_or (set after.desks (c.desk - 1) new) (d - 1) empty_desk).next ≡ cond (b && true) (advance (desk_of st d).next) (desk_of st d).next
          by_desk_lem true q =
              let same : c.desk ≡ d = eqb-true c.desk d q in
              rw (← same)
              (ap (λ (D : Desk). D.next)
              (get_or-set_same after.desks (c.desk - 1) new empty_desk (omega (arith, (formed_performed limits H st formed c e).desks, there))))
          by_desk_lem false q =
              ap (λ (D : Desk). D.next)
              (get_or-set_other after.desks (c.desk - 1) (d - 1) new empty_desk (λ same. eqb-false c.desk d q (omega (arith, there, r, same))))
              ∙ next_performed st c.desk c.step d
      by_number_lem (suc n) e =
          by_desk_lem (eqb c.desk d)
          ∙ ap (λ (accepted : Bool). cond (eqb c.desk d && accepted) (advance (desk_of st d).next) (desk_of st d).next) (sym (ne_eqb (suc n) 0 (λ none. omega (arith, none))))
        where
          by_desk_lem : (b : Bool) → (desk_of st d).next ≡ cond (b && false) (advance (desk_of st d).next) (desk_of st d).next
          by_desk_lem true = refl
          by_desk_lem false = refl

  -- ---- A list of calls.
  next_run : (cs : List Call) (st : State) → Formed H st → (d : ℕ) → IsDesk H d → (desk_of st d).next < 65536
      → (desk_of (end (step limits H) st cs) d).next ≡ ((desk_of st d).next + accepted_of d (run (step limits H) st cs)) % 65536
  next_run [] st formed d r small = omega (arith, small)
  next_run (c ∷ cs) st formed d r small =
      by_acceptance (is_accepted_from d (record { call = c; answer = (step limits H st c).answer })) refl (next_run cs (step limits H st c).after (formed_step limits H st formed c) d r)
    where
      event : Event
      event = record { call = c; answer = (step limits H st c).answer }

      after : State
      after = (step limits H st c).after

      by_acceptance : (b : Bool) → is_accepted_from d event ≡ b
          → ((desk_of after d).next < 65536 → (desk_of (end (step limits H) after cs) d).next ≡ ((desk_of after d).next + accepted_of d (run (step limits H) after cs)) % 65536)
          → (desk_of (end (step limits H) (step limits H st c).after cs) d).next
          ≡ ((desk_of st d).next + (to_nat (is_accepted_from d event) + accepted_of d (run (step limits H) (step limits H st c).after cs))) % 65536
      by_acceptance true q rest =
          let moved : (desk_of after d).next ≡ advance (desk_of st d).next =
          next-step st formed c d r ∙ ap (λ (b : Bool). cond b (advance (desk_of st d).next) (desk_of st d).next) q in
          omega (arith, ap to_nat q, moved, rest (omega (arith, moved)))
      by_acceptance false q rest =
          let kept : (desk_of after d).next ≡ (desk_of st d).next =
          next-step st formed c d r ∙ ap (λ (b : Bool). cond b (advance (desk_of st d).next) (desk_of st d).next) q in
          omega (arith, ap to_nat q, kept, rest (omega (arith, kept, small)))

-- ---- The event at an index.
module _ {T : Type 0} (does : T → Call → Result T) where
  number_at_lem : (cs : List Call) (before : T) (i : ℕ) → i < length (run does before cs)
      → number_at (run does before cs) i ≡ (does (end does before (take i cs)) (call_at (run does before cs) i)).answer.number
  number_at_lem [] before i h = absurd (omega arith)
  number_at_lem (c ∷ cs) before zero h = refl
  number_at_lem (c ∷ cs) before (suc i) h = number_at_lem cs (does before c).after i (omega arith)

pub number_past : (history : List Event) (i : ℕ) → length history ≤ i → number_at history i ≡ 0
number_past [] i past = refl
number_past (event ∷ history) zero past = absurd (omega arith)
number_past (event ∷ history) (suc i) past = number_past history i (omega arith)

accepted_next : (d : ℕ) (history : List Event) (i : ℕ) → i < length history
    → accepted_of d (take (suc i) history) ≡ accepted_of d (take i history) + to_nat (eqb (call_at history i).desk d && eqb (number_at history i) 0)
accepted_next d [] i h = absurd (omega arith)
accepted_next d (event ∷ history) zero h = omega arith
accepted_next d (event ∷ history) (suc i) h = omega (arith, accepted_next d history i (omega arith))

accepted_split : (d : ℕ) (history : List Event) (i j : ℕ) → i ≤ j
    → accepted_of d (take j history) ≡ accepted_of d (take i history) + accepted_of d (drop i (take j history))
accepted_split d history zero j h = omega arith
accepted_split d [] (suc i) j h = simp take-nil
accepted_split d (event ∷ history) (suc i) zero h = absurd (omega arith)
accepted_split d (event ∷ history) (suc i) (suc j) h = omega (arith, accepted_split d history i j (omega arith))

-- a refused call hands nothing back
refused_hands_nothing : (history : List Event) (j n : ℕ) → number_at history j ≡ suc n → is_hand_back (effect_at history j).action ≡ false
refused_hands_nothing [] j n e = refl
refused_hands_nothing (event ∷ history) zero n e =
    subst (λ (number : ℕ). is_hand_back (effect_at (record { call = event.call; answer = record { number = number; session = event.answer.session } } ∷ []) 0).action ≡ false) (sym e)
    (by_step event.call.step)
  where
    full : (b : Bool) → is_hand_back (cond b out_of_room no_action) ≡ false
    full true = refl
    full false = refl

    by_step : (s : Step) → is_hand_back (refused_action s (suc n)) ≡ false
    by_step (Take c p) = refl
    by_step (Drop c) = refl
    by_step (Swap p v) = refl
    by_step Retire = full (eqb (suc n) 14)
    by_step Collect = refl
refused_hands_nothing (event ∷ history) (suc j) n e = refused_hands_nothing history j n e

-- ---- From a fresh hall on.
module _ (limits : Limits) (H : Hall) (cs : List Call) where
  abbrev history : List Event
  history = run (step limits H) (fresh H) cs

  abbrev state_at : ℕ → State
  state_at i = end (step limits H) (fresh H) (take i cs)

  fresh-next : (d : ℕ) → (desk_of (fresh H) d).next ≡ 0
  fresh-next d = ap (λ (D : Desk). D.next) (get_same H.desks (d - 1) empty_desk)

  pub next_at : (d i : ℕ) → IsDesk H d → (desk_of (state_at i) d).next ≡ accepted_of d (take i history) % 65536
  next_at d i r =
      let none = fresh-next d in
      omega (
        arith,
        none,
        next_run limits H (take i cs) (fresh H) (fresh_formed H) d r (omega (arith, none)),
        ap (accepted_of d) (run_take (step limits H) i cs (fresh H)),
      )

  pub answered_at : (i : ℕ) → i < length history → number_at history i ≡ first_no (questions limits H (state_at i) (call_at history i))
  answered_at i inside = number_at_lem (step limits H) cs (fresh H) i inside ∙ answered_by_first_no limits H (state_at i) (call_at history i)

  module _ (i j : ℕ) (twice : Redelivered history i j) where
    abbrev d : ℕ
    d = (call_at history i).desk

    before : i < length history
    before = omega (arith, twice.later, twice.within)

    first-asked : first_no (questions limits H (state_at i) (call_at history i)) ≡ 0
    first-asked = sym (answered_at i before) ∙ twice.accepted

    there : IsDesk H d
    there = desk_asked limits H (state_at i) (call_at history i) first-asked

    -- the number that was accepted, and the one that is next at index j
    sent : (call_at history i).message ≡ accepted_of d (take i history) % 65536
    sent = number_asked limits H (state_at i) (call_at history i) first-asked ∙ next_at d i there

    later : accepted_of d (take j history) ≡ accepted_of d (take i history) + 1 + accepted_between history i j
    later =
        let one : to_nat (eqb (call_at history i).desk d && eqb (number_at history i) 0) ≡ 1 =
        ap to_nat (λ k. eq-eqb d d refl k && eq-eqb (number_at history i) 0 twice.accepted k) in
        omega (arith, one, accepted_next d history i before, accepted_split d history (suc i) j (omega (arith, twice.later)))

    there_again : in_range (call_at history j).desk H.desks ≡ true
    there_again = ap (λ (e : ℕ). in_range e H.desks) twice.desk ∙ range_holds d H.desks there

    next_again : (desk_of (state_at j) (call_at history j).desk).next ≡ accepted_of d (take j history) % 65536
    next_again = ap (λ (e : ℕ). (desk_of (state_at j) e).next) twice.desk ∙ next_at d j there

    pub refused_again : accepted_between history i j < 65535 → number_at history j ≡ 23
    refused_again few =
        answered_at j twice.within
        ∙ asked_number limits H (state_at j) (call_at history j) there_again false
        (ne_eqb (call_at history j).message _ (λ same. omega (arith, same, next_again, later, sent, twice.message, few)))

    pub round_again : accepted_between history i j ≡ 65535 → number_at history j ≡ 23 → ⊥
    round_again all refused =
        right_number limits H (state_at j) (call_at history j) there_again (omega (arith, next_again, later, sent, twice.message, all)) (sym (answered_at j twice.within) ∙ refused)

-- ---- On words.
refused_leaves : (limits : Limits) (cs : List Call) (t : List ℕ) (j n : ℕ) → number_at (run (step_table limits) t cs) j ≡ suc n
    → end (step_table limits) t (take (suc j) cs) ≡ end (step_table limits) t (take j cs)
refused_leaves limits [] t j n e = absurd (omega (arith, e))
refused_leaves limits (c ∷ cs) t zero n e = (step_refused limits t c n e).2
refused_leaves limits (c ∷ cs) t (suc j) n e = refused_leaves limits cs (step_table limits t c).after j n e

pub message_numbers_opened : (limits : Limits) (H : Hall) → in_limits limits H ≡ true → (t : List ℕ) (cs : List Call)
    → MessageNumbers H (run (step_table limits) (opened_table H t) cs) (λ i. end (step_table limits) (opened_table H t) (take i cs))
message_numbers_opened limits H inside t cs =
    subst (λ (events : List Event). MessageNumbers H events tables) (sym (run_is limits H inside t cs))
    (record { word = word; again = again; round = round_again limits H cs; once = once })
  where
    tables : ℕ → List ℕ
    tables i = end (step_table limits) (opened_table H t) (take i cs)

    word : (d i : ℕ) → 1 ≤ d → d ≤ H.desks → get_or (tables i) (next_word H d) 0 ≡ accepted_of d (take i (history limits H cs)) % 65536
    word d i l h =
        ap (λ (words : List ℕ). get_or words (next_word H d) 0) (end_is limits H inside t cs i)
        ∙ number_word_is H (limits_fit limits H inside) (state_at limits H cs i) (valid limits H inside t cs i) (drop (need H) t) d (l, h)
        ∙ next_at limits H cs d i (l, h)

    again : (i j : ℕ) → Redelivered (history limits H cs) i j → accepted_between (history limits H cs) i j < 65535
        → (number_at (history limits H cs) j ≡ 23) × (tables (suc j) ≡ tables j)
    again i j twice few =
        let refused = refused_again limits H cs i j twice few in
        (refused, refused_leaves limits cs (opened_table H t) j 22 (ap (λ (events : List Event). number_at events j) (run_is limits H inside t cs) ∙ refused))

    once : (i j d s : ℕ) → Redelivered (history limits H cs) i j → accepted_between (history limits H cs) i j < 65535
        → effect_at (history limits H cs) j ≡ hands_back s by d → ⊥
    once i j d s twice few back =
        true≢false
        (sym (ap (λ (effect : Effect). is_hand_back effect.action) back) ∙ refused_hands_nothing (history limits H cs) j 22 (refused_again limits H cs i j twice few))
