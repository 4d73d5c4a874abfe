-- Calls that carry the right message numbers: none is answered 23, and each is answered as it was without numbers.
use Rattle.std.specs.Prelude.{ℕ, zero, suc, ◌-◌, ◌%◌, ◌<◌, ◌≡◌, refl, Bool, true, false, cond, ◌&&◌, List, [], ◌∷◌, ◌++◌, map, drop, get_or, length, replicate, set, take, eqb}
use Rattle.std.proofs.Common.{arith, sym, ap, ◌∙◌, subst, eq-eqb}
use Rattle.std.proofs.Math.Decide.{dec_lt}
use Rattle.rules.specs.Hall.{Desk, Hall, Limits, State, all_screens, desk_of, empty_desk, fresh}
use Rattle.rules.specs.History.{number_at}
use Rattle.rules.specs.Messages.{AnsweredAsBefore, RightNumbers, accepted_of, answers_of, call_at, next_in, send, sent_history, sent_tables, sent_to, step_unnumbered}
use Rattle.rules.specs.Steps.{Answer, Call, Collect, Collected, Drop, Event, Result, Retire, Step, Swap, Take, advance, ask, change_position, collect, decide, end, first_no}
use Rattle.rules.specs.Steps.{in_range, is_repeat, owe, perform, perform_step, questions, renumber, retire, retire_questions, run, step, step_questions}
use Rattle.rules.specs.Table.{encode, hall_in, in_hall, in_limits, need, next_word, opened_table, step_table, within}
use Rattle.rules.proofs.Laws.Desk.Collect.{collect_renumbered}
use Rattle.rules.proofs.Laws.History.StepEffects.{in_range_lem, range_holds}
use Rattle.rules.proofs.Laws.Lists.Bools.{and_left}
use Rattle.rules.proofs.Laws.Table.EncodedStep.{limits_fit, number_word_is}
use Rattle.rules.proofs.Laws.Table.MessageHistories.{answered_at, next_at, number_past, outside_is_6, right_number}
use Rattle.rules.proofs.Laws.Table.TableHistories.{end_is, run_is, valid}

-- ---- States without their numbers.
abbrev forget : Desk → Desk
forget D = renumber D 0

abbrev forget_all : State → State
forget_all st = record { held = st.held; shown = st.shown; desks = map forget st.desks }

desk_forgotten : (Ds : List Desk) (i : ℕ) → get_or (map forget Ds) i empty_desk ≡ forget (get_or Ds i empty_desk)
desk_forgotten [] i = refl
desk_forgotten (D ∷ Ds) zero = refl
desk_forgotten (D ∷ Ds) (suc i) = desk_forgotten Ds i

stored_forgotten : (Ds : List Desk) (i : ℕ) (E : Desk) → map forget (set Ds i E) ≡ set (map forget Ds) i (forget E)
stored_forgotten [] i E = refl
stored_forgotten (D ∷ Ds) zero E = refl
stored_forgotten (D ∷ Ds) (suc i) E = ap {B = List Desk} (λ r. forget D ∷ r) (stored_forgotten Ds i E)

renumbered_forgotten : (Ds : List Desk) (i n : ℕ) → map forget (set Ds i (renumber (get_or Ds i empty_desk) n)) ≡ map forget Ds
renumbered_forgotten [] i n = refl
renumbered_forgotten (D ∷ Ds) zero n = refl
renumbered_forgotten (D ∷ Ds) (suc i) n = ap {B = List Desk} (λ r. forget D ∷ r) (renumbered_forgotten Ds i n)

fresh_forgotten : (H : Hall) → forget_all (fresh H) ≡ fresh H
fresh_forgotten H = λ i. record { held = (fresh H).held; shown = (fresh H).shown; desks = empty_desks H.desks i }
  where
    empty_desks : (n : ℕ) → map forget (replicate n empty_desk) ≡ replicate n empty_desk
    empty_desks zero = refl
    empty_desks (suc n) = ap {B = List Desk} (λ r. empty_desk ∷ r) (empty_desks n)

module _ (limits : Limits) (H : Hall) where
  module _ (st : State) (d : ℕ) where
    same_desk_lem : desk_of (forget_all st) d ≡ forget (desk_of st d)
    same_desk_lem = desk_forgotten st.desks (d - 1)

    -- what a step asks, replies and does
    asks_alike : (s : Step) → first_no (step_questions limits H (forget_all st) d s) ≡ first_no (step_questions limits H st d s)
    asks_alike (Take c p) = refl
    asks_alike (Drop c) = refl
    asks_alike (Swap p v) =
        ap (λ (E : Desk). first_no (step_questions limits H (record { held = st.held; shown = st.shown; desks = E ∷ [] }) 1 (Swap p v))) same_desk_lem
    asks_alike Retire = ap (λ (E : Desk). first_no (retire_questions (all_screens H) E)) same_desk_lem
    asks_alike Collect = refl

    stores_alike : (held : List ℕ) (E F : Desk) → F ≡ forget E
        → forget_all (record { held = held; shown = st.shown; desks = set st.desks (d - 1) E })
        ≡ record { held = held; shown = st.shown; desks = set (map forget st.desks) (d - 1) F }
    stores_alike held E F same =
        λ i. record { held = held; shown = st.shown; desks = (stored_forgotten st.desks (d - 1) E ∙ ap (set (map forget st.desks) (d - 1)) (sym same)) i }

    performs_alike : (s : Step)
        → perform_step H (forget_all st) d s ≡ record { session = (perform_step H st d s).session; after = forget_all (perform_step H st d s).after }
    performs_alike (Take c p) = refl
    performs_alike (Drop c) = refl
    performs_alike (Swap p v) = λ i. record { session = get_or st.held (p - 1) 0; after = by_repeat (is_repeat (get_or st.held (p - 1) 0) v) i }
      where
        by_repeat : (b : Bool) → cond b (forget_all st) (change_position (forget_all st) d p v) ≡ forget_all (cond b st (change_position st d p v))
        by_repeat true = refl
        by_repeat false =
            sym
            (stores_alike (set st.held (p - 1) v) (owe (desk_of st d) (get_or st.held (p - 1) 0)) _ (ap (λ (E : Desk). owe E (get_or st.held (p - 1) 0)) same_desk_lem))
    performs_alike Retire = λ i. record { session = (same_desk_lem i).owed; after = sym (stores_alike st.held (retire (desk_of st d)) _ (ap retire same_desk_lem)) i }
    performs_alike Collect =
        let S : ℕ = all_screens H in
        let same : collect S st.shown (desk_of (forget_all st) d) ≡ record { session = (collect S st.shown (desk_of st d)).session; after = forget (collect S st.shown (desk_of st d)).after } =
        ap (collect S st.shown) same_desk_lem ∙ collect_renumbered S st.shown (desk_of st d) 0 in
        λ i. record {
          session = (same i).session;
          after = sym (stores_alike st.held (collect S st.shown (desk_of st d)).after _ (ap (λ (c : Collected). c.after) same)) i;
        }

  -- a call with the right number, or of a desk that the hall does not have
  step_alike : (st : State) (c : Call) → (in_range c.desk H.desks ≡ true → c.message ≡ (desk_of st c.desk).next)
      → step_unnumbered limits H (forget_all st) c ≡ record { answer = (step limits H st c).answer; after = forget_all (step limits H st c).after }
  step_alike st c right =
      (λ i. let outcome = performs_alike st c.desk c.step i in decide (asked_alike i) (forget_all st) outcome.session outcome.after)
      ∙ by_number_lem (first_no (questions limits H st c))
    where
      asked_alike : first_no (ask (in_range c.desk H.desks) 6 ∷ step_questions limits H (forget_all st) c.desk c.step) ≡ first_no (questions limits H st c)
      asked_alike = by_desk_lem (in_range c.desk H.desks) right
        where
          by_desk_lem : (b : Bool) → (b ≡ true → c.message ≡ (desk_of st c.desk).next)
              → cond b (first_no (step_questions limits H (forget_all st) c.desk c.step)) 6
              ≡ cond b (cond (eqb c.message (desk_of st c.desk).next) (first_no (step_questions limits H st c.desk c.step)) 23) 6
          by_desk_lem true right =
              asks_alike st c.desk c.step
              ∙ ap (λ (same : Bool). cond same (first_no (step_questions limits H st c.desk c.step)) 23) (sym (eq-eqb c.message _ (right refl)))
          by_desk_lem false right = refl

      by_number_lem : (n : ℕ)
          → let outcome = perform_step H st c.desk c.step in
          let result = decide n st (perform H st c).session (perform H st c).after in
          decide n (forget_all st) outcome.session (forget_all outcome.after) ≡ record { answer = result.answer; after = forget_all result.after }
      by_number_lem zero =
          λ i. record {
            answer = record { number = 0; session = (perform_step H st c.desk c.step).session };
            after = record {
              held = (perform_step H st c.desk c.step).after.held;
              shown = (perform_step H st c.desk c.step).after.shown;
              desks = sym (renumbered_forgotten (perform_step H st c.desk c.step).after.desks (c.desk - 1) (advance (desk_of st c.desk).next)) i;
            };
          }
      by_number_lem (suc n) = refl

-- ---- A list of calls, of which each has the number that is next.
module _ (limits : Limits) (H : Hall) where
  abbrev NumberedNext : State → List Call → Type 0
  NumberedNext st cs =
      let history = run (step limits H) st cs in
      (i : ℕ) → i < length history → in_range (call_at history i).desk H.desks ≡ true
      → (call_at history i).message ≡ (desk_of (end (step limits H) st (take i cs)) (call_at history i).desk).next

  answers_alike : (cs : List Call) (st : State) → NumberedNext st cs
      → answers_of (run (step limits H) st cs) ≡ answers_of (run (step_unnumbered limits H) (forget_all st) cs)
  answers_alike [] st right = refl
  answers_alike (c ∷ cs) st right =
      ap {B = List Answer} (λ answers. (step limits H st c).answer ∷ answers)
      (answers_alike cs (step limits H st c).after (λ i inside there. right (suc i) (omega arith) there))
      ∙ sym
      (ap (λ (r : Result State). r.answer ∷ answers_of (run (step_unnumbered limits H) r.after cs)) (step_alike limits H st c (λ there. right 0 (omega arith) there)))

  -- from a fresh hall on
  module _ (cs : List Call) (right : RightNumbers H (run (step limits H) (fresh H) cs)) where
    numbered_next : NumberedNext (fresh H) cs
    numbered_next i inside there =
        let history : List Event = run (step limits H) (fresh H) cs in
        let r = in_range_lem (call_at history i).desk H.desks there in
        right i inside r.0 r.1 ∙ sym (next_at limits H cs (call_at history i).desk i r)

    answers_as_before : answers_of (run (step limits H) (fresh H) cs) ≡ answers_of (run (step_unnumbered limits H) (fresh H) cs)
    answers_as_before =
        answers_alike cs (fresh H) numbered_next ∙ ap (λ (st : State). answers_of (run (step_unnumbered limits H) st cs)) (fresh_forgotten H)

    never_answered_23 : (i : ℕ) → number_at (run (step limits H) (fresh H) cs) i ≡ 23 → ⊥
    never_answered_23 i e = by_length (dec_lt i (length history))
      where
        history : List Event
        history = run (step limits H) (fresh H) cs

        by_desk_lem : i < length history → (b : Bool) → in_range (call_at history i).desk H.desks ≡ b → ⊥
        by_desk_lem inside true there =
            right_number limits H (end (step limits H) (fresh H) (take i cs)) (call_at history i) there (numbered_next i inside there)
            (sym (answered_at limits H cs i inside) ∙ e)
        by_desk_lem inside false out =
            omega (
              arith,
              e,
              answered_at limits H cs i inside,
              outside_is_6 limits H (end (step limits H) (fresh H) (take i cs)) (call_at history i) out,
            )

        by_length : Dec (i < length history) → ⊥
        by_length (yes inside) = by_desk_lem inside (in_range (call_at history i).desk H.desks) refl
        by_length (no past) = omega (arith, e, number_past history i (omega arith))

-- ---- On words.
pub as_before_opened : (limits : Limits) (H : Hall) → in_limits limits H ≡ true → (t : List ℕ) (cs : List Call)
    → AnsweredAsBefore limits H cs (run (step_table limits) (opened_table H t) cs)
as_before_opened limits H inside t cs =
    subst (AnsweredAsBefore limits H cs) (sym (run_is limits H inside t cs))
    (record { answers = answers_as_before limits H cs; never_23 = never_answered_23 limits H cs })

-- the numbers that are read from the table are right
module _ (limits : Limits) where
  sent_message : (cs : List Call) (t : List ℕ) (i : ℕ) → i < length (sent_history limits t cs)
      → (call_at (sent_history limits t cs) i).message ≡ next_in (sent_tables limits t cs i) (call_at (sent_history limits t cs) i).desk
  sent_message [] t i inside = absurd (omega arith)
  sent_message (c ∷ cs) t zero inside = refl
  sent_message (c ∷ cs) t (suc i) inside = sent_message cs (send limits t c).after i (omega arith)

  pub sent-tables : (cs : List Call) (t : List ℕ) (i : ℕ) → end (step_table limits) t (take i (sent_to limits t cs)) ≡ sent_tables limits t cs i
  sent-tables cs t zero = refl
  sent-tables [] t (suc i) = refl
  sent-tables (c ∷ cs) t (suc i) = sent-tables cs (send limits t c).after i

pub sent_right : (limits : Limits) (H : Hall) → in_limits limits H ≡ true → (t : List ℕ) (cs : List Call) → RightNumbers H (sent_history limits (opened_table H t) cs)
sent_right limits H inside t cs i below l h =
    let start : List ℕ = opened_table H t in
    let sent : List Call = sent_to limits start cs in
    let d : ℕ = (call_at (sent_history limits start cs) i).desk in
    sent_message limits cs start i below
    ∙ ap (λ (words : List ℕ). next_in words d) (sym (sent-tables limits cs start i) ∙ end_is limits H inside t sent i)
    ∙ read_number_lem (encode H (end (step limits H) (fresh H) (take i sent)) ++ drop (need H) t) d (and_left (in_hall H) (within limits H) inside)
    (range_holds d H.desks (l, h))
    ∙ number_word_is H (limits_fit limits H inside) (end (step limits H) (fresh H) (take i sent)) (valid limits H inside t sent i) (drop (need H) t) d (l, h)
    ∙ next_at limits H sent d i (l, h)
    ∙ ap (λ (history : List Event). accepted_of d (take i history) % 65536) (sym (run_is limits H inside t sent))
  where
    -- of a desk of the hall in the header
    read_number_lem : (words : List ℕ) (d : ℕ) → in_hall (hall_in words) ≡ true → in_range d (hall_in words).desks ≡ true
        → next_in words d ≡ get_or words (next_word (hall_in words) d) 0
    read_number_lem words d inside there = λ i. cond (inside i && there i) (get_or words (next_word (hall_in words) d) 0) 0

-- without numbers it makes no difference which ones a call carries
pub sent_unnumbered : (limits : Limits) (H : Hall) (cs : List Call) (t : List ℕ) (st : State)
    → answers_of (run (step_unnumbered limits H) st (sent_to limits t cs)) ≡ answers_of (run (step_unnumbered limits H) st cs)
sent_unnumbered limits H [] t st = refl
sent_unnumbered limits H (c ∷ cs) t st =
    ap {B = List Answer} (λ answers. (step_unnumbered limits H st c).answer ∷ answers) (sent_unnumbered limits H cs (send limits t c).after (step_unnumbered limits H st c).after)
