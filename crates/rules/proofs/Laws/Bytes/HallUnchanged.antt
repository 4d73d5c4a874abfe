-- The hall's calls with question 22 and without it: with 16-bit numbers its answer is always yes in the hall.
use Rattle.std.specs.Prelude.{ℕ, zero, suc, ◌≤◌, ◌≡◌, refl, Bool, true, false, cond, ◌&&◌, List, [], ◌∷◌, length, leb, eqb}
use Rattle.std.proofs.Common.{arith, sym, ap, ◌∙◌, le-leb}
use Rattle.std.proofs.lemmas.Bool.{eqb-false}
use Rattle.rules.specs.Bytes.{Call16, Step16, on_bytes, open_bytes, step_bytes, words_of_bytes}
use Rattle.rules.specs.Hall.{Hall, State, all_screens, desk_of, hall_limits, max_desks, max_positions, max_screens}
use Rattle.rules.specs.Lists.{every}
use Rattle.rules.specs.Rooms.{HallUnchanged, open_before, sound_before, step_before, without}
use Rattle.rules.specs.Steps.{Call, Collect, Drop, Question, Result, Retire, Step, Swap, Take, ◌numbered◌, ◌sends◌, decide, first_no, in_range, is_none, perform}
use Rattle.rules.specs.Steps.{questions, refuse}
use Rattle.rules.specs.Table.{decode, hall_in, in_hall, in_limits, need, open_questions, open_table, opened_table, record_sound, records_in, sound, step_if, step_table, table_after, within}
use Rattle.rules.proofs.Laws.Lists.Bools.{and_left, and_right, and-true}
use Rattle.rules.proofs.Laws.History.StepEffects.{in_range_lem}

-- ---- What is not asked is not answered.
not-asked : (number : ℕ) (asked : List Question) → 1 ≤ number → first_no (without number asked) ≡ number → ⊥
not-asked number [] some e = omega (arith, some, e)
not-asked number (question ∷ others) some e = by_number_lem (eqb question.number number) refl (not-asked number others some) e
  where
    by_answer : (yes : Bool) → (question.number ≡ number → ⊥) → (first_no (without number others) ≡ number → ⊥)
        → cond yes (first_no (without number others)) question.number ≡ number
        → ⊥
    by_answer true other later e = later e
    by_answer false other later e = other e

    by_number_lem : (same : Bool) → eqb question.number number ≡ same → (first_no (without number others) ≡ number → ⊥)
        → first_no (cond same (without number others) (question ∷ without number others)) ≡ number
        → ⊥
    by_number_lem true same later e = later e
    by_number_lem false other later e = by_answer question.yes? (eqb-false question.number number other) later e

-- ---- The numbers of a hall are within the hall's limits if they are in range.
in_hall-within : (hall : Hall) → in_hall hall ≡ true → within hall_limits hall ≡ true
in_hall-within hall inside =
    let desks = in_range hall.desks max_desks in
    let screens = in_range hall.screens max_screens in
    let positions = in_range hall.positions max_positions in
    let later = and_right desks (screens && positions) inside in
    and-true _ _ (le-leb hall.desks max_desks (in_range_lem hall.desks max_desks (and_left desks (screens && positions) inside)).1)
    (and-true _ _ (le-leb hall.screens max_screens (in_range_lem hall.screens max_screens (and_left screens positions later)).1)
    (le-leb hall.positions max_positions (in_range_lem hall.positions max_positions (and_right screens positions later)).1))

limits_before : (hall : Hall) → in_limits hall_limits hall ≡ in_hall hall
limits_before hall = by_range (in_hall hall) (in_hall-within hall)
  where
    by_range : (inside : Bool) → (inside ≡ true → within hall_limits hall ≡ true) → inside && within hall_limits hall ≡ inside
    by_range true holds = holds refl
    by_range false holds = refl

sound_before_lem : (table : List ℕ) → sound hall_limits table ≡ sound_before table
unfolding sound
sound_before_lem table =
    ap (λ (inside : Bool). inside && (leb (need (hall_in table)) (length table) && every (record_sound (all_screens (hall_in table))) (records_in (hall_in table) table)))
    (limits_before (hall_in table))

-- ---- The questions.
asked_before : (hall : Hall) (state : State) (m d : ℕ) (step : Step) → Step16 step
    → first_no (questions hall_limits hall state (d sends step numbered m)) ≡ first_no (without 22 (questions hall_limits hall state (d sends step numbered m)))
asked_before hall state m d (Take c p) wide = refl
asked_before hall state m d (Drop c) wide = refl
asked_before hall state m d (Swap p session) wide =
    ap (λ (small : Bool). cond (in_range d hall.desks) (cond (eqb m (desk_of state d).next) (cond (in_range p hall.positions) (cond small (cond (is_none (desk_of state d).owed) 0 12) 22) 8) 23) 6)
    (le-leb session 65535 (omega (arith, wide.1)))
asked_before hall state m d Retire wide = refl
asked_before hall state m d Collect wide = refl

opening_before : (hall : Hall) (table : List ℕ) → first_no (open_questions hall_limits hall table) ≡ first_no (without 22 (open_questions hall_limits hall table))
opening_before hall table =
    by_answers (in_range hall.desks max_desks) (in_range hall.screens max_screens) (in_range hall.positions max_positions) (in_hall-within hall)
  where
    by_answers : (desks screens positions : Bool) → (desks && (screens && positions) ≡ true → within hall_limits hall ≡ true)
        → cond {A = ℕ} desks (cond screens (cond positions (cond (within hall_limits hall) (cond (leb (need hall) (length table)) 0 4) 22) 3) 2) 1
        ≡ cond desks (cond screens (cond positions (cond (leb (need hall) (length table)) 0 4) 3) 2) 1
    by_answers true true true inside = ap (λ (yes : Bool). cond yes (cond {A = ℕ} (leb (need hall) (length table)) 0 4) 22) (inside refl)
    by_answers true true false inside = refl
    by_answers true false positions inside = refl
    by_answers false screens positions inside = refl

-- ---- The calls.
steps_before : (table : List ℕ) (call : Call) → Call16 call → step_table hall_limits table call ≡ step_before table call
unfolding step_table
steps_before table call wide = ap (λ (is : Bool). step_if hall_limits is table call) (sound_before_lem table) ∙ by_sound (sound_before table)
  where
    by_sound : (is : Bool)
        → step_if hall_limits is table call
        ≡ cond is
        (decide (first_no (without 22 (questions hall_limits (hall_in table) (decode (hall_in table) table) call))) table (perform (hall_in table) (decode (hall_in table) table) call).session
        (table_after table call))
        (refuse 5 table)
    by_sound true =
        ap (λ (n : ℕ). decide n table (perform (hall_in table) (decode (hall_in table) table) call).session (table_after table call))
        (asked_before (hall_in table) (decode (hall_in table) table) call.message call.desk call.step wide.2)
    by_sound false = refl

openings_before : (hall : Hall) (table : List ℕ) → open_table hall_limits hall table ≡ open_before hall table
unfolding open_table
openings_before hall table = ap (λ (n : ℕ). decide n table 0 (opened_table hall table)) (opening_before hall table)

-- ---- None is answered 22.
decided_22 : (n session : ℕ) (before after : List ℕ) → (n ≡ 22 → ⊥) → (decide n before session after).answer.number ≡ 22 → ⊥
decided_22 zero session before after other e = omega (arith, e)
decided_22 (suc n) session before after other e = other e

step_before_never_22 : (table : List ℕ) (call : Call) → (step_before table call).answer.number ≡ 22 → ⊥
step_before_never_22 table call = by_sound (sound_before table)
  where
    asked : List Question
    asked = without 22 (questions hall_limits (hall_in table) (decode (hall_in table) table) call)

    by_sound : (is : Bool)
        → (cond is (decide (first_no asked) table (perform (hall_in table) (decode (hall_in table) table) call).session (table_after table call)) (refuse 5 table)).answer.number ≡ 22
        → ⊥
    by_sound true e =
        decided_22 (first_no asked) (perform (hall_in table) (decode (hall_in table) table) call).session table (table_after table call)
        (not-asked 22 (questions hall_limits (hall_in table) (decode (hall_in table) table) call) (omega arith)) e
    by_sound false e = omega (arith, e)

pub unchanged : HallUnchanged
unfolding step_bytes open_bytes
unchanged = record {
  steps = steps_before;
  openings = openings_before;
  steps-on_bytes = λ bytes call wide. ap (λ (result : Result (List ℕ)). on_bytes result bytes) (steps_before (words_of_bytes bytes) call wide);
  openings-on_bytes = λ hall bytes. ap (λ (result : Result (List ℕ)). on_bytes result bytes) (openings_before hall (words_of_bytes bytes));
  never_22 =
      λ bytes call wide e. (
      let table : List ℕ = words_of_bytes bytes in
      step_before_never_22 table call (sym (ap (λ (result : Result (List ℕ)). result.answer.number) (steps_before table call wide)) ∙ e)
      );
  opening_never_22 =
      λ hall bytes e. (
      let table : List ℕ = words_of_bytes bytes in
      decided_22 (first_no (without 22 (open_questions hall_limits hall table))) 0 table (opened_table hall table)
      (not-asked 22 (open_questions hall_limits hall table) (omega arith))
      (sym (ap (λ (result : Result (List ℕ)). result.answer.number) (openings_before hall table)) ∙ e)
      );
}
