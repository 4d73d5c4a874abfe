-- Laws of the tally: started at zeros it equals the counts in the list of replies.
use Rattle.std.specs.Prelude.{ℕ, zero, suc, ◌+◌, ◌≤◌, min, ◌≡◌, refl, Bool, true, false, cond, not, ◌&&◌, List, [], ◌∷◌, ltb, eqb}
use Rattle.std.proofs.Common.{arith, ap, ◌∙◌, ltb-true, ltb-false, ne_eqb}
use Rattle.std.proofs.lemmas.Bool.{not-true}
use Rattle.rules.specs.History.{action_of, collects, effect_of, hands_back, is_hand_back, no_action, out_of_room, swaps}
use Rattle.rules.specs.Lists.{count, to_nat}
use Rattle.rules.specs.Steps.{Answer, Collect, Drop, Event, Retire, Step, Swap, Take, is_none, is_repeat}
use Rattle.sheet_rules.specs.Run.{code_of}
use Rattle.sheet_rules.specs.Sheet.{is_code}
use Rattle.sheet_rules.specs.Tally.{Tally, add_step, add_steps, counts_in, is_accepted, is_handed_back, is_refused, largest_count, one_more, one_more_if, tally_of}
use Rattle.sheet_rules.specs.Tally.{zeros}

-- ---- One step.

-- "A refused step changes only the count of refused steps."
pub refused_step : (total : Tally) (code : ℕ) (answer : Answer) → is_code code ≡ true → is_refused answer ≡ true
    → add_step total code answer ≡ tally_of total.accepted (one_more total.refused) total.handed_back
unfolding add_step
refused_step total code answer good e =
    simp (good, not-true (is_accepted answer) e)
    (ap (λ (back : Bool). tally_of total.accepted (one_more total.refused) (one_more_if back total.handed_back)) (and-false (eqb code 5)))
  where
    and-false : (test : Bool) → test && false ≡ false
    and-false true = refl
    and-false false = refl

-- A code that is no step's counts nothing.
pub other_code : (total : Tally) (code : ℕ) (answer : Answer) → is_code code ≡ false → add_step total code answer ≡ total
unfolding add_step
other_code total code answer other = simp other

-- A step of the board, counted by its code: its hand-backs are those of the history.
step_code : (step : Step) → is_code (code_of step) ≡ true
step_code (Take c p) = refl
step_code (Drop c) = refl
step_code (Swap p session) = refl
step_code Retire = refl
step_code Collect = refl

hand_back_by_code : (step : Step) (number session : ℕ)
    → is_handed_back (code_of step) (record { number = number; session = session }) ≡ is_hand_back (action_of step number session)
hand_back_by_code (Take c p) zero session = refl
hand_back_by_code (Take c p) (suc n) session = refl
hand_back_by_code (Drop c) zero session = refl
hand_back_by_code (Drop c) (suc n) session = refl
hand_back_by_code (Swap p new) zero session = by_repeat (is_repeat session new)
  where
    by_repeat : (repeat : Bool) → false ≡ is_hand_back (cond repeat no_action (swaps p))
    by_repeat true = refl
    by_repeat false = refl
hand_back_by_code (Swap p new) (suc n) session = refl
hand_back_by_code Retire zero session = refl
hand_back_by_code Retire (suc n) session = by_room (eqb (suc n) 14)
  where
    by_room : (full : Bool) → false ≡ is_hand_back (cond full out_of_room no_action)
    by_room true = refl
    by_room false = refl
hand_back_by_code Collect zero session = by_session (is_none session)
  where
    by_session : (none : Bool) → not none ≡ is_hand_back (cond none collects (hands_back session))
    by_session true = refl
    by_session false = refl
hand_back_by_code Collect (suc n) session = simp (ne_eqb (suc n) 0 (λ same. omega arith))

-- the tests of an event, as `counts_in` counts them
abbrev was_accepted : Event → Bool
was_accepted event = is_accepted event.answer

abbrev was_refused : Event → Bool
was_refused event = is_refused event.answer

abbrev was_handed_back : Event → Bool
was_handed_back event = is_hand_back (effect_of event).action

abbrev added : Tally → Event → Tally
added total event =
    tally_of
    (one_more_if (was_accepted event) total.accepted)
    (one_more_if (was_refused event) total.refused)
    (one_more_if (was_handed_back event) total.handed_back)

step_added : (total : Tally) (event : Event) → add_step total (code_of event.call.step) event.answer ≡ added total event
unfolding add_step
step_added total event =
    simp (step_code event.call.step, hand_back_by_code event.call.step event.answer.number event.answer.session)

-- ---- A list of steps.

-- One more, up to the largest, and then the rest.
more_up_to : (test : Bool) (count rest : ℕ)
    → min (one_more_if test count + rest) largest_count ≡ min (count + (to_nat test + rest)) largest_count
more_up_to false count rest = omega arith
more_up_to true count rest = by_room (ltb count largest_count) refl
  where
    by_room : (room : Bool) → ltb count largest_count ≡ room
        → min (cond room (count + 1) count + rest) largest_count ≡ min (count + (1 + rest)) largest_count
    by_room true e = omega arith
    by_room false e = omega (arith, ltb-false count largest_count e)

stays_up_to : (test : Bool) (count : ℕ) → count ≤ largest_count → one_more_if test count ≤ largest_count
stays_up_to false count h = h
stays_up_to true count h = by_room (ltb count largest_count) refl
  where
    by_room : (room : Bool) → ltb count largest_count ≡ room → cond room (count + 1) count ≤ largest_count
    by_room true e = omega (arith, ltb-true count largest_count e)
    by_room false e = h

-- A total that 32 bits hold, and the same total with the counts of a list of replies added, each up to the largest.
record Fits (total : Tally) : Type 0 where
  accepted : total.accepted ≤ largest_count
  refused : total.refused ≤ largest_count
  handed_back : total.handed_back ≤ largest_count

abbrev with_counts : Tally → List Event → Tally
with_counts total events =
    tally_of
    (min (total.accepted + count was_accepted events) largest_count)
    (min (total.refused + count was_refused events) largest_count)
    (min (total.handed_back + count was_handed_back events) largest_count)

same_tally : (first second : Tally) → first.accepted ≡ second.accepted → first.refused ≡ second.refused
    → first.handed_back ≡ second.handed_back → first ≡ second
same_tally first second a r h = λ i. tally_of (a i) (r i) (h i)

-- From any total that 32 bits hold.
tally_from : (total : Tally) (events : List Event) → Fits total → add_steps total events ≡ with_counts total events
tally_from total [] fits =
    same_tally total (with_counts total []) (omega (arith, fits.accepted)) (omega (arith, fits.refused)) (omega (arith, fits.handed_back))
tally_from total (event ∷ events) fits =
    ap (λ (next : Tally). add_steps next events) (step_added total event)
    ∙ tally_from (added total event) events
    (record {
      accepted = stays_up_to (was_accepted event) total.accepted fits.accepted;
      refused = stays_up_to (was_refused event) total.refused fits.refused;
      handed_back = stays_up_to (was_handed_back event) total.handed_back fits.handed_back;
    })
    ∙ same_tally (with_counts (added total event) events) (with_counts total (event ∷ events))
    (more_up_to (was_accepted event) total.accepted (count was_accepted events))
    (more_up_to (was_refused event) total.refused (count was_refused events))
    (more_up_to (was_handed_back event) total.handed_back (count was_handed_back events))

-- "Started at zeros, the tally equals the counts in the list of replies, each up to that largest"
pub tally_from_zeros : (events : List Event) → add_steps zeros events ≡ counts_in events
tally_from_zeros events =
    tally_from zeros events (record { accepted = omega arith; refused = omega arith; handed_back = omega arith })
    ∙ same_tally (with_counts zeros events) (counts_in events) (omega arith) (omega arith) (omega arith)
