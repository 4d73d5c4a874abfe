-- What message numbers promise of a history; calls that carry the right numbers; and the steps as they were without numbers. There is no proof
-- here. Document 02, "Message numbers": "Desk links deliver a message twice now and then, and a repeated collect loses a session for good."
use Rattle.std.specs.Prelude.{ℕ, zero, suc, ◌%◌, ◌≤◌, ◌<◌, ◌≡◌, Bool, cond, ◌&&◌, List, [], ◌∷◌, map, length, get_or, take, drop, eqb}
use Rattle.rules.specs.Hall.{Hall, Limits, State, desk_of, fresh}
use Rattle.rules.specs.History.{◌by◌, effect_at, hands_back, number_at}
use Rattle.rules.specs.Lists.{count}
use Rattle.rules.specs.Steps.{Answer, Call, Collect, Event, Result, ◌numbered◌, ◌sends◌, ask, decide, end, first_no, in_range, perform_step, run, step_questions}
use Rattle.rules.specs.Table.{hall_in, in_hall, next_word, step_table}

-- ---- Messages that are delivered again.

-- Is an event an accepted call of desk d? And how many such events has a history?
abbrev pub is_accepted_from : ℕ → Event → Bool
is_accepted_from d event = eqb event.call.desk d && eqb event.answer.number 0

abbrev pub accepted_of : ℕ → List Event → ℕ
accepted_of d history = count (is_accepted_from d) history

-- The call at an index of a history, from 0; past the end, one of a desk that no hall has.
abbrev pub call_at : List Event → ℕ → Call
call_at [] index = 0 sends Collect
call_at (event ∷ history) zero = event.call
call_at (event ∷ history) (suc index) = call_at history index

-- The message accepted at index i is delivered again at index j: the same desk sends the same number.
pub record Redelivered (history : List Event) (i j : ℕ) : Type 0 where
  pub later : i < j
  pub within : j < length history
  pub accepted : number_at history i ≡ 0
  pub desk : (call_at history j).desk ≡ (call_at history i).desk
  pub message : (call_at history j).message ≡ (call_at history i).message

-- The calls of that desk that were accepted in between.
abbrev pub accepted_between : List Event → ℕ → ℕ → ℕ
accepted_between history i j = accepted_of (call_at history i).desk (drop (suc i) (take j history))

-- About a history and about the words of the table after its first i calls, as demands 2 and 3 are.
pub record MessageNumbers (hall : Hall) (history : List Event) (tables : ℕ → List ℕ) : Type 0 where
  -- "its next message number, 0 at opening"; "only an accepted call moves it on, running on from 65,535 to 0 without a fuss":
  -- it is the number of the desk's accepted calls so far, modulo 65,536.
  pub word : (d i : ℕ) → 1 ≤ d → d ≤ hall.desks → get_or (tables i) (next_word hall d) 0 ≡ accepted_of d (take i history) % 65536
  -- A message that was accepted and is delivered again is refused with 23 and changes no word, as long as fewer than 65,535 further calls of
  -- its desk were accepted in between;
  pub again : (i j : ℕ) → Redelivered history i j → accepted_between history i j < 65535 → (number_at history j ≡ 23) × (tables (suc j) ≡ tables j)
  -- with exactly 65,535 the number has come round and counts as new.
  pub round : (i j : ℕ) → Redelivered history i j → accepted_between history i j ≡ 65535 → number_at history j ≡ 23 → ⊥
  -- So two deliveries of one collect hand back once.
  pub once : (i j d s : ℕ) → Redelivered history i j → accepted_between history i j < 65535 → effect_at history j ≡ hands_back s by d → ⊥

-- ---- Calls that carry the right numbers.

-- Every call of a desk of the hall carries the number of that desk's accepted calls before it, modulo 65,536. (For a desk outside the hall any
-- number will do: 6 comes first.)
abbrev pub RightNumbers : Hall → List Event → Type 0
RightNumbers hall history =
    (i : ℕ) → i < length history → 1 ≤ (call_at history i).desk → (call_at history i).desk ≤ hall.desks
    → (call_at history i).message ≡ accepted_of (call_at history i).desk (take i history) % 65536

-- The steps as they were without message numbers: nothing asked 23, and no number moved on.
abbrev pub step_unnumbered : Limits → Hall → State → Call → Result State
step_unnumbered limits hall state call =
    let asked = ask (in_range call.desk hall.desks) 6 ∷ step_questions limits hall state call.desk call.step in
    let outcome = perform_step hall state call.desk call.step in
    decide (first_no asked) state outcome.session outcome.after

abbrev pub answers_of : List Event → List Answer
answers_of history = map (λ event. event.answer) history

-- A history of these calls from an accepted opening on is answered as it was without numbers, and never with 23, if it carries the right ones.
pub record AnsweredAsBefore (limits : Limits) (hall : Hall) (calls : List Call) (history : List Event) : Type 0 where
  pub answers : RightNumbers hall history → answers_of history ≡ answers_of (run (step_unnumbered limits hall) (fresh hall) calls)
  pub never_23 : RightNumbers hall history → (i : ℕ) → number_at history i ≡ 23 → ⊥

-- ---- "The sheet program fills in the right number itself."

-- Calls, each with its desk's next message number, given how that number is read and how a call is done.
abbrev pub rightly_numbered : {T : Type 0} → (T → ℕ → ℕ) → (T → Call → Result T) → T → List Call → List Call
rightly_numbered next does before [] = []
rightly_numbered next does before (call ∷ calls) =
    let sent = call numbered next before call.desk in sent ∷ rightly_numbered next does (does before sent).after calls

-- Desk d's next message number in a state, and in a table. In a table it is 0 for a desk outside the hall.
abbrev pub next_of : State → ℕ → ℕ
next_of state d = (desk_of state d).next

abbrev pub next_in : List ℕ → ℕ → ℕ
next_in table d = let hall = hall_in table in cond (in_hall hall && in_range d hall.desks) (get_or table (next_word hall d) 0) 0

-- A call, sent to a table with the right number; a list of calls, each with the number that is right when it is sent; their history; and the
-- table after the first i of them.
abbrev pub send : Limits → List ℕ → Call → Result (List ℕ)
send limits table call = step_table limits table (call numbered next_in table call.desk)

abbrev pub sent_to : Limits → List ℕ → List Call → List Call
sent_to limits = rightly_numbered next_in (step_table limits)

abbrev pub sent_history : Limits → List ℕ → List Call → List Event
sent_history limits table calls = run (step_table limits) table (sent_to limits table calls)

abbrev pub sent_tables : Limits → List ℕ → List Call → ℕ → List ℕ
sent_tables limits table calls i = end (send limits) table (take i calls)
