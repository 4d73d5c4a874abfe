-- A call on a table sent as bytes, compared with the rules on its words.
use Rattle.std.specs.Prelude.{◌≡◌, ℕ, ◌*◌, cond, List, length, drop, ◌==◌, slice_set}
use Rattle.std.proofs.Math.Option.{Option}
use Rattle.rules.specs.Bytes.{words_of_bytes}
use Rattle.rules.specs.Hall.{Hall, Limits}
use Rattle.rules.specs.Runs.{answer_request}
use Rattle.rules.specs.Steps.{Call, Collect, Drop, Result, Retire, Step, Swap, Take, advance, decide, first_no, perform_step, step_questions}
use Rattle.rules.specs.Table.{hall_in}
use Rattle.board.specs.Kind.{Kind}
use Rattle.reply.specs.Answer.{Reply, table_result}
use Rattle.board.specs.declared.Step.{Step as Sent}
use Rattle.board.specs.declared.Step.TheVariants.{Take as SentTake, Drop as SentDrop, Swap as SentSwap, Retire as SentRetire, Collect as SentCollect}

-- The reply and the words after the call are this result of the rules, and an odd last byte is unchanged.
pub record Matches (result : Result (List ℕ)) (before : List ℕ) (r : Reply) (after : List ℕ) : Type 0 where
  pub words : table_result r (words_of_bytes after) ≡ result
  pub last : drop (2 * length (words_of_bytes before)) after ≡ drop (2 * length (words_of_bytes before)) before

-- A step did what the rules do in a room with these limits, and so did an opening.
abbrev pub Stepped : Kind → Limits → Call → List ℕ → Reply → List ℕ → Type 0
Stepped kind limits call before = Matches (kind.step limits (words_of_bytes before) call) before

-- A request was answered as in the rules: its step was, or 17 for another code.
abbrev pub Requested : Kind → Limits → Option Call → List ℕ → Reply → List ℕ → Type 0
Requested kind limits asked before = Matches (answer_request (kind.step limits) (words_of_bytes before) asked) before

abbrev pub Opened : Kind → Limits → Hall → List ℕ → Reply → List ℕ → Type 0
Opened kind limits hall before = Matches (kind.opens limits hall (words_of_bytes before)) before

-- A step of an admitted desk, all but the message number: its own questions, and if none is answered no, what it does.
unfoldable pub admitted_step : Kind → Limits → List ℕ → ℕ → Step → Result (List ℕ)
admitted_step kind limits table d step =
    let hall = hall_in table in
    let state = kind.state table in
    decide (first_no (step_questions limits hall state d step)) table (perform_step hall state d step).session (kind.after table d step)

abbrev pub Performed : Kind → Limits → ℕ → Step → List ℕ → Reply → List ℕ → Type 0
Performed kind limits d step before = Matches (admitted_step kind limits (words_of_bytes before) d step) before

-- The same result, but after an acceptance the word at this offset holds the message number after this one.
abbrev pub moved_on : ℕ → ℕ → Result (List ℕ) → Result (List ℕ)
moved_on next message result = record {
  answer = result.answer;
  after = cond (result.answer.number == 0) (slice_set result.after next (advance message)) result.after;
}

-- A step of the code, as one of the rules.
abbrev pub step_of : Sent → Step
step_of (SentTake c p) = Take c p
step_of (SentDrop c) = Drop c
step_of (SentSwap p session) = Swap p session
step_of SentRetire = Retire
step_of SentCollect = Collect
