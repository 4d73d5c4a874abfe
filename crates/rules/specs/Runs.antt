-- A run: steps of mixed kinds in one call. Document 02, Job 8, "A shift in one call", and what document 01 holds ready for it; and histories in
-- which runs and single calls are mixed. There is no proof here.
use Rattle.std.specs.Prelude.{ℕ, ◌*◌, ◌/◌, ◌≡◌, Bool, false, cond, ◌&&◌, ◌||◌, List, [], ◌∷◌, ◌++◌, map, length, get_or, take, drop, leb, ltb, eqb}
use Rattle.std.proofs.Math.Option.{Option, none, some}
use Rattle.rules.specs.Bytes.{Call16, IsBytes, open_bytes, overwrite_words, step_bytes, words_of_bytes}
use Rattle.rules.specs.Closing.{ClosingRule, HandBackCloses}
use Rattle.rules.specs.Demands.{Demand1, Demand2, Demand3, footprint, on_bytes_of, refusals}
use Rattle.rules.specs.Hall.{Hall, Limits}
use Rattle.rules.specs.Lists.{chunks}
use Rattle.rules.specs.Messages.{MessageNumbers}
use Rattle.rules.specs.Steps.{Answer, Call, Collect, Drop, Event, Question, Result, Retire, Swap, Take, ◌numbered◌, ◌sends◌, ask, decide, end, first_no}
use Rattle.rules.specs.Steps.{refuse, run}
use Rattle.rules.specs.Table.{sound}

-- ---- A step in words.

-- The call that a code and five numbers request; those "its code lacks are ignored". Any other code requests none.
-- "step code (take 1, drop 2, swap 3, retire 4, collect 5)" (document 01, "The day sheet").
abbrev pub request_for : ℕ → ℕ → ℕ → ℕ → ℕ → ℕ → Option Call
request_for code message desk screen position session =
    cond (eqb code 1) (some (desk sends Take screen position numbered message))
    (cond (eqb code 2) (some (desk sends Drop screen numbered message))
    (cond (eqb code 3) (some (desk sends Swap position session numbered message))
    (cond (eqb code 4) (some (desk sends Retire numbered message))
    (cond (eqb code 5) (some (desk sends Collect numbered message)) none))))

-- "a step is six words: code, message number, desk, screen, position, session"
abbrev pub step_width : ℕ
step_width = 6

abbrev pub request_in : List ℕ → Option Call
request_in words = request_for (get_or words 0 0) (get_or words 1 0) (get_or words 2 0) (get_or words 3 0) (get_or words 4 0) (get_or words 5 0)

-- "fewer than six left over are no step"
abbrev pub requests_in : List ℕ → List (Option Call)
requests_in words = map request_in (chunks (length words / step_width) step_width words)

-- ---- The steps sent singly, given the function that does one call: on states, words or bytes.

-- "a step with a code outside 1 to 5 replies 17, writes nothing"
abbrev pub answer_request : {T : Type 0} → (T → Call → Result T) → T → Option Call → Result T
answer_request does before none = refuse 17 before
answer_request does before (some call) = does before call

-- "and the run goes on": the answers to requests, one after another, and what is there after them.
abbrev pub answers_to : {T : Type 0} → (T → Call → Result T) → T → List (Option Call) → List Answer
answers_to does before [] = []
answers_to does before (request ∷ requests) =
    let result = answer_request does before request in result.answer ∷ answers_to does result.after requests

abbrev pub after_all : {T : Type 0} → (T → Call → Result T) → T → List (Option Call) → T
after_all does before [] = before
after_all does before (request ∷ requests) = after_all does (answer_request does before request).after requests

-- ---- The run, as the host calls it.

-- "A reply is two words, number and session."
abbrev pub reply_width : ℕ
reply_width = 2

abbrev pub reply_words : List Answer → List ℕ
reply_words [] = []
reply_words (answer ∷ answers) = answer.number ∷ answer.session ∷ reply_words answers

-- The two tables that a run may write, as bytes.
pub record Lent : Type 0 where
  pub replies : List ℕ
  pub table : List ℕ

abbrev pub lent_of : List ℕ → List ℕ → Lent
lent_of replies table = record { replies = replies; table = table }

-- "4 when the reply table is under two words a step, then 5, each once for the run with nothing done"
abbrev pub run_questions : Limits → List (Option Call) → Lent → List Question
run_questions limits requests lent =
    ask (leb (reply_width * length requests) (length (words_of_bytes lent.replies))) 4
    ∷ ask (sound limits (words_of_bytes lent.table)) 5
    ∷ []

-- "replies and final words equal the steps sent singly"; "Reply words past the run are not written."
abbrev pub lent_after : Limits → List (Option Call) → Lent → Lent
lent_after limits requests lent =
    record {
      replies = overwrite_words (reply_words (answers_to (step_bytes limits) lent.table requests)) lent.replies;
      table = after_all (step_bytes limits) lent.table requests;
    }

-- "An accepted run answers 0, session 0."
unfoldable pub run_bytes : Limits → List ℕ → Lent → Result Lent
run_bytes limits steps lent =
    let requests = requests_in (words_of_bytes steps) in decide (first_no (run_questions limits requests lent)) lent 0 (lent_after limits requests lent)

-- ---- Demand 1 of a run.

-- The bytes of the table that the accepted steps of a run name, each where the steps before it have been done.
abbrev pub request_footprint : Limits → List ℕ → Option Call → ℕ → Bool
request_footprint limits bytes none j = false
request_footprint limits bytes (some call) j =
    eqb (step_bytes limits bytes call).answer.number 0 && on_bytes_of bytes (footprint (words_of_bytes bytes) call) j

abbrev pub run_footprint : Limits → List ℕ → List (Option Call) → ℕ → Bool
run_footprint limits bytes [] j = false
run_footprint limits bytes (request ∷ requests) j =
    request_footprint limits bytes request j || run_footprint limits (answer_request (step_bytes limits) bytes request).after requests j

-- The bytes of the reply table that a run of n steps names.
abbrev pub reply_footprint : ℕ → ℕ → Bool
reply_footprint n j = ltb j (4 * n)

abbrev pub run_refusals : List ℕ
run_refusals = 4 ∷ 5 ∷ []

-- What a run may do to each of the two tables.
pub record RunDemand1 (limits : Limits) (steps : List ℕ) (lent : Lent) : Type 0 where
  pub table : let requests = requests_in (words_of_bytes steps) in
      let result = run_bytes limits steps lent in
      Demand1 run_refusals (run_footprint limits lent.table requests) lent.table (record { answer = result.answer; after = result.after.table })
  pub replies : let result = run_bytes limits steps lent in
      Demand1 run_refusals (reply_footprint (length (requests_in (words_of_bytes steps)))) lent.replies
      (record { answer = result.answer; after = result.after.replies })

-- ---- Histories in which runs and single calls are mixed.

-- What the host sends: a single call, or a run, of these steps and with this reply table.
pub data Sent : Type 0 where
  single : Call → Sent
  in_one_call : List ℕ → List ℕ → Sent

-- "Every number in a call is 16 bits wide", and tables are sent as bytes.
abbrev pub Sent16 : Sent → Type 0
Sent16 (single call) = Call16 call
Sent16 (in_one_call steps replies) = IsBytes steps × IsBytes replies

abbrev pub AllSent16 : List Sent → Type 0
AllSent16 [] = Unit {0}
AllSent16 (sent ∷ rest) = Sent16 sent × AllSent16 rest

-- The bytes of the table after it, and after a list of them.
abbrev pub table_after_sent : Limits → List ℕ → Sent → List ℕ
table_after_sent limits table (single call) = (step_bytes limits table call).after
table_after_sent limits table (in_one_call steps replies) = (run_bytes limits steps (lent_of replies table)).after.table

abbrev pub table_after_mixed : Limits → List ℕ → List Sent → List ℕ
table_after_mixed limits table [] = table
table_after_mixed limits table (sent ∷ rest) = table_after_mixed limits (table_after_sent limits table sent) rest

-- The calls among requests, and each of them with its answer in the words of a reply table.
abbrev pub calls_among : List (Option Call) → List Call
calls_among [] = []
calls_among (none ∷ requests) = calls_among requests
calls_among (some call ∷ requests) = call ∷ calls_among requests

abbrev pub events_in_replies : List (Option Call) → List ℕ → List Event
events_in_replies [] words = []
events_in_replies (none ∷ requests) words = events_in_replies requests (drop 2 words)
events_in_replies (some call ∷ requests) words =
    record { call = call; answer = record { number = get_or words 0 0; session = get_or words 1 0 } } ∷ events_in_replies requests (drop 2 words)

-- What the host learns: the call and its answer; of an accepted run, its calls and their answers in the reply table; of a refused one, nothing.
abbrev pub events_of : Limits → List ℕ → Sent → List Event
events_of limits table (single call) = record { call = call; answer = (step_bytes limits table call).answer } ∷ []
events_of limits table (in_one_call steps replies) =
    let result = run_bytes limits steps (lent_of replies table) in
    cond (eqb result.answer.number 0) (events_in_replies (requests_in (words_of_bytes steps)) (words_of_bytes result.after.replies)) []

abbrev pub mixed_history : Limits → List ℕ → List Sent → List Event
mixed_history limits table [] = []
mixed_history limits table (sent ∷ rest) = events_of limits table sent ++ mixed_history limits (table_after_sent limits table sent) rest

abbrev pub calls_of : List Event → List Call
calls_of history = map (λ event. event.call) history

-- The calls that were made: the single ones, and all those of the accepted runs.
abbrev pub calls_of_sent : Limits → List ℕ → Sent → List Call
calls_of_sent limits table (single call) = call ∷ []
calls_of_sent limits table (in_one_call steps replies) =
    cond (eqb (run_bytes limits steps (lent_of replies table)).answer.number 0) (calls_among (requests_in (words_of_bytes steps))) []

abbrev pub calls_made : Limits → List ℕ → List Sent → List Call
calls_made limits table [] = []
calls_made limits table (sent ∷ rest) = calls_of_sent limits table sent ++ calls_made limits (table_after_sent limits table sent) rest

-- A mixed history is one of single calls: the same calls, the same answers, and the same bytes after them.
pub record Singly (limits : Limits) (table : List ℕ) (sent : List Sent) : Type 0 where
  pub calls : calls_of (mixed_history limits table sent) ≡ calls_made limits table sent
  pub history : mixed_history limits table sent ≡ run (step_bytes limits) table (calls_of (mixed_history limits table sent))
  pub after : table_after_mixed limits table sent ≡ end (step_bytes limits) table (calls_of (mixed_history limits table sent))

abbrev pub SentDemand1 : Limits → List ℕ → Sent → Type 0
SentDemand1 limits bytes (single call) = Demand1 (refusals call) (on_bytes_of bytes (footprint (words_of_bytes bytes) call)) bytes (step_bytes limits bytes call)
SentDemand1 limits bytes (in_one_call steps replies) = RunDemand1 limits steps (lent_of replies bytes)

-- The words of the table after the first i calls of a mixed history.
abbrev pub mixed_tables : Limits → List ℕ → List Sent → ℕ → List ℕ
mixed_tables limits table sent i = words_of_bytes (end (step_bytes limits) table (take i (calls_of (mixed_history limits table sent))))

-- The three demands, the closing rule and message numbers, where runs and single calls are mixed.
pub record MixedDemands (limits : Limits) : Type 0 where
  pub demand_1 : (bytes : List ℕ) (sent : Sent) → IsBytes bytes → Sent16 sent → SentDemand1 limits bytes sent
  pub singly : (bytes : List ℕ) (sent : List Sent) → IsBytes bytes → AllSent16 sent → Singly limits bytes sent
  pub demand_2 : (hall : Hall) (bytes : List ℕ) → IsBytes bytes → (open_bytes limits hall bytes).answer.number ≡ 0 → (sent : List Sent) → AllSent16 sent
      → let opened = (open_bytes limits hall bytes).after in Demand2 hall (mixed_history limits opened sent) (mixed_tables limits opened sent)
  pub demand_3 : (hall : Hall) (bytes : List ℕ) → IsBytes bytes → (open_bytes limits hall bytes).answer.number ≡ 0 → (sent : List Sent) → AllSent16 sent
      → let opened = (open_bytes limits hall bytes).after in Demand3 hall (mixed_history limits opened sent) (mixed_tables limits opened sent)
  pub closing_rule : (hall : Hall) (bytes : List ℕ) → IsBytes bytes → (open_bytes limits hall bytes).answer.number ≡ 0 → (sent : List Sent) → AllSent16 sent
      → ClosingRule hall (mixed_tables limits (open_bytes limits hall bytes).after sent)
  pub hand_back_closes : (hall : Hall) (bytes : List ℕ) → IsBytes bytes → (open_bytes limits hall bytes).answer.number ≡ 0 → (sent : List Sent) → AllSent16 sent
      → let opened = (open_bytes limits hall bytes).after in HandBackCloses hall (mixed_history limits opened sent) (mixed_tables limits opened sent)
  pub message_numbers : (hall : Hall) (bytes : List ℕ) → IsBytes bytes → (open_bytes limits hall bytes).answer.number ≡ 0 → (sent : List Sent) → AllSent16 sent
      → let opened = (open_bytes limits hall bytes).after in MessageNumbers hall (mixed_history limits opened sent) (mixed_tables limits opened sent)
