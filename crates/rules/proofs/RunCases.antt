-- Runs, computed: what the words of a step request, the two questions, what is written and what is not, footprints, and histories in which runs and
-- single calls are mixed; then the statements at one instance each. No theorem is used here. Document 02, "A shift in one call".
use Rattle.std.specs.Prelude.{ℕ, ◌≤◌, ◌≡◌, refl, true, false, List, [], ◌∷◌, ◌++◌, map, get_or, length, replicate, take}
use Rattle.std.proofs.Math.Option.{Option, none, some}
use Rattle.rules.specs.Bytes.{Call16, IsBytes, bytes_of_words, open_bytes, overwrite_words, step_bytes, words_of_bytes}
use Rattle.rules.proofs.Cases.{◌⇒◌, ok, refused_with, wide}
use Rattle.rules.specs.Closing.{ClosingRule, HandBackCloses}
use Rattle.rules.specs.Demands.{Demand1, Demand2, Demand3, footprint, on_bytes_of, refusals}
use Rattle.rules.specs.Hall.{Limits, hall_limits, training_limits}
use Rattle.rules.specs.Lists.{concat, occurrences}
use Rattle.rules.proofs.MessageCases.{table_of_one}
use Rattle.rules.specs.Messages.{MessageNumbers}
use Rattle.rules.specs.Runs.{AllSent16, MixedDemands, RunDemand1, Sent, Singly, answer_request, calls_made, calls_of, calls_of_sent, events_in_replies, in_one_call, lent_of, mixed_history, mixed_tables}
use Rattle.rules.specs.Runs.{reply_footprint, request_for, requests_in, run_bytes, run_footprint, run_refusals, single, table_after_mixed, table_after_sent}
use Rattle.rules.specs.Steps.{Answer, Call, Collect, Drop, Event, Retire, Swap, Take, ◌numbered◌, ◌sends◌, accept, end, refuse, run}
use Rattle.rules.specs.Table.{decode_desk, encode_desk, record_sound, sound, step_table}

-- ---- A step in words.

-- "step code (take 1, drop 2, swap 3, retire 4, collect 5)": each code uses its own numbers; the other codes request nothing.
pub codes-request :
    map (λ (code : ℕ). request_for code 7 2 3 4 500) (0 ∷ 1 ∷ 2 ∷ 3 ∷ 4 ∷ 5 ∷ 6 ∷ 65535 ∷ [])
    ≡ none
    ∷ some (2 sends Take 3 4 numbered 7)
    ∷ some (2 sends Drop 3 numbered 7)
    ∷ some (2 sends Swap 4 500 numbered 7)
    ∷ some (2 sends Retire numbered 7)
    ∷ some (2 sends Collect numbered 7)
    ∷ none
    ∷ none
    ∷ []
codes-request = refl

-- "fewer than six left over are no step": 0, 5, 6 and 17 words, and 18.
abbrev counting : List ℕ
counting = 1 ∷ 2 ∷ 3 ∷ 4 ∷ 5 ∷ 6 ∷ 2 ∷ 8 ∷ 9 ∷ 10 ∷ 11 ∷ 12 ∷ 5 ∷ 14 ∷ 15 ∷ 16 ∷ 17 ∷ 18 ∷ []

abbrev takes : Option Call
takes = some (3 sends Take 4 5 numbered 2)

abbrev drops : Option Call
drops = some (9 sends Drop 10 numbered 8)

pub words-request :
    (requests_in [] ≡ [])
    × (requests_in (take 5 counting) ≡ [])
    × (requests_in (take 6 counting) ≡ takes ∷ [])
    × (requests_in (take 17 counting) ≡ takes ∷ drops ∷ [])
    × (requests_in counting ≡ takes ∷ drops ∷ some (15 sends Collect numbered 14) ∷ [])
words-request = (refl, refl, refl, refl, refl)

-- "a step with a code outside 1 to 5 replies 17, writes nothing"
pub no_code_answered : (table : List ℕ) → answer_request (step_table hall_limits) table none ≡ refuse 17 table
no_code_answered table = refl

-- ---- A shift in one call. One desk, one screen, one position: 5 is put, taken, replaced by 6, retired, dropped and handed back. Between them are
-- codes 0 and 6, a take that was sent twice, and a drop of a screen that shows nothing; words that a code lacks hold 9.
abbrev shift : List (List ℕ)
shift =
    (3 ∷ 0 ∷ 1 ∷ 9 ∷ 1 ∷ 5 ∷ [])
    ∷ (1 ∷ 1 ∷ 1 ∷ 1 ∷ 1 ∷ 9 ∷ [])
    ∷ (0 ∷ 2 ∷ 1 ∷ 1 ∷ 1 ∷ 1 ∷ [])
    ∷ (1 ∷ 1 ∷ 1 ∷ 1 ∷ 1 ∷ 9 ∷ [])
    ∷ (3 ∷ 2 ∷ 1 ∷ 9 ∷ 1 ∷ 6 ∷ [])
    ∷ (4 ∷ 3 ∷ 1 ∷ 9 ∷ 9 ∷ 9 ∷ [])
    ∷ (2 ∷ 4 ∷ 1 ∷ 1 ∷ 9 ∷ 9 ∷ [])
    ∷ (2 ∷ 5 ∷ 1 ∷ 1 ∷ 9 ∷ 9 ∷ [])
    ∷ (6 ∷ 5 ∷ 1 ∷ 1 ∷ 1 ∷ 1 ∷ [])
    ∷ (5 ∷ 5 ∷ 1 ∷ 9 ∷ 9 ∷ 9 ∷ [])
    ∷ []

abbrev shift_replies : List ℕ
shift_replies = 0 ∷ 0 ∷ 0 ∷ 5 ∷ 17 ∷ 0 ∷ 23 ∷ 0 ∷ 0 ∷ 5 ∷ 0 ∷ 5 ∷ 0 ∷ 5 ∷ 11 ∷ 0 ∷ 17 ∷ 0 ∷ 0 ∷ 5 ∷ []

-- The steps have five words and a byte left over. The reply table has three words and a byte more than the run needs, and the table one word and a
-- byte; they stay.
pub shift-in-one-call :
    run_bytes hall_limits (bytes_of_words (concat shift ++ (5 ∷ 6 ∷ 1 ∷ 1 ∷ 1 ∷ [])) ++ (77 ∷ []))
    (lent_of (bytes_of_words (replicate 23 777) ++ (88 ∷ [])) (bytes_of_words (table_of_one 0 0 0 0 0 0 0 ++ (999 ∷ [])) ++ (99 ∷ [])))
    ≡ accept 0
    (lent_of (bytes_of_words (shift_replies ++ replicate 3 777) ++ (88 ∷ [])) (bytes_of_words (table_of_one 6 0 0 0 0 0 6 ++ (999 ∷ [])) ++ (99 ∷ [])))
unfolding run_bytes overwrite_words step_bytes step_table sound record_sound encode_desk decode_desk
shift-in-one-call = refl

-- ---- The two questions. "4 when the reply table is under two words a step, then 5, each once for the run with nothing done"

-- the answer to two takes, with so many bytes for the replies, and the table in these bytes
abbrev answer_for : ℕ → List ℕ → Answer
answer_for room table = (run_bytes hall_limits (bytes_of_words (replicate 13 1)) (lent_of (replicate room 3) table)).answer

abbrev sound1 : List ℕ
sound1 = bytes_of_words (table_of_one 5 0 0 0 0 0 1)

-- (one session is ready, and the list is empty)
abbrev unsound1 : List ℕ
unsound1 = bytes_of_words (table_of_one 5 0 0 1 0 0 1)

-- 7 bytes hold three words; 8 hold four. Too short a table is not sound, nor one with an unsound record; both questions answered no: 4.
pub run-asks :
    (map (λ (room : ℕ). answer_for room sound1) (0 ∷ 4 ∷ 7 ∷ 8 ∷ 9 ∷ []) ≡ refused_with 4 ∷ refused_with 4 ∷ refused_with 4 ∷ ok 0 ∷ ok 0 ∷ [])
    × (map (λ (room : ℕ). answer_for room (take 41 sound1)) (7 ∷ 8 ∷ 9 ∷ []) ≡ refused_with 4 ∷ refused_with 5 ∷ refused_with 5 ∷ [])
    × (map (λ (room : ℕ). answer_for room unsound1) (7 ∷ 8 ∷ 9 ∷ []) ≡ refused_with 4 ∷ refused_with 5 ∷ refused_with 5 ∷ [])
unfolding run_bytes overwrite_words step_bytes step_table sound record_sound encode_desk decode_desk
run-asks = (refl, refl, refl)

-- Nothing is done then: not even the first of two steps.
pub nothing-done :
    (run_bytes hall_limits (bytes_of_words (replicate 12 1)) (lent_of (replicate 7 3) sound1) ≡ refuse 4 (lent_of (replicate 7 3) sound1))
    × (run_bytes hall_limits (bytes_of_words (replicate 12 1)) (lent_of (replicate 8 3) (take 41 sound1)) ≡ refuse 5 (lent_of (replicate 8 3) (take 41 sound1)))
    × (run_bytes hall_limits (bytes_of_words (replicate 12 1)) (lent_of (replicate 8 3) unsound1) ≡ refuse 5 (lent_of (replicate 8 3) unsound1))
unfolding run_bytes overwrite_words step_bytes step_table sound record_sound encode_desk decode_desk
nothing-done = (refl, refl, refl)

-- An empty run passes 4 and is asked 5; words left over want no reply.
pub empty_runs :
    (run_bytes hall_limits [] (lent_of [] sound1) ≡ accept 0 (lent_of [] sound1))
    × (run_bytes hall_limits (replicate 11 1) (lent_of (3 ∷ []) sound1) ≡ accept 0 (lent_of (3 ∷ []) sound1))
    × (run_bytes hall_limits [] (lent_of [] []) ≡ refuse 5 (lent_of [] []))
unfolding run_bytes overwrite_words step_bytes step_table sound record_sound encode_desk decode_desk
empty_runs = (refl, refl, refl)

-- The limits of the room are asked of the table, two screens a desk here, and of every step: a session of 1,000.
pub in-a-room :
    (map (λ (limits : Limits). (run_bytes limits [] (lent_of [] (bytes_of_words (1 ∷ 2 ∷ 1 ∷ replicate 21 0)))).answer) (hall_limits ∷ training_limits ∷ []) ≡ ok 0 ∷ refused_with 5 ∷ [])
    × (map (λ (limits : Limits). (run_bytes limits (bytes_of_words (3 ∷ 1 ∷ 1 ∷ 0 ∷ 1 ∷ 1000 ∷ [])) (lent_of (replicate 4 3) sound1)).after.replies) (hall_limits ∷ training_limits ∷ [])
    ≡ bytes_of_words (0 ∷ 5 ∷ []) ∷ bytes_of_words (22 ∷ 0 ∷ []) ∷ [])
unfolding run_bytes overwrite_words step_bytes step_table sound record_sound encode_desk decode_desk
in-a-room = (refl, refl)

-- ---- Footprints, by bytes: a take names its screen (word 4) and the message number (word 20); a swap the position (word 3) and the owed word (5), and
-- the retire after it the count of waiting (9) and the first place of the list (18). A code that requests nothing names no word, nor
-- does a step that is refused (here with 23). A swap onto an empty position does not name the owed word, but one after it does: it finds the session
-- there.
pub run-footprint :
    (map (run_footprint hall_limits sound1 (some (1 sends Take 1 1 numbered 1) ∷ [])) (6 ∷ 7 ∷ 8 ∷ 9 ∷ 10 ∷ 40 ∷ 41 ∷ 42 ∷ []) ≡ false ∷ false ∷ true ∷ true ∷ false ∷ true ∷ true ∷ false ∷ [])
    × (map (run_footprint hall_limits sound1 (none ∷ some (1 sends Swap 1 0 numbered 1) ∷ some (1 sends Retire numbered 2) ∷ [])) (5 ∷ 6 ∷ 8 ∷ 10 ∷ 18 ∷ 36 ∷ 40 ∷ [])
    ≡ false ∷ true ∷ false ∷ true ∷ true ∷ true ∷ true ∷ [])
    × (map (run_footprint hall_limits sound1 (none ∷ [])) (6 ∷ 8 ∷ 40 ∷ []) ≡ false ∷ false ∷ false ∷ [])
    × (map (run_footprint hall_limits sound1 (some (1 sends Take 1 1 numbered 0) ∷ [])) (6 ∷ 8 ∷ 40 ∷ []) ≡ false ∷ false ∷ false ∷ [])
    × (map (run_footprint hall_limits (bytes_of_words (table_of_one 0 0 0 0 0 0 0)) (some (1 sends Swap 1 5) ∷ [])) (6 ∷ 10 ∷ []) ≡ true ∷ false ∷ [])
    × (map (run_footprint hall_limits (bytes_of_words (table_of_one 0 0 0 0 0 0 0)) (some (1 sends Swap 1 5) ∷ some (1 sends Swap 1 6 numbered 1) ∷ [])) (6 ∷ 10 ∷ []) ≡ true ∷ true ∷ [])
    × (map (reply_footprint 2) (0 ∷ 7 ∷ 8 ∷ []) ≡ true ∷ true ∷ false ∷ [])
unfolding step_bytes step_table overwrite_words sound record_sound encode_desk decode_desk
run-footprint = (refl, refl, refl, refl, refl, refl, refl)

-- ---- Runs and single calls mixed: a swap; a run of a take, code 8 and a swap; a run that is refused with 4; and a retire.
abbrev mixed : List Sent
mixed =
    single (1 sends Swap 1 5)
    ∷ in_one_call (bytes_of_words ((1 ∷ 1 ∷ 1 ∷ 1 ∷ 1 ∷ 0 ∷ []) ++ ((8 ∷ 2 ∷ 1 ∷ 1 ∷ 1 ∷ 1 ∷ []) ++ (3 ∷ 2 ∷ 1 ∷ 0 ∷ 1 ∷ 6 ∷ [])))) (replicate 14 200)
    ∷ in_one_call (bytes_of_words (4 ∷ 3 ∷ 1 ∷ 0 ∷ 0 ∷ 0 ∷ [])) (replicate 3 200)
    ∷ single (1 sends Retire numbered 3)
    ∷ []

-- Four calls were made, and the host learns their answers: code 8 requests none, and the refused run did nothing.
pub mixed-computed :
    (mixed_history hall_limits (bytes_of_words (table_of_one 0 0 0 0 0 0 0)) mixed
    ≡ (1 sends Swap 1 5 ⇒ ok 0) ∷ (1 sends Take 1 1 numbered 1 ⇒ ok 5) ∷ (1 sends Swap 1 6 numbered 2 ⇒ ok 5) ∷ (1 sends Retire numbered 3 ⇒ ok 5) ∷ [])
    × (table_after_mixed hall_limits (bytes_of_words (table_of_one 0 0 0 0 0 0 0)) mixed ≡ bytes_of_words (table_of_one 6 5 0 0 1 5 4))
    × (mixed_tables hall_limits (bytes_of_words (table_of_one 0 0 0 0 0 0 0)) mixed 3 ≡ table_of_one 6 5 5 0 0 0 3)
    × (calls_made hall_limits (bytes_of_words (table_of_one 0 0 0 0 0 0 0)) mixed
    ≡ (1 sends Swap 1 5) ∷ (1 sends Take 1 1 numbered 1) ∷ (1 sends Swap 1 6 numbered 2) ∷ (1 sends Retire numbered 3) ∷ [])
unfolding run_bytes overwrite_words step_bytes step_table sound record_sound encode_desk decode_desk
mixed-computed = (refl, refl, refl, refl)

-- A run of one step, with room for its reply alone: its call was made. (The bytes of the table would be three steps.)
pub one_call_made : calls_of_sent hall_limits sound1 (in_one_call (bytes_of_words (1 ∷ 1 ∷ 1 ∷ 1 ∷ 1 ∷ 0 ∷ [])) (replicate 4 3)) ≡ (1 sends Take 1 1 numbered 1) ∷ []
unfolding run_bytes overwrite_words step_bytes step_table sound record_sound encode_desk decode_desk
one_call_made = refl

-- The events in a reply table: two words an answer, in order, refused ones too.
pub replies-read :
    events_in_replies (some (1 sends Retire) ∷ none ∷ some (2 sends Collect) ∷ []) (13 ∷ 0 ∷ 17 ∷ 0 ∷ 0 ∷ 9 ∷ 4 ∷ [])
    ≡ (1 sends Retire ⇒ refused_with 13) ∷ (2 sends Collect ⇒ ok 9) ∷ []
replies-read = refl

-- ---- The statements at one instance.

-- The refusals of a run, and how wide a call and a run are that are sent.
pub run_refusals_lem : run_refusals ≡ 4 ∷ 5 ∷ []
run_refusals_lem = refl

pub says_all_sent : (call : Call) (steps replies : List ℕ) → AllSent16 (single call ∷ in_one_call steps replies ∷ []) → Call16 call × IsBytes steps × IsBytes replies
says_all_sent call steps replies numbers = (numbers.0, numbers.1.0.0, numbers.1.0.1)

-- Demand 1 of a run, of each table.
module _ (steps replies table : List ℕ) (demand : RunDemand1 hall_limits steps (lent_of replies table)) where
  pub says_run_refused : (run_bytes hall_limits steps (lent_of replies table)).answer.number ≡ 5
      → (1 ≤ occurrences 5 run_refusals)
      × ((run_bytes hall_limits steps (lent_of replies table)).answer.session ≡ 0)
      × ((run_bytes hall_limits steps (lent_of replies table)).after.table ≡ table)
  says_run_refused = demand.table.refused 4

  pub says_replies_refused : (run_bytes hall_limits steps (lent_of replies table)).answer.number ≡ 4
      → (1 ≤ occurrences 4 run_refusals)
      × ((run_bytes hall_limits steps (lent_of replies table)).answer.session ≡ 0)
      × ((run_bytes hall_limits steps (lent_of replies table)).after.replies ≡ replies)
  says_replies_refused = demand.replies.refused 3

  pub says_run_accepted : (run_bytes hall_limits steps (lent_of replies table)).answer.number ≡ 0
      → run_footprint hall_limits table (requests_in (words_of_bytes steps)) 7 ≡ false
      → get_or (run_bytes hall_limits steps (lent_of replies table)).after.table 7 0 ≡ get_or table 7 0
  says_run_accepted accepted = demand.table.accepted accepted 7

  pub says_rest_unwritten : (run_bytes hall_limits steps (lent_of replies table)).answer.number ≡ 0
      → reply_footprint (length (requests_in (words_of_bytes steps))) 9 ≡ false
      → get_or (run_bytes hall_limits steps (lent_of replies table)).after.replies 9 0 ≡ get_or replies 9 0
  says_rest_unwritten accepted = demand.replies.accepted accepted 9

  pub says_run_lengths : (length (run_bytes hall_limits steps (lent_of replies table)).after.table ≡ length table)
      × (length (run_bytes hall_limits steps (lent_of replies table)).after.replies ≡ length replies)
  says_run_lengths = (demand.table.same_length, demand.replies.same_length)

-- A single call and a run, as a history of single calls.
module _ (table steps replies : List ℕ) (singly : Singly hall_limits table (single (1 sends Collect) ∷ in_one_call steps replies ∷ [])) where
  abbrev history : List Event
  history = mixed_history hall_limits table (single (1 sends Collect) ∷ in_one_call steps replies ∷ [])

  pub says-singly :
      (calls_of history ≡ calls_made hall_limits table (single (1 sends Collect) ∷ in_one_call steps replies ∷ []))
      × (history ≡ run (step_bytes hall_limits) table (calls_of history))
      × (table_after_sent hall_limits (step_bytes hall_limits table (1 sends Collect)).after (in_one_call steps replies) ≡ end (step_bytes hall_limits) table (calls_of history))
  says-singly = (singly.calls, singly.history, singly.after)

-- The demands of mixed histories, field by field, in a hall of 2, 3, 4.
module _ (mixed : MixedDemands hall_limits) (bytes : List ℕ) (are : IsBytes bytes) where
  pub says_mixed_run : (steps replies : List ℕ) → IsBytes steps → IsBytes replies → RunDemand1 hall_limits steps (lent_of replies bytes)
  says_mixed_run steps replies steps-are replies_are = mixed.demand_1 bytes (in_one_call steps replies) are (steps-are, replies_are)

  pub says_mixed_call : (call : Call) → Call16 call
      → Demand1 (refusals call) (on_bytes_of bytes (footprint (words_of_bytes bytes) call)) bytes (step_bytes hall_limits bytes call)
  says_mixed_call call numbers = mixed.demand_1 bytes (single call) are numbers

  pub says_mixed_singly : (sent : List Sent) → AllSent16 sent → Singly hall_limits bytes sent
  says_mixed_singly sent numbers = mixed.singly bytes sent are numbers

  module _ (accepted : (open_bytes hall_limits wide bytes).answer.number ≡ 0) (sent : List Sent) (numbers : AllSent16 sent) where
    abbrev opened : List ℕ
    opened = (open_bytes hall_limits wide bytes).after

    pub says_mixed_demand_2 : Demand2 wide (mixed_history hall_limits opened sent) (mixed_tables hall_limits opened sent)
    says_mixed_demand_2 = mixed.demand_2 wide bytes are accepted sent numbers

    pub says_mixed_demand_3 : Demand3 wide (mixed_history hall_limits opened sent) (mixed_tables hall_limits opened sent)
    says_mixed_demand_3 = mixed.demand_3 wide bytes are accepted sent numbers

    pub says_mixed_closing : ClosingRule wide (mixed_tables hall_limits opened sent)
    says_mixed_closing = mixed.closing_rule wide bytes are accepted sent numbers

    pub says_mixed_hand_back : HandBackCloses wide (mixed_history hall_limits opened sent) (mixed_tables hall_limits opened sent)
    says_mixed_hand_back = mixed.hand_back_closes wide bytes are accepted sent numbers

    pub says_mixed_numbers : MessageNumbers wide (mixed_history hall_limits opened sent) (mixed_tables hall_limits opened sent)
    says_mixed_numbers = mixed.message_numbers wide bytes are accepted sent numbers
