-- The theorems about the board whose list is a ring. The statements are defined in RingDemands and in the rules of the first board; the proofs are in
-- Laws/. They hold for any limits; the exported calls use those of the hall. Document 02, "A list that turns".
use Rattle.std.specs.Prelude.{ℕ, ◌*◌, ◌%◌, ◌≤◌, ◌≡◌, refl, true, false, List, ◌++◌, drop, get_or, length, take}
use Rattle.rules.specs.Bytes.{Agrees, Call16, Calls16, IsBytes, Words16, step_bytes, words_of_bytes}
use Rattle.rules.specs.Closing.{ClosingRule, HandBackCloses}
use Rattle.rules.specs.Demands.{Demand1, Demand2, Demand3, HandedBackWithin, opening_refusals, refusals, sharper_bound}
use Rattle.rules.specs.Hall.{Hall, Limits, all_screens, hall_limits}
use Rattle.rules.specs.History.{hand_backs, number_at}
use Rattle.rules.specs.Messages.{MessageNumbers}
use Rattle.rules.specs.Steps.{Call, Collect, Event, ◌numbered◌, ◌sends◌, begin, end, run, scan}
use Rattle.rules.specs.Table.{hall_in, open_table, record_of, step_table}
use Rattle.rules.proofs.Theorems.{back_sooner, closing_rule, demand_2, demand_3, hand_back_closes, message_numbers, never_unsound}
use Rattle.rules.proofs.Laws.Bytes.Bytes.{bytes_demand1, bytes_open, bytes_step, words_are_16}
use Rattle.ring_rules.specs.Ring.{beginning_word, decode_ring, linear, linear_table, open_ring, open_ring_bytes, ring_need, ring_record_of, ring_sound, ring_state, step_ring, step_ring_bytes}
use Rattle.ring_rules.specs.RingDemands.{BeginningsCount, FromOpening, RingMeetsDemands, SameHistory, SameStep, marks_at_end, ring_footprint, ring_names, ring_opening_footprint}
use Rattle.ring_rules.proofs.Laws.Beginnings.{beginnings_run}
use Rattle.ring_rules.proofs.Laws.RingBytes.{beginnings_on_bytes, passes_on_bytes, same_history_on_bytes}
use Rattle.ring_rules.proofs.Laws.RingDemand1.{collect_names_few, ring_demand1, ring_opening_demand1}
use Rattle.ring_rules.proofs.Laws.RingHistories.{beginnings_from_opening, opening_answers_alike, opens_as, opens-sound, ring_stays_sound, same_from_opening, same_history}
use Rattle.ring_rules.proofs.Laws.RingNeedSuffices.{ring_open_append, ring-step-append}
use Rattle.ring_rules.proofs.Laws.RingSteps.{ring_known, ring-step}
use Rattle.ring_rules.proofs.Laws.RingTables.{record_same}
use Rattle.ring_rules.proofs.Laws.RingWords.{ring_board}

-- "its need is P words more": 22 words for the smallest hall, 2,419 for the largest (`smallest` and `largest` in RingCases).

-- ---- "from any sound ring and the first board it reads as"
module _ (limits : Limits) (ring : List ℕ) (is-sound : ring_sound limits ring ≡ true) where
  -- One call: the same answer; the ring stays sound and reads as what the first board leaves.
  pub same_step : (call : Call) → SameStep limits (step_ring limits ring call) (step_table limits (linear_table ring) call)
  same_step = ring-step limits ring is-sound

  -- Any sequence of calls: the same replies, and after each the ring reads as the first board.
  pub ring_as_first_board : (calls : List Call)
      → SameHistory (run (step_ring limits) ring calls) (run (step_table limits) (linear_table ring) calls)
      (λ i. end (step_ring limits) ring (take i calls)) (λ i. end (step_table limits) (linear_table ring) (take i calls))
  ring_as_first_board = same_history limits ring is-sound

  -- "the ring read from its beginning is the first board's list": the first board's record of each desk is its record in the ring, as it reads.
  pub record_reads : (d : ℕ) → 1 ≤ d → d ≤ (hall_in ring).desks
      → record_of (hall_in ring) (linear_table ring) d ≡ linear (all_screens (hall_in ring)) (ring_record_of (hall_in ring) ring d)
  record_reads = record_same (hall_in ring) ring (ring_known limits ring is-sound).long

  -- It stays sound.
  pub stays_sound : (calls : List Call) → ring_sound limits (end (step_ring limits) ring calls) ≡ true
  stays_sound calls = ring_stays_sound limits calls ring is-sound

  -- "only a hand-back changes it, by one place around"
  pub beginnings_count_hand_backs : (calls : List Call) → BeginningsCount (hall_in ring) ring (run (step_ring limits) ring calls) (end (step_ring limits) ring calls)
  beginnings_count_hand_backs calls d first last = beginnings_run limits (hall_in ring) d (first, last) calls ring is-sound refl

-- ---- "from opening"

-- Every opening answers as the first board's on a table of P words fewer: "its need is P words more".
pub opening_as_first_board : (limits : Limits) (hall : Hall) (table : List ℕ) → (open_ring limits hall table).answer ≡ (open_table limits hall (drop hall.desks table)).answer
opening_as_first_board = opening_answers_alike

-- For every hall and every table whose opening as a ring is accepted:
module _ (limits : Limits) (hall : Hall) (table : List ℕ) (accepted : (open_ring limits hall table).answer.number ≡ 0) where
  abbrev ring : List ℕ
  ring = (open_ring limits hall table).after

  -- the first board, opened on the same table less P words
  abbrev first : List ℕ
  first = (open_table limits hall (drop hall.desks table)).after

  pub opened-is_sound : ring_sound limits ring ≡ true
  opened-is_sound = opens-sound limits hall table accepted

  pub opened_reads_as : linear_table ring ≡ first
  opened_reads_as = opens_as limits hall table accepted

  -- Any sequence of calls: the same replies, and after each the ring reads as the first board.
  pub ring_as_first_board_from_opening : (calls : List Call)
      → SameHistory (run (step_ring limits) ring calls) (run (step_table limits) first calls) (λ i. end (step_ring limits) ring (take i calls)) (λ i. end (step_table limits) first (take i calls))
  ring_as_first_board_from_opening = same_from_opening limits hall table accepted

  -- A desk's beginning is its hand-backs so far, modulo 2S.
  pub beginning_is_hand_backs : (calls : List Call) (d : ℕ) → 1 ≤ d → d ≤ hall.desks
      → get_or (end (step_ring limits) ring calls) (beginning_word hall d) 0 ≡ hand_backs d (run (step_ring limits) ring calls) % (2 * all_screens hall)
  beginning_is_hand_backs calls d first last = beginnings_from_opening limits hall table accepted calls d (first, last)

-- ---- Demand 1, with the ring's own words.

-- A refused call writes nothing, an accepted one only the words that its step names and its desk's message number, on any table of 16-bit words.
pub ring_demand_1 : (limits : Limits) (table : List ℕ) → Words16 table → (call : Call) → Demand1 (refusals call) (ring_footprint table call) table (step_ring limits table call)
ring_demand_1 = ring_demand1

pub ring_demand_1_opening : (limits : Limits) (hall : Hall) (table : List ℕ) → Demand1 opening_refusals (ring_opening_footprint hall) table (open_ring limits hall table)
ring_demand_1_opening = ring_opening_demand1

-- A collect names at most 15 words, whatever the hall and the list, if it does not end a reading that has marked a session: so a hand-back moves no
-- session. (They are the message number, k, the three counts, the eight mark words, the slot left and the beginning.)
pub hand_back_names_few : (table : List ℕ) (message d : ℕ)
    → let hall = hall_in table in
    let read = scan (ring_state table).shown (begin (decode_ring (all_screens hall) (ring_record_of hall table d))) in
    marks_at_end (all_screens hall) read ≡ false → length (ring_names table (d sends Collect numbered message)) ≤ 15
hand_back_names_few = collect_names_few

-- "Words past the need are neither read nor written": whatever follows a table that is long enough for its hall, a call gives the same answer and
-- leaves it unchanged.
module _ (limits : Limits) (table behind : List ℕ) where
  pub ring_need_is_enough : ring_need (hall_in table) ≤ length table → (call : Call)
      → step_ring limits (table ++ behind) call ≡ record { answer = (step_ring limits table call).answer; after = (step_ring limits table call).after ++ behind }
  ring_need_is_enough = ring-step-append limits table behind

  pub ring_need_is_enough_to_open : (hall : Hall) → ring_need hall ≤ length table
      → open_ring limits hall (table ++ behind) ≡ record { answer = (open_ring limits hall table).answer; after = (open_ring limits hall table).after ++ behind }
  ring_need_is_enough_to_open hall = ring_open_append limits hall table behind

-- ---- On bytes, as the host calls.

-- An opening and a step on bytes give the answer of those on the words in them, and their words are in the bytes after it.
pub ring_opening_on_bytes : (limits : Limits) (hall : Hall) (bytes : List ℕ) → IsBytes bytes → Agrees bytes (open_ring_bytes limits hall bytes) (open_ring limits hall (words_of_bytes bytes))
unfolding open_ring_bytes
ring_opening_on_bytes limits = bytes_open (ring_board limits)

pub ring-step_on_bytes : (limits : Limits) (bytes : List ℕ) (call : Call) → IsBytes bytes → Call16 call → Agrees bytes (step_ring_bytes limits bytes call) (step_ring limits (words_of_bytes bytes) call)
unfolding step_ring_bytes
ring-step_on_bytes limits = bytes_step (ring_board limits)

-- From any bytes of a sound ring, and any bytes of the first board that it reads as: the same replies, and after each call it reads so.
pub ring_as_first_board_on_bytes : (limits : Limits) (ring first : List ℕ) → IsBytes ring → IsBytes first → ring_sound limits (words_of_bytes ring) ≡ true
    → words_of_bytes first ≡ linear_table (words_of_bytes ring) → (calls : List Call) → Calls16 calls
    → SameHistory (run (step_ring_bytes limits) ring calls) (run (step_bytes limits) first calls)
    (λ i. words_of_bytes (end (step_ring_bytes limits) ring (take i calls))) (λ i. words_of_bytes (end (step_bytes limits) first (take i calls)))
ring_as_first_board_on_bytes = same_history_on_bytes

pub beginnings_count_hand_backs_on_bytes : (limits : Limits) (ring : List ℕ) → IsBytes ring → ring_sound limits (words_of_bytes ring) ≡ true → (calls : List Call) → Calls16 calls
    → BeginningsCount (hall_in (words_of_bytes ring)) (words_of_bytes ring) (run (step_ring_bytes limits) ring calls) (words_of_bytes (end (step_ring_bytes limits) ring calls))
beginnings_count_hand_backs_on_bytes = beginnings_on_bytes

-- "What holds of the first board's replies and list then passes to it": whatever holds of every history of the first board.
pub passes_to_ring : (limits : Limits) (hall : Hall) (statement : List Event → (ℕ → List ℕ) → Type 0)
    → ((table : List ℕ) → (open_table limits hall table).answer.number ≡ 0 → (calls : List Call)
    → let opened = (open_table limits hall table).after in statement (run (step_table limits) opened calls) (λ i. end (step_table limits) opened (take i calls)))
    → FromOpening limits hall statement
passes_to_ring = passes_on_bytes

-- No step is answered 5; and a session is handed back sooner than demand 3 asks.
pub ring_never_unsound : (limits : Limits) (hall : Hall) → FromOpening limits hall (λ history tables. (i : ℕ) → number_at history i ≡ 5 → ⊥)
ring_never_unsound limits hall = passes_to_ring limits hall (λ history tables. (i : ℕ) → number_at history i ≡ 5 → ⊥) (never_unsound limits hall)

pub ring_back_sooner : (limits : Limits) (hall : Hall) → FromOpening limits hall (λ history tables. HandedBackWithin (sharper_bound (all_screens hall)) history)
ring_back_sooner limits hall = passes_to_ring limits hall (λ history tables. HandedBackWithin (sharper_bound (all_screens hall)) history) (back_sooner limits hall)

-- The demands, the closing rule and message numbers.
pub ring_meets_demands : (limits : Limits) → RingMeetsDemands limits
unfolding open_ring_bytes step_ring_bytes
ring_meets_demands limits = record {
  demand_1 = λ bytes call are wide.
      (let words = words_of_bytes bytes in
      bytes_demand1 bytes are (step_ring limits words call) ((ring_board limits).step_keeps words call (words_are_16 bytes are) wide) (refusals call) (ring_footprint words call)
      (ring_demand1 limits words (words_are_16 bytes are) call));
  demand_1_opening = λ hall bytes are.
      (let words = words_of_bytes bytes in
      bytes_demand1 bytes are (open_ring limits hall words) ((ring_board limits).open_keeps hall words (words_are_16 bytes are)) opening_refusals (ring_opening_footprint hall)
      (ring_opening_demand1 limits hall words));
  demand_2 = λ hall. passes_to_ring limits hall (Demand2 hall) (demand_2 limits hall);
  demand_3 = λ hall. passes_to_ring limits hall (Demand3 hall) (demand_3 limits hall);
  closing_rule = λ hall. passes_to_ring limits hall (λ history tables. ClosingRule hall tables) (closing_rule limits hall);
  hand_back_closes = λ hall. passes_to_ring limits hall (HandBackCloses hall) (hand_back_closes limits hall);
  message_numbers = λ hall. passes_to_ring limits hall (MessageNumbers hall) (message_numbers limits hall);
}

-- So those of the exported calls, `ring_open` to `ring_collect`.
pub ring_of_hall_meets_demands : RingMeetsDemands hall_limits
ring_of_hall_meets_demands = ring_meets_demands hall_limits
