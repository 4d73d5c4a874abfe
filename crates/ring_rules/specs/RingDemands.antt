-- What the ring promises: that it does as the first board that it reads as, and which words each call names. There is no proof here.
use Rattle.std.specs.Prelude.{ℕ, zero, suc, ◌+◌, ◌*◌, ◌%◌, ◌≤◌, ◌≡◌, Bool, true, cond, ◌&&◌, List, [], ◌∷◌, ◌++◌, map, length, get_or, take, eqb, ltb}
use Rattle.rules.specs.Bytes.{Call16, Calls16, IsBytes, words_of_bytes}
use Rattle.rules.specs.Closing.{ClosingRule, HandBackCloses}
use Rattle.rules.specs.Demands.{Demand1, Demand2, Demand3, on_bytes_of, opening_refusals, refusals}
use Rattle.rules.specs.Hall.{Desk, Hall, Limits, all_screens}
use Rattle.rules.specs.History.{hand_backs}
use Rattle.rules.specs.Lists.{occurrences}
use Rattle.rules.specs.Messages.{MessageNumbers}
use Rattle.rules.specs.Steps.{Call, Collect, Drop, Event, Result, Retire, Step, Swap, Take, begin, end, is_repeat, is_session, marked_of, run, scan, settle}
use Rattle.rules.specs.Table.{hall_in, list_offset, owed_offset, position_word, scanned_offset, screen_word, used_in, waiting_offset}
use Rattle.ring_rules.specs.Ring.{beginning_in, beginning_offset, beginning_word, decode_ring, linear_table, open_ring_bytes, ring_need, ring_next_word, ring_record_of, ring_sound, ring_start}
use Rattle.ring_rules.specs.Ring.{ring_state, slot_after, step_ring_bytes}

-- ---- "any sequence of steps gets the same replies from both boards, and [..] the ring read from its beginning is the first board's list."

-- One call on a ring and on the first board: the same answer, and the ring after it is sound and reads as the first board after it.
pub record SameStep (limits : Limits) (ring first : Result (List ℕ)) : Type 0 where
  pub answer : ring.answer ≡ first.answer
  pub reads : linear_table ring.after ≡ first.after
  pub stays : ring_sound limits ring.after ≡ true

-- Two histories, and the words of the two tables after the first i calls: of a ring and of the first board.
pub record SameHistory (ring first : List Event) (ring_tables first_tables : ℕ → List ℕ) : Type 0 where
  pub replies : ring ≡ first
  pub reads : (i : ℕ) → linear_table (ring_tables i) ≡ first_tables i

-- "only a hand-back changes it, by one place around": after each call, a desk's beginning is the one at the start and its hand-backs since,
-- around the 2S slots.
abbrev pub BeginningsCount : Hall → List ℕ → List Event → List ℕ → Type 0
BeginningsCount hall start history after =
    (d : ℕ) → 1 ≤ d → d ≤ hall.desks → get_or after (beginning_word hall d) 0 ≡ (get_or start (beginning_word hall d) 0 + hand_backs d history) % (2 * all_screens hall)

-- ---- Demand 1, with the ring's own words. "an accepted call writes only the words its step names"

-- n numbers, from m on.
abbrev pub range : ℕ → ℕ → List ℕ
range m zero = []
range m (suc n) = m ∷ range (suc m) n

-- The words that a retire names, as offsets in its desk's record: the owed session, the count of waiting and the first unused slot.
abbrev pub retire_offsets : ℕ → List ℕ → List ℕ
retire_offsets S words = owed_offset ∷ waiting_offset ∷ (list_offset + slot_after S (beginning_in S words) (used_in words)) ∷ []

-- The words that a collect names. Its parts (a) to (c): k, the three counts and the eight mark words;
abbrev pub reading_offsets : List ℕ
reading_offsets = range scanned_offset 12

-- if the reading ends and has marked a session, the tested slots, because they change their order (`read` is the desk after part (b), which
-- begins at slot b);
abbrev pub marks_at_end : ℕ → Desk → Bool
marks_at_end S read = eqb read.scanned S && ltb 0 (length (marked_of read.tested))

abbrev pub tested_offsets : ℕ → ℕ → Desk → List ℕ
tested_offsets S b read = map (λ i. list_offset + slot_after S b i) (range (length read.ready) (length read.tested))

-- and part (d), if some are ready: the slot that the first leaves, and the beginning.
abbrev pub hand_back_offsets : ℕ → ℕ → List ℕ → List ℕ
hand_back_offsets S b [] = []
hand_back_offsets S b (session ∷ ready) = (list_offset + b) ∷ beginning_offset S ∷ []

abbrev pub collect_offsets : ℕ → List ℕ → List ℕ → List ℕ
collect_offsets S shown words =
    let b = beginning_in S words in
    let read = scan shown (begin (decode_ring S words)) in
    reading_offsets ++ (hand_back_offsets S b (settle S read).ready ++ cond (marks_at_end S read) (tested_offsets S b read) [])

-- The words of the table that a step names: take and drop, the one screen; swap, the position, and the owed word only "if the old is not 0"; a
-- repeat, none.
abbrev pub ring_step_names : List ℕ → ℕ → Step → List ℕ
ring_step_names table d (Take c p) = screen_word (hall_in table) d c ∷ []
ring_step_names table d (Drop c) = screen_word (hall_in table) d c ∷ []
ring_step_names table d (Swap p session) =
    let old = get_or table (position_word p) 0 in
    cond (is_repeat old session) [] (position_word p ∷ cond (is_session old) (ring_start (hall_in table) d ∷ []) [])
ring_step_names table d Retire =
    let hall = hall_in table in
    map (λ offset. ring_start hall d + offset) (retire_offsets (all_screens hall) (ring_record_of hall table d))
ring_step_names table d Collect =
    let hall = hall_in table in
    map (λ offset. ring_start hall d + offset) (collect_offsets (all_screens hall) (ring_state table).shown (ring_record_of hall table d))

-- Beside them, every step names its desk's next message number.
abbrev pub ring_names : List ℕ → Call → List ℕ
ring_names table call = ring_next_word (hall_in table) call.desk ∷ ring_step_names table call.desk call.step

abbrev pub ring_footprint : List ℕ → Call → ℕ → Bool
ring_footprint table call i = ltb 0 (occurrences i (ring_names table call))

-- The words that an opening names.
abbrev pub ring_opening_footprint : Hall → ℕ → Bool
ring_opening_footprint hall i = ltb i (ring_need hall)

-- ---- "What holds of the first board's replies and list then passes to it."

-- A statement about a history and about tables holds of every history of the ring's calls from an accepted opening on, with 16-bit numbers, and of
-- the tables of the first board that the ring reads as after its first i calls.
abbrev pub FromOpening : Limits → Hall → (List Event → (ℕ → List ℕ) → Type 0) → Type 0
FromOpening limits hall statement =
    (bytes : List ℕ) → IsBytes bytes → (open_ring_bytes limits hall bytes).answer.number ≡ 0 → (calls : List Call) → Calls16 calls
    → let opened = (open_ring_bytes limits hall bytes).after in
    statement (run (step_ring_bytes limits) opened calls) (λ i. linear_table (words_of_bytes (end (step_ring_bytes limits) opened (take i calls))))

-- The calls of the ring as the host makes them, in a room with these limits. What demands 2 and 3, the closing rule and message numbers say of the
-- words of the table holds of the first board's table that the ring reads as.
pub record RingMeetsDemands (limits : Limits) : Type 0 where
  pub demand_1 : (bytes : List ℕ) (call : Call) → IsBytes bytes → Call16 call
      → Demand1 (refusals call) (on_bytes_of bytes (ring_footprint (words_of_bytes bytes) call)) bytes (step_ring_bytes limits bytes call)
  pub demand_1_opening : (hall : Hall) (bytes : List ℕ) → IsBytes bytes
      → Demand1 opening_refusals (on_bytes_of bytes (ring_opening_footprint hall)) bytes (open_ring_bytes limits hall bytes)
  -- about every history from an accepted opening on
  pub demand_2 : (hall : Hall) → FromOpening limits hall (Demand2 hall)
  pub demand_3 : (hall : Hall) → FromOpening limits hall (Demand3 hall)
  pub closing_rule : (hall : Hall) → FromOpening limits hall (λ history tables. ClosingRule hall tables)
  pub hand_back_closes : (hall : Hall) → FromOpening limits hall (HandBackCloses hall)
  pub message_numbers : (hall : Hall) → FromOpening limits hall (MessageNumbers hall)
