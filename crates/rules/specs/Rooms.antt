-- Two rooms, one set of rules: what the demands say of the calls of a room, whatever its limits; and what the hall's calls do without a training
-- room. There is no proof here. Document 02, "A training room": "Room, pairing and hand-back hold in both rooms by a single argument."
use Rattle.std.specs.Prelude.{ℕ, ◌≡◌, Bool, cond, ◌&&◌, List, [], ◌∷◌, length, take, leb, eqb}
use Rattle.rules.specs.Bytes.{Call16, Calls16, IsBytes, open_bytes, open_on_bytes, step_bytes, step_on_bytes, words_of_bytes}
use Rattle.rules.specs.Demands.{Demand1, Demand2, Demand3, footprint, on_bytes_of, opening_footprint, opening_refusals, refusals}
use Rattle.rules.specs.Hall.{Hall, Limits, all_screens, hall_limits}
use Rattle.rules.specs.Lists.{every}
use Rattle.rules.specs.Steps.{Call, Question, Result, decide, end, first_no, perform, questions, refuse, run}
use Rattle.rules.specs.Table.{decode, hall_in, in_hall, need, open_questions, open_table, opened_table, record_sound, records_in, step_table, table_after}

-- The calls of a room with these limits, as the host makes them, meet the three demands.
pub record MeetsDemands (limits : Limits) : Type 0 where
  pub demand_1 : (bytes : List ℕ) (call : Call) → IsBytes bytes → Call16 call
      → Demand1 (refusals call) (on_bytes_of bytes (footprint (words_of_bytes bytes) call)) bytes (step_bytes limits bytes call)
  pub demand_1_opening : (hall : Hall) (bytes : List ℕ) → IsBytes bytes
      → Demand1 opening_refusals (on_bytes_of bytes (opening_footprint hall)) bytes (open_bytes limits hall bytes)
  -- "sent by any desks in any order to a board fresh from an accepted opening"
  pub demand_2 : (hall : Hall) (bytes : List ℕ) → IsBytes bytes → (open_bytes limits hall bytes).answer.number ≡ 0 → (calls : List Call) → Calls16 calls
      → Demand2 hall (run (step_bytes limits) (open_bytes limits hall bytes).after calls)
      (λ i. words_of_bytes (end (step_bytes limits) (open_bytes limits hall bytes).after (take i calls)))
  pub demand_3 : (hall : Hall) (bytes : List ℕ) → IsBytes bytes → (open_bytes limits hall bytes).answer.number ≡ 0 → (calls : List Call) → Calls16 calls
      → Demand3 hall (run (step_bytes limits) (open_bytes limits hall bytes).after calls)
      (λ i. words_of_bytes (end (step_bytes limits) (open_bytes limits hall bytes).after (take i calls)))

-- ---- The hall without a training room: nothing asks 22, and soundness asks the ranges of document 01 alone.

-- The questions but those with one number.
abbrev pub without : ℕ → List Question → List Question
without number [] = []
without number (question ∷ questions) = cond (eqb question.number number) (without number questions) (question ∷ without number questions)

abbrev pub sound_before : List ℕ → Bool
sound_before table =
    let hall = hall_in table in
    in_hall hall && (leb (need hall) (length table) && every (record_sound (all_screens hall)) (records_in hall table))

abbrev pub step_before : List ℕ → Call → Result (List ℕ)
step_before table call =
    let hall = hall_in table in
    let state = decode hall table in
    cond (sound_before table)
    (decide (first_no (without 22 (questions hall_limits hall state call))) table (perform hall state call).session (table_after table call))
    (refuse 5 table)

abbrev pub open_before : Hall → List ℕ → Result (List ℕ)
open_before hall table = decide (first_no (without 22 (open_questions hall_limits hall table))) table 0 (opened_table hall table)

-- Every call of the hall, with 16-bit numbers, on words and on bytes, answers and writes what it does without a training room, and none is
-- answered 22.
pub record HallUnchanged : Type 0 where
  pub steps : (table : List ℕ) (call : Call) → Call16 call → step_table hall_limits table call ≡ step_before table call
  pub openings : (hall : Hall) (table : List ℕ) → open_table hall_limits hall table ≡ open_before hall table
  pub steps-on_bytes : (bytes : List ℕ) (call : Call) → Call16 call → step_bytes hall_limits bytes call ≡ step_on_bytes step_before bytes call
  pub openings-on_bytes : (hall : Hall) (bytes : List ℕ) → open_bytes hall_limits hall bytes ≡ open_on_bytes open_before hall bytes
  pub never_22 : (bytes : List ℕ) (call : Call) → Call16 call → (step_bytes hall_limits bytes call).answer.number ≡ 22 → ⊥
  pub opening_never_22 : (hall : Hall) (bytes : List ℕ) → (open_bytes hall_limits hall bytes).answer.number ≡ 22 → ⊥
