-- The second board, whose desk list is a ring (a circular buffer): its layout, the first board that it reads as, when it is sound, and the opening
-- and the steps on it. Document 02, "A list that turns".
use Rattle.std.specs.Prelude.{ℕ, zero, suc, ◌+◌, ◌*◌, ◌-◌, Bool, true, false, cond, ◌&&◌, List, [], ◌∷◌, ◌++◌, length, get_or, take, drop, set, replicate, leb, ltb}
use Rattle.rules.specs.Bytes.{open_on_bytes, step_on_bytes}
use Rattle.rules.specs.Hall.{Desk, Hall, Limits, State, all_screens, max_desks, max_positions, max_screens}
use Rattle.rules.specs.Lists.{chunks, every}
use Rattle.rules.specs.Steps.{Call, Collect, Drop, Question, Result, Retire, Step, Swap, Take, advance, ask, begin, collect, decide, first_no, in_range, is_repeat, perform}
use Rattle.rules.specs.Steps.{questions, refuse, retire, scan, settle}
use Rattle.rules.specs.Table.{decode, decode_desk, encode_desk, hall_in, header_words, in_limits, list_offset, need, position_word, record_sound, slots_in, tail_in}
use Rattle.rules.specs.Table.{table_after_step, tail_offset, tail_words, width_for, within}

-- ---- Layout.
-- "one more word per desk, 0 at opening, says where the list begins": the beginning. It "comes after" the message number (document 01, "Held ready").
abbrev pub beginning_offset : ℕ → ℕ
beginning_offset S = width_for S

abbrev pub ring_width_for : ℕ → ℕ
ring_width_for S = width_for S + 1

-- "its need is P words more"
abbrev pub ring_need : Hall → ℕ
ring_need hall = need hall + hall.desks

-- 16 more than the first board's.
abbrev pub max_ring_words : ℕ
max_ring_words = 2419

-- The words before the records are those of the first board.
abbrev pub front_words : Hall → ℕ
front_words hall = header_words + hall.positions + all_screens hall

-- The offsets in the table of desk d's record, of its next message number and of its beginning.
-- (The record with d others before it, in a hall of L positions and S screens.)
abbrev pub ring_start_for : ℕ → ℕ → ℕ → ℕ
ring_start_for L S d = header_words + L + S + d * ring_width_for S

abbrev pub ring_start : Hall → ℕ → ℕ
ring_start hall d = ring_start_for hall.positions (all_screens hall) (d - 1)

abbrev pub ring_next_word : Hall → ℕ → ℕ
ring_next_word hall d = ring_start hall d + tail_offset (all_screens hall)

abbrev pub beginning_word : Hall → ℕ → ℕ
beginning_word hall d = ring_start hall d + beginning_offset (all_screens hall)

abbrev pub ring_record_of : Hall → List ℕ → ℕ → List ℕ
ring_record_of hall table d = take (ring_width_for (all_screens hall)) (drop (ring_start hall d) table)

-- The table with another record for desk d.
abbrev pub put_ring : Hall → List ℕ → ℕ → List ℕ → List ℕ
put_ring hall table d words = take (ring_start hall d) table ++ (words ++ drop (ring_width_for (all_screens hall)) (drop (ring_start hall d) table))

-- ---- A desk's record: from the ring's to the first board's, and back.
-- A list of slots, read from slot n on and around.
abbrev pub rotate : ℕ → List ℕ → List ℕ
rotate n slots = drop n slots ++ take n slots

abbrev pub beginning_in : ℕ → List ℕ → ℕ
beginning_in S words = get_or words (beginning_offset S) 0

-- The record of the first board that a ring's record reads as: "the ring read from its beginning is the first board's list".
unfoldable pub linear : ℕ → List ℕ → List ℕ
linear S words = take list_offset words ++ (rotate (beginning_in S words) (slots_in S words) ++ take tail_words (tail_in S words))

-- The ring's record that begins at slot b and reads as a record of the first board.
unfoldable pub circular : ℕ → ℕ → List ℕ → List ℕ
circular S b words = take list_offset words ++ (rotate (2 * S - b) (slots_in S words) ++ (tail_in S words ++ (b ∷ [])))

-- A ring's record as a desk, and a desk as a ring's record that begins at slot b.
abbrev pub decode_ring : ℕ → List ℕ → Desk
decode_ring S words = decode_desk S (linear S words)

abbrev pub encode_ring : ℕ → ℕ → Desk → List ℕ
encode_ring S b desk = circular S b (encode_desk S desk)

-- The slot that comes i places after slot b, around the 2S slots.
abbrev pub slot_after : ℕ → ℕ → ℕ → ℕ
slot_after S b i = cond (ltb (b + i) (2 * S)) (b + i) (b + i - 2 * S)

-- "only a hand-back changes it, by one place around": the beginning b after part (d) of a collect, given the ready sessions that it finds.
abbrev pub beginning_after : ℕ → List ℕ → ℕ → ℕ
beginning_after S [] b = b
beginning_after S (session ∷ ready) b = slot_after S b 1

-- The desk that part (d) of a collect finds.
abbrev pub settled : ℕ → List ℕ → Desk → Desk
settled S shown desk = settle S (scan shown (begin desk))

-- A retire and a collect on a ring's record.
abbrev pub retire_ring : ℕ → List ℕ → List ℕ
retire_ring S words = encode_ring S (beginning_in S words) (retire (decode_ring S words))

abbrev pub collect_ring : ℕ → List ℕ → List ℕ → List ℕ
collect_ring S shown words =
    let desk = decode_ring S words in
    encode_ring S (beginning_after S (settled S shown desk).ready (beginning_in S words)) (collect S shown desk).after

-- ---- The first board that a ring reads as: the words before the records, then each record as it reads; then what follows the records.
abbrev pub linear_records : ℕ → ℕ → List ℕ → List ℕ
linear_records S zero words = words
linear_records S (suc n) words = linear S (take (ring_width_for S) words) ++ linear_records S n (drop (ring_width_for S) words)

abbrev pub linear_in : Hall → List ℕ → List ℕ
linear_in hall table = take (front_words hall) table ++ linear_records (all_screens hall) hall.desks (drop (front_words hall) table)

abbrev pub linear_table : List ℕ → List ℕ
linear_table table = linear_in (hall_in table) table

-- The state that a ring holds.
abbrev pub ring_state : List ℕ → State
ring_state table = decode (hall_in table) (linear_table table)

-- ---- Soundness.
-- "its soundness (5) asks also that the beginning is less than 2S"
abbrev pub ring_record_sound : ℕ → List ℕ → Bool
ring_record_sound S words = ltb (beginning_in S words) (2 * S) && record_sound S (linear S words)

abbrev pub ring_records_in : Hall → List ℕ → List (List ℕ)
ring_records_in hall table = chunks hall.desks (ring_width_for (all_screens hall)) (drop (front_words hall) table)

unfoldable pub ring_sound : Limits → List ℕ → Bool
ring_sound limits table =
    in_limits limits (hall_in table)
    && (leb (ring_need (hall_in table)) (length table)
    && every (ring_record_sound (all_screens (hall_in table))) (ring_records_in (hall_in table) table))

-- ---- A step on a ring.

-- The table after an accepted step, but for the message number. Positions and screens are those of the first board.
abbrev pub ring_after_step : List ℕ → ℕ → Step → List ℕ
ring_after_step table d (Take c p) = table_after_step table d (Take c p)
ring_after_step table d (Drop c) = table_after_step table d (Drop c)
ring_after_step table d (Swap p session) =
    let old = get_or table (position_word p) 0 in
    cond (is_repeat old session) table (set (set table (position_word p) session) (ring_start (hall_in table) d) old)
ring_after_step table d Retire =
    let hall = hall_in table in
    put_ring hall table d (retire_ring (all_screens hall) (ring_record_of hall table d))
ring_after_step table d Collect =
    let hall = hall_in table in
    put_ring hall table d (collect_ring (all_screens hall) (ring_state table).shown (ring_record_of hall table d))

abbrev pub ring_after : List ℕ → Call → List ℕ
ring_after table call =
    let number = ring_next_word (hall_in table) call.desk in
    set (ring_after_step table call.desk call.step) number (advance (get_or table number 0))

-- "Answers: the same numbers": the questions and the reply are those of the rules, at the state that the ring holds.
abbrev pub ring_step_if : Limits → Bool → List ℕ → Call → Result (List ℕ)
ring_step_if limits false table call = refuse 5 table
ring_step_if limits true table call =
    let hall = hall_in table in
    let state = ring_state table in
    decide (first_no (questions limits hall state call)) table (perform hall state call).session (ring_after table call)

unfoldable pub step_ring : Limits → List ℕ → Call → Result (List ℕ)
step_ring limits table call = ring_step_if limits (ring_sound limits table) table call

-- ---- The opening. "0 at opening"
abbrev pub opened_ring : Hall → List ℕ → List ℕ
opened_ring hall table = (hall.desks ∷ hall.screens ∷ hall.positions ∷ replicate (ring_need hall - header_words) 0) ++ drop (ring_need hall) table

abbrev pub ring_questions : Limits → Hall → List ℕ → List Question
ring_questions limits hall table =
    ask (in_range hall.desks max_desks) 1
    ∷ ask (in_range hall.screens max_screens) 2
    ∷ ask (in_range hall.positions max_positions) 3
    ∷ ask (within limits hall) 22
    ∷ ask (leb (ring_need hall) (length table)) 4
    ∷ []

unfoldable pub open_ring : Limits → Hall → List ℕ → Result (List ℕ)
open_ring limits hall table = decide (first_no (ring_questions limits hall table)) table 0 (opened_ring hall table)

-- ---- The calls as the host makes them, on bytes.
unfoldable pub open_ring_bytes : Limits → Hall → List ℕ → Result (List ℕ)
open_ring_bytes limits = open_on_bytes (open_ring limits)

unfoldable pub step_ring_bytes : Limits → List ℕ → Call → Result (List ℕ)
step_ring_bytes limits = step_on_bytes (step_ring limits)
