-- The theorems applied to histories, tables and states that meet their premises. What the statements admit and refuse, without theorems,
-- is in HistoryCases and CallCases.
use Rattle.std.specs.Prelude.{ℕ, ◌+◌, ◌≤◌, ◌<◌, ◌≡◌, refl, List, [], ◌∷◌, ◌++◌, get_or, replicate, set, take}
use Rattle.std.proofs.Common.{arith, sym, subst}
use Rattle.rules.specs.Bytes.{Call16, Calls16, bytes_of_words, open_bytes, overwrite_words, step_bytes, words_of_bytes}
use Rattle.rules.proofs.CallCases.{busy, busy_formed, desk_with, quiet, quiet_formed, same_view, three_desks}
use Rattle.rules.proofs.Cases.{busy_table, ok}
use Rattle.rules.specs.Closing.{ShownNowhere, StandsNowhere}
use Rattle.rules.specs.Demands.{HandedBackWithin}
use Rattle.rules.specs.Hall.{Hall, Limits, State, hall_limits, hall_of, training_limits}
use Rattle.rules.specs.History.{DroppedBefore, Linked, effect_at, hand_backs, hand_backs_of, number_at, retirements}
use Rattle.rules.proofs.HistoryCases.{case_d, history_from, history_of, linked_across_repeats, linked_in_D, paired_across_repeats, paired_in_D, repeated}
use Rattle.rules.proofs.HistoryCases.{repeated_put_fresh, retiring, reused, reused_put_fresh, sent_in, slowest, tables_of}
use Rattle.rules.specs.Lists.{occurrences}
use Rattle.rules.specs.Locality.{StepsAlike, desk_at}
use Rattle.rules.specs.Rooms.{open_before, step_before}
use Rattle.rules.specs.Steps.{Call, Collect, Event, Retire, Swap, Take, ◌numbered◌, ◌sends◌, accept, renumber, run, step}
use Rattle.rules.specs.Table.{decode_desk, encode_desk, next_word, open_table, position_word, record_sound, sound, step_table}
use Rattle.rules.proofs.Theorems.{back_sooner, closing_rule, demand_2, demand_3, hall_unchanged, hand_back_closes}
use Rattle.rules.proofs.Theorems.{other_desks_stay, repeat_only_moves_number, repeat_only_moves_number_on_bytes, step_for_step, step_is_local, swap_promise}
use Rattle.rules.proofs.Theorems.{swap_promise_on_bytes, training_room_meets_demands}
use Rattle.rules.proofs.Laws.History.Checks.{each_below, never_shown, unreferenced_by_test}

-- ---- Demand 3, back: 5 is retired at index 2 and not shown; the third collect is at index 5.
abbrev back : List Call
back = retiring 5 ++ (1 sends Collect ∷ 1 sends Collect ∷ 1 sends Collect ∷ [])

pub back_by_demand : 1 ≤ hand_backs_of 1 5 (history_of (hall_of 1 1 1) 21 back)
unfolding open_table step_table sound record_sound encode_desk decode_desk
back_by_demand =
    (demand_3 hall_limits (hall_of 1 1 1) (replicate 21 9) refl (sent_in (hall_of 1 1 1) 21 back)).back 1 5 2 5 refl refl (never_shown 5 (history_of (hall_of 1 1 1) 21 back) refl 2 5)

-- ---- Demand 3 in numbers, of the largest hall, S = 64: at most 128 on a list, and 192 collects.
pub largest_list : (calls : List Call) (d i : ℕ)
    → retirements d (take i (history_from (hall_of 16 4 64) 2403 calls)) ≤ hand_backs d (take i (history_from (hall_of 16 4 64) 2403 calls)) + 128
unfolding open_table
largest_list calls = (demand_3 hall_limits (hall_of 16 4 64) (replicate 2403 9) refl calls).list

pub largest_back : (calls : List Call) → HandedBackWithin 192 (history_from (hall_of 16 4 64) 2403 calls)
unfolding open_table
largest_back calls = (demand_3 hall_limits (hall_of 16 4 64) (replicate 2403 9) refl calls).back

-- ---- The sharper bound, 8 collects for S = 3, on the history in which 7 are too few.
pub eight_are_enough : 1 ≤ hand_backs_of 1 5 (history_of (hall_of 3 1 1) 70 slowest)
unfolding open_table step_table sound record_sound encode_desk decode_desk
eight_are_enough =
    back_sooner hall_limits (hall_of 3 1 1) (replicate 70 9) refl (sent_in (hall_of 3 1 1) 70 slowest) 1 5 21 32 refl refl (never_shown 5 (history_of (hall_of 3 1 1) 70 slowest) refl 21 32)

-- ---- Demand 2. Case D: the hand-back at index 6 is paired with the retirement at index 3, so its take was dropped before.
pub dropped_in_D : DroppedBefore (effect_at (history_of (hall_of 1 1 1) 21 case_d)) 1 6
unfolding open_table step_table sound record_sound encode_desk decode_desk
dropped_in_D =
    let g = (demand_2 hall_limits (hall_of 1 1 1) (replicate 21 9) refl (sent_in (hall_of 1 1 1) 21 case_d)).guarantee in
    g.dropped 6 1 300 1 refl (subst (Linked (effect_at (history_of (hall_of 1 1 1) 21 case_d)) 1) (sym (paired_in_D g)) linked_in_D)

-- The take at index 1, which repeats by both desks follow, was dropped before the hand-back at index 9.
pub dropped_across_repeats : DroppedBefore (effect_at (history_of (hall_of 2 1 1) 50 repeated)) 1 9
unfolding open_table step_table sound record_sound encode_desk decode_desk
dropped_across_repeats =
    let g = (demand_2 hall_limits (hall_of 2 1 1) (replicate 50 9) refl (sent_in (hall_of 2 1 1) 50 repeated)).guarantee in
    g.dropped 9 1 5 1 refl (subst (Linked (effect_at (history_of (hall_of 2 1 1) 50 repeated)) 1) (sym (paired_across_repeats g)) linked_across_repeats)

-- ---- The closing rule: session 5 is put, taken, retired, handed back, and put again.

-- After 7 calls it is unreferenced, so no screen shows it; and no word of the table is 5 but desk 1's next message number.
pub closes_reused : ShownNowhere (hall_of 2 1 1) (tables_of (hall_of 2 1 1) 50 reused 7) 5 × (occurrences 5 (tables_of (hall_of 2 1 1) 50 reused 7) ≡ 1)
    × (get_or (tables_of (hall_of 2 1 1) 50 reused 7) (next_word (hall_of 2 1 1) 1) 0 ≡ 5)
unfolding open_table step_table sound record_sound encode_desk decode_desk
closes_reused = (
  closing_rule hall_limits (hall_of 2 1 1) (replicate 50 9) refl (sent_in (hall_of 2 1 1) 50 reused) 7 5 (λ z. omega arith)
      (unreferenced_by_test (hall_of 2 1 1) (tables_of (hall_of 2 1 1) 50 reused 7) 5 refl),
  refl,
  refl,
)

-- Each swap found it unreferenced, so it may be closed at the hand-back, at index 12.
pub reused_closes_at_once : StandsNowhere (hall_of 2 1 1) (tables_of (hall_of 2 1 1) 50 reused 13) 5 × (occurrences 5 (tables_of (hall_of 2 1 1) 50 reused 13) ≡ 0)
unfolding open_table step_table sound record_sound encode_desk decode_desk
reused_closes_at_once = (hand_back_closes hall_limits (hall_of 2 1 1) (replicate 50 9) refl (sent_in (hall_of 2 1 1) 50 reused) 12 1 5 refl reused_put_fresh, refl)

-- In the history with repeats, 5 may be closed at the hand-back, at index 9. It is then unreferenced, so the closing rule says the same.
pub repeated-closes-at-once :
    StandsNowhere (hall_of 2 1 1) (tables_of (hall_of 2 1 1) 50 repeated 10) 5 × ShownNowhere (hall_of 2 1 1) (tables_of (hall_of 2 1 1) 50 repeated 10) 5
unfolding open_table step_table sound record_sound encode_desk decode_desk
repeated-closes-at-once = (
  hand_back_closes hall_limits (hall_of 2 1 1) (replicate 50 9) refl (sent_in (hall_of 2 1 1) 50 repeated) 9 1 5 refl repeated_put_fresh,
  closing_rule hall_limits (hall_of 2 1 1) (replicate 50 9) refl (sent_in (hall_of 2 1 1) 50 repeated) 10 5 (λ z. omega arith)
      (unreferenced_by_test (hall_of 2 1 1) (tables_of (hall_of 2 1 1) 50 repeated 10) 5 refl),
)

-- ---- Step for step. A table of one desk with 5 ready and 6 waiting that no history here makes, with a word past the need, whose next
-- message number is 65,535: a collect replies 5 and leaves the table of the state without 5, with number 0, and the word.
abbrev given : List ℕ
given = 1 ∷ 1 ∷ 1 ∷ 7 ∷ 0 ∷ (0 ∷ 0 ∷ 1 ∷ 0 ∷ 1 ∷ replicate 8 0 ++ (5 ∷ 6 ∷ 65535 ∷ 9 ∷ []))

pub given-collect : step_table hall_limits given (1 sends Collect numbered 65535) ≡ accept 5 (1 ∷ 1 ∷ 1 ∷ 7 ∷ 0 ∷ (0 ∷ 0 ∷ 1 ∷ 0 ∷ 0 ∷ replicate 8 0 ++ (6 ∷ 0 ∷ 0 ∷ 9 ∷ [])))
unfolding open_table step_table sound record_sound encode_desk decode_desk
given-collect = step_for_step hall_limits given (each_below 65535 given refl) refl (1 sends Collect numbered 65535)

-- ---- Repeats, by desk 2 at position 1, which holds 7; desk 1 owes 9. Every word stays but desk 2's message number, word 42, which moves on from 0
-- to 1; and every byte but that word's, with an odd one after them.
pub busy_repeat : step_table hall_limits busy_table (2 sends Swap 1 7) ≡ accept 7 (set busy_table 42 1)
unfolding open_table step_table sound record_sound encode_desk decode_desk
busy_repeat = repeat_only_moves_number hall_limits busy_table refl 0 2 1 refl

pub busy_repeat_on_bytes : let bytes = bytes_of_words busy_table ++ (9 ∷ []) in step_bytes hall_limits bytes (2 sends Swap 1 7) ≡ accept 7 (set bytes 84 1)
unfolding open_table step_table sound record_sound encode_desk decode_desk overwrite_words
busy_repeat_on_bytes = let bytes = bytes_of_words busy_table ++ (9 ∷ []) in repeat_only_moves_number_on_bytes hall_limits bytes refl 0 2 1 refl

-- The reply 7 to a swap of 7 says that desk 1's message number, word 24, has not changed; and a swap to 4 makes desk 2 owe 7, so position 1
-- does not hold 7.
pub busy-promised :
    (get_or (step_table hall_limits busy_table (2 sends Swap 1 7)).after 24 0 ≡ get_or busy_table 24 0)
    × (get_or (step_table hall_limits busy_table (2 sends Swap 1 4)).after (position_word 1) 0 ≡ 7 → ⊥)
unfolding open_table step_table sound record_sound encode_desk decode_desk
busy-promised = (
  (swap_promise hall_limits busy_table 0 2 1 7).unchanged refl 24 (λ same. omega (arith, same)),
  (swap_promise hall_limits busy_table 0 2 1 4).replaced refl (λ none. omega (arith, none)),
)

pub busy_promised_on_bytes : get_or (words_of_bytes (step_bytes hall_limits (bytes_of_words busy_table) (2 sends Swap 1 7)).after) 24 0 ≡ get_or busy_table 24 0
unfolding open_table step_table sound record_sound encode_desk decode_desk step_bytes
busy_promised_on_bytes =
    let bytes = bytes_of_words busy_table in
    (swap_promise_on_bytes hall_limits bytes (each_below 255 bytes refl) 0 2 1 7 (omega arith, omega arith, (omega arith, omega arith))).unchanged refl 24
    (λ same. omega (arith, same))

-- ---- Locality: a collect of desk 1 does the same in two states that differ in everything that it does not read, and so does a take of
-- position 1, which holds 7 in both.
pub collects_alike : StepsAlike three_desks (1 sends Collect) (step hall_limits three_desks quiet (1 sends Collect)) (step hall_limits three_desks busy (1 sends Collect))
collects_alike = step_is_local hall_limits three_desks quiet busy quiet_formed busy_formed (1 sends Collect) same_view.0

pub takes_alike : StepsAlike three_desks (1 sends Take 1 1) (step hall_limits three_desks quiet (1 sends Take 1 1)) (step hall_limits three_desks busy (1 sends Take 1 1))
takes_alike = step_is_local hall_limits three_desks quiet busy quiet_formed busy_formed (1 sends Take 1 1) same_view.1

-- Desk 2 retires 4, its next message number is 1, and desk 1's record is unchanged.
abbrev after_retire : State
after_retire = (step hall_limits three_desks busy (2 sends Retire)).after

pub retires_alone : (desk_at three_desks after_retire 2 ≡ renumber (desk_with 0 (4 ∷ [])) 1) × (desk_at three_desks after_retire 1 ≡ desk_at three_desks busy 1)
retires_alone = (refl, (other_desks_stay hall_limits three_desks busy (2 sends Retire)).desks 1 (λ same. omega arith))

-- ---- The rooms, as the host calls. In the largest training room, S = 4: at most 8 on a list, and 12 collects.
abbrev history_in : Limits → Hall → List ℕ → List Call → List Event
history_in limits hall bytes calls = run (step_bytes limits) (open_bytes limits hall bytes).after calls

pub training_list : (calls : List Call) → Calls16 calls → (d i : ℕ)
    → let history = history_in training_limits (hall_of 4 1 64) (replicate 318 9) calls in
    retirements d (take i history) ≤ hand_backs d (take i history) + 8
unfolding open_bytes open_table
training_list calls wide = (training_room_meets_demands.demand_3 (hall_of 4 1 64) (replicate 318 9) (each_below 255 (replicate 318 9) refl) refl calls wide).list

pub training_back : (calls : List Call) → Calls16 calls → HandedBackWithin 12 (history_in training_limits (hall_of 4 1 64) (replicate 318 9) calls)
unfolding open_bytes open_table
training_back calls wide = (training_room_meets_demands.demand_3 (hall_of 4 1 64) (replicate 318 9) (each_below 255 (replicate 318 9) refl) refl calls wide).back

-- 999 is retired at index 3, after a swap that is answered 22, whose number the next one carries; the third collect is at index 6, and hands it
-- back. There is an odd byte.
abbrev trained : List Call
trained =
    1 sends Swap 1 999 ∷ (1 sends Swap 1 1000 numbered 1) ∷ (1 sends Swap 1 0 numbered 1) ∷ (1 sends Retire numbered 2)
    ∷ (1 sends Collect numbered 3) ∷ (1 sends Collect numbered 4) ∷ (1 sends Collect numbered 5) ∷ []

swap16 : (number session : ℕ) → number < 65536 → session < 65536 → Call16 (1 sends Swap 1 session numbered number)
swap16 number session low small = (low, omega arith, (omega arith, small))

pub trained_by_demand : (number_at (history_in training_limits (hall_of 1 1 1) (replicate 43 9) trained) 1 ≡ 22)
    × (1 ≤ hand_backs_of 1 999 (history_in training_limits (hall_of 1 1 1) (replicate 43 9) trained))
unfolding open_bytes step_bytes overwrite_words open_table step_table sound record_sound encode_desk decode_desk
trained_by_demand =
    let bytes : List ℕ = replicate 43 9 in
    let one : 1 < 65536 = omega arith in
    let wide : Calls16 trained = (
      swap16 0 999 (omega arith) (omega arith),
      (swap16 1 1000 one (omega arith), (swap16 1 0 one (omega arith), ((omega arith, one, tt), ((omega arith, one, tt), ((omega arith, one, tt), ((omega arith, one, tt), tt)))))),
    ) in
    (refl, (training_room_meets_demands.demand_3 (hall_of 1 1 1) bytes (each_below 255 bytes refl) refl trained wide).back 1 999 3 6 refl refl (never_shown 999 (history_in training_limits (hall_of 1 1 1) bytes trained) refl 3 6))

-- The hall takes 1,000 at position 1, and opens 5 desks, as it does without a training room.
pub as_before :
    (step_table hall_limits busy_table (2 sends Swap 1 1000) ≡ step_before busy_table (2 sends Swap 1 1000))
    × ((step_before busy_table (2 sends Swap 1 1000)).answer ≡ ok 7)
    × (open_table hall_limits (hall_of 5 1 1) (replicate 129 9) ≡ open_before (hall_of 5 1 1) (replicate 129 9))
    × ((open_before (hall_of 5 1 1) (replicate 129 9)).answer ≡ ok 0)
unfolding record_sound decode_desk
as_before = (
  hall_unchanged.steps busy_table (2 sends Swap 1 1000) (omega arith, omega arith, (omega arith, omega arith)),
  refl,
  hall_unchanged.openings (hall_of 5 1 1) (replicate 129 9),
  refl,
)
