-- The theorem about runs applied: a session that a run puts and takes, that a single call replaces, and that another run retires and hands back;
-- and a message that is delivered singly and again in a run.
use Rattle.std.specs.Prelude.{ℕ, ◌+◌, ◌≤◌, ◌<◌, ◌≡◌, refl, List, [], ◌∷◌, ◌++◌, map, get_or, replicate, take}
use Rattle.std.proofs.Common.{arith}
use Rattle.rules.specs.Bytes.{IsBytes, bytes_of_words, open_bytes, overwrite_words, step_bytes}
use Rattle.rules.proofs.Cases.{◌⇒◌, ok, refused_with}
use Rattle.rules.specs.Demands.{Demand2}
use Rattle.rules.specs.Hall.{hall_limits, hall_of}
use Rattle.rules.specs.History.{◌by◌, effect_at, hand_backs, hand_backs_of, number_at, retirements, retirements_of, retires}
use Rattle.rules.proofs.MessageCases.{table_of_one}
use Rattle.rules.specs.Messages.{Redelivered}
use Rattle.rules.specs.Runs.{AllSent16, Sent, calls_of, in_one_call, lent_of, mixed_history, mixed_tables, run_bytes, single, table_after_mixed}
use Rattle.rules.specs.Steps.{Collect, Drop, Event, Retire, Swap, Take, ◌numbered◌, ◌sends◌, end, run}
use Rattle.rules.specs.Table.{decode_desk, encode_desk, open_table, record_sound, sound, step_table}
use Rattle.rules.proofs.Theorems.{mixed_histories_meet_demands}
use Rattle.rules.proofs.Laws.Bytes.Bytes.{bytes_are_bytes}

abbrev first_words : List ℕ
first_words = (3 ∷ 0 ∷ 1 ∷ 0 ∷ 1 ∷ 5 ∷ []) ++ (1 ∷ 1 ∷ 1 ∷ 1 ∷ 1 ∷ 0 ∷ [])

abbrev last_words : List ℕ
last_words =
    (4 ∷ 3 ∷ 1 ∷ 0 ∷ 0 ∷ 0 ∷ [])
    ++ ((5 ∷ 4 ∷ 1 ∷ 0 ∷ 0 ∷ 0 ∷ []) ++ ((2 ∷ 5 ∷ 1 ∷ 1 ∷ 0 ∷ 0 ∷ []) ++ ((9 ∷ 6 ∷ 1 ∷ 1 ∷ 1 ∷ 1 ∷ []) ++ (5 ∷ 6 ∷ 1 ∷ 0 ∷ 0 ∷ 0 ∷ []))))

abbrev sent : List Sent
sent =
    in_one_call (bytes_of_words first_words) (bytes_of_words (replicate 4 777)) ∷ single (1 sends Swap 1 6 numbered 2) ∷ in_one_call (bytes_of_words last_words) (bytes_of_words (replicate 11 777)) ∷ []

abbrev opened : List ℕ
opened = (open_bytes hall_limits (hall_of 1 1 1) (bytes_of_words (replicate 21 777))).after

-- All that was sent is 16 bits wide.
pub sent-wide : AllSent16 sent
sent-wide = (
  (bytes_are_bytes first_words, bytes_are_bytes (replicate 4 777)),
  ((omega arith, omega arith, (omega arith, omega arith)), ((bytes_are_bytes last_words, bytes_are_bytes (replicate 11 777)), tt)),
)

abbrev history : List Event
history = mixed_history hall_limits opened sent

-- What the host learns: seven answers, the last of which hands 5 back.
pub history-computed :
    history
    ≡ (1 sends Swap 1 5 ⇒ ok 0)
    ∷ (1 sends Take 1 1 numbered 1 ⇒ ok 5)
    ∷ (1 sends Swap 1 6 numbered 2 ⇒ ok 5)
    ∷ (1 sends Retire numbered 3 ⇒ ok 5)
    ∷ (1 sends Collect numbered 4 ⇒ ok 0)
    ∷ (1 sends Drop 1 numbered 5 ⇒ ok 5)
    ∷ (1 sends Collect numbered 6 ⇒ ok 5)
    ∷ []
unfolding open_bytes open_table run_bytes overwrite_words step_bytes step_table sound record_sound encode_desk decode_desk
history-computed = refl

-- They are the answers of single calls, and the bytes are theirs.
pub history_is_single : (history ≡ run (step_bytes hall_limits) opened (calls_of history)) × (table_after_mixed hall_limits opened sent ≡ end (step_bytes hall_limits) opened (calls_of history))
    × (table_after_mixed hall_limits opened sent ≡ bytes_of_words (table_of_one 6 0 0 0 0 0 7))
unfolding open_bytes open_table run_bytes overwrite_words step_bytes step_table sound record_sound encode_desk decode_desk
history_is_single =
    let singly = (mixed_histories_meet_demands hall_limits).singly opened sent opened_are sent-wide in (singly.history, singly.after, refl)
  where
    opened_are : IsBytes opened
    opened_are = bytes_are_bytes (table_of_one 0 0 0 0 0 0 0)

-- Demand 2: the hand-back at index 6 is paired with a retirement before it of 5, by the same desk; and the counts agree after all seven.
pub paired : Demand2 (hall_of 1 1 1) history (mixed_tables hall_limits opened sent)
unfolding open_bytes open_table
paired = (mixed_histories_meet_demands hall_limits).demand_2 (hall_of 1 1 1) (bytes_of_words (replicate 21 777)) (bytes_are_bytes (replicate 21 777)) refl sent sent-wide

pub hands-back-in-a-run :
    (paired.guarantee.pair 6 < 6)
    × (effect_at history (paired.guarantee.pair 6) ≡ retires 5 by 1)
    × (retirements_of 1 5 (take 7 history) ≡ hand_backs_of 1 5 (take 7 history) + 0)
unfolding open_bytes open_table run_bytes overwrite_words step_bytes step_table sound record_sound encode_desk decode_desk
hands-back-in-a-run = (paired.guarantee.earlier 6 1 5 refl, paired.guarantee.same 6 1 5 refl, paired.counts 1 5 7)

-- Demand 3: at most twice the hall's screens on the list, after each of the seven.
pub room_in_a_run : (i : ℕ) → retirements 1 (take i history) ≤ hand_backs 1 (take i history) + 2
unfolding open_bytes open_table
room_in_a_run = ((mixed_histories_meet_demands hall_limits).demand_3 (hall_of 1 1 1) (bytes_of_words (replicate 21 777)) (bytes_are_bytes (replicate 21 777)) refl sent sent-wide).list 1

-- Demand 1: the first run is accepted, and writes neither the list (byte 36) nor past its two replies (byte 8).
pub keeps-in-a-run :
    (get_or (run_bytes hall_limits (bytes_of_words first_words) (lent_of (bytes_of_words (replicate 5 777)) (bytes_of_words (table_of_one 0 0 0 0 0 0 0)))).after.table 36 0 ≡ 0)
    × (get_or (run_bytes hall_limits (bytes_of_words first_words) (lent_of (bytes_of_words (replicate 5 777)) (bytes_of_words (table_of_one 0 0 0 0 0 0 0)))).after.replies 8 0 ≡ 9)
unfolding run_bytes overwrite_words step_bytes step_table sound record_sound encode_desk decode_desk
keeps-in-a-run =
    let demand = (mixed_histories_meet_demands hall_limits).demand_1 (bytes_of_words (table_of_one 0 0 0 0 0 0 0)) (in_one_call (bytes_of_words first_words) (bytes_of_words (replicate 5 777))) (bytes_are_bytes (table_of_one 0 0 0 0 0 0 0)) (bytes_are_bytes first_words, bytes_are_bytes (replicate 5 777)) in
    (demand.table.accepted refl 36 refl, demand.replies.accepted refl 8 refl)

-- ---- A swap is delivered singly, and again in a run: it is refused with 23 there.
abbrev twice : List Sent
twice = single (1 sends Swap 1 5) ∷ in_one_call (bytes_of_words first_words) (bytes_of_words (replicate 4 777)) ∷ []

pub again_in_a_run : (map (λ (event : Event). event.answer) (mixed_history hall_limits opened twice) ≡ ok 0 ∷ refused_with 23 ∷ ok 5 ∷ []) × (number_at (mixed_history hall_limits opened twice) 1 ≡ 23)
unfolding open_bytes open_table run_bytes overwrite_words step_bytes step_table sound record_sound encode_desk decode_desk
again_in_a_run =
    let wide : AllSent16 twice = ((omega arith, omega arith, (omega arith, omega arith)), ((bytes_are_bytes first_words, bytes_are_bytes (replicate 4 777)), tt)) in
    let numbers = (mixed_histories_meet_demands hall_limits).message_numbers (hall_of 1 1 1) (bytes_of_words (replicate 21 777)) (bytes_are_bytes (replicate 21 777)) refl twice wide in
    let again : Redelivered (mixed_history hall_limits opened twice) 0 1 = record { later = omega arith; within = omega arith; accepted = refl; desk = refl; message = refl } in
    (refl, (numbers.again 0 1 again (omega arith)).0)
