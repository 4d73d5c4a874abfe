-- The theorems about the ring applied to what meets their premises: a sound ring whose list goes around the end, and the history of RingCases from an opening on.
use Rattle.std.specs.Prelude.{ℕ, zero, suc, ◌+◌, ◌%◌, ◌≤◌, ◌<◌, ◌≡◌, refl, true, List, [], ◌∷◌, ◌++◌, get_or, length, replicate, take}
use Rattle.std.proofs.Common.{arith, ap}
use Rattle.rules.specs.Bytes.{Calls16, IsBytes, bytes_of_words, overwrite_words, step_bytes, words_of_bytes}
use Rattle.rules.specs.Demands.{Demand2}
use Rattle.rules.specs.Hall.{hall_limits, hall_of}
use Rattle.rules.specs.History.{◌by◌, effect_at, hand_backs, hand_backs_of, number_at, retirements, retirements_of, retires}
use Rattle.rules.specs.Messages.{Redelivered}
use Rattle.rules.specs.Steps.{Call, Collect, Result, Retire, ◌numbered◌, ◌sends◌, end, run}
use Rattle.rules.specs.Table.{decode_desk, encode_desk, open_table, record_sound, step_table}
use Rattle.rules.proofs.Laws.Bytes.Bytes.{bytes_are_bytes}
use Rattle.rules.proofs.Laws.History.Checks.{each_below}
use Rattle.rules.proofs.Laws.Table.WordBounds.{below-append}
use Rattle.ring_rules.specs.Ring.{circular, linear, linear_table, open_ring, open_ring_bytes, ring_sound, step_ring, step_ring_bytes}
use Rattle.ring_rules.proofs.RingCases.{calls, history, ring_of_one}
use Rattle.ring_rules.specs.RingDemands.{ring_names}
use Rattle.ring_rules.proofs.RingTheorems.{beginning_is_hand_backs, beginnings_count_hand_backs, beginnings_count_hand_backs_on_bytes, hand_back_names_few, opened-is_sound}
use Rattle.ring_rules.proofs.RingTheorems.{opened_reads_as, ring_as_first_board, ring_as_first_board_from_opening, ring_as_first_board_on_bytes, ring_demand_1, ring_need_is_enough, ring_need_is_enough_to_open, ring_never_unsound}
use Rattle.ring_rules.proofs.RingTheorems.{ring_of_hall_meets_demands, same_step, stays_sound}

-- ---- A sound ring: 6 is ready at slot 1, where the list begins, and 7 waits at slot 0. The first board that it reads as has 6, 7.
abbrev ring : List ℕ
ring = ring_of_one 8 0 0 1 1 7 6 8 1

abbrev first : List ℕ
first = (1 ∷ 1 ∷ 1 ∷ 8 ∷ 0 ∷ 0 ∷ 0 ∷ 1 ∷ 0 ∷ 1 ∷ replicate 8 0) ++ (6 ∷ 7 ∷ 8 ∷ [])

pub ring-sound : ring_sound hall_limits ring ≡ true
unfolding ring_sound linear record_sound
ring-sound = refl

pub reads_as_first : linear_table ring ≡ first
unfolding linear
reads_as_first = refl

abbrev two_collects : List Call
two_collects = 1 sends Collect numbered 8 ∷ 1 sends Collect numbered 9 ∷ []

-- The same two replies from both, and after the first collect both hold 7 alone.
pub same_replies :
    (run (step_ring hall_limits) ring two_collects ≡ run (step_table hall_limits) (linear_table ring) two_collects)
    × (linear_table (end (step_ring hall_limits) ring (take 1 two_collects)) ≡ end (step_table hall_limits) (linear_table ring) (take 1 two_collects))
same_replies = let same = ring_as_first_board hall_limits ring ring-sound two_collects in (same.replies, same.reads 1)

pub same_session : (step_ring hall_limits ring (1 sends Collect numbered 8)).answer ≡ (step_table hall_limits (linear_table ring) (1 sends Collect numbered 8)).answer
same_session = (same_step hall_limits ring ring-sound (1 sends Collect numbered 8)).answer

pub sound-after : ring_sound hall_limits (end (step_ring hall_limits) ring two_collects) ≡ true
sound-after = stays_sound hall_limits ring ring-sound two_collects

-- The beginning: 1, then twice one place around the two slots.
pub begins_at_1_again : get_or (end (step_ring hall_limits) ring two_collects) 21 0 ≡ (1 + hand_backs 1 (run (step_ring hall_limits) ring two_collects)) % 2
begins_at_1_again = beginnings_count_hand_backs hall_limits ring ring-sound two_collects 1 (omega arith) (omega arith)

-- On bytes, with an odd last byte in the ring.
abbrev ring_bytes : List ℕ
ring_bytes = bytes_of_words ring ++ (7 ∷ [])

ring_bytes_lem : IsBytes ring_bytes
ring_bytes_lem = below-append 256 (bytes_of_words ring) (7 ∷ []) (bytes_are_bytes ring) odd
  where
    odd : IsBytes (7 ∷ [])
    odd zero = omega arith
    odd (suc j) = omega arith

two_wide : Calls16 two_collects
two_wide = ((omega arith, omega arith, tt), ((omega arith, omega arith, tt), tt))

pub same_replies_on_bytes : run (step_ring_bytes hall_limits) ring_bytes two_collects ≡ run (step_bytes hall_limits) (bytes_of_words first) two_collects
unfolding ring_sound linear record_sound
same_replies_on_bytes = (ring_as_first_board_on_bytes hall_limits ring_bytes (bytes_of_words first) ring_bytes_lem (bytes_are_bytes first) refl refl two_collects two_wide).replies

pub begins-on_bytes : get_or (words_of_bytes (end (step_ring_bytes hall_limits) ring_bytes two_collects)) 21 0 ≡ (1 + hand_backs 1 (run (step_ring_bytes hall_limits) ring_bytes two_collects)) % 2
unfolding ring_sound linear record_sound
begins-on_bytes = beginnings_count_hand_backs_on_bytes hall_limits ring_bytes ring_bytes_lem refl two_collects two_wide 1 (omega arith) (omega arith)

-- ---- Demand 1: a collect of this ring, whose reading ends with nothing marked, keeps the owed word, the other slot's 7 and the position; a refused retire keeps all.
words_16 : (i : ℕ) → get_or ring i 0 < 65536
words_16 = each_below 65535 ring refl

pub collect-keeps :
    (get_or (step_ring hall_limits ring (1 sends Collect numbered 8)).after 18 0 ≡ 7) × (get_or (step_ring hall_limits ring (1 sends Collect numbered 8)).after 5 0 ≡ 0) × ((step_ring hall_limits ring (1 sends Retire numbered 8)).after ≡ ring)
unfolding step_ring ring_sound linear circular encode_desk decode_desk record_sound
collect-keeps =
    let demand = ring_demand_1 hall_limits ring words_16 (1 sends Collect numbered 8) in
    (demand.accepted refl 18 refl, demand.accepted refl 5 refl, ((ring_demand_1 hall_limits ring words_16 (1 sends Retire numbered 8)).refused 12 refl).2)

pub names_fifteen : length (ring_names ring (1 sends Collect numbered 8)) ≤ 15
unfolding linear decode_desk
names_fifteen = hand_back_names_few ring 8 1 refl

-- Words past the need are not read, even such as no record may hold, and stay.
pub behind_the_need : (step_ring hall_limits (ring ++ (65535 ∷ 65535 ∷ [])) (1 sends Collect numbered 8)).after ≡ ring_of_one 8 0 0 1 0 7 0 9 0 ++ (65535 ∷ 65535 ∷ [])
unfolding step_ring ring_sound linear circular encode_desk decode_desk record_sound
behind_the_need = ap (λ (result : Result (List ℕ)). result.after) (ring_need_is_enough hall_limits ring (65535 ∷ 65535 ∷ []) (omega arith) (1 sends Collect numbered 8))

pub behind_the_need_of_an_opening : (open_ring hall_limits (hall_of 1 1 1) (replicate 22 9 ++ (65535 ∷ []))).after ≡ ring_of_one 0 0 0 0 0 0 0 0 0 ++ (65535 ∷ [])
unfolding open_ring
behind_the_need_of_an_opening = ap (λ (result : Result (List ℕ)). result.after) (ring_need_is_enough_to_open hall_limits (replicate 22 9) (65535 ∷ []) (hall_of 1 1 1) (omega arith))

-- ---- From an opening: the history of RingCases, on 23 words and a byte.
abbrev table : List ℕ
table = bytes_of_words (replicate 23 777)

table_bytes : IsBytes table
table_bytes = bytes_are_bytes (replicate 23 777)

abbrev opened : List ℕ
opened = (open_ring_bytes hall_limits (hall_of 1 1 1) table).after

pub history-computed : run (step_ring_bytes hall_limits) opened calls ≡ history
unfolding open_ring_bytes open_ring step_ring_bytes overwrite_words step_ring ring_sound linear circular encode_desk decode_desk record_sound
history-computed = refl

calls-wide : Calls16 calls
calls-wide =
    ((omega arith, omega arith, (omega arith, omega arith)), ((omega arith, omega arith, (omega arith, omega arith)), ((omega arith, omega arith, tt), ((omega arith, omega arith, (omega arith, omega arith)), ((omega arith, omega arith, tt), ((omega arith, omega arith, tt), ((omega arith, omega arith, (omega arith, omega arith)), ((omega arith, omega arith, tt), ((omega arith, omega arith, (omega arith, omega arith)), ((omega arith, omega arith, tt), ((omega arith, omega arith, tt), ((omega arith, omega arith, tt), ((omega arith, omega arith, tt), ((omega arith, omega arith, tt), tt))))))))))))))

-- It opens sound, as the first board on a word less, and answers as that does.
pub opens-as-first :
    (ring_sound hall_limits (open_ring hall_limits (hall_of 1 1 1) (replicate 23 777)).after ≡ true)
    × (linear_table (open_ring hall_limits (hall_of 1 1 1) (replicate 23 777)).after ≡ (open_table hall_limits (hall_of 1 1 1) (replicate 22 777)).after)
    × (run (step_ring hall_limits) (open_ring hall_limits (hall_of 1 1 1) (replicate 23 777)).after calls ≡ run (step_table hall_limits) (open_table hall_limits (hall_of 1 1 1) (replicate 22 777)).after calls)
unfolding open_ring
opens-as-first = (
  opened-is_sound hall_limits (hall_of 1 1 1) (replicate 23 777) refl,
  opened_reads_as hall_limits (hall_of 1 1 1) (replicate 23 777) refl,
  (ring_as_first_board_from_opening hall_limits (hall_of 1 1 1) (replicate 23 777) refl calls).replies,
)

-- Three hand-backs: the list begins at 3 modulo 2.
pub begins-after-history :
    get_or (end (step_ring hall_limits) (open_ring hall_limits (hall_of 1 1 1) (replicate 23 777)).after calls) 21 0
    ≡ hand_backs 1 (run (step_ring hall_limits) (open_ring hall_limits (hall_of 1 1 1) (replicate 23 777)).after calls) % 2
unfolding open_ring
begins-after-history = beginning_is_hand_backs hall_limits (hall_of 1 1 1) (replicate 23 777) refl calls 1 (omega arith) (omega arith)

abbrev tables : ℕ → List ℕ
tables i = linear_table (words_of_bytes (end (step_ring_bytes hall_limits) opened (take i calls)))

-- Demand 2: the hand-back of 6 at index 10 is paired with the retirement of 6 by desk 1 before it; and the counts agree after all 14 calls.
pub paired : Demand2 (hall_of 1 1 1) (run (step_ring_bytes hall_limits) opened calls) tables
unfolding open_ring_bytes open_ring
paired = ring_of_hall_meets_demands.demand_2 (hall_of 1 1 1) table table_bytes refl calls calls-wide

pub hand-back-paired :
    (paired.guarantee.pair 10 < 10)
    × (effect_at (run (step_ring_bytes hall_limits) opened calls) (paired.guarantee.pair 10) ≡ retires 6 by 1)
    × (retirements_of 1 7 (take 14 (run (step_ring_bytes hall_limits) opened calls)) ≡ hand_backs_of 1 7 (take 14 (run (step_ring_bytes hall_limits) opened calls)) + 0)
unfolding open_ring_bytes open_ring step_ring_bytes overwrite_words step_ring ring_sound linear circular encode_desk decode_desk record_sound
hand-back-paired = (paired.guarantee.earlier 10 1 6 refl, paired.guarantee.same 10 1 6 refl, paired.counts 1 7 14)

-- Demand 3: at most twice the hall's screens on the list; the closing rule, the hand-back of 7 and message numbers; no answer is 5.
pub at_most_two : (i : ℕ) → retirements 1 (take i (run (step_ring_bytes hall_limits) opened calls)) ≤ hand_backs 1 (take i (run (step_ring_bytes hall_limits) opened calls)) + 2
unfolding open_ring_bytes open_ring
at_most_two = (ring_of_hall_meets_demands.demand_3 (hall_of 1 1 1) table table_bytes refl calls calls-wide).list 1

pub never_5 : (i : ℕ) → number_at (run (step_ring_bytes hall_limits) opened calls) i ≡ 5 → ⊥
unfolding open_ring_bytes open_ring
never_5 = ring_never_unsound hall_limits (hall_of 1 1 1) table table_bytes refl calls calls-wide

-- The collect that was delivered again is refused with 23.
pub delivered_again : number_at (run (step_ring_bytes hall_limits) opened calls) 13 ≡ 23
unfolding open_ring_bytes open_ring step_ring_bytes overwrite_words step_ring ring_sound linear circular encode_desk decode_desk record_sound
delivered_again =
    let again : Redelivered (run (step_ring_bytes hall_limits) opened calls) 12 13 = record { later = omega arith; within = omega arith; accepted = refl; desk = refl; message = refl } in
    ((ring_of_hall_meets_demands.message_numbers (hall_of 1 1 1) table table_bytes refl calls calls-wide).again 12 13 again (omega arith)).0

-- Demand 1 on bytes: the opening keeps the byte of word 22, and the collect of the ring above keeps slot 0.
pub keeps_on_bytes : (get_or opened 45 0 ≡ 3) × (get_or (step_ring_bytes hall_limits ring_bytes (1 sends Collect numbered 8)).after 36 0 ≡ 7)
unfolding open_ring_bytes open_ring step_ring_bytes overwrite_words step_ring ring_sound linear circular encode_desk decode_desk record_sound
keeps_on_bytes = (
  (ring_of_hall_meets_demands.demand_1_opening (hall_of 1 1 1) table table_bytes).accepted refl 45 refl,
  (ring_of_hall_meets_demands.demand_1 ring_bytes (1 sends Collect numbered 8) ring_bytes_lem (omega arith, omega arith, tt)).accepted refl 36 refl,
)
