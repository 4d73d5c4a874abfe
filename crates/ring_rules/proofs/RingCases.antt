-- The ring, computed: its need, histories around the end of the list, each refusal, the first board that it reads as, the words that a call names.
-- No theorem is used here. Document 02, "A list that turns".
use Rattle.std.specs.Prelude.{ℕ, zero, suc, ◌%◌, ◌≡◌, refl, Bool, true, false, cond, List, [], ◌∷◌, ◌++◌, map, get_or, replicate, take}
use Rattle.rules.specs.Bytes.{bytes_of_words, overwrite_words}
use Rattle.rules.proofs.Cases.{◌⇒◌, ok, refused_with}
use Rattle.rules.specs.Hall.{Hall, Limits, hall_limits, hall_of, training_limits}
use Rattle.rules.specs.History.{hand_backs}
use Rattle.rules.specs.Steps.{Answer, Call, Collect, Drop, Event, Retire, Step, Swap, Take, ◌numbered◌, ◌sends◌, end, run}
use Rattle.rules.specs.Table.{decode_desk, encode_desk, record_sound}
use Rattle.ring_rules.specs.Ring.{beginning_after, beginning_offset, circular, linear, linear_table, open_ring, open_ring_bytes, ring_need, ring_next_word, ring_sound, ring_start}
use Rattle.ring_rules.specs.Ring.{ring_width_for, rotate, slot_after, step_ring, step_ring_bytes, beginning_word}
use Rattle.ring_rules.specs.RingDemands.{range, ring_footprint, ring_opening_footprint}

-- ---- "its need is P words more"
pub smallest : ring_need (hall_of 1 1 1) ≡ 22
smallest = refl

pub largest : ring_need (hall_of 16 4 64) ≡ 2419
largest = refl

-- ---- The opening: its questions in order, and what it writes. "0 at opening"
abbrev opens : Limits → Hall → ℕ → Answer
opens limits hall words = (open_ring limits hall (replicate words 9)).answer

pub openings :
    map (opens hall_limits (hall_of 1 1 1)) (21 ∷ 22 ∷ 23 ∷ []) ++ (opens hall_limits (hall_of 17 5 65) 0 ∷ opens hall_limits (hall_of 0 1 1) 22 ∷ opens hall_limits (hall_of 1 5 65) 0 ∷ opens hall_limits (hall_of 1 1 65) 0
    ∷ opens hall_limits (hall_of 16 4 64) 2418 ∷ opens hall_limits (hall_of 16 4 64) 2419 ∷ opens training_limits (hall_of 5 1 1) 0 ∷ opens training_limits (hall_of 4 1 1) 99 ∷ [])
    ≡ refused_with 4 ∷ ok 0 ∷ ok 0 ∷ refused_with 1 ∷ refused_with 1 ∷ refused_with 2 ∷ refused_with 3 ∷ refused_with 4 ∷ ok 0 ∷ refused_with 22 ∷ refused_with 4 ∷ []
unfolding open_ring
openings = refl

pub opened-words : (open_ring hall_limits (hall_of 1 1 1) (replicate 24 9)).after ≡ (1 ∷ 1 ∷ 1 ∷ replicate 19 0) ++ (9 ∷ 9 ∷ [])
unfolding open_ring
opened-words = refl

pub opened_header : take 4 (open_ring hall_limits (hall_of 1 2 3) (replicate 30 9)).after ≡ 1 ∷ 2 ∷ 3 ∷ 0 ∷ []
unfolding open_ring
opened_header = refl

-- ---- One desk with one screen and one position, S = 1: the session at the position, what the screen shows and what is owed; the counts of ready and
-- of waiting; the two slots; the next message number and the beginning.
abbrev pub ring_of_one : ℕ → ℕ → ℕ → ℕ → ℕ → ℕ → ℕ → ℕ → ℕ → List ℕ
ring_of_one held shown owed ready waiting slot0 slot1 next beginning =
    (1 ∷ 1 ∷ 1 ∷ held ∷ shown ∷ owed ∷ 0 ∷ ready ∷ 0 ∷ waiting ∷ replicate 8 0) ++ (slot0 ∷ slot1 ∷ next ∷ beginning ∷ [])

-- Two are retired, the first is handed back, and the third goes around the end; then all are handed back, and the list is empty.
abbrev pub history : List Event
history =
    (1 sends Swap 1 5 ⇒ ok 0)
    ∷ (1 sends Swap 1 6 numbered 1 ⇒ ok 5)
    ∷ (1 sends Retire numbered 2 ⇒ ok 5)
    ∷ (1 sends Swap 1 7 numbered 3 ⇒ ok 6)
    ∷ (1 sends Retire numbered 4 ⇒ ok 6)
    ∷ (1 sends Collect numbered 5 ⇒ ok 5)
    ∷ (1 sends Swap 1 8 numbered 6 ⇒ ok 7)
    ∷ (1 sends Retire numbered 7 ⇒ ok 7)
    ∷ (1 sends Swap 1 9 numbered 8 ⇒ ok 8)
    ∷ (1 sends Retire numbered 9 ⇒ refused_with 14)
    ∷ (1 sends Collect numbered 9 ⇒ ok 6)
    ∷ (1 sends Collect numbered 10 ⇒ ok 7)
    ∷ (1 sends Collect numbered 11 ⇒ ok 0)
    ∷ (1 sends Collect numbered 11 ⇒ refused_with 23)
    ∷ []

abbrev pub calls : List Call
calls = map (λ (event : Event). event.call) history

abbrev after : ℕ → List ℕ
after n = end (step_ring hall_limits) (ring_of_one 0 0 0 0 0 0 0 0 0) (take n calls)

pub around_the_end : run (step_ring hall_limits) (ring_of_one 0 0 0 0 0 0 0 0 0) calls ≡ history
unfolding step_ring ring_sound linear circular encode_desk decode_desk record_sound
around_the_end = refl

-- "only a hand-back changes it, by one place around", and the slot that it leaves becomes 0. The beginning stays where the list runs empty.
pub words-around :
    map after (5 ∷ 6 ∷ 8 ∷ 11 ∷ 12 ∷ 13 ∷ [])
    ≡ ring_of_one 7 0 0 0 2 5 6 5 0
    ∷ ring_of_one 7 0 0 1 0 0 6 6 1
    ∷ ring_of_one 8 0 0 1 1 7 6 8 1
    ∷ ring_of_one 9 0 8 1 0 7 0 10 0
    ∷ ring_of_one 9 0 8 0 0 0 0 11 1
    ∷ ring_of_one 9 0 8 0 0 0 0 12 1
    ∷ []
unfolding step_ring ring_sound linear circular encode_desk decode_desk record_sound
words-around = refl

-- The three hand-backs, around two slots.
pub hand_backs-counted : (hand_backs 1 history ≡ 3) × (3 % 2 ≡ 1) × (get_or (after 13) (beginning_word (hall_of 1 1 1) 1) 0 ≡ 1)
unfolding step_ring ring_sound linear circular encode_desk decode_desk record_sound
hand_backs-counted = (refl, refl, refl)

-- After the eighth call the list is 6, 7: the first board that it reads as, and its answers to the rest.
pub reads_as : linear_table (after 8) ≡ (1 ∷ 1 ∷ 1 ∷ 8 ∷ 0 ∷ 0 ∷ 0 ∷ 1 ∷ 0 ∷ 1 ∷ replicate 8 0) ++ (6 ∷ 7 ∷ 8 ∷ [])
unfolding step_ring ring_sound linear circular encode_desk decode_desk record_sound
reads_as = refl

-- ---- The other three steps, each refusal, and the order of the first questions: 5, 6, 23, then the step's own.
abbrev busy : List ℕ
busy = ring_of_one 7 6 5 1 1 4 3 2 1

abbrev answered : List ℕ → List Event → Type 0
answered ring events = map (λ (event : Event). event.call ⇒ (step_ring hall_limits ring event.call).answer) events ≡ events

pub each-refusal :
    answered busy
    ((1 sends Take 1 1 numbered 2 ⇒ refused_with 9) ∷ (1 sends Take 2 2 numbered 2 ⇒ refused_with 7) ∷ (1 sends Take 1 2 numbered 2 ⇒ refused_with 8) ∷ (1 sends Drop 2 numbered 2 ⇒ refused_with 7) ∷ (1 sends Swap 2 1 numbered 2 ⇒ refused_with 8)
    ∷ (1 sends Swap 1 7 numbered 2 ⇒ refused_with 12) ∷ (1 sends Retire numbered 2 ⇒ refused_with 14) ∷ (1 sends Retire numbered 1 ⇒ refused_with 23) ∷ (2 sends Retire numbered 1 ⇒ refused_with 6) ∷ (0 sends Collect numbered 2 ⇒ refused_with 6) ∷ [])
    × answered (ring_of_one 0 0 0 0 0 0 0 65535 1)
    ((1 sends Take 1 1 numbered 65535 ⇒ refused_with 10) ∷ (1 sends Drop 1 numbered 65535 ⇒ refused_with 11) ∷ (1 sends Retire numbered 65535 ⇒ refused_with 13) ∷ (1 sends Swap 1 0 numbered 65535 ⇒ ok 0) ∷ [])
    × answered (take 21 busy) ((9 sends Take 9 9 ⇒ refused_with 5) ∷ [])
unfolding step_ring ring_sound linear circular encode_desk decode_desk record_sound
each-refusal = (refl, refl, refl)

-- What they write: a screen; the position and the owed word; nothing but the message number for a repeat; from 65,535 it runs on to 0. A training room
-- asks for its limits.
pub steps-write :
    map (λ (call : Call). (step_ring hall_limits (ring_of_one 7 0 0 1 0 0 3 65535 1) call).after)
    (1 sends Take 1 1 numbered 65535 ∷ 1 sends Swap 1 8 numbered 65535 ∷ 1 sends Swap 1 7 numbered 65535 ∷ 1 sends Swap 1 0 numbered 65535 ∷ [])
    ≡ ring_of_one 7 7 0 1 0 0 3 0 1 ∷ ring_of_one 8 0 7 1 0 0 3 0 1 ∷ ring_of_one 7 0 0 1 0 0 3 0 1 ∷ ring_of_one 0 0 7 1 0 0 3 0 1 ∷ []
unfolding step_ring ring_sound linear circular encode_desk decode_desk record_sound
steps-write = refl

pub drop_writes : (step_ring hall_limits busy (1 sends Drop 1 numbered 2)).after ≡ ring_of_one 7 0 5 1 1 4 3 3 1
unfolding step_ring ring_sound linear circular encode_desk decode_desk record_sound
drop_writes = refl

pub limits-asked : ((step_ring training_limits (ring_of_one 7 0 0 0 0 0 0 0 0) (1 sends Swap 1 1000)).answer ≡ refused_with 22) × ((step_ring hall_limits (ring_of_one 7 0 0 0 0 0 0 0 0) (1 sends Swap 1 1000)).answer ≡ ok 7)
unfolding step_ring ring_sound linear circular encode_desk decode_desk record_sound
limits-asked = (refl, refl)

-- ---- Soundness: "asks also that the beginning is less than 2S"; the used slots are those from the beginning on.
abbrev is_sound : List ℕ → Bool
is_sound ring = ring_sound hall_limits ring

pub sound-rings :
    map is_sound (ring_of_one 9 0 0 0 0 0 0 0 1 ∷ ring_of_one 9 0 0 0 0 0 0 0 2 ∷ ring_of_one 9 0 0 0 0 0 0 0 65535 ∷ ring_of_one 9 0 0 1 0 0 4 0 1 ∷ ring_of_one 9 0 0 1 0 4 0 0 1 ∷ ring_of_one 9 0 0 1 0 4 0 0 0 ∷ ring_of_one 9 0 0 1 0 0 4 0 0 ∷ [])
    ≡ true ∷ false ∷ false ∷ true ∷ false ∷ true ∷ false ∷ []
unfolding ring_sound linear record_sound
sound-rings = refl

-- Each part of soundness: the hall is within the limits, the table is long enough, and every desk's record is sound.
pub sound-parts :
    (ring_sound training_limits (ring_of_one 9 0 0 0 0 0 0 0 0) ≡ true) × (ring_sound hall_limits (17 ∷ 1 ∷ 1 ∷ replicate 900 0) ≡ false) × (ring_sound training_limits (5 ∷ 1 ∷ 1 ∷ replicate 300 0) ≡ false)
    × (ring_sound hall_limits (1 ∷ 1 ∷ 1 ∷ replicate 18 0) ≡ false) × (ring_sound hall_limits (2 ∷ 1 ∷ 1 ∷ replicate 41 0) ≡ true) × (ring_sound hall_limits ((2 ∷ 1 ∷ 1 ∷ replicate 40 0) ++ (4 ∷ [])) ≡ false)
    × (ring_sound hall_limits ((2 ∷ 1 ∷ 1 ∷ replicate 40 0) ++ (3 ∷ [])) ≡ true)
unfolding ring_sound linear record_sound
sound-parts = (refl, refl, refl, refl, refl, refl, refl)

-- ---- Three desks with a screen each, S = 3: the record of desk 1 has 21 words and starts at word 7. Its k; the counts of ready, tested and waiting; the first mark
-- word; the six slots; the next message number and the beginning. The last screen shows `shown`.
abbrev pub three : ℕ → ℕ → ℕ → ℕ → ℕ → ℕ → List ℕ → ℕ → ℕ → List ℕ
three shown k ready tested waiting marks slots next beginning =
    (3 ∷ 1 ∷ 1 ∷ 0 ∷ 0 ∷ 0 ∷ shown ∷ []) ++ ((0 ∷ k ∷ ready ∷ tested ∷ waiting ∷ marks ∷ replicate 7 0) ++ (slots ++ (next ∷ beginning ∷ replicate 42 0)))

abbrev pub slots : ℕ → ℕ → ℕ → ℕ → ℕ → ℕ → List ℕ
slots a b c d e f = a ∷ b ∷ c ∷ d ∷ e ∷ f ∷ []

abbrev collects : List ℕ → ℕ → Type 0
collects ring session = (step_ring hall_limits ring (1 sends Collect numbered get_or ring (ring_next_word (hall_of 3 1 1) 1) 0)).answer ≡ ok session

abbrev collected : List ℕ → List ℕ
collected ring = (step_ring hall_limits ring (1 sends Collect numbered get_or ring (ring_next_word (hall_of 3 1 1) 1) 0)).after

-- The list 5, 6, 5 lies at slots 5, 0 and 1. A reading begins; its last screen shows 5, so the first 5 is kept: the list is then 6, 5, 5, and 6 is handed back. A new
-- reading begins with the kept 5, and the other 5, which is ready, is handed back.
pub a-reading :
    (collected (three 5 0 0 0 3 0 (slots 6 5 0 0 0 5) 0 5) ≡ three 5 2 0 3 0 0 (slots 6 5 0 0 0 5) 1 5)
    × (collected (three 5 2 0 3 0 0 (slots 6 5 0 0 0 5) 1 5) ≡ three 5 0 1 0 1 0 (slots 5 5 0 0 0 0) 2 0)
    × (collected (three 5 0 1 0 1 0 (slots 5 5 0 0 0 0) 2 0) ≡ three 5 2 0 1 0 0 (slots 0 5 0 0 0 0) 3 1)
    × (collected (three 0 2 0 1 0 0 (slots 0 5 0 0 0 0) 3 1) ≡ three 0 0 0 0 0 0 (slots 0 0 0 0 0 0) 4 2)
unfolding step_ring ring_sound linear circular encode_desk decode_desk record_sound
a-reading = (refl, refl, refl, refl)

pub a-readings-replies :
    collects (three 5 0 0 0 3 0 (slots 6 5 0 0 0 5) 0 5) 0 × collects (three 5 2 0 3 0 0 (slots 6 5 0 0 0 5) 1 5) 6 × collects (three 5 0 1 0 1 0 (slots 5 5 0 0 0 0) 2 0) 5
    × collects (three 0 2 0 1 0 0 (slots 0 5 0 0 0 0) 3 1) 5
unfolding step_ring ring_sound linear circular encode_desk decode_desk record_sound
a-readings-replies = (refl, refl, refl, refl)

-- A mark belongs to a tested session by its place in the list, not by its slot: the second of the tested, at slot 0, is marked. It is kept and comes behind 9.
pub marks_by_place : collected (three 0 2 1 2 1 2 (slots 7 9 0 0 4 6) 0 4) ≡ three 0 0 1 0 2 0 (slots 7 9 0 0 0 6) 1 5
unfolding step_ring ring_sound linear circular encode_desk decode_desk record_sound
marks_by_place = refl

-- ---- The words that a call names. Slots are words 20 to 25, the message number is word 26 and the beginning word 27.
abbrev below : ℕ → (ℕ → Bool) → List ℕ
below zero test = []
below (suc n) test = below n test ++ cond (test n) (n ∷ []) []

abbrev named : List ℕ → Step → List ℕ
named ring step = below 72 (ring_footprint ring (1 sends step))

-- Retire: the owed word, the count of waiting, the first unused slot around the end. Collect: k, the counts and the marks; with a hand-back the slot that it leaves and the
-- beginning; if a reading ends and has marked a session, the tested slots, here 25, 20 and 21 (24 is ready). A mark alone, or an end alone, names none. And the message number.
pub retire_names : named (three 0 0 2 0 0 0 (slots 7 0 0 0 0 6) 0 5) Retire ≡ 7 ∷ 11 ∷ 21 ∷ 26 ∷ []
unfolding linear decode_desk
retire_names = refl

pub collect-names :
    map (λ (ring : List ℕ). named ring Collect)
    (three 0 0 0 0 0 0 (slots 0 0 0 0 0 0) 0 3 ∷ three 0 0 1 0 0 0 (slots 0 0 0 8 0 0) 0 3 ∷ three 9 2 1 3 0 0 (slots 6 9 0 0 8 7) 0 4 ∷ three 5 2 1 3 0 0 (slots 9 0 0 8 7 6) 0 3 ∷ three 9 0 1 3 0 1 (slots 9 0 0 8 7 6) 0 3 ∷ [])
    ≡ (range 8 12 ++ (26 ∷ []))
    ∷ (range 8 12 ++ (23 ∷ 26 ∷ 27 ∷ []))
    ∷ (range 8 12 ++ (20 ∷ 21 ∷ 24 ∷ 25 ∷ 26 ∷ 27 ∷ []))
    ∷ (range 8 12 ++ (23 ∷ 26 ∷ 27 ∷ []))
    ∷ (range 8 12 ++ (23 ∷ 26 ∷ 27 ∷ []))
    ∷ []
unfolding linear decode_desk
collect-names = refl

pub others-name :
    map (named (three 4 0 0 0 0 0 (slots 0 0 0 0 0 0) 0 3)) (Take 1 1 ∷ Drop 1 ∷ Swap 1 5 ∷ Swap 1 0 ∷ []) ++ (named (ring_of_one 7 0 0 0 0 0 0 0 0) (Swap 1 5) ∷ named (ring_of_one 7 0 0 0 0 0 0 0 0) (Swap 1 7) ∷ [])
    ≡ (4 ∷ 26 ∷ []) ∷ (4 ∷ 26 ∷ []) ∷ (3 ∷ 26 ∷ []) ∷ (26 ∷ []) ∷ (3 ∷ 5 ∷ 20 ∷ []) ∷ (20 ∷ []) ∷ []
others-name = refl

-- Desk 2 of two, with two screens each and two positions, of which the first holds 5: its record has 23 words and starts at word 32.
pub desk-2-names :
    map (λ (step : Step). below 60 (ring_footprint ((2 ∷ 2 ∷ 2 ∷ 5 ∷ []) ++ replicate 51 0) (2 sends step))) (Take 1 2 ∷ Take 2 1 ∷ Drop 1 ∷ Drop 2 ∷ Swap 1 7 ∷ Swap 2 7 ∷ [])
    ≡ (7 ∷ 53 ∷ []) ∷ (8 ∷ 53 ∷ []) ∷ (7 ∷ 53 ∷ []) ∷ (8 ∷ 53 ∷ []) ∷ (3 ∷ 32 ∷ 53 ∷ []) ∷ (4 ∷ 53 ∷ []) ∷ []
desk-2-names = refl

pub opening_names : below 60 (ring_opening_footprint (hall_of 1 1 1)) ≡ range 0 22
opening_names = refl

-- ---- The layout and the list, part by part, at numbers that all differ: S = 3.
pub layout : (ring_width_for 3 ≡ 21) × (beginning_offset 3 ≡ 20) × (ring_start (hall_of 3 1 4) 2 ≡ 31) × (ring_next_word (hall_of 3 1 4) 2 ≡ 50) × (beginning_word (hall_of 3 1 4) 2 ≡ 51)
layout = (refl, refl, refl, refl, refl)

pub slots-around : (map (slot_after 3 4) (0 ∷ 1 ∷ 2 ∷ 5 ∷ 6 ∷ []) ≡ 4 ∷ 5 ∷ 0 ∷ 3 ∷ 4 ∷ []) × (rotate 4 (slots 10 11 12 13 14 15) ≡ slots 14 15 10 11 12 13) × (beginning_after 3 [] 5 ≡ 5) × (beginning_after 3 (8 ∷ []) 5 ≡ 0) × (beginning_after 3 (8 ∷ 9 ∷ []) 2 ≡ 3)
slots-around = (refl, refl, refl, refl, refl)

abbrev head : List ℕ
head = range 101 13

pub linear-and-circular :
    (linear 3 (head ++ (slots 10 11 12 13 14 15 ++ (77 ∷ 4 ∷ []))) ≡ head ++ (slots 14 15 10 11 12 13 ++ (77 ∷ [])))
    × (circular 3 4 (head ++ (slots 14 15 10 11 12 13 ++ (77 ∷ []))) ≡ head ++ (slots 10 11 12 13 14 15 ++ (77 ∷ 4 ∷ [])))
unfolding linear circular
linear-and-circular = (refl, refl)

-- ---- On bytes: two to a word, and an odd last byte stays.
pub on_bytes_lem :
    ((open_ring_bytes hall_limits (hall_of 1 1 1) (replicate 45 7)).after ≡ bytes_of_words (ring_of_one 0 0 0 0 0 0 0 0 0) ++ (7 ∷ []))
    × ((open_ring_bytes hall_limits (hall_of 1 1 1) (replicate 43 7)).answer ≡ refused_with 4)
    × ((step_ring_bytes hall_limits (bytes_of_words (ring_of_one 9 0 0 1 0 0 400 0 1) ++ (7 ∷ [])) (1 sends Collect)).after ≡ bytes_of_words (ring_of_one 9 0 0 0 0 0 0 1 0) ++ (7 ∷ []))
unfolding open_ring_bytes open_ring step_ring_bytes overwrite_words step_ring ring_sound linear circular encode_desk decode_desk record_sound
on_bytes_lem = (refl, refl, refl)
