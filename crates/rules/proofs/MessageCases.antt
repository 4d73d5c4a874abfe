-- Message numbers, computed: which numbers are refused, what moves them on, the order of the questions; and what the statements about them admit
-- and refuse. No theorem is used here. Document 02, "Message numbers".
use Rattle.std.specs.Prelude.{ℕ, ◌%◌, suc, zero, ◌≡◌, refl, List, [], ◌∷◌, ◌++◌, map, drop, get_or, replicate, take}
use Rattle.std.proofs.Common.{arith, ap}
use Rattle.rules.proofs.Cases.{Case, Computed, ◌⇒◌, busy_table, delivers, ok, refused_with}
use Rattle.rules.specs.Hall.{fresh, hall_limits, hall_of}
use Rattle.rules.specs.Messages.{AnsweredAsBefore, MessageNumbers, Redelivered, RightNumbers, accepted_between, accepted_of, answers_of, call_at, next_in, next_of}
use Rattle.rules.specs.Messages.{rightly_numbered, sent_tables, sent_to, step_unnumbered}
use Rattle.rules.specs.Steps.{Answer, Call, Collect, Drop, Event, Retire, Swap, Take, ◌numbered◌, ◌sends◌, end, run, step}
use Rattle.rules.specs.Table.{decode_desk, encode_desk, open_table, record_sound, sound, step_table}

-- ---- One desk with one screen and one position: the session at the position, what the screen shows, what is owed, the counts of ready and of
-- waiting, the first place of the list, and the next message number.
abbrev pub table_of_one : ℕ → ℕ → ℕ → ℕ → ℕ → ℕ → ℕ → List ℕ
table_of_one held shown owed ready waiting place next =
    (1 ∷ 1 ∷ 1 ∷ held ∷ shown ∷ owed ∷ 0 ∷ ready ∷ 0 ∷ waiting ∷ replicate 8 0) ++ (place ∷ 0 ∷ next ∷ [])

-- "Calls from the host carry the number; only an accepted call moves it on": the messages of a shift, some of them delivered twice. All five steps
-- move it on, and so do a repeat and a collect that replies 0; a refused call does not, so its number is used again. The collect at the end is
-- delivered three times, and hands 5 back once.
abbrev shift : List Case
shift =
    delivers (table_of_one 0 0 0 0 0 0 0)
    ((1 sends Swap 1 5 numbered 1 ⇒ refused_with 23) ∷ (1 sends Swap 1 5 numbered 65535 ⇒ refused_with 23) ∷ (1 sends Swap 1 5 numbered 0 ⇒ ok 0)
    ∷ (1 sends Swap 1 5 numbered 0 ⇒ refused_with 23) ∷ (1 sends Retire numbered 1 ⇒ refused_with 13) ∷ (1 sends Take 1 1 numbered 1 ⇒ ok 5)
    ∷ (1 sends Take 1 1 numbered 1 ⇒ refused_with 23) ∷ (1 sends Swap 1 5 numbered 2 ⇒ ok 5) ∷ (1 sends Swap 1 5 numbered 2 ⇒ refused_with 23)
    ∷ (1 sends Swap 1 6 numbered 3 ⇒ ok 5) ∷ (1 sends Swap 1 6 numbered 3 ⇒ refused_with 23) ∷ (1 sends Retire numbered 4 ⇒ ok 5)
    ∷ (1 sends Retire numbered 4 ⇒ refused_with 23) ∷ [])
    (table_of_one 6 5 0 0 1 5 5)
    ∷ delivers (table_of_one 6 5 0 0 1 5 5)
    ((1 sends Collect numbered 5 ⇒ ok 0) ∷ (1 sends Collect numbered 5 ⇒ refused_with 23) ∷ (1 sends Drop 1 numbered 6 ⇒ ok 5) ∷ (1 sends Drop 1 numbered 6 ⇒ refused_with 23)
    ∷ (1 sends Collect numbered 7 ⇒ ok 5) ∷ (1 sends Collect numbered 7 ⇒ refused_with 23) ∷ (1 sends Collect numbered 7 ⇒ refused_with 23) ∷ [])
    (table_of_one 6 0 0 0 0 0 8)
    ∷ []

pub a_shift : Computed shift
unfolding step_table sound record_sound encode_desk decode_desk
a_shift = refl

-- "running on from 65,535 to 0 without a fuss"; all 16 bits are compared; and each desk counts for itself: desk 1 of these two is at 0 and owes 9.
abbrev around : List Case
around =
    delivers (table_of_one 6 0 0 0 0 0 65535)
    ((1 sends Take 1 1 numbered 0 ⇒ refused_with 23) ∷ (1 sends Take 1 1 numbered 65535 ⇒ ok 6) ∷ (1 sends Drop 1 numbered 65535 ⇒ refused_with 23) ∷ (1 sends Drop 1 numbered 0 ⇒ ok 6) ∷ [])
    (table_of_one 6 0 0 0 0 0 1)
    ∷ delivers (table_of_one 6 0 0 0 0 0 65534)
    ((1 sends Collect numbered 65535 ⇒ refused_with 23) ∷ (1 sends Collect numbered 65534 ⇒ ok 0) ∷ (1 sends Collect numbered 65535 ⇒ ok 0) ∷ [])
    (table_of_one 6 0 0 0 0 0 0)
    ∷ delivers (table_of_one 6 0 0 0 0 0 300)
    ((1 sends Collect numbered 44 ⇒ refused_with 23) ∷ (1 sends Collect numbered 556 ⇒ refused_with 23) ∷ (1 sends Collect numbered 299 ⇒ refused_with 23) ∷ (1 sends Collect numbered 301 ⇒ refused_with 23) ∷ [])
    (table_of_one 6 0 0 0 0 0 300)
    ∷ delivers (take 42 busy_table ++ (7 ∷ []))
    ((2 sends Collect numbered 0 ⇒ refused_with 23) ∷ (1 sends Collect numbered 7 ⇒ refused_with 23) ∷ (2 sends Collect numbered 7 ⇒ ok 0) ∷ (1 sends Retire numbered 0 ⇒ refused_with 14) ∷ [])
    (take 42 busy_table ++ (8 ∷ []))
    ∷ []

pub comes_around : Computed around
unfolding step_table sound record_sound encode_desk decode_desk
comes_around = refl

-- "23 for another number, asked after 6 and before 7": 5 and 23; 6 and 23, whatever the number; then 23 before each of the others.
abbrev order : List Case
order =
    delivers (replicate 21 1) ((1 sends Collect numbered 7 ⇒ refused_with 5) ∷ []) (replicate 21 1)
    ∷ delivers busy_table
    ((3 sends Collect numbered 0 ⇒ refused_with 6) ∷ (3 sends Collect numbered 1 ⇒ refused_with 6) ∷ (0 sends Collect numbered 7 ⇒ refused_with 6)
    -- 7, 8, 9, 12, 13 and 14 with the right number are answered 23 with another
    ∷ (1 sends Take 2 1 numbered 1 ⇒ refused_with 23) ∷ (1 sends Take 2 1 ⇒ refused_with 7)
    ∷ (1 sends Drop 2 numbered 1 ⇒ refused_with 23) ∷ (1 sends Drop 2 ⇒ refused_with 7)
    ∷ (1 sends Take 1 3 numbered 1 ⇒ refused_with 23) ∷ (1 sends Take 1 3 ⇒ refused_with 8)
    ∷ (1 sends Swap 3 4 numbered 1 ⇒ refused_with 23) ∷ (1 sends Swap 3 4 ⇒ refused_with 8)
    ∷ (1 sends Take 1 1 numbered 1 ⇒ refused_with 23) ∷ (1 sends Take 1 1 ⇒ refused_with 9)
    ∷ (1 sends Swap 1 4 numbered 1 ⇒ refused_with 23) ∷ (1 sends Swap 1 4 ⇒ refused_with 12)
    ∷ (2 sends Retire numbered 1 ⇒ refused_with 23) ∷ (2 sends Retire ⇒ refused_with 13)
    ∷ (1 sends Retire numbered 1 ⇒ refused_with 23) ∷ (1 sends Retire ⇒ refused_with 14)
    -- a repeat, and a collect, which asks nothing more
    ∷ (2 sends Swap 1 7 numbered 1 ⇒ refused_with 23) ∷ (2 sends Collect numbered 1 ⇒ refused_with 23) ∷ [])
    busy_table
    -- 10 and 11
    ∷ delivers (table_of_one 0 0 0 0 0 0 3)
    ((1 sends Take 1 1 ⇒ refused_with 23) ∷ (1 sends Take 1 1 numbered 3 ⇒ refused_with 10) ∷ (1 sends Drop 1 ⇒ refused_with 23) ∷ (1 sends Drop 1 numbered 3 ⇒ refused_with 11) ∷ [])
    (table_of_one 0 0 0 0 0 0 3)
    -- "tables of the former layout are not converted": one is a word short
    ∷ delivers (take 20 (table_of_one 0 0 0 0 0 0 0)) ((1 sends Collect ⇒ refused_with 5) ∷ []) (take 20 (table_of_one 0 0 0 0 0 0 0))
    ∷ []

pub number_order : Computed order
unfolding step_table sound record_sound encode_desk decode_desk
number_order = refl

-- ---- The right numbers. Desk 1 is at 9 and desk 2 at 7; desks 0 and 3, which the hall does not have, get 0, though more words follow. A table that
-- ends before the number gives 0, and so does one whose P, c or L is out of range.
abbrev two_numbers : List ℕ
two_numbers = take 24 busy_table ++ (9 ∷ drop 25 (take 42 busy_table) ++ (7 ∷ replicate 20 5))

pub numbers-read :
    (map (next_in two_numbers) (0 ∷ 1 ∷ 2 ∷ 3 ∷ []) ≡ 0 ∷ 9 ∷ 7 ∷ 0 ∷ [])
    × (map (next_in (take 42 two_numbers)) (1 ∷ 2 ∷ []) ≡ 9 ∷ 0 ∷ [])
    × (next_in [] 1 ≡ 0)
    × (next_in (17 ∷ 1 ∷ 1 ∷ replicate 2400 5) 1 ≡ 0)
    × (next_in (16 ∷ 1 ∷ 1 ∷ replicate 2400 5) 16 ≡ 5)
numbers-read = (refl, refl, refl, refl, refl)

-- The retire that is refused does not move desk 1's number on; desk 2's first number is 0; desk 3 is not there.
abbrev mixed : List Call
mixed = 1 sends Swap 1 5 ∷ 1 sends Retire ∷ 2 sends Take 1 1 ∷ 3 sends Collect ∷ 1 sends Collect ∷ 2 sends Drop 1 ∷ []

pub numbers-filled-in :
    (map (λ (call : Call). call.message) (sent_to hall_limits (open_table hall_limits (hall_of 2 1 1) (replicate 42 9)).after mixed) ≡ 0 ∷ 1 ∷ 0 ∷ 0 ∷ 1 ∷ 1 ∷ [])
    × (map (λ (call : Call). call.message) (rightly_numbered next_of (step hall_limits (hall_of 2 1 1)) (fresh (hall_of 2 1 1)) mixed) ≡ 0 ∷ 1 ∷ 0 ∷ 0 ∷ 1 ∷ 1 ∷ [])
    × (map (λ (i : ℕ). next_in (sent_tables hall_limits (open_table hall_limits (hall_of 2 1 1) (replicate 42 9)).after mixed i) 1) (0 ∷ 1 ∷ 2 ∷ 5 ∷ 9 ∷ []) ≡ 0 ∷ 1 ∷ 1 ∷ 2 ∷ 2 ∷ [])
unfolding open_table step_table sound record_sound encode_desk decode_desk
numbers-filled-in = (refl, refl, refl)

-- Without numbers nothing asks 23 and nothing moves on: a step with another number is accepted, and leaves the number.
pub steps-unnumbered :
    (answers_of (run (step_unnumbered hall_limits (hall_of 2 1 1)) (fresh (hall_of 2 1 1)) (map (λ (call : Call). call numbered 9) mixed))
    ≡ ok 0 ∷ refused_with 13 ∷ ok 5 ∷ refused_with 6 ∷ ok 0 ∷ ok 5 ∷ [])
    × (map (next_of (end (step_unnumbered hall_limits (hall_of 2 1 1)) (fresh (hall_of 2 1 1)) mixed)) (1 ∷ 2 ∷ []) ≡ 0 ∷ 0 ∷ [])
steps-unnumbered = (refl, refl)

-- ---- What the statements say of a history, right or wrong.

-- Desk 2's collect with number 3 is accepted at index 1 and delivered again at index 4. In between its calls at indices 2 and 3 are accepted and
-- refused, and there is one of desk 1.
abbrev twice : List Event
twice =
    (1 sends Collect ⇒ ok 0) ∷ (2 sends Collect numbered 3 ⇒ ok 5) ∷ (2 sends Drop 1 numbered 4 ⇒ ok 6) ∷ (2 sends Retire numbered 5 ⇒ refused_with 13)
    ∷ (2 sends Collect numbered 3 ⇒ refused_with 23) ∷ (1 sends Collect numbered 3 ⇒ refused_with 23) ∷ []

pub counted :
    (map (λ (d : ℕ). accepted_of d twice) (0 ∷ 1 ∷ 2 ∷ 3 ∷ []) ≡ 0 ∷ 1 ∷ 2 ∷ 0 ∷ [])
    × (map (accepted_between twice 1) (1 ∷ 2 ∷ 3 ∷ 4 ∷ 5 ∷ []) ≡ 0 ∷ 0 ∷ 1 ∷ 1 ∷ 1 ∷ [])
    × (map (λ (i : ℕ). (call_at twice i).message) (0 ∷ 1 ∷ 2 ∷ 3 ∷ 4 ∷ 5 ∷ 6 ∷ []) ≡ 0 ∷ 3 ∷ 4 ∷ 5 ∷ 3 ∷ 3 ∷ 0 ∷ [])
    × (map (λ (i : ℕ). (call_at twice i).desk) (0 ∷ 1 ∷ 2 ∷ 3 ∷ 4 ∷ 5 ∷ 6 ∷ []) ≡ 1 ∷ 2 ∷ 2 ∷ 2 ∷ 2 ∷ 1 ∷ 0 ∷ [])
counted = (refl, refl, refl, refl)

pub redelivered : Redelivered twice 1 4
redelivered = record { later = omega arith; within = omega arith; accepted = refl; desk = refl; message = refl }

-- Not earlier, not past the end, not of a refused message, not by another desk, not with another number.
pub not-redelivered :
    (Redelivered twice 1 1 → ⊥) × (Redelivered twice 1 6 → ⊥) × (Redelivered twice 3 4 → ⊥) × (Redelivered twice 1 5 → ⊥) × (Redelivered twice 1 2 → ⊥)
not-redelivered = (
  λ again. omega (arith, again.later),
  λ again. omega (arith, again.within),
  λ again. omega (arith, again.accepted),
  λ again. omega (arith, again.desk),
  λ again. omega (arith, again.message),
)

-- Of a hall of 1, 1, 1. The message of index 0, a collect that handed 5 back, is delivered again at index 1.
abbrev Says : List Event → (ℕ → List ℕ) → Type 0
Says = MessageNumbers (hall_of 1 1 1)

abbrev collect_twice : Event → List Event
collect_twice second = (1 sends Collect ⇒ ok 5) ∷ second ∷ []

again_at_1 : (second : Event) → second.call ≡ 1 sends Collect → Redelivered (collect_twice second) 0 1
again_at_1 second same = record {
  later = omega arith;
  within = omega arith;
  accepted = refl;
  desk = ap (λ (call : Call). call.desk) same;
  message = ap (λ (call : Call). call.message) same;
}

-- Tables in which the number moves on once, or twice.
abbrev moves_once : ℕ → List ℕ
moves_once zero = table_of_one 0 0 0 1 0 5 0
moves_once (suc i) = table_of_one 0 0 0 0 0 0 1

abbrev moves_twice : ℕ → List ℕ
moves_twice zero = table_of_one 0 0 0 1 0 5 0
moves_twice (suc zero) = table_of_one 0 0 0 0 0 0 1
moves_twice (suc (suc i)) = table_of_one 0 0 0 0 0 0 2

-- A collect that is accepted, and the number that moves on; the statement is about the hall's own desks, and desk 0 has none.
pub admits_one_call : Says ((1 sends Collect ⇒ ok 5) ∷ []) moves_once
admits_one_call = record {
  word = λ d i l h. (let one : d ≡ 1 = omega (arith, l, h) in rw one (words i));
  again = λ i j twice. absurd (omega (arith, twice.later, twice.within));
  round = λ i j twice. absurd (omega (arith, twice.later, twice.within));
  once = λ i j d s twice. absurd (omega (arith, twice.later, twice.within));
}
  where
    words : (i : ℕ) → get_or (moves_once i) 20 0 ≡ accepted_of 1 (take i ((1 sends Collect ⇒ ok 5) ∷ [])) % 65536
    words zero = refl
    words (suc zero) = refl
    words (suc (suc i)) = refl

-- Refused by `word`: a number that does not move on, in a hall of one desk and of the second of two, and one that a refused call moves on.
pub refuses-words :
    (Says ((1 sends Collect ⇒ ok 5) ∷ []) (λ i. table_of_one 0 0 0 1 0 5 0) → ⊥)
    × (MessageNumbers (hall_of 2 1 1) ((2 sends Collect ⇒ ok 0) ∷ []) (λ i. 2 ∷ 1 ∷ 1 ∷ replicate 39 0) → ⊥)
    × (Says ((1 sends Collect numbered 7 ⇒ refused_with 23) ∷ []) moves_once → ⊥)
refuses-words = (
  λ says. omega (arith, says.word 1 1 (omega arith) (omega arith)),
  λ says. omega (arith, says.word 2 1 (omega arith) (omega arith)),
  λ says. omega (arith, says.word 1 1 (omega arith) (omega arith)),
)

-- Refused by `again` alone: a second delivery that is accepted, that is refused with another number, or that is refused and writes what is owed.
abbrev writes_owed : ℕ → List ℕ
writes_owed zero = table_of_one 0 0 0 1 0 5 0
writes_owed (suc i) = table_of_one 0 0 i 0 0 0 1

pub refuses-second-delivery :
    (Says (collect_twice (1 sends Collect ⇒ ok 0)) moves_twice → ⊥)
    × (Says (collect_twice (1 sends Collect ⇒ refused_with 7)) moves_once → ⊥)
    × (Says (collect_twice (1 sends Collect ⇒ refused_with 23)) writes_owed → ⊥)
refuses-second-delivery = (
  λ says. omega (arith, (says.again 0 1 (again_at_1 _ refl) (omega arith)).0),
  λ says. omega (arith, (says.again 0 1 (again_at_1 _ refl) (omega arith)).0),
  λ says. omega (arith, ap (λ (words : List ℕ). get_or words 5 0) (says.again 0 1 (again_at_1 _ refl) (omega arith)).1),
)

-- `once` follows from `again`: it says what this means for a collect that hands back twice.
pub refuses_handing_back_twice : Says (collect_twice (1 sends Collect ⇒ ok 5)) moves_twice → ⊥
refuses_handing_back_twice says = says.once 0 1 1 5 (again_at_1 _ refl) (omega arith) refl

-- The right numbers: desk 1's calls carry 0 and, after one was accepted, 1; a call of desk 2, which a hall of one desk does not have, any.
abbrev numbered_one : ℕ → List Event
numbered_one number = (1 sends Collect ⇒ ok 0) ∷ (2 sends Collect numbered 9 ⇒ refused_with 6) ∷ (1 sends Retire numbered number ⇒ refused_with 13) ∷ []

pub right_numbers : RightNumbers (hall_of 1 1 1) (numbered_one 1) × (RightNumbers (hall_of 1 1 1) (numbered_one 0) → ⊥) × (RightNumbers (hall_of 2 1 1) (numbered_one 1) → ⊥)
right_numbers = (
  at,
  λ right. omega (arith, right 2 (omega arith) (omega arith) (omega arith)),
  λ right. omega (arith, right 1 (omega arith) (omega arith) (omega arith)),
)
  where
    at : RightNumbers (hall_of 1 1 1) (numbered_one 1)
    at zero inside l h = refl
    at (suc zero) inside l h = absurd (omega (arith, h))
    at (suc (suc zero)) inside l h = refl
    at (suc (suc (suc i))) inside l h = absurd (omega (arith, inside))

-- The answers of calls with right numbers are refused if they are not those without numbers, and a history with 23 is refused.
pub refuses-other-answers :
    (AnsweredAsBefore hall_limits (hall_of 1 1 1) (1 sends Collect ∷ []) ((1 sends Collect ⇒ ok 7) ∷ []) → ⊥)
    × (AnsweredAsBefore hall_limits (hall_of 1 1 1) (1 sends Collect ∷ []) ((1 sends Collect ⇒ refused_with 23) ∷ []) → ⊥)
refuses-other-answers = (
  λ before. omega (arith, ap (λ (answers : List Answer). session_of answers) (before.answers (first_right (ok 7)))),
  λ before. before.never_23 (first_right (refused_with 23)) 0 refl,
)
  where
    session_of : List Answer → ℕ
    session_of [] = 0
    session_of (answer ∷ answers) = answer.session

    first_right : (answer : Answer) → RightNumbers (hall_of 1 1 1) ((1 sends Collect ⇒ answer) ∷ [])
    first_right answer zero inside l h = refl
    first_right answer (suc i) inside l h = absurd (omega (arith, inside))
