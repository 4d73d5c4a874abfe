-- The theorems about message numbers applied: to a history long enough for a number to come round, to a collect that is delivered twice, and to a
-- history with the right numbers.
use Rattle.std.specs.Prelude.{ℕ, zero, suc, ◌<◌, ◌≡◌, refl, Bool, cond, List, [], ◌∷◌, ◌++◌, get_or, length, replicate, take}
use Rattle.std.proofs.Common.{arith, sym, ap, ◌∙◌, subst, eq-eqb}
use Rattle.rules.proofs.Cases.{◌⇒◌, ok, refused_with}
use Rattle.rules.specs.Hall.{fresh, hall_limits, hall_of}
use Rattle.rules.specs.History.{◌by◌, effect_at, hands_back, number_at}
use Rattle.rules.proofs.HistoryCases.{history_from, history_of, opened_in, repeated, sent_in}
use Rattle.rules.proofs.MessageCases.{table_of_one}
use Rattle.rules.specs.Messages.{MessageNumbers, Redelivered, accepted_between, accepted_of, answers_of, call_at, step_unnumbered}
use Rattle.rules.specs.Steps.{Answer, Call, Collect, Event, Result, Retire, Swap, ◌numbered◌, ◌sends◌, accept, advance, end, run}
use Rattle.rules.specs.Table.{decode_desk, encode_desk, next_word, open_table, record_sound, sound, step_table}
use Rattle.rules.proofs.Theorems.{answered_as_before, message_numbers, sent_numbers_right}
use Rattle.rules.proofs.Laws.Table.TableSteps.{accepted_step}

-- ---- A number that comes round. One desk with nothing on its list sends n collects, each with the right number, and then number 0 again.

-- its table, with this next number
abbrev idle : ℕ → List ℕ
idle next = table_of_one 0 0 0 0 0 0 next

idle-collect : (number : ℕ) → step_table hall_limits (idle number) (1 sends Collect numbered number) ≡ accept 0 (idle (advance number))
unfolding sound record_sound encode_desk decode_desk
idle-collect number = accepted_step hall_limits (idle number) (1 sends Collect numbered number) refl (ap asks (eq-eqb number number refl))
  where
    asks : Bool → ℕ
    asks right = cond right 0 23

abbrev collects : ℕ → ℕ → List Call
collects zero number = []
collects (suc n) number = (1 sends Collect numbered number) ∷ collects n (advance number)

abbrev collected : ℕ → ℕ → List Event
collected zero number = []
collected (suc n) number = (1 sends Collect numbered number ⇒ ok 0) ∷ collected n (advance number)

abbrev later : ℕ → ℕ → ℕ
later zero number = number
later (suc n) number = later n (advance number)

idle_run : (n number : ℕ) (calls : List Call)
    → run (step_table hall_limits) (idle number) (collects n number ++ calls) ≡ collected n number ++ run (step_table hall_limits) (idle (later n number)) calls
idle_run zero number calls = refl
idle_run (suc n) number calls =
    ap (λ (result : Result (List ℕ)). (1 sends Collect numbered number ⇒ result.answer) ∷ run (step_table hall_limits) result.after (collects n (advance number) ++ calls)) (idle-collect number)
    ∙ ap {B = List Event} (λ events. (1 sends Collect numbered number ⇒ ok 0) ∷ events) (idle_run n (advance number) calls)

-- the history in which the message with number 0, accepted at index 0, is delivered again at index n + 1
abbrev long_calls : ℕ → List Call
long_calls n = collects (suc n) 0 ++ (1 sends Collect ∷ [])

abbrev long : ℕ → List Event
long n = run (step_table hall_limits) (open_table hall_limits (hall_of 1 1 1) (replicate 21 9)).after (long_calls n)

abbrev last_event : ℕ → Event
last_event n = 1 sends Collect ⇒ (step_table hall_limits (idle (later (suc n) 0)) (1 sends Collect)).answer

long_is : (n : ℕ) → long n ≡ collected (suc n) 0 ++ (last_event n ∷ [])
unfolding open_table
long_is n = idle_run (suc n) 0 (1 sends Collect ∷ [])

at_end : (n number : ℕ) (event : Event)
    → let history = collected n number ++ (event ∷ []) in
    (call_at history n ≡ event.call) × (number_at history n ≡ event.answer.number) × (length history ≡ suc n)
at_end zero number event = (refl, refl, refl)
at_end (suc n) number event = let rest = at_end n (advance number) event in (rest.0, rest.1, ap suc rest.2)

before_end : (n number : ℕ) (event : Event) → accepted_of 1 (take n (collected n number ++ (event ∷ []))) ≡ n
before_end zero number event = refl
before_end (suc n) number event = omega (arith, before_end n (advance number) event)

-- whatever the answer to the second delivery is
delivered : (n : ℕ) (answer : Answer)
    → let history = collected (suc n) 0 ++ ((1 sends Collect ⇒ answer) ∷ []) in
    Redelivered history 0 (suc n) × (accepted_between history 0 (suc n) ≡ n)
delivered n answer =
    let event : Event = 1 sends Collect ⇒ answer in
    let last = at_end n (advance 0) event in (
      record {
        later = omega arith;
        within = omega (arith, last.2);
        accepted = refl;
        desk = ap (λ (call : Call). call.desk) last.0;
        message = ap (λ (call : Call). call.message) last.0;
      },
      before_end n (advance 0) event,
    )

delivered_again : (n : ℕ) → Redelivered (long n) 0 (suc n) × (accepted_between (long n) 0 (suc n) ≡ n)
delivered_again n =
    subst (λ (history : List Event). Redelivered history 0 (suc n) × (accepted_between history 0 (suc n) ≡ n)) (sym (long_is n))
    (delivered n (step_table hall_limits (idle (later (suc n) 0)) (1 sends Collect)).answer)

-- Refused by `round` alone: a history of 65,537 calls in which the number has come round and is still answered 23.
pub refuses_late_23 : (tables : ℕ → List ℕ) → MessageNumbers (hall_of 1 1 1) (collected 65536 0 ++ ((1 sends Collect ⇒ refused_with 23) ∷ [])) tables → ⊥
refuses_late_23 tables says =
    let twice = delivered 65535 (refused_with 23) in
    says.round 0 65536 twice.0 twice.1 (at_end 65536 0 (1 sends Collect ⇒ refused_with 23)).1

-- With 65,534 accepted in between it is refused with 23 and changes no word; with 65,535 the number has come round.
pub again_refused : (number_at (long 65534) 65535 ≡ 23)
    × (end (step_table hall_limits) (open_table hall_limits (hall_of 1 1 1) (replicate 21 9)).after (take 65536 (long_calls 65534))
    ≡ end (step_table hall_limits) (open_table hall_limits (hall_of 1 1 1) (replicate 21 9)).after (take 65535 (long_calls 65534)))
unfolding open_table
again_refused =
    let twice = delivered_again 65534 in
    let few : 65534 < 65535 = omega arith in
    (message_numbers hall_limits (hall_of 1 1 1) (replicate 21 9) refl (long_calls 65534)).again 0 65535 twice.0 (subst (λ (n : ℕ). n < 65535) (sym twice.1) few)

pub round_accepted : number_at (long 65535) 65536 ≡ 23 → ⊥
unfolding open_table
round_accepted =
    let twice = delivered_again 65535 in
    (message_numbers hall_limits (hall_of 1 1 1) (replicate 21 9) refl (long_calls 65535)).round 0 65536 twice.0 twice.1

-- ---- 5 is handed back at index 4, and the same collect is delivered again at index 5: it hands nothing back.
abbrev resent : List Call
resent =
    1 sends Swap 1 5 ∷ (1 sends Swap 1 0 numbered 1) ∷ (1 sends Retire numbered 2) ∷ (1 sends Collect numbered 9) ∷ (1 sends Collect numbered 3)
    ∷ (1 sends Collect numbered 3) ∷ (1 sends Collect numbered 4) ∷ []

pub resent-in-numbers :
    (answers_of (history_from (hall_of 1 1 1) 21 resent) ≡ ok 0 ∷ ok 5 ∷ ok 5 ∷ refused_with 23 ∷ ok 5 ∷ refused_with 23 ∷ ok 0 ∷ [])
    × (number_at (history_from (hall_of 1 1 1) 21 resent) 5 ≡ 23)
    × (effect_at (history_from (hall_of 1 1 1) 21 resent) 5 ≡ hands_back 5 by 1 → ⊥)
    × (get_or (end (step_table hall_limits) (opened_in (hall_of 1 1 1) 21) (take 6 resent)) (next_word (hall_of 1 1 1) 1) 0 ≡ 4)
unfolding open_table step_table sound record_sound encode_desk decode_desk
resent-in-numbers =
    let numbers = message_numbers hall_limits (hall_of 1 1 1) (replicate 21 9) refl resent in
    let twice : Redelivered (history_from (hall_of 1 1 1) 21 resent) 4 5 = record { later = omega arith; within = omega arith; accepted = refl; desk = refl; message = refl } in
    (refl, (numbers.again 4 5 twice (omega arith)).0, numbers.once 4 5 1 5 twice (omega arith), numbers.word 1 6 (omega arith) (omega arith))

-- ---- The history with repeats, sent with the right numbers: it is answered as without numbers, and never with 23.
pub repeated-as-before :
    (answers_of (history_of (hall_of 2 1 1) 50 repeated) ≡ answers_of (run (step_unnumbered hall_limits (hall_of 2 1 1)) (fresh (hall_of 2 1 1)) (sent_in (hall_of 2 1 1) 50 repeated)))
    × (number_at (history_of (hall_of 2 1 1) 50 repeated) 5 ≡ 23 → ⊥)
unfolding open_table
repeated-as-before =
    let right = sent_numbers_right hall_limits (hall_of 2 1 1) (replicate 50 9) refl repeated in
    let before = answered_as_before hall_limits (hall_of 2 1 1) (replicate 50 9) refl (sent_in (hall_of 2 1 1) 50 repeated) in
    (before.answers right, before.never_23 right 5)
