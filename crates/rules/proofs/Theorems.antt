-- The theorems. The statements are defined in Locality, Demands, Closing, Messages, Rooms, Runs, History, Table and Bytes; the proofs are in Laws/.
-- They hold for any limits; the exported calls use those of the hall and of the training room, `hall_limits` and `training_limits`.
use Rattle.std.specs.Prelude.{ℕ, ◌≤◌, ◌≡◌, true, List, ◌++◌, drop, get_or, length, set, take}
use Rattle.std.proofs.Common.{arith, ap, subst}
use Rattle.std.proofs.Math.Path.{sym}
use Rattle.rules.specs.Bytes.{Agrees, Call16, Calls16, IsBytes, Words16, on_bytes, open_bytes, overwrite_words, step_bytes, words_of_bytes}
use Rattle.rules.specs.Closing.{ClosingRule, HandBackCloses}
use Rattle.rules.specs.Demands.{Demand1, Demand2, Demand3, HandedBackWithin, SwapPromise, sharper_bound, opening_refusals, refusals, footprint, on_bytes_of, opening_footprint}
use Rattle.rules.specs.Hall.{Formed, Hall, Limits, State, all_screens, hall_limits, training_limits}
use Rattle.rules.specs.History.{number_at}
use Rattle.rules.specs.Locality.{OthersStay, SameView, StepsAlike}
use Rattle.rules.specs.Messages.{AnsweredAsBefore, MessageNumbers, RightNumbers, sent_history}
use Rattle.rules.specs.Rooms.{HallUnchanged, MeetsDemands}
use Rattle.rules.specs.Runs.{AllSent16, MixedDemands, Sent, calls_of, mixed_history, mixed_tables}
use Rattle.rules.specs.Steps.{Call, Event, Result, Swap, ◌numbered◌, ◌sends◌, accept, advance, end, first_no, questions, run, step}
use Rattle.rules.specs.Table.{decode, encode, hall_in, need, next_word, open_table, position_word, sound, step_table}
use Rattle.rules.proofs.Laws.Bytes.ByteHistories.{of_bytes, same_history}
use Rattle.rules.proofs.Laws.Bytes.Bytes.{bytes_demand1, bytes_open, bytes_step, words_are_16}
use Rattle.rules.proofs.Laws.Bytes.HallUnchanged.{unchanged}
use Rattle.rules.proofs.Laws.Bytes.Runs.{mixed_16, mixed_singly, sent_demand1, step_demand1}
use Rattle.rules.proofs.Laws.History.Locality.{others_stay, steps_alike}
use Rattle.rules.proofs.Laws.Table.ClosingHistories.{closing_opened, hand_back-opened}
use Rattle.rules.proofs.Laws.Table.DecodeStepEncode.{step_encoded}
use Rattle.rules.proofs.Laws.Table.Demand1.{demand1, never_five, opening_demand1, opening_is_sound, step_stays_sound}
use Rattle.rules.proofs.Laws.Table.EncodedStep.{hall-opens, sound-table}
use Rattle.rules.proofs.Laws.Table.MessageHistories.{message_numbers_opened}
use Rattle.rules.proofs.Laws.Table.NeedSuffices.{open_append, step-append}
use Rattle.rules.proofs.Laws.Table.Repeats.{repeat_stays, swap_promised}
use Rattle.rules.proofs.Laws.Table.RightNumbers.{as_before_opened, sent_right}
use Rattle.rules.proofs.Laws.Table.TableHistories.{back-opened, demand2_opened, demand3_opened, opening_asks}
use Rattle.rules.proofs.Laws.Bytes.FirstBoard.{first_board}

-- ---- On states.

-- A call leaves alone what is not its own: the other desks with their screens, and the screens and positions that its step does not write.
pub other_desks_stay : (limits : Limits) (hall : Hall) (state : State) (call : Call) → OthersStay hall call state (step limits hall state call).after
other_desks_stay = others_stay

-- A call does the same in two states of a hall in which its desk's record, what its step names and the screens that it reads are the same.
pub step_is_local : (limits : Limits) (hall : Hall) (left right : State) → Formed hall left → Formed hall right → (call : Call) → SameView hall left right call
    → StepsAlike hall call (step limits hall left call) (step limits hall right call)
step_is_local = steps_alike

-- ---- On words.

-- Demand 1: a refused call writes nothing, an accepted one only the words that its step names and its desk's message number, on any table of
-- 16-bit words.
pub demand_1 : (limits : Limits) (table : List ℕ) → Words16 table → (call : Call)
    → Demand1 (refusals call) (footprint table call) table (step_table limits table call)
demand_1 limits = demand1 limits

-- Demand 1 of an opening, of any table.
pub demand_1_opening : (limits : Limits) (hall : Hall) (table : List ℕ) → Demand1 opening_refusals (opening_footprint hall) table (open_table limits hall table)
demand_1_opening limits = opening_demand1 limits

-- A step leaves a sound table of 16-bit words sound, and an accepted opening makes any table sound.
pub step_keeps_sound : (limits : Limits) (table : List ℕ) → Words16 table → (call : Call) → sound limits table ≡ true
    → sound limits (step_table limits table call).after ≡ true
step_keeps_sound limits = step_stays_sound limits

pub opened-is_sound : (limits : Limits) (hall : Hall) (table : List ℕ) → (open_table limits hall table).answer.number ≡ 0
    → sound limits (open_table limits hall table).after ≡ true
opened-is_sound limits = opening_is_sound limits

-- "Each call does exactly what the rules in document 01 do, step for step": on any sound table of 16-bit words, not only on one that
-- an opening made, a call decodes the state, does the step of the rules, and encodes the state; words past the need are unchanged.
pub step_for_step : (limits : Limits) (table : List ℕ) → Words16 table → sound limits table ≡ true → (call : Call)
    → let hall = hall_in table in
    let result = step limits hall (decode hall table) call in
    step_table limits table call ≡ record { answer = result.answer; after = encode hall result.after ++ drop (need hall) table }
step_for_step limits table words16 is-sound call = step_encoded limits table call words16 is-sound

-- A repeat: on any sound table, a swap that passes its questions, to what its position holds, is accepted with it and changes no word but its
-- desk's next message number, which moves on.
pub repeat_only_moves_number : (limits : Limits) (table : List ℕ) → sound limits table ≡ true → (message d p : ℕ)
    → let hall = hall_in table in
    let old = get_or table (position_word p) 0 in
    let number = next_word hall d in
    let call = d sends Swap p old numbered message in
    first_no (questions limits hall (decode hall table) call) ≡ 0 → step_table limits table call ≡ accept old (set table number (advance (get_or table number 0)))
repeat_only_moves_number = repeat_stays

-- Any swap on any table: an accepted one replies what the position held and puts what was sent; one that replies what it was sent has changed
-- no word but its desk's message number; right after one that makes its desk owe a session, the position does not hold that session.
pub swap_promise : (limits : Limits) (table : List ℕ) (message d p sent : ℕ)
    → SwapPromise (hall_in table) d p sent table (step_table limits table (d sends Swap p sent numbered message))
swap_promise = swap_promised

-- "Words past the need are neither read nor written": whatever follows a table that is long enough for its hall, a call gives the same
-- answer and leaves it unchanged.
module _ (limits : Limits) (table behind : List ℕ) where
  pub need_is_enough : need (hall_in table) ≤ length table → (call : Call)
      → step_table limits (table ++ behind) call ≡ record { answer = (step_table limits table call).answer; after = (step_table limits table call).after ++ behind }
  need_is_enough enough = step-append limits table behind (omega (arith, enough)) (λ inside. enough)

  pub need_is_enough_to_open : (hall : Hall) → need hall ≤ length table
      → open_table limits hall (table ++ behind) ≡ record { answer = (open_table limits hall table).answer; after = (open_table limits hall table).after ++ behind }
  need_is_enough_to_open hall enough = open_append limits hall table behind enough

-- For every hall, every table whose opening is accepted, and every list of calls:
module _ (limits : Limits) (hall : Hall) (table : List ℕ) (accepted : (open_table limits hall table).answer.number ≡ 0) where
  -- The table stays sound.
  pub stays_sound : (calls : List Call) → sound limits (end (step_table limits) (open_table limits hall table).after calls) ≡ true
  stays_sound calls =
      let asks = opening_asks limits hall table accepted in
      subst (λ (start : List ℕ). sound limits (end (step_table limits) start calls) ≡ true) (sym asks.1)
      (sound-table limits hall (hall-opens limits hall table asks.0).0 table calls)

  -- So no step is answered 5.
  pub never_unsound : (calls : List Call) (i : ℕ) → number_at (run (step_table limits) (open_table limits hall table).after calls) i ≡ 5 → ⊥
  never_unsound calls = never_five limits calls (open_table limits hall table).after (λ i. stays_sound (take i calls))

  -- Demand 2: hand-backs can be paired with retirements whose linked takes were dropped; retirements equal hand-backs plus copies on the list.
  pub demand_2 : (calls : List Call)
      → Demand2 hall (run (step_table limits) (open_table limits hall table).after calls) (λ i. end (step_table limits) (open_table limits hall table).after (take i calls))
  demand_2 calls =
      let asks = opening_asks limits hall table accepted in
      subst (λ (start : List ℕ). Demand2 hall (run (step_table limits) start calls) (λ i. end (step_table limits) start (take i calls))) (sym asks.1)
      (demand2_opened limits hall (hall-opens limits hall table asks.0).0 table calls)

  -- Demand 3: room, at most 2S on the list, and the hand-back within 3S collects, for every desk number.
  pub demand_3 : (calls : List Call)
      → Demand3 hall (run (step_table limits) (open_table limits hall table).after calls) (λ i. end (step_table limits) (open_table limits hall table).after (take i calls))
  demand_3 calls =
      let asks = opening_asks limits hall table accepted in
      subst (λ (start : List ℕ). Demand3 hall (run (step_table limits) start calls) (λ i. end (step_table limits) start (take i calls))) (sym asks.1)
      (demand3_opened limits hall (hall-opens limits hall table asks.0).0 table calls)

  -- The hand-back comes sooner than demand 3 asks: within 2S + 2 ceil(S / 2) - 2 collects. (For S = 3 one fewer is too few:
  -- `seven_are_too_few` in HistoryCases.)
  pub back_sooner : (calls : List Call) → HandedBackWithin (sharper_bound (all_screens hall)) (run (step_table limits) (open_table limits hall table).after calls)
  back_sooner calls =
      let asks = opening_asks limits hall table accepted in
      subst (λ (start : List ℕ). HandedBackWithin (sharper_bound (all_screens hall)) (run (step_table limits) start calls)) (sym asks.1)
      (back-opened limits hall (hall-opens limits hall table asks.0).0 table calls)

  -- The closing rule: a session at no position, owed by no desk and on no desk's list is on no screen, so it may be closed.
  pub closing_rule : (calls : List Call) → ClosingRule hall (λ i. end (step_table limits) (open_table limits hall table).after (take i calls))
  closing_rule calls =
      let asks = opening_asks limits hall table accepted in
      subst (λ (start : List ℕ). ClosingRule hall (λ i. end (step_table limits) start (take i calls))) (sym asks.1)
      (closing_opened limits hall (hall-opens limits hall table asks.0).0 table calls)

  -- A session that is handed back, and that no swap put while it was still referenced, is nowhere in the table: it may be closed at once.
  pub hand_back_closes : (calls : List Call)
      → HandBackCloses hall (run (step_table limits) (open_table limits hall table).after calls) (λ i. end (step_table limits) (open_table limits hall table).after (take i calls))
  hand_back_closes calls =
      let asks = opening_asks limits hall table accepted in
      subst (λ (start : List ℕ). HandBackCloses hall (run (step_table limits) start calls) (λ i. end (step_table limits) start (take i calls))) (sym asks.1)
      (hand_back-opened limits hall (hall-opens limits hall table asks.0).0 table calls)

  -- Message numbers: a desk's word is the number of its accepted calls, modulo 65,536, so a message that was accepted and is delivered again is
  -- refused with 23, while fewer than 65,535 further calls of its desk were accepted.
  pub message_numbers : (calls : List Call)
      → MessageNumbers hall (run (step_table limits) (open_table limits hall table).after calls) (λ i. end (step_table limits) (open_table limits hall table).after (take i calls))
  message_numbers calls =
      let asks = opening_asks limits hall table accepted in
      subst (λ (start : List ℕ). MessageNumbers hall (run (step_table limits) start calls) (λ i. end (step_table limits) start (take i calls))) (sym asks.1)
      (message_numbers_opened limits hall (hall-opens limits hall table asks.0).0 table calls)

  -- A history that carries the right numbers is answered as it was before there were numbers, and never with 23.
  pub answered_as_before : (calls : List Call) → AnsweredAsBefore limits hall calls (run (step_table limits) (open_table limits hall table).after calls)
  answered_as_before calls =
      let asks = opening_asks limits hall table accepted in
      subst (λ (start : List ℕ). AnsweredAsBefore limits hall calls (run (step_table limits) start calls)) (sym asks.1)
      (as_before_opened limits hall (hall-opens limits hall table asks.0).0 table calls)

  -- If each call is sent with the number that its desk's word has in the table then, the history carries the right numbers.
  pub sent_numbers_right : (calls : List Call) → RightNumbers hall (sent_history limits (open_table limits hall table).after calls)
  sent_numbers_right calls =
      let asks = opening_asks limits hall table accepted in
      subst (λ (start : List ℕ). RightNumbers hall (sent_history limits start calls)) (sym asks.1)
      (sent_right limits hall (hall-opens limits hall table asks.0).0 table calls)

-- ---- On bytes, as the host calls.

-- An opening on bytes gives the answer of the opening on the words in them, and its words are in the bytes after it.
pub opening_on_bytes : (limits : Limits) (hall : Hall) (bytes : List ℕ) → IsBytes bytes
    → Agrees bytes (open_bytes limits hall bytes) (open_table limits hall (words_of_bytes bytes))
unfolding open_bytes
opening_on_bytes limits = bytes_open (first_board limits)

-- The same for a step.
pub step-on_bytes : (limits : Limits) (bytes : List ℕ) (call : Call) → IsBytes bytes → Call16 call
    → Agrees bytes (step_bytes limits bytes call) (step_table limits (words_of_bytes bytes) call)
unfolding step_bytes
step-on_bytes limits = bytes_step (first_board limits)

-- Demand 1 on bytes, an odd last byte included.
pub demand_1_on_bytes : (limits : Limits) (bytes : List ℕ) (call : Call) → IsBytes bytes → Call16 call
    → Demand1 (refusals call) (on_bytes_of bytes (footprint (words_of_bytes bytes) call)) bytes (step_bytes limits bytes call)
demand_1_on_bytes limits = step_demand1 limits

-- Demand 1 of an opening on bytes.
pub demand_1_opening_on_bytes : (limits : Limits) (hall : Hall) (bytes : List ℕ) → IsBytes bytes
    → Demand1 opening_refusals (on_bytes_of bytes (opening_footprint hall)) bytes (open_bytes limits hall bytes)
unfolding open_bytes
demand_1_opening_on_bytes limits hall bytes are =
    let words = words_of_bytes bytes in
    bytes_demand1 bytes are (open_table limits hall words) ((first_board limits).open_keeps hall words (words_are_16 bytes are)) opening_refusals (opening_footprint hall)
    (opening_demand1 limits hall words)

-- A repeat on bytes: the words of the repeat on words are written into them; an odd last byte stays.
pub repeat_only_moves_number_on_bytes : (limits : Limits) (bytes : List ℕ) → sound limits (words_of_bytes bytes) ≡ true → (message d p : ℕ)
    → let table = words_of_bytes bytes in
    let hall = hall_in table in
    let old = get_or table (position_word p) 0 in
    let number = next_word hall d in
    let call = d sends Swap p old numbered message in
    first_no (questions limits hall (decode hall table) call) ≡ 0
    → step_bytes limits bytes call ≡ accept old (overwrite_words (set table number (advance (get_or table number 0))) bytes)
unfolding step_bytes
repeat_only_moves_number_on_bytes limits bytes is-sound message d p passes =
    ap (λ (result : Result (List ℕ)). on_bytes result bytes) (repeat_stays limits (words_of_bytes bytes) is-sound message d p passes)

-- Any swap on any bytes.
pub swap_promise_on_bytes : (limits : Limits) (bytes : List ℕ) → IsBytes bytes → (message d p sent : ℕ) → Call16 (d sends Swap p sent numbered message)
    → let table = words_of_bytes bytes in
    let result = step_bytes limits bytes (d sends Swap p sent numbered message) in
    SwapPromise (hall_in table) d p sent table (record { answer = result.answer; after = words_of_bytes result.after })
unfolding step_bytes
swap_promise_on_bytes limits bytes are message d p sent wide =
    let table : List ℕ = words_of_bytes bytes in
    let call : Call = d sends Swap p sent numbered message in
    let result = step_table limits table call in
    subst (λ (after : List ℕ). SwapPromise (hall_in table) d p sent table (record { answer = result.answer; after = after }))
    (sym (step-on_bytes limits bytes call are wide).words) (swap_promised limits table message d p sent)

-- For every hall, all bytes whose opening is accepted, and every list of calls with 16-bit numbers:
module _ (limits : Limits) (hall : Hall) (bytes : List ℕ) (are : IsBytes bytes) (accepted : (open_bytes limits hall bytes).answer.number ≡ 0)
    (calls : List Call) (wide : Calls16 calls) where
  words_accepted : (open_table limits hall (words_of_bytes bytes)).answer.number ≡ 0
  unfolding open_bytes
  words_accepted = accepted

  -- A list of calls on bytes has the answers of the list on words.
  pub calls-on-bytes :
      run (step_bytes limits) (open_bytes limits hall bytes).after calls ≡ run (step_table limits) (open_table limits hall (words_of_bytes bytes)).after calls
  unfolding open_bytes step_bytes
  calls-on-bytes = sym (same_history (first_board limits) hall bytes are calls wide)

  -- Demand 2 on bytes.
  pub demand-2-on-bytes :
      Demand2 hall (run (step_bytes limits) (open_bytes limits hall bytes).after calls)
      (λ i. words_of_bytes (end (step_bytes limits) (open_bytes limits hall bytes).after (take i calls)))
  unfolding open_bytes step_bytes
  demand-2-on-bytes =
      of_bytes (first_board limits) hall bytes are calls wide (Demand2 hall) (demand_2 limits hall (words_of_bytes bytes) words_accepted calls)

  -- Demand 3 on bytes.
  pub demand-3-on-bytes :
      Demand3 hall (run (step_bytes limits) (open_bytes limits hall bytes).after calls)
      (λ i. words_of_bytes (end (step_bytes limits) (open_bytes limits hall bytes).after (take i calls)))
  unfolding open_bytes step_bytes
  demand-3-on-bytes =
      of_bytes (first_board limits) hall bytes are calls wide (Demand3 hall) (demand_3 limits hall (words_of_bytes bytes) words_accepted calls)

  -- No step on bytes is answered 5.
  pub never_unsound_on_bytes : (i : ℕ) → number_at (run (step_bytes limits) (open_bytes limits hall bytes).after calls) i ≡ 5 → ⊥
  unfolding open_bytes step_bytes
  never_unsound_on_bytes =
      of_bytes (first_board limits) hall bytes are calls wide (λ history tables. (i : ℕ) → number_at history i ≡ 5 → ⊥)
      (never_unsound limits hall (words_of_bytes bytes) words_accepted calls)

  -- The sharper bound on bytes.
  pub back_sooner_on_bytes : HandedBackWithin (sharper_bound (all_screens hall)) (run (step_bytes limits) (open_bytes limits hall bytes).after calls)
  unfolding open_bytes step_bytes
  back_sooner_on_bytes =
      of_bytes (first_board limits) hall bytes are calls wide (λ history tables. HandedBackWithin (sharper_bound (all_screens hall)) history)
      (back_sooner limits hall (words_of_bytes bytes) words_accepted calls)

  -- The closing rule on bytes.
  pub closing_rule_on_bytes : ClosingRule hall (λ i. words_of_bytes (end (step_bytes limits) (open_bytes limits hall bytes).after (take i calls)))
  unfolding open_bytes step_bytes
  closing_rule_on_bytes =
      of_bytes (first_board limits) hall bytes are calls wide (λ history tables. ClosingRule hall tables)
      (closing_rule limits hall (words_of_bytes bytes) words_accepted calls)

  -- The session that may be closed at its hand-back, on bytes.
  pub hand-back-closes-on-bytes :
      HandBackCloses hall (run (step_bytes limits) (open_bytes limits hall bytes).after calls)
      (λ i. words_of_bytes (end (step_bytes limits) (open_bytes limits hall bytes).after (take i calls)))
  unfolding open_bytes step_bytes
  hand-back-closes-on-bytes =
      of_bytes (first_board limits) hall bytes are calls wide (HandBackCloses hall) (hand_back_closes limits hall (words_of_bytes bytes) words_accepted calls)

  -- Message numbers on bytes.
  pub message-numbers-on-bytes :
      MessageNumbers hall (run (step_bytes limits) (open_bytes limits hall bytes).after calls)
      (λ i. words_of_bytes (end (step_bytes limits) (open_bytes limits hall bytes).after (take i calls)))
  unfolding open_bytes step_bytes
  message-numbers-on-bytes =
      of_bytes (first_board limits) hall bytes are calls wide (MessageNumbers hall) (message_numbers limits hall (words_of_bytes bytes) words_accepted calls)

  -- The right numbers on bytes.
  pub answered_as_before_on_bytes : AnsweredAsBefore limits hall calls (run (step_bytes limits) (open_bytes limits hall bytes).after calls)
  unfolding open_bytes step_bytes
  answered_as_before_on_bytes =
      of_bytes (first_board limits) hall bytes are calls wide (λ history tables. AnsweredAsBefore limits hall calls history)
      (answered_as_before limits hall (words_of_bytes bytes) words_accepted calls)

-- ---- The rooms. Document 02, "A training room".

-- The calls of every room meet the demands, whatever its limits,
pub every_room_meets_demands : (limits : Limits) → MeetsDemands limits
every_room_meets_demands limits = record {
  demand_1 = demand_1_on_bytes limits;
  demand_1_opening = demand_1_opening_on_bytes limits;
  demand_2 = demand-2-on-bytes limits;
  demand_3 = demand-3-on-bytes limits;
}

-- so those of the hall do, `board_open` to `board_collect`,
pub hall_meets_demands : MeetsDemands hall_limits
hall_meets_demands = every_room_meets_demands hall_limits

-- and those of the training room, `training_open` to `training_collect`.
pub training_room_meets_demands : MeetsDemands training_limits
training_room_meets_demands = every_room_meets_demands training_limits

-- "the hall's 16, 4 and 65,535 remain": the hall's calls do what they do without a training room.
pub hall_unchanged : HallUnchanged
hall_unchanged = unchanged

-- ---- Runs. Document 02, "A shift in one call".

-- What holds of every history of single calls, from an accepted opening on, holds of those in which runs and single calls are mixed.
of_mixed : (limits : Limits) (hall : Hall) (P : List Event → (ℕ → List ℕ) → Type 0)
    → ((bytes : List ℕ) → IsBytes bytes → (open_bytes limits hall bytes).answer.number ≡ 0 → (calls : List Call) → Calls16 calls
    → let opened = (open_bytes limits hall bytes).after in P (run (step_bytes limits) opened calls) (λ i. words_of_bytes (end (step_bytes limits) opened (take i calls))))
    → (bytes : List ℕ) → IsBytes bytes → (open_bytes limits hall bytes).answer.number ≡ 0 → (sent : List Sent) → AllSent16 sent
    → let opened = (open_bytes limits hall bytes).after in P (mixed_history limits opened sent) (mixed_tables limits opened sent)
of_mixed limits hall P holds bytes are accepted sent wide =
    let opened = (open_bytes limits hall bytes).after in
    let opened_are = (opening_on_bytes limits hall bytes are).are_bytes in
    subst (λ (history : List Event). P history (mixed_tables limits opened sent)) (sym (mixed_singly limits opened sent opened_are wide).history)
    (holds bytes are accepted (calls_of (mixed_history limits opened sent)) (mixed_16 limits opened sent opened_are wide))

-- So demands 1 to 3 do, the closing rule and message numbers.
pub mixed_histories_meet_demands : (limits : Limits) → MixedDemands limits
mixed_histories_meet_demands limits = record {
  demand_1 = sent_demand1 limits;
  singly = mixed_singly limits;
  demand_2 = λ hall. of_mixed limits hall (Demand2 hall) (demand-2-on-bytes limits hall);
  demand_3 = λ hall. of_mixed limits hall (Demand3 hall) (demand-3-on-bytes limits hall);
  closing_rule = λ hall. of_mixed limits hall (λ history tables. ClosingRule hall tables) (closing_rule_on_bytes limits hall);
  hand_back_closes = λ hall. of_mixed limits hall (HandBackCloses hall) (hand-back-closes-on-bytes limits hall);
  message_numbers = λ hall. of_mixed limits hall (MessageNumbers hall) (message-numbers-on-bytes limits hall);
}
