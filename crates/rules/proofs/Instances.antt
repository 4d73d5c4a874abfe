-- Each statement at one instance: what it says in a hall of 2, 3, 4 (S = 6), for a desk, a screen, a session and indices that all differ.
-- If a statement had one variable in place of another, a bound off by one or a premise less, it would say something else here.
use Rattle.std.specs.Prelude.{ℕ, ◌+◌, ◌%◌, ◌≤◌, ◌<◌, ◌≡◌, Bool, true, false, List, get_or, length, take}
use Rattle.std.proofs.Common.{arith}
use Rattle.rules.proofs.Cases.{wide}
use Rattle.rules.specs.Closing.{ClosingRule, HandBackCloses, PutFresh, ShownNowhere, StandsNowhere, Unreferenced, put_at}
use Rattle.rules.specs.Demands.{Demand1, Demand2, Demand3, Guarantee, HandedBackWithin, SwapPromise, counts_of_desk, list_of_desk}
use Rattle.rules.specs.Hall.{State, fresh, hall_limits}
use Rattle.rules.specs.History.{CollectBetween, CollectsBetweenRetires, DroppedBefore, Effect, Linked, NextDrop, NextRetire, NextSwap, Shows, Unshown, ◌by◌, by_desk}
use Rattle.rules.specs.History.{collects_of, drops, effect_at, hand_backs, hand_backs_of, hands_back, is_collect, is_retire_attempt, number_at, out_of_room, retirements}
use Rattle.rules.specs.History.{retirements_of, retires, swaps, takes}
use Rattle.rules.specs.Lists.{occurrences}
use Rattle.rules.specs.Locality.{OthersStay, SameView, StepsAlike, desk_at, named_words, position_at, screen_at, screens_read, may_write_position, may_write_screen}
use Rattle.rules.specs.Messages.{AnsweredAsBefore, MessageNumbers, Redelivered, RightNumbers, accepted_between, accepted_of, answers_of, call_at}
use Rattle.rules.specs.Messages.{step_unnumbered}
use Rattle.rules.specs.Steps.{Call, Drop, Event, Result, Swap, ◌sends◌, run}
use Rattle.rules.specs.Table.{owed_offset, position_word, record_of, screen_word}

-- ---- Demand 1, for any refusals, footprint and result.
module _ (refusals : List ℕ) (may_change : ℕ → Bool) (before : List ℕ) (result : Result (List ℕ)) (demand : Demand1 refusals may_change before result) where
  pub says_refused : result.answer.number ≡ 6 → (1 ≤ occurrences 6 refusals) × (result.answer.session ≡ 0) × (result.after ≡ before)
  says_refused = demand.refused 5

  pub says_accepted : result.answer.number ≡ 0 → may_change 7 ≡ false → get_or result.after 7 0 ≡ get_or before 7 0
  says_accepted accepted = demand.accepted accepted 7

  pub says_length : length result.after ≡ length before
  says_length = demand.same_length

-- ---- A swap of desk 2 at position 4 to session 9.
module _ (before : List ℕ) (result : Result (List ℕ)) (promise : SwapPromise wide 2 4 9 before result) where
  pub says_replies : result.answer.number ≡ 0 → result.answer.session ≡ get_or before (position_word 4) 0
  says_replies = promise.replies

  pub says_holds : result.answer.number ≡ 0 → get_or result.after (position_word 4) 0 ≡ 9
  says_holds = promise.holds

  -- desk 2's message number is word 64
  pub says_unchanged : result.answer.session ≡ 9 → (◌≡◌ {A = ℕ} 63 64 → ⊥) → get_or result.after 63 0 ≡ get_or before 63 0
  says_unchanged same = promise.unchanged same 63

  pub says_replaced : let owed = get_or (record_of wide result.after 2) owed_offset 0 in
      result.answer.number ≡ 0 → (owed ≡ 0 → ⊥) → get_or result.after (position_word 4) 0 ≡ owed → ⊥
  says_replaced = promise.replaced

-- ---- Histories.
module _ (effects : ℕ → Effect) where
  -- desk 2 retires at indices 5 and 8
  pub says_between : CollectsBetweenRetires effects 2 → is_retire_attempt (by_desk 2 (effects 5)) ≡ true → is_retire_attempt (by_desk 2 (effects 8)) ≡ true → CollectBetween effects 2 5 8
  says_between between = between 5 8 (omega arith)

  pub says_a_collect : (between : CollectBetween effects 2 5 8) → (5 < between.index) × (between.index < 8) × (is_collect (by_desk 2 (effects between.index)) ≡ true)
  says_a_collect between = (between.after, between.before, between.here)

  -- after index 4, at index 8, by desk 2: the next swap that changes position 6, the next retire, of session 9, and the next drop of screen 3
  pub says_next_swap : NextSwap effects 4 6 2 8 → (4 < 8) × (effects 8 ≡ swaps 6 by 2) × ((m other : ℕ) → 4 < m → m < 8 → effects m ≡ swaps 6 by other → ⊥)
  says_next_swap next = (next.later, next.here, next.first)

  pub says_next_retire : NextRetire effects 4 2 9 8
      → (4 < 8) × (effects 8 ≡ retires 9 by 2) × ((m session : ℕ) → 4 < m → m < 8 → effects m ≡ retires session by 2 → ⊥)
  says_next_retire next = (next.later, next.here, next.first)

  pub says_next_drop : NextDrop effects 4 2 3 8 → (4 < 8) × (effects 8 ≡ drops 3 by 2) × ((m : ℕ) → 4 < m → m < 8 → effects m ≡ drops 3 by 2 → ⊥)
  says_next_drop next = (next.later, next.here, next.first)

  -- the take at index 4 is linked to the retirement at index 8, and was dropped before it
  pub says_linked : (link : Linked effects 4 8)
      → (effects 4 ≡ takes link.screen link.position link.shown by link.desk)
      × NextSwap effects 4 link.position link.swapper link.swap_at
      × NextRetire effects link.swap_at link.swapper link.session 8
  says_linked link = (link.take, link.swap, link.retire)

  pub says_dropped_before : (dropped : DroppedBefore effects 4 8)
      → (effects 4 ≡ takes dropped.screen dropped.position dropped.shown by dropped.desk)
      × NextDrop effects 4 dropped.desk dropped.screen dropped.drop_at
      × (dropped.drop_at < 8)
  says_dropped_before dropped = (dropped.take, dropped.drop, dropped.before)

  -- desk 2's screen 3 shows session 9 just before index 7
  pub says_shows : (shows : Shows effects 7 2 3 9)
      → (shows.taken_at < 7)
      × (effects shows.taken_at ≡ takes 3 shows.position 9 by 2)
      × ((m : ℕ) → shows.taken_at < m → m < 7 → effects m ≡ drops 3 by 2 → ⊥)
  says_shows shows = (shows.earlier, shows.take, shows.undropped)

  -- session 9 is not shown from index 4 to index 7: just before index 6, on screen 3 of desk 2
  pub says_unshown : Unshown effects 9 4 7 → (n : ℕ) → 4 < n → n ≤ 7 → Shows effects n 2 3 9 → ⊥
  says_unshown unshown n = unshown n 2 3

  -- the hand-backs of session 9 by desk 2 at index 5, and of session 8 by desk 1 at index 6
  module _ (g : Guarantee effects) (back : effects 5 ≡ hands_back 9 by 2) where
    pub says_earlier : g.pair 5 < 5
    says_earlier = g.earlier 5 2 9 back

    pub says_same : effects (g.pair 5) ≡ retires 9 by 2
    says_same = g.same 5 2 9 back

    pub says_once : effects 6 ≡ hands_back 8 by 1 → g.pair 5 ≡ g.pair 6 → ◌≡◌ {A = ℕ} 5 6
    says_once = g.once 5 2 9 6 1 8 back

    pub says_dropped : Linked effects 4 (g.pair 5) → DroppedBefore effects 4 5
    says_dropped = g.dropped 5 2 9 4 back

-- ---- Demands 2 and 3, and closing, for any history and tables: desk 2, session 9, after 5 calls.
module _ (history : List Event) (tables : ℕ → List ℕ) where
  pub says_guarantee : Demand2 wide history tables → Guarantee (effect_at history)
  says_guarantee demand = demand.guarantee

  pub says_linked_session : Demand2 wide history tables → (link : Linked (effect_at history) 4 5) → link.shown ≡ link.session
  says_linked_session demand = demand.sessions 4 5

  pub says_copies : Demand2 wide history tables → retirements_of 2 9 (take 5 history) ≡ hand_backs_of 2 9 (take 5 history) + occurrences 9 (list_of_desk wide (tables 5) 2)
  says_copies demand = demand.counts 2 9 5

  pub says_room : Demand3 wide history tables → CollectsBetweenRetires (effect_at history) 2 → effect_at history 5 ≡ out_of_room by 2 → ⊥
  says_room demand between = demand.room 2 between 5

  -- at most twice the 6 screens
  pub says_list : Demand3 wide history tables → retirements 2 (take 5 history) ≤ hand_backs 2 (take 5 history) + 12
  says_list demand = demand.list 2 5

  pub says_counts : Demand3 wide history tables → retirements 2 (take 5 history) ≡ hand_backs 2 (take 5 history) + counts_of_desk wide (tables 5) 2
  says_counts demand = demand.counts 2 5

  -- three times the 6 screens
  pub says_back : Demand3 wide history tables → HandedBackWithin 18 history
  says_back demand = demand.back

  -- retired at index 4, judged at index 7, 3 collects later
  pub says_within : HandedBackWithin 3 history → effect_at history 4 ≡ retires 9 by 2 → collects_of 2 (take 8 history) ≡ collects_of 2 (take 5 history) + 3
      → Unshown (effect_at history) 9 4 7 → retirements_of 2 9 (take 5 history) ≤ hand_backs_of 2 9 (take 8 history)
  says_within claim = claim 2 9 4 7

  pub says_closing : ClosingRule wide tables → (◌≡◌ {A = ℕ} 9 0 → ⊥) → Unreferenced wide (tables 5) 9 → ShownNowhere wide (tables 5) 9
  says_closing rule = rule 5 9

  pub says_put_fresh : PutFresh wide history tables 9 5 → (i : ℕ) → i < 5 → put_at history i ≡ 9 → Unreferenced wide (tables i) 9
  says_put_fresh fresh = fresh

  pub says_hand_back_closes : HandBackCloses wide history tables → effect_at history 5 ≡ hands_back 9 by 2 → PutFresh wide history tables 9 5 → StandsNowhere wide (tables 6) 9
  says_hand_back_closes closes = closes 5 2 9

-- Session 9 is unreferenced in a table, and shown nowhere.
module _ (table : List ℕ) where
  pub says_no_position : Unreferenced wide table 9 → (p : ℕ) → 1 ≤ p → p ≤ 4 → get_or table (position_word p) 0 ≡ 9 → ⊥
  says_no_position none = none.positions

  pub says_not_owed : Unreferenced wide table 9 → (d : ℕ) → 1 ≤ d → d ≤ 2 → get_or (record_of wide table d) owed_offset 0 ≡ 9 → ⊥
  says_not_owed none = none.owed

  pub says_no_list : Unreferenced wide table 9 → (d : ℕ) → 1 ≤ d → d ≤ 2 → occurrences 9 (list_of_desk wide table d) ≡ 0
  says_no_list none = none.lists

  pub says_shown_nowhere : ShownNowhere wide table 9 → (d c : ℕ) → 1 ≤ d → d ≤ 2 → 1 ≤ c → c ≤ 3 → get_or table (screen_word wide d c) 0 ≡ 9 → ⊥
  says_shown_nowhere nowhere = nowhere

  pub says_stands_nowhere : StandsNowhere wide table 9 → Unreferenced wide table 9 × ShownNowhere wide table 9
  says_stands_nowhere nowhere = (nowhere.unreferenced, nowhere.unshown)

-- ---- Locality: what a drop of desk 2, screen 3, reads in two states, and what it does there.
module _ (left right : State) (here there : Result State) where
  pub says_same_view : SameView wide left right (2 sends Drop 3)
      → (desk_at wide left 2 ≡ desk_at wide right 2)
      × (named_words wide left (2 sends Drop 3) ≡ named_words wide right (2 sends Drop 3))
      × (screens_read wide left (2 sends Drop 3) ≡ screens_read wide right (2 sends Drop 3))
  says_same_view view = (view.desk, view.named, view.read)

  pub says_steps_alike : StepsAlike wide (2 sends Drop 3) here there
      → (here.answer ≡ there.answer)
      × (desk_at wide here.after 2 ≡ desk_at wide there.after 2)
      × (named_words wide here.after (2 sends Drop 3) ≡ named_words wide there.after (2 sends Drop 3))
  says_steps_alike alike = (alike.answer, alike.desk, alike.named)

-- What a drop of desk 2, screen 3, and a swap of desk 2 at position 4 leave unchanged.
module _ (before after : State) where
  pub says_desks_stay : OthersStay wide (2 sends Drop 3) before after → desk_at wide after 1 ≡ desk_at wide before 1
  says_desks_stay stay = stay.desks 1 (λ same. omega arith)

  pub says_screens_stay : OthersStay wide (2 sends Drop 3) before after → (c : ℕ) → may_write_screen (Drop 3) c ≡ false → screen_at wide after 2 c ≡ screen_at wide before 2 c
  says_screens_stay stay c kept = stay.screens 2 c (λ same. kept)

  pub says_positions_stay : OthersStay wide (2 sends Swap 4 9) before after → (p : ℕ) → may_write_position (Swap 4 9) p ≡ false → position_at wide after p ≡ position_at wide before p
  says_positions_stay stay = stay.positions

-- ---- Message numbers, for any history and tables: desk 1, whose number is word 38, after 5 calls; and the message of index 4 again at index 7.
module _ (history : List Event) (tables : ℕ → List ℕ) (numbers : MessageNumbers wide history tables) where
  pub says_word : get_or (tables 5) 38 0 ≡ accepted_of 1 (take 5 history) % 65536
  says_word = numbers.word 1 5 (omega arith) (omega arith)

  pub says_again : Redelivered history 4 7 → accepted_between history 4 7 < 65535 → (number_at history 7 ≡ 23) × (tables 8 ≡ tables 7)
  says_again = numbers.again 4 7

  pub says_round : Redelivered history 4 7 → accepted_between history 4 7 ≡ 65535 → number_at history 7 ≡ 23 → ⊥
  says_round = numbers.round 4 7

  pub says_once_back : Redelivered history 4 7 → accepted_between history 4 7 < 65535 → effect_at history 7 ≡ hands_back 9 by 2 → ⊥
  says_once_back = numbers.once 4 7 2 9

  pub says_redelivered : Redelivered history 4 7
      → (4 < 7) × (7 < length history) × (number_at history 4 ≡ 0) × ((call_at history 7).desk ≡ (call_at history 4).desk) × ((call_at history 7).message ≡ (call_at history 4).message)
  says_redelivered twice = (twice.later, twice.within, twice.accepted, twice.desk, twice.message)

-- A history of the wide hall that carries the right numbers: desk 2's call at index 5.
module _ (calls : List Call) (history : List Event) (before : AnsweredAsBefore hall_limits wide calls history) (right : RightNumbers wide history) where
  pub says_right : 5 < length history → 1 ≤ (call_at history 5).desk → (call_at history 5).desk ≤ 2
      → (call_at history 5).message ≡ accepted_of (call_at history 5).desk (take 5 history) % 65536
  says_right = right 5

  pub says_as_before : answers_of history ≡ answers_of (run (step_unnumbered hall_limits wide) (fresh wide) calls)
  says_as_before = before.answers right

  pub says_never_23 : number_at history 5 ≡ 23 → ⊥
  says_never_23 = before.never_23 right 5
