-- Each statement about the ring at one instance: what it says in a hall of 2, 3, 4 (S = 6), for a desk, a room and indices that all differ. If a
-- statement had one variable in place of another, a bound off by one or a premise less, it would say something else here.
use Rattle.std.specs.Prelude.{ℕ, ◌+◌, ◌%◌, ◌≡◌, true, List, get_or, take}
use Rattle.std.proofs.Common.{arith}
use Rattle.rules.specs.Bytes.{Call16, Calls16, IsBytes, words_of_bytes}
use Rattle.rules.proofs.Cases.{wide}
use Rattle.rules.specs.Closing.{ClosingRule, HandBackCloses}
use Rattle.rules.specs.Demands.{Demand1, Demand2, Demand3, on_bytes_of, opening_refusals, refusals}
use Rattle.rules.specs.Hall.{training_limits}
use Rattle.rules.specs.History.{hand_backs}
use Rattle.rules.specs.Messages.{MessageNumbers}
use Rattle.rules.specs.Steps.{Call, Event, Result, end, run}
use Rattle.ring_rules.specs.Ring.{linear_table, open_ring_bytes, ring_sound, step_ring_bytes}
use Rattle.ring_rules.specs.RingDemands.{BeginningsCount, FromOpening, RingMeetsDemands, SameHistory, SameStep, ring_footprint, ring_opening_footprint}

-- ---- One call, and a history.
module _ (ring first : Result (List ℕ)) (same : SameStep training_limits ring first) where
  pub says_answer : ring.answer ≡ first.answer
  says_answer = same.answer

  pub says_reads : linear_table ring.after ≡ first.after
  says_reads = same.reads

  pub says_sound : ring_sound training_limits ring.after ≡ true
  says_sound = same.stays

module _ (ring first : List Event) (ring_tables first_tables : ℕ → List ℕ) (same : SameHistory ring first ring_tables first_tables) where
  pub says_replies : ring ≡ first
  says_replies = same.replies

  pub says_reads_after : linear_table (ring_tables 5) ≡ first_tables 5
  says_reads_after = same.reads 5

-- desk 2's beginning is word 66, and there are 12 slots
pub says_beginning : (start after : List ℕ) (history : List Event) → BeginningsCount wide start history after → get_or after 66 0 ≡ (get_or start 66 0 + hand_backs 2 history) % 12
says_beginning start after history counts = counts 2 (omega arith) (omega arith)

-- ---- What passes from the first board.
pub says_from_opening : (statement : List Event → (ℕ → List ℕ) → Type 0) → FromOpening training_limits wide statement
    → (bytes : List ℕ) → IsBytes bytes → (open_ring_bytes training_limits wide bytes).answer.number ≡ 0 → (calls : List Call) → Calls16 calls
    → statement (run (step_ring_bytes training_limits) (open_ring_bytes training_limits wide bytes).after calls)
    (λ i. linear_table (words_of_bytes (end (step_ring_bytes training_limits) (open_ring_bytes training_limits wide bytes).after (take i calls))))
says_from_opening statement holds = holds

module _ (demands : RingMeetsDemands training_limits) where
  pub says_demand_1 : (bytes : List ℕ) (call : Call) → IsBytes bytes → Call16 call
      → Demand1 (refusals call) (on_bytes_of bytes (ring_footprint (words_of_bytes bytes) call)) bytes (step_ring_bytes training_limits bytes call)
  says_demand_1 = demands.demand_1

  pub says_demand_1_opening : (bytes : List ℕ) → IsBytes bytes → Demand1 opening_refusals (on_bytes_of bytes (ring_opening_footprint wide)) bytes (open_ring_bytes training_limits wide bytes)
  says_demand_1_opening = demands.demand_1_opening wide

  pub says_demand_2 : FromOpening training_limits wide (Demand2 wide)
  says_demand_2 = demands.demand_2 wide

  pub says_demand_3 : FromOpening training_limits wide (Demand3 wide)
  says_demand_3 = demands.demand_3 wide

  pub says_closing_rule : FromOpening training_limits wide (λ history tables. ClosingRule wide tables)
  says_closing_rule = demands.closing_rule wide

  pub says_hand_back_closes : FromOpening training_limits wide (HandBackCloses wide)
  says_hand_back_closes = demands.hand_back_closes wide

  pub says_message_numbers : FromOpening training_limits wide (MessageNumbers wide)
  says_message_numbers = demands.message_numbers wide
