-- The ring is a kind of board.
use Rattle.std.proofs.Common.{◌≡◌, ℕ, ◌+◌, Bool, true, ◌&&◌, leb, List, length, get_or, set, refl, sym, ap, ◌∙◌, arith, get_or-drop}
use Rattle.rules.specs.Hall.{Hall, Limits, all_screens}
use Rattle.rules.specs.Lists.{every}
use Rattle.rules.specs.Steps.{Call, Collect, advance, decide, first_no, next_screens, perform, questions}
use Rattle.rules.specs.Table.{decode_desk, hall_in, in_limits, tail_offset}
use Rattle.ring_rules.specs.Ring.{linear, open_ring, put_ring, ring_after_step, ring_need, ring_record_of, ring_record_sound, ring_sound, ring_state, ring_step_if, ring_width_for, step_ring}
use Rattle.ring_rules.proofs.Laws.Records.{linear-head, linear_tail}
use Rattle.ring_rules.proofs.Laws.RingReads.{ring_held_word, ring_shown_at}
use Rattle.ring_rules.proofs.Laws.RingSteps.{desk_is, held, ring_known, unsound-ring}
use Rattle.ring_desk.proofs.RingFound.{collect_ring-next, ring-scanned-below}
use Rattle.board.specs.Kind.{Holds, Laws, Reads, need_of, next_of, opened, opening_questions, records_of}
use Rattle.ring.specs.RingKind.{ring}

reads_lem : (S : ℕ) (words : List ℕ) → length words ≡ ring_width_for S → Reads ring S words
unfolding decode_desk
reads_lem S words long =
    let e : tail_offset S + 0 ≡ tail_offset S = omega arith in
    record {
      owed = linear-head S words long 0 (omega arith);
      scanned = linear-head S words long 1 (omega arith);
      next = get_or-drop (tail_offset S) (linear S words) 0 0 ∙ linear_tail S words long 0 (omega arith) ∙ ap (λ (k : ℕ). get_or words k 0) e;
    }

holds_lem : (limits : Limits) (t : List ℕ) → ring_sound limits t ≡ true → Holds ring t
holds_lem limits t s =
    let k = ring_known limits t s in
    record {
      held = ring_held_word limits t k;
      shown = ring_shown_at limits t k;
      screens = (held limits t k).valid_state.formed.screens;
      desks = λ d first last. desk_is limits t k d (first, last);
    }

-- "its need is P words more"
need_lem : (H : Hall) → ring_need H ≡ need_of ring H
need_lem H = omega arith

soundness : (limits : Limits) (t : List ℕ)
    → ring_sound limits t
    ≡ (in_limits limits (hall_in t) && (leb (need_of ring (hall_in t)) (length t) && every (ring_record_sound (all_screens (hall_in t))) (records_of ring (hall_in t) t)))
unfolding ring_sound
soundness limits t = rw (need_lem (hall_in t)) refl

collects : (t : List ℕ) (d : ℕ)
    → let H = hall_in t in
    let S = all_screens H in
    let words = ring_record_of H t d in
    ring_after_step t d Collect ≡ put_ring H t d (ring.collected S (next_screens (ring_state t).shown (ring.desk S words)) words)
collects t d =
    let H = hall_in t in
    let S = all_screens H in
    ap (put_ring H t d) (sym (collect_ring-next S (ring_state t).shown (ring_record_of H t d)))

stepping : (limits : Limits) (t : List ℕ) (call : Call) → ring_sound limits t ≡ true
    → let H = hall_in t in
    let state = ring_state t in
    let number = next_of ring H call.desk in
    step_ring limits t call
    ≡ decide (first_no (questions limits H state call)) t (perform H state call).session (set (ring_after_step t call.desk call.step) number (advance (get_or t number 0)))
unfolding step_ring
stepping limits t call s = ap (λ (b : Bool). ring_step_if limits b t call) s

opening : (limits : Limits) (H : Hall) (t : List ℕ) → open_ring limits H t ≡ decide (first_no (opening_questions ring limits H t)) t 0 (opened ring H t)
unfolding open_ring
opening limits H t = rw (need_lem H) refl

pub ring_laws : Laws ring
ring_laws = record {
  numbered = λ S. omega arith;
  narrow = λ S. omega arith;
  reads = reads_lem;
  scanned-below = λ S words some passes. ring-scanned-below S words passes;
  sound_is = soundness;
  holds = holds_lem;
  take_leaves = λ t d c p. refl;
  drop_leaves = λ t d c. refl;
  swap_leaves = λ t d p session. refl;
  retire_leaves = λ t d. refl;
  collect_leaves = collects;
  unsound = unsound-ring;
  steps = stepping;
  opens_is = opening;
}
