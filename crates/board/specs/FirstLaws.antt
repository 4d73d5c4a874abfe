-- The first board is a kind of board.
use Rattle.std.proofs.Common.{◌≡◌, ℕ, ◌+◌, ◌≤◌, ◌<◌, Bool, true, ◌&&◌, leb, List, length, get_or, drop, set, refl, ap, ◌∙◌, sym, arith, drop-drop, length-drop, length-take-le, get_or-drop}
use Rattle.rules.specs.Hall.{Hall, Limits, all_screens}
use Rattle.rules.specs.Lists.{every}
use Rattle.rules.specs.Steps.{Call, Collect, Collected, advance, decide, first_no, next_screens, perform, questions}
use Rattle.rules.specs.Table.{decode_desk, encode_desk, hall_in, header_words, in_limits, open_table, record_sound, sound, step_if, step_table, table_after_step, tail_offset}
use Rattle.rules.proofs.Laws.Table.TableSteps.{collect-seeing, desk_word, held_word, known, shown_at, unsound-step}
use Rattle.desk.proofs.DeskTie.{scanned-below}
use Rattle.board.specs.Kind.{Holds, Laws, Reads, first, need_of, next_of, opened, opening_questions, put_in, record_in, records_of}

reads_lem : (S : ℕ) (words : List ℕ) → Reads first S words
unfolding decode_desk
reads_lem S words =
    let e : tail_offset S + 0 ≡ tail_offset S = omega arith in
    record { owed = refl; scanned = refl; next = get_or-drop (tail_offset S) words 0 0 ∙ ap (λ (k : ℕ). get_or words k 0) e }

holds_lem : (limits : Limits) (t : List ℕ) → sound limits t ≡ true → Holds first t
holds_lem limits t s =
    let k = known limits t s in
    let H = hall_in t in
    record {
      held = held_word t;
      shown = shown_at t;
      screens = length-take-le (all_screens H) (drop H.positions (drop header_words t)) (simp length-drop (omega (arith, k.long)));
      desks = desk_word t;
    }

below : (S : ℕ) (words : List ℕ) → 1 ≤ S → record_sound S words ≡ true → (decode_desk S words).scanned < S
unfolding decode_desk
below S words some passes = scanned-below S words some passes

soundness : (limits : Limits) (t : List ℕ)
    → sound limits t
    ≡ (in_limits limits (hall_in t) && (leb (need_of first (hall_in t)) (length t) && every (record_sound (all_screens (hall_in t))) (records_of first (hall_in t) t)))
unfolding sound
soundness limits t =
    let H = hall_in t in
    let e : header_words + (H.positions + all_screens H) ≡ header_words + H.positions + all_screens H = omega arith in
    rw (drop-drop (all_screens H) H.positions, drop-drop, e) refl

collects : (t : List ℕ) (d : ℕ)
    → let H = hall_in t in
    let S = all_screens H in
    let words = record_in first H t d in
    table_after_step t d Collect ≡ put_in first H t d (first.collected S (next_screens (first.state t).shown (first.desk S words)) words)
collects t d =
    let H = hall_in t in
    let S = all_screens H in
    let words = record_in first H t d in
    ap (λ (g : Collected). put_in first H t d (encode_desk S g.after)) (sym (collect-seeing S (first.state t).shown (decode_desk S words)))

stepping : (limits : Limits) (t : List ℕ) (call : Call) → sound limits t ≡ true
    → let H = hall_in t in
    let state = first.state t in
    let number = next_of first H call.desk in
    step_table limits t call
    ≡ decide (first_no (questions limits H state call)) t (perform H state call).session (set (table_after_step t call.desk call.step) number (advance (get_or t number 0)))
unfolding step_table
stepping limits t call s = ap (λ (b : Bool). step_if limits b t call) s

opening : (limits : Limits) (H : Hall) (t : List ℕ) → open_table limits H t ≡ decide (first_no (opening_questions first limits H t)) t 0 (opened first H t)
unfolding open_table
opening limits H t = refl

pub first_laws : Laws first
first_laws = record {
  numbered = λ S. omega arith;
  narrow = λ S. omega arith;
  reads = λ S words long. reads_lem S words;
  scanned-below = below;
  sound_is = soundness;
  holds = holds_lem;
  take_leaves = λ t d c p. refl;
  drop_leaves = λ t d c. refl;
  swap_leaves = λ t d p session. refl;
  retire_leaves = λ t d. refl;
  collect_leaves = collects;
  unsound = unsound-step;
  steps = stepping;
  opens_is = opening;
}
