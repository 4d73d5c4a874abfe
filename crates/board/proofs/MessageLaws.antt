-- The message number: an accepted step, and no other, moves it on; and what `next_in` finds.
use Rattle.std.specs.Prelude.{Err}
use Rattle.std.proofs.Common.{◌≡◌, ℕ, zero, suc, ◌+◌, ◌*◌, ◌<◌, true, false, List, length, get_or, set, sym, refl, ap, ◌∙◌, arith, eq-eqb, ne_eqb}
use mathlib.Core.Bool.{and-false}
use lib.Dec.{eqb-suc-zero}
use Rattle.rules.specs.Bytes.{words_of_bytes}
use Rattle.rules.specs.Hall.{Limits}
use Rattle.rules.specs.Messages.{next_in}
use Rattle.rules.specs.Steps.{Call, Result, Step, ◌numbered◌, ◌sends◌, accept, advance, decide, perform, first_no, in_range, perform_step, step_questions}
use Rattle.rules.specs.Table.{hall_in, in_hall, next_word, within}
use Rattle.board.specs.Kind.{Kind, Laws, first, next_of}
use Rattle.rules.proofs.Laws.History.StepEffects.{in_range_lem}
use Rattle.rules.proofs.Laws.Lists.Bools.{and_left}
use Rattle.rules.proofs.Laws.Table.TableSteps.{known_inside}
use Rattle.words.proofs.Laws.{length-words, written_then}
use Rattle.reply.specs.Answer.{Reply, number_of, table_result}
use Rattle.reply.specs.declared.Reason.{Reason}
use Rattle.reply.proofs.Numbers.{not_0}
use Rattle.board.specs.Results.{Matches, Performed, Stepped, admitted_step, moved_on}
use Rattle.board.specs.declared.Location.{Location}
use Rattle.board.specs.declared.Hall.{Hall as Numbers}
use Rattle.board.proofs.AdmissionLaws.{AdmitsCall, SoundHall, admitted, asked, number_word, refused_step}

-- a step of a desk that is admitted with its next message number, given the result of all but the number
module _ {kind : Kind} (laws : Laws kind) {limits : Limits} {t : List ℕ} {message desk : ℕ} {p : Location} (a : AdmitsCall kind limits t message desk p) (step : Step) where
  abbrev own_asked : ℕ
  own_asked = first_no (step_questions limits (hall_in t) (kind.state t) desk step)

  abbrev call : Call
  call = desk sends step numbered message

  all_asked : asked laws limits t call ≡ own_asked
  all_asked =
      let range = in_range_lem desk (hall_in t).desks a.admits_desk.yes_desk in
      rw (a.admits_desk.yes_desk, number_word laws limits t call a.admits_desk.yes_sound range.0 range.1, eq-eqb message (get_or t (next_of kind (hall_in t) desk) 0) a.is_next)

  numbered_step : moved_on p.next message (admitted_step kind limits t desk step) ≡ kind.step limits t call
  unfolding admitted_step
  numbered_step = by_number_lem own_asked refl
    where
      moved : ℕ → Result (List ℕ)
      moved n = moved_on p.next message (decide n t (perform_step (hall_in t) (kind.state t) desk step).session (kind.after t desk step))

      by_number_lem : (n : ℕ) → own_asked ≡ n → moved own_asked ≡ kind.step limits t call
      by_number_lem zero q =
          ap moved q
          ∙ (λ i. accept (perform_step (hall_in t) (kind.state t) desk step).session (set (kind.after t desk step) ((admitted laws a.admits_desk).next_is i) (advance (a.is_next i))))
          ∙ sym (laws.steps limits t call a.admits_desk.yes_sound ∙ ap (λ (m : ℕ). decide m t (perform (hall_in t) (kind.state t) call).session (set (kind.after t desk step) (next_of kind (hall_in t) desk) (advance (get_or t (next_of kind (hall_in t) desk) 0)))) (all_asked ∙ q))
      by_number_lem (suc n) q = ap moved q ∙ rw (eqb-suc-zero n) (sym (refused_step laws limits t call n a.admits_desk.yes_sound (all_asked ∙ q)))

-- the step on bytes: its own function, then `move_on`, for which the number is there
pub number_in_bytes : {kind : Kind} (laws : Laws kind) {limits : Limits} (before between : List ℕ) {message desk : ℕ} {p : Location} → AdmitsCall kind limits (words_of_bytes before) message desk p
    → length between ≡ length before → 2 * p.next + 1 < length between
number_in_bytes laws before between a long = omega (arith, (admitted laws a.admits_desk).number_there, length-words before, long)

pub stepped : {kind : Kind} (laws : Laws kind) {limits : Limits} {before between after : List ℕ} {message desk : ℕ} {p : Location} {r x : Reply}
    → AdmitsCall kind limits (words_of_bytes before) message desk p → (step : Step) → Performed kind limits desk step before r between → length between ≡ length before
    → Matches (moved_on p.next message (table_result r (words_of_bytes between))) between x after
    → Stepped kind limits (desk sends step numbered message) before x after
stepped laws {before = before} {between} {after} {message} {p = p} a step done long moved =
    record {
      words = moved.words ∙ ap (moved_on p.next message) done.words ∙ numbered_step laws a step;
      last =
          (written_then {first = before} {before = between} {after = after} (record { holds = refl; last = done.last }) long (record { holds = refl; last = moved.last })
          ).last;
    }

-- a step that its own questions refuse: the rules refuse it, and no number moves on
pub not_stepped : {kind : Kind} (laws : Laws kind) {limits : Limits} {before after : List ℕ} {message desk : ℕ} {p : Location} {reason : Reason}
    → AdmitsCall kind limits (words_of_bytes before) message desk p → (step : Step) → Performed kind limits desk step before (Err reason) after
    → Stepped kind limits (desk sends step numbered message) before (Err reason) after
not_stepped laws {after = after} {message} {p = p} {reason} a step done =
    let stays : table_result (Err reason) (words_of_bytes after) ≡ moved_on p.next message (table_result (Err reason) (words_of_bytes after)) =
    rw (ne_eqb (number_of reason) 0 (not_0 reason)) in
    record { words = stays ∙ ap (moved_on p.next message) done.words ∙ numbered_step laws a step; last = done.last }

-- ---- the next message number of desk d in a sound table
module _ {limits : Limits} {t : List ℕ} {h : Numbers} (hall : SoundHall first limits t h) (d : ℕ) where
  desks_are : h.desks ≡ (hall_in t).desks
  desks_are = ap (λ (x : Numbers). x.desks) hall.is

  pub next_of_no_desk : in_range d h.desks ≡ false → 0 ≡ next_in t d
  next_of_no_desk out = sym (rw (ap (in_range d) (sym desks_are) ∙ out, and-false (in_hall (hall_in t))))

  pub next_of_desk : in_range d h.desks ≡ true → {at : ℕ} → at ≡ next_word (hall_in t) d → get_or t at 0 ≡ next_in t d
  next_of_desk own at-is =
      let inside = and_left (in_hall (hall_in t)) (within limits (hall_in t)) (known_inside limits t hall.yes_sound) in
      ap (λ (k : ℕ). get_or t k 0) at-is ∙ sym (rw (inside, ap (in_range d) (sym desks_are) ∙ own))
