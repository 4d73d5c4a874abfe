-- Of the first board: a sound record encodes a desk, and a step leaves a sound table sound.
use Rattle.std.specs.Prelude.{Ok}
use mathlib.Core.Option.{Option, none, some}
use Rattle.rules.specs.Bytes.{Words16}
use Rattle.rules.specs.Hall.{Hall, Limits, all_screens}
use Rattle.rules.specs.Runs.{answer_request}
use Rattle.rules.specs.Steps.{Call, Result}
use Rattle.rules.specs.Table.{hall_in, sound, step_table}
use Rattle.rules.proofs.Laws.Table.DecodeStepEncode.{step_encoded}
use Rattle.rules.proofs.Laws.Table.Demand1.{step_stays_sound}
use Rattle.rules.proofs.Laws.Table.TableSteps.{unsound-step}
use Rattle.board.specs.Admission.{soundness_of}
use Rattle.std.proofs.Common.{◌≡◌, ℕ, ◌^◌, ◌<◌, Bool, true, false, List, get_or, refl, ap, arith}
use Rattle.rules.specs.Bytes.{words_of_bytes}
use Rattle.rules.proofs.Laws.Bytes.Bytes.{words_are_16}
use Rattle.words.proofs.Laws.{length-words}
use Rattle.desk.specs.Record.{Encoded}
use Rattle.desk.proofs.DeskTie.{sound_encoded}
use Rattle.board.specs.Kind.{SoundRecord, first}

pub record_encoded : {s : ℕ} (bytes : List ℕ) → SoundRecord first s bytes → ((i : ℕ) → get_or bytes i 0 < 2 ^ 8) → Encoded s (words_of_bytes bytes)
record_encoded {s} bytes whole small =
    sound_encoded s (words_of_bytes bytes) whole.bounded (omega (arith, length-words bytes, whole.long)) (words_are_16 bytes small) whole.passes

-- one check is enough: a step leaves a sound table sound, with the same hall, and a table that is not sound as it is
hall_stays : (limits : Limits) (t : List ℕ) → Words16 t → sound limits t ≡ true → (c : Call) → hall_in (step_table limits t c).after ≡ hall_in t
hall_stays limits t wide is-sound c = ap (λ (result : Result (List ℕ)). hall_in result.after) (step_encoded limits t c wide is-sound)

pub still_sound : (limits : Limits) (t : List ℕ) → Words16 t → (asked : Option Call)
    → soundness_of first limits (answer_request (step_table limits) t asked).after ≡ soundness_of first limits t
unfolding soundness_of
still_sound limits t wide none = refl
still_sound limits t wide (some c) = by_soundness (sound limits t) refl
  where
    by_soundness : (b : Bool) → sound limits t ≡ b → soundness_of first limits (step_table limits t c).after ≡ soundness_of first limits t
    by_soundness true e =
        rw (step_stays_sound limits t wide c e, e) (ap (λ (H : Hall). Ok (record { desks = H.desks; screens = H.screens; positions = H.positions; all = all_screens H })) (hall_stays limits t wide e c))
    by_soundness false e = ap (λ (result : Result (List ℕ)). soundness_of first limits result.after) (unsound-step limits t c e)
