-- What a record does, by what is known of the table.
use Prim.Native.Nat.{ℕ}
use mathlib.Core.Bool.{Bool, true, false, cond}
use mathlib.Core.List.{List}
use mathlib.Core.Option.{Option, none, some}
use mathlib.Core.Path.{◌≡◌, refl, sym, ap, subst, ◌∙◌}
use lib.Dec.{eqb}
use Rattle.rules.specs.Bytes.{IsBytes, words_of_bytes}
use Rattle.rules.specs.Hall.{Limits}
use Rattle.rules.specs.Messages.{next_in, send}
use Rattle.rules.specs.Runs.{answer_request, request_for}
use Rattle.codes.specs.Code.{code_of}
use Rattle.codes.specs.declared.Code.{Code}
use Rattle.codes.specs.declared.Code.TheVariants.{Collect, Drop, Retire, Swap, Take}
use Rattle.rules.specs.Steps.{Call, Collect as CollectStep, Drop as DropStep, Result, Retire as RetireStep, Swap as SwapStep, Take as TakeStep, ◌numbered◌, ◌sends◌}
use Rattle.rules.specs.Table.{step_table}
use Rattle.rules.proofs.Laws.Bytes.Bytes.{words_are_16}
use Rattle.reply.specs.Answer.{Reply}
use Rattle.reply.specs.declared.Reason.{Reason}
use Rattle.reply.specs.declared.Reason.TheVariants.{NoCode}
use Rattle.std.specs.Prelude.{Result as OkOrErr, Err}
use Rattle.board.specs.Admission.{soundness_of}
use Rattle.board.specs.Results.{Matches, Requested}
use Rattle.board.specs.Kind.{first}
use Rattle.board.specs.FirstLaws.{first_laws}
use Rattle.board.specs.declared.Hall.{Hall}
use Rattle.board.proofs.AdmissionLaws.{refused_table}
use Rattle.board.proofs.RecordLaws.{still_sound}
use Rattle.board.proofs.ResultLaws.{matches_unchanged}
use Rattle.sheet_rules.specs.Run.{call_of, run_record}
use Rattle.sheet_rules.specs.Sheet.{Record, is_code}
use Rattle.sheet_rules.proofs.Laws.Run.{other_code_asks_none, record_asks}
use Rattle.sheet.specs.Run.{Ran}

-- ---- A sound table: the request with the desk's next message number is what the record asks for.
sent_right : (limits : Limits) (table : List ℕ) (entry : Record)
    → answer_request (step_table limits) table (request_for entry.code (next_in table entry.desk) entry.desk entry.screen entry.position entry.session)
    ≡ run_record limits table entry
sent_right limits table entry =
    by_code (eqb entry.code 1) (eqb entry.code 2) (eqb entry.code 3) (eqb entry.code 4) (eqb entry.code 5)
  where
    asked : ℕ → Bool → Bool → Bool → Bool → Bool → Option Call
    asked m a b c d e =
        cond a (some (entry.desk sends TakeStep entry.screen entry.position numbered m))
        (cond b (some (entry.desk sends DropStep entry.screen numbered m))
        (cond c (some (entry.desk sends SwapStep entry.position entry.session numbered m))
        (cond d (some (entry.desk sends RetireStep numbered m)) (cond e (some (entry.desk sends CollectStep numbered m)) none))))

    by_code : (a b c d e : Bool) → answer_request (step_table limits) table (asked (next_in table entry.desk) a b c d e) ≡ answer_request (send limits) table (asked 0 a b c d e)
    by_code true b c d e = refl
    by_code false true c d e = refl
    by_code false false true d e = refl
    by_code false false false true e = refl
    by_code false false false false true = refl
    by_code false false false false false = refl

-- a number that is the code of a step is 1 to 5
pub code_of-step : (step : Code) {code : ℕ} → code_of step ≡ code → is_code code ≡ true
code_of-step step {code} is = subst (λ (n : ℕ). is_code n ≡ true) is (good step)
  where
    good : (code : Code) → is_code (code_of code) ≡ true
    good Take = refl
    good Drop = refl
    good Swap = refl
    good Retire = refl
    good Collect = refl

module _ (limits : Limits) (bytes : List ℕ) (entry : Record) where
  pub record_sent : {message : ℕ} {r : Reply} {after : List ℕ} → message ≡ next_in (words_of_bytes bytes) entry.desk
      → Requested first limits (request_for entry.code message entry.desk entry.screen entry.position entry.session) bytes r after
      → Ran limits entry bytes r after
  record_sent {r = r} {after} is did =
      subst (λ (result : Result (List ℕ)). Matches result bytes r after)
      (ap (λ (m : ℕ). answer_request (step_table limits) (words_of_bytes bytes) (request_for entry.code m entry.desk entry.screen entry.position entry.session)) is ∙ sent_right limits (words_of_bytes bytes) entry)
      did

  -- ---- A table that is not sound: 5, and nothing written.
  pub record_unsound : {reason : Reason} → Err reason ≡ soundness_of first limits (words_of_bytes bytes) → is_code entry.code ≡ true → Ran limits entry bytes (Err reason) bytes
  record_unsound is code =
      let asks = record_asks entry code in
      let table = words_of_bytes bytes in
      matches_unchanged (refused_table first_laws limits table (asks.call numbered next_in table asks.call.desk) is ∙ sym (ap (answer_request (send limits) table) asks.asked))

  -- ---- Another code: 17, and nothing written.
  pub record_of-other-code : {reason : Reason} → reason ≡ NoCode → is_code entry.code ≡ false → Ran limits entry bytes (Err reason) bytes
  record_of-other-code {reason} is other =
      rw is (matches_unchanged (sym (ap (answer_request (send limits) (words_of_bytes bytes)) (other_code_asks_none entry other))))

  -- ---- Whatever it was, the table is as sound as before.
  pub still_checked : {said : OkOrErr Hall Reason} {r : Reply} {after : List ℕ} → IsBytes bytes → said ≡ soundness_of first limits (words_of_bytes bytes)
      → Ran limits entry bytes r after
      → said ≡ soundness_of first limits (words_of_bytes after)
  still_checked are said ran =
      said ∙ sym (ap (λ (result : Result (List ℕ)). soundness_of first limits result.after) ran.words ∙ by_call (call_of entry))
    where
      by_call : (asked : Option Call) → soundness_of first limits (answer_request (send limits) (words_of_bytes bytes) asked).after ≡ soundness_of first limits (words_of_bytes bytes)
      by_call none = refl
      by_call (some call) = still_sound limits (words_of_bytes bytes) (words_are_16 bytes are) (some (call numbered next_in (words_of_bytes bytes) call.desk))
