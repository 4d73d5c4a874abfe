-- The ways that a sheet starts: its reading ends before a record, an opening is refused, or a hall is open.
use Prim.Native.Nat.{ℕ, zero, suc}
use native.Mathlib.Omega.{arith}
use mathlib.Core.Path.{◌≡◌, refl, sym, ap, ◌∙◌}
use mathlib.Core.List.{List, ◌++◌, append-nil}
use lib.ListN.{length-append}
use Rattle.std.specs.Prelude.{Some, None, Err}
use Rattle.rules.specs.Bytes.{words_of_bytes}
use Rattle.rules.specs.Hall.{Hall, Limits}
use Rattle.rules.specs.Numbers.{Refusal, parsed, refusal_of}
use Rattle.rules.specs.Steps.{Answer, Result, decide}
use Rattle.rules.specs.Table.{open_table, opened_table, sound}
use Rattle.board.specs.Admission.{soundness_of}
use Rattle.board.specs.Kind.{first}
use Rattle.buffer.specs.Put.{Put}
use Rattle.buffer.specs.declared.Buffer.{Buffer}
use Rattle.reply.specs.Answer.{Reply, answer_of, number_of, table_result}
use Rattle.reply.specs.declared.Reason.{Reason}
use Rattle.reply.specs.declared.Reason.TheVariants.{Unsound}
use Rattle.reply.proofs.Numbers.{not_0}
use Rattle.sheet_rules.specs.Lines.{answer_line, end_line, line, lines_from, lines_of, printed, refusal_line}
use Rattle.sheet_rules.specs.Sheet.{Edition, Records, after_opening, begin_sheet, if_opens, lent_table, opening_number, reading, unopened}
use Rattle.sheet_rules.specs.Tally.{zeros}
use Rattle.sheet_rules.proofs.Laws.Sheet.{begun, opening_answer, reading-opens}
use Rattle.reader.specs.Results.{edition_of}
use Rattle.reader.specs.declared.Edition.{Edition as ReaderEdition}
use Rattle.sheet.specs.Batch.{Opens, Started, calls_of, remaining_records, start_table}
use Rattle.sheet.proofs.Laws.Length.{line_some}
use Rattle.sheet.specs.declared.State.{State}

-- a table that was not opened is not sound
pub lent_unsound : (limits : Limits) {words : List ℕ} → words ≡ lent_table → Err Unsound ≡ soundness_of first limits words
unfolding soundness_of sound lent_table
lent_unsound limits is = sym (ap (soundness_of first limits) is)

-- The header was read, and the board replied to the opening.
module _ (edition : Edition) (sheet : List ℕ) {hall : Hall} {next : ℕ} {after : List ℕ} (read : begin_sheet edition sheet ≡ parsed hall next) where
  -- the number of the reply is the opening's
  pub opening_is : (reply : Reply) → table_result reply after ≡ open_table edition.limits hall lent_table → opening_number edition.limits hall ≡ (answer_of reply).number
  opening_is reply tells =
      sym (ap (λ (answer : Answer). answer.number) (opening_answer edition.limits hall)) ∙ sym (ap (λ (done : Result (List ℕ)). done.answer.number) tells)

  pub reads_by : (reply : Reply) → table_result reply after ≡ open_table edition.limits hall lent_table
      → reading edition sheet ≡ after_opening edition sheet (if_opens (answer_of reply).number hall next)
  reads_by reply tells = reading-opens edition sheet (begun edition sheet read (opening_is reply tells))

  -- an opening that is refused ends the reading, and leaves the table as it was
  pub opening_refused : (reason : Reason) → table_result (Err reason) after ≡ open_table edition.limits hall lent_table
      → (reading edition sheet ≡ unopened (refusal_of 0 (number_of reason) 0)) × (after ≡ lent_table)
  unfolding open_table opening_number
  opening_refused reason tells = (
    reads_by (Err reason) tells ∙ ends (number_of reason) (not_0 reason),
    ap (λ (done : Result (List ℕ)). done.after) tells
        ∙ ap (λ (n : ℕ). (decide n lent_table 0 (opened_table hall lent_table)).after) (opening_is (Err reason) tells)
        ∙ leaves (number_of reason) (not_0 reason),
  )
    where
      ends : (n : ℕ) → (n ≡ 0 → ⊥) → after_opening edition sheet (if_opens n hall next) ≡ unopened (refusal_of 0 n 0)
      ends zero some = absurd (some refl)
      ends (suc n) some = refl

      leaves : (n : ℕ) → (n ≡ 0 → ⊥) → (decide n lent_table 0 (opened_table hall lent_table)).after ≡ lent_table
      leaves zero some = absurd (some refl)
      leaves (suc n) some = refl

-- The reading ended before a record: the header's line and the last line are all there is.
pub started_stopped : {edition : Edition} {sheet after : List ℕ} {out out_after : Buffer} {reason : Refusal} → reading edition sheet ≡ unopened reason → after ≡ lent_table
    → Put out out_after (refusal_line 0 reason ++ end_line zeros)
    → Started edition sheet out None after out_after
unfolding printed
started_stopped {edition} {sheet} {after} {reason = reason} reads same put = record {
  bytes = refusal_line 0 reason ++ end_line zeros;
  put = put;
  output = append-nil _ ∙ sym (ap (lines_of edition.limits) reads);
  some = omega (arith, length-append (refusal_line 0 reason) (end_line zeros), line_some 0 reason.code reason.number reason.offset);
  run = sym (ap calls_of reads);
  table = same ∙ sym (ap (start_table edition.limits) reads);
  numbered = tt;
}

-- A hall was opened: its line is the first.
pub started_opened : {edition : ReaderEdition} {sheet after : List ℕ} {out out_after : Buffer} {is : State} → Opens edition sheet is after → Put out out_after (line 0 0 0 0)
    → Started (edition_of edition) sheet out (Some is) (words_of_bytes after) out_after
unfolding printed
started_opened {edition} {sheet} {after} {is = is} opens put = record {
  bytes = line 0 0 0 0;
  put = put;
  output =
      (λ i. line 0 0 0 0 ++ lines_from limits (opens.table i) (opens.first_record i) (opens.none_counted i) rest)
      ∙ ap (λ (answer : Answer). answer_line 0 0 answer ++ lines_from limits (open_table limits opens.hall lent_table).after 1 zeros rest) (sym answers)
      ∙ sym (ap (lines_of limits) opens.reads);
  some = line_some 0 0 0 0;
  run = sym (ap calls_of opens.reads);
  table = opens.table ∙ sym (ap (start_table limits) opens.reads);
  numbered = opens.numbered;
}
  where
    limits : Limits
    limits = (edition_of edition).limits

    rest : Records
    rest = remaining_records (edition_of edition) sheet is

    answers : (open_table limits opens.hall lent_table).answer ≡ record { number = 0; session = 0 }
    answers = opening_answer limits opens.hall ∙ ap (λ (n : ℕ). record { number = n; session = 0 }) opens.accepted
