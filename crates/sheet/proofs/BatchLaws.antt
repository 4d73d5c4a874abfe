-- What each case of a record puts, runs and leaves.
use Prim.Native.Nat.{ℕ, ◌+◌, ◌-◌, ◌≤◌, ◌<◌}
use native.Mathlib.Omega.{arith}
use native.Mathlib.Numerals.{add-one}
use mathlib.Core.Path.{◌≡◌, refl, sym, ap, ◌∙◌}
use mathlib.Core.Logic.{◌⊎◌, inl, inr, ⊎_elim}
use mathlib.Core.List.{List, [], ◌∷◌, ◌++◌, append-nil}
use lib.ListN.{length}
use Rattle.std.specs.Prelude.{Option, Some, None}
use Rattle.rules.specs.Numbers.{Parsed, Refusal, parsed, refused}
use Rattle.rules.specs.Steps.{Result}
use Rattle.buffer.specs.Put.{Put}
use Rattle.buffer.specs.declared.Buffer.{Buffer}
use Rattle.buffer.proofs.Laws.Put.{put_none, put_on}
use Rattle.reply.specs.Answer.{Reply, answer_of, answer_with, table_result}
use Rattle.reader.specs.Results.{carried_of}
use Rattle.sheet_rules.specs.Lawful.{Lawful}
use Rattle.sheet_rules.specs.Lines.{answer_line, end_line, line, lines_from, refusal_line}
use Rattle.sheet_rules.specs.Run.{calls_in, run_record}
use Rattle.sheet_rules.specs.Sheet.{Edition, Record, Records, complete, more, stop}
use Rattle.sheet_rules.specs.Tally.{add_step}
use Rattle.sheet_rules.proofs.Laws.Run.{Asks, record_asks}
use Rattle.sheet_rules.proofs.Laws.Sheet.{records_end, records_more, records_stop}
use Rattle.tally.specs.Counts.{to_tally}
use Rattle.tally.specs.declared.Tally.{Tally}
use Rattle.sheet.specs.Batch.{Batch, PartialBatch, Progress, RoomFor, batches_left, record_room, remaining_calls, remaining_output, remaining_records}
use Rattle.sheet.proofs.Laws.Batches.{emitted_append, emitted_none}
use Rattle.sheet.specs.declared.State.{State}

-- ---- One record.

-- what remains, by what the records from the offset on are
module _ (edition : Edition) (sheet : List ℕ) (was : State) (records : Records) (are : remaining_records edition sheet was ≡ records) where
  output_of-records : (table : List ℕ) → remaining_output edition sheet (Some was) table ≡ lines_from edition.limits table was.index (to_tally was.tally) records
  output_of-records table = ap (lines_from edition.limits table was.index (to_tally was.tally)) are

  calls_of-records : remaining_calls edition sheet (Some was) ≡ calls_in records
  calls_of-records = ap calls_in are

-- The state after a record was run.
abbrev after_record : State → ℕ → ℕ → Tally → State
after_record was next desk total = record { offset = next; index = was.index + 1; carried = Some desk; tally = total; soundness = was.soundness }

-- The next record of a sheet, as it is read.
abbrev pub next_record : Edition → List ℕ → State → Parsed Record
next_record edition sheet was = edition.decode_record (carried_of was.carried) sheet was.offset

module _ {edition : Edition} (lawful : Lawful edition) {sheet : List ℕ} {was : State} where
  -- A record was run.
  module _ {entry : Record} {next : ℕ} (inside : was.offset < length sheet) (read : next_record edition sheet was ≡ parsed entry next) where
    pub record_ran : (reply : Reply) {before after : List ℕ} {number session : ℕ} {total : Tally} {out out_after : Buffer}
        → table_result reply after ≡ run_record edition.limits before entry
        → number ≡ (answer_of reply).number
        → session ≡ (answer_of reply).session
        → to_tally total ≡ add_step (to_tally was.tally) entry.code (answer_with number session)
        → Put out out_after (line was.index entry.code number session)
        → PartialBatch edition sheet (Some was) before out (Some (after_record was next entry.desk total)) after out_after
    record_ran reply {before} {after} {number} {session} {total} result is_number is-session counts put = record {
      bytes = line was.index entry.code number session;
      put = put;
      emitted = record {
        output =
            (λ i. answer_line was.index entry.code (answers i) ++ lines_from edition.limits (leaves i) (add-one was.index i) (total_is i) rest)
            ∙ sym (output_of-records edition sheet was (more entry rest) are before);
        calls = asks.call ∷ [];
        run = sym (calls_of-records edition sheet was (more entry rest) are ∙ simp asks.asked);
        table = leaves ∙ simp asks.asked;
      };
    }
      where
        rest : Records
        rest = remaining_records edition sheet (after_record was next entry.desk total)

        are : remaining_records edition sheet was ≡ more entry rest
        are = records_more lawful (carried_of was.carried) sheet was.offset entry next inside read

        -- a record that was read has a step's code
        asks : Asks entry
        asks = record_asks entry (lawful.record_code (carried_of was.carried) sheet was.offset entry next read)

        answers : answer_with number session ≡ (run_record edition.limits before entry).answer
        answers = (λ i. answer_with (is_number i) (is-session i)) ∙ ap (λ (done : Result (List ℕ)). done.answer) result

        leaves : after ≡ (run_record edition.limits before entry).after
        leaves = ap (λ (done : Result (List ℕ)). done.after) result

        total_is : to_tally total ≡ add_step (to_tally was.tally) entry.code (run_record edition.limits before entry).answer
        total_is = counts ∙ ap (add_step (to_tally was.tally) entry.code) answers

    pub record_progress : {total : Tally} → was.index ≤ was.offset → Progress sheet (Some was) (Some (after_record was next entry.desk total))
    record_progress numbered =
        let moved = lawful.record_moves (carried_of was.carried) sheet was.offset entry next read in
        record { fewer = omega (arith, moved.past, moved.inside); numbered = omega (arith, moved.past) }

  module _ {before : List ℕ} {out out_after : Buffer} where
    -- No call remains: these are the last lines.
    last_lines : {bytes : List ℕ} (records : Records) → remaining_records edition sheet was ≡ records → calls_in records ≡ []
        → lines_from edition.limits before was.index (to_tally was.tally) records ≡ bytes
        → Put out out_after bytes
        → PartialBatch edition sheet (Some was) before out None before out_after
    last_lines {bytes} records are none lines put = record {
      bytes = bytes;
      put = put;
      emitted = record {
        output = append-nil bytes ∙ sym (output_of-records edition sheet was records are before ∙ lines);
        calls = [];
        run = sym (calls_of-records edition sheet was records are ∙ none);
        table = refl;
      };
    }

    -- The record ends the reading.
    pub reading_stopped : {reason : Refusal} → was.offset < length sheet → next_record edition sheet was ≡ refused reason
        → Put out out_after (refusal_line was.index reason ++ end_line (to_tally was.tally))
        → PartialBatch edition sheet (Some was) before out None before out_after
    reading_stopped inside read = last_lines (stop _) (records_stop lawful (carried_of was.carried) sheet was.offset _ inside read) refl refl

    -- No record remains.
    pub sheet_ended : length sheet ≤ was.offset → Put out out_after (end_line (to_tally was.tally))
        → PartialBatch edition sheet (Some was) before out None before out_after
    sheet_ended past = last_lines complete (records_end lawful (carried_of was.carried) sheet was.offset past) refl refl

-- ---- A batch, record after record, at the loop's test.
pub record InBatch (edition : Edition) (sheet : List ℕ) (was : State) (before : List ℕ) (out : Buffer) (is : State) (after : List ℕ) (out_after : Buffer) : Type 0 where
  pub partial : PartialBatch edition sheet (Some was) before out (Some is) after out_after
  pub numbered : is.index ≤ is.offset
  pub no_more : batches_left sheet (Some is) ≤ batches_left sheet (Some was)
  -- after the first pass of the loop, a record was read
  pub fewer : (out_after.len ≡ out.len) ⊎ (batches_left sheet (Some is) ≤ batches_left sheet (Some was) - 1)

pub in_batch_first : {edition : Edition} {sheet : List ℕ} {was : State} {before : List ℕ} {out : Buffer} → was.index ≤ was.offset → InBatch edition sheet was before out was before out
in_batch_first {out = out} numbered = record {
  partial = record { bytes = []; put = put_none out; emitted = emitted_none };
  numbered = numbered;
  no_more = omega arith;
  fewer = inl refl;
}

module _ {edition : Edition} {sheet : List ℕ} {was : State} {before : List ℕ} {out : Buffer} {is : State} {after : List ℕ} {out_after : Buffer}
    (batch : InBatch edition sheet was before out is after out_after) where
  -- one part more
  on : {next : Option State} {table_next : List ℕ} {out_next : Buffer} → PartialBatch edition sheet (Some is) after out_after next table_next out_next
      → PartialBatch edition sheet (Some was) before out next table_next out_next
  on partial = record {
    bytes = batch.partial.bytes ++ partial.bytes;
    put = put_on batch.partial.put partial.put;
    emitted = emitted_append batch.partial.emitted partial.emitted;
  }

  -- one record more
  pub in_batch_next : {next : State} {table_next : List ℕ} {out_next : Buffer} → PartialBatch edition sheet (Some is) after out_after (Some next) table_next out_next
      → Progress sheet (Some is) (Some next)
      → InBatch edition sheet was before out next table_next out_next
  in_batch_next partial progress = record {
    partial = on partial;
    numbered = progress.numbered;
    no_more = omega (arith, progress.fewer, batch.no_more);
    fewer = inr (omega (arith, progress.fewer, batch.no_more));
  }

  -- the batch ends because the last line is put
  pub batch_finished : {table_next : List ℕ} {out_next : Buffer} → PartialBatch edition sheet (Some is) after out_after None table_next out_next
      → Batch edition sheet (Some was) before out None table_next out_next
  batch_finished partial = record { partial = on partial; progress = record { fewer = omega arith; numbered = tt } }

  -- or because there is no more room
  pub batch_full : RoomFor record_room out → (RoomFor record_room out_after → ⊥) → Batch edition sheet (Some was) before out (Some is) after out_after
  batch_full room full = record {
    partial = batch.partial;
    progress = record {
      fewer = ⊎_elim (λ first. absurd (full (omega (arith, first, room, batch.partial.put.long)))) (λ fewer. fewer) batch.fewer;
      numbered = batch.numbered;
    };
  }

-- where nothing was left to do, nothing is done
pub batch_of-none : {edition : Edition} {sheet before : List ℕ} {out : Buffer} → Batch edition sheet None before out None before out
batch_of-none {out = out} = record {
  partial = record { bytes = []; put = put_none out; emitted = emitted_none };
  progress = record { fewer = omega arith; numbered = tt };
}
