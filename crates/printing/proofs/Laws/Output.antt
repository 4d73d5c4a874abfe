-- Laws of the output that was handed over.
use Rattle.std.specs.Prelude.{ℕ, ◌+◌, ◌*◌, ◌≤◌, ◌≡◌, refl, List, [], ◌++◌, length, drop, Option, IsNone}
use Rattle.buffer.specs.declared.Buffer.{Buffer}
use Rattle.std.proofs.Common.{arith, sym, ap, ◌∙◌, append_assoc, append-nil, length-append, length-drop, drop_at, drop-drop}
use Rattle.rules.specs.Messages.{send}
use Rattle.rules.specs.Steps.{Call, end}
use Rattle.sheet.specs.Batch.{Batch, Emitted, Started, calls_of, remaining_calls, remaining_output, sheet_table, start_table}
use Rattle.sheet.proofs.Laws.Batches.{end_append, no_state}
use Rattle.sheet.proofs.Laws.Length.{output_bounded}
use Rattle.sheet.specs.declared.State.{State}
use Rattle.sheet_rules.specs.Lines.{printed}
use Rattle.sheet_rules.specs.Sheet.{Edition, reading}
use Rattle.printing.specs.Output.{Reached}

-- After the first batch.
pub reached_start : {edition : Edition} {sheet : List ℕ} {out : Buffer} {state : Option State} {table : List ℕ} {out_after : Buffer} (started : Started edition sheet out state table out_after)
    → Reached edition sheet (length started.bytes) state table
reached_start {edition} {sheet} {out} {state} {table} {out_after} started = record {
  within = omega (arith, ap length started.output, length-append started.bytes (remaining_output edition sheet state table));
  output =
      sym
      (ap (drop (length started.bytes)) (sym started.output)
      ∙ drop_at started.bytes (remaining_output edition sheet state table) (length started.bytes) refl);
  calls = [];
  run = started.run;
  left = started.table;
}

-- After one more batch.
pub reached_batch : {edition : Edition} {sheet : List ℕ} {bytes : ℕ} {was : Option State} {before : List ℕ} {out : Buffer} {state : Option State} {table : List ℕ} {out_after : Buffer}
    → Reached edition sheet bytes was before → (batch : Batch edition sheet was before out state table out_after)
    → Reached edition sheet (bytes + length batch.partial.bytes) state table
reached_batch {edition} {sheet} {bytes} {was} {before} {out} {state} {table} {out_after} reached batch = record {
  within = omega (arith, reached.within, ap length whole, length-append part (remaining_output edition sheet state table), length-drop bytes (printed edition sheet));
  output =
      sym
      (sym (drop-drop (length part) bytes (printed edition sheet))
      ∙ ap (drop (length part)) (sym whole)
      ∙ drop_at part (remaining_output edition sheet state table) (length part) refl);
  calls = reached.calls ++ emitted.calls;
  run =
      append_assoc reached.calls emitted.calls _
      ∙ ap (λ (rest : List Call). reached.calls ++ rest) emitted.run
      ∙ reached.run;
  left =
      emitted.table
      ∙ ap (λ (words : List ℕ). end (send edition.limits) words emitted.calls) reached.left
      ∙ sym (end_append edition.limits (start_table edition.limits (reading edition sheet)) reached.calls emitted.calls);
}
  where
    part : List ℕ
    part = batch.partial.bytes

    emitted : Emitted edition sheet was before part state table
    emitted = batch.partial.emitted

    whole : part ++ remaining_output edition sheet state table ≡ drop bytes (printed edition sheet)
    whole = emitted.output ∙ reached.output

-- The output is far shorter than the largest number of 64 bits.
pub reached_fits : {edition : Edition} {sheet : List ℕ} {bytes : ℕ} {state : Option State} {table : List ℕ} → Reached edition sheet bytes state table → bytes ≤ 84 * 65538 + 67
reached_fits {edition} {sheet} reached = omega (arith, reached.within, output_bounded edition sheet)

-- After the last line nothing remains: all bytes were handed over, and the table is as all calls of the sheet leave it.
pub finished_bytes : {edition : Edition} {sheet : List ℕ} {bytes : ℕ} {state : Option State} {table : List ℕ} → Reached edition sheet bytes state table → IsNone state
    → bytes ≡ length (printed edition sheet)
finished_bytes {edition} {sheet} {bytes} {state} {table} reached finished =
    let none : remaining_output edition sheet state table ≡ [] = ap (λ (s : Option State). remaining_output edition sheet s table) (no_state finished) in
    omega (arith, reached.within, ap length (sym reached.output ∙ none), length-drop bytes (printed edition sheet))

pub finished_table : {edition : Edition} {sheet : List ℕ} {bytes : ℕ} {state : Option State} {table : List ℕ} → Reached edition sheet bytes state table → IsNone state
    → table ≡ sheet_table edition sheet
finished_table {edition} {sheet} {bytes} {state} {table} reached finished =
    let none : remaining_calls edition sheet state ≡ [] = ap (remaining_calls edition sheet) (no_state finished) in
    let all : reached.calls ≡ calls_of (reading edition sheet) =
    sym (append-nil reached.calls) ∙ ap (λ (rest : List Call). reached.calls ++ rest) (sym none) ∙ reached.run in
    reached.left ∙ ap (end (send edition.limits) (start_table edition.limits (reading edition sheet))) all
