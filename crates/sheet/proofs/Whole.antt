-- The theorems about a whole sheet: `start`, and then `fill` until there is no state, each from the state and the table that the last one left.
use Rattle.std.specs.Prelude.{ℕ, suc, ◌≤◌, ◌≡◌, List, ◌++◌, length, Option, IsNone}
use Rattle.buffer.specs.Put.{put_so_far}
use Rattle.buffer.specs.declared.Buffer.{Buffer}
use Rattle.buffer.proofs.Laws.Put.{put_first}
use Rattle.std.proofs.Common.{sym, ap, ◌∙◌, arith}
use Rattle.sheet_rules.specs.Lines.{printed}
use Rattle.sheet_rules.specs.Sheet.{Edition}
use Rattle.sheet.specs.Batch.{BatchResult, Batches, Started, bytes_of, last_state, last_table, sheet_table}
use Rattle.sheet.proofs.Laws.Batches.{batches_bounded, batches_emitted, batches_left_bounded, emitted_all, final_table_at_end, final_table_at_start}
use Rattle.sheet.proofs.Laws.Batches.{final_table_kept}
use Rattle.sheet.specs.declared.State.{State}

module _ (edition : Edition) (sheet : List ℕ) (out : Buffer) (first : Option State) (table : List ℕ) (out_after : Buffer) (started : Started edition sheet out first table out_after)
    (batches : List BatchResult) (each : Batches edition sheet first table batches) where
  -- Once there is no state, the bytes of the batches are exactly what the rules print for the sheet.
  pub whole_sheet : IsNone (last_state first batches) → started.bytes ++ bytes_of batches ≡ printed edition sheet
  whole_sheet finished =
      ap (λ (rest : List ℕ). started.bytes ++ rest) (emitted_all (batches_emitted edition sheet first table batches each) finished) ∙ started.output

  -- Where nothing was put into the buffer before, they are what is in it after `start`, and then the bytes of the batches.
  pub whole_buffer : out.len ≡ 0 → IsNone (last_state first batches) → put_so_far out_after ++ bytes_of batches ≡ printed edition sheet
  whole_buffer empty finished = ap (λ (bytes : List ℕ). bytes ++ bytes_of batches) (put_first started.put empty) ∙ whole_sheet finished

  -- And the table is the one after all calls of the sheet.
  pub whole-table : IsNone (last_state first batches) → last_table table batches ≡ sheet_table edition sheet
  whole-table finished =
      sym (final_table_at_end edition sheet (last_state first batches) (last_table table batches) finished)
      ∙ final_table_kept (batches_emitted edition sheet first table batches each)
      ∙ final_table_at_start started

  -- After `start` there are at most as many batches as the sheet has bytes, plus one.
  pub batches_end : length batches ≤ suc (length sheet)
  batches_end = omega (arith, batches_bounded edition sheet first table batches each, batches_left_bounded sheet first)
