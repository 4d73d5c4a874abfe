-- Laws of batches one after another.
use Rattle.std.specs.Prelude.{ℕ, suc, ◌+◌, ◌≤◌, ◌<◌, ◌≡◌, refl, List, [], ◌∷◌, ◌++◌, length, Option, Some, None, IsSome, IsNone, true, false}
use Rattle.std.proofs.Common.{arith, sym, ap, ◌∙◌, append_assoc, append-nil}
use Rattle.rules.specs.Hall.{Limits}
use Rattle.rules.specs.Messages.{send}
use Rattle.rules.specs.Steps.{Call, end}
use Rattle.sheet_rules.specs.Sheet.{Edition}
use Rattle.sheet.specs.Batch.{BatchResult, Batches, Emitted, Progress, Started, batches_left, bytes_of, last_state, last_table, remaining_calls}
use Rattle.sheet.specs.Batch.{remaining_output, sheet_table}
use Rattle.buffer.specs.declared.Buffer.{Buffer}
use Rattle.sheet.specs.declared.State.{State}

pub end_append : (limits : Limits) (table : List ℕ) (calls more : List Call)
    → end (send limits) table (calls ++ more) ≡ end (send limits) (end (send limits) table calls) more
end_append limits table [] more = refl
end_append limits table (call ∷ calls) more = end_append limits (send limits table call).after calls more

-- ---- Bytes emitted.

-- no byte, and no call
pub emitted_none : {edition : Edition} {sheet : List ℕ} {state : Option State} {table : List ℕ} → Emitted edition sheet state table [] state table
emitted_none = record { output = refl; calls = []; run = refl; table = refl }

-- some bytes, and more after them
pub emitted_append : {edition : Edition} {sheet : List ℕ} {first : Option State} {table bytes : List ℕ} {second : Option State} {middle more : List ℕ} {third : Option State} {last : List ℕ}
    → Emitted edition sheet first table bytes second middle → Emitted edition sheet second middle more third last
    → Emitted edition sheet first table (bytes ++ more) third last
emitted_append {edition} {sheet} {first} {table} {bytes} {second} {middle} {more} {third} {last} one two = record {
  output = append_assoc bytes more (remaining_output edition sheet third last) ∙ ap (λ (rest : List ℕ). bytes ++ rest) two.output ∙ one.output;
  calls = one.calls ++ two.calls;
  run =
      append_assoc one.calls two.calls (remaining_calls edition sheet third)
      ∙ ap (λ (rest : List Call). one.calls ++ rest) two.run
      ∙ one.run;
  table = two.table ∙ ap (λ (words : List ℕ). end (send edition.limits) words two.calls) one.table ∙ sym (end_append edition.limits table one.calls two.calls);
}

-- where there is no state, it is `None`
pub no_state : {state : Option State} → IsNone state → state ≡ None
no_state {state = None} none = refl
no_state {state = Some state} none = let clash : true ≡ false = none in let z : ◌≡◌ {A = ℕ} 0 1 = cc in absurd (omega arith)

-- bytes after which there is no state are all that remained
pub emitted_all : {edition : Edition} {sheet : List ℕ} {was : Option State} {before bytes : List ℕ} {is : Option State} {after : List ℕ} → Emitted edition sheet was before bytes is after
    → IsNone is
    → bytes ≡ remaining_output edition sheet was before
emitted_all {edition} {sheet} {was} {before} {bytes} {is} {after} emitted finished =
    let none : remaining_output edition sheet is after ≡ [] = ap (λ (state : Option State). remaining_output edition sheet state after) (no_state finished) in
    sym (append-nil bytes) ∙ ap (λ (rest : List ℕ). bytes ++ rest) (sym none) ∙ emitted.output

-- ---- The table that the remaining calls will leave: no batch changes it.
abbrev pub final_table : Edition → List ℕ → Option State → List ℕ → List ℕ
final_table edition sheet state table = end (send edition.limits) table (remaining_calls edition sheet state)

pub final_table_at_start : {edition : Edition} {sheet : List ℕ} {out : Buffer} {first : Option State} {table : List ℕ} {out_after : Buffer} → Started edition sheet out first table out_after
    → final_table edition sheet first table ≡ sheet_table edition sheet
final_table_at_start {edition} started = λ i. end (send edition.limits) (started.table i) (started.run i)

pub final_table_kept : {edition : Edition} {sheet : List ℕ} {was : Option State} {before bytes : List ℕ} {is : Option State} {after : List ℕ} → Emitted edition sheet was before bytes is after
    → final_table edition sheet is after ≡ final_table edition sheet was before
final_table_kept {edition} {sheet} {was} {before} {bytes} {is} emitted =
    ap (λ (words : List ℕ). end (send edition.limits) words (remaining_calls edition sheet is)) emitted.table
    ∙ sym (end_append edition.limits before emitted.calls (remaining_calls edition sheet is))
    ∙ ap (end (send edition.limits) before) emitted.run

-- after the last line no call remains
pub final_table_at_end : (edition : Edition) (sheet : List ℕ) (state : Option State) (table : List ℕ) → IsNone state → final_table edition sheet state table ≡ table
final_table_at_end edition sheet state table finished =
    let none : remaining_calls edition sheet state ≡ [] = ap (remaining_calls edition sheet) (no_state finished) in
    ap (end (send edition.limits) table) none

-- ---- Batches.
pub batches_emitted : (edition : Edition) (sheet : List ℕ) (was : Option State) (before : List ℕ) (batches : List BatchResult) → Batches edition sheet was before batches
    → Emitted edition sheet was before (bytes_of batches) (last_state was batches) (last_table before batches)
batches_emitted edition sheet was before [] each = emitted_none
batches_emitted edition sheet was before (batch ∷ batches) each = emitted_append each.1 (batches_emitted edition sheet batch.state batch.table batches each.3)

pub fewer_left : {sheet : List ℕ} {was is : Option State} → IsSome was → Progress sheet was is → batches_left sheet is < batches_left sheet was
fewer_left {was = Some state} unfinished progress = omega (arith, progress.fewer)
fewer_left {was = None} unfinished progress = let clash : false ≡ true = unfinished in let z : ◌≡◌ {A = ℕ} 0 1 = cc in absurd (omega arith)

pub batches_bounded : (edition : Edition) (sheet : List ℕ) (was : Option State) (before : List ℕ) (batches : List BatchResult) → Batches edition sheet was before batches
    → length batches + batches_left sheet (last_state was batches) ≤ batches_left sheet was
batches_bounded edition sheet was before [] each = omega arith
batches_bounded edition sheet was before (batch ∷ batches) each =
    omega (arith, fewer_left each.0 each.2, batches_bounded edition sheet batch.state batch.table batches each.3)

pub batches_left_bounded : (sheet : List ℕ) (state : Option State) → batches_left sheet state ≤ suc (length sheet)
batches_left_bounded sheet None = omega arith
batches_left_bounded sheet (Some state) = omega arith
