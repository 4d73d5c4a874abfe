-- A sheet that opens: its records are the board's run from an accepted opening, and the lines are those of that run.
use Rattle.std.specs.Prelude.{ℕ, zero, suc, ◌≤◌, ◌≡◌, refl, true, false, List, ◌∷◌, ◌++◌, eqb}
use Rattle.std.proofs.Common.{arith, sym, ap, ◌∙◌, append_assoc, le-leb, ne_eqb}
use Rattle.std.proofs.Math.Option.{none, some}
use Rattle.rules.specs.Hall.{Hall, Limits}
use Rattle.rules.specs.Messages.{send, sent_history}
use Rattle.rules.specs.Steps.{Call, Event, Result, accept}
use Rattle.rules.specs.Table.{open_table, opened_table}
use Rattle.rules.proofs.Laws.History.StepEffects.{in_range_lem}
use Rattle.rules.proofs.Laws.Table.TableSteps.{accepted_open}
use Rattle.sheet_rules.specs.Lawful.{Lawful}
use Rattle.sheet_rules.specs.Lines.{answer_line, end_line, ending_line, event_lines, line, lines_from, lines_of, printed}
use Rattle.sheet_rules.specs.Run.{call_of, calls_in, code_of}
use Rattle.sheet_rules.specs.Sheet.{Edition, Record, Records, complete, is_code, lent_table, more}
use Rattle.sheet_rules.specs.Sheet.{opened, opening_number, reading, record_for, stop}
use Rattle.sheet_rules.specs.Tally.{Tally, add_step, add_steps, counts_in, zeros}
use Rattle.sheet_rules.proofs.Laws.Sheet.{EachGoodIn, opened_from, opened_good}
use Rattle.sheet_rules.proofs.Laws.Tally.{tally_from_zeros}

pub opening_accepted : (edition : Edition) (sheet : List ℕ) (hall : Hall) (records : Records) → reading edition sheet ≡ opened hall records
    → open_table edition.limits hall lent_table ≡ accept 0 (opened_table hall lent_table)
unfolding opening_number
opening_accepted edition sheet hall records e = accepted_open edition.limits hall lent_table (opened_from edition sheet hall records e).accepted

-- ---- Each record that is read is good, so it has a step's code, and the step's code is the record's.

-- A record with a step's code asks for a call of that step.
pub record Asks (entry : Record) : Type 0 where
  pub call : Call
  pub asked : call_of entry ≡ some call
  pub same_code : code_of call.step ≡ entry.code

asks_for : (code desk screen position session : ℕ) → is_code code ≡ true → Asks (record_for code desk screen position session)
asks_for zero desk screen position session good = absurd (omega (arith, (in_range_lem 0 5 good).0))
asks_for (suc zero) desk screen position session good = record { call = _; asked = refl; same_code = refl }
asks_for (suc (suc zero)) desk screen position session good = record { call = _; asked = refl; same_code = refl }
asks_for (suc (suc (suc zero))) desk screen position session good = record { call = _; asked = refl; same_code = refl }
asks_for (suc (suc (suc (suc zero)))) desk screen position session good = record { call = _; asked = refl; same_code = refl }
asks_for (suc (suc (suc (suc (suc zero))))) desk screen position session good = record { call = _; asked = refl; same_code = refl }
asks_for (suc (suc (suc (suc (suc (suc n)))))) desk screen position session good = absurd (omega (arith, (in_range_lem (suc (suc (suc (suc (suc (suc n)))))) 5 good).1))

pub record_asks : (entry : Record) → is_code entry.code ≡ true → Asks entry
record_asks entry = asks_for entry.code entry.desk entry.screen entry.position entry.session

-- A record with any other code asks for none: 17, and nothing written.
pub other_code_asks_none : (entry : Record) → is_code entry.code ≡ false → call_of entry ≡ none
other_code_asks_none entry other =
    simp (is_not 1 (omega arith) (omega arith), is_not 2 (omega arith) (omega arith), is_not 3 (omega arith) (omega arith), is_not 4 (omega arith) (omega arith), is_not 5 (omega arith) (omega arith))
  where
    is_not : (step : ℕ) → 1 ≤ step → step ≤ 5 → eqb entry.code step ≡ false
    is_not step low high =
        ne_eqb entry.code step λ same.
        (let inside : is_code entry.code ≡ true = simp (same, le-leb 1 step low, le-leb step 5 high) in
        let clash : true ≡ false = cc in
        let z : ◌≡◌ {A = ℕ} 0 1 = cc in
        omega arith)

-- ---- The lines are those of the run.
-- the lines of a run of these calls, then that of what ended the reading, then the counts
abbrev run_lines : Limits → List ℕ → ℕ → Tally → Records → List Call → List ℕ
run_lines limits table index total records calls =
    let events : List Event = sent_history limits table calls in
    event_lines index events ++ (ending_line index records ++ end_line (add_steps total events))

-- one call more
lines_of_call : (limits : Limits) (table : List ℕ) (index code : ℕ) (total : Tally) (entry : Record) (rest : Records) (call : Call) → code_of call.step ≡ code →
    let done : Result (List ℕ) = send limits table call in
    let next : Tally = add_step total code done.answer in
    lines_from limits done.after (suc index) next rest ≡ run_lines limits done.after (suc index) next rest (calls_in rest)
    → answer_line index code done.answer ++ lines_from limits done.after (suc index) next rest ≡ run_lines limits table index total (more entry rest) (call ∷ calls_in rest)
lines_of_call limits table index code total entry rest call same later =
    let done : Result (List ℕ) = send limits table call in
    let events : List Event = sent_history limits done.after (calls_in rest) in
    ap (λ (lines : List ℕ). answer_line index code done.answer ++ lines) later
    ∙ ap (λ (n : ℕ). answer_line index n done.answer ++ (event_lines (suc index) events ++ (ending_line (suc index) rest ++ end_line (add_steps (add_step total n done.answer) events)))) (sym same)
    ∙ sym (append_assoc (answer_line index (code_of call.step) done.answer) (event_lines (suc index) events) _)

lines_from_lem : (limits : Limits) (table : List ℕ) (index : ℕ) (total : Tally) (records : Records) → EachGoodIn limits.sessions records
    → lines_from limits table index total records ≡ run_lines limits table index total records (calls_in records)
lines_from_lem limits table index total complete good = refl
lines_from_lem limits table index total (stop reason) good = refl
lines_from_lem limits table index total (more entry rest) good =
    let asks : Asks entry = record_asks entry good.0.code in
    let next : Result (List ℕ) = send limits table asks.call in
    simp asks.asked
    (lines_of_call limits table index entry.code total entry rest asks.call asks.same_code
    (lines_from_lem limits next.after (suc index) (add_step total entry.code next.answer) rest good.1))

pub lines_of_run : {edition : Edition} → Lawful edition → (sheet : List ℕ) (hall : Hall) (records : Records)
    → reading edition sheet ≡ opened hall records
    → printed edition sheet
    ≡ line 0 0 0 0
    ++ (event_lines 1 (sent_history edition.limits (open_table edition.limits hall lent_table).after (calls_in records))
    ++ (ending_line 1 records ++ end_line (counts_in (sent_history edition.limits (open_table edition.limits hall lent_table).after (calls_in records)))))
unfolding printed
lines_of_run {edition} lawful sheet hall records e =
    ap (lines_of edition.limits) e
    ∙ ap (λ (lines : List ℕ). answer_line 0 0 (open_table edition.limits hall lent_table).answer ++ lines) (lines_from_lem edition.limits table 1 zeros records (opened_good lawful sheet hall records e))
    ∙ ap (λ (total : Tally). answer_line 0 0 (open_table edition.limits hall lent_table).answer ++ (event_lines 1 events ++ (ending_line 1 records ++ end_line total)))
    (tally_from_zeros events)
    ∙ ap (λ (done : Result (List ℕ)). answer_line 0 0 done.answer ++ (event_lines 1 events ++ (ending_line 1 records ++ end_line (counts_in events))))
    (opening_accepted edition sheet hall records e)
  where
    table : List ℕ
    table = (open_table edition.limits hall lent_table).after

    events : List Event
    events = sent_history edition.limits table (calls_in records)
