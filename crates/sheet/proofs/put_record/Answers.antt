-- `sheet::put_record` meets its contract.
use native.Mathlib.Omega.{arith}
use borrow.Author.Rules.{rules}
use mathlib.Core.Path.{sym, ap, ◌∙◌}
use Rattle.rules.specs.Bytes.{IsBytes, words_of_bytes}
use Rattle.rules.specs.Hall.{Limits}
use Rattle.sheet_rules.proofs.Laws.Longest.{line-length}
use Rattle.reader.specs.Results.{record_of, record_result}
use Rattle.reader.proofs.Laws.Editions.{edition_lawful, edition_limits}
use Rattle.sheet_rules.specs.Run.{run_record}
use Rattle.limits.specs.Room.{limits_of}
use Rattle.sheet.proofs.CallLaws.{still_checked}
use Rattle.sheet.proofs.BatchLaws.{reading_stopped, record_progress, record_ran, sheet_ended}
use Rattle.sheet.proofs.put_record.Goals as goal

pub returns-then-sheet-state-clause-partial : goal.returns-then-sheet-state-clause-partial
returns-then-sheet-state-clause-partial c = sheet_ended (edition_lawful c.args.edition (omega arith)) c.if-sheet-state.true c.finish.ensures

pub put_line-requires : goal.put_line-requires
put_line-requires c = omega (arith, line-length c.args.state.index c.from.result c.from-in-Ok.result c.from-in-Ok-2.result, c.requires.1)

pub returns-in-Err-clause-partial : goal.returns-in-Err-clause-partial
returns-in-Err-clause-partial c =
    let read = sym c.read_record.ensures ∙ ap record_result c.in-Err.is in
    reading_stopped (edition_lawful c.args.edition (omega arith)) c.if-sheet-state.false read c.stop.ensures

pub returns-in-Ok-clause-partial : goal.returns-in-Ok-clause-partial
returns-in-Ok-clause-partial c =
    let read = sym c.read_record.ensures ∙ ap record_result c.in-Ok.is in
    let ran = rw c.number-code.ensures at c.run_record-reply.ensures in
    let same_limits = ap (λ (limits : Limits). run_record limits (words_of_bytes c.args.table.now) (record_of c.in-Ok.entry)) (sym (edition_limits c.args.edition)) in
    record_ran (edition_lawful c.args.edition (omega arith)) c.if-sheet-state.false read c.run_record-reply.result (ran.words ∙ same_limits)
    c.number-reply_number.ensures c.session-reply_session.ensures (rw c.number-code.ensures at c.add_step.ensures)
    (rw (c.from.ensures, c.from-in-Ok.ensures, c.from-in-Ok-2.ensures, c.number-code.ensures) at c.put_line.ensures)

pub returns-in-Ok-clause-progress : goal.returns-in-Ok-clause-progress
returns-in-Ok-clause-progress c =
    let read = sym c.read_record.ensures ∙ ap record_result c.in-Ok.is in
    record_progress (edition_lawful c.args.edition (omega arith)) c.if-sheet-state.false read c.requires.0

pub returns-in-Ok-clause-checked : goal.returns-in-Ok-clause-checked
returns-in-Ok-clause-checked c =
    let are : IsBytes c.args.table.now = search rules in
    still_checked (limits_of c.args.edition.format.limits) c.args.table.now (record_of c.in-Ok.entry) are c.requires.2 (rw c.number-code.ensures at c.run_record-reply.ensures)

pub returns-in-Ok-clause-kept : goal.returns-in-Ok-clause-kept
returns-in-Ok-clause-kept c =
    let are : IsBytes c.args.table.now = search rules in
    sym (still_checked (limits_of c.args.edition.format.limits) c.args.table.now (record_of c.in-Ok.entry) are c.requires.2 (rw c.number-code.ensures at c.run_record-reply.ensures))
    ∙ c.requires.2
