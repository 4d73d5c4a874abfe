-- `sheet::run_record` meets its contract.
use mathlib.Core.Path.{sym, ◌∙◌}
use Rattle.std.proofs.lemmas.Result.{err_from_is_err_and}
use Rattle.limits.specs.Room.{limits_of}
use Rattle.sheet_rules.specs.Sheet.{record_for}
use Rattle.sheet.proofs.CallLaws.{code_of-step, record_unsound}
use Rattle.sheet.proofs.run_record.Goals as goal

pub returns-in_err-hall : goal.returns-in_err-hall
returns-in_err-hall c =
    let a = c.args in
    let p = err_from_is_err_and c.from_residual-in_err-hall.result c.from_residual-in_err-hall.ensures.1 in
    rw (p.1, p.2)
    (record_unsound (limits_of a.limits) a.table.now (record_for a.code a.desk a.screen a.position a.session) (sym c.in_err-hall.was ∙ c.requires)
    (code_of-step c.in_ok-try_from.field-0 c.in_ok-try_from.ensures))
