-- `sheet::fill` meets its contract.
use mathlib.Core.Path.{refl, ◌∙◌}
use Rattle.sheet.proofs.BatchLaws.{batch_finished, batch_of-none, in_batch_first, in_batch_next}
use Rattle.sheet.proofs.fill.Goals as goal

pub returns-in_err-current-clause-batch : goal.returns-in_err-current-clause-batch
returns-in_err-current-clause-batch c = rw (c.from_residual.ensures, c.in_err-current.was) batch_of-none

pub loop-edition-init : goal.loop-edition-init
loop-edition-init c =
    let is = c.in_ok-current.was in
    let given = rw is at c.requires in
    (in_batch_first given.0, given.2, refl)

pub returns-in_err-current-2-clause-batch : goal.returns-in_err-current-2-clause-batch
returns-in_err-current-2-clause-batch c =
    rw (c.from_residual-in_err-current-2.ensures, c.in_ok-current.was)
    (batch_finished c.loop-edition.invariant.0 c.in_err-current-2.ensures.partial)

pub loop-edition-preserved : goal.loop-edition-preserved
loop-edition-preserved c =
    let put = c.in_ok-current-2.ensures in
    (in_batch_next c.loop-edition.invariant.0 put.partial put.progress, put.checked, put.kept ∙ c.loop-edition.invariant.2)

pub returns-in_err-current-2-clause-kept : goal.returns-in_err-current-2-clause-kept
returns-in_err-current-2-clause-kept c = c.in_err-current-2.ensures.kept ∙ c.loop-edition.invariant.2
