-- `host::call` meets its contract.
use Rattle.std.proofs.Common.{◌∙◌}
use Rattle.board.proofs.ResultLaws.{on_bytes_lem}
use Rattle.host.proofs.call.Goals as goal

pub returns : goal.returns
returns g c = (λ i. record { answer = c.answer.ensures i; after = c.do_step.new.t }) ∙ on_bytes_lem (λ i. (c.type_inv.table i).fits) c.do_step.auto.t c.do_step.ensures
