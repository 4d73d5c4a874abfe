-- `host::call_open` meets its contract.
use Rattle.std.proofs.Common.{◌∙◌}
use Rattle.board.proofs.ResultLaws.{on_bytes_lem}
use Rattle.host.proofs.call_open.Goals as goal

pub returns : goal.returns
returns g c = (λ i. record { answer = c.answer.ensures i; after = c.«open».new.t }) ∙ on_bytes_lem (λ i. (c.type_inv.table i).fits) c.«open».auto.t c.«open».ensures
