-- `board::in_limits` meets its contract.
use Rattle.std.proofs.Common.{sym, ◌∙◌}
use Rattle.rules.specs.Hall.{hall_of}
use Rattle.limits.specs.Room.{limits_of}
use Rattle.board.proofs.SoundLaws.{by_limits, hall_out}
use Rattle.board.proofs.in_limits.Goals as goal

pub returns-then-in_hall : goal.returns-then-in_hall
returns-then-in_hall c =
    let o = c.args in
    c.within.ensures ∙ by_limits (limits_of o.limits) (hall_of o.desks o.screens o.positions) (sym c.in_hall.ensures ∙ c.if-in_hall.true)

pub returns-else-in_hall : goal.returns-else-in_hall
returns-else-in_hall c =
    let o = c.args in
    c.if-in_hall.false ∙ sym (hall_out (limits_of o.limits) (hall_of o.desks o.screens o.positions) (sym c.in_hall.ensures ∙ c.if-in_hall.false))
