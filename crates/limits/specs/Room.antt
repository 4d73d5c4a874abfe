-- The rules' limits for the limits of the code.
use Rattle.rules.specs.Hall.{Limits}
use Rattle.limits.specs.declared.Limits.{Limits as RoomLimits}

abbrev pub limits_of : RoomLimits → Limits
limits_of limits = record { desks = limits.desks; screens = limits.screens; positions = limits.positions; sessions = limits.sessions }
