use lib.ListN.{take}
use Rattle.rules.specs.Steps.{read_screens}
use Rattle.desk.specs.Record.{Does}
use Rattle.desk.proofs.read_screens.Given as goal

-- the first screens are read
abbrev pub invariant-loop-x : goal.invariant-loop-x
invariant-loop-x g l = Does g.L.Slots.layout l.s (read_screens (take l.x-index l.shown)) l.initial.r l.r
