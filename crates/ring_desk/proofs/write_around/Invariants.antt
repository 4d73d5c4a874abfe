use mathlib.Core.List.{◌++◌}
use mathlib.Core.Path.{◌≡◌}
use lib.ListN.{drop, take}
use Rattle.rules.specs.Bytes.{words_of_bytes}
use Rattle.ring_rules.specs.Ring.{rotate}
use Rattle.ring_desk.proofs.write_around.Given as goal

abbrev pub invariant-loop-i : goal.invariant-loop-i
invariant-loop-i l =
    rotate l.a (words_of_bytes l.l) ≡ take l.i (words_of_bytes l.part) ++ drop l.i (rotate l.a (words_of_bytes l.initial.l))
