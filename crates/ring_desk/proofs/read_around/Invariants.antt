use mathlib.Core.Path.{◌≡◌}
use lib.ListN.{take}
use Rattle.rules.specs.Bytes.{words_of_bytes}
use Rattle.ring_rules.specs.Ring.{rotate}
use Rattle.ring_desk.proofs.read_around.Given as goal

abbrev pub invariant-loop-i : goal.invariant-loop-i
invariant-loop-i l = take l.i (words_of_bytes l.part) ≡ take l.i (rotate l.a (words_of_bytes l.l))
