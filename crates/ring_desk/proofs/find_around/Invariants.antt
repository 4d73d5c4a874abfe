use Prim.Native.Nat.{◌+◌}
use mathlib.Core.Path.{◌≡◌}
use lib.ListN.{drop, take}
use Rattle.rules.specs.Bytes.{words_of_bytes}
use Rattle.marks.specs.Marks.{find_slot, marks}
use Rattle.ring_rules.specs.Ring.{rotate}
use Rattle.ring_desk.proofs.find_around.Given as goal

abbrev pub invariant-loop-j : goal.invariant-loop-j
invariant-loop-j l =
    find_slot l.x (take l.n (rotate l.a (words_of_bytes l.l))) (marks (words_of_bytes l.m)) ≡ l.j + find_slot l.x (drop l.j (take l.n (rotate l.a (words_of_bytes l.l)))) (drop l.j (marks (words_of_bytes l.m)))
