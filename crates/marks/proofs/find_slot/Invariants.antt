use Rattle.std.proofs.Common.{◌≡◌, ◌+◌, drop}
use Rattle.rules.specs.Bytes.{words_of_bytes}
use Rattle.marks.specs.Marks.{find_slot, marks}
use Rattle.marks.proofs.find_slot.Given as goal

abbrev pub invariant-loop-j : goal.invariant-loop-j
invariant-loop-j l = find_slot l.x (words_of_bytes l.l) (marks (words_of_bytes l.m)) ≡ l.j + find_slot l.x (drop l.j (words_of_bytes l.l)) (drop l.j (marks (words_of_bytes l.m)))
