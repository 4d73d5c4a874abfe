use Rattle.std.proofs.Common.{◌≡◌, not, ◌&&◌, drop}
use Rattle.rules.specs.Bytes.{words_of_bytes}
use Rattle.words.specs.Words.{lacks}
use Rattle.words.proofs.lacks.Given as goal

abbrev pub invariant-loop-i : goal.invariant-loop-i
invariant-loop-i l = lacks l.x (words_of_bytes l.l) ≡ not l.found && lacks l.x (drop l.i (words_of_bytes l.l))
