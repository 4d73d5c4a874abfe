use Rattle.std.proofs.Common.{◌≡◌, ◌+◌, ◌≤◌, drop}
use Rattle.rules.specs.Bytes.{words_of_bytes}
use Rattle.words.specs.Words.{zeros_in}
use Rattle.words.proofs.zeros.Given as goal

abbrev pub invariant-loop-i : goal.invariant-loop-i
invariant-loop-i l = (l.found ≤ l.i) × (zeros_in (words_of_bytes l.l) ≡ l.found + zeros_in (drop l.i (words_of_bytes l.l)))
