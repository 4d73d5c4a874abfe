use Rattle.std.proofs.Common.{◌≡◌, ◌&&◌, drop, eqb}
use Rattle.rules.specs.Bytes.{words_of_bytes}
use Rattle.words.specs.Words.{all_zero}
use Rattle.words.proofs.all_zero.Given as goal

abbrev pub invariant-loop-i : goal.invariant-loop-i
invariant-loop-i l = all_zero (words_of_bytes l.l) ≡ eqb l.bits 0 && all_zero (drop l.i (words_of_bytes l.l))
