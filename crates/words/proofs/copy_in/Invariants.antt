use Rattle.std.proofs.Common.{◌≡◌, take}
use Rattle.rules.specs.Bytes.{words_of_bytes}
use Rattle.words.specs.Written.{Written}
use Rattle.words.proofs.copy_in.Given as goal

abbrev pub invariant-loop-i : goal.invariant-loop-i
invariant-loop-i l = Written l.initial.dst (words_of_bytes l.dst) l.dst × (take l.i (words_of_bytes l.dst) ≡ take l.i l.src)
