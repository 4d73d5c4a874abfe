use Rattle.rules.specs.Bytes.{words_of_bytes}
use Rattle.marks.specs.Marks.{marks}
use Rattle.marks.proofs.SplitLaws.{Going}
use Rattle.marks.proofs.split.Given as goal

abbrev pub invariant-loop-j : goal.invariant-loop-j
invariant-loop-j l = Going (words_of_bytes l.initial.l) (marks (words_of_bytes l.m)) l.initial.kept (words_of_bytes l.l) l.kept l.j l.u
