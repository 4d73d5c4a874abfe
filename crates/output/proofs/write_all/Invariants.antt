use Rattle.std.proofs.Common.{List, ℕ, ◌++◌, ◌≡◌, length}
use Rattle.std.specs.Io.KnownBytes.{Appends}
use Rattle.output.proofs.write_all.Given as goal

-- what was written so far stands before the rest
abbrev pub invariant-loop-rest : goal.invariant-loop-rest
invariant-loop-rest g l =
    (done : List ℕ) × (done ++ l.rest ≡ l.fn.bytes) × Appends (g.W.Write.contents l.initial.to) (g.W.Write.contents l.to) done

abbrev pub decreases-loop-rest : goal.decreases-loop-rest
decreases-loop-rest g l = length l.rest
