-- What is written for an input: for its first 65,537 bytes the same as for all of it, however long it is.
use Rattle.std.proofs.Common.{ℕ, ◌≡◌, ◌<◌, List, take, ap}
use Rattle.sheet_rules.specs.Rewriting.{rewrite, write_reading}
use Rattle.sheet_rules.specs.Sheet.{Edition, max_bytes}
use Rattle.sheet_rules.proofs.Laws.Sheet.{front_read_as_all}

pub rewritten_as_all : (from to : Edition) (n : ℕ) → max_bytes < n → (bytes : List ℕ) → rewrite from to (take n bytes) ≡ rewrite from to bytes
unfolding rewrite
rewritten_as_all from to n large bytes = ap (write_reading to) (front_read_as_all from n bytes large)
