-- What is printed for an input: for its first 65,537 bytes the same as for all of it, however long it is.
use Rattle.std.proofs.Common.{ℕ, ◌≡◌, ◌<◌, List, take, ap}
use Rattle.sheet_rules.specs.Lines.{lines_of, printed}
use Rattle.sheet_rules.specs.Sheet.{Edition, max_bytes}
use Rattle.sheet_rules.proofs.Laws.Sheet.{front_read_as_all}

pub printed_as_all : (edition : Edition) (n : ℕ) → max_bytes < n → (bytes : List ℕ) → printed edition (take n bytes) ≡ printed edition bytes
unfolding printed
printed_as_all edition n large bytes = ap (lines_of edition.limits) (front_read_as_all edition n bytes large)
