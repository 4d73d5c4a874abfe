-- What the contracts of the host's functions cite beside the rules.
use Rattle.std.specs.Prelude.{ℕ, List}
use Rattle.rules.specs.Bytes.{unpack}
use Rattle.rules.specs.Runs.{Lent, lent_of}
use Rattle.rules.specs.Steps.{Result}

-- what a call on bytes gives, from the number that answers it and the bytes that it leaves
abbrev pub bytes_result : ℕ → List ℕ → Result (List ℕ)
bytes_result number bytes = record { answer = unpack number; after = bytes }

-- what a run gives, from its number and the two tables that it leaves
abbrev pub run_result : ℕ → List ℕ → List ℕ → Result Lent
run_result number replies table = record { answer = unpack number; after = lent_of replies table }
