-- What an output took, where it did not take all.
use Rattle.std.specs.Prelude.{ℕ, ◌≤◌, List, Option, length, take}
use Rattle.std.specs.Io.KnownBytes.{Appends}

-- So many of the bytes, from the first on, and nothing else.
abbrev pub TakesFront : Option (List ℕ) → Option (List ℕ) → List ℕ → Type 0
TakesFront before after bytes = (n : ℕ) × (n ≤ length bytes) × Appends before after (take n bytes)
