-- The line that says what failed.
use Rattle.std.specs.Prelude.{ℕ, List, [], ◌∷◌, ◌++◌, Option}
use Rattle.std.specs.Io.KnownBytes.{Appends}
use Rattle.output.specs.Taken.{TakesFront}

-- what failed, a colon and a space, the reason, and a newline
abbrev pub line : List ℕ → List ℕ → List ℕ
line what reason = what ++ (58 ∷ 32 ∷ (reason ++ (10 ∷ [])))

-- Such a line, with some reason: no contract can say which text a system has for an error.
abbrev pub SaysWhy : Option (List ℕ) → Option (List ℕ) → List ℕ → Type 0
SaysWhy before after what = (reason : List ℕ) × Appends before after (line what reason)

-- The first bytes of such a line, and nothing else: an output may take no more.
abbrev pub BeginsToSay : Option (List ℕ) → Option (List ℕ) → List ℕ → Type 0
BeginsToSay before after what = (reason : List ℕ) × TakesFront before after (line what reason)
