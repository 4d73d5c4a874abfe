-- Tests on a list of words, a count, and a list of words shifted left.
use Rattle.std.specs.Prelude.{ℕ, ◌+◌, Bool, cond, not, List, [], ◌∷◌, ◌++◌, eqb}
use Rattle.rules.specs.Lists.{every}

-- Is every word 0?
abbrev pub all_zero : List ℕ → Bool
all_zero words = every (λ word. eqb word 0) words

-- Is no word x?
abbrev pub lacks : ℕ → List ℕ → Bool
lacks x words = every (λ word. not (eqb word x)) words

-- The number of words that are 0.
abbrev pub zeros_in : List ℕ → ℕ
zeros_in [] = 0
zeros_in (word ∷ words) = cond (eqb word 0) 1 0 + zeros_in words

-- The first word is removed, the others move up by one, and 0 is added at the end.
abbrev pub shift_left : List ℕ → List ℕ
shift_left [] = []
shift_left (word ∷ words) = words ++ (0 ∷ [])
