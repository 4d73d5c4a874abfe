-- Functions on lists and truth values that the rules use and that the toolchain's library does not have for these numbers.
use Rattle.std.specs.Prelude.{ℕ, zero, suc, ◌+◌, Bool, true, false, ◌&&◌, List, [], ◌∷◌, ◌++◌, take, drop, eqb}

-- 1 for true, 0 for false.
abbrev pub to_nat : Bool → ℕ
to_nat true = 1
to_nat false = 0

-- How many elements of a list pass a test, and whether all do.
abbrev pub count : {A : Type 0} → (A → Bool) → List A → ℕ
count test [] = 0
count test (x ∷ xs) = to_nat (test x) + count test xs

abbrev pub every : {A : Type 0} → (A → Bool) → List A → Bool
every test [] = true
every test (x ∷ xs) = test x && every test xs

-- How often a number occurs in a list.
abbrev pub occurrences : ℕ → List ℕ → ℕ
occurrences n [] = 0
occurrences n (x ∷ xs) = to_nat (eqb n x) + occurrences n xs

-- The first n chunks of a list, each of `width` elements.
abbrev pub chunks : ℕ → ℕ → List ℕ → List (List ℕ)
chunks zero width xs = []
chunks (suc n) width xs = take width xs ∷ chunks n width (drop width xs)

-- The concatenation of a list of lists.
abbrev pub concat : List (List ℕ) → List ℕ
concat [] = []
concat (xs ∷ lists) = xs ++ concat lists
