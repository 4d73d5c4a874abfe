-- A loop that goes through a list from the front: what a test or a sum over the list is, in terms of what is left.
use Rattle.std.proofs.Common.{◌≡◌, ℕ, zero, suc, ◌+◌, ◌≤◌, ◌<◌, Bool, true, false, not, ◌&&◌, ◌||◌, List, [], ◌∷◌, length, get_or, drop, eqb, bit_or, refl, sym, ap, ◌∙◌, arith}
use Rattle.std.proofs.Math.Bool.{and_assoc, and-true}
use Rattle.std.proofs.lemmas.Bool.Decides.{nat_tests}
use Rattle.std.proofs.lemmas.List.{drop_more, drop_all}
use lib.Bits.{and_le_l, and_le_r, or_add_and}
use Rattle.rules.specs.Lists.{every}

-- what is left at i, when i is below the length: the element and the rest
pub rest : (l : List ℕ) (i : ℕ) → i < length l → drop i l ≡ get_or l i 0 ∷ drop (i + 1) l
rest l i h = drop_more l i 0 h

-- nothing is left at the end
pub ended : (l : List ℕ) (i : ℕ) → length l ≤ i → drop i l ≡ []
ended l i h = drop_all i l h

-- n elements from index i on, and a list that ends there
abbrev pub elements : ℕ → ℕ → List ℕ → List ℕ
elements zero i l = []
elements (suc n) i l = get_or l i 0 ∷ elements n (i + 1) l

pub elements_all : (n i : ℕ) (l : List ℕ) → length l ≡ i + n → drop i l ≡ elements n i l
elements_all zero i l e = ended l i (omega arith)
elements_all (suc n) i l e = rest l i (omega arith) ∙ ap {B = List ℕ} (λ t. get_or l i 0 ∷ t) (elements_all n (i + 1) l (omega arith))

-- b is ok, and the test of what is left at i: after the element w that is there, and at the end
pub every_step : (f : ℕ → Bool) (b ok : Bool) (l : List ℕ) (i w : ℕ) → i < length l → w ≡ get_or l i 0 → b ≡ ok && every f (drop i l)
    → b ≡ (ok && f w) && every f (drop (i + 1) l)
every_step f b ok l i w h e p = p ∙ rw (rest l i h, e) (sym (and_assoc ok (f (get_or l i 0)) (every f (drop (i + 1) l))))

pub every_end : (f : ℕ → Bool) (b ok : Bool) (l : List ℕ) (i : ℕ) → length l ≤ i → b ≡ ok && every f (drop i l) → ok ≡ b
every_end f b ok l i h p = sym (p ∙ rw (ended l i h) (and-true ok))

-- bits are 0 together when each of them is
pub or_zero : (a b : ℕ) → eqb (bit_or a b) 0 ≡ eqb a 0 && eqb b 0
or_zero a b = grind (arith, nat_tests, or_add_and a b, and_le_l a b, and_le_r a b)

-- neither of two tests holds
pub not_or : (a b : Bool) → not (a || b) ≡ not a && not b
not_or true b = refl
not_or false b = refl
