-- The digits of a number, here and in the library.
use Prim.Native.Nat.{ℕ, zero, suc, ◌+◌, ◌/◌, ◌%◌, ◌^◌, ◌≤◌, ◌<◌}
use native.Mathlib.Omega.{arith}
use native.Mathlib.Nat.{pow-succ', pow-zero}
use mathlib.Core.Path.{◌≡◌, refl, sym, ap, ◌∙◌}
use mathlib.Core.Bool.{Bool, true, false, cond}
use mathlib.Core.List.{List, [], ◌∷◌, ◌++◌}
use lib.Dec.{ltb}
use borrow.Author.Tests.{lt-ltb, le-ltb}
use Rattle.std.specs.Fmt.{decimal as printed}
use Rattle.std.proofs.lemmas.Fmt.{decimal_by_steps}
use Rattle.sheet_rules.specs.Lines.{decimal, digits}

-- how many digits there may be does not matter, once they are enough
digits_enough : (most value : ℕ) → value < 10 ^ suc most → digits (suc most) value ≡ digits (suc (suc most)) value
digits_enough zero value few = let one : value < 10 = omega (arith, pow-succ' 10 0, pow-zero 10) in simp (lt-ltb value 10 one)
digits_enough (suc most) value few =
    by_size (ltb value 10) (digits_enough most (value / 10) (omega (arith, pow-succ' 10 (suc most))))
  where
    by_size : (small : Bool) → digits (suc most) (value / 10) ≡ digits (suc (suc most)) (value / 10)
        → cond {A = List ℕ} small ((48 + value) ∷ []) (digits (suc most) (value / 10) ++ ((48 + value % 10) ∷ []))
        ≡ cond {A = List ℕ} small ((48 + value) ∷ []) (digits (suc (suc most)) (value / 10) ++ ((48 + value % 10) ∷ []))
    by_size true same = refl
    by_size false same = ap (λ (front : List ℕ). front ++ ((48 + value % 10) ∷ [])) same

pub decimal_one : (value : ℕ) → value < 10 → decimal value ≡ (48 + value) ∷ []
unfolding decimal
decimal_one value small = simp (lt-ltb value 10 small)

-- what the library prints of a number is what the rules say
pub printed_is_decimal : (value : ℕ) → value < 2 ^ 64 → printed value ≡ decimal value
unfolding decimal
printed_is_decimal value fits = decimal_by_steps (λ (n : ℕ) (bytes : List ℕ). n < 2 ^ 64 → bytes ≡ decimal n) one more value fits fits
  where
    one : (n : ℕ) → n < 10 → n < 2 ^ 64 → (48 + n) ∷ [] ≡ decimal n
    one n small _ = sym (decimal_one n small)

    more : (n : ℕ) (bytes : List ℕ) → 10 ≤ n → (n / 10 < 2 ^ 64 → bytes ≡ decimal (n / 10)) → n < 2 ^ 64 → bytes ++ ((48 + n % 10) ∷ []) ≡ decimal n
    more n bytes large same below =
        ap (λ (front : List ℕ). front ++ ((48 + n % 10) ∷ [])) (same (omega arith) ∙ sym (digits_enough 18 (n / 10) (omega arith)))
        ∙ sym (ap (λ (small : Bool). cond {A = List ℕ} small ((48 + n) ∷ []) (digits 19 (n / 10) ++ ((48 + n % 10) ∷ []))) (le-ltb n 10 large))
