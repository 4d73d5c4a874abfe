-- The shortest form of a number: its last byte, or a byte and the shortest form of the rest.
use Prim.Native.Nat.{ℕ, ◌+◌, ◌/◌, ◌%◌, ◌≤◌, ◌<◌}
use native.Mathlib.Omega.{arith}
use mathlib.Core.Path.{◌≡◌}
use mathlib.Core.List.{[], ◌∷◌}
use borrow.Author.Tests.{lt-ltb, le-ltb}
use Rattle.sheet_rules.specs.Edition1.{encode_number}

module _ (value : ℕ) where
  pub encode_last : value < 128 → encode_number value ≡ value ∷ []
  unfolding encode_number
  encode_last small = simp (lt-ltb value 128 small)

  pub encode_more : 128 ≤ value → value ≤ 65535 → encode_number value ≡ (value % 128 + 128) ∷ encode_number (value / 128)
  unfolding encode_number
  encode_more large most = simp (le-ltb value 128 large, lt-ltb (value / 128 / 128) 128 (omega arith))
