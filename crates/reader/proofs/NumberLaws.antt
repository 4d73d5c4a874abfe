-- The number at an offset, while its bytes are read one by one.
use Rattle.std.proofs.Common.{◌≡◌, refl, ℕ, zero, suc, ◌+◌, ◌-◌, ◌*◌, ◌%◌, ◌≤◌, ◌<◌, Bool, true, false, cond, ◌&&◌, List, [], ◌∷◌, length, drop, get_or, arith, add-one, drop-cons}
use Rattle.std.proofs.Math.Nat.{mul-add, mul_assoc}
use lib.ListN.{drop_of_length-le}
use lib.Dec.{eqb, ltb}
use borrow.Author.Tests.{lt-ltb, le-ltb}
use Rattle.rules.specs.Numbers.{Groups, Padding, Parsed, decode_groups, decode_number, groups_in, highest, judge, overlong, prepend, refusal, terminated, truncated, value_of}

-- What the groups weigh, and the first that is too far.
abbrev pub weights : List ℕ
weights = 1 ∷ 128 ∷ 16384 ∷ 2097152 ∷ []

abbrev pub weight : ℕ → ℕ
weight i = get_or weights i 0

-- The number of which so many bytes were read, each with another behind it, and that goes on with these groups; the value is that so far.
abbrev pub read_on : Padding → ℕ → ℕ → ℕ → ℕ → ℕ → Groups → Parsed ℕ
read_on padding limit at read value weight (terminated groups) =
    judge padding limit at (value + weight * value_of groups) (ltb 1 (read + length groups) && eqb (highest groups) 0) (at + (read + length groups))
read_on padding limit at read value weight truncated = refusal 0 15 at
read_on padding limit at read value weight overlong = refusal 0 16 at

-- ---- Before its first byte.
module _ (padding : Padding) (limit : ℕ) (sheet : List ℕ) (at : ℕ) where
  begun : (groups : Groups) → decode_groups padding limit at groups ≡ read_on padding limit at 0 0 1 groups
  begun (terminated groups) =
      let all : 0 + 1 * value_of groups ≡ value_of groups = omega arith in
      let read : 0 + length groups ≡ length groups = omega arith in
      rw (all, read) refl
  begun truncated = refl
  begun overlong = refl

  pub starts : decode_number padding limit sheet at ≡ read_on padding limit at 0 0 1 (groups_in 3 (drop (at + 0) sheet))
  unfolding decode_number
  starts =
      let here : at + 0 ≡ at = omega arith in
      rw here (begun (groups_in 3 (drop at sheet)))

-- ---- One more byte of a number, behind which another stands.
module _ (padding : Padding) (limit at read value weight group : ℕ) where
  same_value : (rest : ℕ) → value + weight * (group + 128 * rest) ≡ (value + weight * group) + (weight * 128) * rest
  same_value rest = omega (arith, mul-add weight group (128 * rest), mul_assoc weight 128 rest)

  ending : (last : ℕ) (groups : List ℕ)
      → read_on padding limit at read value weight (terminated (group ∷ last ∷ groups))
      ≡ read_on padding limit at (read + 1) (value + weight * group) (weight * 128) (terminated (last ∷ groups))
  ending last groups =
      let more : read + length (group ∷ last ∷ groups) ≡ (read + 1) + length (last ∷ groups) = omega arith in
      simp (same_value (value_of (last ∷ groups)), more)

  one_more : (most : ℕ) (bytes : List ℕ)
      → read_on padding limit at read value weight (prepend group (groups_in most bytes))
      ≡ read_on padding limit at (read + 1) (value + weight * group) (weight * 128) (groups_in most bytes)
  one_more zero bytes = refl
  one_more (suc most) [] = refl
  one_more (suc most) (byte ∷ bytes) = by_last (ltb byte 128) (groups_in most bytes)
    where
      by_last : (last : Bool) (rest : Groups)
          → read_on padding limit at read value weight (prepend group (cond last (terminated (byte ∷ [])) (prepend (byte % 128) rest)))
          ≡ read_on padding limit at (read + 1) (value + weight * group) (weight * 128) (cond last (terminated (byte ∷ [])) (prepend (byte % 128) rest))
      by_last true rest = ending byte []
      by_last false (terminated groups) = ending (byte % 128) groups
      by_last false truncated = refl
      by_last false overlong = refl

-- ---- The weight of each group. It is 1 only of the first, which isn't padded.
pub first_not_padded : (i byte : ℕ) → i < 3 → weight i ≡ 1 → false ≡ (ltb 1 (i + 1) && eqb byte 0)
first_not_padded zero byte inside one = refl
first_not_padded (suc i) byte inside one = absurd (no_one i inside one)
  where
    no_one : (i : ℕ) → suc i < 3 → weight (suc i) ≡ 1 → ⊥
    no_one zero inside one = cc
    no_one (suc zero) inside one = cc
    no_one (suc (suc i)) inside one = omega arith

pub later_padded : (i byte : ℕ) → i < 3 → (weight i ≡ 1 → ⊥) → eqb byte 0 ≡ (ltb 1 (i + 1) && eqb byte 0)
later_padded zero byte inside other = absurd (other refl)
later_padded (suc zero) byte inside other = refl
later_padded (suc (suc zero)) byte inside other = refl
later_padded (suc (suc (suc i))) byte inside other = absurd (omega arith)

pub next_weight : (i : ℕ) → i < 3 → weight i * 128 ≡ weight (i + 1)
next_weight zero inside = refl
next_weight (suc zero) inside = refl
next_weight (suc (suc zero)) inside = refl
next_weight (suc (suc (suc i))) inside = absurd (omega arith)

pub weight_small : (i : ℕ) → i < 3 → get_or (1 ∷ 128 ∷ 16384 ∷ []) i 0 ≡ weight i
weight_small zero inside = refl
weight_small (suc zero) inside = refl
weight_small (suc (suc zero)) inside = refl
weight_small (suc (suc (suc i))) inside = absurd (omega arith)

-- With so many groups the value is below the next weight.
pub below_next : (i value group : ℕ) → i < 3 → value < weight i → group < 128 → value + weight i * group < weight (i + 1)
below_next zero value group inside below small = omega arith
below_next (suc zero) value group inside below small = omega arith
below_next (suc (suc zero)) value group inside below small = omega arith
below_next (suc (suc (suc i))) value group inside below small = absurd (omega arith)

-- ---- The byte that stands at an offset of a sheet, or none.
pub record Byte (sheet : List ℕ) (at byte : ℕ) : Type 0 where
  pub inside : at < length sheet
  pub is : byte ≡ get_or sheet at 0

module _ (padding : Padding) (limit : ℕ) (sheet : List ℕ) (at i value : ℕ) (inside : i < 3) where
  abbrev here : Parsed ℕ
  here = read_on padding limit at i value (weight i) (groups_in (3 - i) (drop (at + i) sheet))

  left : 3 - i ≡ suc (2 - i)
  left = omega arith

  pub none_there : length sheet ≤ at + i → here ≡ refusal 0 15 at
  none_there past = rw (left, drop_of_length-le sheet past) refl

  module _ {byte : ℕ} (there : Byte sheet (at + i) byte) where
    from_here : drop (at + i) sheet ≡ byte ∷ drop (at + (i + 1)) sheet
    from_here =
        let next : at + i + 1 ≡ at + (i + 1) = omega arith in
        rw (there.is, ← next, add-one) (drop-cons sheet (at + i) 0 there.inside)

    pub last_there : byte < 128 → here ≡ judge padding limit at (value + weight i * (byte % 128)) (ltb 1 (i + 1) && eqb byte 0) (at + (i + 1))
    last_there last =
        let alone : byte + 128 * 0 ≡ byte % 128 = omega arith in
        rw (left, from_here) (simp (lt-ltb byte 128 last, alone))

    pub more_there : 128 ≤ byte
        → here ≡ read_on padding limit at (i + 1) (value + weight i * (byte % 128)) (weight (i + 1)) (groups_in (3 - (i + 1)) (drop (at + (i + 1)) sheet))
    more_there more =
        let rest : 3 - (i + 1) ≡ 2 - i = omega arith in
        rw (left, from_here, rest, ← next_weight i inside) (simp (le-ltb byte 128 more) (one_more padding limit at i value (weight i) (byte % 128) (2 - i) (drop (at + (i + 1)) sheet)))

-- ---- Three bytes were read, each with another behind it.
pub three_read : (padding : Padding) (limit at i value weight : ℕ) (bytes : List ℕ) → 3 ≤ i
    → read_on padding limit at i value weight (groups_in (3 - i) bytes) ≡ refusal 0 16 at
three_read padding limit at i value weight bytes all =
    let none : 3 - i ≡ 0 = omega arith in
    rw none refl
