-- Laws of two tests combined by "and", and of a choice between two values.
use Rattle.std.specs.Prelude.{◌≡◌, refl, Bool, true, false, cond, ◌&&◌}
use Rattle.std.proofs.Common.{true≢false}

pub and-true : (a b : Bool) → a ≡ true → b ≡ true → a && b ≡ true
and-true true b p q = q
and-true false b p q = p

pub and_left : (a b : Bool) → a && b ≡ true → a ≡ true
and_left true b h = refl
and_left false b h = h

pub and_right : (a b : Bool) → a && b ≡ true → b ≡ true
and_right true b h = h
and_right false b h = absurd (true≢false (cc))

-- what holds of both values holds of the one that is chosen
pub cond_both : {A : Type 0} (P : A → Type 0) (b : Bool) {x y : A} → P x → P y → P (cond b x y)
cond_both P true px py = px
cond_both P false px py = py
