-- Each screen of the hall has an index of its own among the S.
use Rattle.std.specs.Prelude.{ℕ, ◌-◌, ◌≤◌, suc, ◌*◌, ◌<◌, ◌≡◌, cond, List, length, get_or, set, eqb}
use Rattle.std.proofs.Common.{arith, mul-le-mul_right, ap}
use Rattle.std.proofs.Math.Decide.{dec_lt}
use Rattle.rules.specs.Hall.{Hall, all_screens, screen_index}
use Rattle.rules.proofs.Laws.Lists.Lists.{get_after_set}

pub screen_in : (H : Hall) (d c : ℕ) → 1 ≤ d → d ≤ H.desks → 1 ≤ c → c ≤ H.screens → screen_index H d c < all_screens H
screen_in H d c h1 h2 h3 h4 = let m : suc (d - 1) * H.screens ≤ H.desks * H.screens = mul-le-mul_right H.screens (omega arith) in omega arith

pub screen_less : (H : Hall) (d c x y : ℕ) → 1 ≤ d → d < x → 1 ≤ c → c ≤ H.screens → screen_index H d c < screen_index H x y
screen_less H d c x y h1 h2 h3 h4 =
    let m : suc (d - 1) * H.screens ≤ (x - 1) * H.screens = mul-le-mul_right H.screens (omega arith) in omega arith

pub screen_same : (H : Hall) (d c x y : ℕ) → (1 ≤ d) × (d ≤ H.desks) × (1 ≤ c) × (c ≤ H.screens)
    → (1 ≤ x) × (x ≤ H.desks) × (1 ≤ y) × (y ≤ H.screens) → screen_index H d c ≡ screen_index H x y → (d ≡ x) × (c ≡ y)
screen_same H d c x y a b e = by_cases (dec_lt d x) (dec_lt x d)
  where
    by_cases : Dec (d < x) → Dec (x < d) → (d ≡ x) × (c ≡ y)
    by_cases (yes l) g = absurd (omega (arith, screen_less H d c x y a.0 l a.2 a.3))
    by_cases (no l) (yes g) = absurd (omega (arith, screen_less H x y d c b.0 g b.2 b.3))
    by_cases (no l) (no g) = let dx : d ≡ x = omega arith in (dx, omega (arith, a.2, b.2, ap (λ (m : ℕ). (m - 1) * H.screens) dx))

-- the screen at index x, after a store at desk d's screen c
pub screen_stored : (H : Hall) (shown : List ℕ) → length shown ≡ all_screens H → (d c w x : ℕ) → (1 ≤ d) × (d ≤ H.desks) → (1 ≤ c) × (c ≤ H.screens)
    → get_or (set shown (screen_index H d c) w) x 0 ≡ cond (eqb (screen_index H d c) x) w (get_or shown x 0)
screen_stored H shown all d c w x hd hc =
    get_after_set shown (screen_index H d c) x w (omega (arith, screen_in H d c hd.0 hd.1 hc.0 hc.1))
