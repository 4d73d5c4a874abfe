-- The state of a hall that was just opened, from which every history starts.
use Rattle.std.specs.Prelude.{ℕ, ◌-◌, ◌≤◌, zero, suc, ◌≡◌, refl, get_or, replicate}
use Rattle.std.proofs.Common.{arith}
use Rattle.std.proofs.lemmas.List.{length-replicate}
use Rattle.rules.specs.Hall.{Formed, Hall, all_screens, desk_of, empty_desk, fresh, used_slots}
use Rattle.rules.specs.History.{Effect}
use Rattle.rules.proofs.Laws.Desk.Collect.{copies_on}
use Rattle.rules.proofs.Laws.Desk.Room.{Room}
use Rattle.rules.proofs.Laws.Desk.Sound.{Sound}
use Rattle.rules.proofs.Laws.History.Screens.{AllShown}

pub get_same : {A : Type 0} (n i : ℕ) (x : A) → get_or (replicate n x) i x ≡ x
get_same zero i x = refl
get_same (suc n) zero x = refl
get_same (suc n) (suc i) x = get_same n i x

module _ (H : Hall) where
  pub fresh_formed : Formed H (fresh H)
  fresh_formed = record { positions = length-replicate H.positions 0; screens = length-replicate (all_screens H) 0; desks = length-replicate H.desks empty_desk }

  -- no screen shows anything
  pub fresh-shown : (f : ℕ → Effect) → AllShown H f 0 (fresh H)
  fresh-shown f x nz = absurd (nz (get_same (all_screens H) x 0))

  module _ (d : ℕ) where
    fresh_desk : desk_of (fresh H) d ≡ empty_desk
    fresh_desk = get_same H.desks (d - 1) empty_desk

    pub fresh-sound : Sound (all_screens H) (desk_of (fresh H) d)
    fresh-sound = rw fresh_desk (record { total = omega arith; real = refl; pass = refl })

    pub fresh-room : 1 ≤ all_screens H → Room (all_screens H) 0 (desk_of (fresh H) d)
    fresh-room some = rw fresh_desk (record { total = omega arith; pass = omega arith })

    pub fresh-slots : used_slots (desk_of (fresh H) d) ≡ 0
    fresh-slots = rw fresh_desk refl

    pub fresh_copies : (s : ℕ) → copies_on s (desk_of (fresh H) d) ≡ 0
    fresh_copies s = rw fresh_desk refl
