-- Effects: their parts, which are a desk's own, and which actions are a drop or a swap.
use Rattle.std.specs.Prelude.{ℕ, ◌≡◌, refl, cond, Bool, true, false, eqb}
use Rattle.std.proofs.Common.{sym, ap, ◌∙◌, eqb-true, eq-eqb}
use Rattle.rules.specs.History.{Action, Effect, ◌by◌, by_desk, collects, drops, hands_back, no_action, out_of_room, retires, swaps, takes}

abbrev pub is_drop : Action → Bool
is_drop (takes c p session) = false
is_drop (drops c) = true
is_drop (swaps p) = false
is_drop (retires session) = false
is_drop out_of_room = false
is_drop collects = false
is_drop (hands_back session) = false
is_drop no_action = false

abbrev pub is_swap : Action → Bool
is_swap (takes c p session) = false
is_swap (drops c) = false
is_swap (swaps p) = true
is_swap (retires session) = false
is_swap out_of_room = false
is_swap collects = false
is_swap (hands_back session) = false
is_swap no_action = false

-- ---- Two descriptions of one effect name the same desk and the same action.
module _ {e : Effect} {a b : Action} {d c : ℕ} (p : e ≡ a by d) (q : e ≡ b by c) where
  pub same_action : a ≡ b
  same_action = sym (ap (λ (x : Effect). x.action) p) ∙ ap (λ (x : Effect). x.action) q

  pub same_desk_lem : d ≡ c
  same_desk_lem = sym (ap (λ (x : Effect). x.desk) p) ∙ ap (λ (x : Effect). x.desk) q

pub effect_is : {e : Effect} {a : Action} {d : ℕ} → e.action ≡ a → e.desk ≡ d → e ≡ a by d
effect_is p q = λ i. p i by q i

-- ---- A desk's own effects.
pub data Own (d : ℕ) (e : Effect) : Type 0 where
  another's : by_desk d e ≡ no_action → Own d e
  its_own : e.desk ≡ d → by_desk d e ≡ e.action → Own d e

pub own_cases : (d : ℕ) (e : Effect) → Own d e
own_cases d e = by_desk_lem (eqb e.desk d) refl
  where
    by_desk_lem : (b : Bool) → eqb e.desk d ≡ b → Own d e
    by_desk_lem true q = its_own (eqb-true e.desk d q) (ap (λ (b : Bool). cond b e.action no_action) q)
    by_desk_lem false q = another's (ap (λ (b : Bool). cond b e.action no_action) q)

pub by_own_desk : (d : ℕ) (a : Action) → by_desk d (a by d) ≡ a
by_own_desk d a = ap (λ (b : Bool). cond b a no_action) (eq-eqb d d refl)

-- an action that is desk d's own is by desk d
pub own_action : (d : ℕ) (e : Effect) (a : Action) → (no_action ≡ a → ⊥) → by_desk d e ≡ a → e ≡ a by d
own_action d e a some q = by_cases (own_cases d e)
  where
    by_cases : Own d e → e ≡ a by d
    by_cases (another's none) = absurd (some (sym none ∙ q))
    by_cases (its_own same own) = effect_is (sym own ∙ q) same
