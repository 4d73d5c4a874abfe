-- The session of a take and of the retirement to which it is linked are the same: from its take on it stands at the position, and from the
-- swap that changes the position on, the desk of that swap owes it.
use Rattle.std.specs.Prelude.{ℕ, zero, suc, ◌-◌, ◌≤◌, ◌<◌, ◌≡◌, refl, List, [], ◌∷◌, get_or}
use Rattle.std.proofs.Common.{arith, sym, ◌∙◌, true≢false}
use Rattle.rules.specs.Hall.{Formed, Hall, Limits, State, desk_of}
use Rattle.rules.specs.History.{Linked, ◌by◌, effect_at, retires, swaps, takes}
use Rattle.rules.specs.Steps.{Call, run, step}
use Rattle.rules.proofs.Laws.History.Actions.{effect_is, same_action}
use Rattle.rules.proofs.Laws.History.OwedSession.{held_kept, owed_kept, owed_moved, swap_owes}
use Rattle.rules.proofs.Laws.History.StepEffects.{action_in, formed_step, state_change, state_change_as}

-- The desk owes v: its next retirement is of v.
owed_run : (limits : Limits) (H : Hall) (e v s : ℕ) → 1 ≤ e → (v ≡ 0 → ⊥) → (cs : List Call) (st : State) (r : ℕ) → Formed H st → (desk_of st e).owed ≡ v
    → effect_at (run (step limits H) st cs) r ≡ retires s by e → ((m w : ℕ) → m < r → effect_at (run (step limits H) st cs) m ≡ retires w by e → ⊥) → v ≡ s
owed_run limits H e v s he nz [] st r formed owes retire no-retire = absurd (let differ = same_action refl retire in true≢false (cc))
owed_run limits H e v s he nz (c ∷ cs) st zero formed owes retire no-retire = sym owes ∙ (state_change_as limits H st c (retires s by e) retire).change.done.owed
owed_run limits H e v s he nz (c ∷ cs) st (suc r) formed owes retire no-retire =
    owed_run limits H e v s he nz cs (step limits H st c).after r (formed_step limits H st formed c)
    (owes_still ∙ owes) retire
    (λ m w h. no-retire (suc m) w (omega arith))
  where
    owes_still : (desk_of (step limits H st c).after e).owed ≡ (desk_of st e).owed
    owes_still =
        let k = state_change limits H st c in
        rw k.moved
        (owed_moved c.desk k.number e k.state
        ∙ owed_kept H st formed c.desk (action_in limits H st c) k.state k.change e he (λ z. nz (sym owes ∙ z)) (λ w q same. no-retire 0 w (omega arith) (effect_is q same)))

-- v stands at the position: the desk that changes it next retires v next.
held_run : (limits : Limits) (H : Hall) (p v d s : ℕ) → 1 ≤ p → (v ≡ 0 → ⊥) → (cs : List Call) (st : State) (j r : ℕ) → Formed H st → get_or st.held (p - 1) 0 ≡ v
    → effect_at (run (step limits H) st cs) j ≡ swaps p by d → ((m x : ℕ) → m < j → effect_at (run (step limits H) st cs) m ≡ swaps p by x → ⊥)
    → j < r → effect_at (run (step limits H) st cs) r ≡ retires s by d → ((m w : ℕ) → j < m → m < r → effect_at (run (step limits H) st cs) m ≡ retires w by d → ⊥) → v ≡ s
held_run limits H p v d s hp nz [] st j r formed stands swap no-swap after retire no-retire =
    absurd (let differ = same_action refl swap in true≢false (cc))
held_run limits H p v d s hp nz (c ∷ cs) st j zero formed stands swap no-swap after retire no-retire = absurd (omega arith)
held_run limits H p v d s hp nz (c ∷ cs) st zero (suc r) formed stands swap no-swap after retire no-retire =
    let w = state_change_as limits H st c (swaps p by d) swap in
    owed_run limits H d v s w.change.desk.0 nz cs (step limits H st c).after r (formed_step limits H st formed c)
    (rw w.moved (owed_moved d w.number d w.state ∙ swap_owes H st formed d p w.state w.change ∙ stands)) retire
    (λ m y h. no-retire (suc m) y (omega arith) (omega arith))
held_run limits H p v d s hp nz (c ∷ cs) st (suc j) (suc r) formed stands swap no-swap after retire no-retire =
    let k = state_change limits H st c in
    held_run limits H p v d s hp nz cs (step limits H st c).after j r (formed_step limits H st formed c)
    (rw k.moved (held_kept H st c.desk (action_in limits H st c) k.state k.change p hp (λ q. no-swap 0 c.desk (omega arith) (effect_is q refl)) ∙ stands)) swap
    (λ m x h. no-swap (suc m) x (omega arith)) (omega arith) retire (λ m y h h'. no-retire (suc m) y (omega arith) (omega arith))

-- The retirement to which a take is linked is of the session that the take replied.
take_run : (limits : Limits) (H : Hall) (x y p v d s : ℕ) (cs : List Call) (st : State) (i j r : ℕ) → Formed H st → effect_at (run (step limits H) st cs) i ≡ takes y p v by x
    → i < j → effect_at (run (step limits H) st cs) j ≡ swaps p by d → ((m x : ℕ) → i < m → m < j → effect_at (run (step limits H) st cs) m ≡ swaps p by x → ⊥)
    → j < r → effect_at (run (step limits H) st cs) r ≡ retires s by d → ((m w : ℕ) → j < m → m < r → effect_at (run (step limits H) st cs) m ≡ retires w by d → ⊥) → v ≡ s
take_run limits H x y p v d s [] st i j r formed take before swap no-swap after retire no-retire =
    absurd (let differ = same_action refl take in true≢false (cc))
take_run limits H x y p v d s (c ∷ cs) st i zero r formed take before swap no-swap after retire no-retire = absurd (omega arith)
take_run limits H x y p v d s (c ∷ cs) st i (suc j) zero formed take before swap no-swap after retire no-retire = absurd (omega arith)
take_run limits H x y p v d s (c ∷ cs) st zero (suc j) (suc r) formed take before swap no-swap after retire no-retire =
    let w = state_change_as limits H st c (takes y p v by x) take in
    let k = w.change in
    held_run limits H p v d s k.position k.some cs (step limits H st c).after j r (formed_step limits H st formed c)
    (rw w.moved (held_kept H st x (takes y p v) w.state k p k.position (λ q. true≢false (cc)) ∙ sym k.session))
    swap (λ m x h. no-swap (suc m) x (omega arith) (omega arith)) (omega arith) retire (λ m y h h'. no-retire (suc m) y (omega arith) (omega arith))
take_run limits H x y p v d s (c ∷ cs) st (suc i) (suc j) (suc r) formed take before swap no-swap after retire no-retire =
    take_run limits H x y p v d s cs (step limits H st c).after i j r (formed_step limits H st formed c) take (omega arith) swap
    (λ m x h h'. no-swap (suc m) x (omega arith) (omega arith)) (omega arith) retire (λ m y h h'. no-retire (suc m) y (omega arith) (omega arith))

pub same_session : (limits : Limits) (H : Hall) (cs : List Call) (st : State) → Formed H st → (i r : ℕ) (k : Linked (effect_at (run (step limits H) st cs)) i r) → k.shown ≡ k.session
same_session limits H cs st formed i r k =
    take_run limits H k.desk k.screen k.position k.shown k.swapper k.session cs st i k.swap_at r formed
    k.take k.swap.later k.swap.here k.swap.first k.retire.later k.retire.here k.retire.first
