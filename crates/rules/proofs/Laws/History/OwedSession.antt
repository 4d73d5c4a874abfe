-- What stands at a position stays until a swap changes it, which makes its desk owe what stood there; what a desk owes stays until its retire.
use Rattle.std.specs.Prelude.{ℕ, ◌-◌, ◌≤◌, ◌≡◌, refl, get_or, set}
use Rattle.std.proofs.Common.{arith, sym, ap, ◌∙◌, get_or-set_same, get_or-set_other}
use Rattle.std.proofs.Math.Decide.{ℕ_discrete}
use Rattle.rules.specs.Hall.{Desk, Formed, Hall, State, all_screens, desk_of, empty_desk}
use Rattle.rules.specs.History.{Action, collects, drops, hands_back, no_action, out_of_room, retires, swaps, takes}
use Rattle.rules.specs.Steps.{collect, with_next}
use Rattle.rules.proofs.Laws.Desk.Collect.{owed_collect}
use Rattle.rules.proofs.Laws.History.StepEffects.{IsDesk, StateChange, Swapped, desk_renumbered}

module _ (H : Hall) (st : State) where
  pub held_kept : (d : ℕ) (a : Action) (after : State) → StateChange H st d a after → (p : ℕ) → 1 ≤ p → (a ≡ swaps p → ⊥)
      → get_or after.held (p - 1) 0 ≡ get_or st.held (p - 1) 0
  held_kept d (takes c q v) after k p hp no-swap = rw k.state
  held_kept d (drops c) after k p hp no-swap = rw k.state
  held_kept d (swaps q) after k p hp no-swap =
      rw k.state
      (get_or-set_other st.held (q - 1) (p - 1) k.session 0 (λ u. let qp : q ≡ p = omega (arith, k.position) in no-swap (ap swaps qp)))
  held_kept d (retires v) after k p hp no-swap = rw k.state
  held_kept d out_of_room after k p hp no-swap = rw k.state
  held_kept d collects after k p hp no-swap = rw k.state
  held_kept d (hands_back v) after k p hp no-swap = rw k.state
  held_kept d no_action after k p hp no-swap = rw k

-- the message number is nothing that a desk owes
pub owed_moved : (d n e : ℕ) (after : State) → (desk_of (with_next after d n) e).owed ≡ (desk_of after e).owed
owed_moved d n e after = ap (λ (E : Desk). E.owed) (desk_renumbered after d n e).is

module _ (H : Hall) (st : State) (formed : Formed H st) where
  -- a desk that becomes `new`, and another
  own_owed : (d : ℕ) (new : Desk) → IsDesk H d → (get_or (set st.desks (d - 1) new) (d - 1) empty_desk).owed ≡ new.owed
  own_owed d new r = ap (λ (E : Desk). E.owed) (get_or-set_same st.desks (d - 1) new empty_desk (omega (arith, formed.desks)))

  others_owed : (d e : ℕ) (new : Desk) → 1 ≤ d → 1 ≤ e → (d ≡ e → ⊥) → (get_or (set st.desks (d - 1) new) (e - 1) empty_desk).owed ≡ (desk_of st e).owed
  others_owed d e new hd he ne = ap (λ (E : Desk). E.owed) (get_or-set_other st.desks (d - 1) (e - 1) new empty_desk (λ q. ne (omega arith)))

  same_owed : (d e : ℕ) (new : Desk) → IsDesk H d → 1 ≤ e → new.owed ≡ (desk_of st d).owed
      → (get_or (set st.desks (d - 1) new) (e - 1) empty_desk).owed ≡ (desk_of st e).owed
  same_owed d e new r he q = by_desk_lem (ℕ_discrete d e)
    where
      by_desk_lem : Dec (d ≡ e) → (get_or (set st.desks (d - 1) new) (e - 1) empty_desk).owed ≡ (desk_of st e).owed
      by_desk_lem (yes t) = rw (← t) (own_owed d new r ∙ q)
      by_desk_lem (no t) = others_owed d e new r.0 he t

  collect_owed : (d : ℕ) (new : Desk) → new ≡ (collect (all_screens H) st.shown (desk_of st d)).after → new.owed ≡ (desk_of st d).owed
  collect_owed d new q = ap (λ (E : Desk). E.owed) q ∙ owed_collect (all_screens H) st.shown (desk_of st d)

  pub owed_kept : (d : ℕ) (a : Action) (after : State) → StateChange H st d a after → (e : ℕ) → 1 ≤ e → ((desk_of st e).owed ≡ 0 → ⊥)
      → ((v : ℕ) → a ≡ retires v → d ≡ e → ⊥) → (desk_of after e).owed ≡ (desk_of st e).owed
  owed_kept d (takes c p v) after k e he owes no-retire = rw k.state
  owed_kept d (drops c) after k e he owes no-retire = rw k.state
  owed_kept d (swaps p) after k e he owes no-retire =
      rw k.state (others_owed d e _ k.desk.0 he (λ u. owes (ap (λ (m : ℕ). (desk_of st m).owed) (sym u) ∙ k.owes_nothing)))
  owed_kept d (retires v) after k e he owes no-retire =
      rw k.state (others_owed d e k.new k.desk.0 he (λ u. no-retire v refl u))
  owed_kept d out_of_room after k e he owes no-retire =
      rw k.state (same_owed d e k.new k.desk he (ap (λ (E : Desk). E.owed) k.done.after))
  owed_kept d collects after k e he owes no-retire =
      rw k.state (same_owed d e k.new k.desk he (collect_owed d k.new k.done.after))
  owed_kept d (hands_back v) after k e he owes no-retire =
      rw k.state (same_owed d e k.new k.desk he (collect_owed d k.new k.done.1.after))
  owed_kept d no_action after k e he owes no-retire = rw k

  pub swap_owes : (d p : ℕ) (after : State) → Swapped H st d p after → (desk_of after d).owed ≡ get_or st.held (p - 1) 0
  swap_owes d p after k = rw k.state (own_owed d _ k.desk)
