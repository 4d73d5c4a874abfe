-- What each screen's present take is linked to, read from the history; it is kept beside the state, in the proofs only. The state agrees
-- with it: a screen shows what stands at the position, what the desk owes, or what was retired.
use Rattle.std.specs.Prelude.{ℕ, zero, suc, ◌-◌, ◌≤◌, ◌<◌, ◌≡◌, refl, Bool, true, false, cond, List, get_or, eqb}
use Rattle.std.proofs.Common.{sym, ap, ◌∙◌, subst, true≢false, eqb-true}
use Rattle.std.proofs.lemmas.Bool.{eqb-false}
use Rattle.rules.specs.Hall.{Formed, Hall, Limits, State, all_screens, desk_of, screen_index}
use Rattle.rules.specs.History.{Action, Effect, ◌by◌, collects, drops, hands_back, is_retirement, no_action, out_of_room, retires, swaps, takes}
use Rattle.rules.specs.Steps.{Call, step, with_next}
use Rattle.rules.proofs.Laws.History.Actions.{is_swap}
use Rattle.rules.proofs.Laws.History.OwedSession.{held_kept, owed_kept, owed_moved, swap_owes}
use Rattle.rules.proofs.Laws.History.ScreenIndex.{screen_in, screen_stored}
use Rattle.rules.proofs.Laws.History.StepEffects.{Dropped, StateChange, Swapped, Took, effect_in, state_change_as}

-- The link of a screen.
pub data Link : Type 0 where
  -- it shows nothing
  unlinked : Link
  -- its take was at this position, and no swap has changed it
  before_swap : ℕ → Link
  -- a swap has changed it, and the desk of that swap, this one, still owes the session
  before_retire : ℕ → Link
  -- its take is linked to the retirement at this index
  linked_to : ℕ → Link

-- What a take makes of it (at this screen or another, and its position), a swap that changes a position (its desk and position) and a retire
-- (its desk and index).
abbrev pub on_take : Bool → ℕ → Link → Link
on_take b p unlinked = cond b (before_swap p) unlinked
on_take b p (before_swap q) = before_swap q
on_take b p (before_retire e) = before_retire e
on_take b p (linked_to r) = linked_to r

abbrev pub on_swap : ℕ → ℕ → Link → Link
on_swap e p unlinked = unlinked
on_swap e p (before_swap q) = cond (eqb p q) (before_retire e) (before_swap q)
on_swap e p (before_retire q) = before_retire q
on_swap e p (linked_to r) = linked_to r

abbrev pub on_retire : ℕ → ℕ → Link → Link
on_retire e n unlinked = unlinked
on_retire e n (before_swap q) = before_swap q
on_retire e n (before_retire q) = cond (eqb e q) (linked_to n) (before_retire q)
on_retire e n (linked_to r) = linked_to r

-- and what an action of desk d at index n makes of the link of screen x of the hall
abbrev pub next : Hall → ℕ → ℕ → ℕ → Action → Link → Link
next H x n d (takes c p v) l = on_take (eqb (screen_index H d c) x) p l
next H x n d (drops c) l = cond (eqb (screen_index H d c) x) unlinked l
next H x n d (swaps p) l = on_swap d p l
next H x n d (retires s) l = on_retire d n l
next H x n d out_of_room l = l
next H x n d collects l = l
next H x n d (hands_back s) l = l
next H x n d no_action l = l

-- its link before index n
abbrev pub link : Hall → (ℕ → Effect) → ℕ → ℕ → Link
link H f x zero = unlinked
link H f x (suc n) = next H x n (f n).desk (f n).action (link H f x n)

-- What the state says of a screen that shows v.
abbrev pub Agree : (ℕ → Effect) → State → ℕ → Link → Type 0
Agree f st v unlinked = v ≡ 0
Agree f st v (before_swap p) = (v ≡ 0 → ⊥) × (1 ≤ p) × (v ≡ get_or st.held (p - 1) 0)
Agree f st v (before_retire e) = (v ≡ 0 → ⊥) × (1 ≤ e) × (v ≡ (desk_of st e).owed)
Agree f st v (linked_to r) = (v ≡ 0 → ⊥) × (d : ℕ) × (f r ≡ retires v by d)

-- and of each of the hall's screens, before index n
abbrev pub ScreensAgree : Hall → (ℕ → Effect) → ℕ → State → Type 0
ScreensAgree H f n st = (x : ℕ) → x < all_screens H → Agree f st (get_or st.shown x 0) (link H f x n)

empty_unlinked : (f : ℕ → Effect) (st : State) (v : ℕ) (l : Link) → Agree f st v l → v ≡ 0 → l ≡ unlinked
empty_unlinked f st v unlinked a z = refl
empty_unlinked f st v (before_swap p) a z = absurd (a.0 z)
empty_unlinked f st v (before_retire e) a z = absurd (a.0 z)
empty_unlinked f st v (linked_to r) a z = absurd (a.0 z)

-- One call.
module _ (limits : Limits) (H : Hall) (st : State) (formed : Formed H st) (f : ℕ → Effect) (n : ℕ) where
  -- while no swap changes the position, and the desk does not retire
  before_swap_kept : (d : ℕ) (a : Action) (after : State) → StateChange H st d a after → (v p : ℕ) → (a ≡ swaps p → ⊥) → Agree f st v (before_swap p)
      → Agree f after v (before_swap p)
  before_swap_kept d a after k v p no-swap ag = (ag.0, ag.1, ag.2 ∙ sym (held_kept H st d a after k p ag.1 no-swap))

  before_retire_kept : (d : ℕ) (a : Action) (after : State) → StateChange H st d a after → (v e : ℕ) → ((s : ℕ) → a ≡ retires s → d ≡ e → ⊥)
      → Agree f st v (before_retire e) → Agree f after v (before_retire e)
  before_retire_kept d a after k v e no-retire ag =
      (ag.0, ag.1, ag.2 ∙ sym (owed_kept H st formed d a after k e ag.1 (λ z. ag.0 (ag.2 ∙ z)) no-retire))

  -- an action that changes no position and is no retire, of a screen that shows v before it and after it
  agree_kept : (d : ℕ) (a : Action) (after : State) → StateChange H st d a after → is_swap a ≡ false → is_retirement a ≡ false → (v : ℕ) (l : Link)
      → Agree f st v l → Agree f after v l
  agree_kept d a after k no-swap no-retire v unlinked ag = ag
  agree_kept d a after k no-swap no-retire v (before_swap p) ag =
      before_swap_kept d a after k v p (λ q. true≢false (sym (ap is_swap q) ∙ no-swap)) ag
  agree_kept d a after k no-swap no-retire v (before_retire e) ag =
      before_retire_kept d a after k v e (λ s q same. true≢false (sym (ap is_retirement q) ∙ no-retire)) ag
  agree_kept d a after k no-swap no-retire v (linked_to r) ag = ag

  agree_moved : (d number : ℕ) (after : State) (v : ℕ) (l : Link) → Agree f after v l → Agree f (with_next after d number) v l
  agree_moved d number after v unlinked ag = ag
  agree_moved d number after v (before_swap p) ag = ag
  agree_moved d number after v (before_retire e) ag = (ag.0, ag.1, ag.2 ∙ sym (owed_moved d number e after))
  agree_moved d number after v (linked_to r) ag = ag

  take_agree : (d c p w : ℕ) (after : State) → Took H st d c p w after → (v : ℕ) (b : Bool) (l : Link) → (b ≡ true → v ≡ 0) → Agree f st v l
      → Agree f after (cond b w v) (on_take b p l)
  take_agree d c p w after k v true unlinked z a = (k.some, k.position, rw k.state k.session)
  take_agree d c p w after k v true (before_swap q) z a = absurd (a.0 (z refl))
  take_agree d c p w after k v true (before_retire q) z a = absurd (a.0 (z refl))
  take_agree d c p w after k v true (linked_to q) z a = absurd (a.0 (z refl))
  take_agree d c p w after k v false unlinked z a = a
  take_agree d c p w after k v false (before_swap q) z a = rw k.state a
  take_agree d c p w after k v false (before_retire q) z a = rw k.state a
  take_agree d c p w after k v false (linked_to q) z a = a

  drop_agree : (d c : ℕ) (after : State) → Dropped H st d c after → (v : ℕ) (b : Bool) (l : Link) → Agree f st v l
      → Agree f after (cond b 0 v) (cond b unlinked l)
  drop_agree d c after k v true l a = refl
  drop_agree d c after k v false l a = agree_kept d (drops c) after k refl refl v l a

  swap_agree : (d p : ℕ) (after : State) → Swapped H st d p after → (v : ℕ) (l : Link) → Agree f st v l → Agree f after v (on_swap d p l)
  swap_agree d p after k v unlinked a = a
  swap_agree d p after k v (before_swap q) a = by_cases (eqb p q) refl
    where
      by_cases : (b : Bool) → eqb p q ≡ b → Agree f after v (cond b (before_retire d) (before_swap q))
      by_cases true t =
          (a.0, k.desk.0, a.2 ∙ ap (λ (m : ℕ). get_or st.held (m - 1) 0) (sym (eqb-true p q t)) ∙ sym (swap_owes H st formed d p after k))
      by_cases false t = before_swap_kept d (swaps p) after k v q (λ u. eqb-false p q t (cc)) a
  swap_agree d p after k v (before_retire e) a =
      before_retire_kept d (swaps p) after k v e (λ s u same. true≢false (cc)) a
  swap_agree d p after k v (linked_to r) a = a

  retire_agree : (d s : ℕ) (after : State) → StateChange H st d (retires s) after → f n ≡ retires s by d → (v : ℕ) (l : Link) → Agree f st v l
      → Agree f after v (on_retire d n l)
  retire_agree d s after k q v unlinked a = a
  retire_agree d s after k q v (before_swap p) a =
      before_swap_kept d (retires s) after k v p (λ u. true≢false (cc)) a
  retire_agree d s after k q v (before_retire e) a = by_cases (eqb d e) refl
    where
      retired : d ≡ e → v ≡ s
      retired t = a.2 ∙ ap (λ (m : ℕ). (desk_of st m).owed) (sym t) ∙ k.done.owed

      by_cases : (b : Bool) → eqb d e ≡ b → Agree f after v (cond b (linked_to n) (before_retire e))
      by_cases true t = (a.0, d, q ∙ (λ i. retires (sym (retired (eqb-true d e t)) i) by d))
      by_cases false t = before_retire_kept d (retires s) after k v e (λ w u same. eqb-false d e t same) a
  retire_agree d s after k q v (linked_to r) a = a

  module _ (ag : ScreensAgree H f n st) where
    pub agree_step : (c : Call) → f n ≡ effect_in limits H st c → ScreensAgree H f (suc n) (step limits H st c).after
    agree_step c q x hx =
        let k = state_change_as limits H st c (f n) (sym q) in
        rw k.moved (agree_moved (f n).desk k.number k.state _ (link H f x (suc n)) (at (f n).desk (f n).action k.state refl k.change))
      where
        -- the screen shows what it showed
        shown : (after : State) (l : Link) → after.shown ≡ st.shown → Agree f after (get_or st.shown x 0) l → Agree f after (get_or after.shown x 0) l
        shown after l e a = subst (λ (vs : List ℕ). Agree f after (get_or vs x 0) l) (sym e) a

        unchanged : (d : ℕ) (a : Action) (after : State) → StateChange H st d a after → is_swap a ≡ false → is_retirement a ≡ false → after.shown ≡ st.shown
            → Agree f after (get_or after.shown x 0) (link H f x n)
        unchanged d a after k no-swap no-retire e =
            shown after (link H f x n) e (agree_kept d a after k no-swap no-retire (get_or st.shown x 0) (link H f x n) (ag x hx))

        at : (d : ℕ) (a : Action) (after : State) → f n ≡ a by d → StateChange H st d a after
            → Agree f after (get_or after.shown x 0) (next H x n d a (link H f x n))
        at d (takes c p w) after q k =
            subst (λ (v : ℕ). Agree f after v (on_take (eqb (screen_index H d c) x) p (link H f x n)))
            (sym (ap (λ (s : State). get_or s.shown x 0) k.state ∙ screen_stored H st.shown formed.screens d c w x k.desk k.screen))
            (take_agree d c p w after k (get_or st.shown x 0) (eqb (screen_index H d c) x) (link H f x n)
            (λ z. ap (λ (m : ℕ). get_or st.shown m 0) (sym (eqb-true (screen_index H d c) x z)) ∙ k.empty) (ag x hx))
        at d (drops c) after q k =
            subst (λ (v : ℕ). Agree f after v (cond (eqb (screen_index H d c) x) unlinked (link H f x n)))
            (sym (ap (λ (s : State). get_or s.shown x 0) k.state ∙ screen_stored H st.shown formed.screens d c 0 x k.desk k.screen))
            (drop_agree d c after k (get_or st.shown x 0) (eqb (screen_index H d c) x) (link H f x n) (ag x hx))
        at d (swaps p) after q k =
            shown after (on_swap d p (link H f x n)) (ap (λ (s : State). s.shown) k.state)
            (swap_agree d p after k (get_or st.shown x 0) (link H f x n) (ag x hx))
        at d (retires s) after q k =
            shown after (on_retire d n (link H f x n)) (ap (λ (s : State). s.shown) k.state)
            (retire_agree d s after k q (get_or st.shown x 0) (link H f x n) (ag x hx))
        at d out_of_room after q k = unchanged d out_of_room after k refl refl (ap (λ (s : State). s.shown) k.state)
        at d collects after q k = unchanged d collects after k refl refl (ap (λ (s : State). s.shown) k.state)
        at d (hands_back s) after q k = unchanged d (hands_back s) after k refl refl (ap (λ (s : State). s.shown) k.state)
        at d no_action after q k = unchanged d no_action after k refl refl (ap (λ (s : State). s.shown) k)

    -- an accepted take finds its screen unlinked
    pub take_finds_unlinked : (c : Call) → f n ≡ effect_in limits H st c → (d s p v : ℕ)
        → f n ≡ takes s p v by d → link H f (screen_index H d s) n ≡ unlinked
    take_finds_unlinked c q d s p v t =
        let k = (state_change_as limits H st c (takes s p v by d) (sym q ∙ t)).change in
        let there = screen_in H d s k.desk.0 k.desk.1 k.screen.0 k.screen.1 in
        empty_unlinked f st _ (link H f (screen_index H d s) n) (ag (screen_index H d s) there) k.empty
