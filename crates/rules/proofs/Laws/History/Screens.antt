-- What the screens show, read from the history alone: a screen that shows a session was taken, and not dropped since.
use Rattle.std.specs.Prelude.{ℕ, ◌+◌, ◌≤◌, zero, suc, ◌<◌, ◌≡◌, refl, cond, Bool, true, false, List, [], ◌∷◌, length, take, get_or, set, eqb}
use Rattle.std.proofs.Common.{arith, sym, ap, ◌∙◌, subst, true≢false, eqb-true}
use Rattle.std.proofs.lemmas.Bool.{eqb-false}
use Rattle.rules.specs.Hall.{Formed, Hall, Limits, State, screen_index, with_shown}
use Rattle.rules.specs.History.{Action, Effect, Shows, ◌by◌, collects, drops, hands_back, no_action, out_of_room, retires, swaps, takes}
use Rattle.rules.specs.Lists.{occurrences}
use Rattle.rules.specs.Steps.{Call, end, run, step}
use Rattle.rules.proofs.Laws.History.Actions.{is_drop, same_action, same_desk_lem}
use Rattle.rules.proofs.Laws.History.DeskInvariants.{Hidden}
use Rattle.rules.proofs.Laws.History.RunSplitting.{Gives, gives_first, gives_rest, one_index_more}
use Rattle.rules.proofs.Laws.History.ScreenIndex.{screen_stored}
use Rattle.rules.proofs.Laws.History.StepEffects.{Dropped, StateChange, Took, effect_in, formed_step, state_change_as}
use Rattle.rules.proofs.Laws.Lists.Lists.{indicator_other}

-- What stands at index x of the screens is the session of a take.
pub record ShownBy (H : Hall) (f : ℕ → Effect) (n x v : ℕ) : Type 0 where
  pub desk : ℕ
  pub screen : ℕ
  pub index : screen_index H desk screen ≡ x
  pub shows : Shows f n desk screen v

-- each of the hall's screens, before index n
abbrev pub AllShown : Hall → (ℕ → Effect) → ℕ → State → Type 0
AllShown H f n st = (x : ℕ) → (get_or st.shown x 0 ≡ 0 → ⊥) → ShownBy H f n x (get_or st.shown x 0)

-- one index later, where the action is no drop of that screen
still_shown_lem : (H : Hall) (f : ℕ → Effect) (n x v : ℕ) (k : ShownBy H f n x v) → (f n ≡ drops k.screen by k.desk → ⊥) → ShownBy H f (suc n) x v
still_shown_lem H f n x v k no_drop = record {
  desk = k.desk;
  screen = k.screen;
  index = k.index;
  shows = record {
    taken_at = k.shows.taken_at;
    position = k.shows.position;
    earlier = omega (arith, k.shows.earlier);
    take = k.shows.take;
    undropped = one_index_more (λ m. f m ≡ drops k.screen by k.desk → ⊥) k.shows.taken_at n no_drop k.shows.undropped;
  };
}

module _ (limits : Limits) (H : Hall) (f : ℕ → Effect) (n : ℕ) (st : State) (formed : Formed H st) (before : AllShown H f n st) where
  after-take : (d c p v : ℕ) (after : State) → Took H st d c p v after → f n ≡ takes c p v by d → AllShown H f (suc n) (with_shown st (screen_index H d c) v)
  after-take d c p v after k q x nz =
      subst (ShownBy H f (suc n) x) (sym value) (by_cases (eqb (screen_index H d c) x) refl (subst (λ (w : ℕ). w ≡ 0 → ⊥) value nz))
    where
      value : get_or (set st.shown (screen_index H d c) v) x 0 ≡ cond (eqb (screen_index H d c) x) v (get_or st.shown x 0)
      value = screen_stored H st.shown formed.screens d c v x k.desk k.screen

      by_cases : (b : Bool) → eqb (screen_index H d c) x ≡ b → (cond b v (get_or st.shown x 0) ≡ 0 → ⊥)
          → ShownBy H f (suc n) x (cond b v (get_or st.shown x 0))
      by_cases true t nz = record {
        desk = d;
        screen = c;
        index = eqb-true (screen_index H d c) x t;
        shows = record { taken_at = n; position = p; earlier = omega arith; take = q; undropped = λ m a b. absurd (omega arith) };
      }
      by_cases false t nz =
          still_shown_lem H f n x (get_or st.shown x 0) (before x nz) (λ u. let differ = same_action q u in true≢false (cc))

  after-drop : (d c : ℕ) (after : State) → Dropped H st d c after → f n ≡ drops c by d → AllShown H f (suc n) (with_shown st (screen_index H d c) 0)
  after-drop d c after k q x nz =
      subst (ShownBy H f (suc n) x) (sym value) (by_cases (eqb (screen_index H d c) x) refl (subst (λ (w : ℕ). w ≡ 0 → ⊥) value nz))
    where
      value : get_or (set st.shown (screen_index H d c) 0) x 0 ≡ cond (eqb (screen_index H d c) x) 0 (get_or st.shown x 0)
      value = screen_stored H st.shown formed.screens d c 0 x k.desk k.screen

      by_cases : (b : Bool) → eqb (screen_index H d c) x ≡ b → (cond {A = ℕ} b 0 (get_or st.shown x 0) ≡ 0 → ⊥)
          → ShownBy H f (suc n) x (cond b 0 (get_or st.shown x 0))
      by_cases true t nz = absurd (nz refl)
      by_cases false t nz = still_shown_lem H f n x (get_or st.shown x 0) (before x nz) other
        where
          other : f n ≡ drops (before x nz).screen by (before x nz).desk → ⊥
          other u =
              let same = same_action q u in
              let screens : c ≡ (before x nz).screen = cc in
              eqb-false (screen_index H d c) x t ((λ i. screen_index H (same_desk_lem q u i) (screens i)) ∙ (before x nz).index)

  pub all_shown_step : (c : Call) → f n ≡ effect_in limits H st c → AllShown H f (suc n) (step limits H st c).after
  all_shown_step c q = let k = state_change_as limits H st c (f n) (sym q) in rw k.moved (at (f n).desk (f n).action k.state refl k.change)
    where
      -- an action that is no drop, and no screen changes
      unchanged : (d : ℕ) (a : Action) (after : State) → f n ≡ a by d → is_drop a ≡ false → after.shown ≡ st.shown → AllShown H f (suc n) after
      unchanged d a after q no_drop e x nz =
          subst (λ (vs : List ℕ). ShownBy H f (suc n) x (get_or vs x 0)) (sym e) (still (subst (λ (vs : List ℕ). get_or vs x 0 ≡ 0 → ⊥) e nz))
        where
          still : (get_or st.shown x 0 ≡ 0 → ⊥) → ShownBy H f (suc n) x (get_or st.shown x 0)
          still nz =
              still_shown_lem H f n x (get_or st.shown x 0) (before x nz) (λ u. true≢false (ap is_drop (same_action u q) ∙ no_drop))

      at : (d : ℕ) (a : Action) (after : State) → f n ≡ a by d → StateChange H st d a after → AllShown H f (suc n) after
      at d (takes c p v) after q k = rw k.state (after-take d c p v after k q)
      at d (drops c) after q k = rw k.state (after-drop d c after k q)
      at d (swaps p) after q k = unchanged d (swaps p) after q refl (ap (λ (s : State). s.shown) k.state)
      at d (retires v) after q k = unchanged d (retires v) after q refl (ap (λ (s : State). s.shown) k.state)
      at d out_of_room after q k = unchanged d out_of_room after q refl (ap (λ (s : State). s.shown) k.state)
      at d collects after q k = unchanged d collects after q refl (ap (λ (s : State). s.shown) k.state)
      at d (hands_back v) after q k = unchanged d (hands_back v) after q refl (ap (λ (s : State). s.shown) k.state)
      at d no_action after q k = unchanged d no_action after q refl (ap (λ (s : State). s.shown) k)

-- a session that stands nowhere in a list
occurrences_none : (s : ℕ) (xs : List ℕ) → ((x : ℕ) → get_or xs x 0 ≡ s → ⊥) → occurrences s xs ≡ 0
occurrences_none s [] h = refl
occurrences_none s (y ∷ xs) h = omega (arith, indicator_other s y (λ q. h 0 (sym q)), occurrences_none s xs (λ x. h (suc x)))

module _ (limits : Limits) (H : Hall) (f : ℕ → Effect) where
  -- where no screen shows s before any of k calls
  pub hidden_run : (s : ℕ) → (s ≡ 0 → ⊥) → (k : ℕ) (cs : List Call) (st : State) (n : ℕ) → Gives f n (run (step limits H) st cs) → Formed H st → AllShown H f n st
      → ((m d c : ℕ) → n ≤ m → m < n + k → Shows f m d c s → ⊥) → Hidden limits H s st (take k cs)
  hidden_run s hs zero cs st n gives formed shown hid = tt
  hidden_run s hs (suc k) [] st n gives formed shown hid = tt
  hidden_run s hs (suc k) (c ∷ cs) st n gives formed shown hid = (
    occurrences_none s st.shown nowhere,
    hidden_run s hs k cs (step limits H st c).after (suc n) (gives_rest gives) (formed_step limits H st formed c)
        (all_shown_step limits H f n st formed shown c (gives_first gives)) (λ m d c a b. hid m d c (omega arith) (omega arith)),
  )
    where
      nowhere : (x : ℕ) → get_or st.shown x 0 ≡ s → ⊥
      nowhere x e =
          let k = shown x (λ z. hs (sym e ∙ z)) in
          hid n k.desk k.screen (omega arith) (omega arith) (subst (Shows f n k.desk k.screen) e k.shows)

  pub all_shown_run : (k : ℕ) (cs : List Call) (st : State) (n : ℕ) → Gives f n (run (step limits H) st cs) → Formed H st → AllShown H f n st → k ≤ length cs
      → AllShown H f (n + k) (end (step limits H) st (take k cs))
  all_shown_run zero cs st n gives formed shown l = subst (λ (m : ℕ). AllShown H f m st) (omega arith) shown
  all_shown_run (suc k) [] st n gives formed shown l = absurd (omega arith)
  all_shown_run (suc k) (c ∷ cs) st n gives formed shown l =
      subst (λ (m : ℕ). AllShown H f m (end (step limits H) (step limits H st c).after (take k cs))) (omega arith)
      (all_shown_run k cs (step limits H st c).after (suc n) (gives_rest gives) (formed_step limits H st formed c)
      (all_shown_step limits H f n st formed shown c (gives_first gives)) (omega arith))
