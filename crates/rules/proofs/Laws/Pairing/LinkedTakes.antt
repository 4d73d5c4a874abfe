-- From the words of the history to the links: a take that is linked to a retirement is dropped, or its screen is linked to that retirement.
use Rattle.std.specs.Prelude.{ℕ, zero, suc, ◌+◌, ◌-◌, ◌≤◌, ◌<◌, ◌≡◌, refl, Bool, true, false, cond, eqb}
use Rattle.std.proofs.Common.{arith, sym, ap, ◌∙◌, subst, true≢false, eqb-true, eq-eqb, ne_eqb}
use Rattle.std.proofs.Math.Decide.{ℕ_discrete}
use Rattle.std.proofs.lemmas.Bool.{eqb-false}
use Rattle.rules.specs.Hall.{Hall, screen_index}
use Rattle.rules.specs.History.{Action, DroppedBefore, Effect, Linked, NextDrop, NextRetire, NextSwap, ◌by◌, collects, drops, hands_back, is_retirement}
use Rattle.rules.specs.History.{no_action, out_of_room, retires, swaps, takes}
use Rattle.rules.proofs.Laws.History.Actions.{is_drop, is_swap, same_action, same_desk_lem}
use Rattle.rules.proofs.Laws.History.RunSplitting.{one_index_more}
use Rattle.rules.proofs.Laws.History.ScreenIndex.{screen_same}
use Rattle.rules.proofs.Laws.History.StepEffects.{InHall}
use Rattle.rules.proofs.Laws.Pairing.Links.{Link, before_retire, before_swap, link, linked_to, next, unlinked}

-- How far a take at position p has come, with its swap, by desk e, at index j and its retirement at index r.
data Stage (H : Hall) (f : ℕ → Effect) (x p e j r n : ℕ) : Type 0 where
  until_swap : n ≤ j → link H f x n ≡ before_swap p → Stage H f x p e j r n
  until_retire : j < n → n ≤ r → link H f x n ≡ before_retire e → Stage H f x p e j r n
  since_retire : r < n → link H f x n ≡ linked_to r → Stage H f x p e j r n

-- The take of desk d's screen c at index i: dropped before index n, or not, and then at its stage.
data Track (H : Hall) (f : ℕ → Effect) (i d c p e j r n : ℕ) : Type 0 where
  was_dropped : (q : ℕ) → NextDrop f i d c q → q < n → Track H f i d c p e j r n
  still_shown : ((m : ℕ) → i < m → m < n → f m ≡ drops c by d → ⊥) → Stage H f (screen_index H d c) p e j r n → Track H f i d c p e j r n

module _ (H : Hall) (f : ℕ → Effect) (in_hall_lem : (m : ℕ) → InHall H (f m)) (i d c p v e j s r : ℕ) (tk : f i ≡ takes c p v by d) (sw : NextSwap f i p e j)
    (re : NextRetire f j e s r) where
  abbrev StageAt : ℕ → Type 0
  StageAt = Stage H f (screen_index H d c) p e j r

  abbrev TrackAt : ℕ → Type 0
  TrackAt = Track H f i d c p e j r

  link-after : (n x : ℕ) (a : Action) (l l' : Link) → f n ≡ a by x → link H f (screen_index H d c) n ≡ l → next H (screen_index H d c) n x a l ≡ l'
      → link H f (screen_index H d c) (suc n) ≡ l'
  link-after n x a l l' q is after = rw (q, is) after

  -- the index of an action that fails a test is not that of one that passes it
  not_there : (test : Action → Bool) (m n : ℕ) {x y : ℕ} {a b : Action} → f m ≡ a by x → test a ≡ true → f n ≡ b by y → test b ≡ false → n ≡ m → ⊥
  not_there test m n there passes here fails t = true≢false (sym passes ∙ ap test (same_action (ap f t ∙ there) here) ∙ fails)

  -- the action at n is neither a swap nor a retirement, and no take or drop of the screen
  stage_kept : (n x : ℕ) (a : Action) → f n ≡ a by x → is_swap a ≡ false → is_retirement a ≡ false
      → ((l : Link) → (l ≡ unlinked → ⊥) → next H (screen_index H d c) n x a l ≡ l) → StageAt n
      → StageAt (suc n)
  stage_kept n x a q no-swap no-retire same (until_swap m l) =
      let z : n ≡ j → ⊥ = not_there is_swap j n sw.here refl q no-swap in
      until_swap (omega arith) (link-after n x a (before_swap p) (before_swap p) q l (same (before_swap p) (λ t. true≢false (cc))))
  stage_kept n x a q no-swap no-retire same (until_retire m b l) =
      let z : n ≡ r → ⊥ = not_there is_retirement r n re.here refl q no-retire in
      until_retire (omega arith) (omega arith)
      (link-after n x a (before_retire e) (before_retire e) q l (same (before_retire e) (λ t. true≢false (cc))))
  stage_kept n x a q no-swap no-retire same (since_retire m l) =
      since_retire (omega arith) (link-after n x a (linked_to r) (linked_to r) q l (same (linked_to r) (λ t. true≢false (cc))))

  keep_take : (n a b w x : ℕ) (l : Link) → (l ≡ unlinked → ⊥) → next H (screen_index H d c) n a (takes b w x) l ≡ l
  keep_take n a b w x unlinked z = absurd (z refl)
  keep_take n a b w x (before_swap q) z = refl
  keep_take n a b w x (before_retire q) z = refl
  keep_take n a b w x (linked_to q) z = refl

  on_swap_lem : (n x w : ℕ) → i < n → f n ≡ swaps w by x → StageAt n → StageAt (suc n)
  on_swap_lem n x w hi q (until_swap a l) = by_cases (ℕ_discrete w p)
    where
      by_cases : Dec (w ≡ p) → StageAt (suc n)
      by_cases (yes t) =
          let nj : n ≡ j = at (ℕ_discrete n j) in
          let xe : x ≡ e = same_desk_lem q (ap f nj ∙ sw.here) in
          until_retire (omega arith) (omega (arith, re.later)) (link-after n x (swaps w) (before_swap p) (before_retire e) q l (rw (eq-eqb w p t, xe)))
        where
          at : Dec (n ≡ j) → n ≡ j
          at (yes u) = u
          at (no u) = absurd (sw.first n x hi (omega arith) (q ∙ (λ i. swaps (t i) by x)))
      by_cases (no t) =
          let z : n ≡ j → ⊥ = (λ u. let same = same_action q (ap f u ∙ sw.here) in t (cc)) in
          until_swap (omega arith) (link-after n x (swaps w) (before_swap p) (before_swap p) q l (rw (ne_eqb w p t)))
  on_swap_lem n x w hi q (until_retire a b l) =
      let z : n ≡ r → ⊥ = not_there is_retirement r n re.here refl q refl in
      until_retire (omega arith) (omega arith) (link-after n x (swaps w) (before_retire e) (before_retire e) q l refl)
  on_swap_lem n x w hi q (since_retire a l) = since_retire (omega arith) (link-after n x (swaps w) (linked_to r) (linked_to r) q l refl)

  on_retire_lem : (n x v : ℕ) → f n ≡ retires v by x → StageAt n → StageAt (suc n)
  on_retire_lem n x v q (until_swap a l) =
      let z : n ≡ j → ⊥ = not_there is_swap j n sw.here refl q refl in
      until_swap (omega arith) (link-after n x (retires v) (before_swap p) (before_swap p) q l refl)
  on_retire_lem n x v q (until_retire a b l) = by_cases (ℕ_discrete x e)
    where
      by_cases : Dec (x ≡ e) → StageAt (suc n)
      by_cases (yes t) =
          let nr : n ≡ r = at (ℕ_discrete n r) in
          since_retire (omega arith) (link-after n x (retires v) (before_retire e) (linked_to r) q l (rw (eq-eqb x e t) (ap linked_to nr)))
        where
          at : Dec (n ≡ r) → n ≡ r
          at (yes u) = u
          at (no u) = absurd (re.first n v a (omega arith) (q ∙ (λ i. retires v by t i)))
      by_cases (no t) =
          let z : n ≡ r → ⊥ = (λ u. t (same_desk_lem q (ap f u ∙ re.here))) in
          until_retire (omega arith) (omega arith) (link-after n x (retires v) (before_retire e) (before_retire e) q l (rw (ne_eqb x e t)))
  on_retire_lem n x v q (since_retire a l) = since_retire (omega arith) (link-after n x (retires v) (linked_to r) (linked_to r) q l refl)

  step : (n : ℕ) → i < n → TrackAt n → TrackAt (suc n)
  step n hi (was_dropped q nd l) = was_dropped q nd (omega arith)
  step n hi (still_shown undropped st) = by_action (f n).desk (f n).action refl
    where
      shown-later : (x : ℕ) (a : Action) → f n ≡ a by x → is_drop a ≡ false → StageAt (suc n) → TrackAt (suc n)
      shown-later x a q no_drop stage =
          still_shown (one_index_more (λ m. f m ≡ drops c by d → ⊥) i n (λ t. not_there is_drop n n t refl q no_drop refl) undropped) stage

      by_action : (x : ℕ) (a : Action) → f n ≡ a by x → TrackAt (suc n)
      by_action x (takes b w y) q = shown-later x (takes b w y) q refl (stage_kept n x (takes b w y) q refl refl (keep_take n x b w y) st)
      by_action x (drops b) q = by_screen (eqb (screen_index H x b) (screen_index H d c)) refl
        where
          by_screen : (y : Bool) → eqb (screen_index H x b) (screen_index H d c) ≡ y → TrackAt (suc n)
          by_screen true t =
              let here = subst (InHall H) q (in_hall_lem n) in
              let there = subst (InHall H) tk (in_hall_lem i) in
              let k =
              screen_same H x b d c (here.0.0, here.0.1, here.1.0, here.1.1) (there.0.0, there.0.1, there.1.0, there.1.1)
              (eqb-true (screen_index H x b) (screen_index H d c) t) in
              was_dropped n (record { later = hi; here = q ∙ (λ z. drops (k.1 z) by k.0 z); first = undropped }) (omega arith)
          by_screen false t =
              still_shown (one_index_more (λ m. f m ≡ drops c by d → ⊥) i n other undropped)
              (stage_kept n x (drops b) q refl refl (λ l z. ap (λ (y : Bool). cond y unlinked l) t) st)
            where
              other : f n ≡ drops c by d → ⊥
              other u =
                  let same = same_action q u in
                  let bc : b ≡ c = cc in
                  eqb-false (screen_index H x b) (screen_index H d c) t (λ z. screen_index H (same_desk_lem q u z) (bc z))
      by_action x (swaps b) q = shown-later x (swaps b) q refl (on_swap_lem n x b hi q st)
      by_action x (retires b) q = shown-later x (retires b) q refl (on_retire_lem n x b q st)
      by_action x out_of_room q = shown-later x out_of_room q refl (stage_kept n x out_of_room q refl refl (λ l z. refl) st)
      by_action x collects q = shown-later x collects q refl (stage_kept n x collects q refl refl (λ l z. refl) st)
      by_action x (hands_back b) q = shown-later x (hands_back b) q refl (stage_kept n x (hands_back b) q refl refl (λ l z. refl) st)
      by_action x no_action q = shown-later x no_action q refl (stage_kept n x no_action q refl refl (λ l z. refl) st)

  track : link H f (screen_index H d c) i ≡ unlinked → (m : ℕ) → TrackAt (suc m + i)
  track free zero = subst TrackAt (omega arith) start
    where
      start : TrackAt (suc i)
      start =
          still_shown (λ m a b q. absurd (omega arith))
          (until_swap (omega (arith, sw.later))
          (link-after i d (takes c p v) unlinked (before_swap p) tk free (rw (eq-eqb (screen_index H d c) (screen_index H d c) refl))))
  track free (suc m) = subst TrackAt (omega arith) (step (suc m + i) (omega arith) (track free m))

  tied : link H f (screen_index H d c) i ≡ unlinked → (n : ℕ) → r < n → (link H f (screen_index H d c) n ≡ linked_to r → ⊥)
      → DroppedBefore f i n
  tied free n h nt = by_cases (subst TrackAt (omega (arith, sw.later, re.later)) (track free (n - suc i)))
    where
      by_cases : TrackAt n → DroppedBefore f i n
      by_cases (was_dropped q nd l) = record { desk = d; screen = c; position = p; shown = v; take = tk; drop_at = q; drop = nd; before = l }
      by_cases (still_shown undropped (until_swap a l)) = absurd (omega (arith, sw.later, re.later))
      by_cases (still_shown undropped (until_retire a b l)) = absurd (omega arith)
      by_cases (still_shown undropped (since_retire a l)) = absurd (nt l)

-- The take at index i is linked to the retirement at index r: once its screen is not linked to it any more, it has been dropped.
pub linked_dropped : (H : Hall) (f : ℕ → Effect) → ((m : ℕ) → InHall H (f m)) → (i r : ℕ) (k : Linked f i r)
    → link H f (screen_index H k.desk k.screen) i ≡ unlinked → (n : ℕ) → r < n
    → (link H f (screen_index H k.desk k.screen) n ≡ linked_to r → ⊥) → DroppedBefore f i n
linked_dropped H f in_hall_lem i r k =
    tied H f in_hall_lem i k.desk k.screen k.position k.shown k.swapper k.swap_at k.session r k.take k.swap k.retire
