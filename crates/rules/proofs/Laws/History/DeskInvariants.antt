-- The laws of one desk, along a list of calls: its room, its soundness, the counting law, and the hand-back in time.
use Rattle.std.specs.Prelude.{◌+◌, ◌≤◌, ℕ, zero, suc, ◌<◌, ◌≡◌, refl, Bool, true, false, cond, not, List, [], ◌∷◌, length, eqb}
use Rattle.std.proofs.Common.{arith, ap, subst, sym, ◌∙◌, true≢false, ne_eqb}
use Rattle.rules.specs.Hall.{Desk, Formed, Hall, Limits, State, all_screens, desk_of, used_slots}
use Rattle.rules.specs.History.{Action, CollectBetween, CollectsBetweenRetires, Effect, ◌by◌, actions_by, by_desk, collects, collects_of, drops, effect_at}
use Rattle.rules.specs.History.{hand_backs, hand_backs_of, hands_back, is_collect, is_hand_back_with, is_retire_attempt, is_retirement_of, is_retirement_with, no_action}
use Rattle.rules.specs.History.{out_of_room, retirements, retirements_of, retires, swaps, takes}
use Rattle.rules.specs.Lists.{count, occurrences, to_nat}
use Rattle.rules.specs.Steps.{Call, Event, collect, end, owe, renumber, retire, run, step}
use Rattle.rules.proofs.Laws.Desk.Collect.{Orderly, collect_copies, collect-slots, copies_on, retire_copies, retire-slots}
use Rattle.rules.proofs.Laws.Desk.HandBack.{Due, due_collect, due_end, due_owe, due_renumbered, due_retire}
use Rattle.rules.proofs.Laws.Desk.Room.{Room, collect-room, owe_room, retire-room, room_renumbered}
use Rattle.rules.proofs.Laws.Desk.Sound.{Sound, collect-sound, retire-sound, sound_orderly, sound_owe, sound_renumbered}
use Rattle.rules.proofs.Laws.History.Actions.{by_own_desk, same_action}
use Rattle.rules.proofs.Laws.History.Spacing.{CollectBefore, Spaced}
use Rattle.rules.proofs.Laws.History.StepEffects.{Collects, DeskChangeIn, DeskChanged, OutOfRoom, Same, desk_change, effect_in, formed_step}
use Rattle.rules.proofs.Laws.Lists.Lists.{indicator, indicator_other, one_if_le}

-- ---- A collect between any two retires. Has the desk tried to retire since its last collect?
abbrev pending : Bool → Action → Bool
pending f a = cond (is_retire_attempt a) true (cond (is_collect a) false f)

-- of the events after the first
spaced-next : (d : ℕ) (f : Bool) (e : Event) (es : List Event) → Spaced d f (e ∷ es) → Spaced d (pending f (by_desk d (effect_at (e ∷ es) 0))) es
spaced-next d f e es sp = record { between = between; since = by_cases (is_retire_attempt (by_desk d (effect_at (e ∷ es) 0))) (is_collect (by_desk d (effect_at (e ∷ es) 0))) refl refl }
  where
    -- a collect that is not the first event
    later : (j m : ℕ) → 0 < m → m < suc j → is_collect (by_desk d (effect_at (e ∷ es) m)) ≡ true → CollectBefore d es j
    later j zero a b h = absurd (omega arith)
    later j (suc m) a b h = record { index = m; before = omega arith; here = h }

    between : CollectsBetweenRetires (effect_at es) d
    between i j l a b = let c = sp.between (suc i) (suc j) (omega arith) a b in at c.index c.after c.before c.here
      where
        at : (m : ℕ) → suc i < m → m < suc j → is_collect (by_desk d (effect_at (e ∷ es) m)) ≡ true → CollectBetween (effect_at es) d i j
        at zero a b h = absurd (omega arith)
        at (suc m) a b h = record { index = m; after = omega arith; before = omega arith; here = h }

    -- the first event was a retire
    from_first : is_retire_attempt (by_desk d (effect_at (e ∷ es) 0)) ≡ true → (j : ℕ) → is_retire_attempt (by_desk d (effect_at es j)) ≡ true → CollectBefore d es j
    from_first a j b = let c = sp.between 0 (suc j) (omega arith) a b in later j c.index c.after c.before c.here

    -- it was neither a retire nor a collect
    from_since : is_collect (by_desk d (effect_at (e ∷ es) 0)) ≡ false → f ≡ true → (j : ℕ) → is_retire_attempt (by_desk d (effect_at es j)) ≡ true
        → CollectBefore d es j
    from_since z q j b = let c = sp.since q (suc j) b in later j c.index (not_first c.index c.here) c.before c.here
      where
        not_first : (m : ℕ) → is_collect (by_desk d (effect_at (e ∷ es) m)) ≡ true → 0 < m
        not_first zero h = absurd (true≢false (cc))
        not_first (suc m) h = omega arith

    by_cases : (retire collect : Bool) → is_retire_attempt (by_desk d (effect_at (e ∷ es) 0)) ≡ retire → is_collect (by_desk d (effect_at (e ∷ es) 0)) ≡ collect
        → cond retire true (cond collect false f) ≡ true → (j : ℕ) → is_retire_attempt (by_desk d (effect_at es j)) ≡ true → CollectBefore d es j
    by_cases true collect a c z = from_first a
    by_cases false true a c z = absurd (true≢false (sym z))
    by_cases false false a c z = from_since c z

-- a retire refused for want of room is an attempt of that desk
own_out_of_room : (d : ℕ) (e : Effect) → e ≡ out_of_room by d → by_desk d e ≡ out_of_room
own_out_of_room d e q = ap (by_desk d) q ∙ by_own_desk d out_of_room

-- The state keeps its form.
pub formed_run : (limits : Limits) (H : Hall) (cs : List Call) (st : State) → Formed H st → Formed H (end (step limits H) st cs)
formed_run limits H [] st formed = formed
formed_run limits H (c ∷ cs) st formed = formed_run limits H cs (step limits H st c).after (formed_step limits H st formed c)

-- No screen shows s before any of these calls.
abbrev pub Hidden : Limits → Hall → ℕ → State → List Call → Type 0
Hidden limits H s st [] = Unit {0}
Hidden limits H s st (c ∷ cs) = (occurrences s st.shown ≡ 0) × Hidden limits H s (step limits H st c).after cs

module _ (limits : Limits) (H : Hall) (d : ℕ) (hS : 1 ≤ all_screens H) (hd : 1 ≤ d) where
  -- ---- Room.

  -- a desk that tries to retire has not done so since its last collect, and has room
  not-pending : (f : Bool) (es : List Event) → Spaced d f es → is_retire_attempt (by_desk d (effect_at es 0)) ≡ true → f ≡ false
  not-pending true es sp tries = absurd (omega (arith, (sp.since refl 0 tries).before))
  not-pending false es sp tries = refl

  has_room : (f : Bool) (es : List Event) (D E : Desk) → Spaced d f es → is_retire_attempt (by_desk d (effect_at es 0)) ≡ true → Room (all_screens H) (to_nat f) D
      → OutOfRoom (all_screens H) D E → ⊥
  has_room f es D E sp tries r e = omega (arith, ap to_nat (not-pending f es sp tries), r.total, e.room)

  pub room_run : (cs : List Call) (st : State) (f : Bool) → Formed H st → Room (all_screens H) (to_nat f) (desk_of st d) → Spaced d f (run (step limits H) st cs)
      → (i : ℕ) → effect_at (run (step limits H) st cs) i ≡ out_of_room by d → ⊥
  room_run [] st f formed r sp i q = let differ = same_action refl q in true≢false (cc)
  room_run (c ∷ cs) st f formed r sp zero q =
      let lacks = own_out_of_room d _ q in
      let k = desk_change limits H st formed d hd c in
      has_room f (run (step limits H) st (c ∷ cs)) (desk_of st d) k.desk sp (ap is_retire_attempt lacks) r
      (subst (DeskChangeIn H st d k.desk) lacks k.change)
  room_run (c ∷ cs) st f formed r sp (suc i) q =
      room_run cs (step limits H st c).after (pending f (by_desk d (effect_at (run (step limits H) st (c ∷ cs)) 0))) (formed_step limits H st formed c)
      (rw k.moved.is (room_renumbered (all_screens H) _ k.moved.number k.desk (next (by_desk d (effect_at (run (step limits H) st (c ∷ cs)) 0)) refl k.change)))
      (spaced-next d f (record { call = c; answer = (step limits H st c).answer }) (run (step limits H) (step limits H st c).after cs) sp) i q
    where
      k : DeskChanged H st d (desk_of (step limits H st c).after d) (by_desk d (effect_in limits H st c))
      k = desk_change limits H st formed d hd c

      kept : Same (desk_of st d) k.desk → Room (all_screens H) (to_nat f) k.desk
      kept e = rw e.after (owe_room (all_screens H) (to_nat f) e.owed (desk_of st d) r)

      next : (a : Action) → by_desk d (effect_at (run (step limits H) st (c ∷ cs)) 0) ≡ a → DeskChangeIn H st d k.desk a
          → Room (all_screens H) (to_nat (pending f a)) k.desk
      next (takes s p v) q e = kept e
      next (drops s) q e = kept e
      next (swaps p) q e = kept e
      next (retires v) q e =
          rw e.after
          (retire-room (all_screens H) (desk_of st d) (rw (not-pending f (run (step limits H) st (c ∷ cs)) sp (ap is_retire_attempt q)) at r))
      next out_of_room q e =
          absurd (has_room f (run (step limits H) st (c ∷ cs)) (desk_of st d) k.desk sp (ap is_retire_attempt q) r e)
      next collects q e = rw e.after (collect-room (all_screens H) (to_nat f) st.shown (desk_of st d) hS (one_if_le f) formed.screens r)
      next (hands_back v) q e = rw e.1.after (collect-room (all_screens H) (to_nat f) st.shown (desk_of st d) hS (one_if_le f) formed.screens r)
      next no_action q e = kept e

  -- ---- The desk stays sound.
  pub sound-step : (st : State) (c : Call) → Formed H st → Sound (all_screens H) (desk_of st d) → Sound (all_screens H) (desk_of (step limits H st c).after d)
  sound-step st c formed ok =
      rw k.moved.is (sound_renumbered (all_screens H) k.moved.number k.desk (at (by_desk d (effect_in limits H st c)) k.change))
    where
      k : DeskChanged H st d (desk_of (step limits H st c).after d) (by_desk d (effect_in limits H st c))
      k = desk_change limits H st formed d hd c

      kept : Same (desk_of st d) k.desk → Sound (all_screens H) k.desk
      kept e = rw e.after (sound_owe (all_screens H) e.owed (desk_of st d) ok)

      at : (a : Action) → DeskChangeIn H st d k.desk a
          → Sound (all_screens H) k.desk
      at (takes s p v) e = kept e
      at (drops s) e = kept e
      at (swaps p) e = kept e
      at (retires v) e = rw e.after (retire-sound (all_screens H) (desk_of st d) (λ z. e.some (sym e.owed ∙ z)) e.room ok)
      at out_of_room e = rw e.after ok
      at collects e = rw e.after (collect-sound (all_screens H) st.shown (desk_of st d) hS formed.screens ok)
      at (hands_back v) e = rw e.1.after (collect-sound (all_screens H) st.shown (desk_of st d) hS formed.screens ok)
      at no_action e = kept e

  pub sound_run : (cs : List Call) (st : State) → Formed H st → Sound (all_screens H) (desk_of st d) → Sound (all_screens H) (desk_of (end (step limits H) st cs) d)
  sound_run [] st formed ok = ok
  sound_run (c ∷ cs) st formed ok = sound_run cs (step limits H st c).after (formed_step limits H st formed c) (sound-step st c formed ok)

  -- ---- The counting law: the retirements of the sessions that pass a test are the hand-backs of such and the amount of them on the list.
  module _ (test : ℕ → Bool) (amount : Desk → ℕ) (owes : (o : ℕ) (D : Desk) → amount (owe D o) ≡ amount D) (renumbered : (n : ℕ) (D : Desk) → amount (renumber D n) ≡ amount D)
      (retired : (v : ℕ) (D : Desk) → D.owed ≡ v → amount (retire D) ≡ amount D + to_nat (test v))
      (none : (shown : List ℕ) (D : Desk) → length shown ≡ all_screens H → Orderly (all_screens H) D → (collect (all_screens H) shown D).session ≡ 0
      → amount (collect (all_screens H) shown D).after ≡ amount D)
      (back : (v : ℕ) (shown : List ℕ) (D : Desk) → length shown ≡ all_screens H → Orderly (all_screens H) D → (collect (all_screens H) shown D).session ≡ v
      → (v ≡ 0 → ⊥) → amount (collect (all_screens H) shown D).after + to_nat (test v) ≡ amount D) where
    count_run : (cs : List Call) (st : State) → Formed H st → Sound (all_screens H) (desk_of st d)
        → count (is_retirement_with test) (actions_by d (run (step limits H) st cs)) + amount (desk_of st d)
        ≡ count (is_hand_back_with test) (actions_by d (run (step limits H) st cs)) + amount (desk_of (end (step limits H) st cs) d)
    count_run [] st formed ok = refl
    count_run (c ∷ cs) st formed ok =
        at (by_desk d (effect_in limits H st c)) k.change
        (actions_by d (run (step limits H) (step limits H st c).after cs)) (amount (desk_of (end (step limits H) (step limits H st c).after cs) d))
        (omega (
          arith,
          count_run cs (step limits H st c).after (formed_step limits H st formed c) (sound-step st c formed ok),
          ap amount k.moved.is,
          renumbered k.moved.number k.desk,
        ))
      where
        k : DeskChanged H st d (desk_of (step limits H st c).after d) (by_desk d (effect_in limits H st c))
        k = desk_change limits H st formed d hd c

        orderly : Orderly (all_screens H) (desk_of st d)
        orderly = sound_orderly (all_screens H) (desk_of st d) ok

        kept : Same (desk_of st d) k.desk → amount k.desk ≡ amount (desk_of st d)
        kept e = ap amount e.after ∙ owes e.owed (desk_of st d)

        at : (a : Action) → DeskChangeIn H st d k.desk a → (ds : List Action) (u : ℕ)
            → count (is_retirement_with test) ds + amount k.desk ≡ count (is_hand_back_with test) ds + u
            → count (is_retirement_with test) (a ∷ ds) + amount (desk_of st d) ≡ count (is_hand_back_with test) (a ∷ ds) + u
        at (takes s p v) e ds u ih = omega (arith, kept e)
        at (drops s) e ds u ih = omega (arith, kept e)
        at (swaps p) e ds u ih = omega (arith, kept e)
        at (retires v) e ds u ih = omega (arith, ap amount e.after, retired v (desk_of st d) e.owed)
        at out_of_room e ds u ih = omega (arith, ap amount e.after)
        at collects e ds u ih = omega (arith, ap amount e.after, none st.shown (desk_of st d) formed.screens orderly e.session)
        at (hands_back v) e ds u ih =
            omega (arith, ap amount e.1.after, back v st.shown (desk_of st d) formed.screens orderly e.1.session e.0)
        at no_action e ds u ih = omega (arith, kept e)

  -- of all sessions together
  pub slots_run : (cs : List Call) (st : State) → Formed H st → Sound (all_screens H) (desk_of st d)
      → retirements d (run (step limits H) st cs) + used_slots (desk_of st d) ≡ hand_backs d (run (step limits H) st cs) + used_slots (desk_of (end (step limits H) st cs) d)
  slots_run =
      count_run (λ session. true) used_slots (λ o D. refl) (λ n D. refl) (λ v D q. retire-slots D)
      (λ shown D hl ok q. omega (arith, rw q at (collect-slots (all_screens H) shown D hS hl ok)))
      (λ v shown D hl ok q nz. omega (arith, rw q at (collect-slots (all_screens H) shown D hS hl ok), ap (λ (b : Bool). to_nat (not b)) (ne_eqb v 0 nz)))

  -- session by session
  pub copies_run : (s : ℕ) → (s ≡ 0 → ⊥) → (cs : List Call) (st : State) → Formed H st → Sound (all_screens H) (desk_of st d)
      → retirements_of d s (run (step limits H) st cs) + copies_on s (desk_of st d) ≡ hand_backs_of d s (run (step limits H) st cs) + copies_on s (desk_of (end (step limits H) st cs) d)
  copies_run s hs =
      count_run (eqb s) (copies_on s) (λ o D. refl) (λ n D. refl) (retire_copies s)
      (λ shown D hl ok q. omega (arith, indicator_other s 0 hs, rw q at (collect_copies s (all_screens H) shown D hS hl ok hs)))
      (λ v shown D hl ok q nz. rw q at (collect_copies s (all_screens H) shown D hS hl ok hs))

  -- ---- The hand-back in time, while no screen shows the session.
  pub due_run : (s : ℕ) (cs : List Call) (st : State) (B m : ℕ) → Formed H st → Sound (all_screens H) (desk_of st d)
      → Due (all_screens H) s B m (desk_of st d) → Hidden limits H s st cs
      → collects_of d (run (step limits H) st cs) ≡ B → copies_on s (desk_of (end (step limits H) st cs) d) ≤ retirements_of d s (run (step limits H) st cs) + m
  due_run s [] st B m formed ok du hid hc =
      omega (arith, due_end (all_screens H) s m (desk_of st d) hS (sound_orderly (all_screens H) (desk_of st d) ok) (rw (← hc) at du))
  due_run s (c ∷ cs) st B m formed ok du hid hc =
      at (by_desk d (effect_in limits H st c)) k.change
      (actions_by d (run (step limits H) (step limits H st c).after cs)) (copies_on s (desk_of (end (step limits H) (step limits H st c).after cs) d)) B du hc
      (λ B' m' du' hc'. due_run s cs (step limits H st c).after B' m' (formed_step limits H st formed c) (sound-step st c formed ok) (rw k.moved.is (due_renumbered (all_screens H) s B' m' k.moved.number k.desk du')) hid.1 hc')
    where
      k : DeskChanged H st d (desk_of (step limits H st c).after d) (by_desk d (effect_in limits H st c))
      k = desk_change limits H st formed d hd c

      kept : (B : ℕ) → Due (all_screens H) s B m (desk_of st d) → Same (desk_of st d) k.desk
          → Due (all_screens H) s B m k.desk
      kept B du e = rw e.after (due_owe (all_screens H) s B m e.owed (desk_of st d) du)

      collected : (B v : ℕ) → Due (all_screens H) s (suc B) m (desk_of st d)
          → Collects (all_screens H) st.shown v (desk_of st d) k.desk → Due (all_screens H) s B m k.desk
      collected B v du e =
          rw e.after
          (due_collect (all_screens H) s B m st.shown (desk_of st d) hS formed.screens hid.0 (sound_orderly (all_screens H) (desk_of st d) ok) du)

      at : (a : Action) → DeskChangeIn H st d k.desk a → (ds : List Action) (u B : ℕ)
          → Due (all_screens H) s B m (desk_of st d) → count is_collect (a ∷ ds) ≡ B
          → ((B m : ℕ) → Due (all_screens H) s B m k.desk → count is_collect ds ≡ B → u ≤ count (is_retirement_of s) ds + m)
          → u ≤ count (is_retirement_of s) (a ∷ ds) + m
      at (takes x p v) e ds u B du hc later = omega (arith, later B m (kept B du e) (omega arith))
      at (drops x) e ds u B du hc later = omega (arith, later B m (kept B du e) (omega arith))
      at (swaps p) e ds u B du hc later = omega (arith, later B m (kept B du e) (omega arith))
      at (retires v) e ds u B du hc later =
          omega (arith, later B (indicator s v + m) (rw e.after (due_retire (all_screens H) s v B m (desk_of st d) e.owed du)) (omega arith))
      at out_of_room e ds u B du hc later = omega (arith, later B m (rw e.after du) (omega arith))
      at collects e ds u zero du hc later = absurd (omega arith)
      at collects e ds u (suc B) du hc later = omega (arith, later B m (collected B 0 du e) (omega arith))
      at (hands_back v) e ds u zero du hc later = absurd (omega arith)
      at (hands_back v) e ds u (suc B) du hc later = omega (arith, later B m (collected B v du e.1) (omega arith))
      at no_action e ds u B du hc later = omega (arith, later B m (kept B du e) (omega arith))
