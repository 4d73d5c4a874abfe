-- A desk that collects between any two of its retires: the same of the events after a call, and a computed test of it.
use Rattle.std.specs.Prelude.{ℕ, zero, suc, ◌<◌, ◌≡◌, refl, cond, Bool, true, false, not, ◌&&◌, List, [], ◌∷◌, eqb}
use Rattle.std.proofs.Common.{arith, sym, true≢false}
use Rattle.rules.specs.History.{Action, CollectsBetweenRetires, ◌by◌, actions_by, by_desk, effect_at, is_collect, is_retire_attempt, no_action}
use Rattle.rules.specs.Steps.{Event}

-- The desk collects before index j.
pub record CollectBefore (d : ℕ) (es : List Event) (j : ℕ) : Type 0 where
  pub index : ℕ
  pub before : index < j
  pub here : is_collect (by_desk d (effect_at es index)) ≡ true

-- The desk collects between its retires in these events, and, if it has a retire pending, collects before the next one.
pub record Spaced (d : ℕ) (f : Bool) (es : List Event) : Type 0 where
  pub between : CollectsBetweenRetires (effect_at es) d
  pub since : f ≡ true → (j : ℕ) → is_retire_attempt (by_desk d (effect_at es j)) ≡ true → CollectBefore d es j

-- ---- The test.
abbrev pub collects_between : Bool → List Action → Bool
collects_between pending [] = true
collects_between pending (action ∷ actions) =
    cond (is_retire_attempt action) (not pending && collects_between true actions)
    (cond (is_collect action) (collects_between false actions) (collects_between pending actions))

module _ (d : ℕ) where
  -- what holds of the later events, with one more before them
  later-collect : (e : Event) (es : List Event) (j : ℕ) → CollectBefore d es j → CollectBefore d (e ∷ es) (suc j)
  later-collect e es j c = record { index = suc c.index; before = omega (arith, c.before); here = c.here }

  later_between : (e : Event) (es : List Event) → CollectsBetweenRetires (effect_at es) d
      → ((j : ℕ) → is_retire_attempt (by_desk d (effect_at (e ∷ es) 0)) ≡ true → is_retire_attempt (by_desk d (effect_at es j)) ≡ true → CollectBefore d es j)
      → CollectsBetweenRetires (effect_at (e ∷ es)) d
  later_between e es between first zero zero l a b = absurd (omega arith)
  later_between e es between first (suc i) zero l a b = absurd (omega arith)
  later_between e es between first zero (suc j) l a b =
      let c = first j a b in record { index = suc c.index; after = omega arith; before = omega (arith, c.before); here = c.here }
  later_between e es between first (suc i) (suc j) l a b =
      let c = between i j (omega arith) a b in
      record { index = suc c.index; after = omega (arith, c.after); before = omega (arith, c.before); here = c.here }

  -- an empty history has no retire
  none_in_empty : is_retire_attempt (by_desk d (no_action by 0)) ≡ true → ⊥
  none_in_empty q = by_desk_lem (eqb 0 d) q
    where
      by_desk_lem : (b : Bool) → is_retire_attempt (cond b no_action no_action) ≡ true → ⊥
      by_desk_lem true q = true≢false (sym q)
      by_desk_lem false q = true≢false (sym q)

  spaced_by_test : (es : List Event) (f : Bool) → collects_between f (actions_by d es) ≡ true → Spaced d f es
  spaced_by_test [] f q = record {
    between = λ i j l a b. absurd (none_in_empty a);
    since = λ q j a. absurd (none_in_empty a);
  }
  spaced_by_test (e ∷ es) f q =
      by_cases (is_retire_attempt (by_desk d (effect_at (e ∷ es) 0))) (is_collect (by_desk d (effect_at (e ∷ es) 0))) refl refl f q (spaced_by_test es)
    where
      by_cases : (a c : Bool) → is_retire_attempt (by_desk d (effect_at (e ∷ es) 0)) ≡ a → is_collect (by_desk d (effect_at (e ∷ es) 0)) ≡ c → (f : Bool)
          → cond a (not f && collects_between true (actions_by d es)) (cond c (collects_between false (actions_by d es)) (collects_between f (actions_by d es))) ≡ true
          → ((f : Bool) → collects_between f (actions_by d es) ≡ true → Spaced d f es) → Spaced d f (e ∷ es)
      by_cases true c at ct true q ih = absurd (true≢false (cc))
      by_cases true c at ct false q ih =
          let s = ih true q in
          record {
            between = later_between e es s.between (λ j x y. s.since refl j y);
            since = λ z. absurd (true≢false (cc));
          }
      by_cases false true at ct f q ih =
          let s = ih false q in
          record { between = later_between e es s.between (λ j x y. absurd (true≢false (cc))); since = since }
        where
          since : f ≡ true → (j : ℕ) → is_retire_attempt (by_desk d (effect_at (e ∷ es) j)) ≡ true → CollectBefore d (e ∷ es) j
          since z zero x = absurd (true≢false (cc))
          since z (suc j) x = record { index = 0; before = omega arith; here = ct }
      by_cases false false at ct f q ih =
          let s = ih f q in
          record {
            between = later_between e es s.between (λ j x y. absurd (true≢false (cc)));
            since = since s.since;
          }
        where
          since : (f ≡ true → (j : ℕ) → is_retire_attempt (by_desk d (effect_at es j)) ≡ true → CollectBefore d es j) → f ≡ true → (j : ℕ)
              → is_retire_attempt (by_desk d (effect_at (e ∷ es) j)) ≡ true → CollectBefore d (e ∷ es) j
          since s z zero x = absurd (true≢false (cc))
          since s z (suc j) x = later-collect e es j (s z j x)

  pub collects_between_retires : (es : List Event) → collects_between false (actions_by d es) ≡ true → CollectsBetweenRetires (effect_at es) d
  collects_between_retires es q = (spaced_by_test es false q).between
