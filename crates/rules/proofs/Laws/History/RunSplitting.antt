-- Lists of calls: cut in two, read from an index on, past their end, and what no call of a list does.
use Rattle.std.specs.Prelude.{ℕ, ◌+◌, ◌<◌, zero, suc, ◌≡◌, refl, Bool, false, List, [], ◌∷◌, length, take, drop}
use Rattle.std.proofs.Common.{arith, sym, ap, ◌∙◌, subst, ne_eqb}
use Rattle.std.proofs.Math.Decide.{ℕ_discrete}
use Rattle.std.proofs.Math.Seq.{take-nil}
use Rattle.rules.specs.Hall.{Hall, Limits, State}
use Rattle.rules.specs.History.{Action, Effect, actions_by, by_desk, collects, drops, effect_at, hand_backs_of, hands_back, is_hand_back_of, is_retirement_of}
use Rattle.rules.specs.History.{no_action, out_of_room, retirements_of, retires, swaps, takes}
use Rattle.rules.specs.Lists.{count, to_nat}
use Rattle.rules.specs.Steps.{Call, Event, Result, end, run, step}
use Rattle.rules.proofs.Laws.History.Actions.{Own, another's, its_own, own_cases}
use Rattle.rules.proofs.Laws.History.StepEffects.{InHall, IsDesk, Range, range-step}

-- ---- Runs of any step, on states, words or bytes.
module _ {T : Type 0} (does : T → Call → Result T) where
  -- the history of the first calls
  pub run_take : (i : ℕ) (cs : List Call) (before : T) → take i (run does before cs) ≡ run does before (take i cs)
  run_take zero cs before = refl
  run_take (suc i) [] before = refl
  run_take (suc i) (c ∷ cs) before =
      ap {B = List Event} (λ r. record { call = c; answer = (does before c).answer } ∷ r) (run_take i cs (does before c).after)

  -- a count in the first n + k calls, cut at n
  pub count_split : (test : Action → Bool) (d n k : ℕ) (cs : List Call) (before : T)
      → count test (actions_by d (run does before (take (n + k) cs)))
      ≡ count test (actions_by d (run does before (take n cs))) + count test (actions_by d (run does (end does before (take n cs)) (take k (drop n cs))))
  count_split test d zero k cs before =
      let e : 0 + k ≡ k = omega arith in ap (λ (m : ℕ). count test (actions_by d (run does before (take m cs)))) e ∙ omega arith
  count_split test d (suc n) k [] before = simp take-nil
  count_split test d (suc n) k (c ∷ cs) before =
      let e : suc n + k ≡ suc (n + k) = omega arith in
      ap (λ (m : ℕ). count test (actions_by d (run does before (take m (c ∷ cs))))) e ∙ omega (arith, count_split test d n k cs (does before c).after)

-- ---- A function from indices that gives, from index n on, the effects of a history.
pub record Gives (f : ℕ → Effect) (n : ℕ) (history : List Event) : Type 0 where
  pub at : (i : ℕ) → f (n + i) ≡ effect_at history i

pub gives_first : {f : ℕ → Effect} {n : ℕ} {history : List Event} → Gives f n history → f n ≡ effect_at history 0
gives_first {f} {n} t = let e : n ≡ n + 0 = omega arith in ap f e ∙ t.at 0

pub gives_rest : {f : ℕ → Effect} {n : ℕ} {event : Event} {history : List Event} → Gives f n (event ∷ history) → Gives f (suc n) history
gives_rest {f} {n} t = record { at = λ i. (let e : suc n + i ≡ n + suc i = omega arith in ap f e ∙ t.at (suc i)) }

pub gives_itself : (history : List Event) → Gives (effect_at history) 0 history
gives_itself history = record { at = λ i. (let e : 0 + i ≡ i = omega arith in ap (effect_at history) e) }

module _ {T : Type 0} (does : T → Call → Result T) where
  -- the effects after the first n
  pub gives_from : (n : ℕ) (cs : List Call) (before : T) → Gives (effect_at (run does before cs)) n (run does (end does before (take n cs)) (drop n cs))
  gives_from n cs before = record { at = at n cs before }
    where
      at : (n : ℕ) (cs : List Call) (before : T) (i : ℕ)
          → effect_at (run does before cs) (n + i) ≡ effect_at (run does (end does before (take n cs)) (drop n cs)) i
      at zero cs before i = (gives_itself (run does before cs)).at i
      at (suc n) [] before i = refl
      at (suc n) (c ∷ cs) before i =
          let e : suc n + i ≡ suc (n + i) = omega arith in ap (effect_at (run does before (c ∷ cs))) e ∙ at n cs (does before c).after i

  -- past the end there is no action
  pub effect_within : (cs : List Call) (before : T) (index : ℕ) → ((effect_at (run does before cs) index).action ≡ no_action → ⊥) → index < length cs
  effect_within [] before index some = absurd (some refl)
  effect_within (c ∷ cs) before zero some = omega arith
  effect_within (c ∷ cs) before (suc index) some = omega (arith, effect_within cs (does before c).after index some)

-- what holds between indices i and n, and at n, holds between i and n + 1
pub one_index_more : (Q : ℕ → Type 0) (i n : ℕ) → Q n → ((m : ℕ) → i < m → m < n → Q m) → (m : ℕ) → i < m → m < suc n → Q m
one_index_more Q i n here earlier m a b = by_index (ℕ_discrete m n)
  where
    by_index : Dec (m ≡ n) → Q m
    by_index (yes t) = subst Q (sym t) here
    by_index (no t) = earlier m a (omega arith)

-- every effect of a run is in the hall
pub range_run : (limits : Limits) (H : Hall) (cs : List Call) (st : State) (m : ℕ) → InHall H (effect_at (run (step limits H) st cs) m)
range_run limits H [] st m = tt
range_run limits H (c ∷ cs) st zero = range-step limits H st c
range_run limits H (c ∷ cs) st (suc m) = range_run limits H cs (step limits H st c).after m

-- so what no such effect is has the count 0
none_counted : (limits : Limits) (H : Hall) (d : ℕ) (test : Action → Bool) → ((e : Effect) → InHall H e → test (by_desk d e) ≡ false) → (cs : List Call) (st : State)
    → count test (actions_by d (run (step limits H) st cs)) ≡ 0
none_counted limits H d test fails [] st = refl
none_counted limits H d test fails (c ∷ cs) st =
    omega (
      arith,
      ap to_nat (fails (effect_at (run (step limits H) st (c ∷ cs)) 0) (range-step limits H st c)),
      none_counted limits H d test fails cs (step limits H st c).after,
    )

-- A desk that the hall does not have does nothing.
module _ (limits : Limits) (H : Hall) (d : ℕ) (outside : IsDesk H d → ⊥) where
  no_action_lem : (a : Action) → Range H d a → a ≡ no_action
  no_action_lem (takes c p v) r = absurd (outside r.0)
  no_action_lem (drops c) r = absurd (outside r.0)
  no_action_lem (swaps p) r = absurd (outside r)
  no_action_lem (retires v) r = absurd (outside r.0)
  no_action_lem out_of_room r = absurd (outside r)
  no_action_lem collects r = absurd (outside r)
  no_action_lem (hands_back v) r = absurd (outside r.0)
  no_action_lem no_action r = refl

  outsider : (e : Effect) → InHall H e → by_desk d e ≡ no_action
  outsider e r = by_desk_lem (own_cases d e)
    where
      by_desk_lem : Own d e → by_desk d e ≡ no_action
      by_desk_lem (another's none) = none
      by_desk_lem (its_own same own) = own ∙ no_action_lem e.action (subst (λ (n : ℕ). Range H n e.action) same r)

  pub outsider_counts : (test : Action → Bool) → test no_action ≡ false → (cs : List Call) (st : State)
      → count test (actions_by d (run (step limits H) st cs)) ≡ 0
  outsider_counts test none = none_counted limits H d test (λ e r. ap test (outsider e r) ∙ none)

-- Session 0 is neither retired nor handed back.
range_not_zero : (H : Hall) (d : ℕ) (e : Effect) → InHall H e → (is_retirement_of 0 (by_desk d e) ≡ false) × (is_hand_back_of 0 (by_desk d e) ≡ false)
range_not_zero H d e r = by_desk_lem (own_cases d e)
  where
    not_zero : (a : Action) → Range H e.desk a → (is_retirement_of 0 a ≡ false) × (is_hand_back_of 0 a ≡ false)
    not_zero (takes c p v) r = (refl, refl)
    not_zero (drops c) r = (refl, refl)
    not_zero (swaps p) r = (refl, refl)
    not_zero (retires v) r = (ne_eqb 0 v (λ z. r.1 (sym z)), refl)
    not_zero out_of_room r = (refl, refl)
    not_zero collects r = (refl, refl)
    not_zero (hands_back v) r = (refl, ne_eqb 0 v (λ z. r.1 (sym z)))
    not_zero no_action r = (refl, refl)

    by_desk_lem : Own d e → (is_retirement_of 0 (by_desk d e) ≡ false) × (is_hand_back_of 0 (by_desk d e) ≡ false)
    by_desk_lem (another's none) = (ap (is_retirement_of 0) none, ap (is_hand_back_of 0) none)
    by_desk_lem (its_own same own) = (ap (is_retirement_of 0) own ∙ (not_zero e.action r).0, ap (is_hand_back_of 0) own ∙ (not_zero e.action r).1)

pub no_session_zero : (limits : Limits) (H : Hall) (cs : List Call) (st : State) (d : ℕ)
    → (retirements_of d 0 (run (step limits H) st cs) ≡ 0) × (hand_backs_of d 0 (run (step limits H) st cs) ≡ 0)
no_session_zero limits H cs st d = (
  none_counted limits H d (is_retirement_of 0) (λ e r. (range_not_zero H d e r).0) cs st,
  none_counted limits H d (is_hand_back_of 0) (λ e r. (range_not_zero H d e r).1) cs st,
)
