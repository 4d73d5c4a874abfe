-- The references to a session in a state: at positions, owed, and on lists. A swap that changes its position puts one, a hand-back takes one,
-- and no other call makes or loses one; so a session put only where there was none has none once it is handed back.
use Rattle.std.specs.Prelude.{ℕ, zero, suc, ◌+◌, ◌-◌, ◌≤◌, ◌<◌, ◌≡◌, refl, Bool, true, false, cond, List, [], ◌∷◌, length, get_or, take, set, eqb}
use Rattle.std.proofs.Common.{arith, sym, ap, ◌∙◌, true≢false, eqb-true}
use Rattle.std.proofs.Math.Decide.{ℕ_discrete}
use Rattle.rules.specs.Closing.{put_at, step_puts}
use Rattle.rules.specs.Hall.{Desk, Formed, Hall, Limits, State, all_screens, desk_of, empty_desk}
use Rattle.rules.specs.History.{Effect, ◌by◌, action_of, collects, effect_at, hands_back, is_hand_back_of, no_action, out_of_room, swaps}
use Rattle.rules.specs.Lists.{occurrences, to_nat}
use Rattle.rules.specs.Steps.{Call, Collect, Drop, Retire, Step, Swap, Take, ◌numbered◌, ◌sends◌, advance, change_position, collect, decide, end, first_no, is_repeat, owe}
use Rattle.rules.specs.Steps.{perform, questions, renumber, retire, run, step, with_next}
use Rattle.rules.proofs.Laws.Desk.Collect.{Orderly, collect_copies, copies_on, owed_collect, retire_copies}
use Rattle.rules.proofs.Laws.Desk.Sound.{Sound, sound_orderly}
use Rattle.rules.proofs.Laws.History.Actions.{same_action}
use Rattle.rules.proofs.Laws.History.DeskInvariants.{sound-step}
use Rattle.rules.proofs.Laws.History.StepEffects.{desk_asked, formed_step, retire-asked, swap_asked}
use Rattle.rules.proofs.Laws.Lists.Lists.{indicator, indicator_at_most_one, indicator_other, indicator_same, one_if_le}

-- those of a desk, of all desks and of a state
abbrev pub desk_references : ℕ → Desk → ℕ
desk_references s D = indicator s D.owed + copies_on s D

abbrev pub desks_references : ℕ → List Desk → ℕ
desks_references s [] = 0
desks_references s (D ∷ Ds) = desk_references s D + desks_references s Ds

abbrev pub references : ℕ → State → ℕ
references s st = occurrences s st.held + desks_references s st.desks

module _ (s : ℕ) (hs : s ≡ 0 → ⊥) where
  -- ---- One element of a list, and all of them; and a store.
  pub occurs_at : (xs : List ℕ) (i : ℕ) → indicator s (get_or xs i 0) ≤ occurrences s xs
  occurs_at [] i = omega (arith, indicator_other s 0 hs)
  occurs_at (x ∷ xs) zero = omega arith
  occurs_at (x ∷ xs) (suc i) = omega (arith, occurs_at xs i)

  pub references_at : (Ds : List Desk) (i : ℕ) → desk_references s (get_or Ds i empty_desk) ≤ desks_references s Ds
  references_at [] i = omega (arith, indicator_other s 0 hs)
  references_at (D ∷ Ds) zero = omega arith
  references_at (D ∷ Ds) (suc i) = omega (arith, references_at Ds i)

  pub occurs_nowhere : (xs : List ℕ) → ((i : ℕ) → i < length xs → indicator s (get_or xs i 0) ≡ 0) → occurrences s xs ≡ 0
  occurs_nowhere [] none = refl
  occurs_nowhere (x ∷ xs) none = omega (arith, none 0 (omega arith), occurs_nowhere xs (λ i h. none (suc i) (omega arith)))

  pub no_references : (Ds : List Desk) → ((i : ℕ) → i < length Ds → desk_references s (get_or Ds i empty_desk) ≡ 0) → desks_references s Ds ≡ 0
  no_references [] none = refl
  no_references (D ∷ Ds) none = omega (arith, none 0 (omega arith), no_references Ds (λ i h. none (suc i) (omega arith)))

  occurs_set : (xs : List ℕ) (i v : ℕ) → i < length xs → occurrences s (set xs i v) + indicator s (get_or xs i 0) ≡ occurrences s xs + indicator s v
  occurs_set [] i v h = absurd (omega arith)
  occurs_set (x ∷ xs) zero v h = omega arith
  occurs_set (x ∷ xs) (suc i) v h = omega (arith, occurs_set xs i v (omega arith))

  references-set : (Ds : List Desk) (i : ℕ) (E : Desk) → i < length Ds
      → desks_references s (set Ds i E) + desk_references s (get_or Ds i empty_desk) ≡ desks_references s Ds + desk_references s E
  references-set [] i E h = absurd (omega arith)
  references-set (D ∷ Ds) zero E h = omega arith
  references-set (D ∷ Ds) (suc i) E h = omega (arith, references-set Ds i E (omega arith))

  references_renumbered : (n : ℕ) (Ds : List Desk) (i : ℕ) → desks_references s (set Ds i (renumber (get_or Ds i empty_desk) n)) ≡ desks_references s Ds
  references_renumbered n [] i = refl
  references_renumbered n (D ∷ Ds) zero = refl
  references_renumbered n (D ∷ Ds) (suc i) = ap (λ (m : ℕ). desk_references s D + m) (references_renumbered n Ds i)

  -- ---- One call.
  module _ (limits : Limits) (H : Hall) (some : 1 ≤ all_screens H) where
    hand_back-counted : (v : ℕ) (b : Bool) → eqb v 0 ≡ b → to_nat (is_hand_back_of s (cond b collects (hands_back v))) ≡ indicator s v
    hand_back-counted v true q = sym (ap (indicator s) (eqb-true v 0 q) ∙ indicator_other s 0 hs)
    hand_back-counted v false q = refl

    refused_retire_counted : (b : Bool) → to_nat (is_hand_back_of s (cond b out_of_room no_action)) ≡ 0
    refused_retire_counted true = refl
    refused_retire_counted false = refl

    -- what was there and what was put is what is there and what was handed back
    references_balance : (st : State) → Formed H st → ((d : ℕ) → 1 ≤ d → Orderly (all_screens H) (desk_of st d)) → (n m d : ℕ) (w : Step) → first_no (questions limits H st (d sends w numbered m)) ≡ n
        → let outcome = perform H st (d sends w numbered m) in
        let r = decide n st outcome.session outcome.after in
        references s r.after + to_nat (is_hand_back_of s (action_of w r.answer.number r.answer.session)) ≡ references s st + indicator s (step_puts w r.answer.number r.answer.session)
    references_balance st formed ok zero m d (Take c p) e = omega (arith, indicator_other s 0 hs, references_renumbered (advance (desk_of st d).next) st.desks (d - 1))
    references_balance st formed ok zero m d (Drop c) e = omega (arith, indicator_other s 0 hs, references_renumbered (advance (desk_of st d).next) st.desks (d - 1))
    references_balance st formed ok zero m d (Swap p v) e = by_repeat (is_repeat (get_or st.held (p - 1) 0) v)
      where
        by_repeat : (b : Bool)
            → references s (with_next (cond b st (change_position st d p v)) d (advance (desk_of st d).next)) + to_nat (is_hand_back_of s (cond b no_action (swaps p))) ≡ references s st + indicator s (cond b 0 v)
        by_repeat true = omega (arith, indicator_other s 0 hs, references_renumbered (advance (desk_of st d).next) st.desks (d - 1))
        by_repeat false =
            let t = swap_asked limits H st m d p v e in
            omega (
              arith,
              occurs_set st.held (p - 1) v (omega (arith, formed.positions)),
              references-set st.desks (d - 1) (owe (desk_of st d) (get_or st.held (p - 1) 0)) (omega (arith, formed.desks)),
              references_renumbered (advance (desk_of st d).next) (change_position st d p v).desks (d - 1),
              ap (indicator s) t.owes_nothing,
              indicator_other s 0 hs,
            )
    references_balance st formed ok zero m d Retire e =
        let t = retire-asked limits H st m d e in
        omega (
          arith,
          references-set st.desks (d - 1) (retire (desk_of st d)) (omega (arith, formed.desks)),
          references_renumbered (advance (desk_of st d).next) (set st.desks (d - 1) (retire (desk_of st d))) (d - 1),
          retire_copies s (desk_of st d).owed (desk_of st d) refl,
          indicator_other s 0 hs,
        )
    references_balance st formed ok zero m d Collect e =
        let r = desk_asked limits H st (d sends Collect numbered m) e in
        let after = (collect (all_screens H) st.shown (desk_of st d)).after in
        let session = (collect (all_screens H) st.shown (desk_of st d)).session in
        omega (
          arith,
          references-set st.desks (d - 1) after (omega (arith, formed.desks)),
          references_renumbered (advance (desk_of st d).next) (set st.desks (d - 1) after) (d - 1),
          collect_copies s (all_screens H) st.shown (desk_of st d) some formed.screens (ok d r.0) hs,
          ap (indicator s) (owed_collect (all_screens H) st.shown (desk_of st d)),
          hand_back-counted session (eqb session 0) refl,
          indicator_other s 0 hs,
        )
    references_balance st formed ok (suc n) m d (Take c p) e = omega (arith, indicator_other s 0 hs)
    references_balance st formed ok (suc n) m d (Drop c) e = omega (arith, indicator_other s 0 hs)
    references_balance st formed ok (suc n) m d (Swap p v) e = omega (arith, indicator_other s 0 hs)
    references_balance st formed ok (suc n) m d Retire e = omega (arith, refused_retire_counted (eqb (suc n) 14), indicator_other s 0 hs)
    references_balance st formed ok (suc n) m d Collect e = omega (arith, indicator_other s 0 hs)

    -- no call both puts a session and hands one back
    put_or_back : (w : Step) (n v : ℕ) → to_nat (is_hand_back_of s (action_of w n v)) + indicator s (step_puts w n v) ≤ 1
    put_or_back (Take c p) zero v = omega (arith, indicator_other s 0 hs)
    put_or_back (Take c p) (suc n) v = omega (arith, indicator_other s 0 hs)
    put_or_back (Drop c) zero v = omega (arith, indicator_other s 0 hs)
    put_or_back (Drop c) (suc n) v = omega (arith, indicator_other s 0 hs)
    put_or_back (Swap p u) zero v = by_repeat (is_repeat v u)
      where
        by_repeat : (b : Bool) → to_nat (is_hand_back_of s (cond b no_action (swaps p))) + indicator s (cond b 0 u) ≤ 1
        by_repeat true = omega (arith, indicator_other s 0 hs)
        by_repeat false = omega (arith, indicator_at_most_one s u)
    put_or_back (Swap p u) (suc n) v = omega (arith, indicator_other s 0 hs)
    put_or_back Retire n v = omega (arith, indicator_other s 0 hs, one_if_le (is_hand_back_of s (action_of Retire n v)))
    put_or_back Collect n v = omega (arith, indicator_other s 0 hs, one_if_le (is_hand_back_of s (action_of Collect n v)))

    -- ---- A list of calls: s has at most one reference, and each swap that puts it before index h finds none.
    pub none_after_hand_back : (cs : List Call) (st : State) → Formed H st → ((d : ℕ) → 1 ≤ d → Sound (all_screens H) (desk_of st d)) → references s st ≤ 1
        → (h d : ℕ) → effect_at (run (step limits H) st cs) h ≡ hands_back s by d
        → ((i : ℕ) → i < h → put_at (run (step limits H) st cs) i ≡ s → references s (end (step limits H) st (take i cs)) ≡ 0)
        → references s (end (step limits H) st (take (suc h) cs)) ≡ 0
    none_after_hand_back [] st formed ok single h d back fresh = absurd (let differ = same_action refl back in true≢false (cc))
    none_after_hand_back (c ∷ cs) st formed ok single zero d back fresh =
        omega (
          arith,
          references_balance st formed (λ e he. sound_orderly (all_screens H) (desk_of st e) (ok e he)) (first_no (questions limits H st c)) c.message c.desk c.step refl,
          put_or_back c.step (step limits H st c).answer.number (step limits H st c).answer.session,
          ap (λ (e : Effect). to_nat (is_hand_back_of s e.action)) back,
          indicator_same s,
        )
    none_after_hand_back (c ∷ cs) st formed ok single (suc h) d back fresh =
        none_after_hand_back cs (step limits H st c).after (formed_step limits H st formed c) (λ e he. sound-step limits H e some he st c formed (ok e he)) after_at_most_one h d back
        (λ i l q. fresh (suc i) (omega arith) q)
      where
        after_at_most_one : references s (step limits H st c).after ≤ 1
        after_at_most_one = by_put (ℕ_discrete (put_at (run (step limits H) st (c ∷ cs)) 0) s)
          where
            after_bounded : references s (step limits H st c).after ≤ references s st + indicator s (put_at (run (step limits H) st (c ∷ cs)) 0)
            after_bounded =
                omega
                (arith, references_balance st formed (λ e he. sound_orderly (all_screens H) (desk_of st e) (ok e he)) (first_no (questions limits H st c)) c.message c.desk c.step refl)

            by_put : Dec (put_at (run (step limits H) st (c ∷ cs)) 0 ≡ s) → references s (step limits H st c).after ≤ 1
            by_put (yes t) = omega (arith, after_bounded, fresh 0 (omega arith) t, indicator_at_most_one s (put_at (run (step limits H) st (c ∷ cs)) 0))
            by_put (no t) = omega (arith, after_bounded, indicator_other s (put_at (run (step limits H) st (c ∷ cs)) 0) (λ u. t (sym u)))
