-- Demands 2 and 3 of every list of calls on a table from an accepted opening on.
use Rattle.std.specs.Prelude.{ℕ, ◌+◌, ◌-◌, ◌≤◌, zero, suc, ◌*◌, ◌≡◌, refl, cond, Bool, true, false, List, [], ◌++◌, length, take, drop, replicate}
use Rattle.std.proofs.Common.{arith, sym, ap, ◌∙◌, subst, take_at}
use Rattle.std.proofs.Math.Decide.{ℕ_discrete}
use Rattle.rules.specs.Demands.{Demand2, Demand3, HandedBackWithin, counts_of_desk, list_of_desk, sharper_bound}
use Rattle.rules.specs.Hall.{Desk, Hall, Limits, all_screens, desk_of, fresh, used_slots}
use Rattle.rules.specs.History.{hand_backs, hand_backs_of, is_hand_back, is_hand_back_of, is_retirement, is_retirement_of, retirements, retirements_of}
use Rattle.rules.specs.Lists.{occurrences}
use Rattle.rules.specs.Steps.{Call, Event, decide, end, first_no, in_range, run, step}
use Rattle.rules.specs.Table.{encode, encode_desk, in_limits, list_of, need, open_questions, open_table, opened_table, record_of, slots_in, step_table, used_in}
use Rattle.rules.proofs.Laws.Desk.Collect.{copies_on}
use Rattle.rules.proofs.Laws.Desk.Encoding.{length_list, slots_read_back}
use Rattle.rules.proofs.Laws.Desk.Sound.{occurrences_list}
use Rattle.rules.proofs.Laws.History.Demand3.{back_in_time, list_bound, never_out_of_room, on_list, three_is_enough}
use Rattle.rules.proofs.Laws.History.DeskInvariants.{copies_run, sound_run}
use Rattle.rules.proofs.Laws.History.InitialState.{fresh_copies, fresh_formed, fresh-sound}
use Rattle.rules.proofs.Laws.History.RunSplitting.{no_session_zero, outsider_counts, run_take}
use Rattle.rules.proofs.Laws.History.StepEffects.{in_range_lem, out_of_range}
use Rattle.rules.proofs.Laws.Pairing.Guarantee.{guaranteed}
use Rattle.rules.proofs.Laws.Pairing.LinkedSession.{same_session}
use Rattle.rules.proofs.Laws.Table.EncodedStep.{Fits, Valid, desk_record, fresh_valid, limits_fit, opened_is_fresh, some_screens, table_end, table_run}
use Rattle.rules.proofs.Laws.Table.EncodedStep.{valid_end}

-- ---- What an accepted opening says of its hall.
pub opening_asks : (limits : Limits) (H : Hall) (t : List ℕ) → (open_table limits H t).answer.number ≡ 0
    → (first_no (open_questions limits H t) ≡ 0) × ((open_table limits H t).after ≡ opened_table H t)
unfolding open_table
opening_asks limits H t ok = by_number_lem (first_no (open_questions limits H t)) refl ok
  where
    by_number_lem : (n : ℕ) → first_no (open_questions limits H t) ≡ n → (decide n t 0 (opened_table H t)).answer.number ≡ 0
        → (first_no (open_questions limits H t) ≡ 0) × ((decide n t 0 (opened_table H t)).after ≡ opened_table H t)
    by_number_lem zero e z = (e, refl)
    by_number_lem (suc n) e z = absurd (omega arith)

-- ---- A desk's list and counts, as they stand in its record.
pub counts_encoded : (S : ℕ) (D : Desk) → used_in (encode_desk S D) ≡ used_slots D
unfolding encode_desk
counts_encoded S D = refl

list_encoded : (S : ℕ) (D : Desk) → used_slots D ≤ 2 * S → take (used_in (encode_desk S D)) (slots_in S (encode_desk S D)) ≡ list_of D
list_encoded S D room =
    (λ i. take (counts_encoded S D i) (slots_read_back S D room i)) ∙ take_at (list_of D) (replicate (2 * S - length (list_of D)) 0) (used_slots D) (length_list D)

module _ (limits : Limits) (H : Hall) (inside : in_limits limits H ≡ true) (t : List ℕ) (cs : List Call) where
  abbrev pub fits : Fits H
  fits = limits_fit limits H inside

  pub some : 1 ≤ all_screens H
  some = some_screens H fits

  pub run_is : run (step_table limits) (opened_table H t) cs ≡ run (step limits H) (fresh H) cs
  run_is = rw (opened_is_fresh H fits t) (table_run limits H inside cs (fresh H) (fresh_valid H fits) (drop (need H) t))

  pub end_is : (i : ℕ) → end (step_table limits) (opened_table H t) (take i cs) ≡ encode H (end (step limits H) (fresh H) (take i cs)) ++ drop (need H) t
  end_is i = rw (opened_is_fresh H fits t) (table_end limits H inside (take i cs) (fresh H) (fresh_valid H fits) (drop (need H) t))

  pub valid : (i : ℕ) → Valid H (end (step limits H) (fresh H) (take i cs))
  valid i = valid_end H fits limits (take i cs) (fresh H) (fresh_valid H fits)

  -- the record of desk d after the first i calls
  pub record_after : (i d : ℕ) → (1 ≤ d) × (d ≤ H.desks)
      → record_of H (end (step_table limits) (opened_table H t) (take i cs)) d ≡ encode_desk (all_screens H) (desk_of (end (step limits H) (fresh H) (take i cs)) d)
  record_after i d r =
      ap (λ (l : List ℕ). record_of H l d) (end_is i) ∙ desk_record H fits (end (step limits H) (fresh H) (take i cs)) (valid i) (drop (need H) t) d r

  counts-after : (d i : ℕ)
      → retirements d (take i (run (step limits H) (fresh H) cs)) ≡ hand_backs d (take i (run (step limits H) (fresh H) cs)) + counts_of_desk H (end (step_table limits) (opened_table H t) (take i cs)) d
  counts-after d i = rw (run_take (step limits H) i cs (fresh H)) (by_cases (in_range d H.desks) refl)
    where
      by_cases : (b : Bool) → in_range d H.desks ≡ b
          → retirements d (run (step limits H) (fresh H) (take i cs)) ≡ hand_backs d (run (step limits H) (fresh H) (take i cs)) + cond b (used_in (record_of H (end (step_table limits) (opened_table H t) (take i cs)) d)) 0
      by_cases true q =
          let r = in_range_lem d H.desks q in
          on_list limits H some (take i cs) d r.0
          ∙ ap (λ (n : ℕ). hand_backs d (run (step limits H) (fresh H) (take i cs)) + n)
          (sym (ap used_in (record_after i d r) ∙ counts_encoded (all_screens H) (desk_of (end (step limits H) (fresh H) (take i cs)) d)))
      by_cases false q =
          omega
          (arith, outsider_counts limits H d (out_of_range d H.desks q) is_retirement refl (take i cs) (fresh H), outsider_counts limits H d (out_of_range d H.desks q) is_hand_back refl (take i cs) (fresh H))

  list_after : (d i : ℕ) → retirements d (take i (run (step limits H) (fresh H) cs)) ≤ hand_backs d (take i (run (step limits H) (fresh H) cs)) + 2 * all_screens H
  list_after d i = rw (run_take (step limits H) i cs (fresh H)) (by_cases (in_range d H.desks) refl)
    where
      by_cases : (b : Bool) → in_range d H.desks ≡ b
          → retirements d (run (step limits H) (fresh H) (take i cs)) ≤ hand_backs d (run (step limits H) (fresh H) (take i cs)) + 2 * all_screens H
      by_cases true q = list_bound limits H some (take i cs) d (in_range_lem d H.desks q).0
      by_cases false q = omega (arith, outsider_counts limits H d (out_of_range d H.desks q) is_retirement refl (take i cs) (fresh H))

  -- the copies of s on its list
  pub list_copies : (s i d : ℕ) → (1 ≤ d) × (d ≤ H.desks)
      → occurrences s (let words = record_of H (end (step_table limits) (opened_table H t) (take i cs)) d in take (used_in words) (slots_in (all_screens H) words)) ≡ copies_on s (desk_of (end (step limits H) (fresh H) (take i cs)) d)
  list_copies s i d r =
      ap (λ (words : List ℕ). occurrences s (take (used_in words) (slots_in (all_screens H) words))) (record_after i d r)
      ∙ ap (occurrences s)
      (list_encoded (all_screens H) (desk_of (end (step limits H) (fresh H) (take i cs)) d)
      (sound_run limits H d some r.0 (take i cs) (fresh H) (fresh_formed H) (fresh-sound H d)).total)
      ∙ occurrences_list s (desk_of (end (step limits H) (fresh H) (take i cs)) d)

  copies_after : (d s i : ℕ)
      → retirements_of d s (take i (run (step limits H) (fresh H) cs)) ≡ hand_backs_of d s (take i (run (step limits H) (fresh H) cs)) + occurrences s (list_of_desk H (end (step_table limits) (opened_table H t) (take i cs)) d)
  copies_after d s i = rw (run_take (step limits H) i cs (fresh H)) (by_cases (in_range d H.desks) refl (ℕ_discrete s 0))
    where
      by_cases : (b : Bool) → in_range d H.desks ≡ b → Dec (s ≡ 0)
          → retirements_of d s (run (step limits H) (fresh H) (take i cs)) ≡ hand_backs_of d s (run (step limits H) (fresh H) (take i cs)) + occurrences s (cond b (let words = record_of H (end (step_table limits) (opened_table H t) (take i cs)) d in take (used_in words) (slots_in (all_screens H) words)) [])
      by_cases true q (yes z) =
          let r = in_range_lem d H.desks q in
          let real = (sound_run limits H d some r.0 (take i cs) (fresh H) (fresh_formed H) (fresh-sound H d)).real in
          let none = no_session_zero limits H (take i cs) (fresh H) d in
          let l = list_copies s i d r in
          rw z (omega (arith, none.0, none.1, rw z at l, real))
      by_cases true q (no z) =
          let r = in_range_lem d H.desks q in
          let c = copies_run limits H d some r.0 s z (take i cs) (fresh H) (fresh_formed H) (fresh-sound H d) in
          omega (arith, list_copies s i d r, fresh_copies H d s)
      by_cases false q z =
          omega
          (arith, outsider_counts limits H d (out_of_range d H.desks q) (is_retirement_of s) refl (take i cs) (fresh H), outsider_counts limits H d (out_of_range d H.desks q) (is_hand_back_of s) refl (take i cs) (fresh H))

  pub demand2_opened : Demand2 H (run (step_table limits) (opened_table H t) cs) (λ i. end (step_table limits) (opened_table H t) (take i cs))
  demand2_opened =
      subst (λ (history : List Event). Demand2 H history (λ i. end (step_table limits) (opened_table H t) (take i cs))) (sym run_is)
      (record { guarantee = guaranteed limits H some cs; sessions = same_session limits H cs (fresh H) (fresh_formed H); counts = copies_after })

  pub demand3_opened : Demand3 H (run (step_table limits) (opened_table H t) cs) (λ i. end (step_table limits) (opened_table H t) (take i cs))
  demand3_opened =
      subst (λ (history : List Event). Demand3 H history (λ i. end (step_table limits) (opened_table H t) (take i cs))) (sym run_is)
      (record { room = never_out_of_room limits H some cs; list = list_after; counts = counts-after; back = back_in_time limits H some cs (3 * all_screens H) (three_is_enough (all_screens H) some) })

  pub back-opened : HandedBackWithin (sharper_bound (all_screens H)) (run (step_table limits) (opened_table H t) cs)
  back-opened = subst (HandedBackWithin (sharper_bound (all_screens H))) (sym run_is) (back_in_time limits H some cs (sharper_bound (all_screens H)) (omega arith))
