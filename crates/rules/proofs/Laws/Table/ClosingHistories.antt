-- The closing rule of every list of calls on a table from an accepted opening on: the words of a table say which references its state has.
use Rattle.std.specs.Prelude.{ℕ, suc, ◌-◌, ◌≤◌, ◌<◌, ◌≡◌, Bool, cond, true, length, take, drop}
use Rattle.std.proofs.Common.{arith, sym, ◌∙◌, subst}
use Rattle.std.proofs.Math.Path.{ap}
use mathlib.Core.List.{List, []}
use Rattle.std.proofs.Math.ListN.{get_or}
use Rattle.rules.specs.Closing.{ClosingRule, HandBackCloses, Unreferenced}
use Rattle.rules.specs.Demands.{list_of_desk}
use Rattle.rules.specs.Hall.{Formed, Hall, Limits, State, all_screens, desk_of, empty_desk, fresh, screen_index}
use Rattle.rules.specs.Lists.{occurrences}
use Rattle.rules.specs.Steps.{Call, Event, end, run, step}
use Rattle.rules.specs.Table.{encode_desk, in_limits, need, opened_table, owed_offset, position_word, record_of, screen_word, slots_in, step_table, used_in}
use Rattle.rules.proofs.Laws.Desk.Collect.{copies_on}
use Rattle.rules.proofs.Laws.History.References.{desk_references, no_references, occurs_at, occurs_nowhere, references, references_at}
use Rattle.rules.proofs.Laws.History.RunSplitting.{range_run}
use Rattle.rules.proofs.Laws.History.ScreenIndex.{screen_in}
use Rattle.rules.proofs.Laws.History.StepEffects.{InHall, IsDesk, IsScreen, range_holds}
use Rattle.rules.proofs.Laws.Lists.Lists.{indicator, indicator_other, indicator_same}
use Rattle.rules.proofs.Laws.Pairing.Closing.{handed_back_unreferenced, unreferenced_unshown}
use Rattle.rules.proofs.Laws.Table.EncodedStep.{position_word_is, screen_word_is}
use Rattle.rules.proofs.Laws.Table.TableHistories.{end_is, fits, list_copies, record_after, run_is, some, valid}

module _ (limits : Limits) (H : Hall) (inside : in_limits limits H ≡ true) (t : List ℕ) (cs : List Call) where
  -- the table and the state after the first i calls
  abbrev tables : ℕ → List ℕ
  tables i = end (step_table limits) (opened_table H t) (take i cs)

  abbrev states : ℕ → State
  states i = end (step limits H) (fresh H) (take i cs)

  formed : (i : ℕ) → Formed H (states i)
  formed i = (valid limits H inside t cs i).formed

  -- ---- What its words are.
  position_after : (i p : ℕ) → 1 ≤ p → p ≤ H.positions → get_or (tables i) (position_word p) 0 ≡ get_or (states i).held (p - 1) 0
  position_after i p l m =
      ap (λ (x : List ℕ). get_or x (position_word p) 0) (end_is limits H inside t cs i)
      ∙ position_word_is H (fits limits H inside t cs) (states i) (valid limits H inside t cs i) (drop (need H) t) p l m

  screen_after : (i d c : ℕ) → IsDesk H d → IsScreen H c → get_or (tables i) (screen_word H d c) 0 ≡ get_or (states i).shown (screen_index H d c) 0
  screen_after i d c r k =
      ap (λ (x : List ℕ). get_or x (screen_word H d c) 0) (end_is limits H inside t cs i)
      ∙ screen_word_is H (fits limits H inside t cs) (states i) (valid limits H inside t cs i) (drop (need H) t) d c r k

  owed_after : (i d : ℕ) → IsDesk H d → get_or (record_of H (tables i) d) owed_offset 0 ≡ (desk_of (states i) d).owed
  unfolding encode_desk
  owed_after i d r = ap (λ (words : List ℕ). get_or words owed_offset 0) (record_after limits H inside t cs i d r)

  list_after : (s i d : ℕ) → IsDesk H d → occurrences s (list_of_desk H (tables i) d) ≡ copies_on s (desk_of (states i) d)
  list_after s i d r =
      ap (λ (b : Bool). occurrences s (cond b (let words = record_of H (tables i) d in take (used_in words) (slots_in (all_screens H) words)) []))
      (range_holds d H.desks r)
      ∙ list_copies limits H inside t cs s i d r

  -- ---- Unreferenced in the table, and no reference in the state.
  module _ (s : ℕ) (hs : s ≡ 0 → ⊥) (i : ℕ) where
    unreferenced_no_references : Unreferenced H (tables i) s → references s (states i) ≡ 0
    unreferenced_no_references u = omega (arith, occurs_nowhere s hs (states i).held held, no_references s hs (states i).desks desks)
      where
        held : (k : ℕ) → k < length (states i).held → indicator s (get_or (states i).held k 0) ≡ 0
        held k h =
            let before : suc k - 1 ≡ k = omega arith in
            let inside : suc k ≤ H.positions = omega (arith, (formed i).positions) in
            indicator_other s (get_or (states i).held k 0)
            (λ q. u.positions (suc k) (omega arith) (omega arith) (position_after i (suc k) (omega arith) inside ∙ ap (λ (m : ℕ). get_or (states i).held m 0) before ∙ sym q))

        desks : (k : ℕ) → k < length (states i).desks → desk_references s (get_or (states i).desks k empty_desk) ≡ 0
        desks k h =
            let before : suc k - 1 ≡ k = omega arith in
            let r : IsDesk H (suc k) = (omega arith, omega (arith, (formed i).desks)) in
            ap (λ (m : ℕ). desk_references s (get_or (states i).desks m empty_desk)) (sym before)
            ∙ omega (
              arith,
              indicator_other s (desk_of (states i) (suc k)).owed (λ q. u.owed (suc k) r.0 (omega arith) (owed_after i (suc k) r ∙ sym q)),
              list_after s i (suc k) r,
              u.lists (suc k) r.0 (omega arith),
            )

    no_references_unreferenced : references s (states i) ≡ 0 → Unreferenced H (tables i) s
    no_references_unreferenced none = record {
      positions = λ p l m q.
          omega (arith, none, occurs_at s hs (states i).held (p - 1), ap (indicator s) (sym (position_after i p l m) ∙ q), indicator_same s);
      owed = λ d l m q.
          omega (arith, none, references_at s hs (states i).desks (d - 1), ap (indicator s) (sym (owed_after i d (l, m)) ∙ q), indicator_same s);
      lists = λ d l m. omega (arith, none, references_at s hs (states i).desks (d - 1), list_after s i d (l, m));
    }

  pub closing_opened : ClosingRule H tables
  closing_opened i s hs u d c hd hd' hc hc' q =
      unreferenced_unshown limits H (some limits H inside t cs) s hs (take i cs) (unreferenced_no_references s hs i u) (screen_index H d c) (screen_in H d c hd hd' hc hc')
      (sym (screen_after i d c (hd, hd') (hc, hc')) ∙ q)

  pub hand_back-opened : HandBackCloses H (run (step_table limits) (opened_table H t) cs) tables
  hand_back-opened = subst (λ (history : List Event). HandBackCloses H history tables) (sym (run_is limits H inside t cs)) closes
    where
      closes : HandBackCloses H (run (step limits H) (fresh H) cs) tables
      closes h d s q put =
          let hs = (subst (InHall H) q (range_run limits H cs (fresh H) h)).1 in
          let none = handed_back_unreferenced limits H (some limits H inside t cs) s hs cs h d q (λ i l e. unreferenced_no_references s hs i (put i (omega arith) e)) in
          let u = no_references_unreferenced s hs (suc h) none in
          record { unreferenced = u; unshown = closing_opened (suc h) s hs u }
