-- Demand 3 of the rules: of every list of calls from the opening on, for every desk number.
use Rattle.std.specs.Prelude.{ℕ, ◌+◌, ◌-◌, ◌≤◌, suc, ◌*◌, ◌<◌, ◌≡◌, false, List, length, take, drop}
use Rattle.std.proofs.Common.{arith, ap, subst, sym, ◌∙◌, true≢false}
use Rattle.std.proofs.Math.Decide.{dec_lt}
use Rattle.rules.specs.Demands.{HandedBackWithin, sharper_bound}
use Rattle.rules.specs.Hall.{Hall, Limits, all_screens, desk_of, fresh, used_slots}
use Rattle.rules.specs.History.{CollectsBetweenRetires, Effect, Shows, ◌by◌, collects_of, effect_at, hand_backs, hand_backs_of, is_collect, is_hand_back_of}
use Rattle.rules.specs.History.{out_of_room, retirements, retirements_of}
use Rattle.rules.specs.Steps.{Call, end, run, step}
use Rattle.rules.proofs.Laws.Desk.HandBack.{due_start}
use Rattle.rules.proofs.Laws.History.DeskInvariants.{copies_run, due_run, formed_run, room_run, slots_run, sound_run}
use Rattle.rules.proofs.Laws.History.InitialState.{fresh_copies, fresh_formed, fresh-room, fresh-shown, fresh-slots, fresh-sound}
use Rattle.rules.proofs.Laws.History.RunSplitting.{count_split, effect_within, gives_from, gives_itself, range_run, run_take}
use Rattle.rules.proofs.Laws.History.Screens.{AllShown, all_shown_run, hidden_run}
use Rattle.rules.proofs.Laws.History.StepEffects.{InHall, IsDesk}

module _ (limits : Limits) (H : Hall) (some : 1 ≤ all_screens H) (cs : List Call) where
  -- ---- Room.
  pub never_out_of_room : (d : ℕ) → CollectsBetweenRetires (effect_at (run (step limits H) (fresh H) cs)) d → (i : ℕ) → effect_at (run (step limits H) (fresh H) cs) i ≡ out_of_room by d → ⊥
  never_out_of_room d spaced i q =
      let r = subst (InHall H) q (range_run limits H cs (fresh H) i) in
      room_run limits H d some r.0 cs (fresh H) false (fresh_formed H) (fresh-room H d some)
      (record { between = spaced; since = λ z. absurd (true≢false (cc)) }) i q

  -- ---- What is on the list.
  pub on_list : (d : ℕ) → 1 ≤ d → retirements d (run (step limits H) (fresh H) cs) ≡ hand_backs d (run (step limits H) (fresh H) cs) + used_slots (desk_of (end (step limits H) (fresh H) cs) d)
  on_list d hd = omega (arith, slots_run limits H d some hd cs (fresh H) (fresh_formed H) (fresh-sound H d), fresh-slots H d)

  pub list_bound : (d : ℕ) → 1 ≤ d → retirements d (run (step limits H) (fresh H) cs) ≤ hand_backs d (run (step limits H) (fresh H) cs) + 2 * all_screens H
  list_bound d hd = omega (arith, on_list d hd, (sound_run limits H d some hd cs (fresh H) (fresh_formed H) (fresh-sound H d)).total)

-- ---- Back in time.

-- three collects for each screen are more than enough
pub three_is_enough : (S : ℕ) → 1 ≤ S → sharper_bound S ≤ 3 * S
three_is_enough S some = omega arith

module _ (limits : Limits) (H : Hall) (some : 1 ≤ all_screens H) (cs : List Call) (B : ℕ) (enough : sharper_bound (all_screens H) ≤ B) where
  -- the retire is the last of the first n calls; k more calls hold the collects
  back_from : (d s n k : ℕ) → 1 ≤ d → (s ≡ 0 → ⊥) → n ≤ length cs
      → collects_of d (run (step limits H) (end (step limits H) (fresh H) (take n cs)) (take k (drop n cs))) ≡ B
      → ((m e c : ℕ) → n ≤ m → m < n + k → Shows (effect_at (run (step limits H) (fresh H) cs)) m e c s → ⊥)
      → retirements_of d s (run (step limits H) (fresh H) (take n cs)) ≤ hand_backs_of d s (run (step limits H) (fresh H) (take (n + k) cs))
  back_from d s n k hd hs hn hc unshown =
      let f : ℕ → Effect = effect_at (run (step limits H) (fresh H) cs) in
      let formed = formed_run limits H (take n cs) (fresh H) (fresh_formed H) in
      let ok = sound_run limits H d some hd (take n cs) (fresh H) (fresh_formed H) (fresh-sound H d) in
      let shown : AllShown H f n (end (step limits H) (fresh H) (take n cs)) =
      subst (λ (m : ℕ). AllShown H f m (end (step limits H) (fresh H) (take n cs))) (omega arith)
      (all_shown_run limits H f n cs (fresh H) 0 (gives_itself (run (step limits H) (fresh H) cs)) (fresh_formed H) (fresh-shown H f) hn) in
      let hidden = hidden_run limits H f s hs k (drop n cs) (end (step limits H) (fresh H) (take n cs)) n (gives_from (step limits H) n cs (fresh H)) formed shown unshown in
      let c1 = copies_run limits H d some hd s hs (take n cs) (fresh H) (fresh_formed H) (fresh-sound H d) in
      let c2 = copies_run limits H d some hd s hs (take k (drop n cs)) (end (step limits H) (fresh H) (take n cs)) formed ok in
      let du =
      due_run limits H d some hd s (take k (drop n cs)) (end (step limits H) (fresh H) (take n cs)) B 0 formed ok
      (due_start (all_screens H) s B 0 (desk_of (end (step limits H) (fresh H) (take n cs)) d) enough ok.pass) hidden hc in
      let hb = count_split (step limits H) (is_hand_back_of s) d n k cs (fresh H) in
      omega (arith, fresh_copies H d s)

  pub back_in_time : HandedBackWithin B (run (step limits H) (fresh H) cs)
  back_in_time d s r h q hc unshown = by_order (dec_lt h r)
    where
      range : IsDesk H d × (s ≡ 0 → ⊥)
      range = subst (InHall H) q (range_run limits H cs (fresh H) r)

      inside : suc r ≤ length cs
      inside = effect_within (step limits H) cs (fresh H) r (λ e. let action = sym e ∙ ap (λ (x : Effect). x.action) q in true≢false (cc))

      collected : (n : ℕ) → collects_of d (take n (run (step limits H) (fresh H) cs)) ≡ collects_of d (run (step limits H) (fresh H) (take n cs))
      collected n = ap (collects_of d) (run_take (step limits H) n cs (fresh H))

      by_order : Dec (h < r) → retirements_of d s (take (suc r) (run (step limits H) (fresh H) cs)) ≤ hand_backs_of d s (take (suc h) (run (step limits H) (fresh H) cs))
      by_order (yes l) =
          let e : suc h + (r - h) ≡ suc r = omega arith in
          let c = count_split (step limits H) is_collect d (suc h) (r - h) cs (fresh H) in
          let c' = ap (λ (m : ℕ). collects_of d (run (step limits H) (fresh H) (take m cs))) e in
          absurd (omega (arith, collected (suc h), collected (suc r)))
      by_order (no l) =
          let e : suc r + (h - r) ≡ suc h = omega arith in
          let c = count_split (step limits H) is_collect d (suc r) (h - r) cs (fresh H) in
          let c' = ap (λ (m : ℕ). collects_of d (run (step limits H) (fresh H) (take m cs))) e in
          let b =
          back_from d s (suc r) (h - r) range.0.0 range.1 inside (omega (arith, collected (suc h), collected (suc r)))
          (λ m x y a b. unshown m x y (omega arith) (omega arith)) in
          let b' = ap (λ (m : ℕ). hand_backs_of d s (run (step limits H) (fresh H) (take m cs))) e in
          omega (arith, ap (retirements_of d s) (run_take (step limits H) (suc r) cs (fresh H)), ap (hand_backs_of d s) (run_take (step limits H) (suc h) cs (fresh H)))
