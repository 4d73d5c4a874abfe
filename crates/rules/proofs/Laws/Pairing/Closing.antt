-- The closing rule on states: a screen shows what stands at a position, what a desk owes, or what is retired and not yet handed back; so a
-- session with no reference is on no screen. And a session put only where it had none has none once it is handed back.
use Rattle.std.specs.Prelude.{ℕ, suc, ◌+◌, ◌-◌, ◌≤◌, ◌<◌, ◌≡◌, refl, List, [], ◌∷◌, length, get_or, take}
use Rattle.std.proofs.Common.{arith, ap, ◌∙◌, subst}
use Rattle.std.proofs.Math.Decide.{dec_lt}
use Rattle.rules.specs.Closing.{put_at}
use Rattle.rules.specs.Hall.{Formed, Hall, Limits, State, all_screens, empty_desk, fresh}
use Rattle.rules.specs.History.{Effect, ◌by◌, effect_at, hands_back, retires}
use Rattle.rules.specs.Lists.{occurrences}
use Rattle.rules.specs.Steps.{Call, end, run, step}
use Rattle.rules.proofs.Laws.History.InitialState.{fresh_formed, fresh-sound, get_same}
use Rattle.rules.proofs.Laws.History.References.{desk_references, no_references, none_after_hand_back, occurs_at, occurs_nowhere, references, references_at}
use Rattle.rules.proofs.Laws.History.RunSplitting.{Gives, gives_first, gives_itself, gives_rest}
use Rattle.rules.proofs.Laws.History.StepEffects.{InHall, formed_step}
use Rattle.rules.proofs.Laws.Lists.Lists.{indicator, indicator_at_most_one, indicator_other, indicator_same}
use Rattle.rules.proofs.Laws.Pairing.Guarantee.{fresh_agree, guard, in_hall_lem}
use Rattle.rules.proofs.Laws.Pairing.Links.{Agree, Link, ScreensAgree, agree_step, before_retire, before_swap, link, linked_to, unlinked}
use Rattle.rules.proofs.Laws.Pairing.OpenRetirements.{live_at, ties, ties_earlier}

occurrences-within : (s : ℕ) (xs : List ℕ) → occurrences s xs ≤ length xs
occurrences-within s [] = omega arith
occurrences-within s (x ∷ xs) = omega (arith, occurrences-within s xs, indicator_at_most_one s x)

-- The state agrees with the links along a list of calls.
agree_along : (limits : Limits) (H : Hall) (f : ℕ → Effect) (cs : List Call) (st : State) (n : ℕ) → Gives f n (run (step limits H) st cs) → Formed H st → ScreensAgree H f n st
    → ScreensAgree H f (n + length cs) (end (step limits H) st cs)
agree_along limits H f [] st n gives formed ag = let e : n ≡ n + 0 = omega arith in subst (λ (m : ℕ). ScreensAgree H f m st) e ag
agree_along limits H f (c ∷ cs) st n gives formed ag =
    let e : suc n + length cs ≡ n + suc (length cs) = omega arith in
    subst (λ (m : ℕ). ScreensAgree H f m (end (step limits H) (step limits H st c).after cs)) e
    (agree_along limits H f cs (step limits H st c).after (suc n) (gives_rest gives) (formed_step limits H st formed c) (agree_step limits H st formed f n ag c (gives_first gives)))

module _ (limits : Limits) (H : Hall) (some : 1 ≤ all_screens H) (s : ℕ) (hs : s ≡ 0 → ⊥) where
  -- A session with no reference is on no screen.
  pub unreferenced_unshown : (cs : List Call) → references s (end (step limits H) (fresh H) cs) ≡ 0 → (x : ℕ) → x < all_screens H
      → get_or (end (step limits H) (fresh H) cs).shown x 0 ≡ s → ⊥
  unreferenced_unshown cs none x h shows =
      by_link (link H f x n) refl (subst (λ (v : ℕ). Agree f st v (link H f x n)) shows (agree_along limits H f cs (fresh H) 0 (gives_itself (run (step limits H) (fresh H) cs)) (fresh_formed H) (fresh_agree limits H some cs) x h))
    where
      f : ℕ → Effect
      f = effect_at (run (step limits H) (fresh H) cs)

      st : State
      st = end (step limits H) (fresh H) cs

      n : ℕ
      n = 0 + length cs

      -- a retirement of s by desk d to which the screen is linked is not handed back, so the desk has a copy on its list
      on_list : (r d : ℕ) → link H f x n ≡ linked_to r → f r ≡ retires s by d → Dec (r < n) → ⊥
      on_list r d l q (yes earlier) =
          let hd = (subst (InHall H) q (in_hall_lem limits H some cs r)).0.0 in
          let g = guard limits H some cs d s hd hs in
          let t = g.tokens in
          omega (
            arith,
            none,
            g.covers r earlier q,
            live_at H f n (all_screens H) x r h,
            ap (ties r) l,
            indicator_same r,
            t.same r,
            t.held.sum,
            occurrences-within r t.old,
            occurrences-within r t.new,
            references_at s hs st.desks (d - 1),
          )
      on_list r d l q (no later) = omega (arith, ties_earlier H f x n r (omega arith), ap (ties r) l, indicator_same r)

      by_link : (l : Link) → link H f x n ≡ l → Agree f st s l → ⊥
      by_link unlinked e a = hs a
      by_link (before_swap p) e a = omega (arith, none, occurs_at s hs st.held (p - 1), ap (indicator s) a.2, indicator_same s)
      by_link (before_retire d) e a = omega (arith, none, references_at s hs st.desks (d - 1), ap (indicator s) a.2, indicator_same s)
      by_link (linked_to r) e a = on_list r a.1 e a.2 (dec_lt r n)

  fresh_unreferenced : references s (fresh H) ≡ 0
  fresh_unreferenced =
      omega (
        arith,
        occurs_nowhere s hs (fresh H).held (λ i h. ap (indicator s) (get_same H.positions i 0) ∙ indicator_other s 0 hs),
        no_references s hs (fresh H).desks (λ i h. ap (desk_references s) (get_same H.desks i empty_desk) ∙ omega (arith, indicator_other s 0 hs)),
      )

  -- A session that each swap before its hand-back put only where it had no reference has none after it.
  pub handed_back_unreferenced : (cs : List Call) (h d : ℕ) → effect_at (run (step limits H) (fresh H) cs) h ≡ hands_back s by d
      → ((i : ℕ) → i < h → put_at (run (step limits H) (fresh H) cs) i ≡ s → references s (end (step limits H) (fresh H) (take i cs)) ≡ 0)
      → references s (end (step limits H) (fresh H) (take (suc h) cs)) ≡ 0
  handed_back_unreferenced cs h d =
      none_after_hand_back s hs limits H some cs (fresh H) (fresh_formed H) (λ e he. fresh-sound H e) (omega (arith, fresh_unreferenced)) h d
