-- The guarantee of Definition 2.1, of every list of calls from the opening on: the pairings of all desks and sessions together.
use Rattle.std.specs.Prelude.{ℕ, ◌+◌, ◌≤◌, ◌<◌, ◌≡◌, List, [], length}
use Rattle.std.proofs.Common.{arith, sym, ◌∙◌, subst, true≢false}
use Rattle.std.proofs.Math.Decide.{ℕ_discrete, dec_le}
use Rattle.std.proofs.Math.Path.{ap}
use Rattle.std.proofs.lemmas.List.{get_or-replicate}
use Rattle.rules.specs.Demands.{Guarantee}
use Rattle.rules.specs.Hall.{Hall, Limits, all_screens, desk_of, fresh, screen_index}
use Rattle.rules.specs.History.{Action, Effect, ◌by◌, collects, drops, effect_at, hands_back, no_action, out_of_room, retires, swaps, takes}
use Rattle.rules.specs.Steps.{Call, end, run, step}
use Rattle.rules.proofs.Laws.History.Actions.{same_action, same_desk_lem}
use Rattle.rules.proofs.Laws.History.InitialState.{fresh_copies, fresh_formed, fresh-sound}
use Rattle.rules.proofs.Laws.History.RunSplitting.{effect_within, gives_itself, range_run}
use Rattle.rules.proofs.Laws.History.StepEffects.{InHall}
use Rattle.rules.proofs.Laws.Pairing.Links.{ScreensAgree, link, unlinked}
use Rattle.rules.proofs.Laws.Pairing.Pairing.{Guard, MayPair, guard_along, takes_find_unlinked}

-- A pairing for one desk and one session.
record Pairs (f : ℕ → Effect) (d s : ℕ) (p : ℕ → ℕ) : Type 0 where
  good : (a : ℕ) → f a ≡ hands_back s by d → MayPair f d s a (p a)
  once : (a b : ℕ) → f a ≡ hands_back s by d → f b ≡ hands_back s by d → p a ≡ p b → a ≡ b

module _ (limits : Limits) (H : Hall) (some : 1 ≤ all_screens H) (cs : List Call) where
  abbrev f : ℕ → Effect
  f = effect_at (run (step limits H) (fresh H) cs)

  pub fresh_agree : ScreensAgree H f 0 (fresh H)
  fresh_agree x h = get_or-replicate (all_screens H) x 0 0 h

  pub in_hall_lem : (m : ℕ) → InHall H (f m)
  in_hall_lem = range_run limits H cs (fresh H)

  finds_free : (i x c p v : ℕ) → f i ≡ takes c p v by x → link H f (screen_index H x c) i ≡ unlinked
  finds_free i x c p v t =
      let e : 0 + i ≡ i = omega arith in
      subst (λ (k : ℕ). link H f (screen_index H x c) k ≡ unlinked) e
      (takes_find_unlinked limits H f cs (fresh H) 0 (gives_itself (run (step limits H) (fresh H) cs)) (fresh_formed H) fresh_agree i x c p v (ap f e ∙ t))

  -- the pairing of one desk and one session
  pub guard : (d s : ℕ) → 1 ≤ d → (s ≡ 0 → ⊥) → Guard H f d s (0 + length cs) (desk_of (end (step limits H) (fresh H) cs) d)
  guard d s h hs =
      guard_along limits H f in_hall_lem finds_free some d s h hs cs (fresh H) 0 (gives_itself (run (step limits H) (fresh H) cs)) (fresh_formed H) (fresh-sound H d)
      fresh_agree
      (record {
        count = λ r. 0;
        tokens = record {
          old = [];
          new = [];
          same = λ r. omega arith;
          held = record { sum = omega (arith, fresh_copies H d s); tests = omega arith; marks = omega arith; waits = omega arith };
        };
        single = λ r. omega arith;
        mine = λ r q. absurd (omega arith);
        pair = λ a. 0;
        good = λ a q. absurd (omega arith);
        once = λ a b q. absurd (omega arith);
        unused = λ a r q. absurd (omega arith);
        covers = λ r q. absurd (omega arith);
      })

  within_end : (a d s : ℕ) → f a ≡ hands_back s by d → a < 0 + length cs
  within_end a d s q =
      omega (
        arith,
        effect_within (step limits H) cs (fresh H) a (λ e. let action = sym e ∙ ap (λ (x : Effect). x.action) q in true≢false (cc)),
      )

  -- the pairing that the guard built; there is no desk 0 and no session 0
  choose : (d s : ℕ) → Dec (1 ≤ d) → Dec (s ≡ 0) → ℕ → ℕ
  choose d s (yes h) (no z) = (guard d s h z).pair
  choose d s (yes h) (yes z) = λ a. 0
  choose d s (no h) e = λ a. 0

  pair_of : ℕ → ℕ → ℕ → ℕ
  pair_of d s = choose d s (dec_le 1 d) (ℕ_discrete s 0)

  works : (d s : ℕ) → 1 ≤ d → (s ≡ 0 → ⊥) → Pairs f d s (pair_of d s)
  unfolding pair_of choose
  works d s h hs = by_cases (dec_le 1 d) (ℕ_discrete s 0)
    where
      by_cases : (x : Dec (1 ≤ d)) (z : Dec (s ≡ 0)) → Pairs f d s (choose d s x z)
      by_cases (yes x) (no z) =
          let g = guard d s x z in
          record {
            good = λ a q. g.good a (within_end a d s q) q;
            once = λ a b q q'. g.once a b (within_end a d s q) (within_end b d s q') q q';
          }
      by_cases (yes x) (yes z) = absurd (hs z)
      by_cases (no x) z = absurd (x h)

  partner : ℕ → ℕ → Action → ℕ
  partner a d (takes c p v) = 0
  partner a d (drops c) = 0
  partner a d (swaps p) = 0
  partner a d (retires s) = 0
  partner a d out_of_room = 0
  partner a d collects = 0
  partner a d (hands_back s) = pair_of d s a
  partner a d no_action = 0

  -- the partner of the hand-back at index a
  partner_at : ℕ → ℕ
  partner_at a = partner a (f a).desk (f a).action

  -- at a hand-back
  found : (a d s : ℕ) → f a ≡ hands_back s by d → partner_at a ≡ pair_of d s a
  unfolding partner partner_at
  found a d s q = ap (λ (e : Effect). partner a e.desk e.action) q

  is_good : (a d s : ℕ) → f a ≡ hands_back s by d → MayPair f d s a (partner_at a)
  is_good a d s q =
      let r = subst (InHall H) q (in_hall_lem a) in subst (λ (m : ℕ). MayPair f d s a m) (sym (found a d s q)) ((works d s r.0.0 r.1).good a q)

  is_once : (a d s b d' s' : ℕ) → f a ≡ hands_back s by d → f b ≡ hands_back s' by d' → partner_at a ≡ partner_at b → a ≡ b
  is_once a d s b d' s' q q' e =
      let here = (is_good a d s q).same in
      let there = ap f e ∙ (is_good b d' s' q').same in
      let same = same_action here there in
      let ss : s' ≡ s = cc in
      let qb : f b ≡ hands_back s by d = q' ∙ (λ i. hands_back (ss i) by sym (same_desk_lem here there) i) in
      let r = subst (InHall H) q (in_hall_lem a) in
      (works d s r.0.0 r.1).once a b q qb (sym (found a d s q) ∙ e ∙ found b d s qb)

  -- The guarantee of Definition 2.1.
  pub guaranteed : Guarantee (effect_at (run (step limits H) (fresh H) cs))
  guaranteed = record {
    pair = λ a. partner_at a;
    earlier = λ a d s q. (is_good a d s q).earlier;
    same = λ a d s q. (is_good a d s q).same;
    once = is_once;
    dropped = λ a d s i q. (is_good a d s q).dropped i;
  }
