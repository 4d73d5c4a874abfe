-- The pairing of hand-backs with retirements, of one session by one desk, built as the calls go on: a hand-back is paired with a retirement
-- not paired yet that no screen is linked to.
use Rattle.std.specs.Prelude.{ℕ, zero, suc, ◌+◌, ◌≤◌, ◌<◌, ◌≡◌, refl, Bool, false, cond, List, [], ◌∷◌, ◌++◌, length, eqb}
use Rattle.std.proofs.Common.{arith, sym, ap, ◌∙◌, subst, true≢false, eq-eqb, ne_eqb}
use Rattle.std.proofs.Math.Decide.{ℕ_discrete, dec_le}
use Rattle.rules.specs.Hall.{Desk, Formed, Hall, Limits, State, all_screens, desk_of, screen_index}
use Rattle.rules.specs.History.{Action, DroppedBefore, Effect, Linked, ◌by◌, by_desk, collects, drops, hands_back, is_hand_back}
use Rattle.rules.specs.History.{is_retirement, no_action, out_of_room, retires, swaps, takes}
use Rattle.rules.specs.Lists.{occurrences}
use Rattle.rules.specs.Steps.{Call, begin, collect, end, owe, renumber, retire, run, step}
use Rattle.rules.proofs.Laws.Desk.Collect.{Orderly, before_hand_back, begin_keeps}
use Rattle.rules.proofs.Laws.Desk.Sound.{Sound, sound_orderly}
use Rattle.rules.proofs.Laws.History.Actions.{by_own_desk, own_action, same_action}
use Rattle.rules.proofs.Laws.History.DeskInvariants.{sound-step}
use Rattle.rules.proofs.Laws.History.RunSplitting.{Gives, gives_first, gives_rest}
use Rattle.rules.proofs.Laws.History.ScreenIndex.{screen_in}
use Rattle.rules.proofs.Laws.History.StepEffects.{DeskChangeIn, DeskChanged, InHall, desk_change, effect_in, formed_step}
use Rattle.rules.proofs.Laws.Lists.Lists.{indicator, indicator_at_most_one, indicator_other, indicator_same, occurrences-append}
use Rattle.rules.proofs.Laws.Pairing.LinkedTakes.{linked_dropped}
use Rattle.rules.proofs.Laws.Pairing.Links.{ScreensAgree, agree_step, link, linked_to, take_finds_unlinked, unlinked}
use Rattle.rules.proofs.Laws.Pairing.OpenRetirements.{Leaves, Tokens, begin_tokens, hand_back_other, hand_back_same, live, live_at, live_at_most_one}
use Rattle.rules.proofs.Laws.Pairing.OpenRetirements.{live-next, scan_tokens, ties, tokens_later, tokens_with}

-- A hand-back at index a, of session s to desk d, may be paired with the retirement at index r.
pub record MayPair (f : ℕ → Effect) (d s a r : ℕ) : Type 0 where
  pub earlier : r < a
  pub same : f r ≡ retires s by d
  pub dropped : (i : ℕ) → Linked f i r → DroppedBefore f i a

-- The pairing before index n: count is 1 at a retirement that is not paired yet, and else 0.
pub record Guard (H : Hall) (f : ℕ → Effect) (d s n : ℕ) (D : Desk) : Type 0 where
  pub count : ℕ → ℕ
  pub tokens : Tokens H f s n D count
  pub single : (r : ℕ) → count r ≤ 1
  pub mine : (r : ℕ) → 1 ≤ count r → (r < n) × (f r ≡ retires s by d)
  pub pair : ℕ → ℕ
  pub good : (a : ℕ) → a < n → f a ≡ hands_back s by d → MayPair f d s a (pair a)
  pub once : (a b : ℕ) → a < n → b < n → f a ≡ hands_back s by d → f b ≡ hands_back s by d → pair a ≡ pair b → a ≡ b
  pub unused : (a r : ℕ) → a < n → f a ≡ hands_back s by d → 1 ≤ count r → pair a ≡ r → ⊥
  -- a retirement that a screen is linked to is not paired yet
  pub covers : (r : ℕ) → r < n → f r ≡ retires s by d → live H f n (all_screens H) r ≤ count r

-- the message number is not guarded
guard_renumbered : (H : Hall) (f : ℕ → Effect) (d s n number : ℕ) (D : Desk) → Guard H f d s n D → Guard H f d s n (renumber D number)
guard_renumbered H f d s n number D g =
    let h = g.tokens.held in
    record {
      count = g.count;
      tokens = tokens_with g.tokens (record { sum = h.sum; tests = h.tests; marks = h.marks; waits = h.waits });
      single = g.single;
      mine = g.mine;
      pair = g.pair;
      good = g.good;
      once = g.once;
      unused = g.unused;
      covers = g.covers;
    }

-- the indices before n + 1 with such a hand-back, where it is not at n
before_last : (f : ℕ → Effect) (d s n : ℕ) → (f n ≡ hands_back s by d → ⊥) → (a : ℕ) → a < suc n → f a ≡ hands_back s by d → a < n
before_last f d s n not-here a h q = by_cases (ℕ_discrete a n)
  where
    by_cases : Dec (a ≡ n) → a < n
    by_cases (yes t) = absurd (not-here (ap f (sym t) ∙ q))
    by_cases (no t) = omega arith

module _ (H : Hall) (f : ℕ → Effect) (d s n : ℕ) where
  -- one index later, where no retirement of s by d is at index n
  covers_later : (count : ℕ → ℕ) → (f n ≡ retires s by d → ⊥) → ((r : ℕ) → r < n → f r ≡ retires s by d → live H f n (all_screens H) r ≤ count r)
      → (r : ℕ) → r < suc n → f r ≡ retires s by d → live H f (suc n) (all_screens H) r ≤ count r
  covers_later count not-here covers r h q = by_cases (ℕ_discrete r n)
    where
      by_cases : Dec (r ≡ n) → live H f (suc n) (all_screens H) r ≤ count r
      by_cases (yes t) = absurd (not-here (ap f (sym t) ∙ q))
      by_cases (no t) = omega (arith, live-next H f n (all_screens H) r (omega arith), covers r (omega arith) q)

  -- no hand-back and no retirement of s by d is at index n
  guard_kept : (D E : Desk) → (f n ≡ hands_back s by d → ⊥) → (f n ≡ retires s by d → ⊥) → (g : Guard H f d s n D) → Tokens H f s (suc n) E g.count → Guard H f d s (suc n) E
  guard_kept D E ne nr g t = record {
    count = g.count;
    tokens = t;
    single = g.single;
    mine = λ r q. (omega (arith, (g.mine r q).0), (g.mine r q).1);
    pair = g.pair;
    good = λ a h q. g.good a (under a h q) q;
    once = λ a b h h' q q' e. g.once a b (under a h q) (under b h' q') q q' e;
    unused = λ a r h q c e. g.unused a r (under a h q) q c e;
    covers = covers_later g.count nr g.covers;
  }
    where
      under : (a : ℕ) → a < suc n → f a ≡ hands_back s by d → a < n
      under = before_last f d s n ne

  -- the desk retires s at index n
  guard_retire : (D : Desk) → D.owed ≡ s → f n ≡ retires s by d → Guard H f d s n D → Guard H f d s (suc n) (retire D)
  guard_retire D o e g = record {
    count = λ r. indicator r n + g.count r;
    tokens = record {
      old = t.old;
      new = n ∷ t.new;
      same = λ r. omega (arith, t.same r);
      held = record {
        sum = omega (arith, t.held.sum, wait);
        tests = t.held.tests;
        marks = t.held.marks;
        waits = omega (arith, t.held.waits, wait, live_at_most_one H f (suc n) (all_screens H) n);
      };
    };
    single = λ r. one r (ℕ_discrete r n);
    mine = λ r q. own r q (ℕ_discrete r n);
    pair = g.pair;
    good = λ a h q. g.good a (under a h q) q;
    once = λ a b h h' q q' z. g.once a b (under a h q) (under b h' q') q q' z;
    unused = λ a r h q c z. apart a r (under a h q) q c z (ℕ_discrete r n);
    covers = λ r h q. linked_unpaired r h q (ℕ_discrete r n);
  }
    where
      t : Tokens H f s (suc n) D g.count
      t = tokens_later H f s n g.count D D.owed (λ r q. (g.mine r q).0) g.tokens

      wait : occurrences s (D.waiting ++ (D.owed ∷ [])) ≡ occurrences s D.waiting + 1
      wait = omega (arith, occurrences-append s D.waiting (D.owed ∷ []), ap (indicator s) o, indicator_same s)

      none : g.count n ≡ 0
      none = by_cases (dec_le 1 (g.count n))
        where
          by_cases : Dec (1 ≤ g.count n) → g.count n ≡ 0
          by_cases (yes q) = absurd (omega (arith, (g.mine n q).0))
          by_cases (no q) = omega arith

      one : (r : ℕ) → Dec (r ≡ n) → indicator r n + g.count r ≤ 1
      one r (yes q) = rw q (omega (arith, none, indicator_at_most_one n n))
      one r (no q) = omega (arith, indicator_other r n q, g.single r)

      own : (r : ℕ) → 1 ≤ indicator r n + g.count r → Dec (r ≡ n) → (r < suc n) × (f r ≡ retires s by d)
      own r h (yes q) = (omega arith, ap f q ∙ e)
      own r h (no q) = let m = g.mine r (omega (arith, indicator_other r n q)) in (omega (arith, m.0), m.1)

      under : (a : ℕ) → a < suc n → f a ≡ hands_back s by d → a < n
      under = before_last f d s n (λ q. let differ = same_action e q in true≢false (cc))

      apart : (a r : ℕ) → a < n → f a ≡ hands_back s by d → 1 ≤ indicator r n + g.count r → g.pair a ≡ r → Dec (r ≡ n) → ⊥
      apart a r h q c z (yes w) = omega (arith, (g.good a h q).earlier)
      apart a r h q c z (no w) = g.unused a r h q (omega (arith, indicator_other r n w)) z

      linked_unpaired : (r : ℕ) → r < suc n → f r ≡ retires s by d → Dec (r ≡ n) → live H f (suc n) (all_screens H) r ≤ indicator r n + g.count r
      linked_unpaired r h q (yes w) = omega (arith, live_at_most_one H f (suc n) (all_screens H) r, ap (indicator r) (sym w), indicator_same r)
      linked_unpaired r h q (no w) = omega (arith, live-next H f n (all_screens H) r (omega arith), g.covers r (omega arith) q)

  -- s is handed back to the desk at index n
  guard_hand_back : (D E : Desk) → ((m : ℕ) → InHall H (f m)) → ((i x c p v : ℕ) → f i ≡ takes c p v by x → link H f (screen_index H x c) i ≡ unlinked)
      → f n ≡ hands_back s by d → (g : Guard H f d s n D) → Leaves H f s n E g.count → Guard H f d s (suc n) E
  guard_hand_back D E in_hall_lem finds_free e g l = record {
    count = left;
    tokens =
        tokens_later H f s n left E E.owed (λ r q. (g.mine r (omega (arith, l.same r))).0)
        (record { old = l.old; new = l.new; same = λ r. refl; held = l.held });
    single = λ r. omega (arith, l.same r, g.single r);
    mine = λ r q. (omega (arith, (g.mine r (omega (arith, l.same r))).0), (g.mine r (omega (arith, l.same r))).1);
    pair = pair';
    good = λ a h q. is_good a h q (ℕ_discrete a n);
    once = λ a b h h' q q' z. is_once a b h h' q q' z (ℕ_discrete a n) (ℕ_discrete b n);
    unused = λ a r h q c z. is_unused a r h q c z (ℕ_discrete a n);
    covers = covers_later left (λ q. let differ = same_action e q in true≢false (cc)) (λ r h q. linked_unpaired r h q (ℕ_discrete r l.it));
  }
    where
      left : ℕ → ℕ
      left r = occurrences r l.old + occurrences r l.new

      pair' : ℕ → ℕ
      pair' a = cond (eqb a n) l.it (g.pair a)

      now : (a : ℕ) → a ≡ n → pair' a ≡ l.it
      now a q = ap (λ (b : Bool). cond b l.it (g.pair a)) (eq-eqb a n q)

      past : (a : ℕ) → (a ≡ n → ⊥) → pair' a ≡ g.pair a
      past a q = ap (λ (b : Bool). cond b l.it (g.pair a)) (ne_eqb a n q)

      was : 1 ≤ g.count l.it
      was = omega (arith, l.same l.it, indicator_same l.it)

      unlinked_now : (x : ℕ) → x < all_screens H → link H f x n ≡ linked_to l.it → ⊥
      unlinked_now x h q = omega (arith, l.loose, live_at H f n (all_screens H) x l.it h, ap (ties l.it) q, indicator_same l.it)

      drops' : (i : ℕ) → Linked f i l.it → DroppedBefore f i n
      drops' i k =
          let r = subst (InHall H) k.take (in_hall_lem i) in
          linked_dropped H f in_hall_lem i l.it k (finds_free i k.desk k.screen k.position k.shown k.take) n (g.mine l.it was).0
          (unlinked_now (screen_index H k.desk k.screen) (screen_in H k.desk k.screen r.0.0 r.0.1 r.1.0 r.1.1))

      fits : MayPair f d s n l.it
      fits = record { earlier = (g.mine l.it was).0; same = (g.mine l.it was).1; dropped = drops' }

      is_good : (a : ℕ) → a < suc n → f a ≡ hands_back s by d → Dec (a ≡ n) → MayPair f d s a (pair' a)
      is_good a h q (yes t) = subst (λ (m : ℕ). MayPair f d s m (pair' a)) (sym t) (subst (λ (m : ℕ). MayPair f d s n m) (sym (now a t)) fits)
      is_good a h q (no t) = subst (λ (m : ℕ). MayPair f d s a m) (sym (past a t)) (g.good a (omega arith) q)

      is_once : (a b : ℕ) → a < suc n → b < suc n → f a ≡ hands_back s by d → f b ≡ hands_back s by d → pair' a ≡ pair' b → Dec (a ≡ n) → Dec (b ≡ n) → a ≡ b
      is_once a b h h' q q' z (yes t) (yes u) = t ∙ sym u
      is_once a b h h' q q' z (yes t) (no u) = absurd (g.unused b l.it (omega arith) q' was (sym (past b u) ∙ sym z ∙ now a t))
      is_once a b h h' q q' z (no t) (yes u) = absurd (g.unused a l.it (omega arith) q was (sym (past a t) ∙ z ∙ now b u))
      is_once a b h h' q q' z (no t) (no u) = g.once a b (omega arith) (omega arith) q q' (sym (past a t) ∙ z ∙ past b u)

      is_unused : (a r : ℕ) → a < suc n → f a ≡ hands_back s by d → 1 ≤ left r → pair' a ≡ r → Dec (a ≡ n) → ⊥
      is_unused a r h q c z (yes t) = let e = sym (now a t) ∙ z in omega (arith, l.same r, g.single r, ap (indicator r) e, indicator_same r)
      is_unused a r h q c z (no t) = g.unused a r (omega arith) q (omega (arith, l.same r)) (sym (past a t) ∙ z)

      linked_unpaired : (r : ℕ) → r < n → f r ≡ retires s by d → Dec (r ≡ l.it) → live H f n (all_screens H) r ≤ left r
      linked_unpaired r h q (yes t) = omega (arith, l.loose, ap (live H f n (all_screens H)) t)
      linked_unpaired r h q (no t) = omega (arith, g.covers r h q, l.same r, indicator_other r l.it t)

-- One call.
module _ (limits : Limits) (H : Hall) (f : ℕ → Effect) (in_hall_lem : (m : ℕ) → InHall H (f m))
    (finds_free : (i x c p v : ℕ) → f i ≡ takes c p v by x → link H f (screen_index H x c) i ≡ unlinked) (hS : 1 ≤ all_screens H) (d s : ℕ) (hd : 1 ≤ d)
    (hs : s ≡ 0 → ⊥) where
  guard_step : (n : ℕ) (st : State) (c : Call) → Formed H st → Orderly (all_screens H) (desk_of st d) → ScreensAgree H f n st
      → f n ≡ effect_in limits H st c
      → Guard H f d s n (desk_of st d) → Guard H f d s (suc n) (desk_of (step limits H st c).after d)
  guard_step n st c formed ok ag q g =
      rw k.moved.is
      (guard_renumbered H f d s (suc n) k.moved.number k.desk
      (by_action (by_desk d (f n)) refl (subst (λ (e : Effect). DeskChangeIn H st d k.desk (by_desk d e)) (sym q) k.change)))
    where
      k : DeskChanged H st d (desk_of (step limits H st c).after d) (by_desk d (effect_in limits H st c))
      k = desk_change limits H st formed d hd c

      below : (r : ℕ) → 1 ≤ g.count r → r < n
      below r h = (g.mine r h).0

      -- the action at n is no hand-back of the desk
      no_hand_back : (a : Action) → by_desk d (f n) ≡ a → is_hand_back a ≡ false → f n ≡ hands_back s by d → ⊥
      no_hand_back a own other t =
          true≢false (ap is_hand_back (sym (by_own_desk d (hands_back s)) ∙ ap (by_desk d) (sym t) ∙ own) ∙ other)

      no_retirement : (a : Action) → by_desk d (f n) ≡ a → is_retirement a ≡ false → f n ≡ retires s by d → ⊥
      no_retirement a own other t =
          true≢false (ap is_retirement (sym (by_own_desk d (retires s)) ∙ ap (by_desk d) (sym t) ∙ own) ∙ other)

      -- the list stays as it is
      same_list : (a : Action) → by_desk d (f n) ≡ a → is_hand_back a ≡ false → is_retirement a ≡ false → (o : ℕ) → k.desk ≡ owe (desk_of st d) o
          → Guard H f d s (suc n) k.desk
      same_list a own no-back no-retire o e =
          rw e (guard_kept H f d s n (desk_of st d) (owe (desk_of st d) o) (no_hand_back a own no-back) (no_retirement a own no-retire) g
          (tokens_later H f s n g.count (desk_of st d) o below g.tokens))

      -- another session is retired
      retired_other : (v : ℕ) → (desk_of st d).owed ≡ v → (s ≡ v → ⊥) → Tokens H f s (suc n) (retire (desk_of st d)) g.count
      retired_other v o ne =
          let t = tokens_later H f s n g.count (desk_of st d) (desk_of st d).owed below g.tokens in
          let w = occurrences-append s (desk_of st d).waiting ((desk_of st d).owed ∷ []) in
          let z : indicator s (desk_of st d).owed ≡ 0 = ap (indicator s) o ∙ indicator_other s v ne in
          let h = t.held in
          tokens_with t (record { sum = omega (arith, h.sum); tests = h.tests; marks = h.marks; waits = omega (arith, h.waits) })

      before_back : Tokens H f s n (before_hand_back (all_screens H) st.shown (desk_of st d)) g.count
      before_back =
          scan_tokens H f s n g.count d st ag g.single (λ r h. (g.mine r h).1) hS formed.screens (begin (desk_of st d))
          (begin_keeps (all_screens H) (desk_of st d) hS ok).going (begin_tokens H f s n g.count (desk_of st d) ok.going g.tokens)

      retiring : (v : ℕ) → (desk_of st d).owed ≡ v → f n ≡ retires v by d → Dec (s ≡ v) → Guard H f d s (suc n) (retire (desk_of st d))
      retiring v o y (yes t) = guard_retire H f d s n (desk_of st d) (o ∙ sym t) (y ∙ (λ i. retires (sym t i) by d)) g
      retiring v o y (no t) =
          guard_kept H f d s n (desk_of st d) (retire (desk_of st d))
          (λ u. let differ = same_action y u in true≢false (cc)) (λ u. let same = same_action y u in t (cc)) g (retired_other v o t)

      -- a collect that replies another session, or 0
      collecting : (v : ℕ) → (collect (all_screens H) st.shown (desk_of st d)).session ≡ v → (s ≡ v → ⊥) → (f n ≡ hands_back s by d → ⊥) → (f n ≡ retires s by d → ⊥)
          → Guard H f d s (suc n) (collect (all_screens H) st.shown (desk_of st d)).after
      collecting v e ne no-back no-retire =
          let E = (collect (all_screens H) st.shown (desk_of st d)).after in
          guard_kept H f d s n (desk_of st d) E no-back no-retire g
          (tokens_later H f s n g.count E E.owed below
          (hand_back_other H f s n g.count (before_hand_back (all_screens H) st.shown (desk_of st d)) (λ u. ne (u ∙ e)) before_back))

      handing : (v : ℕ) → (collect (all_screens H) st.shown (desk_of st d)).session ≡ v → f n ≡ hands_back v by d → Dec (s ≡ v)
          → Guard H f d s (suc n) (collect (all_screens H) st.shown (desk_of st d)).after
      handing v e y (yes t) =
          guard_hand_back H f d s n (desk_of st d) (collect (all_screens H) st.shown (desk_of st d)).after in_hall_lem finds_free
          (y ∙ (λ i. hands_back (sym t i) by d)) g
          (hand_back_same H f s n g.count (before_hand_back (all_screens H) st.shown (desk_of st d)) hs (t ∙ sym e) before_back)
      handing v e y (no t) =
          collecting v e t (λ u. let same = same_action y u in t (cc)) (λ u. let differ = same_action y u in true≢false (cc))

      by_action : (a : Action) → by_desk d (f n) ≡ a → DeskChangeIn H st d k.desk a
          → Guard H f d s (suc n) k.desk
      by_action (takes x p v) o e = same_list (takes x p v) o refl refl e.owed e.after
      by_action (drops x) o e = same_list (drops x) o refl refl e.owed e.after
      by_action (swaps p) o e = same_list (swaps p) o refl refl e.owed e.after
      by_action (retires v) o e = rw e.after (retiring v e.owed (own_action d (f n) (retires v) (λ z. true≢false (cc)) o) (ℕ_discrete s v))
      by_action out_of_room o e = same_list out_of_room o refl refl (desk_of st d).owed e.after
      by_action collects o e = rw e.after (collecting 0 e.session hs (no_hand_back collects o refl) (no_retirement collects o refl))
      by_action (hands_back v) o e = rw e.1.after (handing v e.1.session (own_action d (f n) (hands_back v) (λ z. true≢false (cc)) o) (ℕ_discrete s v))
      by_action no_action o e = same_list no_action o refl refl e.owed e.after

  -- A list of calls, whose effects f gives from index n on.
  pub guard_along : (cs : List Call) (st : State) (n : ℕ) → Gives f n (run (step limits H) st cs) → Formed H st → Sound (all_screens H) (desk_of st d)
      → ScreensAgree H f n st → Guard H f d s n (desk_of st d) → Guard H f d s (n + length cs) (desk_of (end (step limits H) st cs) d)
  guard_along [] st n gives formed ok ag g = subst (λ (m : ℕ). Guard H f d s m (desk_of st d)) (omega arith) g
  guard_along (c ∷ cs) st n gives formed ok ag g =
      let q = gives_first gives in
      subst (λ (m : ℕ). Guard H f d s m (desk_of (end (step limits H) (step limits H st c).after cs) d)) (omega arith)
      (guard_along cs (step limits H st c).after (suc n) (gives_rest gives) (formed_step limits H st formed c) (sound-step limits H d hS hd st c formed ok)
      (agree_step limits H st formed f n ag c q) (guard_step n st c formed (sound_orderly (all_screens H) (desk_of st d) ok) ag q g))

-- An accepted take finds its screen unlinked.
pub takes_find_unlinked : (limits : Limits) (H : Hall) (f : ℕ → Effect) (cs : List Call) (st : State) (n : ℕ) → Gives f n (run (step limits H) st cs) → Formed H st
    → ScreensAgree H f n st → (m x c p v : ℕ) → f (n + m) ≡ takes c p v by x → link H f (screen_index H x c) (n + m) ≡ unlinked
takes_find_unlinked limits H f [] st n gives formed ag m x y p v t =
    absurd (let differ = same_action (gives.at m) t in true≢false (cc))
takes_find_unlinked limits H f (c ∷ cs) st n gives formed ag zero x y p v t =
    let e : n ≡ n + 0 = omega arith in
    subst (λ (k : ℕ). link H f (screen_index H x y) k ≡ unlinked) e
    (take_finds_unlinked limits H st formed f n ag c (gives_first gives) x y p v (ap f e ∙ t))
takes_find_unlinked limits H f (c ∷ cs) st n gives formed ag (suc m) x y p v t =
    let u : suc n + m ≡ n + suc m = omega arith in
    subst (λ (k : ℕ). link H f (screen_index H x y) k ≡ unlinked) u
    (takes_find_unlinked limits H f cs (step limits H st c).after (suc n) (gives_rest gives) (formed_step limits H st formed c)
    (agree_step limits H st formed f n ag c (gives_first gives)) m x y p v (ap f u ∙ t))
