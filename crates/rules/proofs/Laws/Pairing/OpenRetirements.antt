-- The retirements of one session by one desk that are not handed back, one for each copy on the desk's list;
-- those that a screen is linked to are no more than the copies tested and waiting.
use Rattle.std.specs.Prelude.{ℕ, zero, suc, ◌+◌, ◌≤◌, ◌<◌, max, ◌≡◌, refl, Bool, true, false, cond, List, [], ◌∷◌, ◌++◌, length, get_or, drop, eqb}
use Rattle.std.proofs.Common.{arith, ap, ◌∙◌, subst, length-append, get_or-drop, get_or-take}
use Rattle.std.proofs.Math.Decide.{ℕ_discrete, dec_lt, dec_le}
use Rattle.rules.specs.Hall.{Desk, Hall, State, TestedSlot, all_screens, screen_index}
use Rattle.rules.specs.History.{Action, Effect, ◌by◌, collects, drops, hands_back, no_action, out_of_room, retires, swaps, takes}
use Rattle.rules.specs.Lists.{occurrences}
use Rattle.rules.specs.Steps.{begin, begin_at, hand_back, mark, mark_each, marked_of, next_screens, owe, scan, settle, settle_if, unmarked_of}
use Rattle.rules.proofs.Laws.Desk.Collect.{Scanning, by_scan, copies_on, read_on, scanned-within}
use Rattle.rules.proofs.Laws.Desk.Marks.{length-next_screens, mark_finds_a_copy, tested_copies-begin, tested_copies-mark, tested_copies-mark_each}
use Rattle.rules.proofs.Laws.Desk.Marks.{tested_copies}
use Rattle.rules.proofs.Laws.History.Actions.{same_action}
use Rattle.rules.proofs.Laws.Lists.Lists.{indicator, indicator_at_most_one, indicator_other, indicator_same, occurrences-append}
use Rattle.rules.proofs.Laws.Pairing.Links.{Agree, Link, ScreensAgree, before_retire, before_swap, link, linked_to, next, unlinked}

-- 1 if the screen is linked to the retirement at r
abbrev pub ties : ℕ → Link → ℕ
ties r unlinked = 0
ties r (before_swap p) = 0
ties r (before_retire e) = 0
ties r (linked_to q) = indicator q r

-- 1 if one of the first k screens is, before index n
abbrev pub live : Hall → (ℕ → Effect) → ℕ → ℕ → ℕ → ℕ
live H f n zero r = 0
live H f n (suc k) r = max (live H f n k r) (ties r (link H f k n))

abbrev pub sum_over : (ℕ → ℕ) → List ℕ → ℕ
sum_over g [] = 0
sum_over g (r ∷ us) = g r + sum_over g us

sum-append : (g : ℕ → ℕ) (xs ys : List ℕ) → sum_over g (xs ++ ys) ≡ sum_over g xs + sum_over g ys
sum-append g [] ys = omega arith
sum-append g (x ∷ xs) ys = omega (arith, sum-append g xs ys)

sum_le : (g g' : ℕ → ℕ) (us : List ℕ) → ((r : ℕ) → 1 ≤ occurrences r us → g r ≤ g' r) → sum_over g us ≤ sum_over g' us
sum_le g g' [] h = omega arith
sum_le g g' (r ∷ us) h = omega (arith, h r (omega (arith, indicator_same r)), sum_le g g' us (λ x q. h x (omega arith)))

sum_none : (us : List ℕ) → sum_over (λ r. 0) us ≡ 0
sum_none [] = refl
sum_none (r ∷ us) = omega (arith, sum_none us)

sum_linked : (q : ℕ) (us : List ℕ) → sum_over (λ r. indicator q r) us ≡ occurrences q us
sum_linked q [] = refl
sum_linked q (r ∷ us) = omega (arith, sum_linked q us)

sum_max : (g h : ℕ → ℕ) (us : List ℕ) → sum_over (λ r. max (g r) (h r)) us ≤ sum_over g us + sum_over h us
sum_max g h [] = omega arith
sum_max g h (r ∷ us) = omega (arith, sum_max g h us)

-- A retirement that is made stays linked to no more screens.
ties_if : (r most : ℕ) (b : Bool) (x y : Link) → ties r x ≤ most → ties r y ≤ most → ties r (cond b x y) ≤ most
ties_if r most true x y h g = h
ties_if r most false x y h g = g

ties-next : (H : Hall) (x n d : ℕ) (a : Action) (l : Link) (r : ℕ) → (n ≡ r → ⊥) → ties r (next H x n d a l) ≤ ties r l
ties-next H x n d (takes c p v) unlinked r h = ties_if r 0 (eqb (screen_index H d c) x) (before_swap p) unlinked (omega arith) (omega arith)
ties-next H x n d (takes c p v) (before_swap q) r h = omega arith
ties-next H x n d (takes c p v) (before_retire q) r h = omega arith
ties-next H x n d (takes c p v) (linked_to q) r h = omega arith
ties-next H x n d (drops c) l r h = ties_if r (ties r l) (eqb (screen_index H d c) x) unlinked l (omega arith) (omega arith)
ties-next H x n d (swaps p) unlinked r h = omega arith
ties-next H x n d (swaps p) (before_swap q) r h = ties_if r 0 (eqb p q) (before_retire d) (before_swap q) (omega arith) (omega arith)
ties-next H x n d (swaps p) (before_retire q) r h = omega arith
ties-next H x n d (swaps p) (linked_to q) r h = omega arith
ties-next H x n d (retires s) unlinked r h = omega arith
ties-next H x n d (retires s) (before_swap q) r h = omega arith
ties-next H x n d (retires s) (before_retire q) r h =
    ties_if r 0 (eqb d q) (linked_to n) (before_retire q) (omega (arith, indicator_other n r h)) (omega arith)
ties-next H x n d (retires s) (linked_to q) r h = omega arith
ties-next H x n d out_of_room l r h = omega arith
ties-next H x n d collects l r h = omega arith
ties-next H x n d (hands_back s) l r h = omega arith
ties-next H x n d no_action l r h = omega arith

-- A screen is linked only to a retirement before index n.
pub ties_earlier : (H : Hall) (f : ℕ → Effect) (x n r : ℕ) → n ≤ r → ties r (link H f x n) ≡ 0
ties_earlier H f x zero r h = refl
ties_earlier H f x (suc n) r h =
    omega (
      arith,
      ties-next H x n (f n).desk (f n).action (link H f x n) r (λ t. omega arith),
      ties_earlier H f x n r (omega arith),
    )

module _ (H : Hall) (f : ℕ → Effect) (n : ℕ) where
  pub live-next : (k r : ℕ) → r < n → live H f (suc n) k r ≤ live H f n k r
  live-next zero r h = omega arith
  live-next (suc k) r h = omega (arith, live-next k r h, ties-next H k n (f n).desk (f n).action (link H f k n) r (λ t. omega arith))

  live_up : (S k r : ℕ) → k ≤ S → live H f n k r ≤ live H f n S r
  live_up zero zero r h = omega arith
  live_up zero (suc k) r h = absurd (omega arith)
  live_up (suc S) k r h = by_cases (ℕ_discrete k (suc S)) (live_up S k r)
    where
      by_cases : Dec (k ≡ suc S) → (k ≤ S → live H f n k r ≤ live H f n S r) → live H f n k r ≤ live H f n (suc S) r
      by_cases (yes t) ih = rw t (omega arith)
      by_cases (no t) ih = omega (arith, ih (omega arith))

  pub live_at : (S x r : ℕ) → x < S → ties r (link H f x n) ≤ live H f n S r
  live_at zero x r h = absurd (omega arith)
  live_at (suc S) x r h = by_cases (ℕ_discrete x S) (live_at S x r)
    where
      by_cases : Dec (x ≡ S) → (x < S → ties r (link H f x n) ≤ live H f n S r) → ties r (link H f x n) ≤ live H f n (suc S) r
      by_cases (yes t) ih = rw t (omega arith)
      by_cases (no t) ih = omega (arith, ih (omega arith))

  pub live_at_most_one : (k r : ℕ) → live H f n k r ≤ 1
  live_at_most_one zero r = omega arith
  live_at_most_one (suc k) r = omega (arith, live_at_most_one k r, by_cases (link H f k n))
    where
      by_cases : (l : Link) → ties r l ≤ 1
      by_cases unlinked = omega arith
      by_cases (before_swap p) = omega arith
      by_cases (before_retire e) = omega arith
      by_cases (linked_to q) = indicator_at_most_one q r

  sum-start : (k : ℕ) (us : List ℕ) → k ≡ 0 → sum_over (live H f n k) us ≡ 0
  sum-start k us e = rw e (sum_none us)

  -- One screen more: no more than one retirement more, and none unless the screen shows s.
  one_screen_more : (d s : ℕ) (st : State) → ScreensAgree H f n st → (us : List ℕ) → ((r : ℕ) → occurrences r us ≤ 1)
      → ((r : ℕ) → 1 ≤ occurrences r us → f r ≡ retires s by d) → (k : ℕ) → k < all_screens H
      → sum_over (live H f n (suc k)) us ≤ sum_over (live H f n k) us + indicator s (get_or st.shown k 0)
  one_screen_more d s st ag us one mine k h = omega (arith, sum_max (live H f n k) (λ r. ties r (link H f k n)) us, by_cases (link H f k n) (ag k h))
    where
      by_cases : (l : Link) → Agree f st (get_or st.shown k 0) l → sum_over (λ r. ties r l) us ≤ indicator s (get_or st.shown k 0)
      by_cases unlinked a = omega (arith, sum_none us)
      by_cases (before_swap p) a = omega (arith, sum_none us)
      by_cases (before_retire e) a = omega (arith, sum_none us)
      by_cases (linked_to q) a = at (dec_le 1 (occurrences q us))
        where
          at : Dec (1 ≤ occurrences q us) → sum_over (λ r. indicator q r) us ≤ indicator s (get_or st.shown k 0)
          at (yes t) =
              let same = same_action a.2 (mine q t) in
              let v : get_or st.shown k 0 ≡ s = cc in
              rw v (omega (arith, sum_linked q us, one q, indicator_same s))
          at (no t) = omega (arith, sum_linked q us)

-- The marks keep up with a count g that grows by at most one for a session read that is s, and stays within the copies.
marks_cover_reads : (s : ℕ) (g : ℕ → ℕ) (vs : List ℕ) (ps : List TestedSlot) → ((j : ℕ) → j < length vs → g (suc j) ≤ g j + indicator s (get_or vs j 0))
    → ((j : ℕ) → j ≤ length vs → g j ≤ tested_copies s ps) → g 0 ≤ occurrences s (marked_of ps) → g (length vs) ≤ occurrences s (marked_of (mark_each vs ps))
marks_cover_reads s g [] ps grows within start = start
marks_cover_reads s g (v ∷ vs) ps grows within start =
    marks_cover_reads s (λ j. g (suc j)) vs (mark v ps) (λ j hj. grows (suc j) (omega arith))
    (λ j hj. omega (arith, within (suc j) (omega arith), tested_copies-mark s v ps))
    (omega (arith, mark_finds_a_copy s v ps, grows 0 (omega arith), within 1 (omega arith)))

-- The retirements of s not handed back: those made before the pass under way began, and the later ones.
pub record Held (H : Hall) (f : ℕ → Effect) (s n : ℕ) (D : Desk) (old new : List ℕ) : Type 0 where
  pub sum : length old + length new ≡ copies_on s D
  pub tests : sum_over (live H f n (all_screens H)) old ≤ tested_copies s D.tested
  pub marks : sum_over (live H f n D.scanned) old ≤ occurrences s (marked_of D.tested)
  pub waits : sum_over (live H f n (all_screens H)) new ≤ occurrences s D.waiting

pub record Tokens (H : Hall) (f : ℕ → Effect) (s n : ℕ) (D : Desk) (count : ℕ → ℕ) : Type 0 where
  pub old : List ℕ
  pub new : List ℕ
  pub same : (r : ℕ) → occurrences r old + occurrences r new ≡ count r
  pub held : Held H f s n D old new

-- the same retirements, at another index or with another list
pub tokens_with : {H : Hall} {f : ℕ → Effect} {s n m : ℕ} {D E : Desk} {count : ℕ → ℕ} (t : Tokens H f s n D count) → Held H f s m E t.old t.new
    → Tokens H f s m E count
tokens_with t held = record { old = t.old; new = t.new; same = t.same; held = held }

-- One leaves that no screen is linked to.
pub record Leaves (H : Hall) (f : ℕ → Effect) (s n : ℕ) (D : Desk) (count : ℕ → ℕ) : Type 0 where
  pub it : ℕ
  pub loose : live H f n (all_screens H) it ≡ 0
  pub old : List ℕ
  pub new : List ℕ
  pub same : (r : ℕ) → indicator r it + (occurrences r old + occurrences r new) ≡ count r
  pub held : Held H f s n D old new

-- a retirement at which g is 0, and the others
record Pick (g : ℕ → ℕ) (us : List ℕ) : Type 0 where
  it : ℕ
  rest : List ℕ
  none : g it ≡ 0
  count : (x : ℕ) → occurrences x us ≡ indicator x it + occurrences x rest
  fewer : length us ≡ suc (length rest)
  less : (g' : ℕ → ℕ) → sum_over g' rest ≤ sum_over g' us

pick : (g : ℕ → ℕ) (us : List ℕ) → sum_over g us < length us → Pick g us
pick g [] h = absurd (omega arith)
pick g (r ∷ us) h = by_cases (ℕ_discrete (g r) 0) (pick g us)
  where
    by_cases : Dec (g r ≡ 0) → (sum_over g us < length us → Pick g us) → Pick g (r ∷ us)
    by_cases (yes t) ih = record { it = r; rest = us; none = t; count = λ x. refl; fewer = refl; less = λ g'. omega arith }
    by_cases (no t) ih =
        let p = ih (omega arith) in
        record {
          it = p.it;
          rest = r ∷ p.rest;
          none = p.none;
          count = λ x. omega (arith, p.count x);
          fewer = omega (arith, p.fewer);
          less = λ g'. omega (arith, p.less g');
        }

module _ (H : Hall) (f : ℕ → Effect) (s n : ℕ) (count : ℕ → ℕ) where
  -- one index later, with the same list
  pub tokens_later : (D : Desk) (o : ℕ) → ((r : ℕ) → 1 ≤ count r → r < n) → Tokens H f s n D count → Tokens H f s (suc n) (owe D o) count
  tokens_later D o earlier t =
      tokens_with t
      (record {
        sum = t.held.sum;
        tests = omega (arith, t.held.tests, fewer (all_screens H) t.old (λ r q. omega (arith, t.same r)));
        marks = omega (arith, t.held.marks, fewer D.scanned t.old (λ r q. omega (arith, t.same r)));
        waits = omega (arith, t.held.waits, fewer (all_screens H) t.new (λ r q. omega (arith, t.same r)));
      })
    where
      fewer : (k : ℕ) (us : List ℕ) → ((r : ℕ) → 1 ≤ occurrences r us → 1 ≤ count r) → sum_over (live H f (suc n) k) us ≤ sum_over (live H f n k) us
      fewer k us h = sum_le (live H f (suc n) k) (live H f n k) us (λ r q. live-next H f n k r (earlier r (h r q)))

  -- (a)
  pub begin_tokens : (D : Desk) → Scanning (all_screens H) D.scanned D.tested → Tokens H f s n D count → Tokens H f s n (begin D) count
  begin_tokens D g t = by_cases D.tested refl g
    where
      by_cases : (ps : List TestedSlot) → D.tested ≡ ps → Scanning (all_screens H) D.scanned ps → Tokens H f s n (begin_at ps D) count
      by_cases [] e g =
          let h = t.held in
          let la = length-append t.old t.new in
          let be = ap (tested_copies s) e in
          let bf = tested_copies-begin s D.waiting in
          let ta = sum-append (live H f n (all_screens H)) t.old t.new in
          record {
            old = t.old ++ t.new;
            new = [];
            same = λ r. omega (arith, occurrences-append r t.old t.new, t.same r);
            held = record {
              sum = omega (arith, h.sum);
              tests = omega (arith, h.tests, h.waits);
              marks = omega (arith, sum-start H f n D.scanned (t.old ++ t.new) g);
              waits = omega arith;
            };
          }
      by_cases (p ∷ ps) e g = t

  -- (b) and (c)
  pub scan_tokens : (d : ℕ) (st : State) → ScreensAgree H f n st → ((r : ℕ) → count r ≤ 1) → ((r : ℕ) → 1 ≤ count r → f r ≡ retires s by d)
      → 1 ≤ all_screens H → length st.shown ≡ all_screens H → (A : Desk) → Scanning (all_screens H) A.scanned A.tested → Tokens H f s n A count
      → Tokens H f s n (settle (all_screens H) (scan st.shown A)) count
  scan_tokens d st ag one mine hS hl A g t = by_scan (λ (X : Desk). Tokens H f s n X count) (all_screens H) st.shown A hS hl g (λ e. t) on over
    where
      vs : List ℕ
      vs = next_screens st.shown A

      -- of the older ones, those linked to one of the screens read so far, and j more
      linked : ℕ → ℕ
      linked j = sum_over (live H f n (A.scanned + j)) t.old

      read : linked (length vs) ≤ occurrences s (marked_of (mark_each vs A.tested))
      read = marks_cover_reads s linked vs A.tested grows within (rw start at t.held.marks)
        where
          start : A.scanned ≡ A.scanned + 0
          start = omega arith

          grows : (j : ℕ) → j < length vs → linked (suc j) ≤ linked j + indicator s (get_or vs j 0)
          grows j hj =
              let next : A.scanned + suc j ≡ suc (A.scanned + j) = omega arith in
              let ls = length-next_screens A.scanned st.shown in
              let there : get_or vs j 0 ≡ get_or st.shown (A.scanned + j) 0 =
              get_or-take 2 (drop A.scanned st.shown) j 0 (omega arith) ∙ get_or-drop A.scanned st.shown j 0 in
              rw (next, there)
              (one_screen_more H f n d s st ag t.old (λ r. omega (arith, one r, t.same r)) (λ r q. mine r (omega (arith, t.same r)))
              (A.scanned + j) (omega arith))

          within : (j : ℕ) → j ≤ length vs → linked j ≤ tested_copies s A.tested
          within j hj =
              let ls = length-next_screens A.scanned st.shown in
              let far : A.scanned + j ≤ all_screens H = omega (arith, scanned-within (all_screens H) A.scanned A.tested hS g) in
              let u =
              sum_le (live H f n (A.scanned + j)) (live H f n (all_screens H)) t.old
              (λ r q. live_up H f n (all_screens H) (A.scanned + j) r far) in
              omega (arith, t.held.tests)

      on : 1 ≤ length A.tested → length (next_screens st.shown A) ≡ 2 → A.scanned + 2 < all_screens H → Tokens H f s n (read_on st.shown A) count
      on h1 h2 h3 =
          let b = tested_copies-mark_each s (next_screens st.shown A) A.tested in
          let h = t.held in
          tokens_with t (record { sum = omega (arith, h.sum); tests = omega (arith, h.tests); marks = read; waits = h.waits })

      over : 1 ≤ length A.tested → A.scanned < all_screens H → all_screens H ≤ A.scanned + 2
          → A.scanned + length (next_screens st.shown A) ≡ all_screens H → Tokens H f s n (settle_if true (read_on st.shown A)) count
      over h1 h2 h3 h4 =
          let ps = (read_on st.shown A).tested in
          let b = tested_copies-mark_each s (next_screens st.shown A) A.tested in
          let h = t.held in
          let rd : sum_over (live H f n (all_screens H)) t.old ≤ occurrences s (marked_of ps) =
          subst (λ (j : ℕ). sum_over (live H f n j) t.old ≤ occurrences s (marked_of ps)) h4 read in
          let la = length-append t.old t.new in
          let ca = occurrences-append s A.ready (unmarked_of ps) in
          let cb = occurrences-append s (marked_of ps) A.waiting in
          let ta = sum-append (live H f n (all_screens H)) t.old t.new in
          record {
            old = [];
            new = t.old ++ t.new;
            same = λ r. omega (arith, occurrences-append r t.old t.new, t.same r);
            held = record { sum = omega (arith, h.sum); tests = omega arith; marks = omega arith; waits = omega (arith, h.waits) };
          }

  -- (d): another session, or none
  pub hand_back_other : (X : Desk) → (s ≡ get_or X.ready 0 0 → ⊥) → Tokens H f s n X count → Tokens H f s n (hand_back X).after count
  hand_back_other X ne t =
      let h = t.held in tokens_with t (record { sum = omega (arith, h.sum, left X.ready ne); tests = h.tests; marks = h.marks; waits = h.waits })
    where
      left : (r : List ℕ) → (s ≡ get_or r 0 0 → ⊥) → occurrences s (drop 1 r) ≡ occurrences s r
      left [] q = refl
      left (x ∷ r) q = omega (arith, indicator_other s x q)

  -- (d): s itself
  pub hand_back_same : (X : Desk) → (s ≡ 0 → ⊥) → s ≡ get_or X.ready 0 0 → Tokens H f s n X count → Leaves H f s n (hand_back X).after count
  hand_back_same X nz e t = by_cases (dec_lt (sum_over (live H f n (all_screens H)) t.old) (length t.old))
    where
      left : (r : List ℕ) → s ≡ get_or r 0 0 → suc (occurrences s (drop 1 r)) ≡ occurrences s r
      left [] q = absurd (nz q)
      left (x ∷ r) q = rw (← q) (omega (arith, indicator_same s))

      by_cases : Dec (sum_over (live H f n (all_screens H)) t.old < length t.old) → Leaves H f s n (hand_back X).after count
      by_cases (yes l) =
          let p = pick (live H f n (all_screens H)) t.old l in
          let h = t.held in
          record {
            it = p.it;
            loose = p.none;
            old = p.rest;
            new = t.new;
            same = λ r. omega (arith, p.count r, t.same r);
            held = record {
              sum = omega (arith, p.fewer, h.sum, left X.ready e);
              tests = omega (arith, p.less (live H f n (all_screens H)), h.tests);
              marks = omega (arith, p.less (live H f n X.scanned), h.marks);
              waits = h.waits;
            };
          }
      by_cases (no l) =
          let h = t.held in
          let p = pick (live H f n (all_screens H)) t.new (omega (arith, h.sum, left X.ready e, h.tests, h.waits)) in
          record {
            it = p.it;
            loose = p.none;
            old = t.old;
            new = p.rest;
            same = λ r. omega (arith, p.count r, t.same r);
            held = record {
              sum = omega (arith, p.fewer, h.sum, left X.ready e);
              tests = h.tests;
              marks = h.marks;
              waits = omega (arith, p.less (live H f n (all_screens H)), h.waits);
            };
          }
