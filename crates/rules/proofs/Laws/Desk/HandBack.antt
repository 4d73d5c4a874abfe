-- The hand-back at one desk (the second half of demand 3): how many collects are still needed to hand a retired session back, while no
-- screen shows it.
use Rattle.std.specs.Prelude.{◌%◌, ℕ, suc, ◌+◌, ◌*◌, ◌≤◌, ◌<◌, ◌≡◌, refl, true, List, [], ◌∷◌, ◌++◌, map, length, drop}
use Rattle.std.proofs.Common.{arith, sym, ap, ◌∙◌, length-append}
use Rattle.std.proofs.lemmas.List.{length-map}
use Rattle.rules.specs.Demands.{readings, sharper_bound}
use Rattle.rules.specs.Hall.{Desk, TestedSlot, unmarked, used_slots}
use Rattle.rules.specs.Lists.{occurrences}
use Rattle.rules.specs.Steps.{begin, begin_at, collect, hand_back, mark_each, marked_of, next_screens, owe, renumber, retire, scan, settle, settle_if, unmarked_of}
use Rattle.rules.proofs.Laws.Desk.Collect.{Orderly, Scanning, begin_keeps, by_scan, copies_on, read_on, scanned-within}
use Rattle.rules.proofs.Laws.Desk.Marks.{length-mark_each, marked_copies_begin, marked_copies_mark_each, occurrences-next_screens, tested_copies-begin}
use Rattle.rules.proofs.Laws.Desk.Marks.{tested_copies-mark_each, tested_copies, unmarked_and_marked}
use Rattle.rules.proofs.Laws.Desk.Sound.{ScanFits}
use Rattle.rules.proofs.Laws.Lists.Lists.{drop-after-first, indicator, occurrences-append, occurrences-drop-append, occurrences_past_end}

-- B collects are left, after which no more than m copies of s are on the list.
pub data Due (S s B m : ℕ) (D : Desk) : Type 0 where
  -- the reading that was under way at the retire goes on
  this_reading : 1 ≤ length D.tested → D.scanned % 2 ≡ 0 → 4 * S + 4 * readings S ≤ 2 * B + D.scanned + 2 → Due S s B m D
  -- no reading is under way
  no_reading : D.tested ≡ [] → 2 * S + readings S ≤ B + 1 → Due S s B m D
  -- the next reading is under way: no copy of s is marked, and those that wait are among the m
  next_reading : 1 ≤ length D.tested → D.scanned % 2 ≡ 0 → occurrences s (marked_of D.tested) ≡ 0 → occurrences s D.waiting ≤ m
      → 4 * S + 2 * readings S ≤ 2 * B + D.scanned + 2 → Due S s B m D
  -- all that are not among the m are ready, near enough to the front
  is_ready : occurrences s (drop B D.ready) + tested_copies s D.tested + occurrences s D.waiting ≤ m → Due S s B m D

-- At the retire, with enough collects ahead.
pub due_start : (S s B m : ℕ) (D : Desk) → sharper_bound S ≤ B → ScanFits S D.scanned D.tested → Due S s B m D
due_start S s B m D hB fits = by_cases D.tested refl fits
  where
    by_cases : (t : List TestedSlot) → D.tested ≡ t → ScanFits S D.scanned t → Due S s B m D
    by_cases [] e f = no_reading e (omega arith)
    by_cases (p ∷ ps) e f = this_reading (omega (arith, ap length e)) f.0 (omega arith)

-- With none ahead: a reading cannot take more collects than are left.
pub due_end : (S s m : ℕ) (D : Desk) → 1 ≤ S → Orderly S D → Due S s 0 m D → copies_on s D ≤ m
due_end S s m D hS ok (is_ready h) = h
due_end S s m D hS ok (this_reading h1 he h2) = absurd (omega (arith, scanned-within S D.scanned D.tested hS ok.going))
due_end S s m D hS ok (no_reading h1 h2) = absurd (omega arith)
due_end S s m D hS ok (next_reading h1 he h2 h3 h4) = absurd (omega (arith, scanned-within S D.scanned D.tested hS ok.going))

-- A retire of v: the copy that it adds is among those that may stay.
pub due_retire : (S s v B m : ℕ) (D : Desk) → D.owed ≡ v → Due S s B m D → Due S s B (indicator s v + m) (retire D)
due_retire S s v B m D q (this_reading h1 he h2) = this_reading h1 he h2
due_retire S s v B m D q (no_reading h1 h2) = no_reading h1 h2
due_retire S s v B m D q (next_reading h1 he h2 h3 h4) =
    next_reading h1 he h2 (omega (arith, occurrences-append s D.waiting (D.owed ∷ []), ap (indicator s) q)) h4
due_retire S s v B m D q (is_ready h) = is_ready (omega (arith, occurrences-append s D.waiting (D.owed ∷ []), ap (indicator s) q))

-- (a): what was waiting is tested, unmarked.
due_begin : (S s B m : ℕ) (D : Desk) → Orderly S D → Due S s (suc B) m D → Due S s (suc B) m (begin D)
due_begin S s B m D ok d = at D.tested refl ok.going d
  where
    start : (w : List ℕ) → D.waiting ≡ w → D.scanned ≡ 0 → 2 * S + readings S ≤ suc B + 1 → Due S s (suc B) m (begin_at [] D)
    start [] q k0 h = no_reading (ap (map unmarked) q) h
    start (x ∷ w) q k0 h =
        next_reading (omega (arith, ap length q, length-map D.waiting unmarked)) (omega arith) (marked_copies_begin s D.waiting) (omega arith)
        (omega arith)

    at : (t : List TestedSlot) → D.tested ≡ t → Scanning S D.scanned t → Due S s (suc B) m D → Due S s (suc B) m (begin_at t D)
    at [] e g (this_reading h1 he h2) = absurd (omega (arith, ap length e))
    at [] e g (no_reading h1 h2) = start D.waiting refl g h2
    at [] e g (next_reading h1 he h2 h3 h4) = absurd (omega (arith, ap length e))
    at [] e g (is_ready h) = is_ready (omega (arith, ap (tested_copies s) e, tested_copies-begin s D.waiting))
    at (p ∷ ps) e g h = h

-- with nothing tested after (a), nothing waits either
none_left : (D : Desk) → (begin D).tested ≡ [] → (begin D).waiting ≡ []
none_left D = at D.tested refl
  where
    at : (t : List TestedSlot) → D.tested ≡ t → (begin_at t D).tested ≡ [] → (begin_at t D).waiting ≡ []
    at [] e h = refl
    at (p ∷ ps) e h = let z : ◌≡◌ {A = ℕ} (suc (length ps)) 0 = sym (ap length e) ∙ ap length h in absurd (omega arith)

-- (b) to (d)
due_scan : (S s B m : ℕ) (shown : List ℕ) (A : Desk) → 1 ≤ S → length shown ≡ S → occurrences s shown ≡ 0 → used_slots A ≤ 2 * S
    → Scanning S A.scanned A.tested → (A.tested ≡ [] → A.waiting ≡ []) → Due S s (suc B) m A
    → Due S s B m (hand_back (settle S (scan shown A))).after
due_scan S s B m shown A hS hl hid tot g nil d = by_scan (λ (X : Desk). Due S s B m (hand_back X).after) S shown A hS hl g (rest d) (on d) (over d)
  where
    rest : Due S s (suc B) m A → A.tested ≡ [] → Due S s B m (hand_back A).after
    rest (this_reading a1 ae a2) e = absurd (omega (arith, ap length e))
    rest (no_reading a1 a2) e =
        is_ready
        (rw drop-after-first (omega (arith, occurrences_past_end s (suc B) A.ready (omega arith), ap (tested_copies s) e, ap (occurrences s) (nil e))))
    rest (next_reading a1 ae a2 a3 a4) e = absurd (omega (arith, ap length e))
    rest (is_ready a) e = is_ready (rw drop-after-first a)

    on : Due S s (suc B) m A → 1 ≤ length A.tested → length (next_screens shown A) ≡ 2 → A.scanned + 2 < S
        → Due S s B m (hand_back (read_on shown A)).after
    on (this_reading a1 ae a2) h1 h2 h3 = this_reading (omega (arith, length-mark_each (next_screens shown A) A.tested)) (omega arith) (omega arith)
    on (no_reading a1 a2) h1 h2 h3 = absurd (omega (arith, ap length a1))
    on (next_reading a1 ae a2 a3 a4) h1 h2 h3 =
        next_reading (omega (arith, length-mark_each (next_screens shown A) A.tested)) (omega arith)
        (marked_copies_mark_each s (next_screens shown A) A.tested (occurrences-next_screens s A.scanned shown hid) ∙ a2) a3 (omega arith)
    on (is_ready a) h1 h2 h3 = is_ready (rw drop-after-first (omega (arith, tested_copies-mark_each s (next_screens shown A) A.tested)))

    over : Due S s (suc B) m A → 1 ≤ length A.tested → A.scanned < S → S ≤ A.scanned + 2 → A.scanned + length (next_screens shown A) ≡ S
        → Due S s B m (hand_back (settle_if true (read_on shown A))).after
    over (this_reading a1 ae a2) h1 h2 h3 h4 = no_reading refl (omega arith)
    over (no_reading a1 a2) h1 h2 h3 h4 = absurd (omega (arith, ap length a1))
    over (next_reading a1 ae a2 a3 a4) h1 h2 h3 h4 =
        let t = mark_each (next_screens shown A) A.tested in
        let ks = marked_copies_mark_each s (next_screens shown A) A.tested (occurrences-next_screens s A.scanned shown hid) in
        let lw = length-mark_each (next_screens shown A) A.tested in
        let fk = unmarked_and_marked t in
        let la = length-append A.ready (unmarked_of t) in
        let cf = occurrences_past_end s (suc B) (A.ready ++ unmarked_of t) (omega arith) in
        let ca = occurrences-append s (marked_of t) A.waiting in
        is_ready (rw drop-after-first (omega arith))
    over (is_ready a) h1 h2 h3 h4 =
        let t = mark_each (next_screens shown A) A.tested in
        let bs = tested_copies-mark_each s (next_screens shown A) A.tested in
        let cd = occurrences-drop-append s (suc B) A.ready (unmarked_of t) in
        let ca = occurrences-append s (marked_of t) A.waiting in
        is_ready (rw drop-after-first (omega arith))

pub due_collect : (S s B m : ℕ) (shown : List ℕ) (D : Desk) → 1 ≤ S → length shown ≡ S → occurrences s shown ≡ 0 → Orderly S D → Due S s (suc B) m D
    → Due S s B m (collect S shown D).after
due_collect S s B m shown D hS hl hid ok d =
    let b = begin_keeps S D hS ok in
    due_scan S s B m shown (begin D) hS hl hid (omega (arith, b.total, ok.total)) b.going (none_left D) (due_begin S s B m D ok d)

-- What a swap makes the desk owe has no part in it.
pub due_owe : (S s B m o : ℕ) (D : Desk) → Due S s B m D → Due S s B m (owe D o)
due_owe S s B m o D (this_reading a b c) = this_reading a b c
due_owe S s B m o D (no_reading a b) = no_reading a b
due_owe S s B m o D (next_reading a b c d e) = next_reading a b c d e
due_owe S s B m o D (is_ready a) = is_ready a

pub due_renumbered : (S s B m n : ℕ) (D : Desk) → Due S s B m D → Due S s B m (renumber D n)
due_renumbered S s B m n D (this_reading a b c) = this_reading a b c
due_renumbered S s B m n D (no_reading a b) = no_reading a b
due_renumbered S s B m n D (next_reading a b c d e) = next_reading a b c d e
due_renumbered S s B m n D (is_ready a) = is_ready a
