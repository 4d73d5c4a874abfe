-- Collect and retire at one desk, the counting law of one call: no part of a collect loses or makes a session but the hand-back, which
-- takes one, and a retire adds one. The list stays in order.
use Rattle.std.specs.Prelude.{ℕ, suc, ◌+◌, ◌*◌, ◌≤◌, ◌<◌, ◌≡◌, refl, Bool, true, false, not, List, [], ◌∷◌, map, length, get_or, drop, eqb}
use Rattle.std.proofs.Common.{arith, sym, ap, ◌∙◌, length-append, length-drop, eqb-true}
use Rattle.std.proofs.lemmas.List.{length-map}
use Rattle.std.proofs.lemmas.Bool.{eqb-false}
use Rattle.rules.specs.Hall.{Desk, TestedSlot, unmarked, used_slots}
use Rattle.rules.specs.Lists.{occurrences, to_nat}
use Rattle.rules.specs.Steps.{Collected, begin, begin_at, collect, hand_back, is_session, mark_each, marked_of, next_screens, read_screens, renumber, retire, scan, scan_at}
use Rattle.rules.specs.Steps.{settle, settle_if, unmarked_of}
use Rattle.rules.proofs.Laws.Desk.Marks.{length-mark_each, length-next_screens, tested_copies-begin, tested_copies-mark_each, tested_copies}
use Rattle.rules.proofs.Laws.Desk.Marks.{unmarked_and_marked}
use Rattle.rules.proofs.Laws.Lists.Lists.{indicator, indicator_other, occurrences-append, occurrences-drop}

abbrev pub copies_on : ℕ → Desk → ℕ
copies_on s D = occurrences s D.ready + tested_copies s D.tested + occurrences s D.waiting

-- How far the reading has gone: not begun with nothing tested, and else not at its end.
abbrev pub Scanning : ℕ → ℕ → List TestedSlot → Type 0
Scanning S k [] = k ≡ 0
Scanning S k (p ∷ ps) = k < S

pub scanned-within : (S k : ℕ) (t : List TestedSlot) → 1 ≤ S → Scanning S k t → k < S
scanned-within S k [] hS g = omega arith
scanned-within S k (p ∷ ps) hS g = g

-- What every desk of a history keeps, and these laws need.
pub record Orderly (S : ℕ) (D : Desk) : Type 0 where
  pub total : used_slots D ≤ 2 * S
  pub real : copies_on 0 D ≡ 0
  pub going : Scanning S D.scanned D.tested

-- (b), where some are tested: the next screens are read.
abbrev pub read_on : List ℕ → Desk → Desk
read_on shown A = read_screens (next_screens shown A) A

-- (b) and (c), by cases: nothing is tested, the reading goes on, the reading ends.
pub by_scan : (Q : Desk → Type 0) (S : ℕ) (shown : List ℕ) (A : Desk) → 1 ≤ S → length shown ≡ S → Scanning S A.scanned A.tested
    → (A.tested ≡ [] → Q A)
    → (1 ≤ length A.tested → length (next_screens shown A) ≡ 2 → A.scanned + 2 < S → Q (read_on shown A))
    → (1 ≤ length A.tested → A.scanned < S → S ≤ A.scanned + 2 → A.scanned + length (next_screens shown A) ≡ S → Q (settle_if true (read_on shown A)))
    → Q (settle S (scan shown A))
by_scan Q S shown A hS hl g rest on over = at A.tested refl g
  where
    at : (t : List TestedSlot) → A.tested ≡ t → Scanning S A.scanned t → Q (settle S (scan_at t (next_screens shown A) A))
    at [] e h = idle (eqb A.scanned S) refl
      where
        idle : (b : Bool) → eqb A.scanned S ≡ b → Q (settle_if b A)
        idle true q = absurd (omega (arith, eqb-true A.scanned S q))
        idle false q = rest e
    at (p ∷ ps) e h = reading (eqb (A.scanned + length (next_screens shown A)) S) refl
      where
        some : 1 ≤ length A.tested
        some = omega (arith, ap length e)

        reading : (b : Bool) → eqb (A.scanned + length (next_screens shown A)) S ≡ b → Q (settle_if b (read_on shown A))
        reading true q =
            let ls = length-next_screens A.scanned shown in
            let ks = eqb-true (A.scanned + length (next_screens shown A)) S q in
            over some h (omega arith) ks
        reading false q =
            let ls = length-next_screens A.scanned shown in
            let nk = eqb-false (A.scanned + length (next_screens shown A)) S q in
            on some (omega arith) (omega arith)

-- No slot and no copy more or less, and the reading still in order.
pub record Keeps (S : ℕ) (D E : Desk) : Type 0 where
  pub total : used_slots E ≡ used_slots D
  pub copy : (s : ℕ) → copies_on s E ≡ copies_on s D
  pub going : Scanning S E.scanned E.tested

-- (a)
going_free : (S k : ℕ) (w : List ℕ) → 1 ≤ S → k ≡ 0 → Scanning S k (map unmarked w)
going_free S k [] hS h = h
going_free S k (x ∷ w) hS h = omega arith

pub begin_keeps : (S : ℕ) (D : Desk) → 1 ≤ S → Orderly S D → Keeps S D (begin D)
begin_keeps S D hS ok = by_cases D.tested refl ok.going
  where
    by_cases : (t : List TestedSlot) → D.tested ≡ t → Scanning S D.scanned t → Keeps S D (begin_at t D)
    by_cases [] e g = record {
      total = omega (arith, ap length e, length-map D.waiting unmarked);
      copy = λ s. omega (arith, ap (tested_copies s) e, tested_copies-begin s D.waiting);
      going = going_free S D.scanned D.waiting hS g;
    }
    by_cases (p ∷ ps) e g = record { total = refl; copy = λ s. refl; going = ok.going }

-- (b) and (c)
scan_keeps : (S : ℕ) (shown : List ℕ) (A : Desk) → 1 ≤ S → length shown ≡ S → Scanning S A.scanned A.tested
    → Keeps S A (settle S (scan shown A))
scan_keeps S shown A hS hl g = by_scan (Keeps S A) S shown A hS hl g (λ e. record { total = refl; copy = λ s. refl; going = g }) on over
  where
    busy : (t : List TestedSlot) (k : ℕ) → 1 ≤ length t → k < S → Scanning S k t
    busy [] k h l = absurd (omega arith)
    busy (p ∷ ps) k h l = l

    on : 1 ≤ length A.tested → length (next_screens shown A) ≡ 2 → A.scanned + 2 < S → Keeps S A (read_on shown A)
    on h1 h2 h3 =
        let lw = length-mark_each (next_screens shown A) A.tested in
        record {
          total = omega arith;
          copy = λ s. omega (arith, tested_copies-mark_each s (next_screens shown A) A.tested);
          going = busy (mark_each (next_screens shown A) A.tested) (A.scanned + length (next_screens shown A)) (omega arith) (omega arith);
        }

    over : 1 ≤ length A.tested → A.scanned < S → S ≤ A.scanned + 2 → A.scanned + length (next_screens shown A) ≡ S
        → Keeps S A (settle_if true (read_on shown A))
    over h1 h2 h3 h4 =
        let t = mark_each (next_screens shown A) A.tested in
        let lw = length-mark_each (next_screens shown A) A.tested in
        let fk = unmarked_and_marked t in
        let la = length-append A.ready (unmarked_of t) in
        let lb = length-append (marked_of t) A.waiting in
        record {
          total = omega arith;
          copy = λ s. omega (
            arith,
            tested_copies-mark_each s (next_screens shown A) A.tested,
            occurrences-append s A.ready (unmarked_of t),
            occurrences-append s (marked_of t) A.waiting,
          );
          going = refl;
        }

-- (a) to (c): all of a collect but the hand-back
abbrev pub before_hand_back : ℕ → List ℕ → Desk → Desk
before_hand_back S shown D = settle S (scan shown (begin D))

pub before_hand_back_lem : (S : ℕ) (shown : List ℕ) (D : Desk) → 1 ≤ S → length shown ≡ S → Orderly S D → Keeps S D (before_hand_back S shown D)
before_hand_back_lem S shown D hS hl ok =
    let b = begin_keeps S D hS ok in
    let p = scan_keeps S shown (begin D) hS hl b.going in
    record { total = p.total ∙ b.total; copy = λ s. p.copy s ∙ b.copy s; going = p.going }

-- (d)
first_leaves_copies : (s : ℕ) (r : List ℕ) → (s ≡ 0 → ⊥) → occurrences s (drop 1 r) + indicator s (get_or r 0 0) ≡ occurrences s r
first_leaves_copies s [] h = omega (arith, indicator_other s 0 h)
first_leaves_copies s (x ∷ r) h = omega arith

first_leaves_length : (r : List ℕ) → occurrences 0 r ≡ 0 → length (drop 1 r) + to_nat (is_session (get_or r 0 0)) ≡ length r
first_leaves_length [] h = refl
first_leaves_length (x ∷ r) h = by_cases (eqb x 0) refl
  where
    by_cases : (b : Bool) → eqb x 0 ≡ b → length r + to_nat (not b) ≡ suc (length r)
    by_cases true q = let x0 : x ≡ 0 = eqb-true x 0 q in absurd (omega (arith, rw x0 at h))
    by_cases false q = omega arith

pub collect_orderly : (S : ℕ) (shown : List ℕ) (D : Desk) → 1 ≤ S → length shown ≡ S → Orderly S D → Orderly S (collect S shown D).after
collect_orderly S shown D hS hl ok =
    let b = before_hand_back_lem S shown D hS hl ok in
    let X = before_hand_back S shown D in
    record {
      total = omega (arith, b.total, ok.total, length-drop 1 X.ready);
      real = omega (arith, b.copy 0, ok.real, occurrences-drop 0 1 X.ready);
      going = b.going;
    }

pub collect_copies : (s S : ℕ) (shown : List ℕ) (D : Desk) → 1 ≤ S → length shown ≡ S → Orderly S D → (s ≡ 0 → ⊥)
    → copies_on s (collect S shown D).after + indicator s (collect S shown D).session ≡ copies_on s D
collect_copies s S shown D hS hl ok h =
    let b = before_hand_back_lem S shown D hS hl ok in
    omega (arith, b.copy s, first_leaves_copies s (before_hand_back S shown D).ready h)

pub collect-slots : (S : ℕ) (shown : List ℕ) (D : Desk) → 1 ≤ S → length shown ≡ S → Orderly S D
    → used_slots (collect S shown D).after + to_nat (is_session (collect S shown D).session) ≡ used_slots D
collect-slots S shown D hS hl ok =
    let b = before_hand_back_lem S shown D hS hl ok in
    let X = before_hand_back S shown D in
    let hz : occurrences 0 X.ready ≡ 0 = omega (arith, b.copy 0, ok.real) in
    omega (arith, b.total, first_leaves_length X.ready hz)

-- Retire.
pub retire_orderly : (S : ℕ) (D : Desk) → (D.owed ≡ 0 → ⊥) → used_slots D < 2 * S → Orderly S D → Orderly S (retire D)
retire_orderly S D h l ok = record {
  total = omega (arith, length-append D.waiting (D.owed ∷ []));
  real = omega (arith, ok.real, occurrences-append 0 D.waiting (D.owed ∷ []), indicator_other 0 D.owed (λ q. h (sym q)));
  going = ok.going;
}

pub retire_copies : (s v : ℕ) (D : Desk) → D.owed ≡ v → copies_on s (retire D) ≡ copies_on s D + indicator s v
retire_copies s v D q = omega (arith, occurrences-append s D.waiting (D.owed ∷ []), ap (indicator s) q)

pub retire-slots : (D : Desk) → used_slots (retire D) ≡ used_slots D + 1
retire-slots D = omega (arith, length-append D.waiting (D.owed ∷ []))

-- A collect leaves what the desk owes.
pub owed_collect : (S : ℕ) (shown : List ℕ) (D : Desk) → (collect S shown D).after.owed ≡ D.owed
owed_collect S shown D =
    settled (eqb (scan shown (begin D)).scanned S) (scan shown (begin D)) ∙ scanned (begin D).tested (begin D) ∙ begun D.tested
  where
    settled : (b : Bool) (E : Desk) → (settle_if b E).owed ≡ E.owed
    settled true E = refl
    settled false E = refl

    scanned : (t : List TestedSlot) (E : Desk) → (scan_at t (next_screens shown E) E).owed ≡ E.owed
    scanned [] E = refl
    scanned (p ∷ ps) E = refl

    begun : (t : List TestedSlot) → (begin_at t D).owed ≡ D.owed
    begun [] = refl
    begun (p ∷ ps) = refl

-- The next message number makes no difference to a collect, which leaves it.
pub collect_renumbered : (S : ℕ) (shown : List ℕ) (D : Desk) (n : ℕ)
    → collect S shown (renumber D n) ≡ record { session = (collect S shown D).session; after = renumber (collect S shown D).after n }
collect_renumbered S shown D n =
    ap (λ (E : Desk). hand_back (settle S (scan shown E))) (begun D.tested)
    ∙ ap (λ (E : Desk). hand_back (settle S E)) (scanned (begin D).tested (begin D))
    ∙ ap hand_back (settled (eqb (scan shown (begin D)).scanned S) (scan shown (begin D)))
  where
    begun : (t : List TestedSlot) → begin_at t (renumber D n) ≡ renumber (begin_at t D) n
    begun [] = refl
    begun (p ∷ ps) = refl

    scanned : (t : List TestedSlot) (E : Desk) → scan_at t (next_screens shown E) (renumber E n) ≡ renumber (scan_at t (next_screens shown E) E) n
    scanned [] E = refl
    scanned (p ∷ ps) E = refl

    settled : (b : Bool) (E : Desk) → settle_if b (renumber E n) ≡ renumber (settle_if b E) n
    settled true E = refl
    settled false E = refl

pub next-collect : (S : ℕ) (shown : List ℕ) (D : Desk) → (collect S shown D).after.next ≡ D.next
next-collect S shown D = ap (λ (collected : Collected). collected.after.next) (collect_renumbered S shown D D.next)
