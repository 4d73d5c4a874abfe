-- Soundness of a desk: the steps keep it, and the record of a sound desk passes the board's test.
use Rattle.std.specs.Prelude.{ℕ, zero, suc, ◌+◌, ◌*◌, ◌-◌, ◌%◌, ◌≤◌, ◌<◌, ◌≡◌, refl, Bool, true, false, not, ◌&&◌, List, [], ◌∷◌, ◌++◌, map, length, take, drop, replicate, leb, ltb, eqb}
use Rattle.std.proofs.Common.{arith, ap, ◌∙◌, take_at, drop_at, eq-eqb, ne_eqb, le-leb, lt-ltb}
use Rattle.rules.specs.Hall.{Desk, TestedSlot, marked, max_all_screens, unmarked, used_slots}
use Rattle.rules.specs.Lists.{every, occurrences}
use Rattle.rules.specs.Steps.{begin, begin_at, collect, is_none, is_session, next_screens, owe, renumber, retire, scan, settle}
use Rattle.rules.specs.Table.{all_marks, bits_of_words, encode_desk, list_of, mark_words, marks_of, ones, record_sound, scan_sound, sessions_of, slots_in}
use Rattle.rules.specs.Table.{words_of_bits}
use Rattle.rules.proofs.Laws.Desk.Collect.{Orderly, Scanning, by_scan, collect_orderly, copies_on, read_on, retire_orderly}
use Rattle.rules.proofs.Laws.Desk.Encoding.{length_list, length-marks, mark_bits, marks_read_back, ones-marks, slots_read_back}
use Rattle.rules.proofs.Laws.Desk.Marks.{length-mark_each, mark_count-begin, mark_count-mark_each, mark_count, tested_copies}
use Rattle.rules.proofs.Laws.Lists.Bools.{and-true}
use Rattle.rules.proofs.Laws.Lists.Lists.{occurrences-append}

-- k and the marks, as soundness asks
abbrev pub ScanFits : ℕ → ℕ → List TestedSlot → Type 0
ScanFits S k [] = k ≡ 0
ScanFits S k (p ∷ ps) = (k % 2 ≡ 0) × (2 ≤ k) × (k < S) × (mark_count (p ∷ ps) ≤ k)

pub record Sound (S : ℕ) (D : Desk) : Type 0 where
  pub total : used_slots D ≤ 2 * S
  pub real : copies_on 0 D ≡ 0
  pub pass : ScanFits S D.scanned D.tested

pub sound_orderly : (S : ℕ) (D : Desk) → Sound S D → Orderly S D
sound_orderly S D s = record { total = s.total; real = s.real; going = by_cases D.tested s.pass }
  where
    by_cases : (t : List TestedSlot) → ScanFits S D.scanned t → Scanning S D.scanned t
    by_cases [] p = p
    by_cases (q ∷ qs) p = p.2

-- The steps keep it.
pub sound_owe : (S o : ℕ) (D : Desk) → Sound S D → Sound S (owe D o)
sound_owe S o D s = record { total = s.total; real = s.real; pass = s.pass }

pub sound_renumbered : (S n : ℕ) (D : Desk) → Sound S D → Sound S (renumber D n)
sound_renumbered S n D s = record { total = s.total; real = s.real; pass = s.pass }

pub retire-sound : (S : ℕ) (D : Desk) → (D.owed ≡ 0 → ⊥) → used_slots D < 2 * S → Sound S D → Sound S (retire D)
retire-sound S D h l s = let o = retire_orderly S D h l (sound_orderly S D s) in record { total = o.total; real = o.real; pass = s.pass }

-- between (a) and (b) k may be 0
abbrev BegunFits : ℕ → ℕ → List TestedSlot → Type 0
BegunFits S k [] = k ≡ 0
BegunFits S k (p ∷ ps) = (k % 2 ≡ 0) × (k < S) × (mark_count (p ∷ ps) ≤ k)

begun_scanning : (S k : ℕ) (t : List TestedSlot) → BegunFits S k t → Scanning S k t
begun_scanning S k [] m = m
begun_scanning S k (p ∷ ps) m = m.1

begun_fits : (S : ℕ) (D : Desk) → 1 ≤ S → Sound S D → BegunFits S (begin D).scanned (begin D).tested
begun_fits S D hS s = by_cases D.tested refl s.pass
  where
    start : (w : List ℕ) → D.scanned ≡ 0 → BegunFits S D.scanned (map unmarked w)
    start [] h = h
    start (x ∷ w) h = omega (arith, mark_count-begin w)

    again : (t : List TestedSlot) → ScanFits S D.scanned t → BegunFits S D.scanned t
    again [] p = p
    again (q ∷ qs) p = omega arith

    by_cases : (t : List TestedSlot) → D.tested ≡ t → ScanFits S D.scanned t → BegunFits S (begin_at t D).scanned (begin_at t D).tested
    by_cases [] e p = start D.waiting p
    by_cases (q ∷ qs) e p = again D.tested s.pass

scan_fits : (S : ℕ) (shown : List ℕ) (A : Desk) → 1 ≤ S → length shown ≡ S → BegunFits S A.scanned A.tested
    → ScanFits S (settle S (scan shown A)).scanned (settle S (scan shown A)).tested
scan_fits S shown A hS hl m =
    by_scan (λ (X : Desk). ScanFits S X.scanned X.tested) S shown A hS hl (begun_scanning S A.scanned A.tested m)
    (λ e. rw e (rw e at m)) on (λ h1 h2 h3 h4. refl)
  where
    begun : (t : List TestedSlot) → 1 ≤ length t → BegunFits S A.scanned t → (A.scanned % 2 ≡ 0) × (mark_count t ≤ A.scanned)
    begun [] h m = absurd (omega arith)
    begun (p ∷ ps) h m = (m.0, m.2)

    busy : (k : ℕ) (t : List TestedSlot) → 1 ≤ length t → k % 2 ≡ 0 → 2 ≤ k → k < S → mark_count t ≤ k → ScanFits S k t
    busy k [] h a b c d = absurd (omega arith)
    busy k (p ∷ ps) h a b c d = (a, b, c, d)

    on : 1 ≤ length A.tested → length (next_screens shown A) ≡ 2 → A.scanned + 2 < S → ScanFits S (read_on shown A).scanned (read_on shown A).tested
    on h1 h2 h3 =
        let was = begun A.tested h1 m in
        let lw = length-mark_each (next_screens shown A) A.tested in
        let mw = mark_count-mark_each (next_screens shown A) A.tested in
        busy (read_on shown A).scanned (read_on shown A).tested (omega arith) (omega arith) (omega arith) (omega arith) (omega arith)

pub collect-sound : (S : ℕ) (shown : List ℕ) (D : Desk) → 1 ≤ S → length shown ≡ S → Sound S D → Sound S (collect S shown D).after
collect-sound S shown D hS hl s =
    let o = collect_orderly S shown D hS hl (sound_orderly S D s) in
    record { total = o.total; real = o.real; pass = scan_fits S shown (begin D) hS hl (begun_fits S D hS s) }

-- The record of a sound desk passes the test.
every_real : (xs : List ℕ) → occurrences 0 xs ≡ 0 → every is_session xs ≡ true
every_real [] h = refl
every_real (x ∷ xs) h = and-true (is_session x) (every is_session xs) (ap not (ne_eqb x 0 nz)) (every_real xs (omega arith))
  where
    nz : x ≡ 0 → ⊥
    nz q = omega (arith, rw q at h)

every_zero : (n : ℕ) → every is_none (replicate n 0) ≡ true
every_zero zero = refl
every_zero (suc n) = every_zero n

ones_none : (n : ℕ) → ones (replicate n false) ≡ 0
ones_none zero = refl
ones_none (suc n) = omega (arith, ones_none n)

pub ones-append : (a b : List Bool) → ones (a ++ b) ≡ ones a + ones b
ones-append [] b = omega arith
ones-append (x ∷ a) b = omega (arith, ones-append a b)

occurrences_sessions : (s : ℕ) (ps : List TestedSlot) → occurrences s (sessions_of ps) ≡ tested_copies s ps
occurrences_sessions s [] = refl
occurrences_sessions s (unmarked x ∷ ps) = omega (arith, occurrences_sessions s ps)
occurrences_sessions s (marked x ∷ ps) = omega (arith, occurrences_sessions s ps)

pub occurrences_list : (s : ℕ) (D : Desk) → occurrences s (list_of D) ≡ copies_on s D
occurrences_list s D =
    omega (
      arith,
      occurrences-append s D.ready (sessions_of D.tested ++ D.waiting),
      occurrences-append s (sessions_of D.tested) D.waiting,
      occurrences_sessions s D.tested,
    )

pass_true : (S k : ℕ) (t : List TestedSlot) → ScanFits S k t → scan_sound S (length t) k ≡ true
pass_true S k [] p = eq-eqb k 0 p
pass_true S k (q ∷ qs) p =
    and-true (eqb (k % 2) 0) (leb 2 k && ltb k S) (eq-eqb (k % 2) 0 p.0) (and-true (leb 2 k) (ltb k S) (le-leb 2 k p.1) (lt-ltb k S p.2))

pass_marks : (S k : ℕ) (t : List TestedSlot) → ScanFits S k t → mark_count t ≤ k
pass_marks S k [] p = omega arith
pass_marks S k (q ∷ qs) p = p.3

pub encoded_sound : (S : ℕ) (D : Desk) → S ≤ max_all_screens → Sound S D → record_sound S (encode_desk S D) ≡ true
unfolding encode_desk record_sound
encoded_sound S D h s =
    and-true _ _ (le-leb (used_slots D) (2 * S) s.total)
    (and-true _ _ used
    (and-true _ _ unused
    (and-true _ _ (eq-eqb _ 0 unmarked_behind)
    (and-true _ _ (pass_true S D.scanned D.tested s.pass)
    (le-leb _ D.scanned (rw (ap ones bits) few))))))
  where
    pad : List ℕ
    pad = replicate (2 * S - length (list_of D)) 0

    slots : slots_in S (encode_desk S D) ≡ list_of D ++ pad
    slots = slots_read_back S D s.total

    used : every is_session (take (used_slots D) (slots_in S (encode_desk S D))) ≡ true
    used =
        ap (every is_session) (ap (take (used_slots D)) slots ∙ take_at (list_of D) pad (used_slots D) (length_list D))
        ∙ every_real (list_of D) (occurrences_list 0 D ∙ s.real)

    unused : every is_none (drop (used_slots D) (slots_in S (encode_desk S D))) ≡ true
    unused =
        ap (every is_none) (ap (drop (used_slots D)) slots ∙ drop_at (list_of D) pad (used_slots D) (length_list D))
        ∙ every_zero (2 * S - length (list_of D))

    bits : bits_of_words (words_of_bits mark_words (mark_bits D.tested)) ≡ mark_bits D.tested
    bits = marks_read_back D.tested (omega (arith, s.total))

    unmarked_behind : ones (drop (length D.tested) (bits_of_words (words_of_bits mark_words (mark_bits D.tested)))) ≡ 0
    unmarked_behind =
        ap (λ (b : List Bool). ones (drop (length D.tested) b)) bits
        ∙ ap ones (drop_at (marks_of D.tested) (replicate (all_marks - length D.tested) false) (length D.tested) (length-marks D.tested))
        ∙ ones_none (all_marks - length D.tested)

    few : ones (mark_bits D.tested) ≤ D.scanned
    few = omega (
      arith,
      ones-append (marks_of D.tested) (replicate (all_marks - length D.tested) false),
      ones_none (all_marks - length D.tested),
      ones-marks D.tested,
      pass_marks S D.scanned D.tested s.pass,
    )
