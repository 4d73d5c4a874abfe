-- The room of one desk (the first half of demand 3): how much of it is free after a retire and after a collect, if a collect comes between
-- any two retires. The bounds contain halves of S, so all are doubled.
use Rattle.std.specs.Prelude.{ℕ, ◌+◌, ◌*◌, ◌≤◌, ◌<◌, ◌≡◌, refl, true, List, [], ◌∷◌, ◌++◌, map, length}
use Rattle.std.proofs.Common.{arith, ap, length-append, length-drop}
use Rattle.std.proofs.lemmas.List.{length-map}
use Rattle.rules.specs.Hall.{Desk, TestedSlot, unmarked, used_slots}
use Rattle.rules.specs.Steps.{begin, begin_at, collect, hand_back, marked_of, next_screens, owe, renumber, retire, scan, settle, settle_if, unmarked_of}
use Rattle.rules.proofs.Laws.Desk.Collect.{Scanning, by_scan, read_on}
use Rattle.rules.proofs.Laws.Desk.Marks.{length-mark_each, mark_count-begin, mark_count-mark_each, mark_count, unmarked_and_marked}

-- What holds of the reading: f is 1 if the desk has tried to retire since its last collect, and else 0; w sessions wait.
abbrev pub ScanRoom : ℕ → ℕ → ℕ → List TestedSlot → ℕ → Type 0
ScanRoom S f k [] w = (k ≡ 0) × (2 * w + 1 ≤ 3 * S + 2 * f)
ScanRoom S f k (p ∷ ps) w = (k < S) × (2 * length (p ∷ ps) ≤ 3 * S + 1) × (2 * w + 2 ≤ k + 2 * f) × (mark_count (p ∷ ps) ≤ k)

pub record Room (S f : ℕ) (D : Desk) : Type 0 where
  pub total : used_slots D + 1 ≤ 2 * S + f
  pub pass : ScanRoom S f D.scanned D.tested (length D.waiting)

-- What holds between (a) and (b).
abbrev BegunRoom : ℕ → ℕ → List TestedSlot → ℕ → Type 0
BegunRoom S k [] w = (k ≡ 0) × (w ≡ 0)
BegunRoom S k (p ∷ ps) w = (k < S) × (2 * length (p ∷ ps) ≤ 3 * S + 1) × (2 * w ≤ k) × (mark_count (p ∷ ps) ≤ k)

record RoomBegun (S : ℕ) (D : Desk) : Type 0 where
  total : used_slots D ≤ 2 * S
  pass : BegunRoom S D.scanned D.tested (length D.waiting)

begin-room : (S f : ℕ) (D : Desk) → 1 ≤ S → f ≤ 1 → Room S f D → RoomBegun S (begin D)
begin-room S f D hS hf r = by_cases D.tested refl r.pass
  where
    begun : (w : List ℕ) → D.scanned ≡ 0 → 2 * length w + 1 ≤ 3 * S + 2 * f → BegunRoom S D.scanned (map unmarked w) 0
    begun [] k0 hw = (k0, refl)
    begun (x ∷ w) k0 hw = omega (arith, mark_count-begin w, length-map w unmarked)

    by_cases : (t : List TestedSlot) → D.tested ≡ t → ScanRoom S f D.scanned t (length D.waiting) → RoomBegun S (begin_at t D)
    by_cases [] e p = record {
      total = omega (arith, r.total, ap length e, length-map D.waiting unmarked);
      pass = begun D.waiting p.0 p.1;
    }
    by_cases (q ∷ qs) e p = record { total = omega (arith, r.total); pass = rw e (omega arith) }

-- (d): the first ready one leaves.
hand_back-room : (S : ℕ) (D : Desk) → used_slots D ≤ 2 * S → length D.tested + length D.waiting + 1 ≤ 2 * S
    → ScanRoom S 0 D.scanned D.tested (length D.waiting) → Room S 0 (hand_back D).after
hand_back-room S D h l p = record { total = omega (arith, length-drop 1 D.ready); pass = p }

pub collect-room : (S f : ℕ) (shown : List ℕ) (D : Desk) → 1 ≤ S → f ≤ 1 → length shown ≡ S → Room S f D → Room S 0 (collect S shown D).after
collect-room S f shown D hS hf hl r = after-begin (begin D) (begin-room S f D hS hf r)
  where
    scanning : (k w : ℕ) (t : List TestedSlot) → BegunRoom S k t w → Scanning S k t
    scanning k w [] m = m.0
    scanning k w (p ∷ ps) m = m.0

    busy : (k w : ℕ) (t : List TestedSlot) → 1 ≤ length t → k < S → 2 * length t ≤ 3 * S + 1 → 2 * w + 2 ≤ k → mark_count t ≤ k → ScanRoom S 0 k t w
    busy k w [] h1 h2 h3 h4 h5 = absurd (omega arith)
    busy k w (p ∷ ps) h1 h2 h3 h4 h5 = omega arith

    begun : (k w : ℕ) (t : List TestedSlot) → 1 ≤ length t → BegunRoom S k t w → (2 * length t ≤ 3 * S + 1) × (2 * w ≤ k) × (mark_count t ≤ k)
    begun k w [] h m = absurd (omega arith)
    begun k w (p ∷ ps) h m = (m.1, m.2, m.3)

    after-begin : (A : Desk) → RoomBegun S A → Room S 0 (hand_back (settle S (scan shown A))).after
    after-begin A o =
        by_scan (λ (X : Desk). Room S 0 (hand_back X).after) S shown A hS hl (scanning A.scanned (length A.waiting) A.tested o.pass)
        (λ e. rest e (rw e at o.pass)) on over
      where
        rest : A.tested ≡ [] → BegunRoom S A.scanned [] (length A.waiting) → Room S 0 (hand_back A).after
        rest e m = hand_back-room S A o.total (omega (arith, ap length e)) (rw e (omega arith))

        on : 1 ≤ length A.tested → length (next_screens shown A) ≡ 2 → A.scanned + 2 < S → Room S 0 (hand_back (read_on shown A)).after
        on h1 h2 h3 =
            let m = begun A.scanned (length A.waiting) A.tested h1 o.pass in
            let lw = length-mark_each (next_screens shown A) A.tested in
            let mw = mark_count-mark_each (next_screens shown A) A.tested in
            hand_back-room S (read_on shown A) (omega (arith, o.total)) (omega arith)
            (busy (read_on shown A).scanned (length A.waiting) (read_on shown A).tested (omega arith) (omega arith) (omega arith) (omega arith)
            (omega arith))

        over : 1 ≤ length A.tested → A.scanned < S → S ≤ A.scanned + 2 → A.scanned + length (next_screens shown A) ≡ S
            → Room S 0 (hand_back (settle_if true (read_on shown A))).after
        over h1 h2 h3 h4 =
            let m = begun A.scanned (length A.waiting) A.tested h1 o.pass in
            let lw = length-mark_each (next_screens shown A) A.tested in
            let mw = mark_count-mark_each (next_screens shown A) A.tested in
            let fk = unmarked_and_marked (read_on shown A).tested in
            let la = length-append A.ready (unmarked_of (read_on shown A).tested) in
            let lb = length-append (marked_of (read_on shown A).tested) A.waiting in
            hand_back-room S (settle_if true (read_on shown A)) (omega (arith, o.total)) (omega arith) (omega arith)

pub retire-room : (S : ℕ) (D : Desk) → Room S 0 D → Room S 1 (retire D)
retire-room S D r = record { total = omega (arith, r.total, length-append D.waiting (D.owed ∷ [])); pass = by_cases D.tested r.pass }
  where
    by_cases : (t : List TestedSlot) → ScanRoom S 0 D.scanned t (length D.waiting)
        → ScanRoom S 1 D.scanned t (length (D.waiting ++ (D.owed ∷ [])))
    by_cases [] p = omega (arith, length-append D.waiting (D.owed ∷ []))
    by_cases (q ∷ qs) p = omega (arith, length-append D.waiting (D.owed ∷ []))

-- What a swap makes the desk owe takes no room.
pub owe_room : (S f o : ℕ) (D : Desk) → Room S f D → Room S f (owe D o)
owe_room S f o D r = record { total = r.total; pass = r.pass }

pub room_renumbered : (S f n : ℕ) (D : Desk) → Room S f D → Room S f (renumber D n)
room_renumbered S f n D r = record { total = r.total; pass = r.pass }
