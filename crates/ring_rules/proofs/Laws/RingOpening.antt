-- An opened ring: it is sound, and reads as an opened first board.
use Rattle.std.specs.Prelude.{ℕ, zero, suc, ◌+◌, ◌*◌, ◌-◌, ◌≤◌, ◌≡◌, refl, true, length, take, drop, leb, ltb}
use Rattle.std.proofs.Common.{arith, mul-le-mul, sym, ap₂, ◌∙◌, subst, length-append, drop_at, drop-drop, take_at, leb-true, lt-ltb}
use Rattle.std.proofs.Math.Path.{ap}
use mathlib.Core.List.{List, [], ◌∷◌, ◌++◌, append_assoc, append-nil}
use Rattle.std.proofs.Math.ListN.{replicate, replicate-append-replicate}
use Rattle.std.proofs.lemmas.List.{length-replicate}
use Rattle.rules.specs.Hall.{Hall, Limits, all_screens, empty_desk, max_all_screens, max_desks, max_positions, max_screens}
use Rattle.rules.specs.Steps.{Result, accept, decide, first_no, in_range, refuse}
use Rattle.rules.specs.Lists.{chunks, every}
use Rattle.rules.specs.Table.{encode_desk, header_words, in_hall, in_limits, list_offset, need, opened_table, record_sound, tail_words, width_for, within}
use Rattle.rules.proofs.Laws.Lists.Bools.{and-true}
use Rattle.rules.proofs.Laws.History.StepEffects.{holds}
use Rattle.rules.proofs.Laws.Desk.Sound.{encoded_sound}
use Rattle.rules.proofs.Laws.Table.EncodedStep.{empty_desk-sound, limits_fit, some_screens}
use Rattle.ring_rules.specs.Ring.{beginning_in, front_words, open_ring, opened_ring, ring_need, ring_questions, ring_record_sound, ring_sound, ring_width_for, linear, linear_records}
use Rattle.ring_rules.specs.Ring.{linear_table}
use Rattle.ring_rules.proofs.Laws.Records.{beginning_of, linear_of}
use Rattle.ring_rules.proofs.Laws.RingSteps.{known_ring}

zeros_alike : (m n : ℕ) → m ≡ n → replicate {A = ℕ} m 0 ≡ replicate n 0
zeros_alike m n e = ap (λ (x : ℕ). replicate {A = ℕ} x 0) e

-- a record of zeros
module _ (S : ℕ) where
  zero_parts : replicate {A = ℕ} (ring_width_for S) 0 ≡ replicate list_offset 0 ++ (replicate (2 * S) 0 ++ (replicate tail_words 0 ++ (0 ∷ [])))
  zero_parts =
      sym
      (ap {B = List ℕ} (λ x. replicate list_offset 0 ++ (replicate (2 * S) 0 ++ x)) (replicate-append-replicate tail_words 1 0)
      ∙ ap {B = List ℕ} (λ x. replicate list_offset 0 ++ x) (replicate-append-replicate (2 * S) (tail_words + 1) 0)
      ∙ replicate-append-replicate list_offset (2 * S + (tail_words + 1)) 0
      ∙ zeros_alike (list_offset + (2 * S + (tail_words + 1))) (ring_width_for S) (omega arith))

  pub linear_zero : linear S (replicate (ring_width_for S) 0) ≡ replicate (width_for S) 0
  linear_zero =
      ap (linear S) zero_parts
      ∙ linear_of S (replicate list_offset 0) (replicate (2 * S) 0) (replicate tail_words 0) 0 (length-replicate {A = ℕ} list_offset 0) (length-replicate {A = ℕ} (2 * S) 0) (length-replicate {A = ℕ} tail_words 0)
      ∙ ap {B = List ℕ} (λ x. replicate list_offset 0 ++ (x ++ replicate tail_words 0)) (append-nil (replicate (2 * S) 0))
      ∙ ap {B = List ℕ} (λ x. replicate list_offset 0 ++ x) (replicate-append-replicate (2 * S) tail_words 0)
      ∙ replicate-append-replicate list_offset (2 * S + tail_words) 0
      ∙ zeros_alike (list_offset + (2 * S + tail_words)) (width_for S) (omega arith)

  beginning_zero : beginning_in S (replicate (ring_width_for S) 0) ≡ 0
  beginning_zero =
      ap (beginning_in S) zero_parts
      ∙ beginning_of S (replicate list_offset 0) (replicate (2 * S) 0) (replicate tail_words 0) 0 (length-replicate {A = ℕ} list_offset 0) (length-replicate {A = ℕ} (2 * S) 0) (length-replicate {A = ℕ} tail_words 0)

  empty_zero : encode_desk S empty_desk ≡ replicate (width_for S) 0
  unfolding encode_desk
  empty_zero =
      ap {B = List ℕ} (λ x. replicate list_offset 0 ++ x) (replicate-append-replicate (2 * S - 0) 1 0) ∙ replicate-append-replicate list_offset (2 * S - 0 + 1) 0
      ∙ zeros_alike (list_offset + (2 * S - 0 + 1)) (width_for S) (omega arith)

  zero_sound : 1 ≤ S → S ≤ max_all_screens → ring_record_sound S (replicate (ring_width_for S) 0) ≡ true
  zero_sound some most =
      and-true (ltb (beginning_in S (replicate (ring_width_for S) 0)) (2 * S)) (record_sound S (linear S (replicate (ring_width_for S) 0)))
      (ap (λ (k : ℕ). ltb k (2 * S)) beginning_zero ∙ lt-ltb 0 (2 * S) (omega arith))
      (ap (record_sound S) (linear_zero ∙ sym empty_zero) ∙ encoded_sound S empty_desk most (empty_desk-sound S))

  row : (n w : ℕ) (rest : List ℕ) → replicate {A = ℕ} (suc n * w) 0 ++ rest ≡ replicate w 0 ++ (replicate (n * w) 0 ++ rest)
  row n w rest =
      ap {B = List ℕ} (λ x. x ++ rest) (zeros_alike (suc n * w) (w + n * w) (omega arith) ∙ sym (replicate-append-replicate w (n * w) 0)) ∙ append_assoc (replicate w 0) (replicate (n * w) 0) rest

  no_rows : (w : ℕ) (rest : List ℕ) → replicate {A = ℕ} (0 * w) 0 ++ rest ≡ rest
  no_rows w rest = ap {B = List ℕ} (λ x. x ++ rest) (zeros_alike (0 * w) 0 (omega arith))

  linear-zeros : (n : ℕ) (rest : List ℕ) → linear_records S n (replicate (n * ring_width_for S) 0 ++ rest) ≡ replicate (n * width_for S) 0 ++ rest
  linear-zeros zero rest = no_rows (ring_width_for S) rest ∙ sym (no_rows (width_for S) rest)
  linear-zeros (suc n) rest =
      let a : List ℕ = replicate (ring_width_for S) 0 in
      let y : List ℕ = replicate (n * ring_width_for S) 0 ++ rest in
      let l : length a ≡ ring_width_for S = length-replicate {A = ℕ} (ring_width_for S) 0 in
      ap (linear_records S (suc n)) (row n (ring_width_for S) rest)
      ∙ ap₂ {C = List ℕ} (λ u v. linear S u ++ linear_records S n v) (take_at a y (ring_width_for S) l) (drop_at a y (ring_width_for S) l)
      ∙ ap₂ {C = List ℕ} (λ u v. u ++ v) linear_zero (linear-zeros n rest)
      ∙ sym (row n (width_for S) rest)

  every_zero : (n : ℕ) (rest : List ℕ) → 1 ≤ S → S ≤ max_all_screens → every (ring_record_sound S) (chunks n (ring_width_for S) (replicate (n * ring_width_for S) 0 ++ rest)) ≡ true
  every_zero zero rest some most = refl
  every_zero (suc n) rest some most =
      let a : List ℕ = replicate (ring_width_for S) 0 in
      let y : List ℕ = replicate (n * ring_width_for S) 0 ++ rest in
      let l : length a ≡ ring_width_for S = length-replicate {A = ℕ} (ring_width_for S) 0 in
      ap (λ (x : List ℕ). every (ring_record_sound S) (chunks (suc n) (ring_width_for S) x)) (row n (ring_width_for S) rest)
      ∙ and-true (ring_record_sound S (take (ring_width_for S) (a ++ y))) (every (ring_record_sound S) (chunks n (ring_width_for S) (drop (ring_width_for S) (a ++ y))))
      (ap (ring_record_sound S) (take_at a y (ring_width_for S) l) ∙ zero_sound some most)
      (ap (λ (x : List ℕ). every (ring_record_sound S) (chunks n (ring_width_for S) x)) (drop_at a y (ring_width_for S) l) ∙ every_zero n rest some most)

-- ---- An opened table, in its parts: the words before the records, the records, and what stands past the need.
module _ (H : Hall) where
  abbrev front : List ℕ
  front = H.desks ∷ H.screens ∷ H.positions ∷ replicate (H.positions + all_screens H) 0

  front_length : length front ≡ front_words H
  front_length = omega (arith, length-replicate {A = ℕ} (H.positions + all_screens H) 0)

  in_parts : (m : ℕ) (rest : List ℕ) → (H.desks ∷ H.screens ∷ H.positions ∷ replicate (H.positions + all_screens H + m) 0) ++ rest ≡ front ++ (replicate m 0 ++ rest)
  in_parts m rest =
      ap {B = List ℕ} (λ x. H.desks ∷ H.screens ∷ H.positions ∷ (x ++ rest)) (sym (replicate-append-replicate (H.positions + all_screens H) m 0))
      ∙ ap {B = List ℕ} (λ x. H.desks ∷ H.screens ∷ H.positions ∷ x) (append_assoc (replicate (H.positions + all_screens H) 0) (replicate m 0) rest)

  ring_parts : (t : List ℕ) → opened_ring H t ≡ front ++ (replicate (H.desks * ring_width_for (all_screens H)) 0 ++ drop (ring_need H) t)
  ring_parts t =
      ap {B = List ℕ} (λ x. (H.desks ∷ H.screens ∷ H.positions ∷ x) ++ drop (ring_need H) t) (zeros_alike (ring_need H - header_words) (H.positions + all_screens H + H.desks * ring_width_for (all_screens H)) (omega arith))
      ∙ in_parts (H.desks * ring_width_for (all_screens H)) (drop (ring_need H) t)

  table_parts : (t : List ℕ) → opened_table H t ≡ front ++ (replicate (H.desks * width_for (all_screens H)) 0 ++ drop (need H) t)
  table_parts t =
      ap {B = List ℕ} (λ x. (H.desks ∷ H.screens ∷ H.positions ∷ x) ++ drop (need H) t) (zeros_alike (need H - header_words) (H.positions + all_screens H + H.desks * width_for (all_screens H)) (omega arith))
      ∙ in_parts (H.desks * width_for (all_screens H)) (drop (need H) t)

  -- the ring reads as the first board that is opened on a table with P words fewer
  pub opened_reads : (t : List ℕ) → linear_table (opened_ring H t) ≡ opened_table H (drop H.desks t)
  opened_reads t =
      let S = all_screens H in
      let rest : List ℕ = drop (ring_need H) t in
      let e : H.desks + need H ≡ ring_need H = omega arith in
      let past : drop (need H) (drop H.desks t) ≡ rest = drop-drop (need H) H.desks t ∙ ap (λ (k : ℕ). drop k t) e in
      ap linear_table (ring_parts t)
      ∙ ap₂ {C = List ℕ} (λ u v. u ++ linear_records S H.desks v) (take_at front (replicate (H.desks * ring_width_for S) 0 ++ rest) (front_words H) front_length) (drop_at front (replicate (H.desks * ring_width_for S) 0 ++ rest) (front_words H) front_length)
      ∙ ap {B = List ℕ} (λ u. front ++ u) (linear-zeros S H.desks rest)
      ∙ sym (table_parts (drop H.desks t) ∙ ap {B = List ℕ} (λ u. front ++ (replicate (H.desks * width_for S) 0 ++ u)) past)

  pub opened-sound : (limits : Limits) (t : List ℕ) → in_limits limits H ≡ true → ring_sound limits (opened_ring H t) ≡ true
  opened-sound limits t inside =
      let S = all_screens H in
      let rest : List ℕ = drop (ring_need H) t in
      let fits = limits_fit limits H inside in
      let most : S ≤ max_all_screens = mul-le-mul fits.desks.1 fits.screens.1 in
      ap (ring_sound limits) (ring_parts t)
      ∙ known_ring limits (front ++ (replicate (H.desks * ring_width_for S) 0 ++ rest)) (record {
        inside = inside;
        long = omega (arith, length-append front (replicate (H.desks * ring_width_for S) 0 ++ rest), length-append (replicate (H.desks * ring_width_for S) 0) rest, front_length, length-replicate {A = ℕ} (H.desks * ring_width_for S) 0);
        records = ap (λ (x : List ℕ). every (ring_record_sound S) (chunks H.desks (ring_width_for S) x)) (drop_at front (replicate (H.desks * ring_width_for S) 0 ++ rest) (front_words H) front_length) ∙ every_zero S H.desks rest (some_screens H fits) most;
      })

-- ---- The opening, by its two cases.
pub by_opening : (limits : Limits) (Q : Result (List ℕ) → Type 0) (H : Hall) (t : List ℕ)
    → ((n : ℕ) → first_no (ring_questions limits H t) ≡ suc n → Q (refuse (suc n) t))
    → (first_no (ring_questions limits H t) ≡ 0 → Q (accept 0 (opened_ring H t)))
    → Q (open_ring limits H t)
unfolding open_ring
by_opening limits Q H t refused accepted = by_number_lem (first_no (ring_questions limits H t)) refl
  where
    by_number_lem : (n : ℕ) → first_no (ring_questions limits H t) ≡ n → Q (open_ring limits H t)
    by_number_lem zero q = subst Q (sym (ap (λ (m : ℕ). decide m t 0 (opened_ring H t)) q)) (accepted q)
    by_number_lem (suc n) q = subst Q (sym (ap (λ (m : ℕ). decide m t 0 (opened_ring H t)) q)) (refused n q)

-- what an accepted one asked
pub ring_fits : (limits : Limits) (H : Hall) (t : List ℕ) → first_no (ring_questions limits H t) ≡ 0 → (in_limits limits H ≡ true) × (ring_need H ≤ length t)
ring_fits limits H t e =
    let y1 = holds (in_range H.desks max_desks) _ 0 e in
    let y2 = holds (in_range H.screens max_screens) _ 1 y1.1 in
    let y3 = holds (in_range H.positions max_positions) _ 2 y2.1 in
    let y4 = holds (within limits H) _ 21 y3.1 in
    let y5 = holds (leb (ring_need H) (length t)) _ 3 y4.1 in
    (and-true (in_hall H) (within limits H) (and-true _ _ y1.0 (and-true _ _ y2.0 y3.0)) y4.0, leb-true (ring_need H) (length t) y5.0)

pub ring-opens : (limits : Limits) (H : Hall) (t : List ℕ) → (open_ring limits H t).answer.number ≡ 0
    → (in_limits limits H ≡ true) × (ring_need H ≤ length t) × ((open_ring limits H t).after ≡ opened_ring H t)
ring-opens limits H t =
    by_opening limits (λ r. r.answer.number ≡ 0 → (in_limits limits H ≡ true) × (ring_need H ≤ length t) × (r.after ≡ opened_ring H t)) H t
    (λ n q z. absurd (omega arith)) (λ q z. ((ring_fits limits H t q).0, (ring_fits limits H t q).1, refl))
