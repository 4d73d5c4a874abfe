-- A ring's table and the table of the first board that it reads as: what is read, and what is replaced.
use Rattle.std.specs.Prelude.{ℕ, zero, suc, ◌+◌, ◌*◌, ◌-◌, ◌≤◌, ◌<◌, ◌≡◌, refl, Bool, true, List, ◌∷◌, ◌++◌, map, length, get_or, take, drop, set}
use Rattle.std.proofs.Common.{arith, mul-le-mul_right, sym, ap, ap₂, ◌∙◌, subst, append_assoc, length-append, length-drop, length-set, take-append-drop, drop_at, drop-drop, drop-set-lt, get_or-drop, get_or-take, length-take-le, take-add, take_at}
use Rattle.std.proofs.Math.ListN.{get_or-append}
use Rattle.std.proofs.Math.Seq.{drop-append-add, take-append-add, take-set-lt}
use Rattle.std.proofs.lemmas.List.{set-append_left}
use Rattle.rules.specs.Hall.{Hall, all_screens}
use Rattle.rules.specs.Lists.{chunks, every}
use Rattle.rules.specs.Table.{hall_in, header_words, put_record, record_of, record_start, record_width, records_in, tail_offset, width_for}
use Rattle.rules.proofs.Laws.Lists.Bools.{and_left, and_right, and-true}
use Rattle.rules.proofs.Laws.Lists.ListSlices.{set_mid}
use Rattle.ring_rules.specs.Ring.{front_words, put_ring, ring_need, ring_record_of, ring_records_in, ring_start, ring_width_for, linear, linear_in, linear_records}
use Rattle.ring_rules.proofs.Laws.Records.{linear-head, linear-length, linear-set, linear_set_tail, linear_tail}

-- ---- Records of w words, one after another: record i, from 0, replaced.
abbrev put : ℕ → ℕ → List ℕ → List ℕ → List ℕ
put i w x q = take (i * w) x ++ (q ++ drop w (drop (i * w) x))

put_first : (w : ℕ) (x q : List ℕ) → put 0 w x q ≡ q ++ drop w x
put_first w x q = let e : 0 * w ≡ 0 = omega arith in ap (λ (k : ℕ). take k x ++ (q ++ drop w (drop k x))) e

put_later : (i w : ℕ) (a y q : List ℕ) → length a ≡ w → put (suc i) w (a ++ y) q ≡ a ++ put i w y q
put_later i w a y q h =
    let e : suc i * w ≡ length a + i * w = omega arith in
    ap (λ (k : ℕ). take k (a ++ y) ++ (q ++ drop w (drop k (a ++ y)))) e
    ∙ ap₂ {C = List ℕ} (λ u v. u ++ (q ++ drop w v)) (take-append-add a y (i * w)) (drop-append-add a y (i * w))
    ∙ append_assoc a (take (i * w) y) (q ++ drop w (drop (i * w) y))

-- a test of all records, when one is replaced
pub every_put : (f : List ℕ → Bool) (n w i : ℕ) (x q : List ℕ) → n * w ≤ length x → length q ≡ w → f q ≡ true → i < n
    → every f (chunks n w x) ≡ true → every f (chunks n w (put i w x q)) ≡ true
every_put f zero w i x q hx hq fq hi e = absurd (omega arith)
every_put f (suc n) w zero x q hx hq fq hi e =
    ap (λ (y : List ℕ). every f (chunks (suc n) w y)) (put_first w x q)
    ∙ and-true (f (take w (q ++ drop w x))) (every f (chunks n w (drop w (q ++ drop w x))))
    (ap f (take_at q (drop w x) w hq) ∙ fq)
    (ap (λ (y : List ℕ). every f (chunks n w y)) (drop_at q (drop w x) w hq) ∙ and_right (f (take w x)) (every f (chunks n w (drop w x))) e)
every_put f (suc n) w (suc i) x q hx hq fq hi e =
    let a : List ℕ = take w x in
    let y : List ℕ = drop w x in
    let la : length a ≡ w = length-take-le w x (omega arith) in
    let s : put (suc i) w x q ≡ a ++ put i w y q = ap (λ (z : List ℕ). put (suc i) w z q) (sym (take-append-drop w x)) ∙ put_later i w a y q la in
    ap (λ (z : List ℕ). every f (chunks (suc n) w z)) s
    ∙ and-true (f (take w (a ++ put i w y q))) (every f (chunks n w (drop w (a ++ put i w y q))))
    (ap f (take_at a (put i w y q) w la) ∙ and_left (f a) (every f (chunks n w y)) e)
    (ap (λ (z : List ℕ). every f (chunks n w z)) (drop_at a (put i w y q) w la)
    ∙ every_put f n w i y q (omega (arith, length-drop w x)) hq fq (omega arith) (and_right (f a) (every f (chunks n w y)) e))

-- ---- The records of a ring, and those that they read as.
module _ (S : ℕ) where
  piece_length : (x : List ℕ) → ring_width_for S ≤ length x → length (linear S (take (ring_width_for S) x)) ≡ width_for S
  piece_length x h = linear-length S (take (ring_width_for S) x) (length-take-le (ring_width_for S) x h)

  pub linear-chunks : (n : ℕ) (x : List ℕ) → n * ring_width_for S ≤ length x
      → chunks n (width_for S) (linear_records S n x) ≡ map (linear S) (chunks n (ring_width_for S) x)
  linear-chunks zero x h = refl
  linear-chunks (suc n) x h =
      let a : List ℕ = linear S (take (ring_width_for S) x) in
      let y : List ℕ = linear_records S n (drop (ring_width_for S) x) in
      let la : length a ≡ width_for S = piece_length x (omega arith) in
      λ j. take_at a y (width_for S) la j ∷ (ap (chunks n (width_for S)) (drop_at a y (width_for S) la) ∙ linear-chunks n (drop (ring_width_for S) x) (omega (arith, length-drop (ring_width_for S) x))) j

  pub linear_records-length : (n : ℕ) (x : List ℕ) → n * ring_width_for S ≤ length x → length (linear_records S n x) + n ≡ length x
  linear_records-length zero x h = omega arith
  linear_records-length (suc n) x h =
      let a : List ℕ = linear S (take (ring_width_for S) x) in
      let y : List ℕ = linear_records S n (drop (ring_width_for S) x) in
      omega (arith, length-append a y, piece_length x (omega arith), length-drop (ring_width_for S) x, linear_records-length n (drop (ring_width_for S) x) (omega (arith, length-drop (ring_width_for S) x)))

  linear_at : (n i : ℕ) (x : List ℕ) → n * ring_width_for S ≤ length x → i < n
      → take (width_for S) (drop (i * width_for S) (linear_records S n x)) ≡ linear S (take (ring_width_for S) (drop (i * ring_width_for S) x))
  linear_at zero i x h l = absurd (omega arith)
  linear_at (suc n) zero x h l =
      let a : List ℕ = linear S (take (ring_width_for S) x) in
      let y : List ℕ = linear_records S n (drop (ring_width_for S) x) in
      let e : 0 * width_for S ≡ 0 = omega arith in
      let g : 0 ≡ 0 * ring_width_for S = omega arith in
      ap (λ (k : ℕ). take (width_for S) (drop k (a ++ y))) e ∙ take_at a y (width_for S) (piece_length x (omega arith))
      ∙ ap (λ (k : ℕ). linear S (take (ring_width_for S) (drop k x))) g
  linear_at (suc n) (suc i) x h l =
      let a : List ℕ = linear S (take (ring_width_for S) x) in
      let y : List ℕ = linear_records S n (drop (ring_width_for S) x) in
      let e : suc i * width_for S ≡ length a + i * width_for S = omega (arith, piece_length x (omega arith)) in
      let g : ring_width_for S + i * ring_width_for S ≡ suc i * ring_width_for S = omega arith in
      ap (λ (k : ℕ). take (width_for S) (drop k (a ++ y))) e ∙ ap (take (width_for S)) (drop-append-add a y (i * width_for S))
      ∙ linear_at n i (drop (ring_width_for S) x) (omega (arith, length-drop (ring_width_for S) x)) (omega arith)
      ∙ ap (λ (z : List ℕ). linear S (take (ring_width_for S) z)) (drop-drop (i * ring_width_for S) (ring_width_for S) x ∙ ap (λ (k : ℕ). drop k x) g)

  linear_put : (n i : ℕ) (x q : List ℕ) → n * ring_width_for S ≤ length x → length q ≡ ring_width_for S → i < n
      → linear_records S n (put i (ring_width_for S) x q) ≡ put i (width_for S) (linear_records S n x) (linear S q)
  linear_put zero i x q hx hq l = absurd (omega arith)
  linear_put (suc n) zero x q hx hq l =
      let a : List ℕ = linear S (take (ring_width_for S) x) in
      let y : List ℕ = linear_records S n (drop (ring_width_for S) x) in
      ap (linear_records S (suc n)) (put_first (ring_width_for S) x q)
      ∙ ap₂ {C = List ℕ} (λ u v. linear S u ++ linear_records S n v) (take_at q (drop (ring_width_for S) x) (ring_width_for S) hq) (drop_at q (drop (ring_width_for S) x) (ring_width_for S) hq)
      ∙ ap {B = List ℕ} (λ u. linear S q ++ u) (sym (drop_at a y (width_for S) (piece_length x (omega arith))))
      ∙ sym (put_first (width_for S) (a ++ y) (linear S q))
  linear_put (suc n) (suc i) x q hx hq l =
      let b : List ℕ = take (ring_width_for S) x in
      let z : List ℕ = drop (ring_width_for S) x in
      let lb : length b ≡ ring_width_for S = length-take-le (ring_width_for S) x (omega arith) in
      let s : put (suc i) (ring_width_for S) x q ≡ b ++ put i (ring_width_for S) z q =
      ap (λ (u : List ℕ). put (suc i) (ring_width_for S) u q) (sym (take-append-drop (ring_width_for S) x)) ∙ put_later i (ring_width_for S) b z q lb in
      ap (linear_records S (suc n)) s
      ∙ ap₂ {C = List ℕ} (λ u v. linear S u ++ linear_records S n v) (take_at b (put i (ring_width_for S) z q) (ring_width_for S) lb) (drop_at b (put i (ring_width_for S) z q) (ring_width_for S) lb)
      ∙ ap {B = List ℕ} (λ u. linear S b ++ u) (linear_put n i z q (omega (arith, length-drop (ring_width_for S) x)) hq (omega arith))
      ∙ sym (put_later i (width_for S) (linear S b) (linear_records S n z) (linear S q) (piece_length x (omega arith)))

-- ---- Tables.
-- what stands past the first n words, replaced
put_past : (n k w : ℕ) (t q : List ℕ) → take (n + k) t ++ (q ++ drop w (drop (n + k) t)) ≡ take n t ++ (take k (drop n t) ++ (q ++ drop w (drop k (drop n t))))
put_past n k w t q =
    ap₂ {C = List ℕ} (λ u v. u ++ (q ++ drop w v)) (take-add n k t) (sym (drop-drop k n t))
    ∙ append_assoc (take n t) (take k (drop n t)) (q ++ drop w (drop k (drop n t)))

-- one store, as a record of w words replaced
store_record : (t : List ℕ) (a w i v : ℕ) → a + w ≤ length t → i < w → set t (a + i) v ≡ take a t ++ (set (take w (drop a t)) i v ++ drop w (drop a t))
store_record t a w i v h g =
    let s : t ≡ take a t ++ (take w (drop a t) ++ drop w (drop a t)) = sym (ap {B = List ℕ} (λ u. take a t ++ u) (take-append-drop w (drop a t)) ∙ take-append-drop a t) in
    ap (λ (u : List ℕ). set u (a + i) v) s
    ∙ set_mid (take a t) (take w (drop a t)) (drop w (drop a t)) a (length-take-le a t (omega arith)) i v (omega (arith, length-take-le w (drop a t) (omega (arith, length-drop a t))))

-- tables with the same front have the same hall
pub same_hall : (n : ℕ) (t u : List ℕ) → header_words ≤ n → take n t ≡ take n u → hall_in t ≡ hall_in u
same_hall n t u h e = λ j. record { desks = at 0 (omega arith) j; screens = at 1 (omega arith) j; positions = at 2 (omega arith) j }
  where
    at : (i : ℕ) → i < header_words → get_or t i 0 ≡ get_or u i 0
    at i l = sym (get_or-take n t i 0 (omega arith)) ∙ ap (λ (x : List ℕ). get_or x i 0) e ∙ get_or-take n u i 0 (omega arith)

module _ (H : Hall) (t : List ℕ) (long : ring_need H ≤ length t) where
  abbrev T : List ℕ
  T = linear_in H t

  abbrev S : ℕ
  S = all_screens H

  abbrev n : ℕ
  n = front_words H

  abbrev x : List ℕ
  x = drop n t

  front_long : length (take n t) ≡ n
  front_long = length-take-le n t (omega arith)

  rows_fit : H.desks * ring_width_for S ≤ length x
  rows_fit = omega (arith, length-drop n t)

  pub front_same : take n T ≡ take n t
  front_same = take_at (take n t) (linear_records S H.desks x) n front_long

  pub rows_same : drop n T ≡ linear_records S H.desks x
  rows_same = drop_at (take n t) (linear_records S H.desks x) n front_long

  pub linear_table-length : length T + H.desks ≡ length t
  linear_table-length =
      omega (arith, length-append (take n t) (linear_records S H.desks x), front_long, length-drop n t, linear_records-length S H.desks x rows_fit)

  pub hall_same : hall_in T ≡ hall_in t
  hall_same = same_hall n T t (omega arith) front_same

  -- a word before the records
  pub word_same : (i : ℕ) → i < n → get_or T i 0 ≡ get_or t i 0
  word_same i h = get_or-append (take n t) (linear_records S H.desks x) 0 i (omega (arith, front_long)) ∙ get_or-take n t i 0 h

  pub word_stored : (i v : ℕ) → i < n → linear_in H (set t i v) ≡ set T i v
  word_stored i v h =
      ap₂ {C = List ℕ} (λ a b. a ++ linear_records S H.desks b) (take-set-lt n t i v h) (drop-set-lt n t i v h)
      ∙ sym (set-append_left (take n t) (linear_records S H.desks x) i v (omega (arith, front_long)))

  -- all records
  pub records_same : records_in H T ≡ map (linear S) (ring_records_in H t)
  records_same =
      let e : header_words + (H.positions + S) ≡ n = omega arith in
      ap (chunks H.desks (width_for S))
      (drop-drop S H.positions (drop header_words T) ∙ drop-drop (H.positions + S) header_words T ∙ ap (λ (k : ℕ). drop k T) e ∙ rows_same)
      ∙ linear-chunks S H.desks x rows_fit

  module _ (d : ℕ) (first : 1 ≤ d) (last : d ≤ H.desks) where
    pub record_same : record_of H T d ≡ linear S (ring_record_of H t d)
    record_same =
        ap (take (width_for S)) (sym (drop-drop ((d - 1) * width_for S) n T) ∙ ap (drop ((d - 1) * width_for S)) rows_same)
        ∙ linear_at S H.desks (d - 1) x rows_fit (omega arith)
        ∙ ap (λ (y : List ℕ). linear S (take (ring_width_for S) y)) (drop-drop ((d - 1) * ring_width_for S) n t)

    pub record_within : ring_start H d + ring_width_for S ≤ ring_need H
    record_within = let m : suc (d - 1) * ring_width_for S ≤ H.desks * ring_width_for S = mul-le-mul_right (ring_width_for S) (omega arith) in omega arith

    pub record_long : length (ring_record_of H t d) ≡ ring_width_for S
    record_long = length-take-le (ring_width_for S) (drop (ring_start H d) t) (omega (arith, length-drop (ring_start H d) t, record_within))

    put_front : (q : List ℕ) → take n (put_ring H t d q) ≡ take n t
    put_front q =
        ap (take n) (put_past n ((d - 1) * ring_width_for S) (ring_width_for S) t q)
        ∙ take_at (take n t) (put (d - 1) (ring_width_for S) x q) n front_long

    put_rows : (q : List ℕ) → drop n (put_ring H t d q) ≡ put (d - 1) (ring_width_for S) x q
    put_rows q =
        ap (drop n) (put_past n ((d - 1) * ring_width_for S) (ring_width_for S) t q)
        ∙ drop_at (take n t) (put (d - 1) (ring_width_for S) x q) n front_long

    pub put_hall : (q : List ℕ) → hall_in (put_ring H t d q) ≡ hall_in t
    put_hall q = same_hall n (put_ring H t d q) t (omega arith) (put_front q)

    pub put_same : (q : List ℕ) → length q ≡ ring_width_for S → linear_in H (put_ring H t d q) ≡ put_record H T d (linear S q)
    put_same q hq =
        (λ j. put_front q j ++ linear_records S H.desks (put_rows q j))
        ∙ ap {B = List ℕ} (λ y. take n t ++ y) (linear_put S H.desks (d - 1) x q rows_fit hq (omega arith))
        ∙ sym (put_past n ((d - 1) * width_for S) (width_for S) T (linear S q) ∙ (λ j. front_same j ++ put (d - 1) (width_for S) (rows_same j) (linear S q)))

    pub put_every : (f : List ℕ → Bool) (q : List ℕ) → length q ≡ ring_width_for S → f q ≡ true → every f (ring_records_in H t) ≡ true → every f (ring_records_in H (put_ring H t d q)) ≡ true
    put_every f q hq fq e =
        ap (λ (y : List ℕ). every f (chunks H.desks (ring_width_for S) y)) (put_rows q)
        ∙ every_put f H.desks (ring_width_for S) (d - 1) x q rows_fit hq fq (omega arith) e

    pub put_long : (q : List ℕ) → length q ≡ ring_width_for S → length (put_ring H t d q) ≡ length t
    put_long q hq =
        let a = ring_start H d in
        omega (arith, length-append (take a t) (q ++ drop (ring_width_for S) (drop a t)), length-append q (drop (ring_width_for S) (drop a t)), length-take-le a t (omega (arith, record_within)), length-drop (ring_width_for S) (drop a t), length-drop a t, record_within)

    -- a word of the record
    pub word_put : (i v : ℕ) → i < ring_width_for S → set t (ring_start H d + i) v ≡ put_ring H t d (set (ring_record_of H t d) i v)
    word_put i v h = store_record t (ring_start H d) (ring_width_for S) i v (omega (arith, record_within)) h

    -- at the same offset in both records
    word_linear : (i v : ℕ) → i < width_for S → linear S (set (ring_record_of H t d) i v) ≡ set (linear S (ring_record_of H t d)) i v
        → linear_in H (set t (ring_start H d + i) v) ≡ set T (record_start H d + i) v
    word_linear i v h same =
        let r = ring_record_of H t d in
        let m : suc (d - 1) * width_for S ≤ H.desks * width_for S = mul-le-mul_right (width_for S) (omega arith) in
        ap (linear_in H) (word_put i v (omega arith)) ∙ put_same (set r i v) (length-set r i v ∙ record_long)
        ∙ ap (put_record H T d) (same ∙ ap (λ (y : List ℕ). set y i v) (sym record_same))
        ∙ sym (store_record T (record_start H d) (record_width H) i v (omega (arith, linear_table-length)) h)

    -- the owed word and the message number
    pub owed_linear : (v : ℕ) → linear_in H (set t (ring_start H d) v) ≡ set T (record_start H d) v
    owed_linear v =
        let e : ring_start H d ≡ ring_start H d + 0 = omega arith in
        let f : record_start H d + 0 ≡ record_start H d = omega arith in
        ap (λ (k : ℕ). linear_in H (set t k v)) e
        ∙ word_linear 0 v (omega arith) (linear-set S (ring_record_of H t d) record_long 0 v (omega arith))
        ∙ ap (λ (k : ℕ). set T k v) f

    pub number_linear : (v : ℕ) → linear_in H (set t (ring_start H d + tail_offset S) v) ≡ set T (record_start H d + tail_offset S) v
    number_linear v =
        let e : tail_offset S + 0 ≡ tail_offset S = omega arith in
        word_linear (tail_offset S) v (omega arith)
        (subst (λ (k : ℕ). linear S (set (ring_record_of H t d) k v) ≡ set (linear S (ring_record_of H t d)) k v) e
        (linear_set_tail S (ring_record_of H t d) record_long 0 v (omega arith)))

    -- the words that both hold: the owed session and the message number
    word_of : (x : List ℕ) (start width i : ℕ) → i < width → get_or (take width (drop start x)) i 0 ≡ get_or x (start + i) 0
    word_of x start width i h = get_or-take width (drop start x) i 0 h ∙ get_or-drop start x i 0

    same_word : (i : ℕ) → i < width_for S → get_or (linear S (ring_record_of H t d)) i 0 ≡ get_or (ring_record_of H t d) i 0 → get_or T (record_start H d + i) 0 ≡ get_or t (ring_start H d + i) 0
    same_word i h same =
        sym (word_of T (record_start H d) (width_for S) i h) ∙ ap (λ (x : List ℕ). get_or x i 0) record_same ∙ same ∙ word_of t (ring_start H d) (ring_width_for S) i (omega arith)

    pub owed_same : get_or T (record_start H d) 0 ≡ get_or t (ring_start H d) 0
    owed_same =
        let e : record_start H d ≡ record_start H d + 0 = omega arith in
        let f : ring_start H d + 0 ≡ ring_start H d = omega arith in
        ap (λ (k : ℕ). get_or T k 0) e ∙ same_word 0 (omega arith) (linear-head S (ring_record_of H t d) record_long 0 (omega arith)) ∙ ap (λ (k : ℕ). get_or t k 0) f

    pub number_same : get_or T (record_start H d + tail_offset S) 0 ≡ get_or t (ring_start H d + tail_offset S) 0
    number_same =
        let e : tail_offset S + 0 ≡ tail_offset S = omega arith in
        same_word (tail_offset S) (omega arith)
        (subst (λ (k : ℕ). get_or (linear S (ring_record_of H t d)) k 0 ≡ get_or (ring_record_of H t d) k 0) e (linear_tail S (ring_record_of H t d) record_long 0 (omega arith)))
