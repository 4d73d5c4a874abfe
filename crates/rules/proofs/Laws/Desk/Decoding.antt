-- A sound record of 16-bit words equals the encoding of the desk that it decodes to.
use Rattle.std.specs.Prelude.{ℕ, zero, suc, ◌+◌, ◌*◌, ◌-◌, ◌/◌, ◌%◌, ◌^◌, ◌≤◌, ◌<◌, ◌≡◌, Bool, true, false, not, ◌&&◌, take, drop, replicate, leb, eqb}
use Rattle.std.proofs.Common.{arith, ap, ◌∙◌, length-append, take-append-drop, take-add, length-take-le, drop-drop, drop-cons, get_or-drop, take_at, drop_at, eqb-true, leb-true}
use Rattle.std.proofs.Math.Path.{refl, sym, ap₂}
use mathlib.Core.List.{List, [], ◌∷◌, ◌++◌, map, append_assoc}
use Rattle.std.proofs.Math.ListN.{length, get_or, length-drop}
use Rattle.std.proofs.lemmas.Bool.{eqb-false}
use Rattle.rules.specs.Hall.{TestedSlot, max_all_screens}
use Rattle.rules.specs.Lists.{chunks, concat, every, to_nat}
use Rattle.rules.specs.Table.{all_marks, bits_of_word, bits_of_words, decode_desk, encode_desk, encode_tail, list_offset, mark_words, marks_in, marks_of, marks_offset}
use Rattle.rules.specs.Table.{ones, ready_offset, record_sound, scan_sound, scanned_offset, sessions_of, slots_in, slots_of, tail_in, tail_offset, tail_words, tested_offset}
use Rattle.rules.specs.Table.{used_in, waiting_offset, width_for, word_of_bits, words_of_bits}
use Rattle.rules.proofs.Laws.Lists.Bools.{and_left, and_right}

-- bits and words
every_one : (bs : List Bool) → ones bs ≡ 0 → bs ≡ replicate (length bs) false
every_one [] h = refl
every_one (true ∷ bs) h = absurd (omega arith)
every_one (false ∷ bs) h = ap {B = List Bool} (λ r. false ∷ r) (every_one bs (omega arith))

length_bits : (n w : ℕ) → length (bits_of_word n w) ≡ n
length_bits zero w = refl
length_bits (suc n) w = ap suc (length_bits n (w / 2))

length-bits_of_words : (ws : List ℕ) → length (bits_of_words ws) ≡ length ws * 16
length-bits_of_words [] = refl
length-bits_of_words (w ∷ ws) = omega (arith, length-append (bits_of_word 16 w) (bits_of_words ws), length_bits 16 w, length-bits_of_words ws)

word_bits : (n w : ℕ) → w < 2 ^ n → word_of_bits (bits_of_word n w) ≡ w
word_bits zero w h = omega arith
word_bits (suc n) w h = by_cases (eqb (w % 2) 1) refl (word_bits n (w / 2) (omega arith))
  where
    by_cases : (b : Bool) → eqb (w % 2) 1 ≡ b → word_of_bits (bits_of_word n (w / 2)) ≡ w / 2 → to_nat b + 2 * word_of_bits (bits_of_word n (w / 2)) ≡ w
    by_cases true q e = omega (arith, eqb-true (w % 2) 1 q)
    by_cases false q e = omega (arith, eqb-false (w % 2) 1 q)

words_of_bits_of_words : (ws : List ℕ) → ((i : ℕ) → get_or ws i 0 < 65536) → words_of_bits (length ws) (bits_of_words ws) ≡ ws
words_of_bits_of_words [] h = refl
words_of_bits_of_words (w ∷ ws) h =
    λ i. (ap word_of_bits (take_at (bits_of_word 16 w) (bits_of_words ws) 16 (length_bits 16 w)) ∙ word_bits 16 w (h 0)) i ∷ (ap (words_of_bits (length ws)) (drop_at (bits_of_word 16 w) (bits_of_words ws) 16 (length_bits 16 w)) ∙ words_of_bits_of_words ws (λ j. h (suc j))) i

-- slots
sessions_of-slots : (xs : List ℕ) (bs : List Bool) → sessions_of (slots_of xs bs) ≡ xs
sessions_of-slots [] bs = refl
sessions_of-slots (x ∷ xs) [] = ap {B = List ℕ} (λ r. x ∷ r) (sessions_of-slots xs [])
sessions_of-slots (x ∷ xs) (true ∷ bs) = ap {B = List ℕ} (λ r. x ∷ r) (sessions_of-slots xs bs)
sessions_of-slots (x ∷ xs) (false ∷ bs) = ap {B = List ℕ} (λ r. x ∷ r) (sessions_of-slots xs bs)

marks_of-slots : (xs : List ℕ) (bs : List Bool) → length xs ≡ length bs → marks_of (slots_of xs bs) ≡ bs
marks_of-slots [] [] h = refl
marks_of-slots [] (b ∷ bs) h = absurd (omega arith)
marks_of-slots (x ∷ xs) [] h = absurd (omega arith)
marks_of-slots (x ∷ xs) (true ∷ bs) h = ap {B = List Bool} (λ r. true ∷ r) (marks_of-slots xs bs (omega arith))
marks_of-slots (x ∷ xs) (false ∷ bs) h = ap {B = List Bool} (λ r. false ∷ r) (marks_of-slots xs bs (omega arith))

length-slots : (xs : List ℕ) (bs : List Bool) → length (slots_of xs bs) ≡ length xs
length-slots [] bs = refl
length-slots (x ∷ xs) [] = ap suc (length-slots xs [])
length-slots (x ∷ xs) (b ∷ bs) = ap suc (length-slots xs bs)

zeros : (xs : List ℕ) → every (λ x. eqb x 0) xs ≡ true → xs ≡ replicate (length xs) 0
zeros [] h = refl
zeros (x ∷ xs) h = by_cases (eqb x 0) refl h (zeros xs)
  where
    by_cases : (b : Bool) → eqb x 0 ≡ b → b && every (λ x. eqb x 0) xs ≡ true → (every (λ x. eqb x 0) xs ≡ true → xs ≡ replicate (length xs) 0)
        → ◌≡◌ {A = List ℕ} (x ∷ xs) (0 ∷ replicate (length xs) 0)
    by_cases true q e ih = λ i. eqb-true x 0 q i ∷ ih e i
    by_cases false q e ih = let z : ◌≡◌ {A = ℕ} 0 1 = cc in absurd (omega arith)

-- ---- A record that passes the test.
pub record Passed (S : ℕ) (r : List ℕ) : Type 0 where
  pub room : used_in r ≤ 2 * S
  pub full : every (λ x. not (eqb x 0)) (take (used_in r) (slots_in S r)) ≡ true
  pub free : every (λ x. eqb x 0) (drop (used_in r) (slots_in S r)) ≡ true
  pub unmarked : ones (drop (get_or r tested_offset 0) (marks_in r)) ≡ 0
  pub scan : scan_sound S (get_or r tested_offset 0) (get_or r scanned_offset 0) ≡ true
  pub few : ones (marks_in r) ≤ get_or r scanned_offset 0

pub passed : (S : ℕ) (r : List ℕ) → record_sound S r ≡ true → Passed S r
unfolding record_sound
passed S r e =
    let q1 = leb (used_in r) (2 * S) in
    let q2 = every (λ x. not (eqb x 0)) (take (used_in r) (slots_in S r)) in
    let q3 = every (λ x. eqb x 0) (drop (used_in r) (slots_in S r)) in
    let q4 = eqb (ones (drop (get_or r tested_offset 0) (marks_in r))) 0 in
    let q5 = scan_sound S (get_or r tested_offset 0) (get_or r scanned_offset 0) in
    let q6 = leb (ones (marks_in r)) (get_or r scanned_offset 0) in
    let e1 = and_right q1 (q2 && (q3 && (q4 && (q5 && q6)))) e in
    let e2 = and_right q2 (q3 && (q4 && (q5 && q6))) e1 in
    let e3 = and_right q3 (q4 && (q5 && q6)) e2 in
    let e4 = and_right q4 (q5 && q6) e3 in
    record {
      room = leb-true (used_in r) (2 * S) (and_left q1 (q2 && (q3 && (q4 && (q5 && q6)))) e);
      full = and_left q2 (q3 && (q4 && (q5 && q6))) e1;
      free = and_left q3 (q4 && (q5 && q6)) e2;
      unmarked = eqb-true (ones (drop (get_or r tested_offset 0) (marks_in r))) 0 (and_left q4 (q5 && q6) e3);
      scan = and_left q5 q6 e4;
      few = leb-true (ones (marks_in r)) (get_or r scanned_offset 0) (and_right q5 q6 e4);
    }

pub small-drop : (n : ℕ) (r : List ℕ) → ((i : ℕ) → get_or r i 0 < 65536) → (i : ℕ) → get_or (drop n r) i 0 < 65536
small-drop n r h i = rw (get_or-drop n r i 0) (h (n + i))

pub small-take : (n : ℕ) (r : List ℕ) → ((i : ℕ) → get_or r i 0 < 65536) → (i : ℕ) → get_or (take n r) i 0 < 65536
small-take zero r h i = omega arith
small-take (suc n) [] h i = omega arith
small-take (suc n) (x ∷ r) h zero = h 0
small-take (suc n) (x ∷ r) h (suc i) = small-take n r (λ j. h (suc j)) i

-- its words: five, the mark words and those from the list on
parts : (r : List ℕ) → marks_offset ≤ length r
    → r ≡ get_or r 0 0 ∷ get_or r 1 0 ∷ get_or r 2 0 ∷ get_or r 3 0 ∷ get_or r 4 0 ∷ (take mark_words (drop marks_offset r) ++ drop list_offset r)
parts r h =
    drop-cons r 0 0 (omega arith)
    ∙ ap {B = List ℕ} (λ x. get_or r 0 0 ∷ x)
    (drop-cons r 1 0 (omega arith) ∙ ap {B = List ℕ} (λ x. get_or r 1 0 ∷ x) (drop-cons r 2 0 (omega arith) ∙ ap {B = List ℕ} (λ x. get_or r 2 0 ∷ x) (drop-cons r 3 0 (omega arith) ∙ ap {B = List ℕ} (λ x. get_or r 3 0 ∷ x) (drop-cons r 4 0 (omega arith) ∙ ap {B = List ℕ} (λ x. get_or r 4 0 ∷ x) (sym (ap {B = List ℕ} (λ x. take mark_words (drop marks_offset r) ++ x) (sym (drop-drop mark_words marks_offset r)) ∙ take-append-drop mark_words (drop marks_offset r)))))))

-- its list in its parts: a ready, b tested and c waiting sessions
module _ (S : ℕ) (r : List ℕ) (long : length r ≡ width_for S) (bounded : S ≤ max_all_screens) (p : Passed S r) where
  abbrev a : ℕ
  a = get_or r ready_offset 0

  abbrev b : ℕ
  b = get_or r tested_offset 0

  abbrev c : ℕ
  c = get_or r waiting_offset 0

  abbrev l : List ℕ
  l = slots_in S r

  abbrev rd : List ℕ
  rd = take a l

  abbrev td : List TestedSlot
  td = slots_of (take b (drop a l)) (take b (marks_in r))

  abbrev wd : List ℕ
  wd = take c (drop (a + b) l)

  list_length : length l ≡ 2 * S
  list_length = length-take-le (2 * S) (drop list_offset r) (omega (arith, long, length-drop list_offset r))

  words-length : length (take mark_words (drop marks_offset r)) ≡ mark_words
  words-length = length-take-le mark_words (drop marks_offset r) (omega (arith, long, length-drop marks_offset r))

  marks-length : length (marks_in r) ≡ all_marks
  marks-length = omega (arith, length-bits_of_words (take mark_words (drop marks_offset r)), words-length)

  pub ready_length : length rd ≡ a
  ready_length = length-take-le a l (omega (arith, p.room, list_length))

  pub tested_length : length td ≡ b
  tested_length = length-slots (take b (drop a l)) (take b (marks_in r)) ∙ length-take-le b (drop a l) (omega (arith, p.room, list_length, length-drop a l))

  pub waiting_length : length wd ≡ c
  waiting_length = length-take-le c (drop (a + b) l) (omega (arith, p.room, list_length, length-drop (a + b) l))

  pub marks_read : marks_of td ≡ take b (marks_in r)
  marks_read =
      marks_of-slots (take b (drop a l)) (take b (marks_in r))
      (omega (arith, tested_length, length-slots (take b (drop a l)) (take b (marks_in r)), length-take-le b (marks_in r) (omega (arith, p.room, bounded, marks-length))))

  marks_again : marks_of td ++ replicate (all_marks - length td) false ≡ marks_in r
  marks_again =
      let n : length (drop b (marks_in r)) ≡ all_marks - length td = omega (arith, length-drop b (marks_in r), tested_length, marks-length) in
      ap₂ {C = List Bool} (λ x y. x ++ y) marks_read (ap (λ (m : ℕ). replicate m false) (sym n) ∙ sym (every_one (drop b (marks_in r)) p.unmarked)) ∙ take-append-drop b (marks_in r)

  pub list_parts : rd ++ (sessions_of td ++ wd) ≡ take (used_in r) l
  list_parts =
      ap (λ (x : List ℕ). rd ++ (x ++ wd)) (sessions_of-slots (take b (drop a l)) (take b (marks_in r)))
      ∙ sym (take-add (a + b) c l ∙ ap (λ (x : List ℕ). x ++ wd) (take-add a b l) ∙ append_assoc (take a l) (take b (drop a l)) wd)

  list_again : (rd ++ (sessions_of td ++ wd)) ++ replicate (2 * S - length (rd ++ (sessions_of td ++ wd))) 0 ≡ slots_in S r
  list_again =
      let lp = list_length in
      let n : length (drop (used_in r) (slots_in S r)) ≡ 2 * S - length (rd ++ (sessions_of td ++ wd)) =
      omega (arith, p.room, lp, length-drop (used_in r) (slots_in S r), ap length list_parts, length-take-le (used_in r) (slots_in S r) (omega (arith, p.room, lp))) in
      ap₂ {C = List ℕ} (λ x y. x ++ y) list_parts (ap (λ (m : ℕ). replicate {A = ℕ} m 0) (sym n) ∙ sym (zeros (drop (used_in r) (slots_in S r)) p.free))
      ∙ take-append-drop (used_in r) (slots_in S r)

  -- its tail is that of the desk that it is read as
  tail_again : encode_tail (decode_desk S r) ≡ tail_in S r
  unfolding decode_desk
  tail_again = one_word (tail_in S r) (omega (arith, length-drop (tail_offset S) r, long))
    where
      one_word : (words : List ℕ) → length words ≡ tail_words → get_or words 0 0 ∷ [] ≡ words
      one_word [] e = absurd (omega arith)
      one_word (word ∷ []) e = refl
      one_word (word ∷ other ∷ words) e = absurd (omega arith)

  list_and_tail : l ++ tail_in S r ≡ drop list_offset r
  list_and_tail = ap (λ (x : List ℕ). l ++ x) (sym (drop-drop (2 * S) list_offset r)) ∙ take-append-drop (2 * S) (drop list_offset r)

  -- of 16-bit words, it is the record of the desk that it is read as
  passed_again : ((i : ℕ) → get_or r i 0 < 65536) → encode_desk S (decode_desk S r) ≡ r
  unfolding encode_desk decode_desk
  passed_again small =
      let q = words_of_bits_of_words (take mark_words (drop marks_offset r)) (small-take mark_words (drop marks_offset r) (small-drop marks_offset r small)) in
      (λ i. get_or r 0 0 ∷ get_or r 1 0 ∷ ready_length i ∷ tested_length i ∷ waiting_length i
      ∷ (words_of_bits (sym words-length i) (marks_again i) ++ (list_again i ++ tail_again i)))
      ∙ ap₂ {C = List ℕ} (λ x y. get_or r 0 0 ∷ get_or r 1 0 ∷ a ∷ b ∷ c ∷ (x ++ y)) q list_and_tail
      ∙ sym (parts r (omega (arith, long)))

pub record_again : (S : ℕ) (r : List ℕ) → length r ≡ width_for S → S ≤ max_all_screens → ((i : ℕ) → get_or r i 0 < 65536) → record_sound S r ≡ true
    → encode_desk S (decode_desk S r) ≡ r
record_again S r long most small e = passed_again S r long most (passed S r e) small

pub records-back : (S n : ℕ) (x : List ℕ) → S ≤ max_all_screens → n * width_for S ≤ length x → ((i : ℕ) → get_or x i 0 < 65536)
    → every (record_sound S) (chunks n (width_for S) x) ≡ true
    → concat (map (encode_desk S) (map (decode_desk S) (chunks n (width_for S) x))) ≡ take (n * width_for S) x
records-back S zero x hS hl sm h = ap (λ (m : ℕ). take m x) (nought (width_for S))
  where
    nought : (m : ℕ) → 0 ≡ 0 * m
    nought m = omega arith
records-back S (suc n) x hS hl sm h =
    let w : ℕ = width_for S in
    let a =
    record_again S (take w x) (length-take-le w x (omega arith)) hS (small-take w x sm)
    (and_left (record_sound S (take w x)) (every (record_sound S) (chunks n w (drop w x))) h) in
    let b =
    records-back S n (drop w x) hS (omega (arith, length-drop w x)) (small-drop w x sm)
    (and_right (record_sound S (take w x)) (every (record_sound S) (chunks n w (drop w x))) h) in
    let c : w + n * w ≡ suc n * w = omega arith in
    ap₂ {C = List ℕ} (λ y z. y ++ z) a b ∙ sym (take-add w (n * w) x) ∙ ap (λ (m : ℕ). take m x) c
