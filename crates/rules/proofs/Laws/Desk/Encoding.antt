-- The words of a desk: its encoding decodes to the desk.
use Rattle.std.specs.Prelude.{ℕ, zero, suc, ◌+◌, ◌*◌, ◌-◌, ◌/◌, ◌%◌, ◌≤◌, ◌≡◌, refl, Bool, true, false, List, [], ◌∷◌, ◌++◌, length, take, drop, replicate, set, get_or, eqb}
use Rattle.std.proofs.Common.{arith, ap, ap₂, ◌∙◌, append_assoc, length-append, length-drop, take-append-drop, get_or-drop, drop_at, length-take-le, eq-eqb, ne_eqb}
use Rattle.std.proofs.lemmas.List.{length-replicate}
use Rattle.std.proofs.Math.Seq.{take_at, take-append_seam, drop-append_seam, drop-append-add}
use Rattle.rules.specs.Hall.{Desk, TestedSlot, marked, unmarked, used_slots}
use Rattle.rules.specs.Lists.{to_nat}
use Rattle.rules.specs.Steps.{renumber}
use Rattle.rules.specs.Table.{all_marks, bits_of_word, bits_of_words, decode_desk, encode_desk, encode_tail, list_of, list_offset, mark_words, marks_of, ones, sessions_of}
use Rattle.rules.specs.Table.{slots_for, slots_in, slots_of, tail_offset, tail_words, width_for, word_of_bits, words_of_bits}
use Rattle.rules.proofs.Laws.Desk.Marks.{mark_count}
use Rattle.rules.proofs.Laws.Lists.ListSlices.{get_past, set_append_add}

bits_of_word_of_bits : (n : ℕ) (bs : List Bool) → length bs ≡ n → bits_of_word n (word_of_bits bs) ≡ bs
bits_of_word_of_bits zero [] h = refl
bits_of_word_of_bits zero (b ∷ bs) h = absurd (omega arith)
bits_of_word_of_bits (suc n) [] h = absurd (omega arith)
bits_of_word_of_bits (suc n) (b ∷ bs) h = λ i. low b i ∷ (ap (bits_of_word n) (half b) ∙ bits_of_word_of_bits n bs (omega arith)) i
  where
    low : (b : Bool) → eqb ((to_nat b + 2 * word_of_bits bs) % 2) 1 ≡ b
    low true = eq-eqb ((1 + 2 * word_of_bits bs) % 2) 1 (omega arith)
    low false = ne_eqb ((0 + 2 * word_of_bits bs) % 2) 1 (λ q. omega arith)

    half : (b : Bool) → (to_nat b + 2 * word_of_bits bs) / 2 ≡ word_of_bits bs
    half true = omega arith
    half false = omega arith

bits_of_words_of_bits : (n : ℕ) (bs : List Bool) → length bs ≡ n * 16 → bits_of_words (words_of_bits n bs) ≡ bs
bits_of_words_of_bits zero [] h = refl
bits_of_words_of_bits zero (b ∷ bs) h = absurd (omega arith)
bits_of_words_of_bits (suc n) bs h =
    ap₂ {C = List Bool} (λ x y. x ++ y) (bits_of_word_of_bits 16 (take 16 bs) (length-take-le 16 bs (omega arith)))
    (bits_of_words_of_bits n (drop 16 bs) (omega (arith, length-drop 16 bs)))
    ∙ take-append-drop 16 bs

pub length_sessions : (ps : List TestedSlot) → length (sessions_of ps) ≡ length ps
length_sessions [] = refl
length_sessions (unmarked x ∷ ps) = ap suc (length_sessions ps)
length_sessions (marked x ∷ ps) = ap suc (length_sessions ps)

pub length-marks : (ps : List TestedSlot) → length (marks_of ps) ≡ length ps
length-marks [] = refl
length-marks (unmarked x ∷ ps) = ap suc (length-marks ps)
length-marks (marked x ∷ ps) = ap suc (length-marks ps)

pub slots_of_parts : (ps : List TestedSlot) → slots_of (sessions_of ps) (marks_of ps) ≡ ps
slots_of_parts [] = refl
slots_of_parts (unmarked x ∷ ps) = ap {B = List TestedSlot} (λ r. unmarked x ∷ r) (slots_of_parts ps)
slots_of_parts (marked x ∷ ps) = ap {B = List TestedSlot} (λ r. marked x ∷ r) (slots_of_parts ps)

pub ones-marks : (ps : List TestedSlot) → ones (marks_of ps) ≡ mark_count ps
ones-marks [] = refl
ones-marks (unmarked x ∷ ps) = omega (arith, ones-marks ps)
ones-marks (marked x ∷ ps) = omega (arith, ones-marks ps)

-- a list of three parts and what stands behind them
module _ {A : Type 0} (a b c z : List A) where
  first_part : take (length a) ((a ++ (b ++ c)) ++ z) ≡ a
  first_part = ap (take (length a)) (append_assoc a (b ++ c) z) ∙ take-append_seam a ((b ++ c) ++ z)

  second_part : (n : ℕ) → length b ≡ n → take n (drop (length a) ((a ++ (b ++ c)) ++ z)) ≡ b
  second_part n h =
      ap (λ (l : List A). take n (drop (length a) l)) (append_assoc a (b ++ c) z) ∙ ap (take n) (drop-append_seam a ((b ++ c) ++ z))
      ∙ ap (take n) (append_assoc b c z) ∙ take_at b (c ++ z) n h

  third-part : (n : ℕ) → length b ≡ n → take (length c) (drop (length a + n) ((a ++ (b ++ c)) ++ z)) ≡ c
  third-part n h =
      ap (λ (l : List A). take (length c) (drop (length a + n) l)) (append_assoc a (b ++ c) z)
      ∙ ap (take (length c)) (drop-append-add a ((b ++ c) ++ z) n) ∙ ap (λ (l : List A). take (length c) (drop n l)) (append_assoc b c z)
      ∙ ap (take (length c)) (drop_at b (c ++ z) n h) ∙ take-append_seam c z

-- the bits of a record's mark words
abbrev pub mark_bits : List TestedSlot → List Bool
mark_bits T = marks_of T ++ replicate (all_marks - length T) false

pub marks_read_back : (T : List TestedSlot) → length T ≤ all_marks → bits_of_words (words_of_bits mark_words (mark_bits T)) ≡ mark_bits T
marks_read_back T h =
    bits_of_words_of_bits mark_words (mark_bits T) (omega (
      arith,
      length-append (marks_of T) (replicate (all_marks - length T) false),
      length-marks T,
      length-replicate {A = Bool} (all_marks - length T) false,
    ))

pub length_list : (D : Desk) → length (list_of D) ≡ used_slots D
length_list D =
    omega (
      arith,
      length-append D.ready (sessions_of D.tested ++ D.waiting),
      length-append (sessions_of D.tested) D.waiting,
      length_sessions D.tested,
    )

-- ---- The parts of a desk's record: head, list and tail.
abbrev pub head_for : Desk → List ℕ
head_for D =
    D.owed ∷ D.scanned ∷ length D.ready ∷ length D.tested ∷ length D.waiting ∷ words_of_bits mark_words (mark_bits D.tested)

pub record_parts : (S : ℕ) (D : Desk) → encode_desk S D ≡ head_for D ++ (slots_for S D ++ encode_tail D)
unfolding encode_desk
record_parts S D = refl

module _ (S : ℕ) (D : Desk) (room : used_slots D ≤ 2 * S) where
  pub length-slots_for : length (slots_for S D) ≡ 2 * S
  length-slots_for =
      omega (
        arith,
        length_list D,
        length-append (list_of D) (replicate (2 * S - length (list_of D)) 0),
        length-replicate {A = ℕ} (2 * S - length (list_of D)) 0,
      )

  pub slots_read_back : slots_in S (encode_desk S D) ≡ slots_for S D
  unfolding encode_desk
  slots_read_back = take_at (slots_for S D) (encode_tail D) (2 * S) length-slots_for

  -- a word behind the list
  pub tail_word : (j : ℕ) → tail_offset S ≤ j → get_or (encode_desk S D) j 0 ≡ get_or (encode_tail D) (j - tail_offset S) 0
  tail_word j past =
      let same : j - list_offset - length (slots_for S D) ≡ j - tail_offset S = omega (arith, length-slots_for) in
      ap (λ (l : List ℕ). get_or l j 0) (record_parts S D)
      ∙ get_past (head_for D) (slots_for S D ++ encode_tail D) j (omega arith)
      ∙ get_past (slots_for S D) (encode_tail D) (j - list_offset) (omega (arith, length-slots_for))
      ∙ ap (λ (i : ℕ). get_or (encode_tail D) i 0) same

-- of any desk, with room or without
pub encoded_long : (S : ℕ) (D : Desk) → width_for S ≤ length (encode_desk S D)
unfolding encode_desk
encoded_long S D =
    omega (
      arith,
      length-append (slots_for S D) (encode_tail D),
      length-append (list_of D) (replicate (2 * S - length (list_of D)) 0),
      length-replicate {A = ℕ} (2 * S - length (list_of D)) 0,
    )

pub length_tail : (D : Desk) → length (encode_tail D) ≡ tail_words
length_tail D = refl

pub desk_read_back : (S : ℕ) (D : Desk) → used_slots D ≤ 2 * S → length D.tested ≤ all_marks → decode_desk S (encode_desk S D) ≡ D
unfolding encode_desk decode_desk
desk_read_back S D room h = λ i. record { owed = D.owed; scanned = D.scanned; ready = ready i; tested = tested i; waiting = waiting i; next = next i }
  where
    pad : List ℕ
    pad = replicate (2 * S - length (list_of D)) 0

    slots : slots_in S (encode_desk S D) ≡ slots_for S D
    slots = slots_read_back S D room

    ready : (decode_desk S (encode_desk S D)).ready ≡ D.ready
    ready = ap (take (length D.ready)) slots ∙ first_part D.ready (sessions_of D.tested) D.waiting pad

    marks : take (length D.tested) (bits_of_words (words_of_bits mark_words (mark_bits D.tested))) ≡ marks_of D.tested
    marks =
        ap (take (length D.tested)) (marks_read_back D.tested h)
        ∙ take_at (marks_of D.tested) (replicate (all_marks - length D.tested) false) (length D.tested) (length-marks D.tested)

    tested : (decode_desk S (encode_desk S D)).tested ≡ D.tested
    tested =
        ap₂ slots_of
        (ap (λ (l : List ℕ). take (length D.tested) (drop (length D.ready) l)) slots
        ∙ second_part D.ready (sessions_of D.tested) D.waiting pad (length D.tested) (length_sessions D.tested))
        marks
        ∙ slots_of_parts D.tested

    waiting : (decode_desk S (encode_desk S D)).waiting ≡ D.waiting
    waiting =
        ap (λ (l : List ℕ). take (length D.waiting) (drop (length D.ready + length D.tested) l)) slots
        ∙ third-part D.ready (sessions_of D.tested) D.waiting pad (length D.tested) (length_sessions D.tested)

    next : (decode_desk S (encode_desk S D)).next ≡ D.next
    next = get_or-drop (tail_offset S) (encode_desk S D) 0 0 ∙ tail_word S D room (tail_offset S + 0) (omega arith) ∙ ap (λ (i : ℕ). get_or (encode_tail D) i 0) nought
      where
        nought : tail_offset S + 0 - tail_offset S ≡ 0
        nought = omega arith

-- Another next message number is one word stored.
pub number_stored : (S : ℕ) (D : Desk) (number : ℕ) → used_slots D ≤ 2 * S → set (encode_desk S D) (tail_offset S) number ≡ encode_desk S (renumber D number)
unfolding encode_desk
number_stored S D number room =
    let e : tail_offset S ≡ length (head_for D) + (length (slots_for S D) + 0) = omega (arith, length-slots_for S D room) in
    (λ i. set (head_for D ++ (slots_for S D ++ encode_tail D)) (e i) number)
    ∙ set_append_add (head_for D) (slots_for S D ++ encode_tail D) (length (slots_for S D) + 0) number
    ∙ ap (λ (l : List ℕ). head_for D ++ l) (set_append_add (slots_for S D) (encode_tail D) 0 number)
