-- On any sound table of 16-bit words, not only on one that an opening made, a step decodes the state, does the step of the rules, and encodes the state.
use Rattle.std.specs.Prelude.{ℕ, zero, suc, ◌+◌, ◌*◌, ◌-◌, ◌%◌, ◌≤◌, ◌<◌, ◌≡◌, refl, Bool, true, false, not, ◌&&◌, List, [], ◌∷◌, ◌++◌, map, length, get_or, take, drop, leb, ltb, eqb, T}
use Rattle.std.proofs.Common.{arith, sym, ap, ◌∙◌, append_assoc, length-drop, take-append-drop, drop-cons, drop-drop, length-take-le, leb-true, eqb-true, ltb-true}
use Rattle.std.proofs.lemmas.List.{length-map}
use Rattle.std.proofs.lemmas.Bool.{eqb-false}
use Rattle.rules.specs.Hall.{Hall, Limits, TestedSlot, all_screens, max_all_screens}
use Rattle.rules.specs.Lists.{chunks, every, occurrences}
use Rattle.rules.specs.Steps.{Call, perform, step}
use Rattle.rules.specs.Table.{decode, decode_desk, encode, hall_in, header_words, marks_in, need, ones, record_sound, record_width, records_in, scan_sound}
use Rattle.rules.specs.Table.{slots_in, sound, step_table, table_after, used_in, width_for}
use Rattle.rules.proofs.Laws.Desk.Decoding.{list_parts, marks_read, passed, ready_length, records-back, small-drop, tested_length, waiting_length}
use Rattle.rules.proofs.Laws.Desk.Encoding.{ones-marks}
use Rattle.rules.proofs.Laws.Desk.Marks.{mark_count}
use Rattle.rules.proofs.Laws.Desk.Sound.{ScanFits, Sound, occurrences_list, ones-append}
use Rattle.rules.proofs.Laws.Lists.Bools.{and_left, and_right}
use Rattle.rules.proofs.Laws.Lists.Lists.{indicator, indicator_other}
use Rattle.rules.proofs.Laws.Table.EncodedStep.{All, Valid, after_encoded, table_step}
use Rattle.rules.proofs.Laws.Table.TableSteps.{Known, asked, known, known_inside}

real_cnt : (l : List ℕ) → every (λ x. not (eqb x 0)) l ≡ true → occurrences 0 l ≡ 0
real_cnt [] h = refl
real_cnt (x ∷ l) h = by_cases (eqb x 0) refl (real_cnt l) h
  where
    by_cases : (b : Bool) → eqb x 0 ≡ b → (every (λ y. not (eqb y 0)) l ≡ true → occurrences 0 l ≡ 0) → not b && every (λ y. not (eqb y 0)) l ≡ true
        → indicator 0 x + occurrences 0 l ≡ 0
    by_cases true e ih q = let z : ◌≡◌ {A = ℕ} 0 1 = cc in absurd (omega arith)
    by_cases false e ih q = omega (arith, indicator_other 0 x (λ z. eqb-false x 0 e (sym z)), ih q)

pass_of : (S b k : ℕ) (T : List TestedSlot) → length T ≡ b → scan_sound S b k ≡ true → mark_count T ≤ k → ScanFits S k T
pass_of S zero k [] l h m = eqb-true k 0 h
pass_of S zero k (p ∷ T) l h m = absurd (omega arith)
pass_of S (suc b) k [] l h m = absurd (omega arith)
pass_of S (suc b) k (p ∷ T) l h m =
    let h1 = and_right (eqb (k % 2) 0) (leb 2 k && ltb k S) h in
    (eqb-true (k % 2) 0 (and_left (eqb (k % 2) 0) (leb 2 k && ltb k S) h), leb-true 2 k (and_left (leb 2 k) (ltb k S) h1), ltb-true k S (and_right (leb 2 k) (ltb k S) h1), m)

-- a record that passes the test is of a sound desk
pub desk_sound : (S : ℕ) (r : List ℕ) → length r ≡ width_for S → S ≤ max_all_screens → record_sound S r ≡ true → Sound S (decode_desk S r)
unfolding decode_desk
desk_sound S r long bounded e =
    let p = passed S r e in
    let b = get_or r 3 0 in
    let T = (decode_desk S r).tested in
    let m : mark_count T ≤ get_or r 1 0 =
    omega (arith, p.few, ones-marks T, ap ones (marks_read S r long bounded p), ones-append (take b (marks_in r)) (drop b (marks_in r)), ap ones (take-append-drop b (marks_in r))) in
    record {
      total = omega (arith, p.room, ready_length S r long bounded p, tested_length S r long bounded p, waiting_length S r long bounded p);
      real = sym (occurrences_list 0 (decode_desk S r)) ∙ ap (occurrences 0) (list_parts S r long bounded p) ∙ real_cnt (take (used_in r) (slots_in S r)) p.full;
      pass = pass_of S b (get_or r 1 0) T (tested_length S r long bounded p) p.scan m;
    }

module _ (S : ℕ) (hS : S ≤ max_all_screens) where
  records-sound : (n : ℕ) (x : List ℕ) → n * width_for S ≤ length x → every (record_sound S) (chunks n (width_for S) x) ≡ true
      → All (Sound S) (map (decode_desk S) (chunks n (width_for S) x))
  records-sound zero x h e = tt
  records-sound (suc n) x h e =
      let w : ℕ = width_for S in
      (desk_sound S (take w x) (length-take-le w x (omega arith)) hS (and_left (record_sound S (take w x)) (every (record_sound S) (chunks n w (drop w x))) e), records-sound n (drop w x) (omega (arith, length-drop w x)) (and_right (record_sound S (take w x)) (every (record_sound S) (chunks n w (drop w x))) e))

length-records : (n w : ℕ) (x : List ℕ) → length (chunks n w x) ≡ n
length-records zero w x = refl
length-records (suc n) w x = ap suc (length-records n w (drop w x))

pub valid : (t : List ℕ) → Known t → Valid (hall_in t) (decode (hall_in t) t)
valid t k =
    let H : Hall = hall_in t in
    let g = k.long in
    let l1 = length-drop header_words t in
    let l2 = length-drop H.positions (drop header_words t) in
    let l3 = length-drop (all_screens H) (drop H.positions (drop header_words t)) in
    record {
      formed = record {
        positions = length-take-le H.positions (drop header_words t) (omega arith);
        screens = length-take-le (all_screens H) (drop H.positions (drop header_words t)) (omega arith);
        desks =
            length-map (records_in H t) (decode_desk (all_screens H))
            ∙ length-records H.desks (record_width H) (drop (all_screens H) (drop H.positions (drop header_words t)));
      };
      desks = records-sound (all_screens H) k.bounded H.desks (drop (all_screens H) (drop H.positions (drop header_words t))) (omega arith) k.records;
    }

glue : (a b c : ℕ) (x : List ℕ) → (take a x ++ (take b (drop a x) ++ take c (drop b (drop a x)))) ++ drop c (drop b (drop a x)) ≡ x
glue a b c x =
    append_assoc (take a x) (take b (drop a x) ++ take c (drop b (drop a x))) (drop c (drop b (drop a x)))
    ∙ ap {B = List ℕ} (λ y. take a x ++ y)
    (append_assoc (take b (drop a x)) (take c (drop b (drop a x))) (drop c (drop b (drop a x))) ∙ ap {B = List ℕ} (λ y. take b (drop a x) ++ y) (take-append-drop c (drop b (drop a x))) ∙ take-append-drop b (drop a x))
    ∙ take-append-drop a x

-- A sound table of 16-bit words is its state's, with what stands past the need.
same_table : (t : List ℕ) → ((i : ℕ) → get_or t i 0 < 65536) → Known t → encode (hall_in t) (decode (hall_in t) t) ++ drop (need (hall_in t)) t ≡ t
same_table t small k =
    let H : Hall = hall_in t in
    let long = k.long in
    let x : List ℕ = drop (all_screens H) (drop H.positions (drop header_words t)) in
    let lx : length x ≡ length t - header_words - H.positions - all_screens H =
    omega (arith, length-drop (all_screens H) (drop H.positions (drop header_words t)), length-drop H.positions (drop header_words t), length-drop header_words t) in
    let records =
    records-back (all_screens H) H.desks x k.bounded (omega arith)
    (small-drop (all_screens H) (drop H.positions (drop header_words t)) (small-drop H.positions (drop header_words t) (small-drop header_words t small)))
    k.records in
    let past : drop (need H) t ≡ drop (H.desks * record_width H) x =
    sym
    (drop-drop (H.desks * record_width H) (all_screens H) (drop H.positions (drop header_words t)) ∙ drop-drop (all_screens H + H.desks * record_width H) H.positions (drop header_words t) ∙ drop-drop (H.positions + (all_screens H + H.desks * record_width H)) header_words t) in
    (λ i. H.desks ∷ H.screens ∷ H.positions ∷ ((take H.positions (drop header_words t) ++ (take (all_screens H) (drop H.positions (drop header_words t)) ++ records i)) ++ past i))
    ∙ ap {B = List ℕ} (λ y. H.desks ∷ H.screens ∷ H.positions ∷ y) (glue H.positions (all_screens H) (H.desks * record_width H) (drop header_words t))
    ∙ sym
    (drop-cons t 0 0 (omega arith) ∙ ap {B = List ℕ} (λ y. get_or t 0 0 ∷ y) (drop-cons t 1 0 (omega arith) ∙ ap {B = List ℕ} (λ y. get_or t 1 0 ∷ y) (drop-cons t 2 0 (omega arith))))

-- what an accepted call writes is the table of the state after it
pub encoded : (limits : Limits) (t : List ℕ) (c : Call) → ((i : ℕ) → get_or t i 0 < 65536) → Known t → asked limits t c ≡ 0
    → table_after t c ≡ encode (hall_in t) (perform (hall_in t) (decode (hall_in t) t) c).after ++ drop (need (hall_in t)) t
encoded limits t c small k q =
    ap (λ (x : List ℕ). table_after x c) (sym (same_table t small k))
    ∙ after_encoded (hall_in t) k.fits (decode (hall_in t) t) (valid t k) (drop (need (hall_in t)) t) limits c q

-- Any call, accepted or refused: its answer is that of the step of the rules, and the table after it is that of the state after it.
pub step_encoded : (limits : Limits) (t : List ℕ) (c : Call) → ((i : ℕ) → get_or t i 0 < 65536) → sound limits t ≡ true
    → let H = hall_in t in
    let result = step limits H (decode H t) c in
    step_table limits t c ≡ record { answer = result.answer; after = encode H result.after ++ drop (need H) t }
step_encoded limits t c small ok =
    let H : Hall = hall_in t in
    let k = known limits t ok in
    ap (λ (x : List ℕ). step_table limits x c) (sym (same_table t small k))
    ∙ table_step limits H (known_inside limits t ok) (decode H t) (valid t k) (drop (need H) t) c
