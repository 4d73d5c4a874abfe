-- Tables of 16-bit words: the opening and the steps keep the width of each word and the length of the table; the numbers of refusals.
use Rattle.std.specs.Prelude.{ℕ, zero, suc, ◌+◌, ◌*◌, ◌-◌, ◌^◌, ◌≤◌, ◌<◌, ◌≡◌, refl, Bool, true, false, cond, List, [], ◌∷◌, ◌++◌, map, length, get_or, take, drop, set, replicate, ltb}
use Rattle.std.proofs.Common.{arith, sym, ap, subst, ◌∙◌, length-append, length-drop, length-take, ltb-true, ltb-false}
use Rattle.std.proofs.lemmas.List.{length-replicate}
use Rattle.rules.specs.Bytes.{Call16, Step16, Words16}
use Rattle.rules.specs.Demands.{refusals, step_refusals}
use Rattle.rules.specs.Hall.{Desk, Hall, Limits, State, TestedSlot, all_screens, desk_of, empty_desk, max_all_screens, screen_index, used_slots}
use Rattle.rules.specs.Lists.{occurrences}
use Rattle.rules.specs.Steps.{Call, Collect, Drop, Question, Result, Retire, Step, Swap, Take, ◌numbered◌, ◌sends◌, accept, advance, collect, decide, first_no}
use Rattle.rules.specs.Steps.{is_repeat, perform, perform_step, questions, refuse, retire}
use Rattle.rules.specs.Table.{all_marks, decode, decode_desk, encode, encode_desk, encode_tail, hall_in, header_words, list_of, list_offset, mark_words, marks_in, marks_of}
use Rattle.rules.specs.Table.{need, next_word, open_questions, open_table, opened_table, position_word, put_record, record_of, record_start, record_width, screen_word}
use Rattle.rules.specs.Table.{slots_for, slots_in, slots_of, sound, step_table, table_after, table_after_step, word_of_bits, words_of_bits}
use Rattle.rules.proofs.Laws.Desk.Collect.{collect_copies, copies_on, next-collect, owed_collect, retire_copies}
use Rattle.rules.proofs.Laws.Desk.Decoding.{small-drop, small-take}
use Rattle.rules.proofs.Laws.Desk.Marks.{tested_copies}
use Rattle.rules.proofs.Laws.Desk.Sound.{ScanFits, Sound, collect-sound, occurrences_list, retire-sound, sound_orderly}
use Rattle.rules.proofs.Laws.History.StepEffects.{desk_asked, retire-asked}
use Rattle.rules.proofs.Laws.Lists.Bools.{cond_both}
use Rattle.rules.proofs.Laws.Lists.Lists.{indicator, indicator_other, indicator_same}
use Rattle.rules.proofs.Laws.Table.DecodeStepEncode.{encoded, valid}
use Rattle.rules.proofs.Laws.Table.EncodedStep.{Fits, Valid, all_get, empty_desk-sound, hall-opens, length-table, limits_fit, some_screens, valid_step}
use Rattle.rules.proofs.Laws.Table.TableSteps.{Known, accepted_open, accepted_step, asked, desk_word, known, number_word, owed_word, refused_open, refused_step}
use Rattle.rules.proofs.Laws.Table.TableSteps.{unsound-step}

-- ---- Small numbers in lists.
pub below-append : (m : ℕ) (xs ys : List ℕ) → ((i : ℕ) → get_or xs i 0 < m) → ((i : ℕ) → get_or ys i 0 < m) → (i : ℕ) → get_or (xs ++ ys) i 0 < m
below-append m [] ys h g i = g i
below-append m (x ∷ xs) ys h g zero = h 0
below-append m (x ∷ xs) ys h g (suc i) = below-append m xs ys (λ j. h (suc j)) g i

pub words-zeros : (n : ℕ) → Words16 (replicate n 0)
words-zeros zero i = omega arith
words-zeros (suc n) zero = omega arith
words-zeros (suc n) (suc i) = words-zeros n i

pub words-set : (xs : List ℕ) (k v : ℕ) → v < 65536 → Words16 xs → Words16 (set xs k v)
words-set [] k v l h i = omega arith
words-set (x ∷ xs) zero v l h zero = l
words-set (x ∷ xs) zero v l h (suc i) = h (suc i)
words-set (x ∷ xs) (suc k) v l h zero = h 0
words-set (x ∷ xs) (suc k) v l h (suc i) = words-set xs k v l (λ j. h (suc j)) i

-- a list is of 16-bit words where no larger number has a copy in it
small_if_not_large : (x : ℕ) → (65536 ≤ x → ⊥) → x < 65536
small_if_not_large x h = by_cases (ltb x 65536) refl
  where
    by_cases : (b : Bool) → ltb x 65536 ≡ b → x < 65536
    by_cases true q = ltb-true x 65536 q
    by_cases false q = absurd (h (ltb-false x 65536 q))

no_large_copies : (s : ℕ) (xs : List ℕ) → 65536 ≤ s → Words16 xs → occurrences s xs ≡ 0
no_large_copies s [] l h = refl
no_large_copies s (x ∷ xs) l h = omega (arith, indicator_other s x (λ q. omega (arith, h 0)), no_large_copies s xs l (λ i. h (suc i)))

words_if_no_large_copies : (xs : List ℕ) → ((s : ℕ) → 65536 ≤ s → occurrences s xs ≡ 0) → Words16 xs
words_if_no_large_copies [] h i = omega arith
words_if_no_large_copies (x ∷ xs) h zero = small_if_not_large x (λ l. omega (arith, h x l, indicator_same x))
words_if_no_large_copies (x ∷ xs) h (suc i) = words_if_no_large_copies xs (λ s l. omega (arith, h s l)) i

-- a word of at most n bits
word_of_bits-small : (n : ℕ) (bits : List Bool) → length bits ≤ n → word_of_bits bits < 2 ^ n
word_of_bits-small zero [] h = omega arith
word_of_bits-small zero (b ∷ bits) h = absurd (omega arith)
word_of_bits-small (suc n) [] h = omega (arith, word_of_bits-small n [] (omega arith))
word_of_bits-small (suc n) (true ∷ bits) h = omega (arith, word_of_bits-small n bits (omega arith))
word_of_bits-small (suc n) (false ∷ bits) h = omega (arith, word_of_bits-small n bits (omega arith))

mark-words : (n : ℕ) (bits : List Bool) → Words16 (words_of_bits n bits)
mark-words zero bits i = omega arith
mark-words (suc n) bits zero = word_of_bits-small 16 (take 16 bits) (omega (arith, length-take 16 bits))
mark-words (suc n) bits (suc i) = mark-words n (drop 16 bits) i

-- ---- A desk whose record is of 16-bit words.
pub record Desk16 (S : ℕ) (D : Desk) : Type 0 where
  sound : Sound S D
  owed : D.owed < 65536
  next : D.next < 65536
  sessions : (s : ℕ) → 65536 ≤ s → copies_on s D ≡ 0

scanned-small : (S k : ℕ) (t : List TestedSlot) → ScanFits S k t → k ≤ S
scanned-small S k [] p = omega arith
scanned-small S k (q ∷ qs) p = omega arith

tail_words_lem : (D : Desk) → D.next < 65536 → Words16 (encode_tail D)
tail_words_lem D small zero = small
tail_words_lem D small (suc i) = omega arith

pub record_words_lem : (S : ℕ) (D : Desk) → S ≤ max_all_screens → Desk16 S D → Words16 (encode_desk S D)
unfolding encode_desk
record_words_lem S D h k = at
  where
    bits : List Bool
    bits = marks_of D.tested ++ replicate (all_marks - length D.tested) false

    slots : Words16 (slots_for S D)
    slots =
        below-append 65536 (list_of D) (replicate (2 * S - length (list_of D)) 0)
        (words_if_no_large_copies (list_of D) (λ s l. occurrences_list s D ∙ k.sessions s l)) (words-zeros (2 * S - length (list_of D)))

    behind : Words16 (slots_for S D ++ encode_tail D)
    behind = below-append 65536 (slots_for S D) (encode_tail D) slots (tail_words_lem D k.next)

    at : Words16 (D.owed ∷ D.scanned ∷ length D.ready ∷ length D.tested ∷ length D.waiting ∷ (words_of_bits mark_words bits ++ (slots_for S D ++ encode_tail D)))
    at zero = k.owed
    at (suc zero) = omega (arith, scanned-small S D.scanned D.tested k.sound.pass)
    at (suc (suc zero)) = omega (arith, k.sound.total)
    at (suc (suc (suc zero))) = omega (arith, k.sound.total)
    at (suc (suc (suc (suc zero)))) = omega (arith, k.sound.total)
    at (suc (suc (suc (suc (suc i))))) =
        below-append 65536 (words_of_bits mark_words bits) (slots_for S D ++ encode_tail D) (mark-words mark_words bits) behind i

-- as it is read
copies_on-slots : (s : ℕ) (xs : List ℕ) (bits : List Bool) → tested_copies s (slots_of xs bits) ≡ occurrences s xs
copies_on-slots s [] bits = refl
copies_on-slots s (x ∷ xs) [] = omega (arith, copies_on-slots s xs [])
copies_on-slots s (x ∷ xs) (true ∷ bits) = omega (arith, copies_on-slots s xs bits)
copies_on-slots s (x ∷ xs) (false ∷ bits) = omega (arith, copies_on-slots s xs bits)

no_large_sessions : (S : ℕ) (r : List ℕ) → Words16 r → (s : ℕ) → 65536 ≤ s → copies_on s (decode_desk S r) ≡ 0
unfolding decode_desk
no_large_sessions S r h s l =
    let a = get_or r 2 0 in
    let b = get_or r 3 0 in
    let c = get_or r 4 0 in
    let list : List ℕ = slots_in S r in
    let g = small-take (2 * S) (drop list_offset r) (small-drop list_offset r h) in
    omega
    (arith, no_large_copies s (take a list) l (small-take a list g), copies_on-slots s (take b (drop a list)) (take b (marks_in r)), no_large_copies s (take b (drop a list)) l (small-take b (drop a list) (small-drop a list g)), no_large_copies s (take c (drop (a + b) list)) l (small-take c (drop (a + b) list) (small-drop (a + b) list g)))

pub desk_read : (t : List ℕ) (d : ℕ) → Words16 t → Known t → (1 ≤ d) × (d ≤ (hall_in t).desks)
    → Desk16 (all_screens (hall_in t)) (desk_of (decode (hall_in t) t) d)
desk_read t d h k r =
    let H : Hall = hall_in t in
    record {
      sound = all_get (Sound (all_screens H)) (decode H t).desks (d - 1) empty_desk (empty_desk-sound (all_screens H)) (valid t k).desks;
      owed = rw (owed_word t d r.0 r.1) (h (record_start H d));
      next = rw (number_word t d r.0 r.1) (h (next_word H d));
      sessions =
          λ s l. ap (copies_on s) (desk_word t d r.0 r.1)
          ∙ no_large_sessions (all_screens H) (record_of H t d) (small-take (record_width H) (drop (record_start H d) t) (small-drop (record_start H d) t h)) s l;
    }

-- retire and collect keep it
pub retire_16 : (S : ℕ) (D : Desk) → (D.owed ≡ 0 → ⊥) → used_slots D < 2 * S → Desk16 S D → Desk16 S (retire D)
retire_16 S D z l k = record {
  sound = retire-sound S D z l k.sound;
  owed = omega arith;
  next = k.next;
  sessions =
      λ s g. omega (arith, retire_copies s D.owed D refl, k.sessions s g, k.owed, indicator_other s D.owed (λ q. omega (arith, k.owed)));
}

module _ (S : ℕ) (shown : List ℕ) (D : Desk) (some : 1 ≤ S) (all : length shown ≡ S) (k : Desk16 S D) where
  pub collect_16 : Desk16 S (collect S shown D).after
  collect_16 =
      record {
        sound = collect-sound S shown D some all k.sound;
        owed = rw (owed_collect S shown D) k.owed;
        next = rw (next-collect S shown D) k.next;
        sessions = λ s l. omega (arith, collect_copies s S shown D some all (sound_orderly S D k.sound) (λ q. omega arith), k.sessions s l);
      }

  collected-small : (collect S shown D).session < 65536
  collected-small =
      small_if_not_large (collect S shown D).session
      (λ l. let s = (collect S shown D).session in omega (arith, collect_copies s S shown D some all (sound_orderly S D k.sound) (λ q. omega arith), k.sessions s l, indicator_same s))

-- ---- A step, by its three cases.
pub by_step : (limits : Limits) (Q : Result (List ℕ) → Type 0) (t : List ℕ) (c : Call)
    → Q (refuse 5 t)
    → ((n : ℕ) → asked limits t c ≡ suc n → Q (refuse (suc n) t))
    → (sound limits t ≡ true → asked limits t c ≡ 0 → Q (accept (perform (hall_in t) (decode (hall_in t) t) c).session (table_after t c)))
    → Q (step_table limits t c)
by_step limits Q t c unsound refused accepted = at (sound limits t) refl
  where
    by_number_lem : (n : ℕ) → asked limits t c ≡ n → sound limits t ≡ true → Q (step_table limits t c)
    by_number_lem zero q s = subst Q (sym (accepted_step limits t c s q)) (accepted s q)
    by_number_lem (suc n) q s = subst Q (sym (refused_step limits t c n s q)) (refused n q)

    at : (b : Bool) → sound limits t ≡ b → Q (step_table limits t c)
    at true s = by_number_lem (asked limits t c) refl s
    at false s = subst Q (sym (unsound-step limits t c s)) unsound

-- the opening, by its two
pub by_open : (limits : Limits) (Q : Result (List ℕ) → Type 0) (H : Hall) (t : List ℕ)
    → ((n : ℕ) → first_no (open_questions limits H t) ≡ suc n → Q (refuse (suc n) t))
    → (first_no (open_questions limits H t) ≡ 0 → Q (accept 0 (opened_table H t)))
    → Q (open_table limits H t)
by_open limits Q H t refused accepted = by_number_lem (first_no (open_questions limits H t)) refl
  where
    by_number_lem : (n : ℕ) → first_no (open_questions limits H t) ≡ n → Q (open_table limits H t)
    by_number_lem zero q = subst Q (sym (accepted_open limits H t q)) (accepted q)
    by_number_lem (suc n) q = subst Q (sym (refused_open limits H t n q)) (refused n q)

-- ---- The number in an answer.
-- the first question that is answered no gives its own number
pub first_no_is_asked : (qs : List Question) (n : ℕ) → first_no qs ≡ suc n → 1 ≤ occurrences (suc n) (map (λ q. q.number) qs)
first_no_is_asked [] n h = absurd (omega arith)
first_no_is_asked (q ∷ qs) n h = by_cases q.yes? h (first_no_is_asked qs n)
  where
    by_cases : (b : Bool) → cond b (first_no qs) q.number ≡ suc n → (first_no qs ≡ suc n → 1 ≤ occurrences (suc n) (map (λ p. p.number) qs))
        → 1 ≤ occurrences (suc n) (q.number ∷ map (λ p. p.number) qs)
    by_cases true e later = omega (arith, later e)
    by_cases false e later = omega (arith, ap (indicator (suc n)) e, indicator_same (suc n))

pub refusals_are_asked : (limits : Limits) (H : Hall) (st : State) (c : Call) → refusals c ≡ 5 ∷ map (λ q. q.number) (questions limits H st c)
refusals_are_asked limits H st c = by_step c.step
  where
    by_step : (s : Step) → step_refusals s ≡ 5 ∷ map (λ q. q.number) (questions limits H st (c.desk sends s numbered c.message))
    by_step (Take c p) = refl
    by_step (Drop c) = refl
    by_step (Swap p w) = refl
    by_step Retire = refl
    by_step Collect = refl

-- "A refused call gives its number from document 01 and session 0, and every lent word .. keeps its content."
pub step_refused : (limits : Limits) (t : List ℕ) (c : Call) (n : ℕ) → (step_table limits t c).answer.number ≡ suc n
    → (1 ≤ occurrences (suc n) (refusals c)) × ((step_table limits t c).answer.session ≡ 0) × ((step_table limits t c).after ≡ t)
step_refused limits t c =
    by_step limits (λ r. (n : ℕ) → r.answer.number ≡ suc n → (1 ≤ occurrences (suc n) (refusals c)) × (r.answer.session ≡ 0) × (r.after ≡ t)) t c
    (λ n e. (unsound n e, refl, refl)) (λ m q n e. (asks m q n e, refl, refl)) (λ s q n e. absurd (omega arith))
  where
    numbers : List ℕ
    numbers = map (λ q. q.number) (questions limits (hall_in t) (decode (hall_in t) t) c)

    first : (n : ℕ) → occurrences (suc n) (refusals c) ≡ occurrences (suc n) (5 ∷ numbers)
    first n = ap (occurrences (suc n)) (refusals_are_asked limits (hall_in t) (decode (hall_in t) t) c)

    unsound : (n : ℕ) → 5 ≡ suc n → 1 ≤ occurrences (suc n) (refusals c)
    unsound n e = omega (arith, first n, ap (indicator (suc n)) e, indicator_same (suc n))

    asks : (m : ℕ) → asked limits t c ≡ suc m → (n : ℕ) → suc m ≡ suc n → 1 ≤ occurrences (suc n) (refusals c)
    asks m q n e = omega (arith, first n, first_no_is_asked (questions limits (hall_in t) (decode (hall_in t) t) c) n (q ∙ e))

-- ---- The session in an answer.
performed_small : (limits : Limits) (t : List ℕ) (c : Call) → Words16 t → Known t → asked limits t c ≡ 0 → (perform (hall_in t) (decode (hall_in t) t) c).session < 65536
performed_small limits t c h k q = by_step c.step
  where
    H : Hall
    H = hall_in t

    held : (i : ℕ) → get_or (decode (hall_in t) t).held i 0 < 65536
    held = small-take (hall_in t).positions (drop header_words t) (small-drop header_words t h)

    shown : (i : ℕ) → get_or (decode (hall_in t) t).shown i 0 < 65536
    shown =
        small-take (all_screens (hall_in t)) (drop (hall_in t).positions (drop header_words t))
        (small-drop (hall_in t).positions (drop header_words t) (small-drop header_words t h))

    desk : Desk16 (all_screens (hall_in t)) (desk_of (decode (hall_in t) t) c.desk)
    desk = desk_read t c.desk h k (desk_asked limits (hall_in t) (decode (hall_in t) t) c q)

    by_step : (s : Step) → (perform_step (hall_in t) (decode (hall_in t) t) c.desk s).session < 65536
    by_step (Take c p) = held (p - 1)
    by_step (Drop s) = shown (screen_index (hall_in t) c.desk s)
    by_step (Swap p w) = held (p - 1)
    by_step Retire = desk.owed
    by_step Collect =
        collected-small (all_screens (hall_in t)) (decode (hall_in t) t).shown (desk_of (decode (hall_in t) t) c.desk) (some_screens (hall_in t) k.fits)
        (valid t k).formed.screens desk

pub step_session : (limits : Limits) (t : List ℕ) (c : Call) → Words16 t → (step_table limits t c).answer.session < 65536
step_session limits t c h = by_step limits (λ r. r.answer.session < 65536) t c (omega arith) (λ n q. omega arith) (λ s q. performed_small limits t c h (known limits t s) q)

pub open_session : (limits : Limits) (H : Hall) (t : List ℕ) → (open_table limits H t).answer.session ≡ 0
open_session limits H t = by_open limits (λ r. r.answer.session ≡ 0) H t (λ n q. refl) (λ q. refl)

-- ---- The words after a call.
put_words : (H : Hall) (t : List ℕ) (d : ℕ) (words : List ℕ) → Words16 t → Words16 words → Words16 (put_record H t d words)
put_words H t d words h g =
    let start = record_start H d in
    below-append 65536 (take start t) (words ++ drop (record_width H) (drop start t)) (small-take start t h)
    (below-append 65536 words (drop (record_width H) (drop start t)) g (small-drop (record_width H) (drop start t) (small-drop start t h)))

after-words : (limits : Limits) (t : List ℕ) (c : Call) → Words16 t → Call16 c → Known t → asked limits t c ≡ 0 → Words16 (table_after t c)
after-words limits t c h w k q =
    let number = next_word (hall_in t) c.desk in
    words-set (table_after_step t c.desk c.step) number (advance (get_or t number 0)) (omega arith) (by_step c.message c.desk c.step w.2 q)
  where
    S : ℕ
    S = all_screens (hall_in t)

    st : State
    st = decode (hall_in t) t

    by_step : (m d : ℕ) (s : Step) → Step16 s → asked limits t (d sends s numbered m) ≡ 0 → Words16 (table_after_step t d s)
    by_step m d (Take c p) w q = words-set t (screen_word (hall_in t) d c) (get_or t (position_word p) 0) (h (position_word p)) h
    by_step m d (Drop c) w q = words-set t (screen_word (hall_in t) d c) 0 (omega arith) h
    by_step m d (Swap p v) w q =
        let old = get_or t (position_word p) 0 in
        cond_both Words16 (is_repeat old v) h
        (words-set (set t (position_word p) v) (record_start (hall_in t) d) old (h (position_word p)) (words-set t (position_word p) v w.1 h))
    by_step m d Retire w q =
        let asks = retire-asked limits (hall_in t) st m d q in
        let D : Desk = desk_of st d in
        put_words (hall_in t) t d (encode_desk S (retire (decode_desk S (record_of (hall_in t) t d)))) h
        (subst (λ (E : Desk). Words16 (encode_desk S (retire E))) (desk_word t d asks.desk.0 asks.desk.1)
        (record_words_lem S (retire D) k.bounded (retire_16 S D asks.owes asks.room (desk_read t d h k asks.desk))))
    by_step m d Collect w q =
        let r = desk_asked limits (hall_in t) st (d sends Collect numbered m) q in
        let D : Desk = desk_of st d in
        put_words (hall_in t) t d (encode_desk S (collect S st.shown (decode_desk S (record_of (hall_in t) t d))).after) h
        (subst (λ (E : Desk). Words16 (encode_desk S (collect S st.shown E).after)) (desk_word t d r.0 r.1)
        (record_words_lem S (collect S st.shown D).after k.bounded
        (collect_16 S st.shown D (some_screens (hall_in t) k.fits) (valid t k).formed.screens (desk_read t d h k r))))

pub step_words : (limits : Limits) (t : List ℕ) (c : Call) → Words16 t → Call16 c → Words16 (step_table limits t c).after
step_words limits t c h w = by_step limits (λ r. Words16 r.after) t c h (λ n q. h) (λ s q. after-words limits t c h w (known limits t s) q)

-- ---- The opening.
opened-words : (H : Hall) (t : List ℕ) → Words16 t → Fits H → Words16 (opened_table H t)
opened-words H t h o zero = omega (arith, o.desks)
opened-words H t h o (suc zero) = omega (arith, o.screens)
opened-words H t h o (suc (suc zero)) = omega (arith, o.positions)
opened-words H t h o (suc (suc (suc i))) =
    below-append 65536 (replicate (need H - header_words) 0) (drop (need H) t) (words-zeros (need H - header_words)) (small-drop (need H) t h) i

pub open_words : (limits : Limits) (H : Hall) (t : List ℕ) → Words16 t → Words16 (open_table limits H t).after
open_words limits H t h = by_open limits (λ r. Words16 r.after) H t (λ n q. h) (λ q. opened-words H t h (limits_fit limits H (hall-opens limits H t q).0))

-- ---- The length of the table.
pub after-length : (limits : Limits) (t : List ℕ) (c : Call) → Words16 t → sound limits t ≡ true → asked limits t c ≡ 0 → length (table_after t c) ≡ length t
after-length limits t c h s q =
    let H : Hall = hall_in t in
    let st : State = decode H t in
    let k = known limits t s in
    let o = k.fits in
    let after : State = (perform H st c).after in
    let v : Valid H after = subst (λ (n : ℕ). Valid H (decide n st (perform H st c).session (perform H st c).after).after) q (valid_step H o limits st c (valid t k)) in
    ap length (encoded limits t c h k q)
    ∙ omega (arith, length-append (encode H after) (drop (need H) t), length-table H o after v [], length-drop (need H) t, k.long)

pub step-length : (limits : Limits) (t : List ℕ) (c : Call) → Words16 t → length (step_table limits t c).after ≡ length t
step-length limits t c h = by_step limits (λ r. length r.after ≡ length t) t c refl (λ n q. refl) (λ s q. after-length limits t c h s q)

pub open_length : (limits : Limits) (H : Hall) (t : List ℕ) → length (open_table limits H t).after ≡ length t
open_length limits H t =
    by_open limits (λ r. length r.after ≡ length t) H t (λ n q. refl)
    (λ q. omega (arith, (hall-opens limits H t q).1, length-append (H.desks ∷ H.screens ∷ H.positions ∷ replicate (need H - header_words) 0) (drop (need H) t), length-replicate {A = ℕ} (need H - header_words) 0, length-drop (need H) t))
