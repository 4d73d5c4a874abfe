-- A step on a sound ring: it answers as the first board that the ring reads as, leaves a ring that reads as what that board leaves, and it stays sound.
use Rattle.std.specs.Prelude.{ℕ, zero, suc, ◌+◌, ◌*◌, ◌-◌, ◌≤◌, ◌<◌, ◌≡◌, refl, Bool, true, false, cond, ◌&&◌, List, [], ◌∷◌, map, length, get_or, take, drop, set, leb, ltb, eqb}
use Rattle.std.proofs.Common.{arith, sym, ap, ◌∙◌, subst, length-set, drop-drop, drop-set-lt, get_or-set_other, le-leb, leb-true, lt-ltb, ltb-true}
use Rattle.std.proofs.lemmas.List.{drop-set-add, take-set-le}
use Rattle.rules.specs.Hall.{Desk, Hall, Limits, State, all_screens, desk_of, empty_desk, max_all_screens, used_slots}
use Rattle.rules.specs.Lists.{chunks, every}
use Rattle.rules.specs.Steps.{Call, Collect, Drop, Result, Retire, Step, Swap, Take, ◌numbered◌, ◌sends◌, accept, advance, collect, decide, first_no, is_none, is_repeat, is_session, perform}
use Rattle.rules.specs.Steps.{questions, refuse, retire}
use Rattle.rules.specs.Table.{bits_of_words, decode, decode_desk, encode_desk, hall_in, header_words, in_limits, list_offset, marks_in, marks_offset, mark_words, need, next_word, ones, position_word, put_record}
use Rattle.rules.specs.Table.{record_of, record_sound, record_start, records_in, scan_sound, screen_word, slots_in, sound, step_table, table_after, table_after_step, tail_offset}
use Rattle.rules.specs.Table.{width_for}
use Rattle.rules.proofs.Laws.Desk.Sound.{Sound, collect-sound, encoded_sound, retire-sound}
use Rattle.rules.proofs.Laws.History.ScreenIndex.{screen_in}
use Rattle.rules.proofs.Laws.History.StepEffects.{IsDesk, desk_asked, drop-asked, retire-asked, swap_asked, take-asked}
use Rattle.rules.proofs.Laws.Lists.Bools.{and_left, and_right, and-true}
use Rattle.rules.proofs.Laws.Table.DecodeStepEncode.{valid}
use Rattle.rules.proofs.Laws.Table.EncodedStep.{Fits, Valid, all_get, empty_desk-sound, length_encoded, some_screens}
use Rattle.rules.proofs.Laws.Table.TableSteps.{Known, accepted_step, asked, desk_word, every_record_at, known, refused_step}
use Rattle.ring_rules.specs.Ring.{beginning_after, beginning_in, decode_ring, encode_ring, front_words, linear, linear_in, linear_table, put_ring, ring_after}
use Rattle.ring_rules.specs.Ring.{ring_after_step, ring_need, ring_next_word, ring_record_of, ring_record_sound, ring_records_in, ring_sound, ring_start, ring_state, ring_step_if, ring_width_for}
use Rattle.ring_rules.specs.Ring.{settled, slot_after, step_ring}
use Rattle.ring_rules.specs.RingDemands.{SameStep}
use Rattle.ring_rules.proofs.Laws.Records.{circular_beginning, circular-length, linear-circular, linear-set, linear_set_tail}
use Rattle.ring_rules.proofs.Laws.RingTables.{hall_same, linear_table-length, number_linear, number_same, owed_linear, put_every, put_hall, put_long, put_same, record_long, record_same}
use Rattle.ring_rules.proofs.Laws.RingTables.{records_same, same_hall, word_put, word_same, word_stored}

-- ---- A sound ring.
pub record KnownAt (limits : Limits) (H : Hall) (t : List ℕ) : Type 0 where
  pub inside : in_limits limits H ≡ true
  pub long : ring_need H ≤ length t
  pub records : every (ring_record_sound (all_screens H)) (ring_records_in H t) ≡ true

abbrev pub RingKnown : Limits → List ℕ → Type 0
RingKnown limits t = KnownAt limits (hall_in t) t

pub ring_known : (limits : Limits) (t : List ℕ) → ring_sound limits t ≡ true → RingKnown limits t
unfolding ring_sound
ring_known limits t s =
    let a : Bool = in_limits limits (hall_in t) in
    let b : Bool = leb (ring_need (hall_in t)) (length t) in
    let c : Bool = every (ring_record_sound (all_screens (hall_in t))) (ring_records_in (hall_in t) t) in
    let later = and_right a (b && c) s in
    record { inside = and_left a (b && c) s; long = leb-true (ring_need (hall_in t)) (length t) (and_left b c later); records = and_right b c later }

pub known_ring : (limits : Limits) (t : List ℕ) → RingKnown limits t → ring_sound limits t ≡ true
unfolding ring_sound
known_ring limits t k = and-true _ _ k.inside (and-true _ _ (le-leb (ring_need (hall_in t)) (length t) k.long) k.records)

every-linear : (S : ℕ) (rs : List (List ℕ)) → every (ring_record_sound S) rs ≡ true → every (record_sound S) (map (linear S) rs) ≡ true
every-linear S [] e = refl
every-linear S (r ∷ rs) e =
    let a = and_left (ring_record_sound S r) (every (ring_record_sound S) rs) e in
    and-true (record_sound S (linear S r)) (every (record_sound S) (map (linear S) rs)) (and_right (ltb (beginning_in S r) (2 * S)) (record_sound S (linear S r)) a)
    (every-linear S rs (and_right (ring_record_sound S r) (every (ring_record_sound S) rs) e))

-- the first board that it reads as is sound
pub linear-sound : (limits : Limits) (t : List ℕ) → RingKnown limits t → sound limits (linear_table t) ≡ true
unfolding sound
linear-sound limits t k =
    let H = hall_in t in
    let T = linear_table t in
    ap (λ (h : Hall). in_limits limits h && (leb (need h) (length T) && every (record_sound (all_screens h)) (records_in h T))) (hall_same H t k.long)
    ∙ and-true (in_limits limits H) _ k.inside
    (and-true (leb (need H) (length T)) _ (le-leb (need H) (length T) (let l = k.long in omega (arith, linear_table-length H t k.long)))
    (ap (every (record_sound (all_screens H))) (records_same H t k.long) ∙ every-linear (all_screens H) (ring_records_in H t) k.records))

-- ---- Words of a record that soundness does not read: the owed session and the message number.
owed_unread : (S v : ℕ) (w : List ℕ) → record_sound S (set w 0 v) ≡ record_sound S w
unfolding record_sound
owed_unread S v [] = refl
owed_unread S v (x ∷ w) = refl

number_unread : (S v : ℕ) (w : List ℕ) → record_sound S (set w (tail_offset S) v) ≡ record_sound S w
unfolding record_sound
number_unread S v w =
    λ i. leb (ready i + tested i + waiting i) (2 * S)
    && (every is_session (take (ready i + tested i + waiting i) (slots i))
    && (every is_none (drop (ready i + tested i + waiting i) (slots i))
    && (eqb (ones (drop (tested i) (marks i))) 0
    && (scan_sound S (tested i) (scanned i)
    && leb (ones (marks i)) (scanned i)))))
  where
    head_word : (i : ℕ) → i < list_offset → get_or (set w (tail_offset S) v) i 0 ≡ get_or w i 0
    head_word i h = get_or-set_other w (tail_offset S) i v 0 (λ e. omega arith)

    scanned : get_or (set w (tail_offset S) v) 1 0 ≡ get_or w 1 0
    scanned = head_word 1 (omega arith)

    ready : get_or (set w (tail_offset S) v) 2 0 ≡ get_or w 2 0
    ready = head_word 2 (omega arith)

    tested : get_or (set w (tail_offset S) v) 3 0 ≡ get_or w 3 0
    tested = head_word 3 (omega arith)

    waiting : get_or (set w (tail_offset S) v) 4 0 ≡ get_or w 4 0
    waiting = head_word 4 (omega arith)

    -- so many words from an offset on, all before the tail
    part : (n m : ℕ) → n + m ≤ tail_offset S → take m (drop n (set w (tail_offset S) v)) ≡ take m (drop n w)
    part n m h =
        let e : tail_offset S ≡ n + (tail_offset S - n) = omega arith in
        ap (λ (k : ℕ). take m (drop n (set w k v))) e
        ∙ ap (take m) (drop-set-add n w (tail_offset S - n) v)
        ∙ take-set-le m (drop n w) (tail_offset S - n) v (omega arith)

    slots : slots_in S (set w (tail_offset S) v) ≡ slots_in S w
    slots = part list_offset (2 * S) (omega arith)

    marks : marks_in (set w (tail_offset S) v) ≡ marks_in w
    marks = ap bits_of_words (part marks_offset mark_words (omega arith))

beginning_kept : (S i v : ℕ) (r : List ℕ) → i < width_for S → beginning_in S (set r i v) ≡ beginning_in S r
beginning_kept S i v r h = get_or-set_other r i (width_for S) v 0 (λ e. omega arith)

-- a store that soundness does not read, at the same offset in both records
unread_sound : (S i v : ℕ) (r : List ℕ) → i < width_for S → linear S (set r i v) ≡ set (linear S r) i v → record_sound S (set (linear S r) i v) ≡ record_sound S (linear S r)
    → ring_record_sound S r ≡ true → ring_record_sound S (set r i v) ≡ true
unread_sound S i v r h same unread e =
    let begins = sym (beginning_kept S i v r h) in
    let reads = sym (ap (record_sound S) same ∙ unread) in
    sym (λ j. ltb (begins j) (2 * S) && reads j) ∙ e

-- ---- A slot of the ring.
pub slot_below : (S b i : ℕ) → b < 2 * S → i ≤ 2 * S → slot_after S b i < 2 * S
slot_below S b i h l = by_wrap (ltb (b + i) (2 * S)) refl
  where
    by_wrap : (q : Bool) → ltb (b + i) (2 * S) ≡ q → cond q (b + i) (b + i - 2 * S) < 2 * S
    by_wrap true e = ltb-true (b + i) (2 * S) e
    by_wrap false e = omega arith

pub after-below : (S : ℕ) (ready : List ℕ) (b : ℕ) → b < 2 * S → beginning_after S ready b < 2 * S
after-below S [] b h = h
after-below S (x ∷ ready) b h = slot_below S b 1 h (omega arith)

-- ---- The record of a sound desk, with its list from slot b on.
pub record Laid (S b : ℕ) (D : Desk) : Type 0 where
  pub long : length (encode_ring S b D) ≡ ring_width_for S
  pub begins : beginning_in S (encode_ring S b D) ≡ b
  pub reads : linear S (encode_ring S b D) ≡ encode_desk S D
  pub good : ring_record_sound S (encode_ring S b D) ≡ true

pub laid : (H : Hall) (fits : Fits H) (b : ℕ) (D : Desk) → all_screens H ≤ max_all_screens → b < 2 * all_screens H → Sound (all_screens H) D → Laid (all_screens H) b D
laid H fits b D bounded h s =
    let S = all_screens H in
    let w = length_encoded H fits D s in
    let begins = circular_beginning S b (encode_desk S D) w (omega arith) in
    let reads = linear-circular S b (encode_desk S D) w (omega arith) in
    record {
      long = circular-length S b (encode_desk S D) w (omega arith);
      begins = begins;
      reads = reads;
      good =
          and-true (ltb (beginning_in S (encode_ring S b D)) (2 * S)) (record_sound S (linear S (encode_ring S b D)))
          (ap (λ (k : ℕ). ltb k (2 * S)) begins ∙ lt-ltb b (2 * S) h)
          (ap (record_sound S) reads ∙ encoded_sound S D bounded s);
    }

-- ---- A ring's table after a write: the same hall and length, its records sound, and it reads as v.
pub record Writes (H : Hall) (t u v : List ℕ) : Type 0 where
  pub hall : hall_in u ≡ hall_in t
  pub same : linear_in H u ≡ v
  pub long : length u ≡ length t
  pub records : every (ring_record_sound (all_screens H)) (ring_records_in H u) ≡ true

module _ (H : Hall) (t : List ℕ) (long : ring_need H ≤ length t) (good : every (ring_record_sound (all_screens H)) (ring_records_in H t) ≡ true) where
  store_front : (i v : ℕ) → header_words ≤ i → i < front_words H → Writes H t (set t i v) (set (linear_in H t) i v)
  store_front i v h l =
      record {
        hall = same_hall header_words (set t i v) t (omega arith) (take-set-le header_words t i v h);
        same = word_stored H t long i v l;
        long = length-set t i v;
        records = ap (λ (x : List ℕ). every (ring_record_sound (all_screens H)) (chunks H.desks (ring_width_for (all_screens H)) x)) (drop-set-lt (front_words H) t i v l) ∙ good;
      }

  module _ (d : ℕ) (first : 1 ≤ d) (last : d ≤ H.desks) where
    pub record_good : ring_record_sound (all_screens H) (ring_record_of H t d) ≡ true
    record_good =
        ap (λ (x : List ℕ). ring_record_sound (all_screens H) (take (ring_width_for (all_screens H)) x)) (sym (drop-drop ((d - 1) * ring_width_for (all_screens H)) (front_words H) t))
        ∙ every_record_at (ring_record_sound (all_screens H)) H.desks (ring_width_for (all_screens H)) (drop (front_words H) t) (d - 1) (omega arith) good

    store_record : (q : List ℕ) → length q ≡ ring_width_for (all_screens H) → ring_record_sound (all_screens H) q ≡ true
        → Writes H t (put_ring H t d q) (put_record H (linear_in H t) d (linear (all_screens H) q))
    store_record q hq fq =
        record {
          hall = put_hall H t long d first last q;
          same = put_same H t long d first last q hq;
          long = put_long H t long d first last q hq;
          records = put_every H t long d first last (ring_record_sound (all_screens H)) q hq fq good;
        }

    -- a word that soundness does not read
    store_unread : (i v : ℕ) → i < ring_width_for (all_screens H) → ring_record_sound (all_screens H) (set (ring_record_of H t d) i v) ≡ true
        → (w : List ℕ) → linear_in H (set t (ring_start H d + i) v) ≡ w → Writes H t (set t (ring_start H d + i) v) w
    store_unread i v h fq w same =
        let r = ring_record_of H t d in
        let stored = store_record (set r i v) (length-set r i v ∙ record_long H t long d first last) fq in
        let e = word_put H t long d first last i v h in
        record {
          hall = ap hall_in e ∙ stored.hall;
          same = same;
          long = length-set t (ring_start H d + i) v;
          records = ap (λ (x : List ℕ). every (ring_record_sound (all_screens H)) (ring_records_in H x)) e ∙ stored.records;
        }

    store_owed : (v : ℕ) → Writes H t (set t (ring_start H d) v) (set (linear_in H t) (record_start H d) v)
    store_owed v =
        let S = all_screens H in
        let r = ring_record_of H t d in
        let e : ring_start H d + 0 ≡ ring_start H d = omega arith in
        let same = linear-set S r (record_long H t long d first last) 0 v (omega arith) in
        let f = ap (λ (k : ℕ). linear_in H (set t k v)) e ∙ owed_linear H t long d first last v in
        subst (λ (k : ℕ). Writes H t (set t k v) (set (linear_in H t) (record_start H d) v)) e
        (store_unread 0 v (omega arith) (unread_sound S 0 v r (omega arith) same (owed_unread S v (linear S r)) record_good) _ f)

    store_number : (v : ℕ) → Writes H t (set t (ring_next_word H d) v) (set (linear_in H t) (next_word H d) v)
    store_number v =
        let S = all_screens H in
        let r = ring_record_of H t d in
        let e : tail_offset S + 0 ≡ tail_offset S = omega arith in
        let same : linear S (set r (tail_offset S) v) ≡ set (linear S r) (tail_offset S) v =
        subst (λ (k : ℕ). linear S (set r k v) ≡ set (linear S r) k v) e (linear_set_tail S r (record_long H t long d first last) 0 v (omega arith)) in
        store_unread (tail_offset S) v (omega arith) (unread_sound S (tail_offset S) v r (omega arith) same (number_unread S v (linear S r)) record_good) _
        (number_linear H t long d first last v)

-- ---- What is known of the first board that a sound ring reads as, at the ring's hall.
pub record Holds (H : Hall) (T : List ℕ) : Type 0 where
  pub fits : Fits H
  pub bounded : all_screens H ≤ max_all_screens
  pub valid_state : Valid H (decode H T)
  pub desk : (d : ℕ) → 1 ≤ d → d ≤ H.desks → desk_of (decode H T) d ≡ decode_desk (all_screens H) (record_of H T d)

holds_known : (T : List ℕ) → Known T → Holds (hall_in T) T
holds_known T k = record { fits = k.fits; bounded = k.bounded; valid_state = valid T k; desk = desk_word T }

module _ (limits : Limits) (t : List ℕ) (k : RingKnown limits t) where
  abbrev H : Hall
  H = hall_in t

  abbrev S : ℕ
  S = all_screens H

  abbrev T : List ℕ
  T = linear_table t

  abbrev st : State
  st = ring_state t

  pub same_hall_read : hall_in T ≡ H
  same_hall_read = hall_same H t k.long

  pub first-sound : sound limits T ≡ true
  first-sound = linear-sound limits t k

  pub held : Holds H T
  held = subst (λ (h : Hall). Holds h T) same_hall_read (holds_known T (known limits T first-sound))

  module _ (d : ℕ) (there : IsDesk H d) where
    abbrev r : List ℕ
    r = ring_record_of H t d

    pub desk_is : desk_of st d ≡ decode_ring S r
    desk_is = held.desk d there.0 there.1 ∙ ap (decode_desk S) (record_same H t k.long d there.0 there.1)

    pub desk_good : Sound S (decode_ring S r)
    desk_good = subst (Sound S) desk_is (all_get (Sound S) st.desks (d - 1) empty_desk (empty_desk-sound S) held.valid_state.desks)

    pub begins-below : beginning_in S r < 2 * S
    begins-below =
        ltb-true (beginning_in S r) (2 * S)
        (and_left (ltb (beginning_in S r) (2 * S)) (record_sound S (linear S r)) (record_good H t k.long k.records d there.0 there.1))

    -- the record of another sound desk in its place
    put_desk : (b : ℕ) (D : Desk) → b < 2 * S → Sound S D → Writes H t (put_ring H t d (encode_ring S b D)) (put_record H T d (encode_desk S D))
    put_desk b D h s =
        let l = laid H held.fits b D held.bounded h s in
        let w = store_record H t k.long k.records d there.0 there.1 (encode_ring S b D) l.long l.good in
        record { hall = w.hall; same = w.same ∙ ap (put_record H T d) l.reads; long = w.long; records = w.records }

  pub screen_below : (d c : ℕ) → IsDesk H d → 1 ≤ c → c ≤ H.screens → screen_word H d c < front_words H
  screen_below d c there h3 h4 = omega (arith, screen_in H d c there.0 there.1 h3 h4)

  -- what an accepted step writes
  pub writes_step : (m d : ℕ) (s : Step) → first_no (questions limits H st (d sends s numbered m)) ≡ 0 → Writes H t (ring_after_step t d s) (table_after_step T d s)
  writes_step m d (Take c p) e =
      let a = take-asked limits H st m d c p e in
      let v = get_or t (position_word p) 0 in
      let w = store_front H t k.long k.records (screen_word H d c) v (omega arith) (screen_below d c a.desk a.screen.0 a.screen.1) in
      let q = word_same H t k.long (position_word p) (omega (arith, a.position)) in
      record { hall = w.hall; same = w.same ∙ sym (λ i. set T (screen_word (same_hall_read i) d c) (q i)); long = w.long; records = w.records }
  writes_step m d (Drop c) e =
      let a = drop-asked limits H st m d c e in
      let w = store_front H t k.long k.records (screen_word H d c) 0 (omega arith) (screen_below d c a.desk a.screen.0 a.screen.1) in
      record { hall = w.hall; same = w.same ∙ sym (λ i. set T (screen_word (same_hall_read i) d c) 0); long = w.long; records = w.records }
  writes_step m d (Swap p s) e =
      let a = swap_asked limits H st m d p s e in
      let old = get_or t (position_word p) 0 in
      let q : get_or T (position_word p) 0 ≡ old = word_same H t k.long (position_word p) (omega (arith, a.position)) in
      let w1 = store_front H t k.long k.records (position_word p) s (omega arith) (omega (arith, a.position)) in
      let t1 = set t (position_word p) s in
      let w2 = store_owed H t1 (let l = k.long in omega (arith, w1.long)) w1.records d a.desk.0 a.desk.1 old in
      let changed : Writes H t (set t1 (ring_start H d) old) (set (set T (position_word p) s) (record_start H d) old) =
      record { hall = w2.hall ∙ w1.hall; same = w2.same ∙ ap (λ (x : List ℕ). set x (record_start H d) old) w1.same; long = w2.long ∙ w1.long; records = w2.records } in
      let unchanged : Writes H t t T = record { hall = refl; same = refl; long = refl; records = k.records } in
      subst (Writes H t (cond (is_repeat old s) t (set t1 (ring_start H d) old)))
      (sym (λ i. cond (is_repeat (q i) s) T (set (set T (position_word p) s) (record_start (same_hall_read i) d) (q i))))
      (by_repeat (is_repeat old s) unchanged changed)
    where
      by_repeat : (b : Bool) {u v u' v' : List ℕ} → Writes H t u v → Writes H t u' v' → Writes H t (cond b u u') (cond b v v')
      by_repeat true x y = x
      by_repeat false x y = y
  writes_step m d Retire e =
      let a = retire-asked limits H st m d e in
      let i = desk_is d a.desk in
      let D = decode_ring S (ring_record_of H t d) in
      let room = subst (λ (x : Desk). used_slots x < 2 * S) i a.room in
      let owes = subst (λ (x : Desk). x.owed ≡ 0 → ⊥) i a.owes in
      let w = put_desk d a.desk (beginning_in S (ring_record_of H t d)) (retire D) (begins-below d a.desk) (retire-sound S D owes room (desk_good d a.desk)) in
      let q = ap (decode_desk S) (record_same H t k.long d a.desk.0 a.desk.1) in
      record {
        hall = w.hall;
        same =
            w.same
            ∙ sym (ap (λ (h : Hall). put_record h T d (encode_desk (all_screens h) (retire (decode_desk (all_screens h) (record_of h T d))))) same_hall_read ∙ ap (λ (x : Desk). put_record H T d (encode_desk S (retire x))) q);
        long = w.long;
        records = w.records;
      }
  writes_step m d Collect e =
      let there = desk_asked limits H st (d sends Collect numbered m) e in
      let D = decode_ring S (ring_record_of H t d) in
      let b = beginning_in S (ring_record_of H t d) in
      let ready = (settled S st.shown D).ready in
      let good = collect-sound S st.shown D (some_screens H held.fits) held.valid_state.formed.screens (desk_good d there) in
      let w = put_desk d there (beginning_after S ready b) (collect S st.shown D).after (after-below S ready b (begins-below d there)) good in
      let q = ap (decode_desk S) (record_same H t k.long d there.0 there.1) in
      record {
        hall = w.hall;
        same =
            w.same
            ∙ sym (ap (λ (h : Hall). put_record h T d (encode_desk (all_screens h) (collect (all_screens h) (decode h T).shown (decode_desk (all_screens h) (record_of h T d))).after)) same_hall_read ∙ ap (λ (x : Desk). put_record H T d (encode_desk S (collect S st.shown x).after)) q);
        long = w.long;
        records = w.records;
      }

  -- and then the message number
  pub writes : (c : Call) → first_no (questions limits H st c) ≡ 0 → Writes H t (ring_after t c) (table_after T c)
  writes c e =
      let there = desk_asked limits H st c e in
      let d = c.desk in
      let u = ring_after_step t d c.step in
      let w1 = writes_step c.message d c.step e in
      let v = advance (get_or t (ring_next_word H d) 0) in
      let w2 = store_number H u (let l = k.long in omega (arith, w1.long)) w1.records d there.0 there.1 v in
      let q = number_same H t k.long d there.0 there.1 in
      record {
        hall = w2.hall ∙ w1.hall;
        same =
            w2.same ∙ ap (λ (x : List ℕ). set x (next_word H d) v) w1.same
            ∙ sym (ap (λ (h : Hall). set (table_after_step T d c.step) (next_word h d) (advance (get_or T (next_word h d) 0))) same_hall_read ∙ ap (λ (x : ℕ). set (table_after_step T d c.step) (next_word H d) (advance x)) q);
        long = w2.long ∙ w1.long;
        records = w2.records;
      }

-- ---- One step, case by case.
abbrev pub ring_asked : Limits → List ℕ → Call → ℕ
ring_asked limits t c = first_no (questions limits (hall_in t) (ring_state t) c)

pub unsound-ring : (limits : Limits) (t : List ℕ) (c : Call) → ring_sound limits t ≡ false → step_ring limits t c ≡ refuse 5 t
unfolding step_ring
unsound-ring limits t c e = ap (λ (b : Bool). ring_step_if limits b t c) e

pub refused_ring : (limits : Limits) (t : List ℕ) (c : Call) (n : ℕ) → ring_sound limits t ≡ true → ring_asked limits t c ≡ suc n → step_ring limits t c ≡ refuse (suc n) t
unfolding step_ring
refused_ring limits t c n e q =
    ap (λ (b : Bool). ring_step_if limits b t c) e ∙ ap (λ (m : ℕ). decide m t (perform (hall_in t) (ring_state t) c).session (ring_after t c)) q

pub accepted_ring : (limits : Limits) (t : List ℕ) (c : Call) → ring_sound limits t ≡ true → ring_asked limits t c ≡ 0
    → step_ring limits t c ≡ accept (perform (hall_in t) (ring_state t) c).session (ring_after t c)
unfolding step_ring
accepted_ring limits t c e q =
    ap (λ (b : Bool). ring_step_if limits b t c) e ∙ ap (λ (m : ℕ). decide m t (perform (hall_in t) (ring_state t) c).session (ring_after t c)) q

writes_known : (limits : Limits) (t u v : List ℕ) → RingKnown limits t → Writes (hall_in t) t u v → RingKnown limits u
writes_known limits t u v k w =
    let l = k.long in
    subst (λ (h : Hall). KnownAt limits h u) (sym w.hall) (record { inside = k.inside; long = omega (arith, w.long); records = w.records })

-- the same questions, of the first board that a sound ring reads as
pub asked_alike : (limits : Limits) (t : List ℕ) → ring_sound limits t ≡ true → (c : Call) → asked limits (linear_table t) c ≡ ring_asked limits t c
asked_alike limits t is-sound c =
    ap (λ (h : Hall). first_no (questions limits h (decode h (linear_table t)) c)) (hall_same (hall_in t) t (ring_known limits t is-sound).long)

pub ring-step : (limits : Limits) (t : List ℕ) → ring_sound limits t ≡ true → (c : Call) → SameStep limits (step_ring limits t c) (step_table limits (linear_table t) c)
ring-step limits t is-sound c = by_number_lem (ring_asked limits t c) refl
  where
    by_number_lem : (n : ℕ) → ring_asked limits t c ≡ n → SameStep limits (step_ring limits t c) (step_table limits (linear_table t) c)
    by_number_lem zero e =
        let w = writes limits t (ring_known limits t is-sound) c e in
        let H : Hall = hall_in t in
        let ring = accepted_ring limits t c is-sound e in
        let first = accepted_step limits (linear_table t) c (first-sound limits t (ring_known limits t is-sound)) (asked_alike limits t is-sound c ∙ e) in
        let session = ap (λ (x : Hall). (perform x (decode x (linear_table t)) c).session) (hall_same H t (ring_known limits t is-sound).long) in
        record {
          answer = ap (λ (x : Result (List ℕ)). x.answer) ring ∙ sym (ap (λ (x : Result (List ℕ)). x.answer) first ∙ ap (λ (x : ℕ). record { number = 0; session = x }) session);
          reads =
              ap (λ (x : Result (List ℕ)). linear_table x.after) ring ∙ ap (λ (x : Hall). linear_in x (ring_after t c)) w.hall ∙ w.same
              ∙ sym (ap (λ (x : Result (List ℕ)). x.after) first);
          stays = ap (λ (x : Result (List ℕ)). ring_sound limits x.after) ring ∙ known_ring limits (ring_after t c) (writes_known limits t (ring_after t c) (table_after (linear_table t) c) (ring_known limits t is-sound) w);
        }
    by_number_lem (suc n) e =
        let ring = refused_ring limits t c n is-sound e in
        let first = refused_step limits (linear_table t) c n (first-sound limits t (ring_known limits t is-sound)) (asked_alike limits t is-sound c ∙ e) in
        record {
          answer = ap (λ (x : Result (List ℕ)). x.answer) ring ∙ sym (ap (λ (x : Result (List ℕ)). x.answer) first);
          reads = ap (λ (x : Result (List ℕ)). linear_table x.after) ring ∙ sym (ap (λ (x : Result (List ℕ)). x.after) first);
          stays = ap (λ (x : Result (List ℕ)). ring_sound limits x.after) ring ∙ is-sound;
        }
