-- A step on a table, case by case; what a sound table is known by; what its words say of its state.
use Rattle.std.specs.Prelude.{ℕ, zero, suc, ◌+◌, ◌*◌, ◌-◌, ◌≤◌, ◌<◌, ◌≡◌, refl, Bool, true, false, ◌&&◌, List, map, [], ◌∷◌, length, get_or, take, drop, leb, T}
use Rattle.std.proofs.Common.{arith, mul-le-mul, mul-le-mul_right, sym, ap, ◌∙◌, get_or-take, get_or-drop, drop-drop, leb-true}
use Rattle.rules.specs.Hall.{Desk, Hall, Limits, TestedSlot, all_screens, desk_of, empty_desk, max_all_screens, screen_index}
use Rattle.rules.specs.Lists.{chunks, every}
use Rattle.rules.specs.Steps.{Call, accept, begin_at, collect, collect_seeing, decide, first_no, perform, questions, refuse}
use Rattle.rules.specs.Table.{decode, decode_desk, hall_in, header_words, in_limits, need, next_word, open_questions, open_table, opened_table, owed_offset, position_word}
use Rattle.rules.specs.Table.{record_of, record_sound, record_start, record_width, records_in, screen_word, sound, step_if, step_table, table_after, tail_offset}
use Rattle.rules.proofs.Laws.History.ScreenIndex.{screen_in}
use Rattle.rules.proofs.Laws.Lists.Bools.{and_left, and_right}
use Rattle.rules.proofs.Laws.Table.EncodedStep.{Fits, limits_fit}

-- the number that a call's questions give, on a sound table
abbrev pub asked : Limits → List ℕ → Call → ℕ
asked limits t c = first_no (questions limits (hall_in t) (decode (hall_in t) t) c)

pub unsound-step : (limits : Limits) (t : List ℕ) (c : Call) → sound limits t ≡ false → step_table limits t c ≡ refuse 5 t
unfolding step_table
unsound-step limits t c e = ap (λ (b : Bool). step_if limits b t c) e

pub refused_step : (limits : Limits) (t : List ℕ) (c : Call) (n : ℕ) → sound limits t ≡ true → asked limits t c ≡ suc n → step_table limits t c ≡ refuse (suc n) t
unfolding step_table
refused_step limits t c n e q =
    ap (λ (b : Bool). step_if limits b t c) e ∙ ap (λ (m : ℕ). decide m t (perform (hall_in t) (decode (hall_in t) t) c).session (table_after t c)) q

pub accepted_step : (limits : Limits) (t : List ℕ) (c : Call) → sound limits t ≡ true → asked limits t c ≡ 0
    → step_table limits t c ≡ accept (perform (hall_in t) (decode (hall_in t) t) c).session (table_after t c)
unfolding step_table
accepted_step limits t c e q =
    ap (λ (b : Bool). step_if limits b t c) e ∙ ap (λ (m : ℕ). decide m t (perform (hall_in t) (decode (hall_in t) t) c).session (table_after t c)) q

-- ---- a sound table
pub record Known (t : List ℕ) : Type 0 where
  pub fits : Fits (hall_in t)
  pub bounded : all_screens (hall_in t) ≤ max_all_screens
  pub long : need (hall_in t) ≤ length t
  pub records : every (record_sound (all_screens (hall_in t))) (records_in (hall_in t) t) ≡ true

-- its hall is within the limits
pub known_inside : (limits : Limits) (t : List ℕ) → sound limits t ≡ true → in_limits limits (hall_in t) ≡ true
unfolding sound
known_inside limits t s =
    and_left (in_limits limits (hall_in t)) (leb (need (hall_in t)) (length t) && every (record_sound (all_screens (hall_in t))) (records_in (hall_in t) t)) s

pub known : (limits : Limits) (t : List ℕ) → sound limits t ≡ true → Known t
unfolding sound
known limits t s =
    let H : Hall = hall_in t in
    let later = and_right (in_limits limits H) (long && records) s in
    let fits = limits_fit limits H (and_left (in_limits limits H) (long && records) s) in
    record {
      fits = fits;
      bounded = mul-le-mul fits.desks.1 fits.screens.1;
      long = leb-true (need H) (length t) (and_left long records later);
      records = and_right long records later;
    }
  where
    long : Bool
    long = leb (need (hall_in t)) (length t)

    records : Bool
    records = every (record_sound (all_screens (hall_in t))) (records_in (hall_in t) t)

-- ---- record i, from 0
row_at : (n w i : ℕ) (x : List ℕ) → drop (i * w) (drop w x) ≡ drop (suc i * w) x
row_at n w i x = let e : w + i * w ≡ suc i * w = omega arith in drop-drop (i * w) w x ∙ ap (λ (k : ℕ). drop k x) e

records_at : (S n w : ℕ) (x : List ℕ) (i : ℕ) → i < n → get_or (map (decode_desk S) (chunks n w x)) i empty_desk ≡ decode_desk S (take w (drop (i * w) x))
records_at S zero w x i h = absurd (omega arith)
records_at S (suc n) w x zero h = let e : 0 ≡ 0 * w = omega arith in ap (λ (k : ℕ). decode_desk S (take w (drop k x))) e
records_at S (suc n) w x (suc i) h = records_at S n w (drop w x) i (omega arith) ∙ ap (λ (y : List ℕ). decode_desk S (take w y)) (row_at n w i x)

pub every_record_at : (f : List ℕ → Bool) (n w : ℕ) (x : List ℕ) (i : ℕ) → i < n → every f (chunks n w x) ≡ true → f (take w (drop (i * w) x)) ≡ true
every_record_at f zero w x i h q = absurd (omega arith)
every_record_at f (suc n) w x zero h q =
    let e : 0 * w ≡ 0 = omega arith in ap (λ (k : ℕ). f (take w (drop k x))) e ∙ and_left (f (take w x)) (every f (chunks n w (drop w x))) q
every_record_at f (suc n) w x (suc i) h q =
    ap (λ (y : List ℕ). f (take w y)) (sym (row_at n w i x))
    ∙ every_record_at f n w (drop w x) i (omega arith) (and_right (f (take w x)) (every f (chunks n w (drop w x))) q)

-- record d, from 1, as it stands in the table
record_part : (t : List ℕ) (d : ℕ)
    → drop ((d - 1) * record_width (hall_in t)) (drop (all_screens (hall_in t)) (drop (hall_in t).positions (drop header_words t))) ≡ drop (record_start (hall_in t) d) t
record_part t d =
    let H : Hall = hall_in t in
    let k : ℕ = (d - 1) * record_width H in
    let e : header_words + (H.positions + (all_screens H + k)) ≡ record_start H d = omega arith in
    drop-drop k (all_screens H) (drop H.positions (drop header_words t)) ∙ drop-drop (all_screens H + k) H.positions (drop header_words t)
    ∙ drop-drop (H.positions + (all_screens H + k)) header_words t ∙ ap (λ (j : ℕ). drop j t) e

pub record_sound_lem : (t : List ℕ) (d : ℕ) → Known t → 1 ≤ d → d ≤ (hall_in t).desks → record_sound (all_screens (hall_in t)) (record_of (hall_in t) t d) ≡ true
record_sound_lem t d k h g =
    ap (λ (y : List ℕ). record_sound (all_screens (hall_in t)) (take (record_width (hall_in t)) y)) (sym (record_part t d))
    ∙ every_record_at (record_sound (all_screens (hall_in t))) (hall_in t).desks (record_width (hall_in t))
    (drop (all_screens (hall_in t)) (drop (hall_in t).positions (drop header_words t))) (d - 1) (omega arith) k.records

-- it stands before the end of the need
pub record_within : (H : Hall) (d : ℕ) → 1 ≤ d → d ≤ H.desks → record_start H d + record_width H ≤ need H
record_within H d h g =
    let m : suc (d - 1) * record_width H ≤ H.desks * record_width H = mul-le-mul_right (record_width H) (omega arith) in omega arith

-- ---- what the words say of the state
pub held_word : (t : List ℕ) (p : ℕ) → 1 ≤ p → p ≤ (hall_in t).positions → get_or (decode (hall_in t) t).held (p - 1) 0 ≡ get_or t (position_word p) 0
held_word t p h g = get_or-take (hall_in t).positions (drop header_words t) (p - 1) 0 (omega arith) ∙ get_or-drop header_words t (p - 1) 0

pub shown_at : (t : List ℕ) (i : ℕ) → i < all_screens (hall_in t) → get_or (decode (hall_in t) t).shown i 0 ≡ get_or t (header_words + (hall_in t).positions + i) 0
shown_at t i h =
    let H : Hall = hall_in t in
    let e : header_words + (H.positions + i) ≡ header_words + H.positions + i = omega arith in
    get_or-take (all_screens H) (drop H.positions (drop header_words t)) i 0 h ∙ get_or-drop H.positions (drop header_words t) i 0 ∙ get_or-drop header_words t (H.positions + i) 0
    ∙ ap (λ (k : ℕ). get_or t k 0) e

pub shown_word : (t : List ℕ) (d c : ℕ) → 1 ≤ d → d ≤ (hall_in t).desks → 1 ≤ c → c ≤ (hall_in t).screens
    → get_or (decode (hall_in t) t).shown (screen_index (hall_in t) d c) 0 ≡ get_or t (screen_word (hall_in t) d c) 0
shown_word t d c h1 h2 h3 h4 = shown_at t (screen_index (hall_in t) d c) (screen_in (hall_in t) d c h1 h2 h3 h4)

pub desk_word : (t : List ℕ) (d : ℕ) → 1 ≤ d → d ≤ (hall_in t).desks → desk_of (decode (hall_in t) t) d ≡ decode_desk (all_screens (hall_in t)) (record_of (hall_in t) t d)
desk_word t d h g =
    records_at (all_screens (hall_in t)) (hall_in t).desks (record_width (hall_in t)) (drop (all_screens (hall_in t)) (drop (hall_in t).positions (drop header_words t))) (d - 1) (omega arith)
    ∙ ap (λ (y : List ℕ). decode_desk (all_screens (hall_in t)) (take (record_width (hall_in t)) y)) (record_part t d)

-- the owed word is a record's first
pub record_owed : (H : Hall) (t : List ℕ) (d : ℕ) → get_or (record_of H t d) owed_offset 0 ≡ get_or t (record_start H d) 0
record_owed H t d =
    let a : ℕ = record_start H d in
    let e : a + 0 ≡ a = omega arith in
    get_or-take (record_width H) (drop a t) 0 0 (omega arith) ∙ get_or-drop a t 0 0 ∙ ap (λ (k : ℕ). get_or t k 0) e

pub owed_word : (t : List ℕ) (d : ℕ) → 1 ≤ d → d ≤ (hall_in t).desks → (desk_of (decode (hall_in t) t) d).owed ≡ get_or t (record_start (hall_in t) d) 0
unfolding decode_desk
owed_word t d h g = ap (λ (D : Desk). D.owed) (desk_word t d h g) ∙ record_owed (hall_in t) t d

-- the next message number is in a record's tail
pub number_word : (t : List ℕ) (d : ℕ) → 1 ≤ d → d ≤ (hall_in t).desks → (desk_of (decode (hall_in t) t) d).next ≡ get_or t (next_word (hall_in t) d) 0
unfolding decode_desk
number_word t d h g =
    let H : Hall = hall_in t in
    let at : ℕ = tail_offset (all_screens H) in
    let e : record_start H d + (at + 0) ≡ next_word H d = omega arith in
    ap (λ (D : Desk). D.next) (desk_word t d h g)
    ∙ get_or-drop at (record_of H t d) 0 0
    ∙ get_or-take (record_width H) (drop (record_start H d) t) (at + 0) 0 (omega arith)
    ∙ get_or-drop (record_start H d) t (at + 0) 0
    ∙ ap (λ (k : ℕ). get_or t k 0) e

-- ---- a collect reads the screens from the desk's own k on
pub collect-seeing : (S : ℕ) (shown : List ℕ) (D : Desk) → collect_seeing S (take 2 (drop D.scanned shown)) D ≡ collect S shown D
collect-seeing S shown D = ap (λ (n : ℕ). collect_seeing S (take 2 (drop n shown)) D) (same_scanned D.tested)
  where
    same_scanned : (T : List TestedSlot) → D.scanned ≡ (begin_at T D).scanned
    same_scanned [] = refl
    same_scanned (p ∷ T) = refl

-- ---- the opening
pub refused_open : (limits : Limits) (H : Hall) (t : List ℕ) (n : ℕ) → first_no (open_questions limits H t) ≡ suc n → open_table limits H t ≡ refuse (suc n) t
unfolding open_table
refused_open limits H t n q = ap (λ (m : ℕ). decide m t 0 (opened_table H t)) q

pub accepted_open : (limits : Limits) (H : Hall) (t : List ℕ) → first_no (open_questions limits H t) ≡ 0 → open_table limits H t ≡ accept 0 (opened_table H t)
unfolding open_table
accepted_open limits H t q = ap (λ (m : ℕ). decide m t 0 (opened_table H t)) q
