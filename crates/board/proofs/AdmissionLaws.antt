-- What a header, `check` and `admit` answer, taken apart: a refusal, or a sound table with its hall, or with the desk's location in it.
use Rattle.std.specs.Prelude.{Result as OkOrErr, Ok, Err}
use Rattle.std.proofs.Common.{◌⊎◌, inl, inr, ◌≡◌, ℕ, ◌+◌, ◌-◌, ◌*◌, ◌<◌, ◌≤◌, Bool, true, false, cond, eqb, leb, List, length, get_or, drop, sym, refl, ap, ◌∙◌, subst, arith, eqb-true, le-leb, leb-true, mul-le-mul, mul-le-mul_right, suc, ◌&&◌, ap₂, get_or-take, get_or-drop, set, length-drop, length-take-le}
use Rattle.rules.specs.Hall.{Desk, Hall, Limits, all_screens, desk_of, max_all_screens, max_desks, max_positions}
use Rattle.rules.specs.Lists.{chunks, every}
use Rattle.rules.specs.Steps.{Call, advance, decide, first_no, in_range, perform, questions, refuse}
use Rattle.rules.specs.Table.{hall_in, header_words, in_limits, tail_offset}
use Rattle.rules.proofs.Laws.History.StepEffects.{in_range_lem}
use Rattle.rules.proofs.Laws.Lists.Bools.{and_left, and_right}
use Rattle.rules.proofs.Laws.Table.EncodedStep.{Fits, limits_fit}
use Rattle.reply.specs.Answer.{table_result}
use Rattle.reply.specs.declared.Reason.{Reason}
use Rattle.reply.specs.declared.Reason.TheVariants.{NoDesk, OtherMessage, Unsound}
use Rattle.board.specs.Kind.{Holds, Kind, Laws, need_of, next_of, record_in, records_of, start_for, start_of}
use Rattle.board.specs.Admission.{Admits, admission_of, header_of, location_of, numbers_in, soundness_of}
use Rattle.board.specs.declared.Hall.{Hall as Numbers}
use Rattle.board.specs.declared.Location.{Location}

-- ---- what is known of a sound table
pub record Known (kind : Kind) (t : List ℕ) : Type 0 where
  pub fits : Fits (hall_in t)
  pub bounded : all_screens (hall_in t) ≤ max_all_screens
  pub long : need_of kind (hall_in t) ≤ length t
  pub records : every (kind.record_sound (all_screens (hall_in t))) (records_of kind (hall_in t) t) ≡ true
  pub holds : Holds kind t

-- its numbers are within the limits
pub record Bounded (h : Numbers) : Type 0 where
  pub desks : h.desks ≤ max_desks
  pub positions : h.positions ≤ max_positions
  pub all : h.all ≤ max_all_screens

-- ---- the hall that a header names, and no hall
pub record Named (kind : Kind) (limits : Limits) (t : List ℕ) (h : Numbers) : Type 0 where
  pub inside : in_limits limits (hall_in t) ≡ true
  pub long : need_of kind (hall_in t) ≤ length t
  pub is : h ≡ numbers_in t

-- ---- what `check` says of a table: its hall, if it is sound
pub record SoundHall (kind : Kind) (limits : Limits) (t : List ℕ) (h : Numbers) : Type 0 where
  pub yes_sound : kind.sound limits t ≡ true
  pub is : h ≡ numbers_in t

-- ---- accepted
pub record Admitted (kind : Kind) (limits : Limits) (t : List ℕ) (desk : ℕ) (p : Location) : Type 0 where
  pub yes_sound : kind.sound limits t ≡ true
  pub yes_desk : in_range desk (hall_in t).desks ≡ true
  pub facts : Known kind t
  pub range : (1 ≤ desk) × (desk ≤ (hall_in t).desks)
  pub positions_is : p.positions ≡ (hall_in t).positions
  pub screens_is : p.screens ≡ (hall_in t).screens
  pub all_is : p.all ≡ all_screens (hall_in t)
  pub start_is : p.start ≡ start_of kind (hall_in t) desk
  pub next_is : p.next ≡ next_of kind (hall_in t) desk
  pub end_is : p.end ≡ p.start + kind.width p.all
  pub bounded : p.all ≤ max_all_screens
  pub room : p.end ≤ length t
  pub number_there : p.next < length t

-- both questions are answered yes
pub record AdmitsCall (kind : Kind) (limits : Limits) (t : List ℕ) (message desk : ℕ) (p : Location) : Type 0 where
  pub admits_desk : Admits kind limits t desk p
  pub is_next : message ≡ get_or t (next_of kind (hall_in t) desk) 0

module _ {kind : Kind} where
  pub named : {limits : Limits} {t : List ℕ} {h : Numbers} → Ok h ≡ header_of kind limits t → Named kind limits t h
  unfolding header_of
  named {limits} {t} {h} q = go (in_limits limits (hall_in t)) (leb (need_of kind (hall_in t)) (length t)) refl refl
    where
      go : (a b : Bool) → in_limits limits (hall_in t) ≡ a → leb (need_of kind (hall_in t)) (length t) ≡ b → Named kind limits t h
      go true true e g = let z : Ok h ≡ Ok (numbers_in t) = rw (e, g) at q in record { inside = e; long = leb-true (need_of kind (hall_in t)) (length t) g; is = cc }
      go true false e g = let z : Ok h ≡ Err Unsound = rw (e, g) at q in let never : ◌≡◌ {A = ℕ} 0 1 = cc in absurd (omega arith)
      go false b e g = let z : Ok h ≡ Err Unsound = rw e at q in let never : ◌≡◌ {A = ℕ} 0 1 = cc in absurd (omega arith)

  pub sound-hall : {limits : Limits} {t : List ℕ} {h : Numbers} → Ok h ≡ soundness_of kind limits t → SoundHall kind limits t h
  unfolding soundness_of
  sound-hall {limits} {t} {h} q = by_soundness (kind.sound limits t) refl
    where
      by_soundness : (b : Bool) → kind.sound limits t ≡ b → SoundHall kind limits t h
      by_soundness true e = let z : Ok h ≡ Ok (numbers_in t) = rw e at q in record { yes_sound = e; is = cc }
      by_soundness false e = let z : Ok h ≡ Err Unsound = rw e at q in let never : ◌≡◌ {A = ℕ} 0 1 = cc in absurd (omega arith)

module _ {kind : Kind} (laws : Laws kind) where
  pub header_broken : (limits : Limits) (t : List ℕ) {reason : Reason} → Err reason ≡ header_of kind limits t → Err reason ≡ soundness_of kind limits t
  unfolding header_of soundness_of
  header_broken limits t {reason} q = go (in_limits limits (hall_in t)) (leb (need_of kind (hall_in t)) (length t)) refl refl
    where
      go : (a b : Bool) → in_limits limits (hall_in t) ≡ a → leb (need_of kind (hall_in t)) (length t) ≡ b → Err reason ≡ soundness_of kind limits t
      go true true e g = let z : Err reason ≡ Ok (numbers_in t) = rw (e, g) at q in let never : ◌≡◌ {A = ℕ} 0 1 = cc in absurd (omega arith)
      go true false e g = rw (laws.sound_is limits t, e, g) (rw (e, g) at q)
      go false b e g = rw (laws.sound_is limits t, e) (rw e at q)

  -- then the table is sound where the records are
  module _ {limits : Limits} {t : List ℕ} {h : Numbers} (n : Named kind limits t h) where
    abbrev pub records_sound : Bool
    records_sound = every (kind.record_sound h.all) (chunks h.desks (kind.width h.all) (drop (header_words + h.positions + h.all) t))

    by_records : kind.sound limits t ≡ records_sound
    by_records =
        laws.sound_is limits t
        ∙ rw (n.inside, le-leb (need_of kind (hall_in t)) (length t) n.long)
        (ap (λ (x : Numbers). every (kind.record_sound x.all) (chunks x.desks (kind.width x.all) (drop (header_words + x.positions + x.all) t))) (sym n.is))

    pub records-sound : records_sound ≡ true → Ok h ≡ soundness_of kind limits t
    unfolding soundness_of
    records-sound all = rw (by_records ∙ all) (ap Ok n.is)

    pub records-unsound : records_sound ≡ false → Err Unsound ≡ soundness_of kind limits t
    unfolding soundness_of
    records-unsound bad = rw (by_records ∙ bad)

  pub known : (limits : Limits) (t : List ℕ) → kind.sound limits t ≡ true → Known kind t
  known limits t s =
      let passes = sym (laws.sound_is limits t) ∙ s in
      let a : Bool = in_limits limits (hall_in t) in
      let b : Bool = leb (need_of kind (hall_in t)) (length t) in
      let c : Bool = every (kind.record_sound (all_screens (hall_in t))) (records_of kind (hall_in t) t) in
      let later = and_right a (b && c) passes in
      let fits = limits_fit limits (hall_in t) (and_left a (b && c) passes) in
      record {
        fits = fits;
        bounded = omega (arith, mul-le-mul fits.desks.1 fits.screens.1);
        long = leb-true (need_of kind (hall_in t)) (length t) (and_left b c later);
        records = and_right b c later;
        holds = laws.holds limits t s;
      }

  pub hall_bounded : {limits : Limits} {t : List ℕ} {h : Numbers} → SoundHall kind limits t h → Bounded h
  hall_bounded {limits} {t} {h} hall =
      let desks = ap (λ (x : Numbers). x.desks) hall.is in
      let positions = ap (λ (x : Numbers). x.positions) hall.is in
      let all = ap (λ (x : Numbers). x.all) hall.is in
      let f = known limits t hall.yes_sound in
      record { desks = omega (arith, desks, f.fits.desks); positions = omega (arith, positions, f.fits.positions); all = omega (arith, all, f.bounded) }

  -- ---- the record of desk d is in the table, and it has the word of the message number
  pub record_within : (H : Hall) (d : ℕ) → 1 ≤ d → d ≤ H.desks → start_of kind H d + kind.width (all_screens H) ≤ need_of kind H
  record_within H d h g =
      let m : suc (d - 1) * kind.width (all_screens H) ≤ H.desks * kind.width (all_screens H) = mul-le-mul_right (kind.width (all_screens H)) (omega arith) in omega arith

  pub next_within : (H : Hall) (d : ℕ) → 1 ≤ d → d ≤ H.desks → next_of kind H d < need_of kind H
  next_within H d h g = omega (arith, record_within H d h g, laws.numbered (all_screens H))

  -- the end of a record is the start of the next
  next_start : (H : Hall) (d : ℕ) → 1 ≤ d → start_for kind H.positions (all_screens H) d ≡ start_of kind H d + kind.width (all_screens H)
  next_start H d h = let e : d ≡ 1 + (d - 1) = omega arith in ap (start_for kind H.positions (all_screens H)) e ∙ omega arith

  pub admitted : {limits : Limits} {t : List ℕ} {desk : ℕ} {p : Location} → Admits kind limits t desk p → Admitted kind limits t desk p
  admitted {limits} {t} {desk} {p} a =
      let f = known limits t a.yes_sound in
      let r = in_range_lem desk (hall_in t).desks a.yes_desk in
      let all = ap (λ (x : Location). x.all) a.is in
      let start = ap (λ (x : Location). x.start) a.is in
      let next = ap (λ (x : Location). x.next) a.is in
      let within = record_within (hall_in t) desk r.0 r.1 in
      let end : p.end ≡ start_of kind (hall_in t) desk + kind.width (all_screens (hall_in t)) = ap (λ (x : Location). x.end) a.is ∙ next_start (hall_in t) desk r.0 in
      record {
        yes_sound = a.yes_sound;
        yes_desk = a.yes_desk;
        facts = f;
        range = r;
        positions_is = ap (λ (x : Location). x.positions) a.is;
        screens_is = ap (λ (x : Location). x.screens) a.is;
        all_is = all;
        start_is = start;
        next_is = next;
        end_is = end ∙ ap₂ (λ (x y : ℕ). x + kind.width y) (sym start) (sym all);
        bounded = omega (arith, all, f.bounded);
        room = omega (arith, end, f.long, within);
        number_there = omega (arith, next, f.long, next_within (hall_in t) desk r.0 r.1);
      }

  -- ---- what each answer of `admit` says of a message number and a desk

  abbrev Says : List ℕ → ℕ → ℕ → OkOrErr Location Reason → Type 0
  Says t message desk (Err reason) =
      ((reason ≡ NoDesk) × (in_range desk (hall_in t).desks ≡ false))
      ⊎ ((reason ≡ OtherMessage) × (in_range desk (hall_in t).desks ≡ true) × (eqb message (get_or t (next_of kind (hall_in t) desk) 0) ≡ false))
  Says t message desk (Ok p) = (in_range desk (hall_in t).desks ≡ true) × (message ≡ get_or t (next_of kind (hall_in t) desk) 0) × (p ≡ location_of kind t desk)

  says : (t : List ℕ) (message desk : ℕ) → Says t message desk (admission_of kind t message desk)
  unfolding admission_of
  says t message desk = by_tests (in_range desk (hall_in t).desks) (eqb message (get_or t (next_of kind (hall_in t) desk) 0)) refl refl
    where
      by_tests : (a b : Bool) → in_range desk (hall_in t).desks ≡ a → eqb message (get_or t (next_of kind (hall_in t) desk) 0) ≡ b
          → Says t message desk (cond a (cond b (Ok (location_of kind t desk)) (Err OtherMessage)) (Err NoDesk))
      by_tests true true own same = (own, eqb-true message (get_or t (next_of kind (hall_in t) desk) 0) same, refl)
      by_tests true false own other = inr (refl, own, other)
      by_tests false b out e = inl (refl, out)

  admission_says : (t : List ℕ) (message desk : ℕ) (a : OkOrErr Location Reason) → a ≡ admission_of kind t message desk → Says t message desk a
  admission_says t message desk a q = subst (Says t message desk) (sym q) (says t message desk)

  pub admits : {limits : Limits} {t : List ℕ} {h : Numbers} {message desk : ℕ} {p : Location} → Ok h ≡ soundness_of kind limits t
      → Ok p ≡ admission_of kind t message desk
      → AdmitsCall kind limits t message desk p
  admits {limits} {t} {h} {message} {desk} {p} sounds is =
      let said = admission_says t message desk (Ok p) is in
      record { admits_desk = record { yes_sound = (sound-hall sounds).yes_sound; yes_desk = said.0; is = said.2 }; is_next = said.1 }

  -- ---- a call of a desk, refused or accepted as its questions say
  module _ (limits : Limits) (t : List ℕ) (c : Call) where
    abbrev pub asked : ℕ
    asked = first_no (questions limits (hall_in t) (kind.state t) c)

    pub refused_step : (n : ℕ) → kind.sound limits t ≡ true → asked ≡ suc n → kind.step limits t c ≡ refuse (suc n) t
    refused_step n s q = laws.steps limits t c s ∙ ap (λ (m : ℕ). decide m t (perform (hall_in t) (kind.state t) c).session (set (kind.after t c.desk c.step) (next_of kind (hall_in t) c.desk) (advance (get_or t (next_of kind (hall_in t) c.desk) 0)))) q

    -- every call asks for soundness first, then for its desk, and then for the message number
    pub refused_table : {reason : Reason} → Err reason ≡ soundness_of kind limits t → table_result (Err reason) t ≡ kind.step limits t c
    unfolding soundness_of
    refused_table {reason} is = by_soundness (kind.sound limits t) refl
      where
        by_soundness : (b : Bool) → kind.sound limits t ≡ b → table_result (Err reason) t ≡ kind.step limits t c
        by_soundness true e = let z : Err reason ≡ Ok (numbers_in t) = rw e at is in let never : ◌≡◌ {A = ℕ} 0 1 = cc in absurd (omega arith)
        by_soundness false e = let z : Err reason ≡ Err Unsound = rw e at is in let same : reason ≡ Unsound = cc in rw same (sym (laws.unsound limits t c e))

    -- the number that the desk's record holds is read in the table
    pub number_word : kind.sound limits t ≡ true → 1 ≤ c.desk → c.desk ≤ (hall_in t).desks
        → (desk_of (kind.state t) c.desk).next ≡ get_or t (next_of kind (hall_in t) c.desk) 0
    number_word s h g =
        let k = known limits t s in
        let H = hall_in t in
        let S = all_screens H in
        let words = record_in kind H t c.desk in
        let wide = laws.numbered S in
        let long : length words ≡ kind.width S =
        length-take-le (kind.width S) (drop (start_of kind H c.desk) t) (simp length-drop (omega (arith, k.long, record_within H c.desk h g))) in
        ap (λ (D : Desk). D.next) (k.holds.desks c.desk h g)
        ∙ (laws.reads S words long).next
        ∙ get_or-take (kind.width S) (drop (start_of kind H c.desk) t) (tail_offset S) 0 wide
        ∙ get_or-drop (start_of kind H c.desk) t (tail_offset S) 0

    pub refused_desk : {h : Numbers} → Ok h ≡ soundness_of kind limits t → {reason : Reason} → Err reason ≡ admission_of kind t c.message c.desk
        → table_result (Err reason) t ≡ kind.step limits t c
    refused_desk sounds {reason} is = by_reason (admission_says t c.message c.desk (Err reason) is)
      where
        by_reason : Says t c.message c.desk (Err reason) → table_result (Err reason) t ≡ kind.step limits t c
        by_reason (inl no_desk) = rw no_desk.0 (sym (refused_step 5 (sound-hall sounds).yes_sound (rw no_desk.1)))
        by_reason (inr other) =
            let range = in_range_lem c.desk (hall_in t).desks other.1 in
            rw other.0 (sym (refused_step 22 (sound-hall sounds).yes_sound (rw (other.1, number_word (sound-hall sounds).yes_sound range.0 range.1, other.2))))
