-- Where the words of a step stand in a sound table, as the code finds them.
use Rattle.std.proofs.Common.{◌≡◌, ℕ, ◌+◌, ◌-◌, ◌*◌, ◌<◌, ◌≤◌, true, List, length, get_or, take, drop, sym, refl, ap, ◌∙◌, ap₂, arith, drop-drop}
use borrow.Rule.Slice.PartMut.{mid_len, mid_of, put_mid}
use Rattle.rules.specs.Bytes.{words_of_bytes}
use Rattle.rules.specs.Hall.{Hall, Limits, all_screens, desk_of, screen_index}
use Rattle.rules.specs.Steps.{in_range}
use Rattle.rules.specs.Table.{hall_in, header_words, max_words, position_word, screen_word}
use Rattle.rules.proofs.Laws.History.ScreenIndex.{screen_in}
use Rattle.rules.proofs.Laws.History.StepEffects.{in_range_lem}
use Rattle.rules.proofs.Laws.Table.EncodedStep.{some_screens}
use Rattle.rules.proofs.Laws.Table.TableSteps.{every_record_at}
use Rattle.words.specs.Written.{Written}
use Rattle.words.proofs.Laws.{length-words, part_written, words-part}
use Rattle.board.specs.Admission.{screen_for}
use Rattle.board.specs.Kind.{Kind, Laws, SoundRecord, put_in, record_in, start_of}
use Rattle.board.specs.declared.Location.{Location}
use Rattle.board.proofs.AdmissionLaws.{Admitted}

-- ---- the record of the desk, as the code lends it and as it comes back
abbrev pub lent_record : List ℕ → Location → List ℕ
lent_record t p = mid_of p.start (p.end - p.start) t

abbrev pub with_record : List ℕ → Location → List ℕ → List ℕ
with_record t p ys = put_mid p.start (p.end - p.start) t ys

-- ---- screen i of desk d, both from 1: its word is word a
pub record AtScreen (kind : Kind) (t : List ℕ) (d i a : ℕ) : Type 0 where
  pub desk : 1 ≤ d
  pub first : 1 ≤ i
  pub yes_screen : in_range i (hall_in t).screens ≡ true
  pub is : a ≡ screen_word (hall_in t) d i
  pub bounded : a ≤ max_words
  pub there : a < length t
  pub shows : get_or (kind.state t).shown (screen_index (hall_in t) d i) 0 ≡ get_or t a 0

-- ---- position q, from 1
pub record AtPosition (kind : Kind) (t : List ℕ) (d q : ℕ) : Type 0 where
  pub first : 1 ≤ q
  pub yes_position : in_range q (hall_in t).positions ≡ true
  pub there : position_word q < length t
  pub apart : (a : ℕ) → a ≡ start_of kind (hall_in t) d → position_word q < a
  pub holds : get_or (kind.state t).held (q - 1) 0 ≡ get_or t (position_word q) 0

pub record Lent (kind : Kind) (t : List ℕ) (d : ℕ) (p : Location) : Type 0 where
  pub part : lent_record t p ≡ record_in kind (hall_in t) t d
  pub long : length (lent_record t p) ≡ kind.width p.all
  pub some : 1 ≤ p.all
  pub passes : kind.record_sound p.all (lent_record t p) ≡ true
  pub desk_is : kind.desk p.all (lent_record t p) ≡ desk_of (kind.state t) d
  pub put : (ys : List ℕ) → with_record t p ys ≡ put_in kind (hall_in t) t d ys

module _ {kind : Kind} (laws : Laws kind) {limits : Limits} {t : List ℕ} {d : ℕ} {p : Location} (e : Admitted kind limits t d p) where
  pub at_screen : {i a : ℕ} → in_range i p.screens ≡ true → a ≡ screen_for p.positions p.screens d i → AtScreen kind t d i a
  at_screen {i} {a} inside at =
      let H : Hall = hall_in t in
      let yes_screen : in_range i H.screens ≡ true = ap (in_range i) (sym e.screens_is) ∙ inside in
      let r = in_range_lem i H.screens yes_screen in
      let f = e.facts in
      let is : a ≡ screen_word H d i = at ∙ ap₂ (λ (l c : ℕ). screen_for l c d i) e.positions_is e.screens_is in
      let within = screen_in H d i e.range.0 e.range.1 r.0 r.1 in
      record {
        desk = e.range.0;
        first = r.0;
        yes_screen = yes_screen;
        is = is;
        bounded = omega (arith, is, within, f.bounded, f.fits.positions);
        there = omega (arith, is, within, f.long);
        shows = f.holds.shown (screen_index H d i) within ∙ ap (λ (k : ℕ). get_or t k 0) (sym is);
      }

  pub at_position : {q : ℕ} → in_range q p.positions ≡ true → AtPosition kind t d q
  at_position {q} inside =
      let yes_position : in_range q (hall_in t).positions ≡ true = ap (in_range q) (sym e.positions_is) ∙ inside in
      let r = in_range_lem q (hall_in t).positions yes_position in
      record {
        first = r.0;
        yes_position = yes_position;
        there = omega (arith, r.1, r.0, e.facts.long);
        apart = λ a at. omega (arith, at, r.1, r.0);
        holds = e.facts.holds.held q r.0 r.1;
      }

  pub lent : Lent kind t d p
  lent =
      let H : Hall = hall_in t in
      let S = all_screens H in
      let n : ℕ = p.end - p.start in
      let wide : n ≡ kind.width p.all = omega (arith, e.end_is) in
      let n_is : n ≡ kind.width S = wide ∙ ap kind.width e.all_is in
      let part : lent_record t p ≡ record_in kind H t d = ap₂ (λ (k b : ℕ). take k (drop b t)) n_is e.start_is in
      let of_all : kind.record_sound S (record_in kind H t d) ≡ true =
      ap (λ (x : List ℕ). kind.record_sound S (take (kind.width S) x)) (sym (drop-drop ((d - 1) * kind.width S) (header_words + H.positions + S) t))
      ∙ every_record_at (kind.record_sound S) H.desks (kind.width S) (drop (header_words + H.positions + S) t) (d - 1) (omega (arith, e.range)) e.facts.records in
      record {
        part = part;
        long = mid_len p.start p.end t e.room ∙ wide;
        some = omega (arith, e.all_is, some_screens H e.facts.fits);
        passes = ap₂ kind.record_sound e.all_is part ∙ of_all;
        desk_is = ap₂ kind.desk e.all_is part ∙ sym (e.facts.holds.desks d e.range.0 e.range.1);
        put = λ ys. ap₂ (λ (k b : ℕ). put_mid b k t ys) n_is e.start_is;
      }

-- the same part of the bytes
module _ {kind : Kind} (laws : Laws kind) (bytes : List ℕ) {limits : Limits} {d : ℕ} {p : Location} (e : Admitted kind limits (words_of_bytes bytes) d p) where
  room_bytes : 2 * p.end ≤ length bytes
  room_bytes = omega (arith, e.room, length-words bytes)

  pub lent_words : words_of_bytes (mid_of (2 * p.start) (2 * p.end - 2 * p.start) bytes) ≡ lent_record (words_of_bytes bytes) p
  lent_words = words-part p.start p.end bytes

  pub lent_sound : SoundRecord kind p.all (mid_of (2 * p.start) (2 * p.end - 2 * p.start) bytes)
  lent_sound =
      let l = lent laws e in
      record {
        some = l.some;
        bounded = e.bounded;
        long = mid_len (2 * p.start) (2 * p.end) bytes room_bytes ∙ omega (arith, e.end_is);
        passes = ap (kind.record_sound p.all) lent_words ∙ l.passes;
      }

  pub lent_back : (part : List ℕ) → length part ≡ length (mid_of (2 * p.start) (2 * p.end - 2 * p.start) bytes)
      → Written bytes (with_record (words_of_bytes bytes) p (words_of_bytes part)) (put_mid (2 * p.start) (2 * p.end - 2 * p.start) bytes part)
  lent_back part wide =
      part_written p.start p.end bytes part (words_of_bytes part) (omega (arith, e.end_is)) room_bytes (wide ∙ mid_len (2 * p.start) (2 * p.end) bytes room_bytes) refl
