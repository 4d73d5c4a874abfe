-- How a desk's list lies in its record: in a row from the first slot on, or around from the slot at which it begins. A layout tells a record as one
-- of the first board, whose list lies in a row, and back; what the steps do is then said of that record.
use Rattle.std.specs.Prelude.{ℕ, ◌+◌, ◌*◌, ◌≤◌, ◌<◌, Bool, cond, ◌&&◌, List, ◌++◌, ◌≡◌, drop, eqb, get_or, leb, length, ltb, set, take}
use Rattle.rules.specs.Hall.{Desk}
use Rattle.rules.specs.Lists.{every}
use Rattle.rules.specs.Steps.{Answer, begin, first_no, hand_back, is_none, is_session, retire, retire_questions, scan_at, settle}
use Rattle.rules.specs.Table.{decode_desk, encode_desk, list_offset, mark_words, marks_offset, ready_offset, record_sound, slots_in, tail_offset, tested_offset, used_in, width_for}
use Rattle.marks.specs.Marks.{pick}

-- In each, s is the number of the hall's screens, and b a slot at which a list begins.
pub record Layout : Type 0 where
  -- the words of a record
  pub width : ℕ → ℕ
  -- the number of slots at which a list may begin, from slot 0 on
  pub beginnings : ℕ → ℕ
  -- the slot at which a record's list begins
  pub beginning : ℕ → List ℕ → ℕ
  -- the record of the first board that a record reads as
  pub linear : ℕ → List ℕ → List ℕ
  -- the record whose list begins at slot b, and that reads as a record of the first board
  pub lay : ℕ → ℕ → List ℕ → List ℕ
  -- the slot that is place i of a list that begins at slot b
  pub slot : ℕ → ℕ → ℕ → ℕ
  -- where a list that begins at slot b begins after a hand-back, given the ready sessions that it finds
  pub after : ℕ → List ℕ → ℕ → ℕ

-- The first board's: the list lies in a row from slot 0 on.
abbrev pub row : Layout
row = record {
  width = width_for;
  beginnings = λ s. 1;
  beginning = λ s r. 0;
  linear = λ s r. r;
  lay = λ s b w. w;
  slot = λ s b i. i;
  after = λ s ready b. b;
}

-- A record as a desk, and the record of another desk whose list begins at the same slot.
abbrev pub decode : Layout → ℕ → List ℕ → Desk
decode layout s r = decode_desk s (layout.linear s r)

abbrev pub encode : Layout → ℕ → ℕ → Desk → List ℕ
encode layout s b desk = layout.lay s b (encode_desk s desk)

abbrev pub with_desk : Layout → ℕ → List ℕ → Desk → List ℕ
with_desk layout s r desk = encode layout s (layout.beginning s r) desk

-- ---- What a layout keeps.

-- A record that begins at slot b and reads as w.
pub record Reads (layout : Layout) (s b : ℕ) (r w : List ℕ) : Type 0 where
  pub long : length r ≡ layout.width s
  pub begins : layout.beginning s r ≡ b
  pub is : layout.linear s r ≡ w

-- The mark words of a record, and the record with others.
abbrev pub marks_of_record : List ℕ → List ℕ
marks_of_record r = take mark_words (drop marks_offset r)

abbrev pub with_marks : List ℕ → List ℕ → List ℕ
with_marks r words = take marks_offset r ++ (words ++ drop mark_words (drop marks_offset r))

pub record LayoutLaws (layout : Layout) : Type 0 where
  -- the list is in the record
  pub wide : (s : ℕ) → tail_offset s ≤ layout.width s
  -- a record is known by where it begins and what it reads as, and there is one for each
  pub known : (s b : ℕ) (r w : List ℕ) → b < layout.beginnings s → Reads layout s b r w → r ≡ layout.lay s b w
  pub lies : (s b : ℕ) (w : List ℕ) → b < layout.beginnings s → length w ≡ width_for s → Reads layout s b (layout.lay s b w) w
  -- the words before the list are those that it reads as, and a store there is one in what it reads as
  pub head : (s b : ℕ) (r w : List ℕ) → Reads layout s b r w → take list_offset r ≡ take list_offset w
  pub put_head : (s b : ℕ) (r w : List ℕ) (i v : ℕ) → i < list_offset → Reads layout s b r w → Reads layout s b (set r i v) (set w i v)
  pub put_marks : (s b : ℕ) (r w words : List ℕ) → length words ≡ mark_words → Reads layout s b r w → Reads layout s b (with_marks r words) (with_marks w words)
  -- each place of the list is a slot, and a store there is one at that place
  pub slot_below : (s b i : ℕ) → b < layout.beginnings s → i < 2 * s → layout.slot s b i < 2 * s
  pub put_slot : (s b : ℕ) (r w : List ℕ) (i v : ℕ) → b < layout.beginnings s → i < 2 * s → Reads layout s b r w
      → Reads layout s b (set r (list_offset + layout.slot s b i) v) (set w (list_offset + i) v)

-- ---- The tested slots of a record of the first board, and the record with the unmarked ones of them first, then the marked ones.
abbrev pub tested_slots : List ℕ → List ℕ
tested_slots w = take (get_or w tested_offset 0) (drop (list_offset + get_or w ready_offset 0) w)

abbrev pub partitioned : List ℕ → List ℕ → List ℕ
partitioned marks w =
    let before = list_offset + get_or w ready_offset 0 in
    take before w ++ ((pick 0 marks (tested_slots w) ++ pick 1 marks (tested_slots w)) ++ drop (get_or w tested_offset 0) (drop before w))

-- ---- The steps on a record.

-- A retire: the number of the first of the two questions answered no; if none is, the owed session and the record of the desk after the retire.
pub record RetiredAs (layout : Layout) (s : ℕ) (r : List ℕ) (a : Answer) (r' : List ℕ) : Type 0 where
  pub number : a.number ≡ first_no (retire_questions s (decode layout s r))
  pub session : a.session ≡ cond (eqb a.number 0) (decode layout s r).owed 0
  pub after : r' ≡ cond (eqb a.number 0) (with_desk layout s r (retire (decode layout s r))) r

-- Collect (d), on the record of a desk that begins at slot b.
abbrev pub handed_back : Layout → ℕ → ℕ → Desk → List ℕ
handed_back layout s b desk = encode layout s (layout.after s desk.ready b) (hand_back desk).after

-- A collect, given only what the screens that it reads show, as in the code.
abbrev pub collected : Layout → ℕ → List ℕ → List ℕ → List ℕ
collected layout s sessions r =
    let desk = begin (decode layout s r) in handed_back layout s (layout.beginning s r) (settle s (scan_at desk.tested sessions desk))

-- ---- Soundness.
-- What it asks of the list: the used slots are among the 2s, and are not 0; the others are 0.
abbrev pub list_sound : ℕ → List ℕ → Bool
list_sound s w = leb (used_in w) (2 * s) && (every is_session (take (used_in w) (slots_in s w)) && every is_none (drop (used_in w) (slots_in s w)))

-- A record begins at one of the slots, and its list, or all that it reads as, is sound.
abbrev pub list_sound_as : Layout → ℕ → List ℕ → Bool
list_sound_as layout s r = ltb (layout.beginning s r) (layout.beginnings s) && list_sound s (layout.linear s r)

abbrev pub sound_as : Layout → ℕ → List ℕ → Bool
sound_as layout s r = ltb (layout.beginning s r) (layout.beginnings s) && record_sound s (layout.linear s r)
