-- What differs between boards: the records of their desks, and the rules that their calls follow. The first board is one value, the ring another.
use Rattle.std.specs.Prelude.{◌≡◌, ℕ, ◌+◌, ◌*◌, ◌-◌, ◌≤◌, ◌<◌, Bool, true, false, cond, ◌&&◌, List, [], ◌∷◌, ◌++◌, length, get_or, take, drop, set, replicate, leb, eqb}
use Rattle.rules.specs.Hall.{Desk, Hall, Limits, State, all_screens, desk_of, max_all_screens, max_desks, max_positions, max_screens}
use Rattle.rules.specs.Lists.{chunks, every}
use Rattle.rules.specs.Steps.{Answer, Call, Collect, Drop, Question, Result, Retire, Step, Swap, Take, advance, ask, collect_seeing, decide, first_no, in_range}
use Rattle.rules.specs.Steps.{is_repeat, next_screens, perform, questions, refuse, retire, retire_questions}
use Rattle.rules.specs.Bytes.{words_of_bytes}
use Rattle.rules.specs.Table.{decode, decode_desk, encode_desk, hall_in, header_words, in_limits, open_table, owed_offset, position_word, record_sound}
use Rattle.rules.specs.Table.{scanned_offset, screen_word, sound, step_table, table_after_step, tail_offset, width_for, within}

pub record Kind : Type 0 where
  -- a record of a desk, in a hall of S screens: its words, whether it is sound, and the desk that it encodes
  pub width : ℕ → ℕ
  pub record_sound : ℕ → List ℕ → Bool
  pub desk : ℕ → List ℕ → Desk
  -- the record after a retire, and after a collect that reads these sessions
  pub retired : ℕ → List ℕ → List ℕ
  pub collected : ℕ → List ℕ → List ℕ → List ℕ
  -- a table: whether it is sound, the state that it holds, and the table after an accepted step, but for the message number
  pub sound : Limits → List ℕ → Bool
  pub state : List ℕ → State
  pub after : List ℕ → ℕ → Step → List ℕ
  -- the calls: a step, and the opening
  pub step : Limits → List ℕ → Call → Result (List ℕ)
  pub opens : Limits → Hall → List ℕ → Result (List ℕ)

-- The first board.
abbrev pub first : Kind
first = record {
  width = width_for;
  record_sound = record_sound;
  desk = decode_desk;
  retired = λ S words. encode_desk S (retire (decode_desk S words));
  collected = λ S sessions words. encode_desk S (collect_seeing S sessions (decode_desk S words)).after;
  sound = sound;
  state = λ table. decode (hall_in table) table;
  after = table_after_step;
  step = step_table;
  opens = open_table;
}

-- ---- Where the records stand in a table.
module _ (kind : Kind) where
  -- the record with d others before it, in a hall of L positions and S screens
  abbrev pub start_for : ℕ → ℕ → ℕ → ℕ
  start_for L S d = header_words + L + S + d * kind.width S

  abbrev pub start_of : Hall → ℕ → ℕ
  start_of hall d = start_for hall.positions (all_screens hall) (d - 1)

  -- desk d's next message number
  abbrev pub next_of : Hall → ℕ → ℕ
  next_of hall d = start_of hall d + tail_offset (all_screens hall)

  abbrev pub need_of : Hall → ℕ
  need_of hall = header_words + (hall.positions + (all_screens hall + hall.desks * kind.width (all_screens hall)))

  abbrev pub records_of : Hall → List ℕ → List (List ℕ)
  records_of hall table = chunks hall.desks (kind.width (all_screens hall)) (drop (header_words + hall.positions + all_screens hall) table)

  abbrev pub record_in : Hall → List ℕ → ℕ → List ℕ
  record_in hall table d = take (kind.width (all_screens hall)) (drop (start_of hall d) table)

  -- the table with another record for desk d
  abbrev pub put_in : Hall → List ℕ → ℕ → List ℕ → List ℕ
  put_in hall table d words = take (start_of hall d) table ++ (words ++ drop (kind.width (all_screens hall)) (drop (start_of hall d) table))

  -- the opening: its questions, and the table after it
  abbrev pub opening_questions : Limits → Hall → List ℕ → List Question
  opening_questions limits hall table =
      ask (in_range hall.desks max_desks) 1
      ∷ ask (in_range hall.screens max_screens) 2
      ∷ ask (in_range hall.positions max_positions) 3
      ∷ ask (within limits hall) 22
      ∷ ask (leb (need_of hall) (length table)) 4
      ∷ []

  abbrev pub opened : Hall → List ℕ → List ℕ
  opened hall table = (hall.desks ∷ hall.screens ∷ hall.positions ∷ replicate (need_of hall - header_words) 0) ++ drop (need_of hall) table

  -- ---- A record, lent as bytes.
  -- It is whole and sound.
  pub record SoundRecord (S : ℕ) (bytes : List ℕ) : Type 0 where
    pub some : 1 ≤ S
    pub bounded : S ≤ max_all_screens
    pub long : length bytes ≡ 2 * kind.width S
    pub passes : kind.record_sound S (words_of_bytes bytes) ≡ true

  -- A retire: the number of the first of its two questions that is answered no; if none is, the owed session and the record after the retire.
  pub record RetiredAs (S : ℕ) (words : List ℕ) (answer : Answer) (words' : List ℕ) : Type 0 where
    pub number : answer.number ≡ first_no (retire_questions S (kind.desk S words))
    pub session : answer.session ≡ cond (eqb answer.number 0) (kind.desk S words).owed 0
    pub after : words' ≡ cond (eqb answer.number 0) (kind.retired S words) words

  -- ---- What holds of a kind of board.
  -- Of a sound table: what its state shows and holds, and its desks.
  pub record Holds (table : List ℕ) : Type 0 where
    pub held : (p : ℕ) → 1 ≤ p → p ≤ (hall_in table).positions → get_or (kind.state table).held (p - 1) 0 ≡ get_or table (position_word p) 0
    pub shown : (i : ℕ) → i < all_screens (hall_in table) → get_or (kind.state table).shown i 0 ≡ get_or table (header_words + (hall_in table).positions + i) 0
    pub screens : length (kind.state table).shown ≡ all_screens (hall_in table)
    pub desks : (d : ℕ) → 1 ≤ d → d ≤ (hall_in table).desks → desk_of (kind.state table) d ≡ kind.desk (all_screens (hall_in table)) (record_in (hall_in table) table d)

  -- Of a record: the words of its desk that the board reads itself.
  pub record Reads (S : ℕ) (words : List ℕ) : Type 0 where
    pub owed : (kind.desk S words).owed ≡ get_or words owed_offset 0
    pub scanned : (kind.desk S words).scanned ≡ get_or words scanned_offset 0
    pub next : (kind.desk S words).next ≡ get_or words (tail_offset S) 0

  pub record Laws : Type 0 where
    -- a record has its message number, and at most one word more than the first board's
    pub numbered : (S : ℕ) → tail_offset S < kind.width S
    pub narrow : (S : ℕ) → kind.width S ≤ width_for S + 1
    pub reads : (S : ℕ) (words : List ℕ) → length words ≡ kind.width S → Reads S words
    pub scanned-below : (S : ℕ) (words : List ℕ) → 1 ≤ S → kind.record_sound S words ≡ true → (kind.desk S words).scanned < S
    -- a table is sound if its numbers are in range, it is long enough, and its records are sound
    pub sound_is : (limits : Limits) (table : List ℕ)
        → kind.sound limits table
        ≡ (in_limits limits (hall_in table)
        && (leb (need_of (hall_in table)) (length table) && every (kind.record_sound (all_screens (hall_in table))) (records_of (hall_in table) table)))
    pub holds : (limits : Limits) (table : List ℕ) → kind.sound limits table ≡ true → Holds table
    -- what an accepted step leaves
    pub take_leaves : (table : List ℕ) (d c p : ℕ) → kind.after table d (Take c p) ≡ set table (screen_word (hall_in table) d c) (get_or table (position_word p) 0)
    pub drop_leaves : (table : List ℕ) (d c : ℕ) → kind.after table d (Drop c) ≡ set table (screen_word (hall_in table) d c) 0
    pub swap_leaves : (table : List ℕ) (d p session : ℕ)
        → let old = get_or table (position_word p) 0 in
        kind.after table d (Swap p session) ≡ cond (is_repeat old session) table (set (set table (position_word p) session) (start_of (hall_in table) d) old)
    pub retire_leaves : (table : List ℕ) (d : ℕ)
        → let hall = hall_in table in
        kind.after table d Retire ≡ put_in hall table d (kind.retired (all_screens hall) (record_in hall table d))
    pub collect_leaves : (table : List ℕ) (d : ℕ)
        → let hall = hall_in table in
        let S = all_screens hall in
        let words = record_in hall table d in
        kind.after table d Collect ≡ put_in hall table d (kind.collected S (next_screens (kind.state table).shown (kind.desk S words)) words)
    -- the calls
    pub unsound : (limits : Limits) (table : List ℕ) (call : Call) → kind.sound limits table ≡ false → kind.step limits table call ≡ refuse 5 table
    pub steps : (limits : Limits) (table : List ℕ) (call : Call) → kind.sound limits table ≡ true
        → let hall = hall_in table in
        let state = kind.state table in
        let number = next_of hall call.desk in
        kind.step limits table call
        ≡ decide (first_no (questions limits hall state call)) table (perform hall state call).session (set (kind.after table call.desk call.step) number (advance (get_or table number 0)))
    pub opens_is : (limits : Limits) (hall : Hall) (table : List ℕ) → kind.opens limits hall table ≡ decide (first_no (opening_questions limits hall table)) table 0 (opened hall table)
