-- Computed cases of running records, of the tally and of the printed numbers: each depends on one clause of a definition.
use Rattle.std.specs.Prelude.{◌≡◌, refl, List, [], ◌∷◌, ◌++◌, map, ℕ, replicate}
use Rattle.std.proofs.Math.Option.{none, some}
use Rattle.rules.proofs.Cases.{◌⇒◌, ok, refused_with}
use Rattle.rules.specs.Hall.{hall_limits}
use Rattle.rules.specs.Steps.{Answer, Collect, Drop, Event, Retire, Swap, Take, ◌sends◌, accept, refuse}
use Rattle.rules.specs.Table.{decode_desk, encode_desk, record_sound, sound, step_table}
use Rattle.sheet_rules.specs.Lines.{decimal, end_line, event_lines, line, lines_from, spaced}
use Rattle.sheet_rules.specs.Run.{call_of, calls_in, run_record}
use Rattle.sheet_rules.specs.Sheet.{complete, more, record_for}
use Rattle.sheet_rules.proofs.SheetCases.{characters, text}
use Rattle.sheet_rules.specs.Tally.{Tally, add_step, add_steps, counts_in, tally_of, zeros}

-- ---- The call that each code requests: 1 to 5 each another one, 0, 6 and 65,535 none.
pub calls-of-codes :
    map (λ (code : ℕ). call_of (record_for code 2 3 4 500)) (0 ∷ 1 ∷ 2 ∷ 3 ∷ 4 ∷ 5 ∷ 6 ∷ 65535 ∷ [])
    ≡ none
    ∷ some (2 sends Take 3 4)
    ∷ some (2 sends Drop 3)
    ∷ some (2 sends Swap 4 500)
    ∷ some (2 sends Retire)
    ∷ some (2 sends Collect)
    ∷ none
    ∷ none
    ∷ []
calls-of-codes = refl

-- Codes 0 and 6 are answered 17, and the table is unchanged. Code 5 is a collect of the board, which finds the table of three words unsound.
pub other-codes-are-17 :
    map (λ (code : ℕ). run_record hall_limits (7 ∷ 8 ∷ 9 ∷ []) (record_for code 1 1 1 1)) (0 ∷ 6 ∷ 5 ∷ [])
    ≡ refuse 17 (7 ∷ 8 ∷ 9 ∷ []) ∷ refuse 17 (7 ∷ 8 ∷ 9 ∷ []) ∷ refuse 5 (7 ∷ 8 ∷ 9 ∷ []) ∷ []
unfolding step_table sound
other-codes-are-17 = refl

-- "The sheet program fills in the right number itself": the hall's only desk is at 65,535, and then at 0. A desk that the hall does not have is
-- refused with 6.
abbrev idle : ℕ → List ℕ
idle next = (1 ∷ 1 ∷ 1 ∷ replicate 17 0) ++ (next ∷ [])

pub right-number-filled-in :
    (run_record hall_limits (idle 65535) (record_for 5 1 0 0 0) ≡ accept 0 (idle 0))
    × (run_record hall_limits (idle 0) (record_for 3 1 0 1 0) ≡ accept 0 (idle 1))
    × (run_record hall_limits (idle 7) (record_for 4 1 0 0 0) ≡ refuse 13 (idle 7))
    × (run_record hall_limits (idle 7) (record_for 5 2 0 0 0) ≡ refuse 6 (idle 7))
    × (run_record hall_limits (idle 7) (record_for 5 0 0 0 0) ≡ refuse 6 (idle 7))
unfolding step_table sound record_sound encode_desk decode_desk
right-number-filled-in = (refl, refl, refl, refl, refl)

-- A record that requests no call adds none to the calls, and the calls of the records after it are among them.
pub calls_without_17 : calls_in (more (record_for 6 1 0 0 0) (more (record_for 4 2 0 0 0) complete)) ≡ (2 sends Retire) ∷ []
calls_without_17 = refl

-- Such a record has a line, and is not counted.
pub line-of-17 :
    lines_from hall_limits (7 ∷ 8 ∷ 9 ∷ []) 1 zeros (more (record_for 6 1 0 0 0) (more (record_for 4 2 0 0 0) complete))
    ≡ text ("1 6 17 0" ∷ "2 4 5 0" ∷ "end 0 1 0" ∷ [])
unfolding step_table sound add_step decimal line end_line
line-of-17 = refl

-- ---- The tally: what a step with this code and answer adds.
pub record TallyCase : Type 0 where
  pub before : Tally
  pub code : ℕ
  pub answer : Answer
  pub after : Tally

abbrev pub tally_case : Tally → ℕ → ℕ → ℕ → Tally → TallyCase
tally_case before code number session after = record {
  before = before;
  code = code;
  answer = record { number = number; session = session };
  after = after;
}

abbrev pub tallies : List TallyCase
tallies =
    -- "Each count is 32 bits wide and stays at its largest once there."
    tally_case (tally_of 4294967294 0 0) 1 0 9 (tally_of 4294967295 0 0)
    ∷ tally_case (tally_of 4294967295 0 0) 1 0 9 (tally_of 4294967295 0 0)
    ∷ tally_case (tally_of 0 4294967294 0) 1 9 0 (tally_of 0 4294967295 0)
    ∷ tally_case (tally_of 0 4294967295 0) 1 9 0 (tally_of 0 4294967295 0)
    ∷ tally_case (tally_of 0 0 4294967294) 5 0 9 (tally_of 1 0 4294967295)
    ∷ tally_case (tally_of 0 0 4294967295) 5 0 9 (tally_of 1 0 4294967295)
    -- "replies to collect other than 0": a session that another step replies is not handed back,
    ∷ tally_case zeros 1 0 9 (tally_of 1 0 0)
    ∷ tally_case zeros 2 0 9 (tally_of 1 0 0)
    ∷ tally_case zeros 3 0 9 (tally_of 1 0 0)
    ∷ tally_case zeros 4 0 9 (tally_of 1 0 0)
    -- nor is 0,
    ∷ tally_case zeros 5 0 0 (tally_of 1 0 0)
    ∷ tally_case zeros 5 0 1 (tally_of 1 0 1)
    -- nor a session in a refusal.
    ∷ tally_case zeros 5 6 9 (tally_of 0 1 0)
    -- "A refused step changes only the count of refused steps."
    ∷ tally_case (tally_of 3 4 5) 4 13 0 (tally_of 3 5 5)
    ∷ tally_case (tally_of 3 4 5) 5 6 0 (tally_of 3 5 5)
    -- A code outside 1 to 5 counts nothing, whatever the answer.
    ∷ tally_case (tally_of 3 4 5) 0 0 9 (tally_of 3 4 5)
    ∷ tally_case (tally_of 3 4 5) 6 0 9 (tally_of 3 4 5)
    ∷ tally_case (tally_of 3 4 5) 6 17 0 (tally_of 3 4 5)
    ∷ []

pub our_tallies : map (λ (case : TallyCase). add_step case.before case.code case.answer) tallies ≡ map (λ (case : TallyCase). case.after) tallies
unfolding add_step
our_tallies = refl

-- ---- Numbers in decimal, of one digit and of more.
pub our_lines : map (line 0 9 10) (99 ∷ 100 ∷ 65535 ∷ []) ≡ text ("0 9 10 99" ∷ []) ∷ text ("0 9 10 100" ∷ []) ∷ text ("0 9 10 65535" ∷ []) ∷ []
unfolding decimal line
our_lines = refl

-- A line of no numbers is its newline.
pub empty_line : spaced [] ≡ 10 ∷ []
empty_line = refl

-- The largest number of 64 bits has twenty digits.
pub twenty_digits : decimal 18446744073709551615 ≡ characters "18446744073709551615"
unfolding decimal
twenty_digits = refl

-- "`end`, steps accepted, steps refused by the board, sessions handed back"
pub our_end : end_line (tally_of 12345 0 4294967295) ≡ text ("end 12345 0 4294967295" ∷ [])
unfolding decimal end_line
our_end = refl

-- ---- Lists of steps with their answers: five accepted, of which one is a repeat and one hands 300 back, and two refused.
abbrev events : List Event
events =
    (2 sends Swap 4 300 ⇒ ok 0)
    ∷ (2 sends Take 3 4 ⇒ ok 300)
    ∷ (2 sends Retire ⇒ refused_with 13)
    ∷ (2 sends Collect ⇒ ok 300)
    ∷ (2 sends Drop 3 ⇒ ok 300)
    ∷ (2 sends Collect ⇒ refused_with 5)
    ∷ (2 sends Swap 4 300 ⇒ ok 300)
    ∷ []

pub tally_of-events : (add_steps zeros events ≡ tally_of 5 2 1) × (counts_in events ≡ tally_of 5 2 1)
unfolding add_step
tally_of-events = (refl, refl)

-- Their lines, numbered from record 7 on.
pub lines_of-events : event_lines 7 events ≡ text ("7 3 0 0" ∷ "8 1 0 300" ∷ "9 4 13 0" ∷ "10 5 0 300" ∷ "11 2 0 300" ∷ "12 5 5 0" ∷ "13 3 0 300" ∷ [])
unfolding decimal line
lines_of-events = refl
