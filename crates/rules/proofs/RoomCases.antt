-- The training room, computed: its opening, its swaps, what is sound in it, the cases of the hall book that fit it, and the words that a call of
-- it leaves; and a third room, whose limits all differ. Document 02, "A training room".
use Rattle.std.specs.Prelude.{ℕ, ◌≡◌, refl, List, [], ◌∷◌, ◌++◌, length, replicate, eqb, leb}
use Rattle.rules.proofs.Cases.{Case, ComputedIn, ◌⇒◌, board, case_a, cases_from_c, delivers, leaves, ok, on, opens, refused_with}
use Rattle.rules.specs.Hall.{Hall, Limits, State, desk_of, hall_limits, hall_of, training_limits}
use Rattle.rules.specs.Numbers.{decode_number}
use Rattle.rules.specs.Rooms.{without}
use Rattle.rules.specs.Steps.{Collect, Drop, Retire, Swap, Take, ◌sends◌, ask, in_range, is_none, questions}
use Rattle.rules.specs.Table.{decode_desk, encode_desk, need, open_questions, open_table, record_sound, sound, step_table}

-- "at most 4 desks with 1 screen each, and sessions up to 999"; "the hall's 16, 4 and 65,535 remain"
pub the-rooms :
    (training_limits ≡ record { desks = 4; screens = 1; positions = 64; sessions = 999 })
    × (hall_limits ≡ record { desks = 16; screens = 4; positions = 64; sessions = 65535 })
the-rooms = (refl, refl)

-- ---- The opening. "22 when a training board passes 1 to 3 but exceeds 4 or 1, before 4": each case is refused by the questions that it names,
-- and the first of them gives the answer. 96 words are the need of 4 desks with 1 screen and 1 position, 159 that with 64 positions.
abbrev openings : List Case
openings =
    board (hall_of 4 1 1) 96 (ok 0) []
    ∷ board (hall_of 4 1 64) 159 (ok 0) []
    -- 22
    ∷ board (hall_of 5 1 1) 129 (refused_with 22) []
    ∷ board (hall_of 4 2 1) 200 (refused_with 22) []
    ∷ board (hall_of 16 4 64) 2403 (refused_with 22) []
    -- 1 and 22; 2 and 22; 3 and 22
    ∷ board (hall_of 17 2 1) 2403 (refused_with 1) []
    ∷ board (hall_of 5 5 1) 2403 (refused_with 2) []
    ∷ board (hall_of 5 1 65) 2403 (refused_with 3) []
    -- 22 and 4
    ∷ board (hall_of 5 1 1) 128 (refused_with 22) []
    ∷ board (hall_of 4 2 1) 3 (refused_with 22) []
    -- 1, 2, 3 and 4 alone
    ∷ board (hall_of 0 1 1) 2403 (refused_with 1) []
    ∷ board (hall_of 1 0 1) 2403 (refused_with 2) []
    ∷ board (hall_of 1 1 0) 2403 (refused_with 3) []
    ∷ board (hall_of 1 1 65) 2403 (refused_with 3) []
    ∷ board (hall_of 4 1 1) 95 (refused_with 4) []
    -- a refused opening writes nothing
    ∷ opens (hall_of 5 1 1) (7 ∷ 8 ∷ 9 ∷ []) (refused_with 22) (7 ∷ 8 ∷ 9 ∷ [])
    ∷ []

pub training_openings : ComputedIn training_limits openings
unfolding open_table
training_openings = refl

-- ---- Swaps. "22 for one passed straight to swap, after 8": the order is 5, 6, 23, 8, 22, 12.

-- One desk with one screen and one position, which holds a session; the desk owes another, its screen shows a third, and this is its next
-- message number.
abbrev holding : ℕ → ℕ → ℕ → ℕ → List ℕ
holding session shown owed next = (1 ∷ 1 ∷ 1 ∷ session ∷ shown ∷ owed ∷ []) ++ (replicate 14 0 ++ (next ∷ []))

abbrev swaps : List Case
swaps =
    -- 999 is the largest
    leaves (holding 5 0 0 0) ((1 sends Swap 1 999 ⇒ ok 5) ∷ []) (holding 999 0 5 1)
    -- 22, and nothing is written
    ∷ leaves (holding 5 0 0 0) ((1 sends Swap 1 1000 ⇒ refused_with 22) ∷ (1 sends Swap 1 65535 ⇒ refused_with 22) ∷ []) (holding 5 0 0 0)
    -- 5 and 22; 6 and 22; 23 and 22; 8 and 22; 22 and 12; 12 alone
    ∷ on [] ((1 sends Swap 1 1000 ⇒ refused_with 5) ∷ [])
    ∷ delivers (holding 5 0 0 1) ((1 sends Swap 1 1000 ⇒ refused_with 23) ∷ []) (holding 5 0 0 1)
    ∷ on (holding 5 0 6 0)
    ((2 sends Swap 1 1000 ⇒ refused_with 6) ∷ (1 sends Swap 2 1000 ⇒ refused_with 8) ∷ (1 sends Swap 1 1000 ⇒ refused_with 22) ∷ (1 sends Swap 1 999 ⇒ refused_with 12) ∷ [])
    -- sessions over 999 that stand in the table are not asked: they are sound, and are replied and owed; a repeat of one is 22
    ∷ leaves (holding 1000 0 0 0) ((1 sends Swap 1 1000 ⇒ refused_with 22) ∷ (1 sends Take 1 1 ⇒ ok 1000) ∷ (1 sends Swap 1 7 ⇒ ok 1000) ∷ []) (holding 7 1000 1000 2)
    -- 0 is no session, and a repeat of 999 is accepted
    ∷ leaves (holding 999 0 0 0) ((1 sends Swap 1 999 ⇒ ok 999) ∷ (1 sends Swap 1 0 ⇒ ok 999) ∷ []) (holding 0 0 999 2)
    ∷ []

pub training_swaps : ComputedIn training_limits swaps
unfolding step_table sound record_sound encode_desk decode_desk
training_swaps = refl

-- In the hall these swaps are accepted.
pub hall-swaps : ComputedIn hall_limits (leaves (holding 5 0 0 0) ((1 sends Swap 1 1000 ⇒ ok 5) ∷ (1 sends Retire ⇒ ok 5) ∷ (1 sends Swap 1 65535 ⇒ ok 1000) ∷ [])
    ((1 ∷ 1 ∷ 1 ∷ 65535 ∷ 0 ∷ 1000 ∷ 0 ∷ 0 ∷ 0 ∷ 1 ∷ replicate 8 0) ++ (5 ∷ 0 ∷ 3 ∷ [])) ∷ [])
unfolding step_table sound record_sound encode_desk decode_desk
hall-swaps = refl

-- ---- Soundness. "in a training room soundness asks its limits for P and c too": a table of 5 desks, or of 2 screens, is sound in the hall alone.
abbrev collects_on : Hall → ℕ → Case
collects_on hall number = on ((hall.desks ∷ hall.screens ∷ hall.positions ∷ []) ++ replicate (need hall) 0) ((1 sends Collect ⇒ record { number = number; session = 0 }) ∷ [])

pub sound-in-each-room :
    ComputedIn training_limits (collects_on (hall_of 4 1 64) 0 ∷ collects_on (hall_of 5 1 64) 5 ∷ collects_on (hall_of 4 2 64) 5 ∷ [])
    × ComputedIn hall_limits (collects_on (hall_of 4 1 64) 0 ∷ collects_on (hall_of 5 1 64) 0 ∷ collects_on (hall_of 4 2 64) 0 ∷ [])
unfolding step_table sound record_sound encode_desk decode_desk
sound-in-each-room = (refl, refl)

-- ---- The cases of the hall book that fit the training room: A, and C to M. B's hall is over its limits.
pub training_book : ComputedIn training_limits (case_a ++ cases_from_c)
unfolding open_table step_table sound record_sound encode_desk decode_desk decode_number
training_book = refl

-- ---- A third room, of at most 2 desks with 3 screens each and 5 positions, and sessions up to 7: each of its limits is asked. 70 words are enough.
abbrev third : Limits
third = record { desks = 2; screens = 3; positions = 5; sessions = 7 }

abbrev limited : List Case
limited =
    board (hall_of 2 3 5) 70 (ok 0) ((1 sends Swap 1 7 ⇒ ok 0) ∷ (1 sends Swap 1 8 ⇒ refused_with 22) ∷ [])
    ∷ board (hall_of 3 1 1) 2403 (refused_with 22) []
    ∷ board (hall_of 1 4 1) 2403 (refused_with 22) []
    ∷ board (hall_of 1 1 6) 2403 (refused_with 22) []
    ∷ collects_on (hall_of 2 3 5) 0
    ∷ collects_on (hall_of 3 1 1) 5
    ∷ collects_on (hall_of 1 4 1) 5
    ∷ collects_on (hall_of 1 1 6) 5
    ∷ []

pub third-room : ComputedIn third limited
unfolding open_table step_table sound record_sound encode_desk decode_desk
third-room = refl

-- Limits over the hall's change nothing: 1, 2, 3 and 5 are asked of every room.
abbrev pub unlimited : Limits
unlimited = record { desks = 100; screens = 100; positions = 100; sessions = 70000 }

pub still-the-hall :
    ComputedIn unlimited
    (board (hall_of 17 1 1) 2403 (refused_with 1) [] ∷ board (hall_of 1 5 1) 2403 (refused_with 2) [] ∷ board (hall_of 1 1 65) 2403 (refused_with 3) [] ∷ collects_on (hall_of 17 1 1) 5 ∷ collects_on (hall_of 1 5 1) 5 ∷ collects_on (hall_of 1 1 65) 5 ∷ [])
unfolding open_table step_table sound record_sound encode_desk decode_desk
still-the-hall = refl

-- ---- The questions of the hall without a training room, whatever the limits: those of document 01, and 23.
pub opening_asked_before : (limits : Limits) (hall : Hall) (table : List ℕ)
    → without 22 (open_questions limits hall table)
    ≡ ask (in_range hall.desks 16) 1 ∷ ask (in_range hall.screens 4) 2 ∷ ask (in_range hall.positions 64) 3 ∷ ask (leb (need hall) (length table)) 4 ∷ []
opening_asked_before limits hall table = refl

pub swap_asked_before : (limits : Limits) (hall : Hall) (state : State) (d p session : ℕ)
    → without 22 (questions limits hall state (d sends Swap p session))
    ≡ ask (in_range d hall.desks) 6 ∷ ask (eqb 0 (desk_of state d).next) 23 ∷ ask (in_range p hall.positions) 8 ∷ ask (is_none (desk_of state d).owed) 12 ∷ []
swap_asked_before limits hall state d p session = refl

-- The other steps do not ask 22.
pub others_never_asked : (limits : Limits) (hall : Hall) (state : State) (d c p : ℕ)
    → (without 22 (questions limits hall state (d sends Take c p)) ≡ questions limits hall state (d sends Take c p))
    × (without 22 (questions limits hall state (d sends Drop c)) ≡ questions limits hall state (d sends Drop c))
    × (without 22 (questions limits hall state (d sends Retire)) ≡ questions limits hall state (d sends Retire))
    × (without 22 (questions limits hall state (d sends Collect)) ≡ questions limits hall state (d sends Collect))
others_never_asked limits hall state d c p = (refl, refl, refl, refl)
