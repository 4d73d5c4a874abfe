-- Locality: what a call reads and what it may change, on the states of a hall. There is no proof here.
use Rattle.std.specs.Prelude.{ℕ, ◌-◌, ◌≡◌, Bool, false, cond, ◌&&◌, List, [], ◌∷◌, get_or, eqb}
use Rattle.rules.specs.Hall.{Desk, Hall, State, TestedSlot, desk_of, empty_desk, screen_index}
use Rattle.rules.specs.Steps.{Call, Collect, Drop, Result, Retire, Step, Swap, Take, begin, in_range, next_screens}

-- Desk d's record, the session that its screen c shows, and the session at position p. Where the hall has no such desk, screen or
-- position there is an empty desk or no session.
abbrev pub desk_at : Hall → State → ℕ → Desk
desk_at hall state d = cond (in_range d hall.desks) (desk_of state d) empty_desk

abbrev pub screen_at : Hall → State → ℕ → ℕ → ℕ
screen_at hall state d c = cond (in_range d hall.desks && in_range c hall.screens) (get_or state.shown (screen_index hall d c) 0) 0

abbrev pub position_at : Hall → State → ℕ → ℕ
position_at hall state p = cond (in_range p hall.positions) (get_or state.held (p - 1) 0) 0

-- ---- What a call reads.

-- What the screen and the position that a step of desk d names hold.
abbrev pub step_named_words : Hall → State → ℕ → Step → List ℕ
step_named_words hall state d (Take c p) = screen_at hall state d c ∷ position_at hall state p ∷ []
step_named_words hall state d (Drop c) = screen_at hall state d c ∷ []
step_named_words hall state d (Swap p session) = position_at hall state p ∷ []
step_named_words hall state d Retire = []
step_named_words hall state d Collect = []

abbrev pub named_words : Hall → State → Call → List ℕ
named_words hall state call = step_named_words hall state call.desk call.step

-- The screens that a collect of a desk reads: the next two or the last one alone, and none where nothing is tested.
abbrev pub read_if_tested : List TestedSlot → List ℕ → List ℕ
read_if_tested [] sessions = []
read_if_tested (slot ∷ slots) sessions = sessions

abbrev pub collect_reads : List ℕ → Desk → List ℕ
collect_reads shown desk = read_if_tested (begin desk).tested (next_screens shown (begin desk))

abbrev pub step_screens_read : Hall → State → ℕ → Step → List ℕ
step_screens_read hall state d (Take c p) = []
step_screens_read hall state d (Drop c) = []
step_screens_read hall state d (Swap p session) = []
step_screens_read hall state d Retire = []
step_screens_read hall state d Collect = collect_reads state.shown (desk_at hall state d)

abbrev pub screens_read : Hall → State → Call → List ℕ
screens_read hall state call = step_screens_read hall state call.desk call.step

-- All that a call reads is the same in two states: its desk's record, what its step names, and the screens that a collect reads.
pub record SameView (hall : Hall) (left right : State) (call : Call) : Type 0 where
  pub desk : desk_at hall left call.desk ≡ desk_at hall right call.desk
  pub named : named_words hall left call ≡ named_words hall right call
  pub read : screens_read hall left call ≡ screens_read hall right call

-- A call does the same in two states: its answer, and what it leaves of its desk's record and of what its step names.
pub record StepsAlike (hall : Hall) (call : Call) (left right : Result State) : Type 0 where
  pub answer : left.answer ≡ right.answer
  pub desk : desk_at hall left.after call.desk ≡ desk_at hall right.after call.desk
  pub named : named_words hall left.after call ≡ named_words hall right.after call

-- ---- What a call may change.

-- May a step write screen c of its desk? May it write position p? (A swap that is a repeat does not.)
abbrev pub may_write_screen : Step → ℕ → Bool
may_write_screen (Take screen position) c = eqb screen c
may_write_screen (Drop screen) c = eqb screen c
may_write_screen (Swap position session) c = false
may_write_screen Retire c = false
may_write_screen Collect c = false

abbrev pub may_write_position : Step → ℕ → Bool
may_write_position (Take screen position) p = false
may_write_position (Drop screen) p = false
may_write_position (Swap position session) p = eqb position p
may_write_position Retire p = false
may_write_position Collect p = false

-- A call leaves alone the records and the screens of the other desks, the screens of its own desk that its step may not write,
-- and the positions that its step may not write.
pub record OthersStay (hall : Hall) (call : Call) (before after : State) : Type 0 where
  pub desks : (d : ℕ) → (d ≡ call.desk → ⊥) → desk_at hall after d ≡ desk_at hall before d
  pub screens : (d c : ℕ) → (d ≡ call.desk → may_write_screen call.step c ≡ false) → screen_at hall after d c ≡ screen_at hall before d c
  pub positions : (p : ℕ) → may_write_position call.step p ≡ false → position_at hall after p ≡ position_at hall before p
