-- Whether a table is sound, and its hall; what every step asks first of a sound table: is the desk 1 to P, is the message number the desk's next;
-- and the location of the desk's words in the table. Each for a kind of board.
use Rattle.std.specs.Prelude.{◌≡◌, ℕ, ◌+◌, ◌-◌, ◌*◌, true, cond, ◌&&◌, List, length, ◌==◌, nat_le, slice_index, Result, Ok, Err}
use Rattle.rules.specs.Hall.{Limits, all_screens}
use Rattle.rules.specs.Steps.{in_range}
use Rattle.rules.specs.Table.{hall_in, header_words, in_limits}
use Rattle.reply.specs.declared.Reason.{Reason}
use Rattle.reply.specs.declared.Reason.TheVariants.{NoDesk, OtherMessage, Unsound}
use Rattle.board.specs.Kind.{Kind, need_of, next_of, start_for, start_of}
use Rattle.board.specs.declared.Hall.{Hall}
use Rattle.board.specs.declared.Location.{Location}

abbrev pub numbers_in : List ℕ → Hall
numbers_in t = let H = hall_in t in record { desks = H.desks; screens = H.screens; positions = H.positions; all = all_screens H }

-- "it is long enough, P, c and L are in range": the hall in the header, or 5.
unfoldable pub header_of : Kind → Limits → List ℕ → Result Hall Reason
header_of kind limits t = cond (in_limits limits (hall_in t) && nat_le (need_of kind (hall_in t)) (length t)) (Ok (numbers_in t)) (Err Unsound)

-- "Every step: is the table sound? 5." If it is, its hall.
unfoldable pub soundness_of : Kind → Limits → List ℕ → Result Hall Reason
soundness_of kind limits t = cond (kind.sound limits t) (Ok (numbers_in t)) (Err Unsound)

abbrev pub location_of : Kind → List ℕ → ℕ → Location
location_of kind t desk =
    let H = hall_in t in
    record {
      positions = H.positions;
      screens = H.screens;
      all = all_screens H;
      start = start_of kind H desk;
      end = start_for kind H.positions (all_screens H) desk;
      next = next_of kind H desk;
    }

unfoldable pub admission_of : Kind → List ℕ → ℕ → ℕ → Result Location Reason
admission_of kind t message desk =
    cond (in_range desk (hall_in t).desks)
    (cond (message == slice_index t (next_of kind (hall_in t) desk)) (Ok (location_of kind t desk)) (Err OtherMessage))
    (Err NoDesk)

-- The table is sound and has the desk, and this is the desk's location.
pub record Admits (kind : Kind) (limits : Limits) (t : List ℕ) (desk : ℕ) (location : Location) : Type 0 where
  pub yes_sound : kind.sound limits t ≡ true
  pub yes_desk : in_range desk (hall_in t).desks ≡ true
  pub is : location ≡ location_of kind t desk

-- The offset of the word of desk d's screen i, in a hall of L positions and c screens per desk.
abbrev pub screen_for : ℕ → ℕ → ℕ → ℕ → ℕ
screen_for L c d i = header_words + L + ((d - 1) * c + (i - 1))
