-- A list of slots read from one of them on and around, with some of them partitioned.
use Rattle.std.specs.Prelude.{ℕ, ◌*◌, ◌≤◌, ◌<◌, List, ◌++◌, ◌≡◌, length, take, drop}
use Rattle.rules.specs.Hall.{max_all_screens}
use Rattle.marks.specs.Marks.{pick}
use Rattle.ring_rules.specs.Ring.{rotate}

-- The bytes of a whole list, in a hall of s screens, and one of its slots: from it on and around the list is read or written.
pub record ListFrom (s : ℕ) (l : List ℕ) (a : ℕ) : Type 0 where
  pub bounded : s ≤ max_all_screens
  pub whole : length l ≡ 2 * (2 * s)
  pub slot : a < 2 * s

-- Of the n slots from slot a on: the unmarked ones first, then the marked ones, each group in its order. The other slots are as they were.
abbrev pub Parted : List ℕ → List ℕ → ℕ → ℕ → List ℕ → Type 0
Parted slots marks a n slots' =
    let some = take n (rotate a slots) in rotate a slots' ≡ (pick 0 marks some ++ pick 1 marks some) ++ drop n (rotate a slots)
