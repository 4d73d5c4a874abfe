-- A ring's record as the code keeps it, a layout of a desk's record, and a retire and a collect on it.
use Rattle.std.specs.Prelude.{ℕ, ◌*◌, List}
use Rattle.rules.specs.Steps.{Answer}
use Rattle.desk.specs.Layout.{Layout, RetiredAs, collected}
use Rattle.desk.specs.Record.{Laid}
use Rattle.ring_rules.specs.Ring.{beginning_after, beginning_in, circular, linear, ring_width_for, slot_after}

-- The list lies around from the slot at which it begins, which is any of the 2s.
abbrev pub ring : Layout
ring = record {
  width = ring_width_for;
  beginnings = λ s. 2 * s;
  beginning = beginning_in;
  linear = linear;
  lay = circular;
  slot = slot_after;
  after = beginning_after;
}

-- A ring's record that begins at one of its 2s slots and reads as a record that encodes a desk. Every sound record does.
abbrev pub RingEncoded : ℕ → List ℕ → Type 0
RingEncoded s r = Laid ring s r

-- A retire on a ring's record.
abbrev pub RingRetired : ℕ → List ℕ → Answer → List ℕ → Type 0
RingRetired s r a r' = RetiredAs ring s r a r'

-- A collect on a ring's record, given only what the screens that it reads show, as in the code.
abbrev pub collect_ring_seeing : ℕ → List ℕ → List ℕ → List ℕ
collect_ring_seeing s sessions r = collected ring s sessions r
