-- The ring as a kind of board. Document 02, "A list that turns".
use Rattle.board.specs.Kind.{Kind}
use Rattle.ring_desk.specs.RingRecord.{collect_ring_seeing}
use Rattle.ring_rules.specs.Ring.{decode_ring, open_ring, retire_ring, ring_after_step, ring_record_sound, ring_sound, ring_state, ring_width_for, step_ring}

abbrev pub ring : Kind
ring = record {
  width = ring_width_for;
  record_sound = ring_record_sound;
  desk = decode_ring;
  retired = retire_ring;
  collected = collect_ring_seeing;
  sound = ring_sound;
  state = ring_state;
  after = ring_after_step;
  step = step_ring;
  opens = open_ring;
}
