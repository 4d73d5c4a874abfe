-- A sound record of the ring encodes a desk.
use Rattle.std.proofs.Common.{ℕ, ◌^◌, ◌<◌, List, get_or, arith}
use Rattle.rules.specs.Bytes.{words_of_bytes}
use Rattle.rules.proofs.Laws.Bytes.Bytes.{words_are_16}
use Rattle.words.proofs.Laws.{length-words}
use Rattle.board.specs.Kind.{SoundRecord}
use Rattle.ring_desk.specs.RingRecord.{RingEncoded}
use Rattle.ring_desk.proofs.RingFound.{sound_ring_encoded}
use Rattle.ring.specs.RingKind.{ring}

pub ring_encoded : {s : ℕ} (bytes : List ℕ) → SoundRecord ring s bytes → ((i : ℕ) → get_or bytes i 0 < 2 ^ 8) → RingEncoded s (words_of_bytes bytes)
ring_encoded {s} bytes whole small =
    sound_ring_encoded s (words_of_bytes bytes) whole.passes whole.bounded (omega (arith, length-words bytes, whole.long)) (words_are_16 bytes small)
