-- The result of writing a sheet: the buffer with its bytes and their number, or the unchanged buffer.
use Rattle.std.specs.Prelude.{ℕ, cond, List, ◌++◌, length, drop, leb, Option, Some, None}

-- Both carry the buffer after the call.
pub data Output : Type 0 where
  put : List ℕ → ℕ → Output
  no_room : List ℕ → Output

abbrev pub output_of : Option ℕ → List ℕ → Output
output_of (Some n) after = put after n
output_of None after = no_room after

-- All bytes are put at the start of the buffer, and the rest of it is unchanged; if they do not fit, nothing is written.
abbrev pub write_whole : List ℕ → List ℕ → Output
write_whole out bytes = cond (leb (length bytes) (length out)) (put (bytes ++ drop (length bytes) out) (length bytes)) (no_room out)
