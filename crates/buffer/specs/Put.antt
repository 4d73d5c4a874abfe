-- What a writer of bytes does to the buffer that its caller lends.
use Rattle.std.specs.Prelude.{ℕ, ◌+◌, ◌≤◌, ◌≡◌, List, ◌++◌, length, take, drop}
use Rattle.buffer.specs.declared.Buffer.{Buffer}

-- The bytes that were put.
abbrev pub put_so_far : Buffer → List ℕ
put_so_far buffer = take buffer.len buffer.bytes.now

-- The buffer has room for the bytes.
abbrev pub Fits : Buffer → List ℕ → Type 0
Fits buffer bytes = buffer.len + length bytes ≤ length buffer.bytes.now

-- A slice with the bytes from an offset on, and otherwise unchanged.
unfoldable pub overwrite_at : List ℕ → ℕ → List ℕ → List ℕ
overwrite_at out at bytes = take at out ++ (bytes ++ drop (at + length bytes) out)

-- The bytes were put after those before: the buffer before and after. It is still the same slice.
pub record Put (before after : Buffer) (bytes : List ℕ) : Type 0 where
  pub same_reference : after.bytes.ghost_name ≡ before.bytes.ghost_name
  pub written : after.bytes.now ≡ overwrite_at before.bytes.now before.len bytes
  pub len : after.len ≡ before.len + length bytes
  pub long : length after.bytes.now ≡ length before.bytes.now

-- No byte was put: the slice is the same, and unchanged.
pub record Cleared (before after : Buffer) : Type 0 where
  pub same_reference : after.bytes.ghost_name ≡ before.bytes.ghost_name
  pub bytes : after.bytes.now ≡ before.bytes.now
  pub len : after.len ≡ 0
