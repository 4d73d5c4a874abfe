-- What a writer leaves, by whether the bytes fit.
use Prim.Native.Nat.{ℕ, ◌+◌, ◌≤◌, ◌<◌}
use native.Mathlib.Omega.{arith}
use mathlib.Core.Path.{◌≡◌, sym, ap, ◌∙◌}
use mathlib.Core.Bool.{Bool, true, false}
use mathlib.Core.List.{List, ◌++◌}
use lib.ListN.{length, take, drop}
use lib.Dec.{leb}
use lib.Seq.{take_all}
use borrow.Author.Tests.{le-leb, leb-true, lt-leb}
use Rattle.buffer.specs.Put.{Fits, Put, overwrite_at}
use Rattle.buffer.specs.declared.Buffer.{Buffer}
use Rattle.rewriter.specs.Output.{no_room, put, write_whole}

-- ---- Bytes that were put into the buffer, where they fit: `said` is what `fits` answered for so many.
module _ (before after : Buffer) (bytes : List ℕ) {count : ℕ} {said : Bool} (empty : before.len ≡ 0) (counted : count ≡ length bytes)
    (asked : said ≡ leb (before.len + count) (length before.bytes.now)) where
  by_length : leb (length bytes) (length before.bytes.now) ≡ said
  by_length = let same : length bytes ≡ before.len + count = omega (arith, counted, empty) in ap (λ (n : ℕ). leb n (length before.bytes.now)) same ∙ sym asked

  pub room_found : said ≡ true → Fits before bytes
  room_found fits = omega (arith, empty, leb-true (length bytes) (length before.bytes.now) (by_length ∙ fits))

  pub nothing_written : said ≡ false → no_room before.bytes.now ≡ write_whole before.bytes.now bytes
  nothing_written full = simp (by_length ∙ full)

  pub bytes_written : said ≡ true → Put before after bytes → put after.bytes.now after.len ≡ write_whole before.bytes.now bytes
  unfolding overwrite_at
  bytes_written fits done =
      let all : before.len + length bytes ≡ length bytes = omega (arith, empty) in
      let none : 0 + length bytes ≡ length bytes = omega arith in
      simp (by_length ∙ fits)
      (λ i. put ((done.written ∙ ap (λ (n : ℕ). take n before.bytes.now ++ (bytes ++ drop (n + length bytes) before.bytes.now)) empty ∙ ap (λ (n : ℕ). bytes ++ drop n before.bytes.now) none) i) ((done.len ∙ all) i))

-- ---- Bytes that are copied.
pub no_room_lem : (out bytes : List ℕ) → length out < length bytes → no_room out ≡ write_whole out bytes
no_room_lem out bytes full = simp (lt-leb (length bytes) (length out) full)

pub bytes_copied : (out bytes : List ℕ) {after : List ℕ} {n : ℕ} → length bytes ≤ length out → n ≡ length bytes
    → after ≡ take (length bytes) bytes ++ drop (length bytes) out
    → put after n ≡ write_whole out bytes
bytes_copied out bytes room count copied =
    simp (le-leb (length bytes) (length out) room)
    (λ i. put ((copied ∙ ap (λ (first : List ℕ). first ++ drop (length bytes) out) (take_all (length bytes) bytes (omega arith))) i) (count i))
