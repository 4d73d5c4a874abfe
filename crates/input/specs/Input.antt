-- What reading an input to its end gives. No contract can say which bytes a system gives, nor whether a read fails.
use Rattle.std.specs.Prelude.{◌≡◌, ℕ, ◌≤◌, ◌<◌, List, Option, Result, Ok, Err, IfOk, IfSome, length, take}
use Rattle.std.specs.Io.KnownBytes.{Consumes, IsAtEnd}

-- the first n bytes of the buffer, which are n bytes
abbrev pub IsPrefixLen : ℕ → List ℕ → Type 0
IsPrefixLen n buffer = (n ≤ length buffer) × (n ≡ length (take n buffer))

module _ {E : Type 0} where
  -- the bytes that were read are within the buffer
  abbrev pub ReadInto : Result ℕ E → List ℕ → Type 0
  ReadInto read buffer = IfOk read (λ n. IsPrefixLen n buffer)

  -- Where the bytes of the reader are known, those that were read are its next ones, and it ends unless they fill the buffer. After a failed
  -- read its next ones are in the buffer too.
  abbrev pub ReadsKnown : Result ℕ E → Option (List ℕ) → Option (List ℕ) → List ℕ → Type 0
  ReadsKnown (Ok n) before after buffer = Consumes before after (take n buffer) × (n < length buffer → IsAtEnd after)
  ReadsKnown (Err why) before after buffer = (n : ℕ) × (n ≤ length buffer) × Consumes before after (take n buffer)

  -- Those that were read are then all of them, or as many as the buffer has room for.
  abbrev pub ReadsFront : Result ℕ E → Option (List ℕ) → List ℕ → Type 0
  ReadsFront read known buffer = IfOk read (λ n. IfSome known (λ bytes. take n buffer ≡ take (length buffer) bytes))
