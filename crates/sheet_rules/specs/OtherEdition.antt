-- What a reader of edition 1 says to a sheet of edition 2. Document 02, "Edition 2 of the day sheet, and a converter": "An edition 1 reader that
-- gets through the first three numbers meets that 0 as P and says 1, never a wrong line."
use Rattle.std.specs.Prelude.{ℕ, ◌<◌, ◌≡◌, true, List, ◌++◌}
use Rattle.rules.specs.Hall.{Hall}
use Rattle.rules.specs.Numbers.{Refusal, max_number, parsed, refusal_of, refused}
use Rattle.sheet_rules.specs.Edition1.{Format, decode_header, edition1}
use Rattle.sheet_rules.specs.Lines.{end_line, printed, refusal_line}
use Rattle.sheet_rules.specs.Offsets.{NumbersFill, refuses_number}
use Rattle.sheet_rules.specs.Tally.{zeros}

-- One of the first three numbers of a sheet is refused: fewer than three numbers fill the bytes before it.
pub record HeaderNumberRefused (format : Format) (sheet : List ℕ) (reason : Refusal) : Type 0 where
  pub count : ℕ
  pub few : count < 3
  pub before : NumbersFill format.read_number sheet count 0 reason.offset
  pub refuses : format.read_number max_number sheet reason.offset ≡ refused reason
  pub a_number : refuses_number reason.number ≡ true

-- "never a wrong line": there is no line but that of the header and the last one.
-- "that gets through the first three numbers [..] says 1"; otherwise one of these three numbers is refused.
pub record RefusedHeader (format : Format) (sheet : List ℕ) : Type 0 where
  pub reason : Refusal
  pub two_lines : printed (edition1 format) sheet ≡ refusal_line 0 reason ++ end_line zeros
  pub gets_through : (hall : Hall) (next : ℕ) → decode_header format.read_number sheet 0 ≡ parsed hall next → reason ≡ refusal_of 0 1 0
  pub otherwise : (found : Refusal) → decode_header format.read_number sheet 0 ≡ refused found → (reason ≡ found) × HeaderNumberRefused format sheet found
