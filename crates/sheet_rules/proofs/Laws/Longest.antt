-- How long a line can be: a number has at most twenty digits. And how long a header and a record: a number has at most three bytes.
use Rattle.std.specs.Prelude.{ℕ, zero, suc, ◌+◌, ◌/◌, ◌%◌, ◌≤◌, Bool, true, false, cond, List, [], ◌∷◌, ◌++◌, length, ltb}
use Rattle.std.proofs.Common.{arith, length-append}
use Rattle.rules.specs.Hall.{Hall}
use Rattle.sheet_rules.specs.Edition1.{Format, encode_field, encode_fields, encode_header, encode_number, encode_record, encode_rest, shortest}
use Rattle.sheet_rules.specs.Edition2.{Version, edition_for, encode_header2, encode_record2, repeats, shorthand_for, version1, version2}
use Rattle.sheet_rules.specs.Lines.{decimal, digits, end_line, line, spaced}
use Rattle.sheet_rules.specs.Rewriting.{refused_sheet_line}
use Rattle.sheet_rules.specs.Sheet.{Carried, Record, desk_field, follows, position_field, screen_field, session_field}
use Rattle.sheet_rules.specs.Tally.{Tally}

digits-length : (most value : ℕ) → length (digits most value) ≤ most
digits-length zero value = omega arith
digits-length (suc most) value = by_size (ltb value 10) (digits-length most (value / 10))
  where
    by_size : (small : Bool) → length (digits most (value / 10)) ≤ most
        → length (cond small ((48 + value) ∷ []) (digits most (value / 10) ++ ((48 + value % 10) ∷ []))) ≤ suc most
    by_size true few = omega arith
    by_size false few = omega (arith, length-append (digits most (value / 10)) ((48 + value % 10) ∷ []))

pub decimal-length : (value : ℕ) → length (decimal value) ≤ 20
unfolding decimal
decimal-length value = digits-length 20 value

-- a number and what follows it
number_length : (value after : ℕ) (rest : List ℕ) (most : ℕ) → length rest ≤ most → length (decimal value ++ (after ∷ rest)) ≤ 21 + most
number_length value after rest most few =
    omega (arith, decimal-length value, length-append (decimal value) (after ∷ rest))

pub line-length : (index code number session : ℕ) → length (line index code number session) ≤ 84
unfolding line
line-length index code number session =
    number_length index 32 (spaced (code ∷ number ∷ session ∷ [])) 63
    (number_length code 32 (spaced (number ∷ session ∷ [])) 42
    (number_length number 32 (spaced (session ∷ [])) 21 (number_length session 10 [] 0 (omega arith))))

pub end_length : (tally : Tally) → length (end_line tally) ≤ 67
unfolding end_line
end_length tally =
    omega (
      arith,
      number_length tally.accepted 32 (spaced (tally.refused ∷ tally.handed_back ∷ [])) 42
          (number_length tally.refused 32 (spaced (tally.handed_back ∷ [])) 21 (number_length tally.handed_back 10 [] 0 (omega arith))),
    )

pub refused_length : (number offset : ℕ) → length (refused_sheet_line number offset) ≤ 42
unfolding refused_sheet_line
refused_length number offset = number_length number 32 (spaced (offset ∷ [])) 21 (number_length offset 10 [] 0 (omega arith))

-- ---- Bytes of a sheet.
shortest-length : (most value : ℕ) → length (shortest most value) ≤ most
shortest-length zero value = omega arith
shortest-length (suc most) value = by_size (ltb value 128) (shortest-length most (value / 128))
  where
    by_size : (small : Bool) → length (shortest most (value / 128)) ≤ most
        → length (cond {A = List ℕ} small (value ∷ []) ((value % 128 + 128) ∷ shortest most (value / 128))) ≤ suc most
    by_size true few = omega arith
    by_size false few = omega (arith, few)

pub at_most_three : (value : ℕ) → length (encode_number value) ≤ 3
unfolding encode_number
at_most_three value = shortest-length 3 value

pub field_at_most_three : (present : Bool) (value : ℕ) → length (encode_field present value) ≤ 3
field_at_most_three true value = at_most_three value
field_at_most_three false value = omega arith

-- So the fields after the desk take at most nine, and P, c and L too.
pub rest_at_most_nine : (entry : Record) → length (encode_rest entry) ≤ 9
rest_at_most_nine entry =
    let screen = field_at_most_three (follows entry.code screen_field) entry.screen in
    let position = field_at_most_three (follows entry.code position_field) entry.position in
    let session = field_at_most_three (follows entry.code session_field) entry.session in
    simp length-append (omega arith)

pub hall_at_most_nine : (hall : Hall) → length (encode_header hall) ≤ 9
unfolding encode_header
hall_at_most_nine hall =
    simp length-append (omega (arith, at_most_three hall.desks, at_most_three hall.screens, at_most_three hall.positions))

written_out_length : (entry : Record) → length (encode_record entry) ≤ 15
unfolding encode_record
written_out_length entry =
    omega (
      arith,
      length-append (encode_number entry.code) (encode_fields entry),
      length-append (encode_field (follows entry.code desk_field) entry.desk) (encode_rest entry),
      at_most_three entry.code,
      field_at_most_three (follows entry.code desk_field) entry.desk,
      rest_at_most_nine entry,
    )

-- A record has at most five numbers in either edition, so at most 15 bytes,
pub record_at_most_15 : (version : Version) (format : Format) (carried : Carried) (entry : Record) → length ((edition_for version format).encode_record carried entry) ≤ 15
unfolding encode_record2
record_at_most_15 version1 format carried entry = written_out_length entry
record_at_most_15 version2 format carried entry = by_desk_lem (repeats carried entry.desk)
  where
    by_desk_lem : (repeated : Bool) → length (cond repeated (encode_number (shorthand_for entry.code) ++ encode_rest entry) (encode_record entry)) ≤ 15
    by_desk_lem true =
        omega (arith, length-append (encode_number (shorthand_for entry.code)) (encode_rest entry), at_most_three (shorthand_for entry.code), rest_at_most_nine entry)
    by_desk_lem false = written_out_length entry

-- and so has a header.
pub header_at_most_15 : (version : Version) (format : Format) (hall : Hall) → length ((edition_for version format).encode_header hall) ≤ 15
unfolding encode_header2
header_at_most_15 version1 format hall = omega (arith, hall_at_most_nine hall)
header_at_most_15 version2 format hall =
    omega (
      arith,
      length-append (encode_number 0) (encode_number 2 ++ encode_header hall),
      length-append (encode_number 2) (encode_header hall),
      at_most_three 0,
      at_most_three 2,
      hall_at_most_nine hall,
    )
