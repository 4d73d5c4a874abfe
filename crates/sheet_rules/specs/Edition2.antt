-- Edition 2 of the day sheet: how its header and a record are read and written. Document 02, "Edition 2 of the day sheet, and a converter".
use Rattle.std.specs.Prelude.{ℕ, ◌+◌, ◌-◌, Bool, true, false, cond, not, ◌&&◌, List, ◌++◌, leb, eqb}
use Rattle.rules.specs.Hall.{Hall}
use Rattle.rules.specs.Numbers.{Parsed, bind, max_number, parsed, refusal}
use Rattle.sheet_rules.specs.Edition1.{Format, NumberReader, decode_fields, decode_header, decode_rest, edition1, encode_header, encode_number, encode_record, encode_rest}
use Rattle.sheet_rules.specs.Edition1.{hall_format, with_code}
use Rattle.sheet_rules.specs.Sheet.{Carried, Edition, Record, is_code, last_desk, no_desk}

-- ---- The header.

-- "21 for a first number other than 0 or an edition other than 2, each straight after that number is read"
abbrev pub expect_number : NumberReader → ℕ → List ℕ → ℕ → Parsed ℕ
expect_number read_number expected sheet at =
    bind (read_number max_number sheet at) λ value next. cond (eqb value expected) (parsed value next) (refusal 0 21 0)

-- "Edition 2 starts with 0, then 2, then P, c, L"
unfoldable pub decode_header2 : NumberReader → List ℕ → ℕ → Parsed Hall
decode_header2 read_number sheet at =
    bind (expect_number read_number 0 sheet at) λ zero after_zero.
    bind (expect_number read_number 2 sheet after_zero) λ edition after_edition.
    decode_header read_number sheet after_edition

unfoldable pub encode_header2 : Hall → List ℕ
encode_header2 hall = encode_number 0 ++ (encode_number 2 ++ encode_header hall)

-- ---- Records.

-- "codes 9 to 13 stand for 1 to 5 with the desk left out"
abbrev pub is_shorthand : ℕ → Bool
is_shorthand code = leb 9 code && leb code 13

abbrev pub stands_for : ℕ → ℕ
stands_for code = code - 8

abbrev pub shorthand_for : ℕ → ℕ
shorthand_for code = code + 8

-- "meaning the previous record's desk". Before the first record there is none; `check_desk` refuses a record that is read with this 0.
abbrev pub desk_before : Carried → ℕ
desk_before no_desk = 0
desk_before (last_desk desk) = desk

-- Whether a desk is the previous record's.
abbrev pub repeats : Carried → ℕ → Bool
repeats no_desk desk = false
repeats (last_desk last) desk = eqb last desk

-- "and must be used whenever it is the same": a shorthand code is used exactly if the desk is the previous record's.
-- "20 for a shorthand code in the first record or a desk written out though unchanged", "20 after the record's fields"
abbrev pub check_desk : Bool → Carried → Record → ℕ → Parsed Record
check_desk shorthand carried entry next =
    cond (cond shorthand (repeats carried entry.desk) (not (repeats carried entry.desk))) (parsed entry next) (refusal 0 20 0)

abbrev pub decode_shorthand : Format → Carried → ℕ → List ℕ → ℕ → Parsed Record
decode_shorthand format carried code sheet at = bind (decode_rest format code (desk_before carried) sheet at) (check_desk true carried)

abbrev pub decode_written_out : Format → Carried → ℕ → List ℕ → ℕ → Parsed Record
decode_written_out format carried code sheet at = bind (decode_fields format code sheet at) (check_desk false carried)

-- "17 for codes outside both ranges". Document 01, "Held ready": "a shorthand code prints as the code it stands for"
abbrev pub decode_coded : Format → Carried → ℕ → List ℕ → ℕ → Parsed Record
decode_coded format carried code sheet at =
    cond (is_shorthand code) (with_code (stands_for code) (decode_shorthand format carried (stands_for code) sheet at))
    (cond (is_code code) (with_code code (decode_written_out format carried code sheet at)) (refusal code 17 0))

unfoldable pub decode_record2 : Format → Carried → List ℕ → ℕ → Parsed Record
decode_record2 format carried sheet at = bind (format.read_number max_number sheet at) λ code after_code. decode_coded format carried code sheet after_code

unfoldable pub encode_record2 : Carried → Record → List ℕ
encode_record2 carried entry = cond (repeats carried entry.desk) (encode_number (shorthand_for entry.code) ++ encode_rest entry) (encode_record entry)

-- ---- The edition.
abbrev pub edition2 : Format → Edition
edition2 format = record {
  limits = format.limits;
  decode_header = decode_header2 format.read_number;
  encode_header = encode_header2;
  decode_record = decode_record2 format;
  encode_record = encode_record2;
}

-- The hall's sheets of edition 2.
abbrev pub hall_edition2 : Edition
hall_edition2 = edition2 hall_format

-- ---- Both editions.
pub data Version : Type 0 where
  version1 : Version
  version2 : Version

abbrev pub edition_for : Version → Format → Edition
edition_for version1 format = edition1 format
edition_for version2 format = edition2 format
