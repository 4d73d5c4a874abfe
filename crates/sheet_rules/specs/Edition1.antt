-- Edition 1 of the day sheet: how its header and a record are read and written. Document 01, "The day sheet".
use Rattle.std.specs.Prelude.{ℕ, zero, suc, ◌+◌, ◌/◌, ◌%◌, Bool, true, false, cond, List, [], ◌∷◌, ◌++◌, ltb}
use Rattle.rules.specs.Hall.{Hall, Limits, hall_limits, hall_of, training_limits}
use Rattle.rules.specs.Numbers.{Padding, Parsed, allowed, barred, bind, decode_number, max_number, parsed, refusal, refused}
use Rattle.sheet_rules.specs.Sheet.{Edition, Record, desk_field, follows, is_code, position_field, record_for, screen_field, session_field}

-- ---- How numbers are read.

-- A reader of numbers: the limit, the sheet and the offset of the number are given.
abbrev pub NumberReader : Type 0
NumberReader = ℕ → List ℕ → ℕ → Parsed ℕ

-- What may differ between readers of one edition. Document 02, "A training room": "the same number reader, which is now told its limit by the
-- caller".
pub record Format : Type 0 where
  pub read_number : NumberReader
  pub limits : Limits

-- Padded numbers are accepted or refused, and a session is read against the limit of the room.
abbrev pub format_for : Padding → Limits → Format
format_for padding limits = record { read_number = decode_number padding; limits = limits }

abbrev pub hall_format : Format
hall_format = format_for barred hall_limits

abbrev pub training_format : Format
training_format = format_for barred training_limits

-- The format of the sheets in the archive. Document 02, "Padded numbers go": "Old sheets in the archive are kept"
abbrev pub archive_format : Format
archive_format = format_for allowed hall_limits

-- ---- Reading.

-- A field that follows the code is read; one that does not is 0 and has no byte.
abbrev pub decode_field : NumberReader → Bool → ℕ → List ℕ → ℕ → Parsed ℕ
decode_field read_number true limit sheet at = read_number limit sheet at
decode_field read_number false limit sheet at = parsed 0 at

-- The fields after the desk, and then all fields.
abbrev pub decode_rest : Format → ℕ → ℕ → List ℕ → ℕ → Parsed Record
decode_rest format code desk sheet at =
    bind (decode_field format.read_number (follows code screen_field) max_number sheet at) λ screen after_screen.
    bind (decode_field format.read_number (follows code position_field) max_number sheet after_screen) λ position after_position.
    bind (decode_field format.read_number (follows code session_field) format.limits.sessions sheet after_position) λ session after_session.
    parsed (record_for code desk screen position session) after_session

abbrev pub decode_fields : Format → ℕ → List ℕ → ℕ → Parsed Record
decode_fields format code sheet at =
    bind (decode_field format.read_number (follows code desk_field) max_number sheet at) λ desk after_desk.
    decode_rest format code desk sheet after_desk

-- The line of a refusal in a record whose code was read shows that code.
abbrev pub with_code : {A : Type 0} → ℕ → Parsed A → Parsed A
with_code code (parsed value next) = parsed value next
with_code code (refused reason) = refusal code reason.number reason.offset

-- "Is the code 1 to 5? 17, asked before its fields are read."
unfoldable pub decode_record : Format → List ℕ → ℕ → Parsed Record
decode_record format sheet at =
    bind (format.read_number max_number sheet at) λ code after_code.
    cond (is_code code) (with_code code (decode_fields format code sheet after_code)) (refusal code 17 0)

-- "A sheet is P, c, L, then records"
unfoldable pub decode_header : NumberReader → List ℕ → ℕ → Parsed Hall
decode_header read_number sheet at =
    bind (read_number max_number sheet at) λ desks after_desks.
    bind (read_number max_number sheet after_desks) λ screens after_screens.
    bind (read_number max_number sheet after_screens) λ positions after_positions.
    parsed (hall_of desks screens positions) after_positions

-- ---- Writing, with every number in its shortest form.

-- The shortest form of a number that has at most so many bytes.
abbrev pub shortest : ℕ → ℕ → List ℕ
shortest zero value = []
shortest (suc most) value = cond (ltb value 128) (value ∷ []) ((value % 128 + 128) ∷ shortest most (value / 128))

unfoldable pub encode_number : ℕ → List ℕ
encode_number value = shortest 3 value

abbrev pub encode_field : Bool → ℕ → List ℕ
encode_field true value = encode_number value
encode_field false value = []

abbrev pub encode_rest : Record → List ℕ
encode_rest entry =
    encode_field (follows entry.code screen_field) entry.screen
    ++ (encode_field (follows entry.code position_field) entry.position
    ++ encode_field (follows entry.code session_field) entry.session)

abbrev pub encode_fields : Record → List ℕ
encode_fields entry = encode_field (follows entry.code desk_field) entry.desk ++ encode_rest entry

unfoldable pub encode_record : Record → List ℕ
encode_record entry = encode_number entry.code ++ encode_fields entry

unfoldable pub encode_header : Hall → List ℕ
encode_header hall = encode_number hall.desks ++ (encode_number hall.screens ++ encode_number hall.positions)

-- ---- The edition. It does not use what is carried over from one record to the next.
abbrev pub edition1 : Format → Edition
edition1 format = record {
  limits = format.limits;
  decode_header = decode_header format.read_number;
  encode_header = encode_header;
  decode_record = λ carried. decode_record format;
  encode_record = λ carried. encode_record;
}

-- The sheets of edition 1 of the hall and of the training room, and those in the archive.
abbrev pub hall_edition : Edition
hall_edition = edition1 hall_format

abbrev pub training_edition : Edition
training_edition = edition1 training_format

abbrev pub archive_edition : Edition
archive_edition = edition1 archive_format
