-- What ends a reading has the number of a reason. The laws are for callers that keep a `Reason` in refusals of their own.
use Rattle.std.specs.Prelude.{◌≡◌, refl, ℕ, Bool, true, false, cond, not, List, Option, Err, leb, eqb, length, drop}
use Rattle.std.proofs.Common.{subst, sym}
use Rattle.rules.specs.Numbers.{Groups, Padding, Parsed, allows, bind, decode_groups, decode_number, groups_in, is_padded, max_number, overlong, parsed, refused, terminated}
use Rattle.rules.specs.Numbers.{truncated, value_of}
use Rattle.sheet_rules.specs.Edition1.{Format, decode_field, decode_fields, decode_header, decode_record, decode_rest, with_code}
use Rattle.sheet_rules.specs.Edition2.{Version, check_desk, decode_header2, decode_record2, desk_before, edition_for}
use Rattle.sheet_rules.specs.Edition2.{expect_number, is_shorthand, repeats, stands_for, version1, version2}
use Rattle.sheet_rules.specs.Sheet.{Carried, Record, begin_sheet, desk_field, follows, is_code, max_bytes, position_field, screen_field, session_field}
use Rattle.reply.specs.Answer.{number_of}
use Rattle.reply.specs.declared.Reason.{Reason}
use Rattle.reply.specs.declared.Reason.TheVariants.{Ends, NoCode, Padded, TooLarge, TooLong, WrongDesk, WrongEdition}
use Rattle.reader.specs.Results.{carried_of, edition_of, format_of, header_result, padding_of, reason_of, record_result, version_of}
use Rattle.reader.specs.declared.Edition.{Edition as ReaderEdition}
use Rattle.reader.specs.declared.Format.{Format as ReaderFormat}
use Rattle.reader.specs.declared.Refusal.{Refusal as ReaderRefusal}

-- The number is that of a reason.
abbrev pub OfReason : ℕ → Type 0
OfReason number = (reason : Reason) × (number_of reason ≡ number)

-- A value was read, or what ends the reading has the number of a reason.
abbrev pub HasReason : {A : Type 0} → Parsed A → Type 0
HasReason (parsed value next) = Unit {0}
HasReason (refused refusal) = OfReason refusal.number

-- ---- The parts of a parser hand it on.
bind_has_reason : {A B : Type 0} (first : Parsed A) (rest : A → ℕ → Parsed B) → HasReason first
    → ((value : A) (next : ℕ) → HasReason (rest value next))
    → HasReason (bind first rest)
bind_has_reason (parsed value next) rest has later = later value next
bind_has_reason (refused refusal) rest has later = has

cond_has_reason : {A : Type 0} (is : Bool) (first second : Parsed A) → HasReason first → HasReason second → HasReason (cond is first second)
cond_has_reason true first second has other = has
cond_has_reason false first second has other = other

-- The code that a line shows does not change the number.
coded_has_reason : {A : Type 0} (code : ℕ) (found : Parsed A) → HasReason found → HasReason (with_code code found)
coded_has_reason code (parsed value next) has = has
coded_has_reason code (refused refusal) has = has

-- ---- Numbers.
groups_has_reason : (padding : Padding) (limit at : ℕ) (groups : Groups) → HasReason (decode_groups padding limit at groups)
groups_has_reason padding limit at (terminated groups) =
    cond_has_reason (leb (value_of groups) limit) _ _ (cond_has_reason (allows padding (is_padded groups)) _ _ tt (Padded, refl)) (TooLarge, refl)
groups_has_reason padding limit at truncated = (Ends, refl)
groups_has_reason padding limit at overlong = (TooLarge, refl)

pub number_has_reason : (format : ReaderFormat) (limit : ℕ) (sheet : List ℕ) (at : ℕ) → HasReason ((format_of format).read_number limit sheet at)
unfolding decode_number
number_has_reason format limit sheet at = groups_has_reason (padding_of format.padding) limit at (groups_in 3 (drop at sheet))

-- ---- Records and headers.
module _ (format : Format) (numbers : (limit : ℕ) (sheet : List ℕ) (at : ℕ) → HasReason (format.read_number limit sheet at)) where
  field_has_reason : (present : Bool) (limit : ℕ) (sheet : List ℕ) (at : ℕ) → HasReason (decode_field format.read_number present limit sheet at)
  field_has_reason true limit sheet at = numbers limit sheet at
  field_has_reason false limit sheet at = tt

  rest_has_reason : (code desk : ℕ) (sheet : List ℕ) (at : ℕ) → HasReason (decode_rest format code desk sheet at)
  rest_has_reason code desk sheet at =
      bind_has_reason _ _ (field_has_reason (follows code screen_field) max_number sheet at) λ screen after_screen.
      bind_has_reason _ _ (field_has_reason (follows code position_field) max_number sheet after_screen) λ position after_position.
      bind_has_reason _ _ (field_has_reason (follows code session_field) format.limits.sessions sheet after_position) λ session after_session. tt

  fields_has_reason : (code : ℕ) (sheet : List ℕ) (at : ℕ) → HasReason (decode_fields format code sheet at)
  fields_has_reason code sheet at =
      bind_has_reason _ _ (field_has_reason (follows code desk_field) max_number sheet at) λ desk after_desk. rest_has_reason code desk sheet after_desk

  record_1_has_reason : (sheet : List ℕ) (at : ℕ) → HasReason (decode_record format sheet at)
  unfolding decode_record
  record_1_has_reason sheet at =
      bind_has_reason _ _ (numbers max_number sheet at) λ code after_code.
      cond_has_reason (is_code code) _ _ (coded_has_reason code _ (fields_has_reason code sheet after_code)) (NoCode, refl)

  header_1_has_reason : (sheet : List ℕ) (at : ℕ) → HasReason (decode_header format.read_number sheet at)
  unfolding decode_header
  header_1_has_reason sheet at =
      bind_has_reason _ _ (numbers max_number sheet at) λ desks after_desks.
      bind_has_reason _ _ (numbers max_number sheet after_desks) λ screens after_screens.
      bind_has_reason _ _ (numbers max_number sheet after_screens) λ positions after_positions. tt

  expected_has_reason : (expected : ℕ) (sheet : List ℕ) (at : ℕ) → HasReason (expect_number format.read_number expected sheet at)
  expected_has_reason expected sheet at =
      bind_has_reason _ _ (numbers max_number sheet at) λ value next. cond_has_reason (eqb value expected) _ _ tt (WrongEdition, refl)

  header_2_has_reason : (sheet : List ℕ) (at : ℕ) → HasReason (decode_header2 format.read_number sheet at)
  unfolding decode_header2
  header_2_has_reason sheet at =
      bind_has_reason _ _ (expected_has_reason 0 sheet at) λ zero after_zero.
      bind_has_reason _ _ (expected_has_reason 2 sheet after_zero) λ edition after_edition.
      header_1_has_reason sheet after_edition

  checked_has_reason : (shorthand : Bool) (carried : Carried) (found : Parsed Record) → HasReason found
      → HasReason (bind found (check_desk shorthand carried))
  checked_has_reason shorthand carried found has =
      bind_has_reason _ _ has λ entry next.
      cond_has_reason (cond shorthand (repeats carried entry.desk) (not (repeats carried entry.desk))) _ _ tt (WrongDesk, refl)

  record_2_has_reason : (carried : Carried) (sheet : List ℕ) (at : ℕ) → HasReason (decode_record2 format carried sheet at)
  unfolding decode_record2
  record_2_has_reason carried sheet at =
      bind_has_reason _ _ (numbers max_number sheet at) λ code after_code.
      cond_has_reason (is_shorthand code) _ _
      (coded_has_reason (stands_for code) _ (checked_has_reason true carried _ (rest_has_reason (stands_for code) (desk_before carried) sheet after_code)))
      (cond_has_reason (is_code code) _ _ (coded_has_reason code _ (checked_has_reason false carried _ (fields_has_reason code sheet after_code))) (NoCode, refl))

  edition_record_has_reason : (version : Version) (carried : Carried) (sheet : List ℕ) (at : ℕ) → HasReason ((edition_for version format).decode_record carried sheet at)
  edition_record_has_reason version1 carried sheet at = record_1_has_reason sheet at
  edition_record_has_reason version2 carried sheet at = record_2_has_reason carried sheet at

  edition_header_has_reason : (version : Version) (sheet : List ℕ) (at : ℕ) → HasReason ((edition_for version format).decode_header sheet at)
  edition_header_has_reason version1 sheet at = header_1_has_reason sheet at
  edition_header_has_reason version2 sheet at = header_2_has_reason sheet at

pub record_has_reason : (edition : ReaderEdition) (carried : Carried) (sheet : List ℕ) (at : ℕ) → HasReason ((edition_of edition).decode_record carried sheet at)
record_has_reason edition carried sheet at =
    edition_record_has_reason (format_of edition.format) (number_has_reason edition.format) (version_of edition.version) carried sheet at

pub sheet_has_reason : (edition : ReaderEdition) (sheet : List ℕ) → HasReason (begin_sheet (edition_of edition) sheet)
sheet_has_reason edition sheet =
    cond_has_reason (leb (length sheet) max_bytes) ((edition_of edition).decode_header sheet 0) _
    (edition_header_has_reason (format_of edition.format) (number_has_reason edition.format) (version_of edition.version) sheet 0) (TooLong, refl)

-- ---- The same in the words of the contracts: the refusal that a reader of this crate returns.

-- Of a number: `number_result (Err refusal) next` is `refused (reason_of refusal)`, whatever the offset `next` is.
pub number_refused : (format : ReaderFormat) (limit : ℕ) (sheet : List ℕ) (at : ℕ) {refusal : ReaderRefusal}
    → refused (reason_of refusal) ≡ (format_of format).read_number limit sheet at
    → OfReason refusal.number
number_refused format limit sheet at read = subst HasReason (sym read) (number_has_reason format limit sheet at)

pub record_refused : (edition : ReaderEdition) (carried : Option ℕ) (sheet : List ℕ) (at : ℕ) {refusal : ReaderRefusal}
    → record_result (Err refusal) ≡ (edition_of edition).decode_record (carried_of carried) sheet at
    → OfReason refusal.number
record_refused edition carried sheet at read = subst HasReason (sym read) (record_has_reason edition (carried_of carried) sheet at)

pub sheet_refused : (edition : ReaderEdition) (sheet : List ℕ) {refusal : ReaderRefusal} → header_result (Err refusal) ≡ begin_sheet (edition_of edition) sheet
    → OfReason refusal.number
sheet_refused edition sheet read = subst HasReason (sym read) (sheet_has_reason edition sheet)
