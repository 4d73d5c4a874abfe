-- For each result of the readers, the result of the rules' readers: the value and the next offset, or what ends the reading.
use Rattle.std.specs.Prelude.{◌≡◌, ℕ, false, Option, Some, None, Result, Ok, Err}
use Rattle.rules.specs.Hall.{Hall, hall_of}
use Rattle.rules.specs.Numbers.{Padding, Parsed, Refusal, allowed, barred, parsed, refusal_of, refused}
use Rattle.sheet_rules.specs.Edition1.{Format, format_for}
use Rattle.sheet_rules.specs.Edition2.{Version, edition_for, version1, version2}
use Rattle.sheet_rules.specs.Sheet.{Carried, Edition, Record, is_code, last_desk, no_desk, record_for}
use Rattle.codes.specs.Code.{code_of}
use Rattle.codes.specs.declared.Code.{Code}
use Rattle.limits.specs.Room.{limits_of}
use Rattle.reader.specs.declared.Padding.{Padding as ReaderPadding}
use Rattle.reader.specs.declared.Padding.TheVariants.{Allowed, Barred}
use Rattle.reader.specs.declared.Refusal.{Refusal as ReaderRefusal}
use Rattle.reader.specs.declared.Format.{Format as ReaderFormat}
use Rattle.reader.specs.declared.Version.{Version as ReaderVersion}
use Rattle.reader.specs.declared.Version.TheVariants.{One, Two}
use Rattle.reader.specs.declared.Edition.{Edition as ReaderEdition}
use Rattle.reader.specs.declared.Record.{Record as ReadRecord}
use Rattle.reader.specs.declared.Header.{Header}
use Rattle.reader.specs.declared.Cursor.{Cursor}

abbrev pub reason_of : ReaderRefusal → Refusal
reason_of refusal = refusal_of refusal.code refusal.number refusal.offset

-- A value that a cursor read, and the offset that it is at then.
abbrev pub parsed_at : {T A : Type 0} → (T → A) → Result T ReaderRefusal → ℕ → Parsed A
parsed_at value_of (Ok value) next = parsed (value_of value) next
parsed_at value_of (Err refusal) next = refused (reason_of refusal)

abbrev pub number_result : Result ℕ ReaderRefusal → ℕ → Parsed ℕ
number_result (Ok value) next = parsed value next
number_result (Err refusal) next = refused (reason_of refusal)

-- The step with a code; or no step has it, and it is refused with 17.
abbrev pub CodeRead : ℕ → Result Code ReaderRefusal → Type 0
CodeRead number (Ok code) = code_of code ≡ number
CodeRead number (Err refusal) = (reason_of refusal ≡ refusal_of number 17 0) × (is_code number ≡ false)

-- The rules' format for a reader's format.
abbrev pub padding_of : ReaderPadding → Padding
padding_of Allowed = allowed
padding_of Barred = barred

abbrev pub format_of : ReaderFormat → Format
format_of format = format_for (padding_of format.padding) (limits_of format.limits)

-- The rules' edition for a reader's edition.
abbrev pub version_of : ReaderVersion → Version
version_of One = version1
version_of Two = version2

abbrev pub edition_of : ReaderEdition → Edition
edition_of edition = edition_for (version_of edition.version) (format_of edition.format)

-- What a record leaves for the next: its desk, if there is a record before.
abbrev pub carried_of : Option ℕ → Carried
carried_of None = no_desk
carried_of (Some desk) = last_desk desk

abbrev pub record_of : ReadRecord → Record
record_of entry = record_for (code_of entry.code) entry.desk entry.screen entry.position entry.session

-- A record and the offset after it.
abbrev pub record_result : Result (ReadRecord × ℕ) ReaderRefusal → Parsed Record
record_result (Ok found) = parsed (record_of found.0) found.1
record_result (Err refusal) = refused (reason_of refusal)

abbrev pub header_of : Header → Hall
header_of header = hall_of header.desks header.screens header.positions

-- A header and the offset after it.
abbrev pub header_result : Result (Header × ℕ) ReaderRefusal → Parsed Hall
header_result (Ok found) = parsed (header_of found.0) found.1
header_result (Err refusal) = refused (reason_of refusal)

-- A cursor after a reading: in the same sheet, whose numbers are read as before.
pub record SameSheet (old new : Cursor) : Type 0 where
  pub sheet : new.sheet ≡ old.sheet
  pub format : new.format ≡ old.format
