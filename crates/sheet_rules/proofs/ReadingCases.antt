-- Computed cases of reading and writing: the readings of sheets, and the bytes that encode meanings.
use Rattle.std.specs.Prelude.{ℕ, ◌+◌, ◌≡◌, refl, List, [], ◌∷◌, map, get_or, length, replicate}
use Rattle.rules.specs.Hall.{hall_limits, hall_of}
use Rattle.rules.specs.Lists.{to_nat}
use Rattle.rules.specs.Numbers.{decode_number, parsed, refusal, refusal_of}
use Rattle.sheet_rules.specs.Edition1.{archive_edition, decode_header, decode_record, encode_header, encode_number, encode_record, hall_edition, training_edition}
use Rattle.sheet_rules.specs.Lines.{decimal, ending_line, line}
use Rattle.sheet_rules.specs.Sheet.{Carried, Edition, Meaning, Record, Records, complete, encode_sheet, field_table, follows, last_desk, lent_table, more}
use Rattle.sheet_rules.specs.Sheet.{no_desk, open_sheet, opened, opening_number, reading, record_for, stop, unopened, whole}
use Rattle.sheet_rules.proofs.SheetCases.{sheet_d, text}

-- ---- Records. "A table of twenty entries says which of desk, screen, position and session follow each code."
pub twenty_entries : length field_table ≡ 20
twenty_entries = refl

pub fields-of-codes :
    map (λ (code : ℕ). map (λ (field : ℕ). to_nat (follows code field)) (0 ∷ 1 ∷ 2 ∷ 3 ∷ [])) (1 ∷ 2 ∷ 3 ∷ 4 ∷ 5 ∷ 6 ∷ [])
    ≡ (1 ∷ 1 ∷ 1 ∷ 0 ∷ []) ∷ (1 ∷ 1 ∷ 0 ∷ 0 ∷ []) ∷ (1 ∷ 0 ∷ 1 ∷ 1 ∷ []) ∷ (1 ∷ 0 ∷ 0 ∷ 0 ∷ []) ∷ (1 ∷ 0 ∷ 0 ∷ 0 ∷ []) ∷ (0 ∷ 0 ∷ 0 ∷ 0 ∷ []) ∷ []
fields-of-codes = refl

pub record_by_fields : record_for 3 2 0 4 500 ≡ record { code = 3; desk = 2; screen = 0; position = 4; session = 500 }
record_by_fields = refl

-- One record of each code, with fields that all differ, and its bytes; written, and read at the second byte of a sheet.
abbrev one_of_each : List Record
one_of_each = record_for 1 2 3 4 0 ∷ record_for 2 2 3 0 0 ∷ record_for 3 2 0 4 500 ∷ record_for 4 2 0 0 0 ∷ record_for 5 6 0 0 0 ∷ []

abbrev their_bytes : List (List ℕ)
their_bytes =
    (0x01 ∷ 0x02 ∷ 0x03 ∷ 0x04 ∷ []) ∷ (0x02 ∷ 0x02 ∷ 0x03 ∷ []) ∷ (0x03 ∷ 0x02 ∷ 0x04 ∷ 0xF4 ∷ 0x03 ∷ []) ∷ (0x04 ∷ 0x02 ∷ []) ∷ (0x05 ∷ 0x06 ∷ []) ∷ []

pub records_written : map (hall_edition.encode_record no_desk) one_of_each ≡ their_bytes
unfolding encode_record encode_number
records_written = refl

pub records-read :
    map (λ (bytes : List ℕ). hall_edition.decode_record no_desk (0x09 ∷ bytes) 1) their_bytes
    ≡ parsed (record_for 1 2 3 4 0) 5 ∷ parsed (record_for 2 2 3 0 0) 4 ∷ parsed (record_for 3 2 0 4 500) 6 ∷ parsed (record_for 4 2 0 0 0) 3 ∷ parsed (record_for 5 6 0 0 0) 3 ∷ []
unfolding decode_record decode_number
records-read = refl

-- "Is the code 1 to 5? 17, asked before its fields are read": no field follows here.
pub other_codes : map (λ (code : ℕ). hall_edition.decode_record no_desk (code ∷ []) 0) (0 ∷ 6 ∷ 5 ∷ []) ≡ refusal 0 17 0 ∷ refusal 6 17 0 ∷ refusal 5 15 1 ∷ []
unfolding decode_record decode_number
other_codes = refl

-- "A sheet is P, c, L"
pub header_both_ways : (hall_edition.encode_header (hall_of 2 3 4) ≡ 0x02 ∷ 0x03 ∷ 0x04 ∷ []) × (hall_edition.decode_header (0x09 ∷ 0x02 ∷ 0x03 ∷ 0x04 ∷ []) 1 ≡ parsed (hall_of 2 3 4) 4)
unfolding encode_header encode_number decode_header decode_number
header_both_ways = (refl, refl)

-- The table that the program lends: 2,403 zeros.
pub lent_table_lem : lent_table ≡ replicate 2403 0
unfolding lent_table
lent_table_lem = refl

-- ---- Sheets that open, and what their records are.

-- Case D is a sheet that opens, and nothing ends its reading.
abbrev pub records_d : Records
records_d =
    more (record_for 3 1 0 1 300)
    (more (record_for 1 1 1 1 0)
    (more (record_for 3 1 0 1 7)
    (more (record_for 4 1 0 0 0)
    (more (record_for 5 1 0 0 0) (more (record_for 2 1 1 0 0) (more (record_for 5 1 0 0 0) (more (record_for 4 1 0 0 0) complete)))))))

pub D_opens : reading hall_edition sheet_d ≡ opened (hall_of 1 1 1) records_d
unfolding reading decode_header decode_record decode_number opening_number lent_table
D_opens = refl

-- A sheet that opens, and whose second record is truncated: the first step is run, and then the line of what ends the reading follows.
abbrev pub records_cut : Records
records_cut = more (record_for 4 1 0 0 0) (stop (refusal_of 3 15 8))

pub cut_opens : reading hall_edition (0x01 ∷ 0x01 ∷ 0x01 ∷ 0x04 ∷ 0x01 ∷ 0x03 ∷ 0x01 ∷ 0x01 ∷ []) ≡ opened (hall_of 1 1 1) records_cut
unfolding reading decode_header decode_record decode_number opening_number lent_table
cut_opens = refl

pub line_of_cut : ending_line 1 records_cut ≡ text ("2 3 15 8" ∷ [])
unfolding decimal line
line_of_cut = refl

-- 5 is put at a position, replaced by 0, retired at index 2 and not shown; the third collect is at index 5.
abbrev pub sheet_back : List ℕ
sheet_back =
    0x01 ∷ 0x01 ∷ 0x01 ∷ 0x03 ∷ 0x01 ∷ 0x01 ∷ 0x05 ∷ 0x03 ∷ 0x01 ∷ 0x01 ∷ 0x00 ∷ 0x04 ∷ 0x01 ∷ 0x05 ∷ 0x01 ∷ 0x05 ∷ 0x01 ∷ 0x05 ∷ 0x01 ∷ []

abbrev pub records_back : Records
records_back =
    more (record_for 3 1 0 1 5)
    (more (record_for 3 1 0 1 0)
    (more (record_for 4 1 0 0 0) (more (record_for 5 1 0 0 0) (more (record_for 5 1 0 0 0) (more (record_for 5 1 0 0 0) complete)))))

pub back-opens : reading hall_edition sheet_back ≡ opened (hall_of 1 1 1) records_back
unfolding reading decode_header decode_record decode_number opening_number lent_table
back-opens = refl

-- Three refusals before the hall is opened, with their offsets: a truncated header, an opening that is refused, and a sheet that is too long.
pub unopened-sheets :
    (reading hall_edition (0x01 ∷ 0x80 ∷ []) ≡ unopened (refusal_of 0 15 1))
    × (reading hall_edition (0x11 ∷ 0x01 ∷ 0x01 ∷ []) ≡ unopened (refusal_of 0 1 0))
    × (reading hall_edition (replicate 65537 0) ≡ unopened (refusal_of 0 18 0))
unfolding reading decode_header decode_number opening_number lent_table
unopened-sheets = (refl, refl, refl)

-- A hall that opens, and the offset after its padded header; one with too many desks, and one with too many positions; a header that the
-- sheet cuts short; a sheet that is too long.
pub sheets-opened :
    map (λ (sheet : List ℕ). open_sheet archive_edition sheet)
    ((0x81 ∷ 0x00 ∷ 2 ∷ 3 ∷ 5 ∷ []) ∷ (17 ∷ 1 ∷ 1 ∷ []) ∷ (1 ∷ 1 ∷ 65 ∷ []) ∷ (1 ∷ 0x80 ∷ []) ∷ replicate 65537 0 ∷ [])
    ≡ parsed (hall_of 1 2 3) 4 ∷ refusal 0 1 0 ∷ refusal 0 3 0 ∷ refusal 0 15 1 ∷ refusal 0 18 0 ∷ []
unfolding decode_header decode_number opening_number lent_table
sheets-opened = refl

-- ---- A meaning that can be written: its bytes.
abbrev pub small : Meaning
small = record { header = hall_of 1 1 1; records = record_for 3 1 0 1 300 ∷ record_for 5 1 0 0 0 ∷ [] }

pub small_bytes : encode_sheet hall_edition small ≡ 0x01 ∷ 0x01 ∷ 0x01 ∷ 0x03 ∷ 0x01 ∷ 0x01 ∷ 0xAC ∷ 0x02 ∷ 0x05 ∷ 0x01 ∷ []
unfolding encode_sheet encode_header encode_record encode_number
small_bytes = refl

-- ---- "Only a session is read against 999; other numbers keep 65,535": in the training room position 1,000 and session 999 are read, and session
-- 1,000 is refused with its offset.
pub sessions-to-999 :
    map (λ (sheet : List ℕ). training_edition.decode_record no_desk sheet 0)
    ((0x03 ∷ 0x01 ∷ 0xE8 ∷ 0x07 ∷ 0xE7 ∷ 0x07 ∷ []) ∷ (0x03 ∷ 0x01 ∷ 0xE8 ∷ 0x07 ∷ 0xE8 ∷ 0x07 ∷ []) ∷ [])
    ≡ parsed (record_for 3 1 0 1000 999) 6 ∷ refusal 3 16 4 ∷ []
unfolding decode_record decode_number
sessions-to-999 = refl

-- ---- What a record leaves for the next. An edition that uses it: a record is one byte. Reading takes the byte as the code, and as the desk one more
-- than the desk before, 1 at first; writing puts that desk.
abbrev pub desk_due : Carried → ℕ
desk_due no_desk = 1
desk_due (last_desk desk) = desk + 1

abbrev pub counts_desks : Edition
counts_desks = record {
  limits = hall_limits;
  decode_header = λ sheet at. parsed (hall_of 1 1 1) at;
  encode_header = λ hall. [];
  decode_record = λ carried sheet at. parsed (record_for (get_or sheet at 0) (desk_due carried) 0 0 0) (at + 1);
  encode_record = λ carried entry. desk_due carried ∷ [];
}

pub desks_read : reading counts_desks (4 ∷ 5 ∷ 4 ∷ []) ≡ opened (hall_of 1 1 1) (whole (record_for 4 1 0 0 0 ∷ record_for 5 2 0 0 0 ∷ record_for 4 3 0 0 0 ∷ []))
unfolding reading opening_number lent_table
desks_read = refl

pub desks-written :
    encode_sheet counts_desks (record { header = hall_of 1 1 1; records = record_for 4 6 0 0 0 ∷ record_for 4 8 0 0 0 ∷ record_for 4 2 0 0 0 ∷ [] }) ≡ 1 ∷ 7 ∷ 9 ∷ []
unfolding encode_sheet
desks-written = refl
