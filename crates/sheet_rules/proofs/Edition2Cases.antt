-- Computed cases of edition 2: its headers and records, the lines of its sheets, and both converters. Document 02, "Edition 2 of the day sheet, and
-- a converter".
use Rattle.std.specs.Prelude.{ℕ, ◌≡◌, refl, true, false, List, [], ◌∷◌, map, length, replicate}
use Rattle.rules.specs.Hall.{hall_limits, hall_of}
use Rattle.rules.specs.Lists.{to_nat}
use Rattle.rules.specs.Numbers.{Parsed, barred, decode_number, parsed, refusal, refusal_of}
use Rattle.sheet_rules.specs.Edition1.{decode_header, encode_header, encode_number, encode_record, hall_edition, hall_format, training_format}
use Rattle.sheet_rules.specs.Edition2.{check_desk, decode_header2, decode_record2, desk_before, edition2, edition_for, encode_header2, encode_record2, expect_number, hall_edition2}
use Rattle.sheet_rules.specs.Edition2.{is_shorthand, repeats, shorthand_for, stands_for, version1, version2}
use Rattle.sheet_rules.specs.Lines.{decimal, printed}
use Rattle.sheet_rules.specs.Rewriting.{refused_sheet_line, rewrite, to_edition1, to_edition2, unless_too_long}
use Rattle.sheet_rules.proofs.RewritingCases.{Case as Rewriting, ◌becomes◌}
use Rattle.sheet_rules.specs.Sheet.{Carried, Edition, Record, encode_sheet, last_desk, more, no_desk, opened, reading, record_for, stop}
use Rattle.sheet_rules.proofs.SheetCases.{Case, ◌gives◌, prints, sheet_d, text}

-- ---- The header. "Edition 2 starts with 0, then 2, then P, c, L"
pub header_both_ways :
    (hall_edition2.encode_header (hall_of 3 4 5) ≡ 0x00 ∷ 0x02 ∷ 0x03 ∷ 0x04 ∷ 0x05 ∷ [])
    × (hall_edition2.decode_header (0x09 ∷ 0x00 ∷ 0x02 ∷ 0x03 ∷ 0x04 ∷ 0x05 ∷ []) 1 ≡ parsed (hall_of 3 4 5) 6)
unfolding encode_header2 encode_header encode_number decode_header2 decode_header decode_number
header_both_ways = (refl, refl)

-- "21 for a first number other than 0": the second number is not read, so a sheet that ends after the first is 21;
-- "or an edition other than 2": 1, 3 and 0, and the rest is not read.
-- 15, 16 and 19 of either number come before 21. P, c and L are read after it: here c is missing.
pub headers-refused :
    map (λ (sheet : List ℕ). hall_edition2.decode_header sheet 0)
    ((0x01 ∷ [])
    ∷ (0x00 ∷ 0x01 ∷ [])
    ∷ (0x00 ∷ 0x03 ∷ [])
    ∷ (0x00 ∷ 0x00 ∷ [])
    ∷ []
    ∷ (0x80 ∷ 0x80 ∷ 0x80 ∷ [])
    ∷ (0x80 ∷ 0x00 ∷ [])
    ∷ (0x00 ∷ [])
    ∷ (0x00 ∷ 0xff ∷ 0xff ∷ 0x7f ∷ [])
    ∷ (0x00 ∷ 0x82 ∷ 0x00 ∷ [])
    ∷ (0x00 ∷ 0x02 ∷ 0x01 ∷ [])
    ∷ (0xff ∷ 0xff ∷ 0x03 ∷ [])
    ∷ (0x80 ∷ 0x80 ∷ 0x04 ∷ [])
    ∷ (0x00 ∷ 0xff ∷ 0xff ∷ 0x03 ∷ [])
    ∷ (0x00 ∷ 0x80 ∷ 0x80 ∷ 0x04 ∷ [])
    ∷ [])
    ≡ refusal 0 21 0
    ∷ refusal 0 21 0
    ∷ refusal 0 21 0
    ∷ refusal 0 21 0
    ∷ refusal 0 15 0
    ∷ refusal 0 16 0
    ∷ refusal 0 19 0
    ∷ refusal 0 15 1
    ∷ refusal 0 16 1
    ∷ refusal 0 19 1
    ∷ refusal 0 15 3
    ∷ refusal 0 21 0
    ∷ refusal 0 16 0
    ∷ refusal 0 21 0
    ∷ refusal 0 16 1
    ∷ []
unfolding decode_header2 decode_header decode_number
headers-refused = refl

-- A number that is expected is read, and the offset after it is returned with it.
pub numbers_expected : map (λ (value : ℕ). expect_number (decode_number barred) value (0x09 ∷ 0x07 ∷ []) 1) (7 ∷ 8 ∷ []) ≡ parsed 7 2 ∷ refusal 0 21 0 ∷ []
unfolding decode_number
numbers_expected = refl

-- ---- Shorthand codes. "codes 9 to 13 stand for 1 to 5"
pub shorthand_codes : map (λ (code : ℕ). to_nat (is_shorthand code)) (0 ∷ 5 ∷ 8 ∷ 9 ∷ 10 ∷ 11 ∷ 12 ∷ 13 ∷ 14 ∷ []) ≡ 0 ∷ 0 ∷ 0 ∷ 1 ∷ 1 ∷ 1 ∷ 1 ∷ 1 ∷ 0 ∷ []
shorthand_codes = refl

pub both_codes : (map stands_for (9 ∷ 10 ∷ 11 ∷ 12 ∷ 13 ∷ []) ≡ 1 ∷ 2 ∷ 3 ∷ 4 ∷ 5 ∷ []) × (map shorthand_for (1 ∷ 2 ∷ 3 ∷ 4 ∷ 5 ∷ []) ≡ 9 ∷ 10 ∷ 11 ∷ 12 ∷ 13 ∷ [])
both_codes = (refl, refl)

-- Whether desk 2 repeats: before the first record no desk does, not even 0.
pub desks-repeat :
    (map (λ (carried : Carried). to_nat (repeats carried 2)) (no_desk ∷ last_desk 2 ∷ last_desk 3 ∷ []) ≡ 0 ∷ 1 ∷ 0 ∷ [])
    × (to_nat (repeats no_desk 0) ≡ 0)
    × (map desk_before (no_desk ∷ last_desk 2 ∷ []) ≡ 0 ∷ 2 ∷ [])
desks-repeat = (refl, refl, refl)

-- ---- Records: one of each code, all at desk 2, with fields that all differ.
abbrev at_desk2 : List Record
at_desk2 = record_for 1 2 3 4 0 ∷ record_for 2 2 3 0 0 ∷ record_for 3 2 0 4 500 ∷ record_for 4 2 0 0 0 ∷ record_for 5 2 0 0 0 ∷ []

abbrev shorthand_bytes : List (List ℕ)
shorthand_bytes = (0x09 ∷ 0x03 ∷ 0x04 ∷ []) ∷ (0x0A ∷ 0x03 ∷ []) ∷ (0x0B ∷ 0x04 ∷ 0xF4 ∷ 0x03 ∷ []) ∷ (0x0C ∷ []) ∷ (0x0D ∷ []) ∷ []

abbrev written_out_bytes : List (List ℕ)
written_out_bytes =
    (0x01 ∷ 0x02 ∷ 0x03 ∷ 0x04 ∷ []) ∷ (0x02 ∷ 0x02 ∷ 0x03 ∷ []) ∷ (0x03 ∷ 0x02 ∷ 0x04 ∷ 0xF4 ∷ 0x03 ∷ []) ∷ (0x04 ∷ 0x02 ∷ []) ∷ (0x05 ∷ 0x02 ∷ []) ∷ []

-- After a record of desk 2 they are written with shorthand codes; as the first record, and after a record of desk 3, with their desk.
pub records_written :
    (map (hall_edition2.encode_record (last_desk 2)) at_desk2 ≡ shorthand_bytes)
    × (map (hall_edition2.encode_record no_desk) at_desk2 ≡ written_out_bytes)
    × (map (hall_edition2.encode_record (last_desk 3)) at_desk2 ≡ written_out_bytes)
unfolding encode_record2 encode_record encode_number
records_written = (refl, refl, refl)

-- They are read back, here at offset 1.
abbrev read_after : Carried → List ℕ → Parsed Record
read_after carried bytes = hall_edition2.decode_record carried (0x07 ∷ bytes) 1

pub records-read :
    (map (read_after (last_desk 2)) shorthand_bytes
    ≡ parsed (record_for 1 2 3 4 0) 4 ∷ parsed (record_for 2 2 3 0 0) 3 ∷ parsed (record_for 3 2 0 4 500) 5 ∷ parsed (record_for 4 2 0 0 0) 2 ∷ parsed (record_for 5 2 0 0 0) 2 ∷ [])
    × (map (read_after (last_desk 3)) written_out_bytes
    ≡ parsed (record_for 1 2 3 4 0) 5 ∷ parsed (record_for 2 2 3 0 0) 4 ∷ parsed (record_for 3 2 0 4 500) 6 ∷ parsed (record_for 4 2 0 0 0) 3 ∷ parsed (record_for 5 2 0 0 0) 3 ∷ [])
    × (read_after no_desk (0x05 ∷ 0x00 ∷ []) ≡ parsed (record_for 5 0 0 0 0) 3)
unfolding decode_record2 decode_number
records-read = (refl, refl, refl)

-- "20 for a shorthand code in the first record or a desk written out though unchanged": the line shows the code that it stands for.
pub wrong-desks :
    (map (read_after no_desk) shorthand_bytes ≡ refusal 1 20 0 ∷ refusal 2 20 0 ∷ refusal 3 20 0 ∷ refusal 4 20 0 ∷ refusal 5 20 0 ∷ [])
    × (map (read_after (last_desk 2)) written_out_bytes ≡ refusal 1 20 0 ∷ refusal 2 20 0 ∷ refusal 3 20 0 ∷ refusal 4 20 0 ∷ refusal 5 20 0 ∷ [])
unfolding decode_record2 decode_number
wrong-desks = (refl, refl)

-- "20 after the record's fields": 15, 16 and 19 of a field come first, and show the code that a shorthand code stands for.
pub fields-before-20 :
    map (read_after no_desk) ((0x09 ∷ []) ∷ (0x09 ∷ 0x80 ∷ 0x80 ∷ 0x04 ∷ []) ∷ (0x09 ∷ 0x01 ∷ 0x81 ∷ 0x00 ∷ []) ∷ [])
    ≡ refusal 1 15 2 ∷ refusal 1 16 2 ∷ refusal 1 19 3 ∷ []
unfolding decode_record2 decode_number
fields-before-20 = refl

pub unchanged_before_20 : map (read_after (last_desk 2)) ((0x01 ∷ 0x02 ∷ []) ∷ (0x03 ∷ 0x02 ∷ 0x04 ∷ []) ∷ []) ≡ refusal 1 15 3 ∷ refusal 3 15 4 ∷ []
unfolding decode_record2 decode_number
unchanged_before_20 = refl

-- "17 for codes outside both ranges": 0, 6, 8, 14 and 65,535, as they were read, before the fields; 15, 16 and 19 of a code show code 0.
pub other_codes :
    map (read_after (last_desk 2))
    ((0x00 ∷ []) ∷ (0x06 ∷ []) ∷ (0x08 ∷ []) ∷ (0x0E ∷ []) ∷ (0xFF ∷ 0xFF ∷ 0x03 ∷ []) ∷ [] ∷ (0x80 ∷ 0x80 ∷ 0x04 ∷ []) ∷ (0x8D ∷ 0x00 ∷ []) ∷ [])
    ≡ refusal 0 17 0 ∷ refusal 6 17 0 ∷ refusal 8 17 0 ∷ refusal 14 17 0 ∷ refusal 65535 17 0 ∷ refusal 0 15 1 ∷ refusal 0 16 1 ∷ refusal 0 19 1 ∷ []
unfolding decode_record2 decode_number
other_codes = refl

-- A desk is checked after the fields, and nothing of the record changes.
pub desks-checked :
    map (λ (carried : Carried). check_desk true carried (record_for 4 2 0 0 0) 9) (no_desk ∷ last_desk 2 ∷ last_desk 3 ∷ [])
    ≡ refusal 0 20 0 ∷ parsed (record_for 4 2 0 0 0) 9 ∷ refusal 0 20 0 ∷ []
desks-checked = refl

pub written-out-checked :
    map (λ (carried : Carried). check_desk false carried (record_for 4 2 0 0 0) 9) (no_desk ∷ last_desk 2 ∷ last_desk 3 ∷ [])
    ≡ parsed (record_for 4 2 0 0 0) 9 ∷ refusal 0 20 0 ∷ parsed (record_for 4 2 0 0 0) 9 ∷ []
written-out-checked = refl

-- The format's limit of sessions holds in edition 2 too: 999 is read, and 1,000 is refused.
pub sessions-to-999 :
    map (λ (bytes : List ℕ). (edition2 training_format).decode_record (last_desk 1) bytes 0) ((0x0B ∷ 0x01 ∷ 0xE7 ∷ 0x07 ∷ []) ∷ (0x0B ∷ 0x01 ∷ 0xE8 ∷ 0x07 ∷ []) ∷ [])
    ≡ parsed (record_for 3 1 0 1 999) 4 ∷ refusal 3 16 2 ∷ []
unfolding decode_record2 decode_number
sessions-to-999 = refl

-- The edition of each version.
pub versions : (edition_for version1 hall_format ≡ hall_edition) × (edition_for version2 hall_format ≡ hall_edition2)
versions = (refl, refl)

-- ---- Sheets.

-- Case D in edition 2, and its lines.
abbrev pub sheet_d2 : List ℕ
sheet_d2 =
    0x00 ∷ 0x02 ∷ 0x01 ∷ 0x01 ∷ 0x01 ∷ 0x03 ∷ 0x01 ∷ 0x01 ∷ 0xac ∷ 0x02 ∷ 0x09 ∷ 0x01 ∷ 0x01 ∷ 0x0b ∷ 0x01 ∷ 0x07 ∷ 0x0c ∷ 0x0d
    ∷ 0x0a ∷ 0x01 ∷ 0x0d ∷ 0x0c ∷ []

abbrev pub sheets : List Case
sheets =
    sheet_d2
    gives ("0 0 0 0" ∷ "1 3 0 0" ∷ "2 1 0 300" ∷ "3 3 0 300" ∷ "4 4 0 300" ∷ "5 5 0 0" ∷ "6 2 0 300" ∷ "7 5 0 300" ∷ "8 4 13 0" ∷ "end 7 1 1" ∷ [])
    -- A header alone; 21; 15 of the edition; P = 17 gives 1, after all header numbers are read.
    ∷ (0x00 ∷ 0x02 ∷ 0x01 ∷ 0x01 ∷ 0x01 ∷ []) gives ("0 0 0 0" ∷ "end 0 0 0" ∷ [])
    ∷ (0x01 ∷ 0x01 ∷ 0x01 ∷ 0x05 ∷ 0x01 ∷ []) gives ("0 0 21 0" ∷ "end 0 0 0" ∷ [])
    ∷ (0x00 ∷ 0x03 ∷ 0x01 ∷ 0x01 ∷ 0x01 ∷ []) gives ("0 0 21 0" ∷ "end 0 0 0" ∷ [])
    ∷ (0x00 ∷ []) gives ("0 0 15 1" ∷ "end 0 0 0" ∷ [])
    ∷ (0x00 ∷ 0x02 ∷ 0x11 ∷ 0x01 ∷ 0x01 ∷ 0x0D ∷ []) gives ("0 0 1 0" ∷ "end 0 0 0" ∷ [])
    -- "Desks outside the hall are carried; the board refuses them": desk 7, in a hall of one desk, is the desk before, though it was refused.
    ∷ (0x00 ∷ 0x02 ∷ 0x01 ∷ 0x01 ∷ 0x01 ∷ 0x05 ∷ 0x01 ∷ 0x05 ∷ 0x07 ∷ 0x0D ∷ 0x05 ∷ 0x01 ∷ [])
    gives ("0 0 0 0" ∷ "1 5 0 0" ∷ "2 5 6 0" ∷ "3 5 6 0" ∷ "4 5 0 0" ∷ "end 2 2 0" ∷ [])
    -- A record of the same desk that the board refused (13): the desk is the one before.
    ∷ (0x00 ∷ 0x02 ∷ 0x02 ∷ 0x01 ∷ 0x01 ∷ 0x05 ∷ 0x02 ∷ 0x04 ∷ 0x01 ∷ 0x0D ∷ [])
    gives ("0 0 0 0" ∷ "1 5 0 0" ∷ "2 4 13 0" ∷ "3 5 0 0" ∷ "end 2 1 0" ∷ [])
    -- 20 in the first record, and in the second after the first was run; 15 in a shorthand record; 17 for code 8.
    ∷ (0x00 ∷ 0x02 ∷ 0x01 ∷ 0x01 ∷ 0x01 ∷ 0x0D ∷ []) gives ("0 0 0 0" ∷ "1 5 20 0" ∷ "end 0 0 0" ∷ [])
    ∷ (0x00 ∷ 0x02 ∷ 0x01 ∷ 0x01 ∷ 0x01 ∷ 0x05 ∷ 0x01 ∷ 0x04 ∷ 0x01 ∷ 0x0D ∷ []) gives ("0 0 0 0" ∷ "1 5 0 0" ∷ "2 4 20 0" ∷ "end 1 0 0" ∷ [])
    ∷ (0x00 ∷ 0x02 ∷ 0x01 ∷ 0x01 ∷ 0x01 ∷ 0x05 ∷ 0x01 ∷ 0x0B ∷ 0x01 ∷ []) gives ("0 0 0 0" ∷ "1 5 0 0" ∷ "2 3 15 9" ∷ "end 1 0 0" ∷ [])
    ∷ (0x00 ∷ 0x02 ∷ 0x01 ∷ 0x01 ∷ 0x01 ∷ 0x08 ∷ []) gives ("0 0 0 0" ∷ "1 8 17 0" ∷ "end 0 0 0" ∷ [])
    -- 65,536 bytes are read (and P is 0), and 65,537 are not.
    ∷ (0x00 ∷ 0x02 ∷ replicate 65534 0) gives ("0 0 1 0" ∷ "end 0 0 0" ∷ [])
    ∷ (0x00 ∷ 0x02 ∷ replicate 65535 0) gives ("0 0 18 0" ∷ "end 0 0 0" ∷ [])
    ∷ []

pub sheets-printed : map (λ (case : Case). printed hall_edition2 case.sheet) sheets ≡ map (λ (case : Case). text case.lines) sheets
unfolding prints decode_header2 decode_record2
sheets-printed = refl

-- "An edition 1 reader that gets through the first three numbers meets that 0 as P and says 1, never a wrong line."
-- Codes 9 to 13 are 17 in edition 1.
abbrev pub in_edition1 : List Case
in_edition1 =
    sheet_d2 gives ("0 0 1 0" ∷ "end 0 0 0" ∷ [])
    ∷ (0x00 ∷ 0x02 ∷ 0x81 ∷ 0x00 ∷ []) gives ("0 0 19 2" ∷ "end 0 0 0" ∷ [])
    ∷ (0x00 ∷ 0x02 ∷ []) gives ("0 0 15 2" ∷ "end 0 0 0" ∷ [])
    ∷ (0x00 ∷ 0x80 ∷ 0x80 ∷ 0x04 ∷ []) gives ("0 0 16 1" ∷ "end 0 0 0" ∷ [])
    ∷ (0x01 ∷ 0x01 ∷ 0x01 ∷ 0x05 ∷ 0x01 ∷ 0x0D ∷ []) gives ("0 0 0 0" ∷ "1 5 0 0" ∷ "2 13 17 0" ∷ "end 1 0 0" ∷ [])
    ∷ []

pub printed_in_edition_1 : map (λ (case : Case). printed hall_edition case.sheet) in_edition1 ≡ map (λ (case : Case). text case.lines) in_edition1
unfolding prints
printed_in_edition_1 = refl

-- ---- Converting. "Write [..] a converter each way; each keeps the meaning"
abbrev into_edition2 : List Rewriting
into_edition2 =
    sheet_d becomes sheet_d2
    ∷ (0x01 ∷ 0x01 ∷ 0x01 ∷ []) becomes (0x00 ∷ 0x02 ∷ 0x01 ∷ 0x01 ∷ 0x01 ∷ [])
    -- Desks outside the hall, of two bytes, and 0.
    ∷ (0x01 ∷ 0x01 ∷ 0x01 ∷ 0x04 ∷ 0xAC ∷ 0x02 ∷ 0x05 ∷ 0xAC ∷ 0x02 ∷ 0x05 ∷ 0x00 ∷ 0x05 ∷ 0x00 ∷ [])
    becomes (0x00 ∷ 0x02 ∷ 0x01 ∷ 0x01 ∷ 0x01 ∷ 0x04 ∷ 0xAC ∷ 0x02 ∷ 0x0D ∷ 0x05 ∷ 0x00 ∷ 0x0D ∷ [])
    -- "Converting refuses what ends a reading": 15, 16 and 19 with their offset; 1, 2, 3, 17 and 18; an edition 2 sheet.
    ∷ [] becomes text ("15 0" ∷ [])
    ∷ (0x01 ∷ 0x01 ∷ 0x01 ∷ 0x05 ∷ 0x01 ∷ 0x05 ∷ 0x80 ∷ 0x80 ∷ 0x04 ∷ []) becomes text ("16 6" ∷ [])
    ∷ (0x01 ∷ 0x01 ∷ 0x01 ∷ 0x05 ∷ 0x81 ∷ 0x00 ∷ []) becomes text ("19 4" ∷ [])
    ∷ (0x11 ∷ 0x01 ∷ 0x01 ∷ []) becomes text ("1 0" ∷ [])
    ∷ (0x01 ∷ 0x05 ∷ 0x01 ∷ []) becomes text ("2 0" ∷ [])
    ∷ (0x01 ∷ 0x01 ∷ 0x41 ∷ []) becomes text ("3 0" ∷ [])
    ∷ (0x01 ∷ 0x01 ∷ 0x01 ∷ 0x0D ∷ []) becomes text ("17 0" ∷ [])
    ∷ replicate 65537 0 becomes text ("18 0" ∷ [])
    ∷ sheet_d2 becomes text ("1 0" ∷ [])
    ∷ []

pub to_edition_2 : map (λ (case : Rewriting). to_edition2 case.sheet) into_edition2 ≡ map (λ (case : Rewriting). case.output) into_edition2
unfolding prints rewrite refused_sheet_line encode_sheet encode_header2 encode_header encode_record2 encode_record encode_number
to_edition_2 = refl

abbrev into_edition1 : List Rewriting
into_edition1 =
    sheet_d2 becomes sheet_d
    ∷ (0x00 ∷ 0x02 ∷ 0x01 ∷ 0x01 ∷ 0x01 ∷ 0x04 ∷ 0xAC ∷ 0x02 ∷ 0x0D ∷ []) becomes (0x01 ∷ 0x01 ∷ 0x01 ∷ 0x04 ∷ 0xAC ∷ 0x02 ∷ 0x05 ∷ 0xAC ∷ 0x02 ∷ [])
    -- 15, with the offset in the sheet of edition 2; 1 and 17; 20 and 21, with 0.
    ∷ (0x00 ∷ 0x02 ∷ 0x01 ∷ 0x01 ∷ 0x01 ∷ 0x05 ∷ 0x01 ∷ 0x0A ∷ []) becomes text ("15 8" ∷ [])
    ∷ (0x00 ∷ 0x02 ∷ 0x11 ∷ 0x01 ∷ 0x01 ∷ []) becomes text ("1 0" ∷ [])
    ∷ (0x00 ∷ 0x02 ∷ 0x01 ∷ 0x01 ∷ 0x01 ∷ 0x0E ∷ []) becomes text ("17 0" ∷ [])
    ∷ (0x00 ∷ 0x02 ∷ 0x01 ∷ 0x01 ∷ 0x01 ∷ 0x0D ∷ []) becomes text ("20 0" ∷ [])
    ∷ sheet_d becomes text ("21 0" ∷ [])
    ∷ []

pub to_edition_1 : map (λ (case : Rewriting). to_edition1 case.sheet) into_edition1 ≡ map (λ (case : Rewriting). case.output) into_edition1
unfolding prints rewrite refused_sheet_line decode_header2 decode_record2 encode_sheet encode_header encode_record encode_number
to_edition_1 = refl

-- "an output over 65,536 bytes is 18"; exactly 65,536 are written.
pub too_long_is_18 : (length (unless_too_long (replicate 65536 7)) ≡ 65536) × (unless_too_long (replicate 65537 7) ≡ text ("18 0" ∷ []))
unfolding refused_sheet_line decimal
too_long_is_18 = (refl, refl)

-- It is asked of every meaning that is written: here in an edition whose headers have 65,537 bytes.
abbrev long_headers : Edition
long_headers = record {
  limits = hall_limits;
  decode_header = hall_edition.decode_header;
  encode_header = λ hall. replicate 65537 7;
  decode_record = hall_edition.decode_record;
  encode_record = hall_edition.encode_record;
}

pub long_meaning_is_18 : rewrite hall_edition long_headers (0x01 ∷ 0x01 ∷ 0x01 ∷ []) ≡ text ("18 0" ∷ [])
unfolding prints rewrite refused_sheet_line encode_sheet
long_meaning_is_18 = refl

-- A reading of edition 2: the desk of each record, and what ends it.
pub desks-carried :
    reading hall_edition2 (0x00 ∷ 0x02 ∷ 0x01 ∷ 0x01 ∷ 0x01 ∷ 0x04 ∷ 0x03 ∷ 0x0C ∷ 0x04 ∷ 0x02 ∷ 0x0C ∷ 0x04 ∷ 0x02 ∷ [])
    ≡ opened (hall_of 1 1 1)
    (more (record_for 4 3 0 0 0) (more (record_for 4 3 0 0 0) (more (record_for 4 2 0 0 0) (more (record_for 4 2 0 0 0) (stop (refusal_of 4 20 0))))))
unfolding prints decode_header2 decode_record2
desks-carried = refl
