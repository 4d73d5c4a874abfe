-- Computed cases of shortening: sheets of the archive and what is written for them. Document 02, "Padded numbers go".
use Rattle.std.specs.Prelude.{ℕ, ◌≡◌, refl, List, [], ◌∷◌, map, replicate}
use Rattle.std.proofs.Math.Option.{none, some}
use Rattle.rules.specs.Hall.{hall_of}
use Rattle.rules.specs.Numbers.{decode_number, refusal_of}
use Rattle.sheet_rules.specs.Edition1.{archive_edition, decode_header, decode_record, encode_header, encode_number, encode_record, hall_edition}
use Rattle.sheet_rules.specs.Lines.{decimal}
use Rattle.sheet_rules.proofs.ReadingCases.{counts_desks}
use Rattle.sheet_rules.specs.Rewriting.{entries_in, meaning_of, refused_sheet_line, rewrite, shorten, write_unless}
use Rattle.sheet_rules.specs.Sheet.{complete, encode_sheet, lent_table, more, opening_number, reading, record_for, stop}
use Rattle.sheet_rules.proofs.SheetCases.{text}

-- A sheet, and what is written for it.
pub record Case : Type 0 where
  pub sheet : List ℕ
  pub output : List ℕ

infixr 68 ◌becomes◌
abbrev pub ◌becomes◌ : List ℕ → List ℕ → Case
sheet becomes output = record { sheet = sheet; output = output }

abbrev pub sheets : List Case
sheets =
    -- A sheet in shortest form stays as it is.
    (0x01 ∷ 0x01 ∷ 0x01 ∷ 0x05 ∷ 0x01 ∷ []) becomes (0x01 ∷ 0x01 ∷ 0x01 ∷ 0x05 ∷ 0x01 ∷ [])
    -- Every number is padded; 0 becomes one byte, and 300 keeps its two groups.
    ∷ (0x81 ∷ 0x00 ∷ 0x81 ∷ 0x80 ∷ 0x00 ∷ 0x81 ∷ 0x00 ∷ 0x83 ∷ 0x00 ∷ 0x80 ∷ 0x00 ∷ 0x81 ∷ 0x00 ∷ 0xAC ∷ 0x82 ∷ 0x00 ∷ [])
    becomes (0x01 ∷ 0x01 ∷ 0x01 ∷ 0x03 ∷ 0x00 ∷ 0x01 ∷ 0xAC ∷ 0x02 ∷ [])
    -- A header alone.
    ∷ (0x81 ∷ 0x00 ∷ 0x02 ∷ 0x83 ∷ 0x00 ∷ []) becomes (0x01 ∷ 0x02 ∷ 0x03 ∷ [])
    -- The records keep their order, and their desks may be outside the hall.
    ∷ (0x01 ∷ 0x01 ∷ 0x01 ∷ 0x04 ∷ 0x87 ∷ 0x00 ∷ 0x05 ∷ 0x01 ∷ []) becomes (0x01 ∷ 0x01 ∷ 0x01 ∷ 0x04 ∷ 0x07 ∷ 0x05 ∷ 0x01 ∷ [])
    -- "refusing what the old reader refused": 15 and 16 with the offset in the old sheet, after a record that was read;
    ∷ (0x81 ∷ 0x00 ∷ 0x01 ∷ 0x01 ∷ 0x05 ∷ []) becomes text ("15 5" ∷ [])
    ∷ (0x01 ∷ 0x01 ∷ 0x01 ∷ 0x05 ∷ 0x81 ∷ 0x00 ∷ 0x05 ∷ 0x80 ∷ 0x80 ∷ 0x04 ∷ []) becomes text ("16 7" ∷ [])
    -- 15 in the header; the empty sheet;
    ∷ (0x01 ∷ 0x80 ∷ []) becomes text ("15 1" ∷ [])
    ∷ [] becomes text ("15 0" ∷ [])
    -- 1, 2 and 3; 17, for a padded code too; 18.
    ∷ (0x91 ∷ 0x00 ∷ 0x01 ∷ 0x01 ∷ []) becomes text ("1 0" ∷ [])
    ∷ (0x01 ∷ 0x05 ∷ 0x01 ∷ []) becomes text ("2 0" ∷ [])
    ∷ (0x01 ∷ 0x01 ∷ 0x41 ∷ []) becomes text ("3 0" ∷ [])
    ∷ (0x01 ∷ 0x01 ∷ 0x01 ∷ 0x05 ∷ 0x01 ∷ 0x86 ∷ 0x00 ∷ []) becomes text ("17 0" ∷ [])
    ∷ replicate 65537 0 becomes text ("18 0" ∷ [])
    ∷ []

pub sheets_shortened : map (λ (case : Case). shorten case.sheet) sheets ≡ map (λ (case : Case). case.output) sheets
unfolding rewrite refused_sheet_line reading decode_header decode_record decode_number opening_number lent_table encode_sheet encode_header encode_record encode_number decimal
sheets_shortened = refl

-- "the number, a space, its offset or 0"
pub refused_line : refused_sheet_line 16 65536 ≡ text ("16 65536" ∷ [])
unfolding refused_sheet_line decimal
refused_line = refl

-- The records before what ended the reading; and a meaning is written only if nothing did.
pub entries_read : entries_in (more (record_for 4 1 0 0 0) (more (record_for 5 2 0 0 0) (stop (refusal_of 0 15 9)))) ≡ record_for 4 1 0 0 0 ∷ record_for 5 2 0 0 0 ∷ []
entries_read = refl

pub written-or-refused :
    (write_unless hall_edition none (meaning_of (hall_of 2 3 4) (more (record_for 4 1 0 0 0) complete)) ≡ 0x02 ∷ 0x03 ∷ 0x04 ∷ 0x04 ∷ 0x01 ∷ [])
    × (write_unless hall_edition (some (refusal_of 0 17 0)) (meaning_of (hall_of 2 3 4) complete) ≡ text ("17 0" ∷ []))
unfolding encode_sheet encode_header encode_record encode_number refused_sheet_line decimal
written-or-refused = (refl, refl)

-- A sheet is read in the first edition and written in the second: here each record of the second is the desk after the one before.
pub two_editions : rewrite archive_edition counts_desks (0x01 ∷ 0x01 ∷ 0x01 ∷ 0x04 ∷ 0x87 ∷ 0x00 ∷ 0x05 ∷ 0x01 ∷ []) ≡ 1 ∷ 8 ∷ []
unfolding rewrite reading decode_header decode_record decode_number opening_number lent_table encode_sheet
two_editions = refl
