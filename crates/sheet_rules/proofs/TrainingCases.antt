-- Computed sheets of the training room, and the theorems about sheets applied to them. Document 02, "A training room".
use Rattle.std.specs.Prelude.{ℕ, ◌≡◌, refl, List, [], ◌∷◌, map}
use Rattle.rules.specs.Hall.{hall_limits, hall_of, training_limits}
use Rattle.rules.specs.History.{number_at}
use Rattle.rules.specs.Numbers.{barred, decode_number, parsed, refusal, refusal_of}
use Rattle.sheet_rules.specs.Edition1.{decode_header, decode_record, hall_edition, training_edition, training_format}
use Rattle.sheet_rules.specs.Lines.{printed}
use Rattle.sheet_rules.specs.Offsets.{Located}
use Rattle.sheet_rules.specs.Sheet.{Records, lent_table, more, opened, opening_number, reading, record_for, stop}
use Rattle.sheet_rules.proofs.SheetCases.{Case, ◌gives◌, prints, sheet_d, text}
use Rattle.sheet_rules.proofs.SheetTheorems.{events_of, offsets_are_located, sheet_steps_never_22, training_edition_lawful, training_edition_of_numbers}

-- ---- Sheets, and the lines that they print.
abbrev sheets : List Case
sheets =
    -- The largest room; case D, which fits.
    (0x04 ∷ 0x01 ∷ 0x40 ∷ []) gives ("0 0 0 0" ∷ "end 0 0 0" ∷ [])
    ∷ sheet_d
    gives ("0 0 0 0" ∷ "1 3 0 0" ∷ "2 1 0 300" ∷ "3 3 0 300" ∷ "4 4 0 300" ∷ "5 5 0 0" ∷ "6 2 0 300" ∷ "7 5 0 300" ∷ "8 4 13 0" ∷ "end 7 1 1" ∷ [])
    -- "Any further number that a job gives .. to an opening ends the reading after its line": 22 for 5 desks and for 2 screens, with a record after.
    ∷ (0x05 ∷ 0x01 ∷ 0x01 ∷ 0x05 ∷ 0x01 ∷ []) gives ("0 0 22 0" ∷ "end 0 0 0" ∷ [])
    ∷ (0x04 ∷ 0x02 ∷ 0x01 ∷ []) gives ("0 0 22 0" ∷ "end 0 0 0" ∷ [])
    -- 1, 2 and 3 come before 22, and 15 of a header number before all of them.
    ∷ (0x11 ∷ 0x02 ∷ 0x01 ∷ []) gives ("0 0 1 0" ∷ "end 0 0 0" ∷ [])
    ∷ (0x05 ∷ 0x05 ∷ 0x01 ∷ []) gives ("0 0 2 0" ∷ "end 0 0 0" ∷ [])
    ∷ (0x05 ∷ 0x01 ∷ 0x41 ∷ []) gives ("0 0 3 0" ∷ "end 0 0 0" ∷ [])
    ∷ (0x05 ∷ 0x02 ∷ []) gives ("0 0 15 2" ∷ "end 0 0 0" ∷ [])
    -- Sessions: 999 is put; 1,000 is 16, with its offset.
    ∷ (0x01 ∷ 0x01 ∷ 0x01 ∷ 0x03 ∷ 0x01 ∷ 0x01 ∷ 0xE7 ∷ 0x07 ∷ []) gives ("0 0 0 0" ∷ "1 3 0 0" ∷ "end 1 0 0" ∷ [])
    ∷ (0x01 ∷ 0x01 ∷ 0x01 ∷ 0x03 ∷ 0x01 ∷ 0x01 ∷ 0xE8 ∷ 0x07 ∷ []) gives ("0 0 0 0" ∷ "1 3 16 6" ∷ "end 0 0 0" ∷ [])
    -- Padded: 999 is 19, and 1,000 is 16, which is asked first.
    ∷ (0x01 ∷ 0x01 ∷ 0x01 ∷ 0x03 ∷ 0x01 ∷ 0x01 ∷ 0xE7 ∷ 0x87 ∷ 0x00 ∷ []) gives ("0 0 0 0" ∷ "1 3 19 6" ∷ "end 0 0 0" ∷ [])
    ∷ (0x01 ∷ 0x01 ∷ 0x01 ∷ 0x03 ∷ 0x01 ∷ 0x01 ∷ 0xE8 ∷ 0x87 ∷ 0x00 ∷ []) gives ("0 0 0 0" ∷ "1 3 16 6" ∷ "end 0 0 0" ∷ [])
    -- "other numbers keep 65,535": position 65,535 is read, and refused by the board, as desk 1,000 is.
    ∷ (0x01 ∷ 0x01 ∷ 0x01 ∷ 0x03 ∷ 0x01 ∷ 0xFF ∷ 0xFF ∷ 0x03 ∷ 0x05 ∷ 0x05 ∷ 0xE8 ∷ 0x07 ∷ []) gives ("0 0 0 0" ∷ "1 3 8 0" ∷ "2 5 6 0" ∷ "end 0 2 0" ∷ [])
    ∷ []

pub sheets-printed : map (λ (case : Case). printed training_edition case.sheet) sheets ≡ map (λ (case : Case). text case.lines) sheets
unfolding prints
sheets-printed = refl

-- In the hall 5 desks with 2 screens each are opened, and session 1,000 is put.
pub the-same-in-the-hall :
    printed hall_edition (0x05 ∷ 0x02 ∷ 0x01 ∷ 0x03 ∷ 0x01 ∷ 0x01 ∷ 0xE8 ∷ 0x07 ∷ []) ≡ text ("0 0 0 0" ∷ "1 3 0 0" ∷ "end 1 0 0" ∷ [])
unfolding prints
the-same-in-the-hall = refl

-- The board's numbers for an opening: 5 desks, and 2 screens, in each room.
pub opening-numbers :
    map (opening_number training_limits) (hall_of 4 1 64 ∷ hall_of 5 1 64 ∷ hall_of 4 2 64 ∷ hall_of 5 5 64 ∷ []) ≡ 0 ∷ 22 ∷ 22 ∷ 2 ∷ []
unfolding opening_number lent_table
opening-numbers = refl

pub opening-numbers-of-the-hall :
    map (opening_number hall_limits) (hall_of 4 1 64 ∷ hall_of 5 1 64 ∷ hall_of 4 2 64 ∷ hall_of 5 5 64 ∷ []) ≡ 0 ∷ 0 ∷ 0 ∷ 2 ∷ []
unfolding opening_number lent_table
opening-numbers-of-the-hall = refl

-- ---- A sheet whose first swap puts 999, and whose second would put 1,000.
abbrev two_swaps : List ℕ
two_swaps = 0x01 ∷ 0x01 ∷ 0x01 ∷ 0x03 ∷ 0x01 ∷ 0x01 ∷ 0xE7 ∷ 0x07 ∷ 0x03 ∷ 0x01 ∷ 0x01 ∷ 0xE8 ∷ 0x07 ∷ []

abbrev two_records : Records
two_records = more (record_for 3 1 0 1 999) (stop (refusal_of 3 16 11))

pub two_opens : reading training_edition two_swaps ≡ opened (hall_of 1 1 1) two_records
unfolding reading decode_header decode_record decode_number opening_number lent_table
two_opens = refl

-- Its one step is not answered 22.
pub first_not_22 : number_at (events_of training_limits (hall_of 1 1 1) two_records) 0 ≡ 22 → ⊥
first_not_22 = sheet_steps_never_22 training_edition two_swaps (hall_of 1 1 1) two_records two_opens training_edition_lawful 0

-- The number at offset 11 is refused with 16, by the limit of 999: by that of other numbers it is read.
pub two_located : Located training_format two_swaps 0 (refusal_of 3 16 11)
unfolding reading decode_header decode_record decode_number opening_number lent_table
two_located = offsets_are_located training_edition_of_numbers two_swaps (refusal_of 3 16 11) refl

pub limit_of_999 : (decode_number barred 999 two_swaps 11 ≡ refusal 0 16 11) × (decode_number barred 65535 two_swaps 11 ≡ parsed 1000 13)
unfolding decode_number
limit_of_999 = (refl, refl)
