-- The theorems about edition 2 and the converters applied to sheets that meet their premises.
use Rattle.std.specs.Prelude.{ℕ, zero, suc, ◌+◌, ◌*◌, ◌≤◌, ◌<◌, ◌≡◌, refl, List, [], ◌∷◌, length, replicate}
use Rattle.std.proofs.Common.{arith, ◌∙◌}
use Rattle.std.proofs.lemmas.Bool.{lt-leb}
use Rattle.rules.specs.Hall.{hall_limits, hall_of}
use Rattle.rules.specs.Numbers.{barred, decode_number, refusal_of}
use Rattle.rules.specs.Table.{decode_desk, encode_desk, open_table, record_sound, sound, step_table}
use Rattle.sheet_rules.specs.OtherEdition.{HeaderNumberRefused}
use Rattle.sheet_rules.specs.Edition1.{decode_header, encode_header, encode_number, encode_record, hall_edition, hall_format}
use Rattle.sheet_rules.specs.Edition2.{decode_header2, decode_record2, encode_header2, encode_record2, hall_edition2, stands_for, version2}
use Rattle.sheet_rules.proofs.Edition2Cases.{sheet_d2}
use Rattle.sheet_rules.specs.Lines.{printed}
use Rattle.sheet_rules.specs.Offsets.{ShowsByte}
use Rattle.sheet_rules.proofs.ReadingCases.{records_d, small}
use Rattle.sheet_rules.specs.Rewriting.{Rewritten, TooLong, refused_sheet_line, rewrite, to_edition1, to_edition2}
use Rattle.sheet_rules.specs.Sheet.{Accepted, Carried, EachGood, GoodMeaning, Meaning, Record, encode_records, encode_sheet, last_desk, lent_table, no_desk}
use Rattle.sheet_rules.specs.Sheet.{opening_number, record_for}
use Rattle.sheet_rules.proofs.SheetCases.{prints, sheet_d}
use Rattle.sheet_rules.proofs.SheetExamples.{are_bytes_lem, small_can_be}
use Rattle.sheet_rules.proofs.SheetTheorems.{accepted_in_one_edition, demand_2_of_sheets, edition_1_refuses_0, hall_edition_2_exact, hall_edition_2_lawful}
use Rattle.sheet_rules.proofs.SheetTheorems.{hall_edition_2_of_numbers, hall_edition_lawful, lines_are_no_sheets, numbers_are_lawful, offsets_are_located}
use Rattle.sheet_rules.proofs.SheetTheorems.{other_codes_have_another_desk, rewritten_sheets_print_the_same, same_meaning_same_bytes}
use Rattle.sheet_rules.proofs.SheetTheorems.{shorthand_means_the_desk_before, to_edition_1_and_back, to_edition_2_and_back, written_is_read}
use Rattle.sheet_rules.proofs.Laws.Rewriting.{rewrite_accepted, rewritten}

-- ---- Case D in both editions.
abbrev meaning_d : Meaning
meaning_d = record {
  header = hall_of 1 1 1;
  records =
      record_for 3 1 0 1 300
      ∷ record_for 1 1 1 1 0
      ∷ record_for 3 1 0 1 7
      ∷ record_for 4 1 0 0 0
      ∷ record_for 5 1 0 0 0
      ∷ record_for 2 1 1 0 0
      ∷ record_for 5 1 0 0 0
      ∷ record_for 4 1 0 0 0
      ∷ [];
}

pub D_accepted : Accepted hall_edition sheet_d meaning_d
unfolding prints
D_accepted = refl

pub D2_accepted : Accepted hall_edition2 sheet_d2 meaning_d
unfolding prints decode_header2 decode_record2
D2_accepted = refl

-- Neither converter refuses it, so there and back gives the same bytes, both ways round.
pub D_to_edition_2 : Rewritten hall_edition hall_edition2 sheet_d (to_edition2 sheet_d)
unfolding prints rewrite decode_header2 decode_record2 encode_sheet encode_header2 encode_header encode_record2 encode_record encode_number
D_to_edition_2 = record { meaning = meaning_d; was_accepted_lem = refl; written = refl; is_accepted_lem = refl }

pub D2_to_edition_1 : Rewritten hall_edition2 hall_edition sheet_d2 (to_edition1 sheet_d2)
unfolding prints rewrite decode_header2 decode_record2 encode_sheet encode_header encode_record encode_number
D2_to_edition_1 = record { meaning = meaning_d; was_accepted_lem = refl; written = refl; is_accepted_lem = refl }

pub D_there_and_back : to_edition1 (to_edition2 sheet_d) ≡ sheet_d
D_there_and_back = to_edition_2_and_back sheet_d (are_bytes_lem sheet_d refl) D_to_edition_2

pub D2_there_and_back : to_edition2 (to_edition1 sheet_d2) ≡ sheet_d2
D2_there_and_back = to_edition_1_and_back sheet_d2 (are_bytes_lem sheet_d2 refl) D2_to_edition_1

pub D_prints_the_same : printed hall_edition2 (to_edition2 sheet_d) ≡ printed hall_edition sheet_d
D_prints_the_same = rewritten_sheets_print_the_same refl sheet_d D_to_edition_2

-- What holds of every edition: the hand-back at index 6 is paired with a retirement before it,
pub paired_in_D2 : (demand_2_of_sheets hall_edition2 sheet_d2 (hall_of 1 1 1) records_d D2_accepted).guarantee.pair 6 < 6
unfolding open_table step_table sound record_sound encode_desk decode_desk lent_table
paired_in_D2 = (demand_2_of_sheets hall_edition2 sheet_d2 (hall_of 1 1 1) records_d D2_accepted).guarantee.earlier 6 1 300 refl

-- what is written is read back,
pub small_is_read : Accepted hall_edition2 (encode_sheet hall_edition2 small) small
unfolding encode_sheet encode_header2 encode_header encode_record2 encode_record encode_number
small_is_read = written_is_read hall_edition_2_lawful small small_can_be (omega arith)

-- and two sheets with different bytes do not mean the same: a second collect at the same desk, and one at desk 2.
abbrev collects_twice : ℕ → Meaning
collects_twice desk = record { header = hall_of 1 1 1; records = record_for 5 1 0 0 0 ∷ record_for 5 desk 0 0 0 ∷ [] }

abbrev same_desk : List ℕ
same_desk = 0x00 ∷ 0x02 ∷ 0x01 ∷ 0x01 ∷ 0x01 ∷ 0x05 ∷ 0x01 ∷ 0x0D ∷ []

abbrev other_desk : List ℕ
other_desk = 0x00 ∷ 0x02 ∷ 0x01 ∷ 0x01 ∷ 0x01 ∷ 0x05 ∷ 0x01 ∷ 0x05 ∷ 0x02 ∷ []

same_accepted : Accepted hall_edition2 same_desk (collects_twice 1)
unfolding prints decode_header2 decode_record2
same_accepted = refl

other_accepted_lem : Accepted hall_edition2 other_desk (collects_twice 2)
unfolding prints decode_header2 decode_record2
other_accepted_lem = refl

pub different_meanings : collects_twice 1 ≡ collects_twice 2 → ⊥
different_meanings same =
    let bytes : same_desk ≡ other_desk =
    (same_meaning_same_bytes hall_edition_2_lawful hall_edition_2_exact same_desk other_desk (collects_twice 1) (collects_twice 2) (are_bytes_lem same_desk refl)
    (are_bytes_lem other_desk refl) same_accepted other_accepted_lem).0 same in
    let z : ◌≡◌ {A = ℕ} 0x0D 0x05 = cc in
    omega arith

-- ---- The record that a shorthand code begins has the desk before, and one with its desk written out has another.
pub same_desk_meant : (last_desk 1 ≡ last_desk 1) × (5 ≡ stands_for 13)
unfolding decode_record2 decode_number
same_desk_meant = shorthand_means_the_desk_before hall_format (last_desk 1) same_desk 7 13 8 refl (record_for 5 1 0 0 0) 8 refl refl

pub other_desk_written : last_desk 1 ≡ last_desk 2 → ⊥
unfolding decode_record2 decode_number
other_desk_written = other_codes_have_another_desk hall_format (last_desk 1) other_desk 7 5 8 refl (record_for 5 2 0 0 0) 9 refl refl

-- ---- One edition each.
pub D_in_one_edition : (meaning : Meaning) → Accepted hall_edition2 sheet_d meaning → ⊥
D_in_one_edition meaning = accepted_in_one_edition hall_format sheet_d meaning_d meaning D_accepted

-- The reader of edition 1 gets through the first three numbers of case D in edition 2; of a sheet that ends after its 2 it does not.
pub D2_says_1 : (edition_1_refuses_0 hall_format (numbers_are_lawful barred) (0x02 ∷ 0x01 ∷ []) (omega arith)).reason ≡ refusal_of 0 1 0
unfolding decode_header decode_number
D2_says_1 = (edition_1_refuses_0 hall_format (numbers_are_lawful barred) (0x02 ∷ 0x01 ∷ []) (omega arith)).gets_through (hall_of 0 2 1) 3 refl

pub cut_says_15 : HeaderNumberRefused hall_format (0x00 ∷ 0x02 ∷ []) (refusal_of 0 15 2)
unfolding decode_header decode_number
cut_says_15 = ((edition_1_refuses_0 hall_format (numbers_are_lawful barred) (0x02 ∷ []) (omega arith)).otherwise (refusal_of 0 15 2) refl).1

-- The line of a refused sheet is no sheet of edition 2 either.
pub line_refused : (meaning : Meaning) → Accepted hall_edition2 (refused_sheet_line 20 0) meaning → ⊥
line_refused = lines_are_no_sheets version2 hall_format (numbers_are_lawful barred) 20 0

-- A truncated shorthand record: the byte that is shown.
abbrev cut_shorthand : List ℕ
cut_shorthand = 0x00 ∷ 0x02 ∷ 0x01 ∷ 0x01 ∷ 0x01 ∷ 0x05 ∷ 0x01 ∷ 0x0A ∷ 0x80 ∷ []

pub cut_shorthand-shown : ShowsByte hall_format cut_shorthand 0 15 8
unfolding prints decode_header2 decode_record2
cut_shorthand-shown = (offsets_are_located hall_edition_2_of_numbers cut_shorthand (refusal_of 2 15 8) refl).shows refl

-- ---- "an output over 65,536 bytes is 18": so many collects of desk 1 after one of desk 128.
abbrev busy : ℕ → Meaning
busy n = record { header = hall_of 1 1 1; records = record_for 5 128 0 0 0 ∷ replicate n (record_for 5 1 0 0 0) }

collects_good : (n : ℕ) → EachGood 65535 (replicate n (record_for 5 1 0 0 0))
collects_good zero = tt
collects_good (suc n) = (record { code = refl; desk = omega arith; screen = refl; position = refl; session = refl }, collects_good n)

busy_can_be : (n : ℕ) → GoodMeaning hall_limits (busy n)
unfolding opening_number lent_table
busy_can_be n = record {
  opens = refl;
  records = (record { code = refl; desk = omega arith; screen = refl; position = refl; session = refl }, collects_good n);
}

-- in edition 1 each takes two bytes
busy-length : (n : ℕ) → length (encode_sheet hall_edition (busy n)) ≡ 6 + 2 * n
unfolding encode_sheet encode_header encode_record encode_number
busy-length n = omega (arith, each n (last_desk 128))
  where
    each : (n : ℕ) (carried : Carried) → length (encode_records hall_edition carried (replicate n (record_for 5 1 0 0 0))) ≡ 2 * n
    each zero carried = refl
    each (suc n) carried = omega (arith, each n (last_desk 1))

-- and in edition 2 one byte, but for the first
busy_length_2 : (n : ℕ) → length (encode_sheet hall_edition2 (busy (suc n))) ≡ 10 + n
unfolding encode_sheet encode_header2 encode_header encode_record2 encode_record encode_number
busy_length_2 n = omega (arith, each n)
  where
    each : (n : ℕ) → length (encode_records hall_edition2 (last_desk 1) (replicate n (record_for 5 1 0 0 0))) ≡ n
    each zero = refl
    each (suc n) = omega (arith, each n)

busy_accepted : (n : ℕ) → n ≤ 65526 → Accepted hall_edition2 (encode_sheet hall_edition2 (busy (suc n))) (busy (suc n))
busy_accepted n few = written_is_read hall_edition_2_lawful (busy (suc n)) (busy_can_be (suc n)) (omega (arith, busy_length_2 n, few))

-- 32,765 of them, and the one at desk 128, give exactly 65,536 bytes in edition 1, which are written; with one more it is 18.
pub exactly-65536 :
    Rewritten hall_edition2 hall_edition (encode_sheet hall_edition2 (busy 32765)) (to_edition1 (encode_sheet hall_edition2 (busy 32765)))
    × (length (encode_sheet hall_edition (busy 32765)) ≡ 65536)
exactly-65536 =
    (rewritten hall_edition_2_lawful hall_edition_lawful refl (encode_sheet hall_edition2 (busy 32765)) (busy 32765) (busy_accepted 32764 (omega arith)) (omega (arith, busy-length 32765)), busy-length 32765)

pub over_65536 : TooLong hall_edition2 hall_edition (encode_sheet hall_edition2 (busy 32766)) (to_edition1 (encode_sheet hall_edition2 (busy 32766)))
over_65536 = record {
  meaning = busy 32766;
  was_accepted_lem = busy_accepted 32765 (omega arith);
  over = long;
  line =
      rewrite_accepted hall_edition2 hall_edition (encode_sheet hall_edition2 (busy 32766)) (busy 32766) (busy_accepted 32765 (omega arith))
      ∙ simp (lt-leb (length (encode_sheet hall_edition (busy 32766))) 65536 long);
}
  where
    long : 65536 < length (encode_sheet hall_edition (busy 32766))
    long = omega (arith, busy-length 32766)

-- In edition 2 a sheet is at most two bytes longer, so only one with at most one repeat can become too long: collects of desks 1 and 2 in turn,
-- 65,535 bytes in edition 1 and two more in edition 2.
abbrev turns : ℕ → List Record
turns zero = []
turns (suc n) = record_for 5 1 0 0 0 ∷ record_for 5 2 0 0 0 ∷ turns n

abbrev in_turn : ℕ → Meaning
in_turn n = record { header = hall_of 2 1 1; records = turns n }

turns_good : (n : ℕ) → EachGood 65535 (turns n)
turns_good zero = tt
turns_good (suc n) =
    (record { code = refl; desk = omega arith; screen = refl; position = refl; session = refl }, (record { code = refl; desk = omega arith; screen = refl; position = refl; session = refl }, turns_good n))

in_turn_can_be : (n : ℕ) → GoodMeaning hall_limits (in_turn n)
unfolding opening_number lent_table
in_turn_can_be n = record { opens = refl; records = turns_good n }

in_turn-length : (n : ℕ) → length (encode_sheet hall_edition (in_turn n)) ≡ 3 + 4 * n
unfolding encode_sheet encode_header encode_record encode_number
in_turn-length n = omega (arith, each n no_desk)
  where
    each : (n : ℕ) (carried : Carried) → length (encode_records hall_edition carried (turns n)) ≡ 4 * n
    each zero carried = refl
    each (suc n) carried = omega (arith, each n (last_desk 2))

in_turn_length_2 : (n : ℕ) → length (encode_sheet hall_edition2 (in_turn n)) ≡ 5 + 4 * n
unfolding encode_sheet encode_header2 encode_header encode_record2 encode_record encode_number
in_turn_length_2 zero = refl
in_turn_length_2 (suc n) = omega (arith, each n)
  where
    each : (n : ℕ) → length (encode_records hall_edition2 (last_desk 2) (turns n)) ≡ 4 * n
    each zero = refl
    each (suc n) = omega (arith, each n)

pub over_65536_in_edition_2 : TooLong hall_edition hall_edition2 (encode_sheet hall_edition (in_turn 16383)) (to_edition2 (encode_sheet hall_edition (in_turn 16383)))
over_65536_in_edition_2 = record {
  meaning = in_turn 16383;
  was_accepted_lem = accepted;
  over = long;
  line =
      rewrite_accepted hall_edition hall_edition2 (encode_sheet hall_edition (in_turn 16383)) (in_turn 16383) accepted
      ∙ simp (lt-leb (length (encode_sheet hall_edition2 (in_turn 16383))) 65536 long);
}
  where
    accepted : Accepted hall_edition (encode_sheet hall_edition (in_turn 16383)) (in_turn 16383)
    accepted = written_is_read hall_edition_lawful (in_turn 16383) (in_turn_can_be 16383) (omega (arith, in_turn-length 16383))

    long : 65536 < length (encode_sheet hall_edition2 (in_turn 16383))
    long = omega (arith, in_turn_length_2 16383)
