-- The theorems about sheets applied to sheets that meet their premises.
use Rattle.std.specs.Prelude.{ℕ, zero, suc, ◌+◌, ◌*◌, ◌≤◌, ◌<◌, ◌≡◌, refl, true, List, [], ◌∷◌, ◌++◌, map, length, replicate, ltb}
use Rattle.std.proofs.Common.{arith, ap, ◌∙◌, length-append, ltb-true}
use Rattle.std.proofs.Math.Option.{some}
use Rattle.std.proofs.lemmas.List.{length-replicate}
use Rattle.std.proofs.Math.Seq.{drop-append-add, drop-append_seam}
use Rattle.rules.specs.Bytes.{IsBytes}
use Rattle.rules.proofs.Cases.{ok, refused_with}
use Rattle.rules.specs.Hall.{fresh, hall_limits, hall_of}
use Rattle.rules.specs.History.{hand_backs_of, number_at}
use Rattle.rules.specs.Lists.{every}
use Rattle.rules.specs.Messages.{answers_of, step_unnumbered}
use Rattle.rules.specs.Numbers.{Refusal, barred, decode_number, max_number, refusal, refusal_of}
use Rattle.rules.specs.Steps.{Event, run}
use Rattle.rules.specs.Table.{decode_desk, encode_desk, open_table, record_sound, sound, step_table}
use Rattle.rules.proofs.Laws.History.Checks.{never_shown}
use Rattle.rules.proofs.Laws.Lists.Bools.{and_left, and_right}
use Rattle.sheet_rules.specs.Edition1.{archive_edition, archive_format, decode_header, decode_record, encode_header, encode_number, encode_record, hall_edition, hall_format}
use Rattle.sheet_rules.specs.Edition2.{version1}
use Rattle.sheet_rules.specs.Lawful.{Exact}
use Rattle.sheet_rules.specs.Lines.{decimal, end_line, event_lines, line, printed}
use Rattle.sheet_rules.specs.Offsets.{PrintsRefusal, ShowsByte, ending, refuses_number}
use Rattle.sheet_rules.proofs.ReadingCases.{D_opens, back-opens, records_back, records_d, sheet_back, small, small_bytes}
use Rattle.sheet_rules.specs.Rewriting.{Rewritten, refused_sheet_line, rewrite, shorten}
use Rattle.sheet_rules.specs.Run.{calls_in}
use Rattle.sheet_rules.specs.Sheet.{Accepted, Carried, EachGood, GoodMeaning, Meaning, encode_records, encode_sheet, last_desk, lent_table, no_desk, opening_number}
use Rattle.sheet_rules.specs.Sheet.{WrittenSheet, reading, record_for}
use Rattle.sheet_rules.proofs.SheetCases.{sheet_d, text}
use Rattle.sheet_rules.proofs.SheetTheorems.{accepted_exactly_if_written, archive_edition_lawful, archive_edition_of_numbers, archive_never_says_19}
use Rattle.sheet_rules.proofs.SheetTheorems.{demand_2_of_sheets, demand_3_of_sheets, events_of, hall_edition_exact, hall_edition_lawful, hall_edition_of_numbers}
use Rattle.sheet_rules.proofs.SheetTheorems.{lines_are_no_sheets, long-sheets, mending_gets_past, numbers_are_lawful, offsets_are_located, offsets_bounded}
use Rattle.sheet_rules.proofs.SheetTheorems.{only_one_byte, refusals_are_printed, refused_at_offset, rewritten_sheets_print_the_same, same_meaning_same_bytes}
use Rattle.sheet_rules.proofs.SheetTheorems.{sheet_answers_as_before, sheet_steps_never_23, shortest_form_stays, written_is_read, written_is_read_by_both}
use Rattle.sheet_rules.proofs.SheetTheorems.{written_no_longer}
use Rattle.sheet_rules.specs.Tally.{zeros}
use Rattle.sheet_rules.proofs.Laws.Sheet.{written_then_refused}

-- ---- Case D: the lines of its steps, computed from the run.
pub lines-in-D :
    event_lines 1 (events_of hall_limits (hall_of 1 1 1) records_d)
    ≡ text ("1 3 0 0" ∷ "2 1 0 300" ∷ "3 3 0 300" ∷ "4 4 0 300" ∷ "5 5 0 0" ∷ "6 2 0 300" ∷ "7 5 0 300" ∷ "8 4 13 0" ∷ [])
unfolding open_table step_table sound record_sound encode_desk decode_desk lent_table decimal line
lines-in-D = refl

-- Demand 2: the hand-back at index 6 is paired with a retirement before it.
pub paired_in_D : (demand_2_of_sheets hall_edition sheet_d (hall_of 1 1 1) records_d D_opens).guarantee.pair 6 < 6
unfolding open_table step_table sound record_sound encode_desk decode_desk lent_table
paired_in_D = (demand_2_of_sheets hall_edition sheet_d (hall_of 1 1 1) records_d D_opens).guarantee.earlier 6 1 300 refl

-- ---- Demand 3: 5 is back by the third collect.
pub back_by_demand_3 : 1 ≤ hand_backs_of 1 5 (events_of hall_limits (hall_of 1 1 1) records_back)
unfolding open_table step_table sound record_sound encode_desk decode_desk lent_table
back_by_demand_3 =
    (demand_3_of_sheets hall_edition sheet_back (hall_of 1 1 1) records_back back-opens).back 1 5 2 5 refl refl
    (never_shown 5 (events_of hall_limits (hall_of 1 1 1) records_back) refl 2 5)

-- ---- Message numbers: the numbers that D's steps are sent with, computed. The last one is refused with 13, and no step with 23; the answers are
-- those without numbers.
pub numbers_in_D : map (λ (event : Event). event.call.message) (events_of hall_limits (hall_of 1 1 1) records_d) ≡ 0 ∷ 1 ∷ 2 ∷ 3 ∷ 4 ∷ 5 ∷ 6 ∷ 7 ∷ []
unfolding open_table step_table sound record_sound encode_desk decode_desk lent_table
numbers_in_D = refl

pub never_23_in_D : number_at (events_of hall_limits (hall_of 1 1 1) records_d) 7 ≡ 23 → ⊥
never_23_in_D = sheet_steps_never_23 hall_edition sheet_d (hall_of 1 1 1) records_d D_opens 7

pub answers-in-D :
    map ok (0 ∷ 300 ∷ 300 ∷ 300 ∷ 0 ∷ 300 ∷ 300 ∷ []) ++ (refused_with 13 ∷ []) ≡ answers_of (run (step_unnumbered hall_limits (hall_of 1 1 1)) (fresh (hall_of 1 1 1)) (calls_in records_d))
unfolding open_table step_table sound record_sound encode_desk decode_desk lent_table
answers-in-D = sheet_answers_as_before hall_edition sheet_d (hall_of 1 1 1) records_d D_opens

-- ---- A meaning that can be written is read back.
pub small_can_be : GoodMeaning hall_limits small
unfolding opening_number lent_table
small_can_be = record {
  opens = refl;
  records =
      (record { code = refl; desk = omega arith; screen = refl; position = omega arith; session = omega arith }, (record { code = refl; desk = omega arith; screen = refl; position = refl; session = refl }, tt));
}

pub small_is_read : Accepted hall_edition (encode_sheet hall_edition small) small
small_is_read = written_is_read hall_edition_lawful small small_can_be (rw small_bytes (omega arith))

pub small_is_read_in_the_archive : Accepted archive_edition (encode_sheet hall_edition small) small
small_is_read_in_the_archive = (written_is_read_by_both small small_can_be (rw small_bytes (omega arith))).1

-- ---- A sheet of 65,537 bytes, whatever they are: here they would open the largest hall.
pub one_byte_too_long : printed hall_edition (0x10 ∷ 0x04 ∷ 0x40 ∷ replicate 65534 0x01) ≡ line 0 0 18 0 ++ end_line zeros
one_byte_too_long = long-sheets hall_edition (0x10 ∷ 0x04 ∷ 0x40 ∷ replicate 65534 0x01) (omega (arith, length-replicate {A = ℕ} 65534 0x01))

-- ---- The byte that is shown: a collect whose desk does not end.
abbrev cut_desk : List ℕ
cut_desk = 0x01 ∷ 0x01 ∷ 0x01 ∷ 0x05 ∷ 0x80 ∷ 0x80 ∷ []

cut_desk_ends : ending (reading hall_edition cut_desk) ≡ some (refusal_of 5 15 4)
unfolding reading decode_header decode_record decode_number opening_number lent_table
cut_desk_ends = refl

pub cut_desk-printed : PrintsRefusal (printed hall_edition cut_desk) (refusal_of 5 15 4)
cut_desk-printed = refusals_are_printed hall_edition cut_desk (refusal_of 5 15 4) cut_desk_ends

pub cut_desk-shown : ShowsByte hall_format cut_desk 0 15 4
cut_desk-shown = (offsets_are_located hall_edition_of_numbers cut_desk (refusal_of 5 15 4) cut_desk_ends).shows refl

pub cut_desk_refused : decode_number barred 65535 cut_desk 4 ≡ refusal 0 15 4
cut_desk_refused = refused_at_offset hall_edition_of_numbers refl cut_desk (refusal_of 5 15 4) cut_desk_ends refl

-- No other byte can be shown, such as the last one of the desk.
pub only_cut_desk : (number offset : ℕ) → ShowsByte hall_format cut_desk 0 number offset → (15 ≡ number) × (4 ≡ offset)
only_cut_desk number offset = only_one_byte (numbers_are_lawful barred) refl cut_desk 15 4 number offset cut_desk-shown

-- The desk is mended, it is 1 and ends at offset 5: whatever follows it, a byte that 15, 16 or 19 shows then is past it.
abbrev mended_desk : List ℕ → List ℕ
mended_desk rest = 0x01 ∷ 0x01 ∷ 0x01 ∷ 0x05 ∷ 0x01 ∷ rest

pub past_mended_desk : (rest : List ℕ) (again : Refusal) → ending (reading hall_edition (mended_desk rest)) ≡ some again
    → refuses_number again.number ≡ true
    → 5 ≤ again.offset
unfolding decode_number
past_mended_desk rest again =
    mending_gets_past hall_edition_of_numbers (numbers_are_lawful barred) refl cut_desk (mended_desk rest) (refusal_of 5 15 4) again 1 5 cut_desk_ends refl refl refl

-- There is such a byte if a second collect follows and lacks its desk.
pub mended_desk_ends : ending (reading hall_edition (mended_desk (0x05 ∷ []))) ≡ some (refusal_of 5 15 6)
unfolding reading decode_header decode_record decode_number opening_number lent_table
mended_desk_ends = refl

-- ---- "offsets reach 65,536": so many collects of desk 1, and then the code of one more.
abbrev collects : ℕ → Meaning
collects n = record { header = hall_of 1 1 1; records = replicate n (record_for 5 1 0 0 0) }

abbrev cut_sheet : ℕ → List ℕ
cut_sheet n = encode_sheet hall_edition (collects n) ++ (0x05 ∷ [])

collects_can_be : (n : ℕ) → GoodMeaning hall_limits (collects n)
unfolding opening_number lent_table
collects_can_be n = record { opens = refl; records = each n }
  where
    each : (n : ℕ) → EachGood max_number (replicate n (record_for 5 1 0 0 0))
    each zero = tt
    each (suc n) = (record { code = refl; desk = omega arith; screen = refl; position = refl; session = refl }, each n)

collects-length : (n : ℕ) → length (encode_sheet hall_edition (collects n)) ≡ 3 + 2 * n
unfolding encode_sheet encode_header encode_record encode_number
collects-length n = omega (arith, each n no_desk)
  where
    each : (n : ℕ) (carried : Carried) → length (encode_records hall_edition carried (replicate n (record_for 5 1 0 0 0))) ≡ 2 * n
    each zero carried = refl
    each (suc n) carried = omega (arith, each n (last_desk 1))

-- a record that ends after its code, at the end of a sheet
cut_after_code : (front : List ℕ) → decode_record hall_format (front ++ (0x05 ∷ [])) (length front) ≡ refusal 5 15 (length front + 1)
unfolding decode_record decode_number
cut_after_code front = simp (drop-append_seam front (0x05 ∷ []), drop-append-add front (0x05 ∷ []) 1)

cut_shows : (n : ℕ) → 4 + 2 * n ≤ 65536 → ending (reading hall_edition (cut_sheet n)) ≡ some (refusal_of 5 15 (4 + 2 * n))
cut_shows n short =
    let front : List ℕ = encode_sheet hall_edition (collects n) in
    let offset : length front + 1 ≡ 4 + 2 * n = omega (arith, collects-length n) in
    written_then_refused hall_edition_lawful (collects n) (0x05 ∷ []) (collects_can_be n) (omega arith)
    (omega (arith, short, collects-length n, length-append front (0x05 ∷ [])))
    (λ last. cut_after_code front ∙ ap (refusal 5 15) offset)

pub offset_65536_shown : ending (reading hall_edition (cut_sheet 32766)) ≡ some (refusal_of 5 15 65536)
offset_65536_shown = cut_shows 32766 (omega arith)

-- No sheet of the hall shows a larger one.
pub no_larger_offset : (sheet : List ℕ) (reason : Refusal) → ending (reading hall_edition sheet) ≡ some reason → reason.offset ≤ 65536
no_larger_offset = offsets_bounded hall_edition_of_numbers (numbers_are_lawful barred)

-- ---- The shortest form. Two sheets of one collect each, at desks 1 and 2.
abbrev collect_at : ℕ → List ℕ
collect_at desk = 0x01 ∷ 0x01 ∷ 0x01 ∷ 0x05 ∷ desk ∷ []

abbrev collects_at : ℕ → Meaning
collects_at desk = record { header = hall_of 1 1 1; records = record_for 5 desk 0 0 0 ∷ [] }

pub are_bytes_lem : (bytes : List ℕ) → every (λ (byte : ℕ). ltb byte 256) bytes ≡ true → IsBytes bytes
are_bytes_lem [] small j = omega arith
are_bytes_lem (byte ∷ bytes) small zero = ltb-true byte 256 (and_left (ltb byte 256) _ small)
are_bytes_lem (byte ∷ bytes) small (suc j) = are_bytes_lem bytes (and_right (ltb byte 256) _ small) j

first_accepted : Accepted hall_edition (collect_at 1) (collects_at 1)
unfolding reading decode_header decode_record decode_number opening_number lent_table
first_accepted = refl

second_accepted : Accepted hall_edition (collect_at 2) (collects_at 2)
unfolding reading decode_header decode_record decode_number opening_number lent_table
second_accepted = refl

-- Their bytes do not agree, so they do not mean the same.
pub different_meanings : collects_at 1 ≡ collects_at 2 → ⊥
different_meanings same =
    let bytes : collect_at 1 ≡ collect_at 2 =
    (same_meaning_same_bytes hall_edition_lawful hall_edition_exact (collect_at 1) (collect_at 2) (collects_at 1) (collects_at 2) (are_bytes_lem (collect_at 1) refl)
    (are_bytes_lem (collect_at 2) refl) first_accepted second_accepted).0 same in
    let z : ◌≡◌ {A = ℕ} 1 2 = cc in
    omega arith

-- The first is what is written for its meaning, and it stays as it is.
pub first_is_written : WrittenSheet hall_edition (collect_at 1) (collects_at 1)
first_is_written = (accepted_exactly_if_written hall_edition_lawful hall_edition_exact (collect_at 1) (collects_at 1) (are_bytes_lem (collect_at 1) refl)).0 first_accepted

pub first_stays : shorten (collect_at 1) ≡ collect_at 1
first_stays = shortest_form_stays (collect_at 1) (collects_at 1) (are_bytes_lem (collect_at 1) refl) first_accepted

-- ---- The same collect, with every number padded: the archive's reader accepts it with the same meaning.
abbrev padded : List ℕ
padded = 0x81 ∷ 0x00 ∷ 0x81 ∷ 0x80 ∷ 0x00 ∷ 0x81 ∷ 0x00 ∷ 0x85 ∷ 0x00 ∷ 0x81 ∷ 0x80 ∷ 0x00 ∷ []

padded_accepted : Accepted archive_edition padded (collects_at 1)
unfolding reading decode_header decode_record decode_number opening_number lent_table
padded_accepted = refl

padded_rewritten : Rewritten archive_edition hall_edition padded (shorten padded)
unfolding rewrite reading decode_header decode_record decode_number opening_number lent_table encode_sheet encode_header encode_record encode_number
padded_rewritten = record { meaning = collects_at 1; was_accepted_lem = refl; written = refl; is_accepted_lem = refl }

pub padded_prints_the_same : printed hall_edition (shorten padded) ≡ printed archive_edition padded
padded_prints_the_same = rewritten_sheets_print_the_same refl padded padded_rewritten

-- What is written for its meaning is no longer.
pub padded_no_shorter : length (encode_sheet archive_edition (collects_at 1)) ≤ 12
padded_no_shorter = written_no_longer archive_edition_lawful padded (collects_at 1) padded_accepted

-- So in the archive two sheets that mean the same may have different bytes: its edition is not exact.
short_accepted : Accepted archive_edition (collect_at 1) (collects_at 1)
unfolding reading decode_header decode_record decode_number opening_number lent_table
short_accepted = refl

pub archive_not_exact : Exact archive_edition → ⊥
archive_not_exact exact =
    let bytes : padded ≡ collect_at 1 =
    (same_meaning_same_bytes archive_edition_lawful exact padded (collect_at 1) (collects_at 1) (collects_at 1) (are_bytes_lem padded refl) (are_bytes_lem (collect_at 1) refl)
    padded_accepted short_accepted).0 refl in
    let z : ◌≡◌ {A = ℕ} 0x81 0x01 = cc in
    omega arith

-- A refused sheet of the archive, with a padded P: its line has the offset in the old sheet, and 19 never ends its reading.
abbrev padded_cut : List ℕ
padded_cut = 0x81 ∷ 0x00 ∷ 0x01 ∷ 0x01 ∷ 0x05 ∷ []

padded_cut_ends : ending (reading archive_edition padded_cut) ≡ some (refusal_of 5 15 5)
unfolding reading decode_header decode_record decode_number opening_number lent_table
padded_cut_ends = refl

pub padded_cut-line : shorten padded_cut ≡ refused_sheet_line 15 5
unfolding rewrite reading decode_header decode_record decode_number opening_number lent_table
padded_cut-line = refl

pub padded_cut-shown : ShowsByte archive_format padded_cut 0 15 5
padded_cut-shown = (offsets_are_located archive_edition_of_numbers padded_cut (refusal_of 5 15 5) padded_cut_ends).shows refl

pub padded_cut_never_19 : (reason : Refusal) → ending (reading archive_edition padded_cut) ≡ some reason → reason.number ≡ 19 → ⊥
padded_cut_never_19 = archive_never_says_19 padded_cut

-- The line is no sheet.
pub line_refused : (meaning : Meaning) → Accepted hall_edition (refused_sheet_line 15 5) meaning → ⊥
line_refused = lines_are_no_sheets version1 hall_format (numbers_are_lawful barred) 15 5
