-- The theorems about day sheets. Their proofs are in Laws/ and, for the demands, in the rules.
use Rattle.std.specs.Prelude.{ℕ, ◌≤◌, ◌<◌, ◌≡◌, refl, true, false, List, ◌∷◌, ◌++◌, ◌⊎◌, length, take}
use Rattle.std.proofs.Common.{arith, ap, ◌∙◌, subst}
use Rattle.std.proofs.Math.Option.{some}
use Rattle.rules.specs.Bytes.{IsBytes}
use Rattle.rules.specs.Demands.{Demand2, Demand3}
use Rattle.rules.specs.Hall.{Hall, Limits, fresh, hall_limits}
use Rattle.rules.specs.History.{number_at}
use Rattle.rules.specs.Messages.{RightNumbers, answers_of, sent_history, sent_tables, sent_to, step_unnumbered}
use Rattle.rules.specs.Numbers.{Padding, Refusal, barred, decode_number, parsed, refusal}
use Rattle.rules.specs.Steps.{Answer, Call, Event, Result, accept, end, refuse, run}
use Rattle.rules.specs.Table.{open_table, opened_table, step_table}
use Rattle.rules.proofs.Theorems.{answered_as_before, demand_2, demand_3, sent_numbers_right}
use Rattle.rules.proofs.Laws.Table.RightNumbers.{sent-tables, sent_unnumbered}
use Rattle.sheet_rules.specs.Edition1.{Format, archive_edition, archive_format, edition1, hall_edition, hall_format, training_edition, training_format}
use Rattle.sheet_rules.specs.OtherEdition.{RefusedHeader}
use Rattle.sheet_rules.specs.Edition2.{Version, edition2, edition_for, hall_edition2, is_shorthand, stands_for, version1, version2}
use Rattle.sheet_rules.specs.Lawful.{Exact, ExactNumbers, Lawful, LawfulNumbers}
use Rattle.sheet_rules.specs.Lines.{end_line, ending_line, event_lines, line, printed}
use Rattle.sheet_rules.specs.Offsets.{EditionOfNumbers, Located, PrintsRefusal, ShowsByte, ending, refuses_number}
use Rattle.sheet_rules.specs.Rewriting.{Rewritten, RewrittenOrRefused, ShortenedOrRefused, refused_sheet_line, rewrite, shorten, to_edition1, to_edition2}
use Rattle.sheet_rules.specs.Run.{calls_in, run_record}
use Rattle.sheet_rules.specs.Sheet.{Accepted, Carried, Edition, GoodMeaning, Meaning, Record, Records, decode_records, encode_sheet, is_code, last_desk, lent_table}
use Rattle.sheet_rules.specs.Sheet.{WrittenSheet, max_bytes, opened, opening_number, reading}
use Rattle.sheet_rules.specs.Tally.{Tally, add_step, add_steps, counts_in, is_refused, one_more, tally_of, zeros}
use Rattle.sheet_rules.proofs.Laws.Numbers.{numbers_lawful, shortest_numbers_exact}
use Rattle.sheet_rules.proofs.Laws.Run.{lines_of_run, opening_accepted, other_code_asks_none}
use Rattle.sheet_rules.proofs.Laws.Edition1.{archive_lawful, hall_exact, hall_lawful}
use Rattle.sheet_rules.proofs.Laws.Edition2.{shorthand_desk, written_out_desk}
use Rattle.sheet_rules.proofs.Laws.Editions.{edition_exact, edition_lawful, not_in_both, refused_header}
use Rattle.sheet_rules.proofs.Laws.Exact.{accepted_no_longer, is_written, same_bytes, same_meaning, written_is_accepted}
use Rattle.sheet_rules.proofs.Laws.NumbersBetween.{edition_of_numbers}
use Rattle.sheet_rules.proofs.Laws.Offsets.{archive_never_19, archive_of_numbers, ending_located, mended_past, offset_bounded, one_byte, refusal-printed}
use Rattle.sheet_rules.proofs.Laws.Offsets.{refused_there}
use Rattle.sheet_rules.proofs.Laws.Rewriting.{back_again, line_no_sheet, read_by_both, rewritten_fits, rewritten_or_refused, rewritten_prints_the_same}
use Rattle.sheet_rules.proofs.Laws.Rewriting.{shortened_or_refused, shortest_stays}
use Rattle.sheet_rules.proofs.Laws.Sessions.{sheet_not_22}
use Rattle.sheet_rules.proofs.Laws.Sheet.{accepted_good, long_sheet, opening_gives, reading-back, records_enough}
use Rattle.sheet_rules.proofs.Laws.Tally.{other_code, refused_step, tally_from_zeros}

-- ---- Theorems about every sheet.

-- "is the sheet at most 65,536 bytes? 18", and "18 prints `0 0 18 0`": nothing else of a longer sheet is printed.
pub long-sheets : (edition : Edition) (sheet : List ℕ) → max_bytes < length sheet → printed edition sheet ≡ line 0 0 18 0 ++ end_line zeros
long-sheets = long_sheet

-- The table that the program lends is long enough for every hall, in every room: its opening gives 1, 2, 3, 22 or 0, and never 4.
pub never_too_short : (limits : Limits) (hall : Hall) → (opening_number limits hall ≤ 3) ⊎ (opening_number limits hall ≡ 22)
never_too_short = opening_gives

-- ---- About editions.

-- Both editions, with every number in its shortest form, are lawful for any lawful reader of numbers and any limits whose largest session is at
-- most 65,535.
pub editions_lawful : (version : Version) (format : Format) → LawfulNumbers format.read_number → format.limits.sessions ≤ 65535
    → Lawful (edition_for version format)
editions_lawful = edition_lawful

-- The reader of numbers that documents 01 and 02 describe is lawful, whether padding is allowed or barred.
pub numbers_are_lawful : (padding : Padding) → LawfulNumbers (decode_number padding)
numbers_are_lawful = numbers_lawful

-- So the hall's editions are lawful, and so are the archive's and the training room's.
pub hall_edition_lawful : Lawful hall_edition
hall_edition_lawful = hall_lawful

pub hall_edition_2_lawful : Lawful hall_edition2
hall_edition_2_lawful = edition_lawful version2 hall_format (numbers_lawful barred) (omega arith)

pub archive_edition_lawful : Lawful archive_edition
archive_edition_lawful = archive_lawful

pub training_edition_lawful : Lawful training_edition
training_edition_lawful = edition_lawful version1 training_format (numbers_lawful barred) (omega arith)

-- For every lawful edition:
module _ {edition : Edition} (lawful : Lawful edition) where
  -- The bound on the number of records does not matter: a larger bound than the number of bytes gives the same records.
  pub readings_end : (most : ℕ) (carried : Carried) (sheet : List ℕ) (at : ℕ) → length sheet ≤ most
      → decode_records edition most carried sheet at ≡ decode_records edition (length sheet) carried sheet at
  readings_end most carried sheet at enough = records_enough lawful most (length sheet) carried sheet at (omega (arith, enough)) (omega arith)

  -- A meaning that is written is read back, so its sheet is accepted.
  pub written_is_read : (meaning : Meaning) → GoodMeaning edition.limits meaning → length (encode_sheet edition meaning) ≤ max_bytes
      → Accepted edition (encode_sheet edition meaning) meaning
  written_is_read = reading-back lawful

  -- An accepted sheet's meaning can be written,
  pub accepted_can_be_written : (sheet : List ℕ) (meaning : Meaning) → Accepted edition sheet meaning → GoodMeaning edition.limits meaning
  accepted_can_be_written = accepted_good lawful

  -- and what is written for it is no longer than the sheet. (So by `written_is_read` it is accepted, with the same meaning.)
  pub written_no_longer : (sheet : List ℕ) (meaning : Meaning) → Accepted edition sheet meaning → length (encode_sheet edition meaning) ≤ length sheet
  written_no_longer = accepted_no_longer lawful

-- ---- About the byte that is shown. Document 02, "Show the byte".

-- What ends a reading has its line, and the session column shows the offset.
pub refusals_are_printed : (edition : Edition) (sheet : List ℕ) (reason : Refusal) → ending (reading edition sheet) ≡ some reason
    → PrintsRefusal (printed edition sheet) reason
refusals_are_printed = refusal-printed

-- Both editions consist of numbers.
pub editions_of_numbers : (version : Version) (format : Format) → LawfulNumbers format.read_number → format.limits.sessions ≤ 65535
    → EditionOfNumbers format (edition_for version format)
editions_of_numbers version format numbers fits = edition_of_numbers format numbers fits version

-- So do the hall's sheets, those in the archive and those of the training room.
pub hall_edition_of_numbers : EditionOfNumbers hall_format hall_edition
hall_edition_of_numbers = edition_of_numbers hall_format (numbers_lawful barred) (omega arith) version1

pub hall_edition_2_of_numbers : EditionOfNumbers hall_format hall_edition2
hall_edition_2_of_numbers = edition_of_numbers hall_format (numbers_lawful barred) (omega arith) version2

pub archive_edition_of_numbers : EditionOfNumbers archive_format archive_edition
archive_edition_of_numbers = archive_of_numbers

pub training_edition_of_numbers : EditionOfNumbers training_format training_edition
training_edition_of_numbers = edition_of_numbers training_format (numbers_lawful barred) (omega arith) version1

-- For every edition that consists of numbers:
module _ {format : Format} {edition : Edition} (of-numbers : EditionOfNumbers format edition) where
  -- If 15, 16 or 19 ends a reading, then the number at that offset is refused with just that reply number, and numbers that are read fill the
  -- bytes before it. No other refusal shows an offset.
  pub offsets_are_located : (sheet : List ℕ) (reason : Refusal) → ending (reading edition sheet) ≡ some reason → Located format sheet 0 reason
  offsets_are_located = ending_located of-numbers

  -- Where sessions have the limit of all numbers, that number is refused by the limit of 65,535.
  pub refused_at_offset : format.limits.sessions ≡ 65535 → (sheet : List ℕ) (reason : Refusal) → ending (reading edition sheet) ≡ some reason
      → refuses_number reason.number ≡ true
      → format.read_number 65535 sheet reason.offset ≡ refusal 0 reason.number reason.offset
  refused_at_offset sessions sheet reason ends refuses = refused_there sessions ((ending_located of-numbers sheet reason ends).shows refuses)

  -- "offsets reach 65,536": they are at most that, and `offset_65536_shown` of the examples reaches it.
  pub offsets_bounded : LawfulNumbers format.read_number → (sheet : List ℕ) (reason : Refusal) → ending (reading edition sheet) ≡ some reason
      → reason.offset ≤ 65536
  offsets_bounded numbers = offset_bounded numbers of-numbers

  -- A planner who mends the number at that byte gets past it: if the bytes before it stay and a number is read there, then 15, 16 and 19 do not
  -- show a byte before the end of that number again. (1 to 3 or 17 may still refuse the number for its value.) The reader of numbers is lawful,
  -- and sessions have the limit of all numbers.
  pub mending_gets_past : LawfulNumbers format.read_number → format.limits.sessions ≡ 65535 → (sheet mended : List ℕ) (reason again : Refusal) (value next : ℕ)
      → ending (reading edition sheet) ≡ some reason
      → refuses_number reason.number ≡ true
      → take reason.offset mended ≡ take reason.offset sheet
      → format.read_number 65535 mended reason.offset ≡ parsed value next
      → ending (reading edition mended) ≡ some again
      → refuses_number again.number ≡ true
      → next ≤ again.offset
  mending_gets_past numbers sessions sheet mended reason again value next ends refuses kept read ends-again refuses-again =
      mended_past numbers sessions mended ((ending_located of-numbers sheet reason ends).shows refuses) kept read
      ((ending_located of-numbers mended again ends-again).shows refuses-again)

-- If the reader of numbers is lawful and sessions have the limit of all numbers, a sheet has at most one byte to show, with one reply number.
pub only_one_byte : {format : Format} → LawfulNumbers format.read_number → format.limits.sessions ≡ 65535 → (sheet : List ℕ)
    → (number offset other_number other_offset : ℕ)
    → ShowsByte format sheet 0 number offset
    → ShowsByte format sheet 0 other_number other_offset
    → (number ≡ other_number) × (offset ≡ other_offset)
only_one_byte numbers sessions sheet number offset other_number other_offset = one_byte numbers sessions

-- ---- About the shortest form. Document 02, "Padded numbers go".

-- Where padding is barred, a number is read from nothing but its shortest form.
pub unpadded_numbers_exact : ExactNumbers (decode_number barred)
unpadded_numbers_exact = shortest_numbers_exact

-- Both editions are exact if their reader of numbers is.
pub editions_exact : (version : Version) (format : Format) → ExactNumbers format.read_number → Exact (edition_for version format)
editions_exact = edition_exact

-- So the hall's editions and the training room's are exact.
pub hall_edition_exact : Exact hall_edition
hall_edition_exact = hall_exact

pub hall_edition_2_exact : Exact hall_edition2
hall_edition_2_exact = edition_exact version2 hall_format shortest_numbers_exact

pub training_edition_exact : Exact training_edition
training_edition_exact = edition_exact version1 training_format shortest_numbers_exact

-- Whatever the format, edition 1 writes the same bytes; so what is written is read back by the new reader and by the archive's.
pub written_is_read_by_both : (meaning : Meaning) → GoodMeaning hall_limits meaning → length (encode_sheet hall_edition meaning) ≤ 65536
    → Accepted hall_edition (encode_sheet hall_edition meaning) meaning × Accepted archive_edition (encode_sheet hall_edition meaning) meaning
written_is_read_by_both = read_by_both

-- For every edition that is lawful and exact, and sheets that consist of bytes:
module _ {edition : Edition} (lawful : Lawful edition) (exact : Exact edition) where
  -- What is accepted is exactly what is written in shortest form: the bytes of a meaning that can be written, at most 65,536.
  pub accepted_exactly_if_written : (sheet : List ℕ) (meaning : Meaning) → IsBytes sheet
      → (Accepted edition sheet meaning → WrittenSheet edition sheet meaning)
      × (WrittenSheet edition sheet meaning → Accepted edition sheet meaning)
  accepted_exactly_if_written sheet meaning are = (is_written lawful exact sheet meaning are, written_is_accepted lawful sheet meaning)

  -- "Show that two accepted sheets mean the same exactly when their bytes agree."
  pub same_meaning_same_bytes : (sheet other : List ℕ) (meaning other_meaning : Meaning) → IsBytes sheet → IsBytes other
      → Accepted edition sheet meaning
      → Accepted edition other other_meaning
      → (meaning ≡ other_meaning → sheet ≡ other) × (sheet ≡ other → meaning ≡ other_meaning)
  same_meaning_same_bytes sheet other meaning other_meaning are other_are accepted other_accepted =
      (same_bytes lawful exact are other_are accepted other_accepted, same_meaning edition accepted other_accepted)

-- "a small program rewrites each in shortest form, with the same meaning record by record, refusing what the old reader refused"
pub sheets_are_shortened : (sheet : List ℕ) → ShortenedOrRefused sheet (shorten sheet)
sheets_are_shortened = shortened_or_refused

-- A sheet that the new reader accepts comes out byte for byte.
pub shortest_form_stays : (sheet : List ℕ) (meaning : Meaning) → IsBytes sheet → Accepted hall_edition sheet meaning → shorten sheet ≡ sheet
shortest_form_stays = shortest_stays

-- 19 ends no reading of a sheet in the archive.
pub archive_never_says_19 : (sheet : List ℕ) (reason : Refusal) → ending (reading archive_edition sheet) ≡ some reason → reason.number ≡ 19 → ⊥
archive_never_says_19 = archive_never_19

-- ---- About sheets that are written anew, from any edition to any other: shortened, or converted. Document 02, "Padded numbers go" and "Edition 2
-- of the day sheet, and a converter".

-- The sheet is accepted, and what is written is accepted by the other reader, with the same meaning; or that would be longer than 65,536 bytes;
-- or the sheet is refused.
pub sheets_are_rewritten : {from to : Edition} → Lawful from → Lawful to → from.limits ≡ to.limits → (sheet : List ℕ)
    → RewrittenOrRefused from to sheet (rewrite from to sheet)
sheets_are_rewritten = rewritten_or_refused

-- The lines of a sheet that is written anew are those of the first.
pub rewritten_sheets_print_the_same : {from to : Edition} → from.limits ≡ to.limits → (sheet : List ℕ) → Rewritten from to sheet (rewrite from to sheet)
    → printed to (rewrite from to sheet) ≡ printed from sheet
rewritten_sheets_print_the_same room sheet = rewritten_prints_the_same room

-- "there and back, where neither refuses, gives the first bytes again": if the way there does not refuse, the way back does not.
pub there_and_back : {from to : Edition} → Lawful from → Exact from → (sheet : List ℕ) → IsBytes sheet
    → Rewritten from to sheet (rewrite from to sheet)
    → rewrite to from (rewrite from to sheet) ≡ sheet
there_and_back lawful exact sheet = back_again lawful exact

-- The output has at most 65,536 bytes, the line of a refused sheet included.
pub rewritten_always_fits : (from to : Edition) (sheet : List ℕ) → length (rewrite from to sheet) ≤ 65536
rewritten_always_fits = rewritten_fits

-- No reader takes the line of a refused sheet for a sheet: it starts with a digit, so its first number is 48 to 57, and that of a sheet is at most 16.
pub lines_are_no_sheets : (version : Version) (format : Format) → LawfulNumbers format.read_number → (number offset : ℕ) (meaning : Meaning)
    → Accepted (edition_for version format) (refused_sheet_line number offset) meaning
    → ⊥
lines_are_no_sheets version format numbers = line_no_sheet format numbers version

-- ---- About edition 2. Document 02, "Edition 2 of the day sheet, and a converter".

-- "a converter each way"
pub sheets_go_to_edition_2 : (sheet : List ℕ) → RewrittenOrRefused hall_edition hall_edition2 sheet (to_edition2 sheet)
sheets_go_to_edition_2 = rewritten_or_refused hall_edition_lawful hall_edition_2_lawful refl

pub sheets_go_to_edition_1 : (sheet : List ℕ) → RewrittenOrRefused hall_edition2 hall_edition sheet (to_edition1 sheet)
sheets_go_to_edition_1 = rewritten_or_refused hall_edition_2_lawful hall_edition_lawful refl

-- "there and back", both ways round
pub to_edition_2_and_back : (sheet : List ℕ) → IsBytes sheet → Rewritten hall_edition hall_edition2 sheet (to_edition2 sheet) → to_edition1 (to_edition2 sheet) ≡ sheet
to_edition_2_and_back = there_and_back hall_edition_lawful hall_edition_exact

pub to_edition_1_and_back : (sheet : List ℕ) → IsBytes sheet → Rewritten hall_edition2 hall_edition sheet (to_edition1 sheet) → to_edition2 (to_edition1 sheet) ≡ sheet
to_edition_1_and_back = there_and_back hall_edition_2_lawful hall_edition_2_exact

-- No sheet is accepted by the readers of both editions.
pub accepted_in_one_edition : (format : Format) (sheet : List ℕ) (meaning other : Meaning) → Accepted (edition1 format) sheet meaning
    → Accepted (edition2 format) sheet other
    → ⊥
accepted_in_one_edition = not_in_both

-- "An edition 1 reader that gets through the first three numbers meets that 0 as P and says 1, never a wrong line."
pub edition_1_refuses_0 : (format : Format) → LawfulNumbers format.read_number → (rest : List ℕ) → length (0 ∷ rest) ≤ 65536 → RefusedHeader format (0 ∷ rest)
edition_1_refuses_0 = refused_header

-- A record that is read, and the code that was read for it:
module _ (format : Format) (carried : Carried) (sheet : List ℕ) (at code after_code : ℕ) (read : format.read_number 65535 sheet at ≡ parsed code after_code)
    (entry : Record) (next : ℕ) (is : (edition2 format).decode_record carried sheet at ≡ parsed entry next) where
  -- "codes 9 to 13 stand for 1 to 5 with the desk left out, meaning the previous record's desk": that of the record before in the sheet; the
  -- board is not asked
  pub shorthand_means_the_desk_before : is_shorthand code ≡ true → (carried ≡ last_desk entry.desk) × (entry.code ≡ stands_for code)
  shorthand_means_the_desk_before = shorthand_desk format carried sheet at code after_code read entry next is

  -- "and must be used whenever it is the same"
  pub other_codes_have_another_desk : is_shorthand code ≡ false → carried ≡ last_desk entry.desk → ⊥
  other_codes_have_another_desk = written_out_desk format carried sheet at code after_code read entry next is

-- ---- About the tally.

-- "A refused step changes only the count of refused steps."
pub refused_changes_one : (total : Tally) (code : ℕ) (answer : Answer) → is_code code ≡ true → is_refused answer ≡ true
    → add_step total code answer ≡ tally_of total.accepted (one_more total.refused) total.handed_back
refused_changes_one = refused_step

-- "Started at zeros, the tally equals the counts in the list of replies, each up to that largest"
pub tally_is_the_counts : (events : List Event) → add_steps zeros events ≡ counts_in events
tally_is_the_counts = tally_from_zeros

-- ---- About a record whose code is not 1 to 5.

-- It is answered 17, with session 0, and nothing is written;
pub other_codes_refused : (limits : Limits) (table : List ℕ) (entry : Record) → is_code entry.code ≡ false
    → run_record limits table entry ≡ refuse 17 table
other_codes_refused limits table entry other = simp (other_code_asks_none entry other)

-- and nothing is counted.
pub other_codes_not_counted : (total : Tally) (code : ℕ) (answer : Answer) → is_code code ≡ false → add_step total code answer ≡ total
other_codes_not_counted = other_code

-- ---- About every sheet that opens.

-- The history of a sheet's records, in a room with these limits, each sent with the right message number to the table as the opening left it; and
-- the table after the first i of them.
abbrev pub events_of : Limits → Hall → Records → List Event
events_of limits hall records = sent_history limits (open_table limits hall lent_table).after (calls_in records)

abbrev pub tables_of : Limits → Hall → Records → ℕ → List ℕ
tables_of limits hall records = sent_tables limits (open_table limits hall lent_table).after (calls_in records)

-- For every sheet whose header opens a hall, whether something ends its reading later or not:
module _ (edition : Edition) (sheet : List ℕ) (hall : Hall) (records : Records) (opens : reading edition sheet ≡ opened hall records) where
  -- The board accepted the opening, and the table is the opened one.
  pub sheet_opens : open_table edition.limits hall lent_table ≡ accept 0 (opened_table hall lent_table)
  sheet_opens = opening_accepted edition sheet hall records opens

  accepted : (open_table edition.limits hall lent_table).answer.number ≡ 0
  accepted = ap (λ (done : Result (List ℕ)). done.answer.number) sheet_opens

  -- The lines are those of the run: the header's line, one for each call, the line of what ended the reading if something did, and the counts.
  pub lines_are_the_run : Lawful edition
      → printed edition sheet
      ≡ line 0 0 0 0 ++ (event_lines 1 (events_of edition.limits hall records) ++ (ending_line 1 records ++ end_line (counts_in (events_of edition.limits hall records))))
  lines_are_the_run lawful = lines_of_run lawful sheet hall records opens

  -- The calls as they were sent, and what holds of every history of them and its tables.
  abbrev sent : List Call
  sent = sent_to edition.limits (open_table edition.limits hall lent_table).after (calls_in records)

  of_sheets : (P : List Event → (ℕ → List ℕ) → Type 0)
      → P (events_of edition.limits hall records) (λ i. end (step_table edition.limits) (open_table edition.limits hall lent_table).after (take i sent))
      → P (events_of edition.limits hall records) (tables_of edition.limits hall records)
  of_sheets P = subst (P (events_of edition.limits hall records)) (λ j i. sent-tables edition.limits (calls_in records) (open_table edition.limits hall lent_table).after i j)

  -- Demand 2 holds of the run.
  pub demand_2_of_sheets : Demand2 hall (events_of edition.limits hall records) (tables_of edition.limits hall records)
  demand_2_of_sheets = of_sheets (Demand2 hall) (demand_2 edition.limits hall lent_table accepted sent)

  -- Demand 3 holds of the run.
  pub demand_3_of_sheets : Demand3 hall (events_of edition.limits hall records) (tables_of edition.limits hall records)
  demand_3_of_sheets = of_sheets (Demand3 hall) (demand_3 edition.limits hall lent_table accepted sent)

  -- "16 for a session over the caller's limit in a sheet": so no step of a sheet is answered 22, and there 22 is the opening's alone.
  pub sheet_steps_never_22 : Lawful edition → (i : ℕ) → number_at (events_of edition.limits hall records) i ≡ 22 → ⊥
  sheet_steps_never_22 lawful = sheet_not_22 lawful sheet hall records opens (open_table edition.limits hall lent_table).after

  -- "The sheet program fills in the right number itself": no step of a sheet is answered 23, and all are answered as they were before there were
  -- message numbers.
  pub right_numbers_of_sheets : RightNumbers hall (events_of edition.limits hall records)
  right_numbers_of_sheets = sent_numbers_right edition.limits hall lent_table accepted (calls_in records)

  pub sheet_steps_never_23 : (i : ℕ) → number_at (events_of edition.limits hall records) i ≡ 23 → ⊥
  sheet_steps_never_23 = (answered_as_before edition.limits hall lent_table accepted sent).never_23 right_numbers_of_sheets

  pub sheet_answers_as_before : answers_of (events_of edition.limits hall records) ≡ answers_of (run (step_unnumbered edition.limits hall) (fresh hall) (calls_in records))
  sheet_answers_as_before =
      (answered_as_before edition.limits hall lent_table accepted sent).answers right_numbers_of_sheets
      ∙ sent_unnumbered edition.limits hall (calls_in records) (open_table edition.limits hall lent_table).after (fresh hall)
