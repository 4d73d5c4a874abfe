-- Each statement about sheets at one instance, with numbers that all differ: what it says there.
use Rattle.std.specs.Prelude.{ℕ, ◌+◌, ◌≤◌, ◌<◌, ◌≡◌, refl, true, List, [], ◌∷◌, ◌++◌, ◌⊎◌, length, take, drop}
use Rattle.std.proofs.Common.{arith, sym, true≢false}
use Rattle.std.proofs.Math.Option.{some}
use Rattle.rules.specs.Bytes.{IsBytes}
use Rattle.rules.specs.Hall.{Limits, hall_of}
use Rattle.rules.specs.Numbers.{Parsed, Refusal, parsed, refusal, refusal_of, refused}
use Rattle.sheet_rules.specs.OtherEdition.{HeaderNumberRefused, RefusedHeader}
use Rattle.sheet_rules.specs.Edition1.{Format, NumberReader, archive_edition, decode_header, edition1, encode_number, hall_edition}
use Rattle.sheet_rules.specs.Lawful.{CarriedHolds, Exact, ExactNumbers, Lawful, LawfulNumbers, Moved, ReadsBack, RefusedAt, Stands}
use Rattle.sheet_rules.specs.Lines.{end_line, line, printed, refusal_line}
use Rattle.sheet_rules.specs.Offsets.{EditionOfNumbers, Located, NumberThen, NumbersBetween, NumbersFill, OfNumbers, PrintsRefusal, ShowsByte, WholeLines, ending, refuses_number}
use Rattle.sheet_rules.specs.Rewriting.{RefusedSheet, Rewritten, RewrittenOrRefused, Shortened, ShortenedOrRefused, TooLong, refused_sheet_line}
use Rattle.sheet_rules.specs.Sheet.{Accepted, EachGood, Edition, GoodMeaning, GoodRecord, Meaning, Record, is_code, last_desk, no_desk, opened, opening_number}
use Rattle.sheet_rules.specs.Sheet.{WrittenSheet, encode_sheet, reading, record_for, whole}
use Rattle.sheet_rules.specs.Tally.{zeros}

-- ---- Records that a sheet can have, where sessions are at most 999: a take has no session, a swap has no screen, and a retire
-- has no screen, position or session.
pub good_take : GoodRecord 999 (record_for 1 65535 65535 65535 0)
good_take = record { code = refl; desk = omega arith; screen = omega arith; position = omega arith; session = refl }

pub good_swap : GoodRecord 999 (record_for 3 65535 0 65535 999)
good_swap = record { code = refl; desk = omega arith; screen = refl; position = omega arith; session = omega arith }

pub good_drop : GoodRecord 999 (record_for 2 3 4 0 0)
good_drop = record { code = refl; desk = omega arith; screen = omega arith; position = refl; session = refl }

pub good_retire : GoodRecord 999 (record_for 4 65535 0 0 0)
good_retire = record { code = refl; desk = omega arith; screen = refl; position = refl; session = refl }

-- Records that a sheet cannot have: a code that no step has; a desk, a screen, a position and a session that are too large; a take with a
-- session and a swap with a screen.
pub no-good-records :
    (GoodRecord 999 (record_for 6 0 0 0 0) → ⊥)
    × (GoodRecord 999 (record_for 1 65536 3 4 0) → ⊥)
    × (GoodRecord 999 (record_for 1 2 65536 4 0) → ⊥)
    × (GoodRecord 999 (record_for 1 2 3 65536 0) → ⊥)
    × (GoodRecord 999 (record_for 3 2 0 4 1000) → ⊥)
    × (GoodRecord 999 (record_for 1 2 3 4 5) → ⊥)
    × (GoodRecord 999 (record_for 3 2 1 4 5) → ⊥)
no-good-records = (
  λ good. true≢false (sym good.code),
  λ good. omega (arith, good.desk),
  λ good. omega (arith, good.screen),
  λ good. omega (arith, good.position),
  λ good. omega (arith, good.session),
  λ good. omega (arith, good.session),
  λ good. omega (arith, good.screen),
)

pub says_each_good : (first second : Record) → EachGood 999 (first ∷ second ∷ []) → GoodRecord 999 first × GoodRecord 999 second
says_each_good first second good = (good.0, good.1.0)

-- A room with limits that all differ.
abbrev pub limited : Limits
limited = record { desks = 2; screens = 3; positions = 4; sessions = 999 }

pub says_good_meaning : (meaning : Meaning) → GoodMeaning limited meaning → (opening_number limited meaning.header ≡ 0) × EachGood 999 meaning.records
says_good_meaning meaning good = (good.opens, good.records)

pub says_accepted : (edition : Edition) (sheet : List ℕ) (meaning : Meaning) → Accepted edition sheet meaning → reading edition sheet ≡ opened meaning.header (whole meaning.records)
says_accepted edition sheet meaning accepted = accepted

-- ---- Bytes that a sheet contains: 8 and 9, from offset 2 up to offset 4.
pub stands : Stands (8 ∷ 9 ∷ []) (6 ∷ 7 ∷ 8 ∷ 9 ∷ 5 ∷ []) 2 4
stands = record { content = refl; end = refl }

pub says_stands : (bytes sheet : List ℕ) → Stands bytes sheet 2 4 → (drop 2 sheet ≡ bytes ++ drop 4 sheet) × (4 ≡ 2 + length bytes)
says_stands bytes sheet stands = (stands.content, stands.end)

pub says_moved : (sheet : List ℕ) → Moved sheet 2 4 → (2 < 4) × (4 ≤ length sheet)
says_moved sheet moved = (moved.past, moved.inside)

pub says_read_back : (parser : List ℕ → ℕ → Parsed ℕ) (bytes sheet : List ℕ) → ReadsBack parser bytes 7 → Stands bytes sheet 2 4 → parser sheet 2 ≡ parsed 7 4
says_read_back parser bytes sheet reads = reads sheet 2 4

-- A desk that is carried over is at most 65,535.
pub says_carried : CarriedHolds no_desk × CarriedHolds (last_desk 65535) × (CarriedHolds (last_desk 65536) → ⊥)
says_carried = (tt, omega arith, λ holds. omega (arith, holds))

-- ---- Editions; desk 3 is carried over.
module _ (edition : Edition) (lawful : Lawful edition) (sheet : List ℕ) where
  pub says_header_read_back : opening_number edition.limits (hall_of 2 3 4) ≡ 0 → ReadsBack edition.decode_header (edition.encode_header (hall_of 2 3 4)) (hall_of 2 3 4)
  says_header_read_back = lawful.header_read_back (hall_of 2 3 4)

  pub says_header_moves : edition.decode_header sheet 5 ≡ parsed (hall_of 2 3 4) 8 → Moved sheet 5 8
  says_header_moves = lawful.header_moves sheet 5 (hall_of 2 3 4) 8

  pub says_header_no_longer : edition.decode_header sheet 5 ≡ parsed (hall_of 2 3 4) 8 → 5 + length (edition.encode_header (hall_of 2 3 4)) ≤ 8
  says_header_no_longer = lawful.header_no_longer sheet 5 (hall_of 2 3 4) 8

  module _ (entry : Record) where
    pub says_record_read_back : GoodRecord edition.limits.sessions entry → ReadsBack (edition.decode_record (last_desk 3)) (edition.encode_record (last_desk 3) entry) entry
    says_record_read_back = lawful.record_read_back (last_desk 3) entry

    pub says_record_moves : edition.decode_record (last_desk 3) sheet 5 ≡ parsed entry 8 → Moved sheet 5 8
    says_record_moves = lawful.record_moves (last_desk 3) sheet 5 entry 8

    pub says_record_no_longer : edition.decode_record (last_desk 3) sheet 5 ≡ parsed entry 8 → 5 + length (edition.encode_record (last_desk 3) entry) ≤ 8
    says_record_no_longer = lawful.record_no_longer (last_desk 3) sheet 5 entry 8

    pub says_record_code : edition.decode_record (last_desk 3) sheet 5 ≡ parsed entry 8 → is_code entry.code ≡ true
    says_record_code = lawful.record_code (last_desk 3) sheet 5 entry 8

    pub says_record_good : CarriedHolds (last_desk 3) → edition.decode_record (last_desk 3) sheet 5 ≡ parsed entry 8 → GoodRecord edition.limits.sessions entry
    says_record_good = lawful.record_good (last_desk 3) sheet 5 entry 8

-- An edition that is exact.
module _ (edition : Edition) (exact : Exact edition) (sheet : List ℕ) where
  pub says_header_exact : IsBytes sheet → edition.decode_header sheet 5 ≡ parsed (hall_of 2 3 4) 8 → Stands (edition.encode_header (hall_of 2 3 4)) sheet 5 8
  says_header_exact = exact.header_exact sheet 5 (hall_of 2 3 4) 8

  pub says_record_exact : (entry : Record) → IsBytes sheet → edition.decode_record (last_desk 3) sheet 5 ≡ parsed entry 8
      → Stands (edition.encode_record (last_desk 3) entry) sheet 5 8
  says_record_exact entry = exact.record_exact (last_desk 3) sheet 5 entry 8

pub says_exact_numbers : (read_number : NumberReader) (sheet : List ℕ) → ExactNumbers read_number → IsBytes sheet → read_number 999 sheet 5 ≡ parsed 7 8
    → Stands (encode_number 7) sheet 5 8
says_exact_numbers read_number sheet exact = exact 999 sheet 5 7 8

pub says_written : (edition : Edition) (sheet : List ℕ) (meaning : Meaning) → WrittenSheet edition sheet meaning
    → GoodMeaning edition.limits meaning × (length sheet ≤ 65536) × (sheet ≡ encode_sheet edition meaning)
says_written edition sheet meaning written = (written.good, written.short, written.bytes)

-- Numbers that are at most 999: 7, from offset 5 up to offset 8.
module _ (read_number : NumberReader) (lawful : LawfulNumbers read_number) (sheet : List ℕ) where
  pub says_number_read_back : 7 ≤ 999 → 999 ≤ 65535 → ReadsBack (read_number 999) (encode_number 7) 7
  says_number_read_back = lawful.read_back 999 7

  pub says_number_small : read_number 999 sheet 5 ≡ parsed 7 8 → 7 ≤ 999
  says_number_small = lawful.small 999 sheet 5 7 8

  pub says_number_moves : read_number 999 sheet 5 ≡ parsed 7 8 → Moved sheet 5 8
  says_number_moves = lawful.moves 999 sheet 5 7 8

  pub says_number_no_longer : read_number 999 sheet 5 ≡ parsed 7 8 → 5 + length (encode_number 7) ≤ 8
  says_number_no_longer = lawful.no_longer 999 sheet 5 7 8

  -- another sheet with the same first eight bytes
  pub says_number_bytes_after : (other : List ℕ) → read_number 999 sheet 5 ≡ parsed 7 8 → take 8 other ≡ take 8 sheet → read_number 999 other 5 ≡ parsed 7 8
  says_number_bytes_after other = lawful.bytes_after 999 sheet other 5 7 8

  pub says_number_larger_limit : read_number 999 sheet 5 ≡ parsed 7 8 → 999 ≤ 1000 → read_number 1000 sheet 5 ≡ parsed 7 8
  says_number_larger_limit = lawful.larger_limit 999 1000 sheet 5 7 8

  pub says_number_own_offset : (reason : Refusal) → read_number 999 sheet 5 ≡ refused reason
      → RefusedAt 5 reason
  says_number_own_offset = lawful.own_offset 999 sheet 5

pub says_refused_at : (reason : Refusal) → RefusedAt 5 reason → (reason ≡ refusal_of 0 reason.number 5) × (refuses_number reason.number ≡ true)
says_refused_at reason at = (at.carries, at.refuses)

-- ---- The byte that a refusal shows, in a sheet that is read from offset 5 on: 8, with code 3.
module _ (format : Format) (sheet : List ℕ) where
  pub says_number_then : (Rest : ℕ → Type 0) (then : NumberThen format.read_number sheet 5 Rest)
      → (format.read_number 65535 sheet 5 ≡ parsed then.value then.next) × Rest then.next
  says_number_then Rest then = (then.read, then.rest)

  pub says_numbers_between : (filled : NumbersBetween format sheet 5 8) → NumbersFill format.read_number sheet filled.count 5 8
  says_numbers_between filled = filled.numbers

  pub says_shows_byte : (byte : ShowsByte format sheet 5 15 8)
      → NumbersBetween format sheet 5 8
      × ((byte.limit ≡ 65535) ⊎ (byte.limit ≡ format.limits.sessions))
      × (format.read_number byte.limit sheet 8 ≡ refusal 0 15 8)
  says_shows_byte byte = (byte.before, byte.limited, byte.refuses)

  pub says_located : Located format sheet 5 (refusal_of 3 15 8) → ShowsByte format sheet 5 15 8
  says_located located = located.shows refl

  -- 17 shows no offset.
  pub says_located_none : Located format sheet 5 (refusal_of 3 17 8) → ◌≡◌ {A = ℕ} 8 0
  says_located_none located = located.no_offset refl

  pub says-of-numbers :
      (OfNumbers {A = ℕ} format sheet 5 (parsed 7 8) → NumbersBetween format sheet 5 8)
      × (OfNumbers {A = ℕ} format sheet 5 (refusal 3 15 8) → Located format sheet 5 (refusal_of 3 15 8))
  says-of-numbers = (λ filled. filled, λ located. located)

  pub says_edition_of_numbers : (edition : Edition) → EditionOfNumbers format edition
      → OfNumbers format sheet 5 (edition.decode_header sheet 5) × OfNumbers format sheet 5 (edition.decode_record (last_desk 3) sheet 5)
  says_edition_of_numbers edition of-numbers = (of-numbers.header_of_numbers sheet 5, of-numbers.record_of_numbers (last_desk 3) sheet 5)

pub says_prints_refusal : (text : List ℕ) (prints : PrintsRefusal text (refusal_of 3 15 8))
    → WholeLines prints.before × (text ≡ prints.before ++ (line prints.index 3 15 8 ++ end_line prints.tally))
says_prints_refusal text prints = (prints.whole, prints.printed)

-- ---- A sheet that is written anew, or refused.
module _ (from to : Edition) (sheet output : List ℕ) where
  pub says_rewritten : (is : Rewritten from to sheet output)
      → Accepted from sheet is.meaning × (output ≡ encode_sheet to is.meaning) × Accepted to output is.meaning
  says_rewritten is = (is.was_accepted_lem, is.written, is.is_accepted_lem)

  pub says_too_long : (is : TooLong from to sheet output)
      → Accepted from sheet is.meaning × (65536 < length (encode_sheet to is.meaning)) × (output ≡ refused_sheet_line 18 0)
  says_too_long is = (is.was_accepted_lem, is.over, is.line)

  pub says_refused_sheet : (is : RefusedSheet from sheet output)
      → (ending (reading from sheet) ≡ some is.reason) × (output ≡ refused_sheet_line is.reason.number is.reason.offset)
  says_refused_sheet is = (is.ends, is.line)

  pub says_rewritten_or_refused : RewrittenOrRefused from to sheet output
      → Rewritten from to sheet output ⊎ (TooLong from to sheet output ⊎ RefusedSheet from sheet output)
  says_rewritten_or_refused is = is

module _ (sheet output : List ℕ) where
  pub says_shortened : Shortened sheet output → Rewritten archive_edition hall_edition sheet output × (length output ≤ length sheet)
  says_shortened is = (is.rewritten, is.no_longer)

  pub says_shortened_or_refused : ShortenedOrRefused sheet output → Shortened sheet output ⊎ RefusedSheet archive_edition sheet output
  says_shortened_or_refused is = is

-- ---- What a reader of edition 1 says to a sheet that starts with 0.
module _ (format : Format) (sheet : List ℕ) where
  pub says_header_number_refused : (is : HeaderNumberRefused format sheet (refusal_of 0 15 8))
      → (is.count < 3)
      × NumbersFill format.read_number sheet is.count 0 8
      × (format.read_number 65535 sheet 8 ≡ refusal 0 15 8)
      × (refuses_number 15 ≡ true)
  says_header_number_refused is = (is.few, is.before, is.refuses, is.a_number)

  pub says_refused_header : (is : RefusedHeader format sheet)
      → (printed (edition1 format) sheet ≡ refusal_line 0 is.reason ++ end_line zeros)
      × (decode_header format.read_number sheet 0 ≡ parsed (hall_of 0 3 4) 8 → is.reason ≡ refusal_of 0 1 0)
      × (decode_header format.read_number sheet 0 ≡ refusal 0 15 8 → (is.reason ≡ refusal_of 0 15 8) × HeaderNumberRefused format sheet (refusal_of 0 15 8))
  says_refused_header is = (is.two_lines, is.gets_through (hall_of 0 3 4) 8, is.otherwise (refusal_of 0 15 8))
