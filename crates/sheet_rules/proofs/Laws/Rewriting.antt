-- A sheet that is written anew: it is accepted with the same meaning, or the line of what ended its reading is written.
use Rattle.std.specs.Prelude.{ℕ, zero, suc, ◌+◌, ◌/◌, ◌%◌, ◌≤◌, ◌≡◌, Bool, List, [], ◌∷◌, ◌++◌, length, ltb}
use Rattle.std.proofs.Common.{arith, sym, ◌∙◌, subst, ⊎_elim}
use Rattle.std.proofs.Math.Path.{refl, ap}
use Rattle.std.proofs.Math.Bool.{true, false, cond}
use Rattle.std.proofs.Math.Logic.{inl, inr}
use Rattle.std.proofs.Math.Option.{Option, none, some}
use Rattle.std.proofs.Math.Dec.{leb}
use borrow.Author.Tests.{le-leb, leb-false, leb-true, ltb-true}
use Rattle.rules.specs.Bytes.{IsBytes}
use Rattle.rules.specs.Hall.{Hall, Limits, hall_limits}
use Rattle.rules.specs.Numbers.{Refusal}
use Rattle.sheet_rules.specs.Edition1.{Format, archive_edition, archive_format, edition1, hall_edition, hall_format}
use Rattle.sheet_rules.specs.Edition2.{Version, edition_for}
use Rattle.sheet_rules.specs.Lawful.{Exact, Lawful, LawfulNumbers}
use Rattle.sheet_rules.specs.Lines.{decimal, digits, lines_of, printed, spaced}
use Rattle.sheet_rules.specs.Offsets.{ending_in}
use Rattle.sheet_rules.specs.Rewriting.{Rewritten, RewrittenOrRefused, Shortened, ShortenedOrRefused, entries_in, meaning_of, refused_sheet_line, rewrite, shorten}
use Rattle.sheet_rules.specs.Rewriting.{unless_too_long, write_reading, write_unless}
use Rattle.sheet_rules.specs.Sheet.{Accepted, Carried, Edition, GoodMeaning, Meaning, Reading, Record, Records, carried_after, complete, encode_records, encode_sheet}
use Rattle.sheet_rules.specs.Sheet.{max_bytes, more, no_desk, opened, reading, stop, unopened, whole}
use Rattle.sheet_rules.proofs.Laws.Edition1.{archive_lawful, hall_exact, hall_lawful}
use Rattle.sheet_rules.proofs.Laws.Editions.{FirstNumber, first_byte, one_first_number, starts_small}
use Rattle.sheet_rules.proofs.Laws.Exact.{accepted_bytes, accepted_no_longer}
use Rattle.sheet_rules.proofs.Laws.Longest.{refused_length}
use Rattle.sheet_rules.proofs.Laws.Sheet.{accepted_good, opened_from, reading-back}

-- ---- Records that nothing ended are whole.
none_not_some : {reason : Refusal} → ◌≡◌ {A = Option Refusal} (some reason) none → ⊥
none_not_some e = let z : ◌≡◌ {A = ℕ} 0 1 = cc in omega arith

pub records-whole : (records : Records) → ending_in records ≡ none → records ≡ whole (entries_in records)
records-whole complete e = refl
records-whole (stop reason) e = absurd (none_not_some e)
records-whole (more entry rest) e = ap (more entry) (records-whole rest e)

entries_whole : (entries : List Record) → entries_in (whole entries) ≡ entries
entries_whole [] = refl
entries_whole (entry ∷ entries) = ap (λ (more : List Record). entry ∷ more) (entries_whole entries)

nothing_ends_whole : (entries : List Record) → ending_in (whole entries) ≡ none
nothing_ends_whole [] = refl
nothing_ends_whole (entry ∷ entries) = nothing_ends_whole entries

-- An accepted sheet is written with its meaning, unless that is too long.
pub rewrite_accepted : (from to : Edition) (sheet : List ℕ) (meaning : Meaning) → Accepted from sheet meaning
    → rewrite from to sheet ≡ unless_too_long (encode_sheet to meaning)
unfolding rewrite
rewrite_accepted from to sheet meaning e =
    ap (write_reading to) e
    ∙ ap (λ (end : Option Refusal). write_unless to end (meaning_of meaning.header (whole meaning.records))) (nothing_ends_whole meaning.records)
    ∙ ap (λ (entries : List Record). unless_too_long (encode_sheet to (record { header = meaning.header; records = entries }))) (entries_whole meaning.records)

not_too_long : (sheet : List ℕ) → length sheet ≤ max_bytes → unless_too_long sheet ≡ sheet
not_too_long sheet short = simp (le-leb (length sheet) max_bytes short)

pub rewrite_short : (from to : Edition) (sheet : List ℕ) (meaning : Meaning) → Accepted from sheet meaning → length (encode_sheet to meaning) ≤ max_bytes
    → rewrite from to sheet ≡ encode_sheet to meaning
rewrite_short from to sheet meaning e short = rewrite_accepted from to sheet meaning e ∙ not_too_long (encode_sheet to meaning) short

-- ---- Whatever the editions, a sheet is rewritten or refused.
module _ {from to : Edition} (from-lawful : Lawful from) (to-lawful : Lawful to) (room : from.limits ≡ to.limits) where
  pub rewritten : (sheet : List ℕ) (meaning : Meaning) → Accepted from sheet meaning → length (encode_sheet to meaning) ≤ max_bytes
      → Rewritten from to sheet (rewrite from to sheet)
  rewritten sheet meaning e short =
      let output : rewrite from to sheet ≡ encode_sheet to meaning = rewrite_short from to sheet meaning e short in
      record {
        meaning = meaning;
        was_accepted_lem = e;
        written = output;
        is_accepted_lem =
            subst (λ (bytes : List ℕ). Accepted to bytes meaning) (sym output)
            (reading-back to-lawful meaning (subst (λ (limits : Limits). GoodMeaning limits meaning) room (accepted_good from-lawful sheet meaning e)) short);
      }

  pub rewritten_or_refused : (sheet : List ℕ) → RewrittenOrRefused from to sheet (rewrite from to sheet)
  unfolding rewrite
  rewritten_or_refused sheet = by_reading (reading from sheet) refl
    where
      by_length : (meaning : Meaning) → Accepted from sheet meaning → (short : Bool) → leb (length (encode_sheet to meaning)) max_bytes ≡ short
          → RewrittenOrRefused from to sheet (rewrite from to sheet)
      by_length meaning e true is = inl (rewritten sheet meaning e (leb-true (length (encode_sheet to meaning)) max_bytes is))
      by_length meaning e false is =
          inr
          (inl
          (record {
            meaning = meaning;
            was_accepted_lem = e;
            over = leb-false (length (encode_sheet to meaning)) max_bytes is;
            line = rewrite_accepted from to sheet meaning e ∙ ap (λ (short : Bool). cond short (encode_sheet to meaning) (refused_sheet_line 18 0)) is;
          }))

      by_ending : (hall : Hall) (records : Records) → reading from sheet ≡ opened hall records → (end : Option Refusal) → ending_in records ≡ end
          → RewrittenOrRefused from to sheet (rewrite from to sheet)
      by_ending hall records opens none e =
          by_length (meaning_of hall records) (opens ∙ ap (opened hall) (records-whole records e)) (leb (length (encode_sheet to (meaning_of hall records))) max_bytes) refl
      by_ending hall records opens (some reason) e = inr (inr (record { reason = reason; ends = simp (opens, e); line = simp (opens, e) }))

      by_reading : (found : Reading) → reading from sheet ≡ found → RewrittenOrRefused from to sheet (rewrite from to sheet)
      by_reading (unopened reason) e = inr (inr (record { reason = reason; ends = simp e; line = simp e }))
      by_reading (opened hall records) e = by_ending hall records e (ending_in records) refl

-- Its lines stay the same,
pub rewritten_prints_the_same : {from to : Edition} {sheet output : List ℕ} → from.limits ≡ to.limits → Rewritten from to sheet output → printed to output ≡ printed from sheet
unfolding printed
rewritten_prints_the_same room is = λ i. lines_of (sym room i) ((is.is_accepted_lem ∙ sym is.was_accepted_lem) i)

-- and if the first edition is exact, the way back gives the first bytes again.
pub back_again : {from to : Edition} → Lawful from → Exact from → {sheet output : List ℕ} → IsBytes sheet → Rewritten from to sheet output
    → rewrite to from output ≡ sheet
back_again {from} {to} lawful exact {sheet} {output} are is =
    let bytes : sheet ≡ encode_sheet from is.meaning = accepted_bytes lawful exact sheet is.meaning are is.was_accepted_lem in
    let short = (opened_from from sheet is.meaning.header (whole is.meaning.records) is.was_accepted_lem).short in
    rewrite_short to from output is.meaning is.is_accepted_lem (omega (arith, short, ap length bytes)) ∙ sym bytes

-- ---- The output fits into 65,536 bytes.
pub rewritten_fits : (from to : Edition) (sheet : List ℕ) → length (rewrite from to sheet) ≤ max_bytes
unfolding rewrite
rewritten_fits from to sheet = by_reading (reading from sheet)
  where
    line_fits : (number offset : ℕ) → length (refused_sheet_line number offset) ≤ max_bytes
    line_fits number offset = omega (arith, refused_length number offset)

    by_length : (bytes : List ℕ) (short : Bool) → leb (length bytes) max_bytes ≡ short → length (cond short bytes (refused_sheet_line 18 0)) ≤ max_bytes
    by_length bytes true is = leb-true (length bytes) max_bytes is
    by_length bytes false is = line_fits 18 0

    by_ending : (end : Option Refusal) (meaning : Meaning) → length (write_unless to end meaning) ≤ max_bytes
    by_ending none meaning = by_length (encode_sheet to meaning) (leb (length (encode_sheet to meaning)) max_bytes) refl
    by_ending (some reason) meaning = line_fits reason.number reason.offset

    by_reading : (found : Reading) → length (write_reading to found) ≤ max_bytes
    by_reading (unopened reason) = line_fits reason.number reason.offset
    by_reading (opened hall records) = by_ending (ending_in records) (meaning_of hall records)

-- ---- Formats do not change what edition 1 writes.
records_written : (format other : Format) (carried : Carried) (entries : List Record) → encode_records (edition1 format) carried entries ≡ encode_records (edition1 other) carried entries
records_written format other carried [] = refl
records_written format other carried (entry ∷ entries) =
    ap (λ (rest : List ℕ). (edition1 format).encode_record carried entry ++ rest) (records_written format other (carried_after entry) entries)

pub same_written : (format other : Format) (meaning : Meaning) → encode_sheet (edition1 format) meaning ≡ encode_sheet (edition1 other) meaning
unfolding encode_sheet
same_written format other meaning =
    ap (λ (rest : List ℕ). (edition1 format).encode_header meaning.header ++ rest) (records_written format other no_desk meaning.records)

pub read_by_both : (meaning : Meaning) → GoodMeaning hall_limits meaning → length (encode_sheet hall_edition meaning) ≤ max_bytes
    → Accepted hall_edition (encode_sheet hall_edition meaning) meaning × Accepted archive_edition (encode_sheet hall_edition meaning) meaning
read_by_both meaning good short =
    let same : encode_sheet archive_edition meaning ≡ encode_sheet hall_edition meaning = same_written archive_format hall_format meaning in
    (reading-back hall_lawful meaning good short, subst (λ (bytes : List ℕ). Accepted archive_edition bytes meaning) same (reading-back archive_lawful meaning good (omega (arith, short, ap length same))))

-- ---- Shortening.
shortened_short : (sheet : List ℕ) (meaning : Meaning) → Accepted archive_edition sheet meaning → length (encode_sheet hall_edition meaning) ≤ length sheet
shortened_short sheet meaning e =
    subst (λ (bytes : List ℕ). length bytes ≤ length sheet) (same_written archive_format hall_format meaning) (accepted_no_longer archive_lawful sheet meaning e)

archive_short : (sheet : List ℕ) (meaning : Meaning) → Accepted archive_edition sheet meaning → length sheet ≤ max_bytes
archive_short sheet meaning e = (opened_from archive_edition sheet meaning.header (whole meaning.records) e).short

pub shortened : (sheet : List ℕ) (meaning : Meaning) → Accepted archive_edition sheet meaning → Shortened sheet (shorten sheet)
shortened sheet meaning e =
    let short : length (encode_sheet hall_edition meaning) ≤ length sheet = shortened_short sheet meaning e in
    let fits : length (encode_sheet hall_edition meaning) ≤ max_bytes = omega (arith, short, archive_short sheet meaning e) in
    record {
      rewritten = rewritten archive_lawful hall_lawful refl sheet meaning e fits;
      no_longer = omega (arith, short, ap length (rewrite_short archive_edition hall_edition sheet meaning e fits));
    }

pub shortened_or_refused : (sheet : List ℕ) → ShortenedOrRefused sheet (shorten sheet)
shortened_or_refused sheet =
    ⊎_elim (λ is. inl (shortened sheet is.meaning is.was_accepted_lem))
    (⊎_elim
    (λ long. absurd (omega (arith, long.over, shortened_short sheet long.meaning long.was_accepted_lem, archive_short sheet long.meaning long.was_accepted_lem)))
    (λ refusal. inr refusal))
    (rewritten_or_refused archive_lawful hall_lawful refl sheet)

pub shortest_stays : (sheet : List ℕ) (meaning : Meaning) → IsBytes sheet → Accepted hall_edition sheet meaning → shorten sheet ≡ sheet
shortest_stays sheet meaning are e =
    let bytes : sheet ≡ encode_sheet hall_edition meaning = accepted_bytes hall_lawful hall_exact sheet meaning are e in
    let old : sheet ≡ encode_sheet archive_edition meaning = bytes ∙ same_written hall_format archive_format meaning in
    let short = (opened_from hall_edition sheet meaning.header (whole meaning.records) e).short in
    let accepted : Accepted archive_edition sheet meaning =
    subst (λ (text : List ℕ). Accepted archive_edition text meaning) (sym old)
    (reading-back archive_lawful meaning (accepted_good hall_lawful sheet meaning e) (omega (arith, short, ap length old))) in
    rewrite_short archive_edition hall_edition sheet meaning accepted (omega (arith, short, ap length bytes)) ∙ sym bytes

-- ---- The line of a refused sheet is no sheet: it starts with a digit, and no hall has so many desks.
record Starts (bytes : List ℕ) : Type 0 where
  first : ℕ
  rest : List ℕ
  are : bytes ≡ first ∷ rest
  low : 48 ≤ first
  high : first ≤ 57

starts_then : {bytes : List ℕ} (later : List ℕ) → Starts bytes → Starts (bytes ++ later)
starts_then later starts = record {
  first = starts.first;
  rest = starts.rest ++ later;
  are = ap (λ (bytes : List ℕ). bytes ++ later) starts.are;
  low = starts.low;
  high = starts.high;
}

digits-start : (most value : ℕ) → Starts (digits (suc most) value)
digits-start zero value = by_size (ltb value 10) refl
  where
    by_size : (small : Bool) → ltb value 10 ≡ small → Starts (cond small ((48 + value) ∷ []) ((48 + value % 10) ∷ []))
    by_size true is = record { first = 48 + value; rest = []; are = refl; low = omega arith; high = omega (arith, ltb-true value 10 is) }
    by_size false is = record { first = 48 + value % 10; rest = []; are = refl; low = omega arith; high = omega arith }
digits-start (suc most) value = by_size (ltb value 10) refl (digits-start most (value / 10))
  where
    by_size : (small : Bool) → ltb value 10 ≡ small → Starts (digits (suc most) (value / 10))
        → Starts (cond small ((48 + value) ∷ []) (digits (suc most) (value / 10) ++ ((48 + value % 10) ∷ [])))
    by_size true is tenth = record { first = 48 + value; rest = []; are = refl; low = omega arith; high = omega (arith, ltb-true value 10 is) }
    by_size false is tenth = starts_then ((48 + value % 10) ∷ []) tenth

line_starts : (number offset : ℕ) → Starts (refused_sheet_line number offset)
unfolding refused_sheet_line decimal
line_starts number offset = starts_then (32 ∷ spaced (offset ∷ [])) (digits-start 19 number)

module _ (format : Format) (numbers : LawfulNumbers format.read_number) where
  pub line_no_sheet : (version : Version) (number offset : ℕ) (meaning : Meaning) → Accepted (edition_for version format) (refused_sheet_line number offset) meaning → ⊥
  line_no_sheet version number offset meaning e =
      let starts = line_starts number offset in
      let digit : FirstNumber format (refused_sheet_line number offset) starts.first =
      subst (λ (bytes : List ℕ). FirstNumber format bytes starts.first) (sym starts.are) (first_byte format numbers starts.first starts.rest (omega (arith, starts.high))) in
      let read = starts_small format version (refused_sheet_line number offset) meaning e in
      omega (arith, read.2, starts.low, one_first_number format (refused_sheet_line number offset) read.0 starts.first read.1 digit)
