-- What is written for a sheet, by what was found of it: its header and its records, or what ended its reading.
use Prim.Native.Nat.{ℕ, zero, suc, ◌≤◌, ◌<◌}
use native.Mathlib.Omega.{arith}
use mathlib.Core.Path.{◌≡◌, refl, sym, ap, ◌∙◌}
use mathlib.Core.List.{List, ◌++◌}
use mathlib.Core.Option.{Option, some}
use lib.ListN.{length, length-append, length-replicate}
use borrow.Author.Tests.{le-leb, lt-leb}
use Rattle.board.specs.Kind.{first}
use Rattle.board.specs.Opening.{OpeningAnswer}
use Rattle.buffer.specs.Put.{Put, put_so_far}
use Rattle.buffer.specs.declared.Buffer.{Buffer}
use Rattle.reply.specs.Answer.{number_of}
use Rattle.reply.specs.declared.Reason.{Reason}
use Rattle.reply.proofs.Numbers.{not_0}
use Rattle.buffer.proofs.Laws.Put.{put_first, put_on}
use Rattle.rules.specs.Hall.{Hall, Limits}
use Rattle.rules.specs.Numbers.{Refusal, parsed, refusal_of, refused}
use Rattle.rules.specs.Steps.{Answer}
use Rattle.rules.specs.Table.{max_words}
use Rattle.sheet_rules.specs.Offsets.{ending_in}
use Rattle.sheet_rules.specs.Rewriting.{meaning_of, refused_sheet_line, rewrite, unless_too_long, write_reading, write_unless}
use Rattle.sheet_rules.specs.Sheet.{Edition, Records, begin_sheet, encode_sheet, if_opens, lent_table, max_bytes, open_sheet, opened, opening_number}
use Rattle.sheet_rules.proofs.Laws.Sheet.{begun, opening_answer, reading-opens}
use Rattle.rewriter.specs.Build.{PutRecords, records_from, written_for}

-- ---- The opening.

-- the board's number for the opening, where the table has as many words as the program's
pub opening_number_lem : (limits : Limits) (hall : Hall) {answer : Answer} → OpeningAnswer first limits hall max_words answer → opening_number limits hall ≡ answer.number
unfolding lent_table
opening_number_lem limits hall said = sym (ap (λ (a : Answer). a.number) (said lent_table (length-replicate {A = ℕ} max_words 0) ∙ opening_answer limits hall))

module _ (edition : Edition) (sheet : List ℕ) {hall : Hall} {next : ℕ} (found : begin_sheet edition sheet ≡ parsed hall next) where
  pub sheet_opens : opening_number edition.limits hall ≡ 0 → parsed hall next ≡ open_sheet edition sheet
  sheet_opens opening = sym (begun edition sheet found opening)

  pub sheet_refused : (reason : Reason) → opening_number edition.limits hall ≡ number_of reason → refused (refusal_of 0 (number_of reason) 0) ≡ open_sheet edition sheet
  sheet_refused reason opening = sym (begun edition sheet found opening ∙ not_zero (number_of reason) (not_0 reason))
    where
      not_zero : (n : ℕ) → (n ≡ 0 → ⊥) → if_opens n hall next ≡ refused (refusal_of 0 n 0)
      not_zero zero not-accepted = absurd (not-accepted refl)
      not_zero (suc n) not-accepted = refl

-- ---- What is written.
pub writes_refusal : (from to : Edition) (sheet : List ℕ) {reason : Refusal} → refused reason ≡ open_sheet from sheet
    → refused_sheet_line reason.number reason.offset ≡ rewrite from to sheet
unfolding rewrite
writes_refusal from to sheet is = sym (ap (write_reading to) (reading-opens from sheet (sym is)))

pub writes_opened : (from to : Edition) (sheet : List ℕ) {hall : Hall} {next : ℕ} → parsed hall next ≡ open_sheet from sheet
    → write_reading to (opened hall (records_from from sheet next)) ≡ rewrite from to sheet
unfolding rewrite
writes_opened from to sheet is = sym (ap (write_reading to) (reading-opens from sheet (sym is)))

-- ---- A sheet that was built: its header and its records, or what ended its reading.
module _ (to : Edition) (hall : Hall) (records : Records) where
  pub writes_later_refusal : {reason : Refusal} → ending_in records ≡ some reason
      → refused_sheet_line reason.number reason.offset ≡ write_reading to (opened hall records)
  writes_later_refusal end = sym (ap (λ (e : Option Refusal). write_unless to e (meaning_of hall records)) end)

  -- the header was put into an empty buffer, and the records after it
  module _ {empty headed built : Buffer} (is-empty : empty.len ≡ 0) (header : Put empty headed (to.encode_header hall)) (put : PutRecords to records headed built) where
    abbrev bytes : List ℕ
    bytes = to.encode_header hall ++ written_for to records

    written : unless_too_long bytes ≡ write_reading to (opened hall records)
    unfolding encode_sheet
    written = sym (ap (λ (e : Option Refusal). write_unless to e (meaning_of hall records)) put.none_ends)

    pub writes_too_long : max_bytes < built.len → refused_sheet_line 18 0 ≡ write_reading to (opened hall records)
    writes_too_long long =
        let over : max_bytes < length bytes = omega (arith, put.long long, is-empty, header.len, length-append (to.encode_header hall) (written_for to records)) in
        sym (simp (lt-leb (length bytes) max_bytes over)) ∙ written

    pub writes_sheet : built.len ≤ max_bytes → put_so_far built ≡ write_reading to (opened hall records)
    writes_sheet short =
        let all : Put empty built bytes = put_on header (put.short short) in
        let few : length bytes ≤ max_bytes = omega (arith, all.len, is-empty, short) in
        put_first all is-empty ∙ sym (simp (le-leb (length bytes) max_bytes few)) ∙ written
