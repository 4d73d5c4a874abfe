-- How long a sheet's output is: at least a byte, and not more than a buffer of 6 million bytes holds.
use Rattle.std.specs.Prelude.{ℕ, zero, suc, ◌+◌, ◌*◌, ◌≤◌, ◌≡◌, refl, Bool, true, false, cond, List, ◌++◌, length, leb, ltb}
use Rattle.std.proofs.Common.{arith, length-append, leb-true}
use Rattle.rules.specs.Hall.{Hall}
use Rattle.rules.specs.Numbers.{Parsed, Refusal, bind, parsed, refusal_of, refused}
use Rattle.rules.specs.Table.{open_table}
use Rattle.sheet_rules.proofs.Laws.Longest.{end_length, line-length}
use Rattle.sheet_rules.specs.Lines.{end_line, line, lines_from, lines_of, printed, refusal_line}
use Rattle.sheet_rules.specs.Run.{run_record}
use Rattle.sheet_rules.specs.Sheet.{Carried, Edition, Record, after_opening, bind_records, carried_after, complete, decode_records, if_opens, lent_table, max_bytes, more}
use Rattle.sheet_rules.specs.Sheet.{no_desk, opening_number, reading}
use Rattle.sheet_rules.specs.Tally.{Tally, add_step, zeros}

-- A line has a byte or more.
pub line_some : (index code number session : ℕ) → 1 ≤ length (line index code number session)
unfolding line
line_some index code number session = simp length-append (omega arith)

line_and_rest : (index code number session most : ℕ) (rest : List ℕ) → length rest ≤ most → length (line index code number session ++ rest) ≤ 84 + most
line_and_rest index code number session most rest few =
    omega (arith, length-append (line index code number session) rest, line-length index code number session)

-- The lines of at most so many records, with the line of what ends the reading and the last line.
lines_bounded : (edition : Edition) (most : ℕ) (carried : Carried) (sheet : List ℕ) (at : ℕ) (table : List ℕ) (index : ℕ) (tally : Tally)
    → length (lines_from edition.limits table index tally (decode_records edition most carried sheet at)) ≤ 84 * suc most + 67
lines_bounded edition zero carried sheet at table index tally = omega (arith, end_length tally)
lines_bounded edition (suc most) carried sheet at table index tally =
    by_record (ltb at (length sheet)) (edition.decode_record carried sheet at) (λ after. lines_bounded edition most after sheet)
  where
    by_record : (inside : Bool) (found : Parsed Record)
        → ((after : Carried) (next : ℕ) (words : List ℕ) (i : ℕ) (total : Tally)
        → length (lines_from edition.limits words i total (decode_records edition most after sheet next)) ≤ 84 * suc most + 67)
        → length (lines_from edition.limits table index tally
        (cond inside (bind_records found (λ entry next. more entry (decode_records edition most (carried_after entry) sheet next))) complete))
        ≤ 84 * suc (suc most) + 67
    by_record false found later = omega (arith, end_length tally)
    by_record true (refused reason) later =
        omega (arith, line_and_rest index reason.code reason.number reason.offset 67 (end_line tally) (end_length tally))
    by_record true (parsed entry next) later =
        let done = run_record edition.limits table entry in
        let total : Tally = add_step tally entry.code done.answer in
        let rest : List ℕ = lines_from edition.limits done.after (suc index) total (decode_records edition most (carried_after entry) sheet next) in
        omega (
          arith,
          line_and_rest index entry.code done.answer.number done.answer.session (84 * suc most + 67) rest
              (later (carried_after entry) next done.after (suc index) total),
        )

-- "is the sheet at most 65,536 bytes?": a longer one prints two lines.
pub output_bounded : (edition : Edition) (sheet : List ℕ) → length (printed edition sheet) ≤ 84 * 65538 + 67
unfolding printed reading
output_bounded edition sheet = by_length (leb (length sheet) max_bytes) (leb-true (length sheet) max_bytes)
  where
    two_lines : (reason : Refusal) → length (refusal_line 0 reason ++ end_line zeros) ≤ 84 * 65538 + 67
    two_lines reason = omega (arith, line_and_rest 0 reason.code reason.number reason.offset 67 (end_line zeros) (end_length zeros))

    by_number_lem : (n : ℕ) (hall : Hall) (next : ℕ) → length sheet ≤ max_bytes
        → length (lines_of edition.limits (after_opening edition sheet (if_opens n hall next))) ≤ 84 * 65538 + 67
    by_number_lem zero hall next short =
        let done = open_table edition.limits hall lent_table in
        let rest : List ℕ = lines_from edition.limits done.after 1 zeros (decode_records edition (length sheet) no_desk sheet next) in
        omega (
          arith,
          line_and_rest 0 0 done.answer.number done.answer.session (84 * suc (length sheet) + 67) rest
              (lines_bounded edition (length sheet) no_desk sheet next done.after 1 zeros),
        )
    by_number_lem (suc n) hall next short = two_lines (refusal_of 0 (suc n) 0)

    by_header : (found : Parsed Hall) → length sheet ≤ max_bytes
        → length (lines_of edition.limits (after_opening edition sheet (bind found (λ hall next. if_opens (opening_number edition.limits hall) hall next)))) ≤ 84 * 65538 + 67
    by_header (parsed hall next) short = by_number_lem (opening_number edition.limits hall) hall next short
    by_header (refused reason) short = two_lines reason

    by_length : (short : Bool) → (short ≡ true → length sheet ≤ max_bytes)
        → length (lines_of edition.limits (after_opening edition sheet (bind (cond short (edition.decode_header sheet 0) (refused (refusal_of 0 18 0))) (λ hall next. if_opens (opening_number edition.limits hall) hall next)))) ≤ 84 * 65538 + 67
    by_length true enough = by_header (edition.decode_header sheet 0) (enough refl)
    by_length false enough = two_lines (refusal_of 0 18 0)
