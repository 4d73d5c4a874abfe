-- The byte that a refusal shows: a reading hands it on, a sheet has at most one, and its line is printed.
use Prim.Native.Nat.{ℕ, zero, suc, ◌≤◌}
use Rattle.std.proofs.Common.{arith, sym, ap, ◌∙◌, subst, append_assoc, append-nil, inl, inr, ⊎_elim, leb-false, leb-true, ne_eqb}
use Rattle.std.specs.Prelude.{◌≡◌, refl, Bool, true, false, cond, List, [], ◌∷◌, ◌++◌, ◌⊎◌, length, take, leb, ltb}
use Rattle.std.proofs.Math.Option.{Option, none, some}
use Rattle.rules.specs.Hall.{Hall, Limits}
use Rattle.rules.specs.Numbers.{Parsed, Refusal, allowed, bind, max_number, parsed, refusal, refusal_of, refused}
use Rattle.rules.specs.Table.{open_table}
use Rattle.sheet_rules.specs.Edition1.{Format, archive_edition, archive_format}
use Rattle.sheet_rules.specs.Edition2.{version1}
use Rattle.sheet_rules.specs.Lawful.{LawfulNumbers}
use Rattle.sheet_rules.specs.Lines.{answer_line, decimal, end_line, line, lines_from, lines_of, printed, refusal_line}
use Rattle.sheet_rules.specs.Offsets.{EditionOfNumbers, Located, NumbersBetween, OfNumbers, PrintsRefusal, ShowsByte, WholeLines, ending, ending_in, refuses_number}
use Rattle.sheet_rules.specs.Run.{run_record}
use Rattle.sheet_rules.specs.Sheet.{Carried, Edition, Reading, Record, Records, after_opening, bind_records, carried_after, complete, decode_records, lent_table}
use Rattle.sheet_rules.specs.Sheet.{if_opens, max_bytes, more, no_desk, opened, opening_number, reading, stop, unopened}
use Rattle.sheet_rules.specs.Tally.{Tally, add_step, zeros}
use Rattle.sheet_rules.proofs.Laws.Numbers.{allowed_never_19, numbers_lawful}
use Rattle.sheet_rules.proofs.Laws.NumbersBetween.{between_append, between_one, edition_of_numbers, fill_inside, fill_kept, located_after, no_number}
use Rattle.sheet_rules.proofs.Laws.NumbersBetween.{refused_past}
use Rattle.sheet_rules.proofs.Laws.Sheet.{opening_gives, too_long}

-- ---- Readings.

-- 1, 2, 3 and 22 refuse an opening, and no number.
opening_refuses_no_number : (n : ℕ) → (n ≤ 3) ⊎ (n ≡ 22) → refuses_number n ≡ false
opening_refuses_no_number n (inl few) =
    simp (ne_eqb n 15 (λ same. omega (arith, same, few)), ne_eqb n 16 (λ same. omega (arith, same, few)), ne_eqb n 19 (λ same. omega (arith, same, few)))
opening_refuses_no_number n (inr over) = ap refuses_number over

module _ {format : Format} {edition : Edition} (of-numbers : EditionOfNumbers format edition) (sheet : List ℕ) where
  abbrev EndLocated : Option Refusal → ℕ → Type 0
  EndLocated none at = Unit {0}
  EndLocated (some reason) at = Located format sheet at reason

  end_after : {at middle : ℕ} → NumbersBetween format sheet at middle → (end : Option Refusal) → EndLocated end middle → EndLocated end at
  end_after filled none located = tt
  end_after filled (some reason) located = located_after format sheet filled located

  records_located : (most : ℕ) (carried : Carried) (at : ℕ) → EndLocated (ending_in (decode_records edition most carried sheet at)) at
  records_located zero carried at = tt
  records_located (suc most) carried at =
      by_record (ltb at (length sheet)) (edition.decode_record carried sheet at) (of-numbers.record_of_numbers carried sheet at)
      (λ entry. records_located most (carried_after entry))
    where
      by_record : (inside : Bool) (found : Parsed Record) → OfNumbers format sheet at found
          → ((entry : Record) (next : ℕ) → EndLocated (ending_in (decode_records edition most (carried_after entry) sheet next)) next)
          → EndLocated (ending_in (cond inside (bind_records found (λ entry next. more entry (decode_records edition most (carried_after entry) sheet next))) complete)) at
      by_record false found of later = tt
      by_record true (refused reason) located later = located
      by_record true (parsed entry next) filled later =
          end_after filled (ending_in (decode_records edition most (carried_after entry) sheet next)) (later entry next)

  reading_located : EndLocated (ending (reading edition sheet)) 0
  unfolding reading
  reading_located = by_length (leb (length sheet) max_bytes)
    where
      by_number_lem : (n : ℕ) → (n ≤ 3) ⊎ (n ≡ 22) → (hall : Hall) (next : ℕ) → NumbersBetween format sheet 0 next
          → EndLocated (ending (after_opening edition sheet (if_opens n hall next))) 0
      by_number_lem zero few hall next filled =
          end_after filled (ending_in (decode_records edition (length sheet) no_desk sheet next)) (records_located (length sheet) no_desk next)
      by_number_lem (suc n) few hall next filled = no_number format sheet 0 0 (suc n) (opening_refuses_no_number (suc n) few)

      by_header : (found : Parsed Hall) → OfNumbers format sheet 0 found
          → EndLocated (ending (after_opening edition sheet (bind found (λ hall next. if_opens (opening_number edition.limits hall) hall next)))) 0
      by_header (parsed hall next) filled = by_number_lem (opening_number edition.limits hall) (opening_gives edition.limits hall) hall next filled
      by_header (refused reason) located = located

      by_length : (short : Bool)
          → EndLocated (ending (after_opening edition sheet (bind (cond short (edition.decode_header sheet 0) (refused (refusal_of 0 18 0))) (λ hall next. if_opens (opening_number edition.limits hall) hall next)))) 0
      by_length true = by_header (edition.decode_header sheet 0) (of-numbers.header_of_numbers sheet 0)
      by_length false = no_number format sheet 0 0 18 refl

  pub ending_located : (reason : Refusal) → ending (reading edition sheet) ≡ some reason → Located format sheet 0 reason
  ending_located reason e = subst (λ (end : Option Refusal). EndLocated end 0) e reading_located

-- ---- The byte that is shown.

-- It is refused by the limit of all numbers, if sessions have this limit too.
pub refused_there : {format : Format} → format.limits.sessions ≡ max_number → {sheet : List ℕ} {number offset : ℕ} → ShowsByte format sheet 0 number offset
    → format.read_number max_number sheet offset ≡ refusal 0 number offset
refused_there {format} sessions {sheet} {number} {offset} byte =
    let largest : byte.limit ≡ max_number = ⊎_elim (λ same. same) (λ same. same ∙ sessions) byte.limited in
    ap (λ (n : ℕ). format.read_number n sheet offset) (sym largest) ∙ byte.refuses

module _ {format : Format} (numbers : LawfulNumbers format.read_number) where
  -- It is at most the end of the sheet, and a sheet that is longer than 65,536 bytes shows none.
  pub offset_bounded : {edition : Edition} → EditionOfNumbers format edition → (sheet : List ℕ) (reason : Refusal) → ending (reading edition sheet) ≡ some reason
      → reason.offset ≤ max_bytes
  offset_bounded {edition} of-numbers sheet reason e = by_length (leb (length sheet) max_bytes) refl
    where
      located : Located format sheet 0 reason
      located = ending_located of-numbers sheet reason e

      by_number_lem : (is : Bool) → refuses_number reason.number ≡ is → length sheet ≤ max_bytes → reason.offset ≤ max_bytes
      by_number_lem true is short =
          let before = (located.shows is).before in
          omega (arith, short, fill_inside format.read_number sheet numbers before.count 0 reason.offset (omega arith) before.numbers)
      by_number_lem false is short = omega (arith, located.no_offset is)

      by_length : (short : Bool) → leb (length sheet) max_bytes ≡ short → reason.offset ≤ max_bytes
      by_length true short = by_number_lem (refuses_number reason.number) refl (leb-true (length sheet) max_bytes short)
      by_length false long =
          let is : some (refusal_of 0 18 0) ≡ some reason = sym (ap ending (too_long edition sheet (leb-false (length sheet) max_bytes long))) ∙ e in
          let no_offset : reason.offset ≡ 0 = cc in
          omega (arith, no_offset)

  module _ (sessions : format.limits.sessions ≡ max_number) where
    -- It is past all numbers that fill the first bytes.
    past_numbers : {sheet : List ℕ} {end number offset : ℕ} → NumbersBetween format sheet 0 end → ShowsByte format sheet 0 number offset → end ≤ offset
    past_numbers {sheet} {end} {number} {offset} filled byte =
        refused_past format.read_number sheet numbers filled.count byte.before.count 0 end offset (refusal_of 0 number offset)
        filled.numbers byte.before.numbers (refused_there sessions byte)

    -- So a sheet has only one.
    pub one_byte : {sheet : List ℕ} {number offset other_number other_offset : ℕ} → ShowsByte format sheet 0 number offset
        → ShowsByte format sheet 0 other_number other_offset
        → (number ≡ other_number) × (offset ≡ other_offset)
    one_byte {sheet} {number} {offset} {other_number} {other_offset} byte other = (same_number, same_offset)
      where
        same_offset : offset ≡ other_offset
        same_offset = omega (arith, past_numbers byte.before other, past_numbers other.before byte)

        same_number : number ≡ other_number
        same_number =
            let both : refusal {A = ℕ} 0 number offset ≡ refusal 0 other_number other_offset = sym (refused_there sessions byte) ∙ ap (format.read_number max_number sheet) same_offset ∙ refused_there sessions other in
            let reasons : refusal_of 0 number offset ≡ refusal_of 0 other_number other_offset = cc in
            ap (λ (reason : Refusal). reason.number) reasons

    -- And if the bytes before it stay and a number is read there, then the byte that is shown next is past that number.
    pub mended_past : {sheet : List ℕ} (mended : List ℕ) {number offset value next other_number other_offset : ℕ} → ShowsByte format sheet 0 number offset
        → take offset mended ≡ take offset sheet
        → format.read_number max_number mended offset ≡ parsed value next
        → ShowsByte format mended 0 other_number other_offset
        → next ≤ other_offset
    mended_past {sheet} mended {offset = offset} byte kept read = past_numbers (between_append format mended kept_before (between_one format mended read))
      where
        kept_before : NumbersBetween format mended 0 offset
        kept_before = record {
          count = byte.before.count;
          numbers = fill_kept format.read_number sheet numbers mended byte.before.count 0 offset byte.before.numbers kept;
        }

-- 19 ends no reading of a sheet in the archive.
pub archive_of_numbers : EditionOfNumbers archive_format archive_edition
archive_of_numbers = edition_of_numbers archive_format (numbers_lawful allowed) (omega arith) version1

pub archive_never_19 : (sheet : List ℕ) (reason : Refusal) → ending (reading archive_edition sheet) ≡ some reason → reason.number ≡ 19 → ⊥
archive_never_19 sheet reason e is =
    let byte = (ending_located archive_of_numbers sheet reason e).shows (ap refuses_number is) in
    allowed_never_19 byte.limit sheet reason.offset reason.offset (byte.refuses ∙ ap (λ (n : ℕ). refusal 0 n reason.offset) is)

-- ---- Its line is printed.
line-whole : (index code number session : ℕ) → WholeLines (line index code number session)
unfolding line
line-whole index code number session =
    inr (decimal index ++ (32 ∷ (decimal code ++ (32 ∷ (decimal number ++ (32 ∷ decimal session))))), simp append_assoc)

whole_append : (first second : List ℕ) → WholeLines first → WholeLines second → WholeLines (first ++ second)
whole_append first second first-whole second-whole =
    ⊎_elim (λ none. subst WholeLines (sym (ap (λ (rest : List ℕ). first ++ rest) none ∙ append-nil first)) first-whole)
    (λ last. inr (first ++ last.0, ap (λ (rest : List ℕ). first ++ rest) last.1 ∙ sym (append_assoc first last.0 (10 ∷ [])))) second-whole

line_before : (first : List ℕ) → WholeLines first → {text : List ℕ} {reason : Refusal} → PrintsRefusal text reason → PrintsRefusal (first ++ text) reason
line_before first whole prints = record {
  before = first ++ prints.before;
  whole = whole_append first prints.before whole prints.whole;
  index = prints.index;
  tally = prints.tally;
  printed = ap (λ (rest : List ℕ). first ++ rest) prints.printed ∙ sym (append_assoc first prints.before _);
}

-- the refusal's line and the last line
two_lines : (index : ℕ) (tally : Tally) (reason : Refusal) → PrintsRefusal (refusal_line index reason ++ end_line tally) reason
two_lines index tally reason = record { before = []; whole = inl refl; index = index; tally = tally; printed = refl }

lines_end : (limits : Limits) (table : List ℕ) (index : ℕ) (tally : Tally) (records : Records) (reason : Refusal) → ending_in records ≡ some reason
    → PrintsRefusal (lines_from limits table index tally records) reason
lines_end limits table index tally complete reason e = absurd (let z : ◌≡◌ {A = ℕ} 0 1 = cc in omega arith)
lines_end limits table index tally (stop found) reason e =
    let same : found ≡ reason = cc in
    subst (PrintsRefusal (lines_from limits table index tally (stop found))) same (two_lines index tally found)
lines_end limits table index tally (more entry rest) reason e =
    let done = run_record limits table entry in
    line_before (answer_line index entry.code done.answer) (line-whole index entry.code done.answer.number done.answer.session)
    (lines_end limits done.after (suc index) (add_step tally entry.code done.answer) rest reason e)

pub refusal-printed : (edition : Edition) (sheet : List ℕ) (reason : Refusal) → ending (reading edition sheet) ≡ some reason
    → PrintsRefusal (printed edition sheet) reason
unfolding printed
refusal-printed edition sheet reason = of_reading (reading edition sheet)
  where
    of_reading : (found : Reading) → ending found ≡ some reason → PrintsRefusal (lines_of edition.limits found) reason
    of_reading (unopened refused-with) e =
        let same : refused-with ≡ reason = cc in
        subst (PrintsRefusal (lines_of edition.limits (unopened refused-with))) same (two_lines 0 zeros refused-with)
    of_reading (opened hall records) e =
        let done = open_table edition.limits hall lent_table in
        line_before (answer_line 0 0 done.answer) (line-whole 0 0 done.answer.number done.answer.session) (lines_end edition.limits done.after 1 zeros records reason e)
