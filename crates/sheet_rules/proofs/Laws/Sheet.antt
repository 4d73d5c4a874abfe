-- Laws of the day sheet in any lawful edition: the reading goes record by record, and what is written is read back.
use Prim.Native.Nat.{ℕ, zero, suc, ◌+◌, ◌*◌, ◌≤◌, ◌<◌}
use Rattle.std.proofs.Common.{arith, sym, ◌∙◌, subst, inl, inr, take, length-append, length-take-le, leb-true, lt-ltb, le-ltb, le-leb}
use Rattle.std.specs.Prelude.{◌≡◌, refl, Bool, true, false, cond, ◌⊎◌, replicate, leb, ltb}
use Rattle.std.proofs.Math.Path.{ap}
use mathlib.Core.List.{List, [], ◌∷◌, ◌++◌}
use Rattle.std.proofs.Math.Option.{some}
use Rattle.std.proofs.Math.ListN.{length}
use Rattle.std.proofs.Math.Seq.{drop-append_seam}
use Rattle.std.proofs.lemmas.Bool.{lt-leb}
use Rattle.std.proofs.lemmas.Bool.Decides.{leb_tells}
use Rattle.std.proofs.lemmas.List.{take_all}
use Rattle.rules.specs.Bytes.{words_of_bytes}
use Rattle.rules.specs.Hall.{Hall, Limits, max_desks, max_positions, max_screens}
use Rattle.rules.specs.Numbers.{Parsed, Refusal, bind, max_number, parsed, refusal_of, refused}
use Rattle.rules.specs.Steps.{decide, first_no, in_range}
use Rattle.rules.specs.Table.{in_hall, max_words, need, open_questions, open_table, opened_table, within}
use Rattle.rules.proofs.Laws.Bytes.Bytes.{zero_words}
use Rattle.rules.proofs.Laws.Lists.Bools.{and-true}
use Rattle.rules.proofs.Laws.Table.EncodedStep.{limits_fit}
use Rattle.rules.proofs.Laws.Table.NeedSuffices.{need_at_most}
use Rattle.sheet_rules.specs.Lawful.{CarriedHolds, Lawful, Stands}
use Rattle.sheet_rules.specs.Lines.{end_line, line, lines_of, printed}
use Rattle.sheet_rules.specs.Offsets.{ending, ending_in}
use Rattle.sheet_rules.specs.Sheet.{Accepted, Carried, EachGood, Edition, FieldHolds, GoodMeaning, GoodRecord, Meaning, Record, Records, after_opening}
use Rattle.sheet_rules.specs.Sheet.{begin_sheet, bind_records, carried_after, complete, decode_records, desk_field, encode_records, encode_sheet, follows, if_opens, lent_table}
use Rattle.sheet_rules.specs.Sheet.{max_bytes, more, no_desk, open_sheet, opened, opening_number, reading, stop, unopened, whole}
use Rattle.sheet_rules.specs.Tally.{zeros}
use Rattle.sheet_rules.proofs.Laws.Parsing.{asked_parsed, stands_split, stands_whole}

module _ {edition : Edition} (lawful : Lawful edition) where
  -- ---- The reading goes record by record: how many records it may take does not matter, once they are enough.
  pub records_enough : (most other : ℕ) (carried : Carried) (sheet : List ℕ) (at : ℕ) → length sheet ≤ at + most → length sheet ≤ at + other
      → decode_records edition most carried sheet at ≡ decode_records edition other carried sheet at
  records_enough zero zero carried sheet at h g = refl
  records_enough zero (suc other) carried sheet at h g = simp (le-ltb at (length sheet) (omega arith))
  records_enough (suc most) zero carried sheet at h g = simp (le-ltb at (length sheet) (omega arith))
  records_enough (suc most) (suc other) carried sheet at h g =
      by_record (edition.decode_record carried sheet at) refl
      (λ entry next e.
      let moved = lawful.record_moves carried sheet at entry next e in
      records_enough most other (carried_after entry) sheet next (omega (arith, moved.past)) (omega (arith, moved.past)))
    where
      by_record : (found : Parsed Record) → edition.decode_record carried sheet at ≡ found
          → ((entry : Record) (next : ℕ) → edition.decode_record carried sheet at ≡ parsed entry next
          → decode_records edition most (carried_after entry) sheet next ≡ decode_records edition other (carried_after entry) sheet next)
          → decode_records edition (suc most) carried sheet at ≡ decode_records edition (suc other) carried sheet at
      by_record (refused reason) e rest = simp e
      by_record (parsed entry next) e rest =
          simp e (ap (λ (records : Records). cond (ltb at (length sheet)) (more entry records) complete) (rest entry next e))

  one_further : (carried : Carried) (sheet : List ℕ) (at : ℕ)
      → decode_records edition (length sheet) carried sheet at ≡ decode_records edition (suc (length sheet)) carried sheet at
  one_further carried sheet at = records_enough (length sheet) (suc (length sheet)) carried sheet at (omega arith) (omega arith)

  pub records_more : (carried : Carried) (sheet : List ℕ) (at : ℕ) (entry : Record) (next : ℕ) → at < length sheet
      → edition.decode_record carried sheet at ≡ parsed entry next
      → decode_records edition (length sheet) carried sheet at ≡ more entry (decode_records edition (length sheet) (carried_after entry) sheet next)
  records_more carried sheet at entry next h e = one_further carried sheet at ∙ simp (lt-ltb at (length sheet) h, e)

  pub records_stop : (carried : Carried) (sheet : List ℕ) (at : ℕ) (reason : Refusal) → at < length sheet
      → edition.decode_record carried sheet at ≡ refused reason
      → decode_records edition (length sheet) carried sheet at ≡ stop reason
  records_stop carried sheet at reason h e = one_further carried sheet at ∙ simp (lt-ltb at (length sheet) h, e)

  pub records_end : (carried : Carried) (sheet : List ℕ) (at : ℕ) → length sheet ≤ at
      → decode_records edition (length sheet) carried sheet at ≡ complete
  records_end carried sheet at h = one_further carried sheet at ∙ simp (le-ltb at (length sheet) h)

-- ---- "is the sheet at most 65,536 bytes? 18", and "18 prints `0 0 18 0`".
module _ (edition : Edition) (sheet : List ℕ) where
  pub too_long : max_bytes < length sheet → reading edition sheet ≡ unopened (refusal_of 0 18 0)
  unfolding reading
  too_long long = simp (lt-leb (length sheet) max_bytes long)

  -- a sheet is read by its header, if it is not
  pub reading-opens : {found : Parsed Hall} → open_sheet edition sheet ≡ found → reading edition sheet ≡ after_opening edition sheet found
  unfolding reading
  reading-opens found = ap (after_opening edition sheet) found

  pub begun : {hall : Hall} {next n : ℕ} → begin_sheet edition sheet ≡ parsed hall next → opening_number edition.limits hall ≡ n → open_sheet edition sheet ≡ if_opens n hall next
  begun {hall} {next} found is = simp found (ap (λ (number : ℕ). if_opens number hall next) is)

  pub not-begun : {reason : Refusal} → begin_sheet edition sheet ≡ refused reason → open_sheet edition sheet ≡ refused reason
  not-begun found = simp found

  pub short_enough : length sheet ≤ max_bytes → {found : Parsed Hall} → edition.decode_header sheet 0 ≡ found → begin_sheet edition sheet ≡ found
  short_enough short read = simp (le-leb (length sheet) max_bytes short, read)

  pub begun_header : {hall : Hall} {next : ℕ} → begin_sheet edition sheet ≡ parsed hall next → edition.decode_header sheet 0 ≡ parsed hall next
  begun_header {hall} {next} found = (asked_parsed (leb (length sheet) max_bytes) _ _ hall next found).1

-- The first bytes of a sheet are read as all of it, if they are more than 65,536 bytes or all.
pub front_read_as_all : (edition : Edition) (n : ℕ) (sheet : List ℕ) → max_bytes < n → reading edition (take n sheet) ≡ reading edition sheet
front_read_as_all edition n sheet large =
    elim (leb_tells (length sheet) n) [
      | inl short ↦ ap (reading edition) (take_all n sheet short.1)
      | inr long ↦
          let front = length-take-le n sheet (omega (arith, long.1)) in
          too_long edition (take n sheet) (omega (arith, front, large)) ∙ sym (too_long edition sheet (omega (arith, long.1, large)))
    ]

pub long_sheet : (edition : Edition) (sheet : List ℕ) → max_bytes < length sheet → printed edition sheet ≡ line 0 0 18 0 ++ end_line zeros
unfolding printed
long_sheet edition sheet long = ap (lines_of edition.limits) (too_long edition sheet long)

-- ---- A written sheet is read back.

-- What a sheet that begins with a written one is read as: a hall, and then the records from some offset on, where they stand.
record WrittenFirst (edition : Edition) (meaning : Meaning) (sheet : List ℕ) (end : ℕ) : Type 0 where
  next : ℕ
  opens : reading edition sheet ≡ opened meaning.header (decode_records edition (length sheet) no_desk sheet next)
  stand : Stands (encode_records edition no_desk meaning.records) sheet next end

module _ {edition : Edition} (lawful : Lawful edition) where
  written_first : (meaning : Meaning) → GoodMeaning edition.limits meaning → (sheet : List ℕ) (end : ℕ) → length sheet ≤ max_bytes
      → Stands (encode_sheet edition meaning) sheet 0 end
      → WrittenFirst edition meaning sheet end
  unfolding encode_sheet
  written_first meaning good sheet end short stands =
      let header : List ℕ = edition.encode_header meaning.header in
      let next : ℕ = 0 + length header in
      let split = stands_split header (encode_records edition no_desk meaning.records) sheet 0 end stands in
      let read = lawful.header_read_back meaning.header good.opens sheet 0 next split.0 in
      record {
        next = next;
        opens = reading-opens edition sheet (begun edition sheet (short_enough edition sheet short read) good.opens);
        stand = split.1;
      }

  records_read_back : (entries : List Record) (carried : Carried) (sheet : List ℕ) (at : ℕ) → EachGood edition.limits.sessions entries
      → Stands (encode_records edition carried entries) sheet at (length sheet)
      → decode_records edition (length sheet) carried sheet at ≡ whole entries
  records_read_back [] carried sheet at good stands = records_end lawful carried sheet at (omega (arith, stands.end))
  records_read_back (entry ∷ entries) carried sheet at good stands =
      let bytes : List ℕ = edition.encode_record carried entry in
      let next : ℕ = at + length bytes in
      let split = stands_split bytes (encode_records edition (carried_after entry) entries) sheet at (length sheet) stands in
      let e : edition.decode_record carried sheet at ≡ parsed entry next = lawful.record_read_back carried entry good.0 sheet at next split.0 in
      let moved = lawful.record_moves carried sheet at entry next e in
      records_more lawful carried sheet at entry next (omega (arith, moved.past, moved.inside)) e
      ∙ ap (more entry) (records_read_back entries (carried_after entry) sheet next good.1 split.1)

  pub reading-back : (meaning : Meaning) → GoodMeaning edition.limits meaning → length (encode_sheet edition meaning) ≤ max_bytes
      → Accepted edition (encode_sheet edition meaning) meaning
  reading-back meaning good short =
      let sheet : List ℕ = encode_sheet edition meaning in
      let written = written_first meaning good sheet (length sheet) short (stands_whole sheet) in
      written.opens
      ∙ ap (opened meaning.header) (records_read_back meaning.records no_desk sheet written.next good.records written.stand)

  -- A record that is refused after the sheet that was written ends the reading.
  records_then_refused : {reason : Refusal} (entries : List Record) (carried : Carried) (sheet : List ℕ) (at next : ℕ) → EachGood edition.limits.sessions entries
      → Stands (encode_records edition carried entries) sheet at next
      → next < length sheet
      → ((last : Carried) → edition.decode_record last sheet next ≡ refused reason)
      → ending_in (decode_records edition (length sheet) carried sheet at) ≡ some reason
  records_then_refused {reason} [] carried sheet at next good stands inside refuses =
      let here : at ≡ next = omega (arith, stands.end) in
      ap ending_in (records_stop lawful carried sheet at reason (omega (arith, here, inside)) (ap (edition.decode_record carried sheet) here ∙ refuses carried))
  records_then_refused (entry ∷ entries) carried sheet at next good stands inside refuses =
      let bytes : List ℕ = edition.encode_record carried entry in
      let middle : ℕ = at + length bytes in
      let split = stands_split bytes (encode_records edition (carried_after entry) entries) sheet at next stands in
      let read : edition.decode_record carried sheet at ≡ parsed entry middle = lawful.record_read_back carried entry good.0 sheet at middle split.0 in
      let moved = lawful.record_moves carried sheet at entry middle read in
      ap ending_in (records_more lawful carried sheet at entry middle (omega (arith, moved.past, moved.inside)) read)
      ∙ records_then_refused entries (carried_after entry) sheet middle next good.1 split.1 inside refuses

  pub written_then_refused : {reason : Refusal} (meaning : Meaning) (rest : List ℕ) → GoodMeaning edition.limits meaning → 1 ≤ length rest
      → length (encode_sheet edition meaning ++ rest) ≤ max_bytes
      → ((last : Carried) → edition.decode_record last (encode_sheet edition meaning ++ rest) (length (encode_sheet edition meaning)) ≡ refused reason)
      → ending (reading edition (encode_sheet edition meaning ++ rest)) ≡ some reason
  written_then_refused meaning rest good some-rest short refuses =
      let bytes : List ℕ = encode_sheet edition meaning in
      let stands : Stands bytes (bytes ++ rest) 0 (length bytes) =
      record { content = ap (λ (after : List ℕ). bytes ++ after) (sym (drop-append_seam bytes rest)); end = omega arith } in
      let written = written_first meaning good (bytes ++ rest) (length bytes) short stands in
      ap ending written.opens
      ∙ records_then_refused meaning.records no_desk (bytes ++ rest) written.next (length bytes) good.records written.stand
      (omega (arith, length-append bytes rest, some-rest)) refuses

-- ---- What a reading that opened found before it.
pub record Opened (edition : Edition) (sheet : List ℕ) (hall : Hall) (records : Records) : Type 0 where
  pub short : length sheet ≤ max_bytes
  pub accepted : opening_number edition.limits hall ≡ 0
  pub next : ℕ
  pub read : edition.decode_header sheet 0 ≡ parsed hall next
  pub are : records ≡ decode_records edition (length sheet) no_desk sheet next

unopened_not_opened : {reason : Refusal} {hall : Hall} {records : Records} → unopened reason ≡ opened hall records → ⊥
unopened_not_opened e = let z : ◌≡◌ {A = ℕ} 0 1 = cc in omega arith

pub opened_from : (edition : Edition) (sheet : List ℕ) (hall : Hall) (records : Records) → reading edition sheet ≡ opened hall records
    → Opened edition sheet hall records
unfolding reading
opened_from edition sheet hall records e = by_length (leb (length sheet) max_bytes) refl e
  where
    by_number_lem : length sheet ≤ max_bytes → (found : Hall) (next : ℕ) → edition.decode_header sheet 0 ≡ parsed found next → (n : ℕ) → opening_number edition.limits found ≡ n
        → after_opening edition sheet (if_opens n found next) ≡ opened hall records
        → Opened edition sheet hall records
    by_number_lem short found next read zero q opens =
        let same : found ≡ hall = cc in
        record {
          short = short;
          accepted = sym (ap (opening_number edition.limits) same) ∙ q;
          next = next;
          read = read ∙ ap (λ (header : Hall). parsed header next) same;
          are = cc;
        }
    by_number_lem short found next read (suc n) q opens = absurd (unopened_not_opened opens)

    by_header : length sheet ≤ max_bytes → (found : Parsed Hall) → edition.decode_header sheet 0 ≡ found
        → after_opening edition sheet (bind found (λ header next. if_opens (opening_number edition.limits header) header next)) ≡ opened hall records
        → Opened edition sheet hall records
    by_header short (parsed found next) read opens = by_number_lem short found next read (opening_number edition.limits found) refl opens
    by_header short (refused reason) read opens = absurd (unopened_not_opened opens)

    by_length : (short : Bool) → leb (length sheet) max_bytes ≡ short
        → after_opening edition sheet (bind (cond short (edition.decode_header sheet 0) (refused (refusal_of 0 18 0))) (λ header next. if_opens (opening_number edition.limits header) header next)) ≡ opened hall records
        → Opened edition sheet hall records
    by_length true short opens = by_header (leb-true (length sheet) max_bytes short) (edition.decode_header sheet 0) refl opens
    by_length false long opens = absurd (unopened_not_opened opens)

-- ---- What is accepted could be written.

-- a record that was read, and those after it
pub record FirstRecord (edition : Edition) (most : ℕ) (carried : Carried) (sheet : List ℕ) (at : ℕ) (entry : Record) (rest : Records) : Type 0 where
  pub next : ℕ
  pub read : edition.decode_record carried sheet at ≡ parsed entry next
  pub later : decode_records edition most (carried_after entry) sheet next ≡ rest

pub first_record : (edition : Edition) (most : ℕ) (carried : Carried) (sheet : List ℕ) (at : ℕ) (entry : Record) (rest : Records)
    → decode_records edition (suc most) carried sheet at ≡ more entry rest
    → FirstRecord edition most carried sheet at entry rest
first_record edition most carried sheet at entry rest e = by_offset (ltb at (length sheet)) e
  where
    after : Record → ℕ → Records
    after found next = more found (decode_records edition most (carried_after found) sheet next)

    by_record : (found : Parsed Record) → edition.decode_record carried sheet at ≡ found → bind_records found after ≡ more entry rest
        → FirstRecord edition most carried sheet at entry rest
    by_record (refused reason) q is = absurd (let z : ◌≡◌ {A = ℕ} 0 1 = cc in omega arith)
    by_record (parsed found next) q is =
        let same : found ≡ entry = cc in
        let later : decode_records edition most (carried_after found) sheet next ≡ rest = cc in
        record {
          next = next;
          read = q ∙ ap (λ (x : Record). parsed x next) same;
          later = ap (λ (x : Record). decode_records edition most (carried_after x) sheet next) (sym same) ∙ later;
        }

    by_offset : (inside : Bool) → cond inside (bind_records (edition.decode_record carried sheet at) after) complete ≡ more entry rest
        → FirstRecord edition most carried sheet at entry rest
    by_offset true is = by_record (edition.decode_record carried sheet at) refl is
    by_offset false is = absurd (let z : ◌≡◌ {A = ℕ} 0 1 = cc in omega arith)

field_small : (present : Bool) (value : ℕ) → FieldHolds present max_number value → value ≤ max_number
field_small true value holds = holds
field_small false value holds = omega arith

-- ---- The records that are read are good, whether something ends the reading later or not.
abbrev pub EachGoodIn : ℕ → Records → Type 0
EachGoodIn most complete = Unit {0}
EachGoodIn most (stop reason) = Unit {0}
EachGoodIn most (more entry rest) = GoodRecord most entry × EachGoodIn most rest

each_good : {edition : Edition} → Lawful edition → (most : ℕ) (carried : Carried) (sheet : List ℕ) (at : ℕ) → CarriedHolds carried
    → EachGoodIn edition.limits.sessions (decode_records edition most carried sheet at)
each_good lawful zero carried sheet at holds = tt
each_good {edition} lawful (suc most) carried sheet at holds =
    by_offset (ltb at (length sheet)) (edition.decode_record carried sheet at) refl (λ entry. each_good lawful most (carried_after entry) sheet)
  where
    by_offset : (inside : Bool) (found : Parsed Record) → edition.decode_record carried sheet at ≡ found
        → ((entry : Record) (next : ℕ) → CarriedHolds (carried_after entry)
        → EachGoodIn edition.limits.sessions (decode_records edition most (carried_after entry) sheet next))
        → EachGoodIn edition.limits.sessions (cond inside (bind_records found (λ entry next. more entry (decode_records edition most (carried_after entry) sheet next))) complete)
    by_offset true (parsed entry next) e later =
        let good = lawful.record_good carried sheet at entry next holds e in
        (good, later entry next (field_small (follows entry.code desk_field) entry.desk good.desk))
    by_offset true (refused reason) e later = tt
    by_offset false found e later = tt

pub opened_good : {edition : Edition} → Lawful edition → (sheet : List ℕ) (hall : Hall) (records : Records) → reading edition sheet ≡ opened hall records
    → EachGoodIn edition.limits.sessions records
opened_good {edition} lawful sheet hall records e =
    let was = opened_from edition sheet hall records e in
    subst (EachGoodIn edition.limits.sessions) (sym was.are) (each_good lawful (length sheet) no_desk sheet was.next tt)

-- all of them, if nothing ends it
whole_good : (most : ℕ) (entries : List Record) → EachGoodIn most (whole entries) → EachGood most entries
whole_good most [] good = tt
whole_good most (entry ∷ entries) good = (good.0, whole_good most entries good.1)

pub accepted_good : {edition : Edition} → Lawful edition → (sheet : List ℕ) (meaning : Meaning) → Accepted edition sheet meaning → GoodMeaning edition.limits meaning
accepted_good {edition} lawful sheet meaning e = record {
  opens = (opened_from edition sheet meaning.header (whole meaning.records) e).accepted;
  records = whole_good edition.limits.sessions meaning.records (opened_good lawful sheet meaning.header (whole meaning.records) e);
}

-- ---- The opening.

-- "Is the table at least the need? 4": the table that the program lends is, so its opening gives 1, 2, 3, 22 or 0.
pub opening_gives : (limits : Limits) (hall : Hall) → (opening_number limits hall ≤ 3) ⊎ (opening_number limits hall ≡ 22)
unfolding opening_number lent_table
opening_gives limits hall =
    by_answers (in_range hall.desks max_desks) (in_range hall.screens max_screens) (in_range hall.positions max_positions) (within limits hall) refl refl refl refl
  where
    number : Bool → Bool → Bool → Bool → ℕ
    number desks screens positions inside =
        cond {A = ℕ} desks (cond screens (cond positions (cond inside (cond (leb (need hall) max_words) 0 4) 22) 3) 2) 1

    by_answers : (desks screens positions inside : Bool) → in_range hall.desks max_desks ≡ desks → in_range hall.screens max_screens ≡ screens
        → in_range hall.positions max_positions ≡ positions
        → within limits hall ≡ inside
        → (number desks screens positions inside ≤ 3) ⊎ (number desks screens positions inside ≡ 22)
    by_answers true true true true d c p w =
        let in_hall_lem = and-true (in_range hall.desks max_desks) _ d (and-true (in_range hall.screens max_screens) _ c p) in
        inl (rw (le-leb (need hall) max_words (need_at_most hall (limits_fit limits hall (and-true (in_hall hall) _ in_hall_lem w)))) (omega arith))
    by_answers true true true false d c p w = inr refl
    by_answers true true false inside d c p w = inl (omega arith)
    by_answers true false positions inside d c p w = inl (omega arith)
    by_answers false screens positions inside d c p w = inl (omega arith)

-- the bytes that a program lends: two zeros for each word of the largest need
pub lent_bytes : words_of_bytes (replicate (2 * max_words) 0) ≡ lent_table
unfolding lent_table
lent_bytes = zero_words max_words

-- The board's answer to the opening, at the table that the program lends, has the reading's number.
pub opening_answer : (limits : Limits) (hall : Hall) → (open_table limits hall lent_table).answer ≡ record { number = opening_number limits hall; session = 0 }
unfolding open_table opening_number
opening_answer limits hall = by_number_lem (first_no (open_questions limits hall lent_table))
  where
    by_number_lem : (n : ℕ) → (decide n lent_table 0 (opened_table hall lent_table)).answer ≡ record { number = n; session = 0 }
    by_number_lem zero = refl
    by_number_lem (suc n) = refl
