-- Edition 2 reads back what it writes, and what it reads has at least one byte and can be written. If its reader of numbers is exact, it reads
-- nothing else. And what its shorthand codes mean.
use Prim.Native.Nat.{ℕ, zero, suc, ◌+◌, ◌≤◌}
use native.Mathlib.Omega.{arith}
use Rattle.std.specs.Prelude.{◌≡◌, Bool, not, List, ◌++◌, ◌⊎◌, length, leb, eqb}
use Rattle.std.proofs.Math.Path.{refl}
use Rattle.std.proofs.Common.{sym, ap, ◌∙◌, subst, true≢false, ⊎_elim, eqb-true, eq-eqb, le-leb, leb-true}
use Rattle.std.proofs.Math.Bool.{true, false, cond}
use Rattle.std.proofs.Math.Logic.{inl, inr}
use Rattle.std.proofs.Math.ListN.{length-append}
use Rattle.std.proofs.lemmas.Bool.{lt-leb, not-true}
use Rattle.rules.specs.Bytes.{IsBytes}
use Rattle.rules.specs.Hall.{Hall}
use Rattle.rules.specs.Numbers.{Parsed, bind, max_number, parsed, refusal_of, refused}
use Rattle.rules.proofs.Laws.History.StepEffects.{in_range_lem, range_holds}
use Rattle.rules.proofs.Laws.Lists.Bools.{and_left, and_right}
use Rattle.sheet_rules.specs.Edition1.{Format, decode_field, decode_fields, decode_header, decode_rest, encode_fields, encode_header, encode_number, encode_record, encode_rest, with_code}
use Rattle.sheet_rules.specs.Edition2.{check_desk, decode_header2, decode_record2, decode_shorthand, decode_written_out, desk_before, edition2, encode_header2}
use Rattle.sheet_rules.specs.Edition2.{encode_record2, expect_number, is_shorthand, repeats, shorthand_for, stands_for}
use Rattle.sheet_rules.specs.Lawful.{CarriedHolds, Exact, ExactNumbers, Lawful, LawfulNumbers, Moved, ReadsBack, Stands}
use Rattle.sheet_rules.specs.Sheet.{Carried, FieldHolds, GoodRecord, Record, desk_field, follows, is_code, last_desk, no_desk, opening_number}
use Rattle.sheet_rules.specs.Sheet.{position_field, record_for, screen_field, session_field}
use Rattle.sheet_rules.proofs.Laws.Edition1.{coded_parsed, fields_read_back, header_exact, header_parsed, header_read_back, number_read_back, rest_exact}
use Rattle.sheet_rules.proofs.Laws.Edition1.{rest_parsed, rest_read_back, written_out_exact, written_out_parsed}
use Rattle.sheet_rules.proofs.Laws.Parsing.{asked_parsed, bind_parsed, bind_read_back, same_parsed, stands_join}

-- ---- Shorthand codes.
shorthand_range : (code : ℕ) → is_shorthand code ≡ true → (9 ≤ code) × (code ≤ 13)
shorthand_range code is = (leb-true 9 code (and_left (leb 9 code) (leb code 13) is), leb-true code 13 (and_right (leb 9 code) (leb code 13) is))

stands_for_code : (code : ℕ) → is_shorthand code ≡ true → is_code (stands_for code) ≡ true
stands_for_code code is = let range = shorthand_range code is in range_holds (stands_for code) 5 (omega (arith, range.0), omega (arith, range.1))

-- every code has a desk
has_desk : (code : ℕ) → is_code code ≡ true → follows code desk_field ≡ true
has_desk zero fine = absurd (omega (arith, (in_range_lem 0 5 fine).0))
has_desk (suc zero) fine = refl
has_desk (suc (suc zero)) fine = refl
has_desk (suc (suc (suc zero))) fine = refl
has_desk (suc (suc (suc (suc zero)))) fine = refl
has_desk (suc (suc (suc (suc (suc zero))))) fine = refl
has_desk (suc (suc (suc (suc (suc (suc n)))))) fine = absurd (omega (arith, (in_range_lem (suc (suc (suc (suc (suc (suc n)))))) 5 fine).1))

desk_before-small : (carried : Carried) → CarriedHolds carried → desk_before carried ≤ max_number
desk_before-small no_desk holds = omega arith
desk_before-small (last_desk desk) holds = holds

repeats_before : (carried : Carried) (desk : ℕ) → repeats carried desk ≡ true → desk_before carried ≡ desk
repeats_before no_desk desk is = absurd (let z : ◌≡◌ {A = ℕ} 0 1 = cc in omega arith)
repeats_before (last_desk last) desk is = eqb-true last desk is

-- ---- A record that was read, by how its desk is written.

-- The desk that `check_desk` accepted repeats the one before exactly if a shorthand code was used.
checked_desk : (shorthand : Bool) (carried : Carried) (found : Record) (after : ℕ) (entry : Record) (next : ℕ)
    → check_desk shorthand carried found after ≡ parsed entry next
    → (repeats carried found.desk ≡ shorthand) × (parsed found after ≡ parsed entry next)
checked_desk true carried found after entry next e = asked_parsed (repeats carried found.desk) _ _ entry next e
checked_desk false carried found after entry next e =
    let asked = asked_parsed (not (repeats carried found.desk)) _ _ entry next e in
    (not-true (repeats carried found.desk) asked.0, asked.1)

-- What was read before it.
record DeskChecked (shorthand : Bool) (carried : Carried) (fields : Parsed Record) (entry : Record) (next : ℕ) : Type 0 where
  read : fields ≡ parsed entry next
  repeated : repeats carried entry.desk ≡ shorthand

desk_checked : (shorthand : Bool) (carried : Carried) (fields : Parsed Record) (entry : Record) (next : ℕ)
    → bind fields (check_desk shorthand carried) ≡ parsed entry next
    → DeskChecked shorthand carried fields entry next
desk_checked shorthand carried fields entry next e =
    let found = bind_parsed fields _ entry next e in
    let checked = checked_desk shorthand carried found.0 found.1 entry next found.3 in
    let same : found.0 ≡ entry = cc checked.1 in
    record {
      read = found.2 ∙ checked.1;
      repeated = ap (λ (was : Record). repeats carried was.desk) (sym same) ∙ checked.0;
    }

module _ (format : Format) where
  -- A record of edition 2: its code was read, and then its fields, with or without the desk.
  pub record Shorthand (carried : Carried) (sheet : List ℕ) (at : ℕ) (entry : Record) (next : ℕ) : Type 0 where
    pub code : ℕ
    pub after_code : ℕ
    pub read : format.read_number max_number sheet at ≡ parsed code after_code
    pub is : is_shorthand code ≡ true
    pub rest : decode_rest format (stands_for code) (desk_before carried) sheet after_code ≡ parsed entry next
    pub repeated : repeats carried entry.desk ≡ true

  pub record WrittenOut (carried : Carried) (sheet : List ℕ) (at : ℕ) (entry : Record) (next : ℕ) : Type 0 where
    pub code : ℕ
    pub after_code : ℕ
    pub read : format.read_number max_number sheet at ≡ parsed code after_code
    pub is_not : is_shorthand code ≡ false
    pub fine : is_code code ≡ true
    pub fields : decode_fields format code sheet after_code ≡ parsed entry next
    pub changed : repeats carried entry.desk ≡ false

  pub record2_parsed : (carried : Carried) (sheet : List ℕ) (at : ℕ) (entry : Record) (next : ℕ) → decode_record2 format carried sheet at ≡ parsed entry next
      → Shorthand carried sheet at entry next ⊎ WrittenOut carried sheet at entry next
  unfolding decode_record2
  record2_parsed carried sheet at entry next e =
      let found = bind_parsed (format.read_number max_number sheet at) _ entry next e in
      by_code found.0 found.1 found.2 (is_shorthand found.0) refl found.3
    where
      by_code : (code after_code : ℕ) → format.read_number max_number sheet at ≡ parsed code after_code → (short : Bool) → is_shorthand code ≡ short
          → cond short (with_code (stands_for code) (decode_shorthand format carried (stands_for code) sheet after_code)) (cond (is_code code) (with_code code (decode_written_out format carried code sheet after_code)) (refused (refusal_of code 17 0)))
          ≡ parsed entry next
          → Shorthand carried sheet at entry next ⊎ WrittenOut carried sheet at entry next
      by_code code after_code read true is e =
          let checked = desk_checked true carried _ entry next (coded_parsed (stands_for code) _ entry next e) in
          inl (record { code = code; after_code = after_code; read = read; is = is; rest = checked.read; repeated = checked.repeated })
      by_code code after_code read false is_not e =
          let asked = asked_parsed (is_code code) _ _ entry next e in
          let checked = desk_checked false carried _ entry next (coded_parsed code _ entry next asked.1) in
          inr
          (record {
            code = code;
            after_code = after_code;
            read = read;
            is_not = is_not;
            fine = asked.0;
            fields = checked.read;
            changed = checked.repeated;
          })

  -- a number that must have one value
  pub expected : (value : ℕ) (sheet : List ℕ) (at found next : ℕ) → expect_number format.read_number value sheet at ≡ parsed found next
      → format.read_number max_number sheet at ≡ parsed value next
  expected value sheet at found next e =
      let read = bind_parsed (format.read_number max_number sheet at) _ found next e in
      let asked = asked_parsed (eqb read.0 value) _ _ found next read.3 in
      let far : read.1 ≡ next = cc asked.1 in
      read.2 ∙ ap (λ (n : ℕ). parsed n read.1) (eqb-true read.0 value asked.0) ∙ ap (parsed value) far

  -- What was read of a header: 0, 2, and the numbers of the hall.
  pub record Header2Read (sheet : List ℕ) (at : ℕ) (hall : Hall) (next : ℕ) : Type 0 where
    pub after_zero : ℕ
    pub zero_read : format.read_number max_number sheet at ≡ parsed 0 after_zero
    pub after_edition : ℕ
    pub edition_read : format.read_number max_number sheet after_zero ≡ parsed 2 after_edition
    pub hall_read : decode_header format.read_number sheet after_edition ≡ parsed hall next

  pub header2_read : (sheet : List ℕ) (at : ℕ) (hall : Hall) (next : ℕ) → decode_header2 format.read_number sheet at ≡ parsed hall next
      → Header2Read sheet at hall next
  unfolding decode_header2
  header2_read sheet at hall next e =
      let zero = bind_parsed (expect_number format.read_number 0 sheet at) _ hall next e in
      let edition = bind_parsed (expect_number format.read_number 2 sheet zero.1) _ hall next zero.3 in
      record {
        after_zero = zero.1;
        zero_read = expected 0 sheet at zero.0 zero.1 zero.2;
        after_edition = edition.1;
        edition_read = expected 2 sheet zero.1 edition.0 edition.1 edition.2;
        hall_read = edition.3;
      }

-- what is written for a record, by whether its desk repeats
pub encode-repeated : (carried : Carried) (entry : Record) → repeats carried entry.desk ≡ true
    → encode_record2 carried entry ≡ encode_number (shorthand_for entry.code) ++ encode_rest entry
unfolding encode_record2
encode-repeated carried entry is = simp is

pub encode_changed : (carried : Carried) (entry : Record) → repeats carried entry.desk ≡ false → encode_record2 carried entry ≡ encode_record entry
unfolding encode_record2
encode_changed carried entry is = simp is

module _ (format : Format) (numbers : LawfulNumbers format.read_number) where
  -- ---- What is read takes bytes and could be written.
  record Record2Parsed (carried : Carried) (sheet : List ℕ) (at : ℕ) (entry : Record) (next : ℕ) : Type 0 where
    code : is_code entry.code ≡ true
    good : CarriedHolds carried → GoodRecord format.limits.sessions entry
    moved : Moved sheet at next
    no_longer : at + length (encode_record2 carried entry) ≤ next

  shorthand_parsed : (carried : Carried) (sheet : List ℕ) (at : ℕ) (entry : Record) (next : ℕ) → Shorthand format carried sheet at entry next
      → Record2Parsed carried sheet at entry next
  shorthand_parsed carried sheet at entry next short =
      let moved = numbers.moves max_number sheet at short.code short.after_code short.read in
      let rest = rest_parsed format numbers (stands_for short.code) (desk_before carried) sheet short.after_code entry next moved.inside short.rest in
      let range = shorthand_range short.code short.is in
      let fine = stands_for_code short.code short.is in
      let long : short.code ≡ shorthand_for entry.code = omega (arith, rest.same_code_lem, range.0) in
      record {
        code = ap is_code rest.same_code_lem ∙ fine;
        good = λ holds. rest.good fine (desk_holds (follows (stands_for short.code) desk_field) (has_desk (stands_for short.code) fine) (desk_before-small carried holds));
        moved = record { past = omega (arith, moved.past, rest.past); inside = rest.inside };
        no_longer =
            let code_long : at + length (encode_number (shorthand_for entry.code)) ≤ short.after_code =
            subst (λ (n : ℕ). at + length (encode_number n) ≤ short.after_code) long (numbers.no_longer max_number sheet at short.code short.after_code short.read) in
            omega (
              arith,
              code_long,
              rest.no_longer,
              ap length (encode-repeated carried entry short.repeated),
              length-append (encode_number (shorthand_for entry.code)) (encode_rest entry),
            );
      }
    where
      desk_holds : (present : Bool) → present ≡ true → desk_before carried ≤ max_number → FieldHolds present max_number (desk_before carried)
      desk_holds true is small = small
      desk_holds false is small = absurd (true≢false (sym is))

  written_parsed : (carried : Carried) (sheet : List ℕ) (at : ℕ) (entry : Record) (next : ℕ) → WrittenOut format carried sheet at entry next
      → Record2Parsed carried sheet at entry next
  written_parsed carried sheet at entry next out =
      let was = written_out_parsed format numbers sheet at out.code out.after_code entry next out.read out.fine out.fields in
      record {
        code = was.good.code;
        good = λ holds. was.good;
        moved = was.moved;
        no_longer = omega (arith, was.no_longer, ap length (encode_changed carried entry out.changed));
      }

  either_parsed : (carried : Carried) (sheet : List ℕ) (at : ℕ) (entry : Record) (next : ℕ) → decode_record2 format carried sheet at ≡ parsed entry next
      → Record2Parsed carried sheet at entry next
  either_parsed carried sheet at entry next e =
      ⊎_elim (shorthand_parsed carried sheet at entry next) (written_parsed carried sheet at entry next) (record2_parsed format carried sheet at entry next e)

  record Header2Parsed (sheet : List ℕ) (at : ℕ) (hall : Hall) (next : ℕ) : Type 0 where
    moved : Moved sheet at next
    no_longer : at + length (encode_header2 hall) ≤ next

  header2_parsed : (sheet : List ℕ) (at : ℕ) (hall : Hall) (next : ℕ) → decode_header2 format.read_number sheet at ≡ parsed hall next
      → Header2Parsed sheet at hall next
  unfolding encode_header2
  header2_parsed sheet at hall next e =
      let was = header2_read format sheet at hall next e in
      let zero_moved = numbers.moves max_number sheet at 0 was.after_zero was.zero_read in
      let edition_moved = numbers.moves max_number sheet was.after_zero 2 was.after_edition was.edition_read in
      let numbers_parsed = header_parsed format numbers sheet was.after_edition hall next was.hall_read in
      record {
        moved = record { past = omega (arith, zero_moved.past, edition_moved.past, numbers_parsed.moved.past); inside = numbers_parsed.moved.inside };
        no_longer =
            omega (
              arith,
              numbers.no_longer max_number sheet at 0 was.after_zero was.zero_read,
              numbers.no_longer max_number sheet was.after_zero 2 was.after_edition was.edition_read,
              numbers_parsed.no_longer,
              length-append (encode_number 0) (encode_number 2 ++ encode_header hall),
              length-append (encode_number 2) (encode_header hall),
            );
      }

  -- ---- What is written is read back.
  expected_read_back : (value : ℕ) → value ≤ max_number → ReadsBack (expect_number format.read_number value) (encode_number value) value
  expected_read_back value small sheet at next stands = simp (number_read_back format numbers value small sheet at next stands, eq-eqb value value refl)

  module _ (fits : format.limits.sessions ≤ max_number) where
    header2_read_back : (hall : Hall) → opening_number format.limits hall ≡ 0 → ReadsBack (decode_header2 format.read_number) (encode_header2 hall) hall
    unfolding decode_header2 encode_header2
    header2_read_back hall opens =
        bind_read_back _ _ _ (expected_read_back 0 (omega arith))
        (bind_read_back _ _ _ (expected_read_back 2 (omega arith)) (header_read_back format numbers fits hall opens))

    record2_read_back : (carried : Carried) (entry : Record) → GoodRecord format.limits.sessions entry
        → ReadsBack (decode_record2 format carried) (encode_record2 carried entry) entry
    unfolding decode_record2 encode_record2 encode_record
    record2_read_back carried entry good = by_desk_lem (repeats carried entry.desk) refl
      where
        range : (1 ≤ entry.code) × (entry.code ≤ 5)
        range = in_range_lem entry.code 5 good.code

        by_desk_lem : (repeated : Bool) → repeats carried entry.desk ≡ repeated
            → ReadsBack (decode_record2 format carried) (cond repeated (encode_number (shorthand_for entry.code) ++ encode_rest entry) (encode_number entry.code ++ encode_fields entry)) entry
        by_desk_lem true is =
            let meant : stands_for (shorthand_for entry.code) ≡ entry.code = omega arith in
            let before : desk_before carried ≡ entry.desk = repeats_before carried entry.desk is in
            bind_read_back _ _ _ (number_read_back format numbers (shorthand_for entry.code) (omega (arith, range.1)))
            (λ sheet at next stands.
            simp (le-leb 9 (shorthand_for entry.code) (omega (arith, range.0)), le-leb (shorthand_for entry.code) 13 (omega (arith, range.1)), meant, before, rest_read_back format numbers fits entry good sheet at next stands, is))
        by_desk_lem false is =
            bind_read_back _ _ _ (number_read_back format numbers entry.code (omega (arith, range.1)))
            (λ sheet at next stands.
            simp (lt-leb 9 entry.code (omega (arith, range.1)), good.code, fields_read_back format numbers fits entry good sheet at next stands, is))

    pub edition2_lawful : Lawful (edition2 format)
    edition2_lawful = record {
      header_read_back = header2_read_back;
      header_moves = λ sheet at hall next e. (header2_parsed sheet at hall next e).moved;
      header_no_longer = λ sheet at hall next e. (header2_parsed sheet at hall next e).no_longer;
      record_read_back = record2_read_back;
      record_moves = λ carried sheet at entry next e. (either_parsed carried sheet at entry next e).moved;
      record_no_longer = λ carried sheet at entry next e. (either_parsed carried sheet at entry next e).no_longer;
      record_code = λ carried sheet at entry next e. (either_parsed carried sheet at entry next e).code;
      record_good = λ carried sheet at entry next holds e. (either_parsed carried sheet at entry next e).good holds;
    }

-- ---- Nothing but what is written is read, if that holds of numbers.
module _ (format : Format) (exact : ExactNumbers format.read_number) where
  shorthand_exact : (carried : Carried) (sheet : List ℕ) (at : ℕ) (entry : Record) (next : ℕ) → IsBytes sheet → Shorthand format carried sheet at entry next
      → Stands (encode_record2 carried entry) sheet at next
  shorthand_exact carried sheet at entry next are short =
      let rest = rest_exact format exact (stands_for short.code) (desk_before carried) sheet short.after_code entry next are short.rest in
      let long : short.code ≡ shorthand_for entry.code = omega (arith, rest.same_code_lem, (shorthand_range short.code short.is).0) in
      let code : Stands (encode_number (shorthand_for entry.code)) sheet at short.after_code =
      subst (λ (n : ℕ). Stands (encode_number n) sheet at short.after_code) long (exact max_number sheet at short.code short.after_code are short.read) in
      subst (λ (bytes : List ℕ). Stands bytes sheet at next) (sym (encode-repeated carried entry short.repeated))
      (stands_join _ _ sheet code rest.stands)

  written_exact : (carried : Carried) (sheet : List ℕ) (at : ℕ) (entry : Record) (next : ℕ) → IsBytes sheet → WrittenOut format carried sheet at entry next
      → Stands (encode_record2 carried entry) sheet at next
  written_exact carried sheet at entry next are out =
      subst (λ (bytes : List ℕ). Stands bytes sheet at next) (sym (encode_changed carried entry out.changed))
      (written_out_exact format exact sheet at out.code out.after_code entry next are out.read out.fields)

  header2_exact : (sheet : List ℕ) (at : ℕ) (hall : Hall) (next : ℕ) → IsBytes sheet → decode_header2 format.read_number sheet at ≡ parsed hall next
      → Stands (encode_header2 hall) sheet at next
  unfolding encode_header2
  header2_exact sheet at hall next are e =
      let was = header2_read format sheet at hall next e in
      stands_join _ _ sheet (exact max_number sheet at 0 was.after_zero are was.zero_read)
      (stands_join _ _ sheet (exact max_number sheet was.after_zero 2 was.after_edition are was.edition_read)
      (header_exact format exact sheet was.after_edition hall next are was.hall_read))

  pub edition2_exact : Exact (edition2 format)
  edition2_exact = record {
    header_exact = header2_exact;
    record_exact =
        λ carried sheet at entry next are e.
        ⊎_elim (shorthand_exact carried sheet at entry next are) (written_exact carried sheet at entry next are) (record2_parsed format carried sheet at entry next e);
  }

-- ---- What a shorthand code means.
repeats_carried : (carried : Carried) (desk : ℕ) → repeats carried desk ≡ true → carried ≡ last_desk desk
repeats_carried no_desk desk is = absurd (true≢false (sym is))
repeats_carried (last_desk last) desk is = ap last_desk (eqb-true last desk is)

rest_code : (format : Format) (code desk : ℕ) (sheet : List ℕ) (at : ℕ) (entry : Record) (next : ℕ) → decode_rest format code desk sheet at ≡ parsed entry next
    → entry.code ≡ code
rest_code format code desk sheet at entry next e =
    let screen = bind_parsed (decode_field format.read_number (follows code screen_field) max_number sheet at) _ entry next e in
    let position = bind_parsed (decode_field format.read_number (follows code position_field) max_number sheet screen.1) _ entry next screen.3 in
    let session = bind_parsed (decode_field format.read_number (follows code session_field) format.limits.sessions sheet position.1) _ entry next position.3 in
    same_parsed (λ (found : Record) (after : ℕ). found.code ≡ code) (record_for code desk screen.0 position.0 session.0) entry session.1 next session.3 refl

module _ (format : Format) (carried : Carried) (sheet : List ℕ) (at code after_code : ℕ) (read : format.read_number max_number sheet at ≡ parsed code after_code)
    (entry : Record) (next : ℕ) (e : decode_record2 format carried sheet at ≡ parsed entry next) where
  same_read : (found after : ℕ) → format.read_number max_number sheet at ≡ parsed found after → found ≡ code
  same_read found after again = let both : parsed found after ≡ parsed code after_code = sym again ∙ read in cc both

  -- the desk of the record before, and the code that it stands for
  pub shorthand_desk : is_shorthand code ≡ true → (carried ≡ last_desk entry.desk) × (entry.code ≡ stands_for code)
  shorthand_desk is =
      ⊎_elim
      (λ short. (
        repeats_carried carried entry.desk short.repeated,
        rest_code format (stands_for short.code) (desk_before carried) sheet short.after_code entry next short.rest
            ∙ ap stands_for (same_read short.code short.after_code short.read),
      ))
      (λ out. absurd (true≢false (sym is ∙ ap is_shorthand (sym (same_read out.code out.after_code out.read)) ∙ out.is_not)))
      (record2_parsed format carried sheet at entry next e)

  -- and no other code is used for it
  pub written_out_desk : is_shorthand code ≡ false → carried ≡ last_desk entry.desk → ⊥
  written_out_desk is_not same =
      ⊎_elim (λ short. true≢false (sym short.is ∙ ap is_shorthand (same_read short.code short.after_code short.read) ∙ is_not))
      (λ out. true≢false (sym (eq-eqb entry.desk entry.desk refl) ∙ sym (ap (λ (was : Carried). repeats was entry.desk) same) ∙ out.changed))
      (record2_parsed format carried sheet at entry next e)
