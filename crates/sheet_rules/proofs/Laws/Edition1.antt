-- Edition 1 reads back what it writes, and what it reads has at least one byte and can be written. If its reader of numbers is exact, it reads
-- nothing else.
use Rattle.std.specs.Prelude.{ℕ, ◌+◌, ◌≤◌, ◌≡◌, refl, Bool, true, false, List, [], ◌++◌}
use native.Mathlib.Omega.{arith}
use Rattle.std.proofs.Common.{sym, ap, ◌∙◌}
use Rattle.std.proofs.Math.Path.{subst}
use Rattle.std.proofs.Math.ListN.{length, length-append}
use Rattle.rules.specs.Bytes.{IsBytes}
use Rattle.rules.specs.Hall.{Hall, hall_of}
use Rattle.rules.specs.Numbers.{Parsed, allowed, barred, max_number, parsed, refused}
use Rattle.rules.proofs.Laws.History.StepEffects.{in_range_lem}
use Rattle.rules.proofs.Laws.Table.EncodedStep.{hall-opens, limits_fit}
use Rattle.sheet_rules.specs.Edition1.{Format, archive_edition, archive_format, decode_field, decode_fields, decode_header, decode_record, decode_rest, edition1}
use Rattle.sheet_rules.specs.Edition1.{encode_field, encode_fields, encode_header, encode_number, encode_record, encode_rest, hall_edition, hall_format, with_code}
use Rattle.sheet_rules.specs.Lawful.{Exact, ExactNumbers, Lawful, LawfulNumbers, Moved, ReadsBack, Stands}
use Rattle.sheet_rules.specs.Sheet.{FieldHolds, GoodRecord, Record, desk_field, follows, is_code, lent_table, opening_number, position_field, record_for}
use Rattle.sheet_rules.specs.Sheet.{screen_field, session_field}
use Rattle.sheet_rules.proofs.Laws.Numbers.{numbers_lawful, shortest_numbers_exact}
use Rattle.sheet_rules.proofs.Laws.Parsing.{asked_parsed, bind_parsed, bind_read_back, last_read_back, refused_not_parsed, same_parsed, stands_join}
use Rattle.sheet_rules.proofs.Laws.Parsing.{stands_none}

pub coded_parsed : {A : Type 0} (code : ℕ) (inner : Parsed A) (value : A) (next : ℕ) → with_code code inner ≡ parsed value next
    → inner ≡ parsed value next
coded_parsed code (parsed a middle) value next e = e
coded_parsed code (refused reason) value next e = absurd (refused_not_parsed e)

module _ (format : Format) (numbers : LawfulNumbers format.read_number) where
  -- ---- What is read takes bytes and could be written.
  record FieldParsed (present : Bool) (limit : ℕ) (sheet : List ℕ) (at value next : ℕ) : Type 0 where
    holds : FieldHolds present limit value
    past : at ≤ next
    inside : next ≤ length sheet
    no_longer : at + length (encode_field present value) ≤ next

  field_parsed : (present : Bool) (limit : ℕ) (sheet : List ℕ) (at value next : ℕ) → at ≤ length sheet
      → decode_field format.read_number present limit sheet at ≡ parsed value next
      → FieldParsed present limit sheet at value next
  field_parsed true limit sheet at value next h e =
      let moved = numbers.moves limit sheet at value next e in
      record {
        holds = numbers.small limit sheet at value next e;
        past = omega (arith, moved.past);
        inside = moved.inside;
        no_longer = numbers.no_longer limit sheet at value next e;
      }
  field_parsed false limit sheet at value next h e =
      let offset : at ≡ next = cc in
      let none : value ≡ 0 = cc in
      record { holds = none; past = omega arith; inside = omega arith; no_longer = omega arith }

  -- how many bytes the fields after the desk have
  rest_length : (code screen position session : ℕ)
      → length (encode_field (follows code screen_field) screen ++ (encode_field (follows code position_field) position ++ encode_field (follows code session_field) session))
      ≡ length (encode_field (follows code screen_field) screen) + (length (encode_field (follows code position_field) position) + length (encode_field (follows code session_field) session))
  rest_length code screen position session =
      length-append (encode_field (follows code screen_field) screen) _
      ∙ ap (λ (n : ℕ). length (encode_field (follows code screen_field) screen) + n) (length-append (encode_field (follows code position_field) position) _)

  pub record RestParsed (code desk : ℕ) (sheet : List ℕ) (at : ℕ) (entry : Record) (next : ℕ) : Type 0 where
    pub good : is_code code ≡ true → FieldHolds (follows code desk_field) max_number desk → GoodRecord format.limits.sessions entry
    pub past : at ≤ next
    pub inside : next ≤ length sheet
    pub same_code_lem : entry.code ≡ code
    pub same_desk_lem : entry.desk ≡ desk
    pub no_longer : at + length (encode_rest entry) ≤ next

  pub rest_parsed : (code desk : ℕ) (sheet : List ℕ) (at : ℕ) (entry : Record) (next : ℕ) → at ≤ length sheet
      → decode_rest format code desk sheet at ≡ parsed entry next
      → RestParsed code desk sheet at entry next
  rest_parsed code desk sheet at entry next h e =
      let e₁ = bind_parsed (decode_field format.read_number (follows code screen_field) max_number sheet at) _ entry next e in
      let g₁ = field_parsed (follows code screen_field) max_number sheet at e₁.0 e₁.1 h e₁.2 in
      let e₂ = bind_parsed (decode_field format.read_number (follows code position_field) max_number sheet e₁.1) _ entry next e₁.3 in
      let g₂ = field_parsed (follows code position_field) max_number sheet e₁.1 e₂.0 e₂.1 g₁.inside e₂.2 in
      let e₃ = bind_parsed (decode_field format.read_number (follows code session_field) format.limits.sessions sheet e₂.1) _ entry next e₂.3 in
      let g₃ = field_parsed (follows code session_field) format.limits.sessions sheet e₂.1 e₃.0 e₃.1 g₂.inside e₃.2 in
      same_parsed (RestParsed code desk sheet at) (record_for code desk e₁.0 e₂.0 e₃.0) entry e₃.1 next e₃.3
      (record {
        good = λ fine holds. record { code = fine; desk = holds; screen = g₁.holds; position = g₂.holds; session = g₃.holds };
        past = omega (arith, g₁.past, g₂.past, g₃.past);
        inside = g₃.inside;
        same_code_lem = refl;
        same_desk_lem = refl;
        no_longer = omega (arith, g₁.no_longer, g₂.no_longer, g₃.no_longer, rest_length code e₁.0 e₂.0 e₃.0);
      })

  -- all fields of a record whose code was read
  pub record FieldsParsed (code : ℕ) (sheet : List ℕ) (at : ℕ) (entry : Record) (next : ℕ) : Type 0 where
    pub good : is_code code ≡ true → GoodRecord format.limits.sessions entry
    pub past : at ≤ next
    pub inside : next ≤ length sheet
    pub same_code_lem : entry.code ≡ code
    pub no_longer : at + length (encode_fields entry) ≤ next

  fields_parsed : (code : ℕ) (sheet : List ℕ) (at : ℕ) (entry : Record) (next : ℕ) → at ≤ length sheet
      → decode_fields format code sheet at ≡ parsed entry next
      → FieldsParsed code sheet at entry next
  fields_parsed code sheet at entry next h e =
      let e₁ = bind_parsed (decode_field format.read_number (follows code desk_field) max_number sheet at) _ entry next e in
      let desk = field_parsed (follows code desk_field) max_number sheet at e₁.0 e₁.1 h e₁.2 in
      let rest = rest_parsed code e₁.0 sheet e₁.1 entry next desk.inside e₁.3 in
      record {
        good = λ fine. rest.good fine desk.holds;
        past = omega (arith, desk.past, rest.past);
        inside = rest.inside;
        same_code_lem = rest.same_code_lem;
        no_longer =
            let desk_long : at + length (encode_field (follows entry.code desk_field) entry.desk) ≤ e₁.1 =
            subst (λ (n : ℕ). at + length (encode_field (follows n desk_field) entry.desk) ≤ e₁.1) (sym rest.same_code_lem)
            (subst (λ (n : ℕ). at + length (encode_field (follows code desk_field) n) ≤ e₁.1) (sym rest.same_desk_lem) desk.no_longer) in
            omega (arith, desk_long, rest.no_longer, length-append (encode_field (follows entry.code desk_field) entry.desk) (encode_rest entry));
      }

  pub record RecordParsed (sheet : List ℕ) (at : ℕ) (entry : Record) (next : ℕ) : Type 0 where
    pub good : GoodRecord format.limits.sessions entry
    pub moved : Moved sheet at next
    pub no_longer : at + length (encode_record entry) ≤ next

  -- a record whose code and fields were read
  pub written_out_parsed : (sheet : List ℕ) (at code after_code : ℕ) (entry : Record) (next : ℕ)
      → format.read_number max_number sheet at ≡ parsed code after_code
      → is_code code ≡ true
      → decode_fields format code sheet after_code ≡ parsed entry next
      → RecordParsed sheet at entry next
  unfolding encode_record
  written_out_parsed sheet at code after_code entry next read fine e =
      let moved = numbers.moves max_number sheet at code after_code read in
      let fields = fields_parsed code sheet after_code entry next moved.inside e in
      record {
        good = fields.good fine;
        moved = record { past = omega (arith, moved.past, fields.past); inside = fields.inside };
        no_longer =
            let code_long : at + length (encode_number entry.code) ≤ after_code =
            subst (λ (n : ℕ). at + length (encode_number n) ≤ after_code) (sym fields.same_code_lem) (numbers.no_longer max_number sheet at code after_code read) in
            omega (arith, code_long, fields.no_longer, length-append (encode_number entry.code) (encode_fields entry));
      }

  record_parsed : (sheet : List ℕ) (at : ℕ) (entry : Record) (next : ℕ) → decode_record format sheet at ≡ parsed entry next
      → RecordParsed sheet at entry next
  unfolding decode_record
  record_parsed sheet at entry next e =
      let code = bind_parsed (format.read_number max_number sheet at) _ entry next e in
      let asked = asked_parsed (is_code code.0) _ _ entry next code.3 in
      written_out_parsed sheet at code.0 code.1 entry next code.2 asked.0 (coded_parsed code.0 _ entry next asked.1)

  pub record HeaderParsed (sheet : List ℕ) (at : ℕ) (hall : Hall) (next : ℕ) : Type 0 where
    pub moved : Moved sheet at next
    pub no_longer : at + length (encode_header hall) ≤ next

  pub header_parsed : (sheet : List ℕ) (at : ℕ) (hall : Hall) (next : ℕ) → decode_header format.read_number sheet at ≡ parsed hall next
      → HeaderParsed sheet at hall next
  unfolding decode_header encode_header
  header_parsed sheet at hall next e =
      let e₁ = bind_parsed (format.read_number max_number sheet at) _ hall next e in
      let moved₁ = numbers.moves max_number sheet at e₁.0 e₁.1 e₁.2 in
      let e₂ = bind_parsed (format.read_number max_number sheet e₁.1) _ hall next e₁.3 in
      let moved₂ = numbers.moves max_number sheet e₁.1 e₂.0 e₂.1 e₂.2 in
      let e₃ = bind_parsed (format.read_number max_number sheet e₂.1) _ hall next e₂.3 in
      let moved₃ = numbers.moves max_number sheet e₂.1 e₃.0 e₃.1 e₃.2 in
      same_parsed (HeaderParsed sheet at) (hall_of e₁.0 e₂.0 e₃.0) hall e₃.1 next e₃.3
      (record {
        moved = record { past = omega (arith, moved₁.past, moved₂.past, moved₃.past); inside = moved₃.inside };
        no_longer =
            omega (
              arith,
              numbers.no_longer max_number sheet at e₁.0 e₁.1 e₁.2,
              numbers.no_longer max_number sheet e₁.1 e₂.0 e₂.1 e₂.2,
              numbers.no_longer max_number sheet e₂.1 e₃.0 e₃.1 e₃.2,
              length-append (encode_number e₁.0) (encode_number e₂.0 ++ encode_number e₃.0),
              length-append (encode_number e₂.0) (encode_number e₃.0),
            );
      })

  -- ---- What is written is read back.
  pub number_read_back : (value : ℕ) → value ≤ max_number → ReadsBack (format.read_number max_number) (encode_number value) value
  number_read_back value h = numbers.read_back max_number value h (omega arith)

  field_read_back : (present : Bool) (limit value : ℕ) → limit ≤ max_number → FieldHolds present limit value
      → ReadsBack (decode_field format.read_number present limit) (encode_field present value) value
  field_read_back true limit value fits holds = numbers.read_back limit value holds fits
  field_read_back false limit value fits holds = λ sheet at next stands. (let offset : next ≡ at = omega (arith, stands.end) in cc)

  module _ (fits : format.limits.sessions ≤ max_number) where
    pub rest_read_back : (entry : Record) → GoodRecord format.limits.sessions entry
        → ReadsBack (decode_rest format entry.code entry.desk) (encode_rest entry) entry
    rest_read_back entry good =
        bind_read_back _ _ _ (field_read_back (follows entry.code screen_field) max_number entry.screen (omega arith) good.screen)
        (bind_read_back _ _ _ (field_read_back (follows entry.code position_field) max_number entry.position (omega arith) good.position)
        (last_read_back (record_for entry.code entry.desk entry.screen entry.position)
        (field_read_back (follows entry.code session_field) format.limits.sessions entry.session fits good.session)))

    pub fields_read_back : (entry : Record) → GoodRecord format.limits.sessions entry
        → ReadsBack (decode_fields format entry.code) (encode_fields entry) entry
    fields_read_back entry good =
        bind_read_back _ _ _ (field_read_back (follows entry.code desk_field) max_number entry.desk (omega arith) good.desk)
        (rest_read_back entry good)

    record_read_back : (entry : Record) → GoodRecord format.limits.sessions entry → ReadsBack (decode_record format) (encode_record entry) entry
    unfolding decode_record encode_record
    record_read_back entry good =
        bind_read_back _ _ _ (number_read_back entry.code (omega (arith, (in_range_lem entry.code 5 good.code).1)))
        (λ sheet at next stands. simp (good.code, fields_read_back entry good sheet at next stands))

    pub header_read_back : (hall : Hall) → opening_number format.limits hall ≡ 0 → ReadsBack (decode_header format.read_number) (encode_header hall) hall
    unfolding decode_header encode_header opening_number
    header_read_back hall opens =
        let asked = limits_fit format.limits hall (hall-opens format.limits hall lent_table opens).0 in
        bind_read_back _ _ _ (number_read_back hall.desks (omega (arith, asked.desks.1)))
        (bind_read_back _ _ _ (number_read_back hall.screens (omega (arith, asked.screens.1)))
        (last_read_back (hall_of hall.desks hall.screens) (number_read_back hall.positions (omega (arith, asked.positions.1)))))

    pub edition1_lawful : Lawful (edition1 format)
    edition1_lawful = record {
      header_read_back = header_read_back;
      header_moves = λ sheet at hall next e. (header_parsed sheet at hall next e).moved;
      header_no_longer = λ sheet at hall next e. (header_parsed sheet at hall next e).no_longer;
      record_read_back = λ carried. record_read_back;
      record_moves = λ carried sheet at entry next e. (record_parsed sheet at entry next e).moved;
      record_no_longer = λ carried sheet at entry next e. (record_parsed sheet at entry next e).no_longer;
      record_code = λ carried sheet at entry next e. (record_parsed sheet at entry next e).good.code;
      record_good = λ carried sheet at entry next holds e. (record_parsed sheet at entry next e).good;
    }

pub hall_lawful : Lawful hall_edition
hall_lawful = edition1_lawful hall_format (numbers_lawful barred) (omega arith)

pub archive_lawful : Lawful archive_edition
archive_lawful = edition1_lawful archive_format (numbers_lawful allowed) (omega arith)

-- ---- Nothing but what is written is read, if that holds of numbers.
module _ (format : Format) (exact : ExactNumbers format.read_number) where
  field_exact : (present : Bool) (limit : ℕ) (sheet : List ℕ) (at value next : ℕ) → IsBytes sheet
      → decode_field format.read_number present limit sheet at ≡ parsed value next
      → Stands (encode_field present value) sheet at next
  field_exact true limit sheet at value next are e = exact limit sheet at value next are e
  field_exact false limit sheet at value next are e = let offset : at ≡ next = cc in subst (Stands [] sheet at) offset (stands_none sheet at)

  -- the fields after the desk stand there, whatever the record's desk
  pub record RestExact (code desk : ℕ) (sheet : List ℕ) (at : ℕ) (entry : Record) (next : ℕ) : Type 0 where
    pub same_code_lem : entry.code ≡ code
    pub same_desk_lem : entry.desk ≡ desk
    pub stands : Stands (encode_rest entry) sheet at next

  pub rest_exact : (code desk : ℕ) (sheet : List ℕ) (at : ℕ) (entry : Record) (next : ℕ) → IsBytes sheet
      → decode_rest format code desk sheet at ≡ parsed entry next
      → RestExact code desk sheet at entry next
  rest_exact code desk sheet at entry next are e =
      let e₁ = bind_parsed (decode_field format.read_number (follows code screen_field) max_number sheet at) _ entry next e in
      let e₂ = bind_parsed (decode_field format.read_number (follows code position_field) max_number sheet e₁.1) _ entry next e₁.3 in
      let e₃ = bind_parsed (decode_field format.read_number (follows code session_field) format.limits.sessions sheet e₂.1) _ entry next e₂.3 in
      same_parsed (RestExact code desk sheet at) (record_for code desk e₁.0 e₂.0 e₃.0) entry e₃.1 next e₃.3
      (record {
        same_code_lem = refl;
        same_desk_lem = refl;
        stands =
            stands_join _ _ sheet (field_exact (follows code screen_field) max_number sheet at e₁.0 e₁.1 are e₁.2)
            (stands_join _ _ sheet (field_exact (follows code position_field) max_number sheet e₁.1 e₂.0 e₂.1 are e₂.2)
            (field_exact (follows code session_field) format.limits.sessions sheet e₂.1 e₃.0 e₃.1 are e₃.2));
      })

  -- a record whose code and fields were read
  pub written_out_exact : (sheet : List ℕ) (at code after_code : ℕ) (entry : Record) (next : ℕ) → IsBytes sheet
      → format.read_number max_number sheet at ≡ parsed code after_code
      → decode_fields format code sheet after_code ≡ parsed entry next
      → Stands (encode_record entry) sheet at next
  unfolding encode_record
  written_out_exact sheet at code after_code entry next are read e =
      let e₁ = bind_parsed (decode_field format.read_number (follows code desk_field) max_number sheet after_code) _ entry next e in
      let rest = rest_exact code e₁.0 sheet e₁.1 entry next are e₁.3 in
      let code_stands : Stands (encode_number entry.code) sheet at after_code =
      subst (λ (n : ℕ). Stands (encode_number n) sheet at after_code) (sym rest.same_code_lem) (exact max_number sheet at code after_code are read) in
      let desk_stands : Stands (encode_field (follows entry.code desk_field) entry.desk) sheet after_code e₁.1 =
      subst (λ (n : ℕ). Stands (encode_field (follows n desk_field) entry.desk) sheet after_code e₁.1) (sym rest.same_code_lem)
      (subst (λ (n : ℕ). Stands (encode_field (follows code desk_field) n) sheet after_code e₁.1) (sym rest.same_desk_lem)
      (field_exact (follows code desk_field) max_number sheet after_code e₁.0 e₁.1 are e₁.2)) in
      stands_join _ _ sheet code_stands (stands_join _ _ sheet desk_stands rest.stands)

  record_exact : (sheet : List ℕ) (at : ℕ) (entry : Record) (next : ℕ) → IsBytes sheet → decode_record format sheet at ≡ parsed entry next
      → Stands (encode_record entry) sheet at next
  unfolding decode_record
  record_exact sheet at entry next are e =
      let code = bind_parsed (format.read_number max_number sheet at) _ entry next e in
      let asked = asked_parsed (is_code code.0) _ _ entry next code.3 in
      written_out_exact sheet at code.0 code.1 entry next are code.2 (coded_parsed code.0 _ entry next asked.1)

  pub header_exact : (sheet : List ℕ) (at : ℕ) (hall : Hall) (next : ℕ) → IsBytes sheet → decode_header format.read_number sheet at ≡ parsed hall next
      → Stands (encode_header hall) sheet at next
  unfolding decode_header encode_header
  header_exact sheet at hall next are e =
      let e₁ = bind_parsed (format.read_number max_number sheet at) _ hall next e in
      let e₂ = bind_parsed (format.read_number max_number sheet e₁.1) _ hall next e₁.3 in
      let e₃ = bind_parsed (format.read_number max_number sheet e₂.1) _ hall next e₂.3 in
      same_parsed (λ (found : Hall) (after : ℕ). Stands (encode_number found.desks ++ (encode_number found.screens ++ encode_number found.positions)) sheet at after)
      (hall_of e₁.0 e₂.0 e₃.0) hall e₃.1 next e₃.3
      (stands_join _ _ sheet (exact max_number sheet at e₁.0 e₁.1 are e₁.2)
      (stands_join _ _ sheet (exact max_number sheet e₁.1 e₂.0 e₂.1 are e₂.2) (exact max_number sheet e₂.1 e₃.0 e₃.1 are e₃.2)))

  pub edition1_exact : Exact (edition1 format)
  edition1_exact = record { header_exact = header_exact; record_exact = λ carried. record_exact }

pub hall_exact : Exact hall_edition
hall_exact = edition1_exact hall_format shortest_numbers_exact
