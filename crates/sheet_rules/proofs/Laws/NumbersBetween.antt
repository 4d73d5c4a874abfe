-- Numbers that fill bytes, and parsers that read numbers and nothing else: they hand on where a refused number starts.
use Prim.Native.Nat.{ℕ, zero, suc, ◌+◌, ◌≤◌}
use Rattle.std.proofs.Common.{arith, sym, ap, ◌∙◌, subst, true≢false, inl, inr, ⊎_elim, take-take}
use Rattle.std.specs.Prelude.{◌≡◌, Bool, cond, not, List, ◌⊎◌, length, take, eqb}
use Rattle.std.proofs.Math.Path.{refl}
use Rattle.std.proofs.Math.Bool.{true, false}
use Rattle.rules.specs.Numbers.{Parsed, Refusal, bind, max_number, parsed, refusal_of, refused}
use Rattle.sheet_rules.specs.Edition1.{Format, NumberReader, decode_field, decode_fields, decode_header, decode_record, decode_rest, with_code}
use Rattle.sheet_rules.specs.Edition2.{Version, check_desk, decode_header2, decode_record2, decode_shorthand, decode_written_out, desk_before, edition_for, expect_number}
use Rattle.sheet_rules.specs.Edition2.{is_shorthand, repeats, stands_for, version1, version2}
use Rattle.sheet_rules.specs.Lawful.{LawfulNumbers}
use Rattle.sheet_rules.specs.Offsets.{EditionOfNumbers, Located, NumbersBetween, NumbersFill, OfNumbers, refuses_number}
use Rattle.sheet_rules.specs.Sheet.{Carried, Record, desk_field, follows, is_code, position_field, screen_field, session_field}
use Rattle.sheet_rules.proofs.Laws.Parsing.{refused_not_parsed}

-- ---- Numbers that fill bytes.
module _ (read_number : NumberReader) (sheet : List ℕ) where
  fill_append : (count others at middle end : ℕ) → NumbersFill read_number sheet count at middle → NumbersFill read_number sheet others middle end
      → NumbersFill read_number sheet (count + others) at end
  fill_append zero others at middle end same later =
      let all : others ≡ zero + others = omega arith in
      subst (λ (n : ℕ). NumbersFill read_number sheet n at end) all (subst (λ (n : ℕ). NumbersFill read_number sheet others n end) (sym same) later)
  fill_append (suc count) others at middle end fill later =
      let all : suc (count + others) ≡ suc count + others = omega arith in
      subst (λ (n : ℕ). NumbersFill read_number sheet n at end) all
      (record { value = fill.value; next = fill.next; read = fill.read; rest = fill_append count others fill.next middle end fill.rest later })

  module _ (numbers : LawfulNumbers read_number) where
    fill_forward : (count at end : ℕ) → NumbersFill read_number sheet count at end → at ≤ end
    fill_forward zero at end same = omega (arith, same)
    fill_forward (suc count) at end fill =
        let moved = numbers.moves max_number sheet at fill.value fill.next fill.read in
        omega (arith, moved.past, fill_forward count fill.next end fill.rest)

    pub fill_inside : (count at end : ℕ) → at ≤ length sheet → NumbersFill read_number sheet count at end → end ≤ length sheet
    fill_inside zero at end inside same = omega (arith, same, inside)
    fill_inside (suc count) at end inside fill =
        let moved = numbers.moves max_number sheet at fill.value fill.next fill.read in
        fill_inside count fill.next end moved.inside fill.rest

    -- A refused number with numbers before it is past all numbers that are read.
    pub refused_past : (count others at end offset : ℕ) (reason : Refusal) → NumbersFill read_number sheet count at end
        → NumbersFill read_number sheet others at offset
        → read_number max_number sheet offset ≡ refused reason
        → end ≤ offset
    refused_past zero others at end offset reason same before refuses = omega (arith, same, fill_forward others at offset before)
    refused_past (suc count) zero at end offset reason fill same refuses =
        absurd (refused_not_parsed (sym refuses ∙ ap (read_number max_number sheet) (sym same) ∙ fill.read))
    refused_past (suc count) (suc others) at end offset reason fill before refuses =
        let same : parsed before.value before.next ≡ parsed fill.value fill.next = sym before.read ∙ fill.read in
        let next : before.next ≡ fill.next = cc in
        refused_past count others fill.next end offset reason fill.rest
        (subst (λ (n : ℕ). NumbersFill read_number sheet others n offset) next before.rest) refuses

    -- Numbers fill the same bytes in every sheet that begins with them.
    pub fill_kept : (other : List ℕ) (count at end : ℕ) → NumbersFill read_number sheet count at end → take end other ≡ take end sheet
        → NumbersFill read_number other count at end
    fill_kept other zero at end same kept = same
    fill_kept other (suc count) at end fill kept =
        let before : fill.next ≤ end = fill_forward count fill.next end fill.rest in
        let kept_first : take fill.next other ≡ take fill.next sheet = sym (take-take fill.next end other before) ∙ ap (take fill.next) kept ∙ take-take fill.next end sheet before in
        record {
          value = fill.value;
          next = fill.next;
          read = numbers.bytes_after max_number sheet other at fill.value fill.next fill.read kept_first;
          rest = fill_kept other count fill.next end fill.rest kept;
        }

-- ---- Parsers.
module _ (format : Format) (sheet : List ℕ) where
  between_none : (at : ℕ) → NumbersBetween format sheet at at
  between_none at = record { count = 0; numbers = refl }

  pub between_one : {at value next : ℕ} → format.read_number max_number sheet at ≡ parsed value next → NumbersBetween format sheet at next
  between_one {at} {value} {next} read = record { count = 1; numbers = record { value = value; next = next; read = read; rest = refl } }

  pub between_append : {at middle end : ℕ} → NumbersBetween format sheet at middle → NumbersBetween format sheet middle end → NumbersBetween format sheet at end
  between_append {at} {middle} {end} first second = record {
    count = first.count + second.count;
    numbers = fill_append format.read_number sheet first.count second.count at middle end first.numbers second.numbers;
  }

  -- A refusal after numbers that fill bytes.
  pub located_after : {at middle : ℕ} {reason : Refusal} → NumbersBetween format sheet at middle → Located format sheet middle reason → Located format sheet at reason
  located_after filled located = record {
    shows =
        λ is.
        let byte = located.shows is in
        record { before = between_append filled byte.before; limit = byte.limit; limited = byte.limited; refuses = byte.refuses };
    no_offset = located.no_offset;
  }

  after_numbers : {A : Type 0} {at middle : ℕ} → NumbersBetween format sheet at middle → (found : Parsed A) → OfNumbers format sheet middle found
      → OfNumbers format sheet at found
  after_numbers filled (parsed value next) later = between_append filled later
  after_numbers filled (refused reason) later = located_after filled later

  -- The law by which fields, records and headers hand an offset on: a parser of numbers, and then another.
  bind_of_numbers : {A B : Type 0} (at : ℕ) (first : Parsed A) (rest : A → ℕ → Parsed B) → OfNumbers format sheet at first
      → ((value : A) (next : ℕ) → OfNumbers format sheet next (rest value next))
      → OfNumbers format sheet at (bind first rest)
  bind_of_numbers at (parsed value next) rest filled later = after_numbers filled (rest value next) (later value next)
  bind_of_numbers at (refused reason) rest located later = located

  -- The code that a line shows does not change the offset.
  coded_of_numbers : {A : Type 0} (at code : ℕ) (found : Parsed A) → OfNumbers format sheet at found → OfNumbers format sheet at (with_code code found)
  coded_of_numbers at code (parsed value next) filled = filled
  coded_of_numbers at code (refused reason) located = record { shows = located.shows; no_offset = located.no_offset }

  -- A refusal of no number shows no offset.
  pub no_number : (at code number : ℕ) → refuses_number number ≡ false → Located format sheet at (refusal_of code number 0)
  no_number at code number other = record { shows = λ is. absurd (true≢false (sym is ∙ other)); no_offset = λ is. refl }

-- ---- The editions.
module _ (format : Format) (numbers : LawfulNumbers format.read_number) (fits : format.limits.sessions ≤ max_number) where
  read_of_numbers : (limit : ℕ) → (limit ≡ max_number) ⊎ (limit ≡ format.limits.sessions) → (sheet : List ℕ) (at : ℕ)
      → OfNumbers format sheet at (format.read_number limit sheet at)
  read_of_numbers limit limited sheet at = by_result (format.read_number limit sheet at) refl
    where
      small : limit ≤ max_number
      small = ⊎_elim (λ same. omega (arith, same)) (λ same. omega (arith, same, fits)) limited

      by_result : (found : Parsed ℕ) → format.read_number limit sheet at ≡ found → OfNumbers format sheet at found
      by_result (parsed value next) e = between_one format sheet (numbers.larger_limit limit max_number sheet at value next e small)
      by_result (refused reason) e =
          let own = numbers.own_offset limit sheet at reason e in
          let here : at ≡ reason.offset = sym (ap (λ (r : Refusal). r.offset) own.carries) in
          let refuses = ap (format.read_number limit sheet) (sym here) ∙ e ∙ ap refused (own.carries ∙ ap (refusal_of 0 reason.number) here) in
          record {
            shows = λ is. record { before = record { count = 0; numbers = here }; limit = limit; limited = limited; refuses = refuses };
            no_offset = λ other. absurd (true≢false (sym own.refuses ∙ other));
          }

  any_number : (sheet : List ℕ) (at : ℕ) → OfNumbers format sheet at (format.read_number max_number sheet at)
  any_number = read_of_numbers max_number (inl refl)

  field_of_numbers : (present : Bool) (limit : ℕ) → (limit ≡ max_number) ⊎ (limit ≡ format.limits.sessions) → (sheet : List ℕ) (at : ℕ)
      → OfNumbers format sheet at (decode_field format.read_number present limit sheet at)
  field_of_numbers true limit limited sheet at = read_of_numbers limit limited sheet at
  field_of_numbers false limit limited sheet at = between_none format sheet at

  rest_of_numbers : (code desk : ℕ) (sheet : List ℕ) (at : ℕ) → OfNumbers format sheet at (decode_rest format code desk sheet at)
  rest_of_numbers code desk sheet at =
      bind_of_numbers format sheet at (decode_field format.read_number (follows code screen_field) max_number sheet at) _
      (field_of_numbers (follows code screen_field) max_number (inl refl) sheet at) λ screen after_screen.
      bind_of_numbers format sheet after_screen (decode_field format.read_number (follows code position_field) max_number sheet after_screen) _
      (field_of_numbers (follows code position_field) max_number (inl refl) sheet after_screen) λ position after_position.
      bind_of_numbers format sheet after_position (decode_field format.read_number (follows code session_field) format.limits.sessions sheet after_position) _
      (field_of_numbers (follows code session_field) format.limits.sessions (inr refl) sheet after_position) λ session after_session.
      between_none format sheet after_session

  fields_of_numbers : (code : ℕ) (sheet : List ℕ) (at : ℕ) → OfNumbers format sheet at (decode_fields format code sheet at)
  fields_of_numbers code sheet at =
      bind_of_numbers format sheet at (decode_field format.read_number (follows code desk_field) max_number sheet at) _
      (field_of_numbers (follows code desk_field) max_number (inl refl) sheet at) λ desk after_desk.
      rest_of_numbers code desk sheet after_desk

  record_of_numbers : (sheet : List ℕ) (at : ℕ) → OfNumbers format sheet at (decode_record format sheet at)
  unfolding decode_record
  record_of_numbers sheet at =
      bind_of_numbers format sheet at (format.read_number max_number sheet at) _ (any_number sheet at) λ code after_code. by_code code after_code (is_code code)
    where
      by_code : (code after_code : ℕ) (is : Bool)
          → OfNumbers format sheet after_code (cond is (with_code code (decode_fields format code sheet after_code)) (refused (refusal_of code 17 0)))
      by_code code after_code true = coded_of_numbers format sheet after_code code (decode_fields format code sheet after_code) (fields_of_numbers code sheet after_code)
      by_code code after_code false = no_number format sheet after_code code 17 refl

  header_of_numbers : (sheet : List ℕ) (at : ℕ) → OfNumbers format sheet at (decode_header format.read_number sheet at)
  unfolding decode_header
  header_of_numbers sheet at =
      bind_of_numbers format sheet at (format.read_number max_number sheet at) _ (any_number sheet at) λ desks after_desks.
      bind_of_numbers format sheet after_desks (format.read_number max_number sheet after_desks) _ (any_number sheet after_desks) λ screens after_screens.
      bind_of_numbers format sheet after_screens (format.read_number max_number sheet after_screens) _ (any_number sheet after_screens) λ positions after_positions.
      between_none format sheet after_positions

  -- Edition 2 asks whether a number or a desk is the one that it expects, after it has read it.
  expected_of_numbers : (value : ℕ) (sheet : List ℕ) (at : ℕ) → OfNumbers format sheet at (expect_number format.read_number value sheet at)
  expected_of_numbers value sheet at =
      bind_of_numbers format sheet at (format.read_number max_number sheet at) _ (any_number sheet at) λ found next. by_value found next (eqb found value)
    where
      by_value : (found next : ℕ) (is : Bool) → OfNumbers format sheet next (cond is (parsed found next) (refused (refusal_of 0 21 0)))
      by_value found next true = between_none format sheet next
      by_value found next false = no_number format sheet next 0 21 refl

  header2_of_numbers : (sheet : List ℕ) (at : ℕ) → OfNumbers format sheet at (decode_header2 format.read_number sheet at)
  unfolding decode_header2
  header2_of_numbers sheet at =
      bind_of_numbers format sheet at (expect_number format.read_number 0 sheet at) _ (expected_of_numbers 0 sheet at) λ zero after_zero.
      bind_of_numbers format sheet after_zero (expect_number format.read_number 2 sheet after_zero) _ (expected_of_numbers 2 sheet after_zero) λ edition after_edition.
      header_of_numbers sheet after_edition

  checked_of_numbers : (shorthand : Bool) (carried : Carried) (sheet : List ℕ) (at : ℕ) (fields : Parsed Record) → OfNumbers format sheet at fields
      → OfNumbers format sheet at (bind fields (check_desk shorthand carried))
  checked_of_numbers shorthand carried sheet at fields filled =
      bind_of_numbers format sheet at fields _ filled λ entry next.
      by_desk_lem entry next (cond shorthand (repeats carried entry.desk) (not (repeats carried entry.desk)))
    where
      by_desk_lem : (entry : Record) (next : ℕ) (is : Bool) → OfNumbers format sheet next (cond is (parsed entry next) (refused (refusal_of 0 20 0)))
      by_desk_lem entry next true = between_none format sheet next
      by_desk_lem entry next false = no_number format sheet next 0 20 refl

  record2_of_numbers : (carried : Carried) (sheet : List ℕ) (at : ℕ) → OfNumbers format sheet at (decode_record2 format carried sheet at)
  unfolding decode_record2
  record2_of_numbers carried sheet at =
      bind_of_numbers format sheet at (format.read_number max_number sheet at) _ (any_number sheet at) λ code after_code.
      by_code code after_code (is_shorthand code) (is_code code)
    where
      by_code : (code after_code : ℕ) (short is : Bool)
          → OfNumbers format sheet after_code
          (cond short (with_code (stands_for code) (decode_shorthand format carried (stands_for code) sheet after_code))
          (cond is (with_code code (decode_written_out format carried code sheet after_code)) (refused (refusal_of code 17 0))))
      by_code code after_code true is =
          coded_of_numbers format sheet after_code (stands_for code) (decode_shorthand format carried (stands_for code) sheet after_code)
          (checked_of_numbers true carried sheet after_code (decode_rest format (stands_for code) (desk_before carried) sheet after_code)
          (rest_of_numbers (stands_for code) (desk_before carried) sheet after_code))
      by_code code after_code false true =
          coded_of_numbers format sheet after_code code (decode_written_out format carried code sheet after_code)
          (checked_of_numbers false carried sheet after_code (decode_fields format code sheet after_code) (fields_of_numbers code sheet after_code))
      by_code code after_code false false = no_number format sheet after_code code 17 refl

  pub edition_of_numbers : (version : Version) → EditionOfNumbers format (edition_for version format)
  edition_of_numbers version1 = record { header_of_numbers = header_of_numbers; record_of_numbers = λ carried. record_of_numbers }
  edition_of_numbers version2 = record { header_of_numbers = header2_of_numbers; record_of_numbers = record2_of_numbers }
