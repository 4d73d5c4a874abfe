-- What holds of both editions: each is lawful, exact if its reader of numbers is, and starts with a number of at most 16. Edition 1 refuses
-- every sheet that starts with 0, as those of edition 2 do.
use Prim.Native.Nat.{ℕ, ◌≤◌, ◌<◌}
use Rattle.std.proofs.Common.{arith, sym, ◌∙◌, inl, inr, lt-ltb}
use Rattle.std.specs.Prelude.{◌≡◌, ◌⊎◌, length}
use Rattle.std.proofs.Math.Path.{refl, ap, subst}
use mathlib.Core.List.{List, [], ◌∷◌}
use Rattle.std.proofs.Math.Logic.{⊎_elim}
use Rattle.rules.specs.Hall.{Hall, hall_of}
use Rattle.rules.specs.Numbers.{Parsed, Refusal, bind, max_number, parsed, refusal_of, refused}
use Rattle.rules.proofs.Laws.Table.EncodedStep.{hall-opens, limits_fit}
use Rattle.sheet_rules.specs.OtherEdition.{HeaderNumberRefused, RefusedHeader}
use Rattle.sheet_rules.specs.Edition1.{Format, decode_header, edition1, encode_number}
use Rattle.sheet_rules.specs.Edition2.{Version, edition2, edition_for, version1, version2}
use Rattle.sheet_rules.specs.Lawful.{Exact, ExactNumbers, Lawful, LawfulNumbers, Stands}
use Rattle.sheet_rules.specs.Lines.{lines_of, printed}
use Rattle.sheet_rules.specs.Offsets.{NumbersFill}
use Rattle.sheet_rules.specs.Sheet.{Accepted, Meaning, lent_table, max_bytes, opening_number, reading, unopened, whole}
use Rattle.sheet_rules.proofs.Laws.Edition1.{edition1_exact, edition1_lawful}
use Rattle.sheet_rules.proofs.Laws.Edition2.{edition2_exact, edition2_lawful, header2_read}
use Rattle.sheet_rules.proofs.Laws.Parsing.{bind_parsed, refused_not_parsed}
use Rattle.sheet_rules.proofs.Laws.Sheet.{begun, not-begun, opened_from, reading-opens, short_enough}

pub edition_lawful : (version : Version) (format : Format) → LawfulNumbers format.read_number → format.limits.sessions ≤ max_number
    → Lawful (edition_for version format)
edition_lawful version1 format numbers fits = edition1_lawful format numbers fits
edition_lawful version2 format numbers fits = edition2_lawful format numbers fits

pub edition_exact : (version : Version) (format : Format) → ExactNumbers format.read_number → Exact (edition_for version format)
edition_exact version1 format exact = edition1_exact format exact
edition_exact version2 format exact = edition2_exact format exact

-- ---- The first number of an accepted sheet.
pub record FirstNumber (format : Format) (sheet : List ℕ) (value : ℕ) : Type 0 where
  pub next : ℕ
  pub read : format.read_number max_number sheet 0 ≡ parsed value next

pub one_first_number : (format : Format) (sheet : List ℕ) (value other : ℕ) → FirstNumber format sheet value → FirstNumber format sheet other → value ≡ other
one_first_number format sheet value other one two =
    let both : parsed value one.next ≡ parsed other two.next = sym one.read ∙ two.read in
    cc both

module _ (format : Format) where
  -- in edition 1 it is the number of desks
  desks_first : (sheet : List ℕ) (hall : Hall) (next : ℕ) → decode_header format.read_number sheet 0 ≡ parsed hall next
      → FirstNumber format sheet hall.desks
  unfolding decode_header
  desks_first sheet hall next e =
      let desks = bind_parsed (format.read_number max_number sheet 0) _ hall next e in
      let screens = bind_parsed (format.read_number max_number sheet desks.1) _ hall next desks.3 in
      let positions = bind_parsed (format.read_number max_number sheet screens.1) _ hall next screens.3 in
      let same : hall_of desks.0 screens.0 positions.0 ≡ hall = cc positions.3 in
      record { next = desks.1; read = desks.2 ∙ ap (λ (found : Hall). parsed found.desks desks.1) same }

  -- so it is 1 to 16,
  pub first_of_edition_1 : (sheet : List ℕ) (meaning : Meaning) → Accepted (edition1 format) sheet meaning
      → (desks : ℕ) × FirstNumber format sheet desks × (1 ≤ desks) × (desks ≤ 16)
  unfolding opening_number
  first_of_edition_1 sheet meaning e =
      let was = opened_from (edition1 format) sheet meaning.header (whole meaning.records) e in
      let asked = limits_fit format.limits meaning.header (hall-opens format.limits meaning.header lent_table was.accepted).0 in
      (meaning.header.desks, desks_first sheet meaning.header was.next was.read, asked.desks.0, asked.desks.1)

  -- and in edition 2 it is 0.
  pub first_of_edition_2 : (sheet : List ℕ) (meaning : Meaning) → Accepted (edition2 format) sheet meaning → FirstNumber format sheet 0
  first_of_edition_2 sheet meaning e =
      let was = opened_from (edition2 format) sheet meaning.header (whole meaning.records) e in
      let header = header2_read format sheet 0 meaning.header was.next was.read in
      record { next = header.after_zero; read = header.zero_read }

  pub not_in_both : (sheet : List ℕ) (meaning other : Meaning) → Accepted (edition1 format) sheet meaning → Accepted (edition2 format) sheet other → ⊥
  not_in_both sheet meaning other one two =
      let desks = first_of_edition_1 sheet meaning one in
      omega (arith, one_first_number format sheet desks.0 0 desks.1 (first_of_edition_2 sheet other two), desks.2)

  pub starts_small : (version : Version) (sheet : List ℕ) (meaning : Meaning) → Accepted (edition_for version format) sheet meaning
      → (value : ℕ) × FirstNumber format sheet value × (value ≤ 16)
  starts_small version1 sheet meaning e = let desks = first_of_edition_1 sheet meaning e in (desks.0, desks.1, desks.3)
  starts_small version2 sheet meaning e = (0, first_of_edition_2 sheet meaning e, omega arith)

-- ---- A sheet that starts with 0, read in edition 1.
bind_refused : {A B : Type 0} (found : Parsed A) (rest : A → ℕ → Parsed B) (reason : Refusal) → bind found rest ≡ refused reason
    → (found ≡ refused reason) ⊎ ((value : A) × (next : ℕ) × (found ≡ parsed value next) × (rest value next ≡ refused reason))
bind_refused (parsed value next) rest reason e = inr (value, next, refl, e)
bind_refused (refused other) rest reason e = let same : other ≡ reason = cc in inl (ap refused same)

module _ (format : Format) (numbers : LawfulNumbers format.read_number) where
  -- a first byte of less than 128 is the first number
  pub first_byte : (first : ℕ) (rest : List ℕ) → first < 128 → FirstNumber format (first ∷ rest) first
  unfolding encode_number
  first_byte first rest small =
      let one : encode_number first ≡ first ∷ [] = simp (lt-ltb first 128 small) in
      let stands : Stands (encode_number first) (first ∷ rest) 0 1 =
      subst (λ (bytes : List ℕ). Stands bytes (first ∷ rest) 0 1) (sym one) (record { content = refl; end = refl }) in
      record { next = 1; read = numbers.read_back max_number first (omega (arith, small)) (omega arith) (first ∷ rest) 0 1 stands }

  -- one of the three numbers of a header is refused
  number_refused : (sheet : List ℕ) (count at : ℕ) (reason : Refusal) → count < 3 → NumbersFill format.read_number sheet count 0 at
      → format.read_number max_number sheet at ≡ refused reason
      → HeaderNumberRefused format sheet reason
  number_refused sheet count at reason few before refuses =
      let own = numbers.own_offset max_number sheet at reason refuses in
      let here : at ≡ reason.offset = sym (ap (λ (r : Refusal). r.offset) own.carries) in
      record {
        count = count;
        few = few;
        before = subst (NumbersFill format.read_number sheet count 0) here before;
        refuses = ap (format.read_number max_number sheet) (sym here) ∙ refuses;
        a_number = own.refuses;
      }

  header_refused : (sheet : List ℕ) (reason : Refusal) → decode_header format.read_number sheet 0 ≡ refused reason → HeaderNumberRefused format sheet reason
  unfolding decode_header
  header_refused sheet reason e =
      ⊎_elim (number_refused sheet 0 0 reason (omega arith) refl) (λ desks.
      ⊎_elim (number_refused sheet 1 desks.1 reason (omega arith) (record { value = desks.0; next = desks.1; read = desks.2; rest = refl })) (λ screens.
      ⊎_elim
      (number_refused sheet 2 screens.1 reason (omega arith)
      (record { value = desks.0; next = desks.1; read = desks.2; rest = record { value = screens.0; next = screens.1; read = screens.2; rest = refl } }))
      (λ positions. absurd (refused_not_parsed (sym positions.3)))
      (bind_refused (format.read_number max_number sheet screens.1) _ reason screens.3))
      (bind_refused (format.read_number max_number sheet desks.1) _ reason desks.3))
      (bind_refused (format.read_number max_number sheet 0) _ reason e)

  pub refused_header : (rest : List ℕ) → length (0 ∷ rest) ≤ max_bytes → RefusedHeader format (0 ∷ rest)
  unfolding printed opening_number
  refused_header rest short = by_header (decode_header format.read_number (0 ∷ rest) 0) refl
    where
      sheet : List ℕ
      sheet = 0 ∷ rest

      by_header : (found : Parsed Hall) → decode_header format.read_number sheet 0 ≡ found → RefusedHeader format sheet
      by_header (parsed hall next) read =
          let none : hall.desks ≡ 0 = one_first_number format sheet hall.desks 0 (desks_first format sheet hall next read) (first_byte 0 rest (omega arith)) in
          let asked : opening_number format.limits hall ≡ 1 = simp none in
          let opens : reading (edition1 format) sheet ≡ unopened (refusal_of 0 1 0) =
          reading-opens (edition1 format) sheet (begun (edition1 format) sheet (short_enough (edition1 format) sheet short read) asked) in
          record {
            reason = refusal_of 0 1 0;
            two_lines = ap (lines_of format.limits) opens;
            gets_through = λ other after e. refl;
            otherwise = λ found e. absurd (refused_not_parsed (sym e ∙ read));
          }
      by_header (refused reason) read =
          let opens : reading (edition1 format) sheet ≡ unopened reason =
          reading-opens (edition1 format) sheet (not-begun (edition1 format) sheet (short_enough (edition1 format) sheet short read)) in
          record {
            reason = reason;
            two_lines = ap (lines_of format.limits) opens;
            gets_through = λ hall next e. absurd (refused_not_parsed (sym read ∙ e));
            otherwise = λ found e. let both : refused reason ≡ refused found = sym read ∙ e in let same : reason ≡ found = cc in (same, header_refused sheet found e);
          }
