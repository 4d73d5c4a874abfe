-- Laws of parsers: what one that found a value found before it, and values that are read back from their bytes.
use Rattle.std.specs.Prelude.{ℕ, ◌+◌, ◌≡◌, refl, Bool, true, false, cond, List, [], ◌++◌, length, drop}
use Rattle.std.proofs.Common.{arith, sym, ap, ◌∙◌, subst, append_assoc, append-nil, length-append, drop-drop}
use Rattle.std.proofs.Math.Seq.{drop-length, drop-append_seam}
use Rattle.rules.specs.Numbers.{Parsed, Refusal, bind, parsed, refused}
use Rattle.sheet_rules.specs.Lawful.{ReadsBack, Stands}

-- ---- What a parser that found a value found before it.
pub refused_not_parsed : {A : Type 0} {reason : Refusal} {value : A} {next : ℕ} → refused reason ≡ parsed value next → ⊥
refused_not_parsed e = let z : ◌≡◌ {A = ℕ} 0 1 = cc in omega arith

pub bind_parsed : {A B : Type 0} (first : Parsed A) (rest : A → ℕ → Parsed B) (value : B) (next : ℕ) → bind first rest ≡ parsed value next
    → (a : A) × (middle : ℕ) × (first ≡ parsed a middle) × (rest a middle ≡ parsed value next)
bind_parsed (parsed a middle) rest value next e = (a, middle, refl, e)
bind_parsed (refused reason) rest value next e = absurd (refused_not_parsed e)

pub asked_parsed : {A : Type 0} (yes : Bool) (reason : Refusal) (rest : Parsed A) (value : A) (next : ℕ)
    → cond yes rest (refused reason) ≡ parsed value next
    → (yes ≡ true) × (rest ≡ parsed value next)
asked_parsed true reason rest value next e = (refl, e)
asked_parsed false reason rest value next e = absurd (refused_not_parsed e)

-- what holds of a value and its offset holds of those that are equal to them
pub same_parsed : {A : Type 0} (P : A → ℕ → Type 0) (first second : A) (at next : ℕ) → parsed first at ≡ parsed second next → P first at
    → P second next
same_parsed P first second at next e holds =
    let same : first ≡ second = cc in
    let far : at ≡ next = cc in
    subst (λ (n : ℕ). P second n) far (subst (λ a. P a at) same holds)

-- ---- Bytes that stand in a sheet.
pub stands_split : (first second sheet : List ℕ) (at next : ℕ) → Stands (first ++ second) sheet at next
    → Stands first sheet at (at + length first) × Stands second sheet (at + length first) next
stands_split first second sheet at next h =
    (record { content = one; end = refl }, record { content = two; end = omega (arith, h.end, length-append first second) })
  where
    all : drop at sheet ≡ first ++ (second ++ drop next sheet)
    all = h.content ∙ append_assoc first second (drop next sheet)

    two : drop (at + length first) sheet ≡ second ++ drop next sheet
    two = sym (drop-drop (length first) at sheet) ∙ ap (drop (length first)) all ∙ drop-append_seam first (second ++ drop next sheet)

    one : drop at sheet ≡ first ++ drop (at + length first) sheet
    one = all ∙ ap (λ (rest : List ℕ). first ++ rest) (sym two)

pub stands_join : (first second sheet : List ℕ) {at middle next : ℕ} → Stands first sheet at middle → Stands second sheet middle next
    → Stands (first ++ second) sheet at next
stands_join first second sheet {at} {middle} {next} one two = record {
  content = one.content ∙ ap (λ (rest : List ℕ). first ++ rest) two.content ∙ sym (append_assoc first second (drop next sheet));
  end = omega (arith, one.end, two.end, length-append first second);
}

pub stands_none : (sheet : List ℕ) (at : ℕ) → Stands [] sheet at at
stands_none sheet at = record { content = refl; end = omega arith }

pub stands_whole : (sheet : List ℕ) → Stands sheet sheet 0 (length sheet)
stands_whole sheet =
    record { content = sym (append-nil sheet) ∙ ap (λ (rest : List ℕ). sheet ++ rest) (sym (drop-length sheet)); end = omega arith }

-- ---- Values that are read back.

-- a value, and then what is parsed after it
pub bind_read_back : {A B : Type 0} {first : List ℕ → ℕ → Parsed A} (rest : A → List ℕ → ℕ → Parsed B) (bytes later : List ℕ) {a : A} {b : B}
    → ReadsBack first bytes a → ReadsBack (rest a) later b
    → ReadsBack (λ sheet at. bind (first sheet at) (λ value. rest value sheet)) (bytes ++ later) b
bind_read_back rest bytes later one two sheet at next stands =
    let split = stands_split bytes later sheet at next stands in
    simp (one sheet at (at + length bytes) split.0) (two sheet (at + length bytes) next split.1)

-- the last value, and what is made of it
pub last_read_back : {A B : Type 0} {first : List ℕ → ℕ → Parsed A} (make : A → B) {bytes : List ℕ} {a : A} → ReadsBack first bytes a
    → ReadsBack (λ sheet at. bind (first sheet at) (λ value. parsed (make value))) bytes (make a)
last_read_back make one sheet at next stands = simp (one sheet at next stands)
