-- What a lawful edition writes for an accepted sheet is no longer than the sheet; an exact edition accepts nothing but what it writes.
use Prim.Native.Nat.{ℕ, zero, suc, ◌+◌, ◌≤◌}
use native.Mathlib.Omega.{arith}
use Rattle.std.specs.Prelude.{◌≡◌, refl, Bool, true, false, cond, length, ltb}
use Rattle.std.proofs.Common.{sym, ◌∙◌, subst, ltb-false}
use Rattle.std.proofs.Math.Path.{ap}
use mathlib.Core.List.{List, [], ◌∷◌, ◌++◌, append-nil}
use Rattle.std.proofs.Math.ListN.{length-append}
use Rattle.std.proofs.Math.Seq.{drop-length}
use Rattle.rules.specs.Bytes.{IsBytes}
use Rattle.rules.specs.Numbers.{Parsed, parsed, refused}
use Rattle.sheet_rules.specs.Lawful.{Exact, Lawful, Stands}
use Rattle.sheet_rules.specs.Sheet.{Accepted, Carried, Edition, Meaning, Record, Records, bind_records, carried_after, complete, decode_records, encode_records}
use Rattle.sheet_rules.specs.Sheet.{WrittenSheet, encode_sheet, more, no_desk, opened, whole}
use Rattle.sheet_rules.proofs.Laws.Parsing.{stands_join, stands_none}
use Rattle.sheet_rules.proofs.Laws.Sheet.{accepted_good, first_record, opened_from, reading-back}

not_complete : {entry : Record} {rest : Records} → complete ≡ more entry rest → ⊥
not_complete e = let z : ◌≡◌ {A = ℕ} 0 1 = cc in omega arith

-- ---- What is written is no longer.
module _ {edition : Edition} (lawful : Lawful edition) where
  records_no_longer : (most : ℕ) (entries : List Record) (carried : Carried) (sheet : List ℕ) (at : ℕ) → at ≤ length sheet
      → decode_records edition most carried sheet at ≡ whole entries
      → at + length (encode_records edition carried entries) ≤ length sheet
  records_no_longer most [] carried sheet at inside e = omega (arith, inside)
  records_no_longer zero (entry ∷ entries) carried sheet at inside e = absurd (not_complete e)
  records_no_longer (suc most) (entry ∷ entries) carried sheet at inside e =
      let first = first_record edition most carried sheet at entry (whole entries) e in
      let later = records_no_longer most entries (carried_after entry) sheet first.next (lawful.record_moves carried sheet at entry first.next first.read).inside first.later in
      omega (
        arith,
        later,
        lawful.record_no_longer carried sheet at entry first.next first.read,
        length-append (edition.encode_record carried entry) (encode_records edition (carried_after entry) entries),
      )

  pub accepted_no_longer : (sheet : List ℕ) (meaning : Meaning) → Accepted edition sheet meaning → length (encode_sheet edition meaning) ≤ length sheet
  unfolding encode_sheet
  accepted_no_longer sheet meaning e =
      let was = opened_from edition sheet meaning.header (whole meaning.records) e in
      let moved = lawful.header_moves sheet 0 meaning.header was.next was.read in
      omega (
        arith,
        lawful.header_no_longer sheet 0 meaning.header was.next was.read,
        records_no_longer (length sheet) meaning.records no_desk sheet was.next moved.inside (sym was.are),
        length-append (edition.encode_header meaning.header) (encode_records edition no_desk meaning.records),
      )

-- ---- Nothing but what is written is accepted.

-- no record is read where the sheet ends
records_last : (edition : Edition) (most : ℕ) (carried : Carried) (sheet : List ℕ) (at : ℕ) → decode_records edition (suc most) carried sheet at ≡ complete
    → length sheet ≤ at
records_last edition most carried sheet at e = by_offset (ltb at (length sheet)) refl e
  where
    after : Record → ℕ → Records
    after entry next = more entry (decode_records edition most (carried_after entry) sheet next)

    not_read : (found : Parsed Record) → bind_records found after ≡ complete → ⊥
    not_read (parsed entry next) q = not_complete (sym q)
    not_read (refused reason) q = let z : ◌≡◌ {A = ℕ} 0 1 = cc in omega arith

    by_offset : (inside : Bool) → ltb at (length sheet) ≡ inside → cond inside (bind_records (edition.decode_record carried sheet at) after) complete ≡ complete
        → length sheet ≤ at
    by_offset true inside q = absurd (not_read (edition.decode_record carried sheet at) q)
    by_offset false outside q = ltb-false at (length sheet) outside

module _ {edition : Edition} (lawful : Lawful edition) (exact : Exact edition) where
  records_exact : (most : ℕ) (entries : List Record) (carried : Carried) (sheet : List ℕ) (at : ℕ) → IsBytes sheet → length sheet ≤ at + most → at ≤ length sheet
      → decode_records edition most carried sheet at ≡ whole entries
      → Stands (encode_records edition carried entries) sheet at (length sheet)
  records_exact zero [] carried sheet at are enough inside e =
      let end : at ≡ length sheet = omega (arith, enough, inside) in
      subst (Stands [] sheet at) end (stands_none sheet at)
  records_exact (suc most) [] carried sheet at are enough inside e =
      let end : at ≡ length sheet = omega (arith, records_last edition most carried sheet at e, inside) in
      subst (Stands [] sheet at) end (stands_none sheet at)
  records_exact zero (entry ∷ entries) carried sheet at are enough inside e = absurd (not_complete e)
  records_exact (suc most) (entry ∷ entries) carried sheet at are enough inside e =
      let first = first_record edition most carried sheet at entry (whole entries) e in
      let moved = lawful.record_moves carried sheet at entry first.next first.read in
      stands_join _ _ sheet (exact.record_exact carried sheet at entry first.next are first.read)
      (records_exact most entries (carried_after entry) sheet first.next are (omega (arith, enough, moved.past)) moved.inside first.later)

  pub accepted_bytes : (sheet : List ℕ) (meaning : Meaning) → IsBytes sheet → Accepted edition sheet meaning → sheet ≡ encode_sheet edition meaning
  unfolding encode_sheet
  accepted_bytes sheet meaning are e =
      let was = opened_from edition sheet meaning.header (whole meaning.records) e in
      let moved = lawful.header_moves sheet 0 meaning.header was.next was.read in
      let stands =
      stands_join _ _ sheet (exact.header_exact sheet 0 meaning.header was.next are was.read)
      (records_exact (length sheet) meaning.records no_desk sheet was.next are (omega arith) moved.inside (sym was.are)) in
      let bytes : List ℕ = edition.encode_header meaning.header ++ encode_records edition no_desk meaning.records in
      stands.content ∙ ap (λ (rest : List ℕ). bytes ++ rest) (drop-length sheet) ∙ append-nil bytes

-- ---- What is accepted is what was written.
module _ {edition : Edition} (lawful : Lawful edition) where
  pub written_is_accepted : (sheet : List ℕ) (meaning : Meaning) → WrittenSheet edition sheet meaning → Accepted edition sheet meaning
  written_is_accepted sheet meaning written =
      subst (λ (bytes : List ℕ). Accepted edition bytes meaning) (sym written.bytes)
      (reading-back lawful meaning written.good (omega (arith, written.short, ap length written.bytes)))

  module _ (exact : Exact edition) where
    pub is_written : (sheet : List ℕ) (meaning : Meaning) → IsBytes sheet → Accepted edition sheet meaning → WrittenSheet edition sheet meaning
    is_written sheet meaning are e = record {
      good = accepted_good lawful sheet meaning e;
      short = (opened_from edition sheet meaning.header (whole meaning.records) e).short;
      bytes = accepted_bytes lawful exact sheet meaning are e;
    }

    pub same_bytes : {sheet other : List ℕ} {meaning other_meaning : Meaning} → IsBytes sheet → IsBytes other → Accepted edition sheet meaning
        → Accepted edition other other_meaning
        → meaning ≡ other_meaning
        → sheet ≡ other
    same_bytes {sheet} {other} {meaning} {other_meaning} are other_are e other_e same =
        accepted_bytes lawful exact sheet meaning are e ∙ ap (encode_sheet edition) same ∙ sym (accepted_bytes lawful exact other other_meaning other_are other_e)

-- ---- A sheet has one meaning.
whole_same : (entries others : List Record) → whole entries ≡ whole others → entries ≡ others
whole_same [] [] e = refl
whole_same [] (other ∷ others) e = absurd (not_complete e)
whole_same (entry ∷ entries) [] e = absurd (not_complete (sym e))
whole_same (entry ∷ entries) (other ∷ others) e =
    let first : entry ≡ other = cc in
    let rest : whole entries ≡ whole others = cc in
    let later : entries ≡ others = whole_same entries others rest in
    ap (λ (one : Record). one ∷ entries) first ∙ ap (λ (more : List Record). other ∷ more) later

one_meaning : (edition : Edition) (sheet : List ℕ) (meaning other : Meaning) → Accepted edition sheet meaning → Accepted edition sheet other
    → meaning ≡ other
one_meaning edition sheet meaning other e f =
    let both : opened meaning.header (whole meaning.records) ≡ opened other.header (whole other.records) = sym e ∙ f in
    let header : meaning.header ≡ other.header = cc in
    let all : whole meaning.records ≡ whole other.records = cc in
    let records : meaning.records ≡ other.records = whole_same meaning.records other.records all in
    λ i. record { header = header i; records = records i }

pub same_meaning : (edition : Edition) {sheet other : List ℕ} {meaning other_meaning : Meaning} → Accepted edition sheet meaning
    → Accepted edition other other_meaning
    → sheet ≡ other
    → meaning ≡ other_meaning
same_meaning edition {sheet} {other} {meaning} {other_meaning} e other_e same =
    one_meaning edition other meaning other_meaning (subst (λ (bytes : List ℕ). Accepted edition bytes meaning) same e) other_e
