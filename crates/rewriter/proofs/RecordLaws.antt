-- The walk over the records of a sheet, which puts them one after another.
use Prim.Native.Nat.{ℕ, ◌≤◌, ◌<◌}
use native.Mathlib.Omega.{arith}
use mathlib.Core.Path.{◌≡◌, refl, sym, ap, ◌∙◌, subst}
use mathlib.Core.Bool.{Bool, true, false}
use mathlib.Core.List.{List, [], ◌++◌, append_assoc, append-nil}
use mathlib.Core.Option.{some}
use lib.ListN.{length, length-append}
use lib.Dec.{leb}
use borrow.Author.Tests.{leb-false, leb-true}
use Rattle.buffer.specs.Put.{Put}
use Rattle.buffer.specs.declared.Buffer.{Buffer}
use Rattle.buffer.proofs.Laws.Put.{put_none, put_on}
use Rattle.rules.specs.Numbers.{Refusal, parsed, refused}
use Rattle.sheet_rules.specs.Lawful.{Lawful}
use Rattle.sheet_rules.specs.Offsets.{ending_in}
use Rattle.sheet_rules.specs.Rewriting.{entries_in}
use Rattle.sheet_rules.specs.Sheet.{Carried, Edition, Record, Records, carried_after, complete, decode_records, encode_records, max_bytes, more, no_desk}
use Rattle.sheet_rules.proofs.Laws.Sheet.{records_end, records_more, records_stop}
use Rattle.rewriter.specs.Build.{PutRecords, PutUnlessLong, records_from, written_for}

module _ (from to : Edition) (sheet : List ℕ) where
  -- The records that are left at an offset, and what is written for them.
  abbrev left_from : Carried → ℕ → Records
  left_from carried at = decode_records from (length sheet) carried sheet at

  abbrev written_after : Carried → Records → List ℕ
  written_after carried records = encode_records to carried (entries_in records)

  -- Bytes were put before an offset. Unless they are more than 65,536, they and those of the records that are left are all.
  pub record Building (out : Buffer) (first offset : ℕ) (carried : Carried) (out_now : Buffer) : Type 0 where
    pub done : List ℕ
    pub rest : List ℕ
    pub put : Put out out_now done
    pub all : done ++ rest ≡ written_for to (records_from from sheet first)
    pub left : out_now.len ≤ max_bytes → rest ≡ written_after carried (left_from carried offset)
    pub ends : ending_in (left_from carried offset) ≡ ending_in (records_from from sheet first)

  pub building_first : (out : Buffer) (first : ℕ) → Building out first first no_desk out
  building_first out first = record {
    done = [];
    rest = written_for to (records_from from sheet first);
    put = put_none out;
    all = refl;
    left = λ short. refl;
    ends = refl;
  }

  -- A record that was read.
  pub record WasRead (carried : Carried) (at : ℕ) (entry : Record) (next : ℕ) : Type 0 where
    pub read : from.decode_record carried sheet at ≡ parsed entry next

module _ {from to : Edition} (lawful : Lawful from) {sheet : List ℕ} where
  module _ {carried : Carried} {at : ℕ} {entry : Record} {next : ℕ} (was : WasRead from to sheet carried at entry next) where
    pub record_past : at < next
    record_past = (lawful.record_moves carried sheet at entry next was.read).past

    records-after : at < length sheet → left_from from to sheet carried at ≡ more entry (left_from from to sheet (carried_after entry) next)
    records-after inside = records_more lawful carried sheet at entry next inside was.read

  module _ {out : Buffer} {first offset : ℕ} {carried : Carried} {out_now : Buffer} (was : Building from to sheet out first offset carried out_now) where
    module _ {entry : Record} {next : ℕ} (inside : offset < length sheet) (read : WasRead from to sheet carried offset entry next) where
      -- the record, and those after it
      abbrev later : List ℕ
      later = written_after from to sheet (carried_after entry) (left_from from to sheet (carried_after entry) next)

      one_more : out_now.len ≤ max_bytes → was.rest ≡ to.encode_record carried entry ++ later
      one_more short = was.left short ∙ ap (written_after from to sheet carried) (records-after read inside)

      same_end : ending_in (left_from from to sheet (carried_after entry) next) ≡ ending_in (records_from from sheet first)
      same_end = sym (ap ending_in (records-after read inside)) ∙ was.ends

      building_put : {out_next : Buffer} → out_now.len ≤ max_bytes → Put out_now out_next (to.encode_record carried entry)
          → Building from to sheet out first next (carried_after entry) out_next
      building_put short put = record {
        done = was.done ++ to.encode_record carried entry;
        rest = later;
        put = put_on was.put put;
        all =
            append_assoc was.done (to.encode_record carried entry) later
            ∙ ap (λ (bytes : List ℕ). was.done ++ bytes) (sym (one_more short))
            ∙ was.all;
        left = λ still. refl;
        ends = same_end;
      }

      building_long : max_bytes < out_now.len → Building from to sheet out first next (carried_after entry) out_now
      building_long long = record {
        done = was.done;
        rest = was.rest;
        put = was.put;
        all = was.all;
        left = λ short. absurd (omega (arith, short, long));
        ends = same_end;
      }

      pub building_next : {out_next : Buffer} → PutUnlessLong out_now out_next (to.encode_record carried entry)
          → Building from to sheet out first next (carried_after entry) out_next
      building_next {out_next} put = by_length (leb out_now.len max_bytes) refl
        where
          by_length : (short : Bool) → leb out_now.len max_bytes ≡ short → Building from to sheet out first next (carried_after entry) out_next
          by_length true is = let short = leb-true out_now.len max_bytes is in building_put short (put.short short)
          by_length false is =
              let long = leb-false out_now.len max_bytes is in
              subst (Building from to sheet out first next (carried_after entry)) (sym (put.long long)) (building_long long)

    -- a record is refused
    pub building_stopped : {reason : Refusal} → offset < length sheet → from.decode_record carried sheet offset ≡ refused reason
        → ending_in (records_from from sheet first) ≡ some reason
    building_stopped {reason} inside read = sym was.ends ∙ ap ending_in (records_stop lawful carried sheet offset reason inside read)

    -- no record is left
    pub building_ended : length sheet ≤ offset → PutRecords to (records_from from sheet first) out out_now
    building_ended outside = record {
      none_ends = sym was.ends ∙ ap ending_in none_left;
      short = λ short. subst (Put out out_now) (whole short) was.put;
      long = λ long. omega (arith, long, was.put.len, length-append was.done was.rest, ap length was.all);
    }
      where
        none_left : left_from from to sheet carried offset ≡ complete
        none_left = records_end lawful carried sheet offset outside

        whole : out_now.len ≤ max_bytes → was.done ≡ written_for to (records_from from sheet first)
        whole short =
            sym (append-nil was.done)
            ∙ ap (λ (bytes : List ℕ). was.done ++ bytes) (sym (was.left short ∙ ap (written_after from to sheet carried) none_left))
            ∙ was.all
