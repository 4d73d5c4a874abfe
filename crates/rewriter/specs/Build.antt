-- What is built of a sheet before it is written: its records in another edition, or what ends their reading.
use Rattle.std.specs.Prelude.{ℕ, ◌+◌, ◌≤◌, ◌<◌, ◌≡◌, List, length, Result, Ok, Err}
use Rattle.std.proofs.Math.Option.{none, some}
use Rattle.buffer.specs.Put.{Put, put_so_far}
use Rattle.buffer.specs.declared.Buffer.{Buffer}
use Rattle.reader.specs.Results.{reason_of}
use Rattle.reader.specs.declared.Refusal.{Refusal}
use Rattle.sheet_rules.specs.Offsets.{ending_in}
use Rattle.sheet_rules.specs.Rewriting.{entries_in, refused_sheet_line, rewrite}
use Rattle.sheet_rules.specs.Sheet.{Edition, Records, decode_records, encode_records, max_bytes, no_desk}

-- The records of a sheet from an offset on, and the bytes that are written for them in another edition.
abbrev pub records_from : Edition → List ℕ → ℕ → Records
records_from from sheet at = decode_records from (length sheet) no_desk sheet at

abbrev pub written_for : Edition → Records → List ℕ
written_for to records = encode_records to no_desk (entries_in records)

-- Bytes are put, unless 65,536 are exceeded already: then nothing changes.
pub record PutUnlessLong (out out_after : Buffer) (bytes : List ℕ) : Type 0 where
  pub short : out.len ≤ max_bytes → Put out out_after bytes
  pub long : max_bytes < out.len → out_after ≡ out

-- The records were put, where nothing ends their reading. If there are more than 65,536 bytes then, there are more to be put than that.
pub record PutRecords (to : Edition) (records : Records) (out out_after : Buffer) : Type 0 where
  pub none_ends : ending_in records ≡ none
  pub short : out_after.len ≤ max_bytes → Put out out_after (written_for to records)
  pub long : max_bytes < out_after.len → max_bytes < out.len + length (written_for to records)

abbrev pub BuiltOf : Edition → Records → Buffer → Result (Unit {0}) Refusal → Buffer → Type 0
BuiltOf to records out (Ok _) out_after = PutRecords to records out out_after
BuiltOf to records out (Err refusal) out_after = ending_in records ≡ some (reason_of refusal)

-- What is to be written for a sheet was built; or what is to be written is the line of a refused sheet.
abbrev pub Builds : Edition → Edition → List ℕ → Result (Unit {0}) Refusal → Buffer → Type 0
Builds from to sheet (Ok _) built = put_so_far built ≡ rewrite from to sheet
Builds from to sheet (Err refusal) built = refused_sheet_line (reason_of refusal).number (reason_of refusal).offset ≡ rewrite from to sheet
