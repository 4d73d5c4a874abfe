-- The program prints a sheet in batches, because its output may be longer than its buffer: what remains to be printed at a state,
-- and the result of a batch. Document 01, "The day sheet". Once the last line is put there is no state, and nothing remains.
use Rattle.std.specs.Prelude.{ℕ, suc, ◌+◌, ◌-◌, ◌≤◌, ◌≡◌, List, [], ◌∷◌, ◌++◌, length, Option, Some, None, IsSome, Result, Ok, Err}
use Rattle.rules.specs.Bytes.{words_of_bytes}
use Rattle.rules.specs.Hall.{Hall, Limits}
use Rattle.rules.specs.Messages.{send}
use Rattle.rules.specs.Steps.{Call, end}
use Rattle.rules.specs.Table.{open_table}
use Rattle.limits.specs.Room.{limits_of}
use Rattle.board.specs.Admission.{soundness_of}
use Rattle.board.specs.Kind.{first}
use Rattle.buffer.specs.Put.{Put}
use Rattle.buffer.specs.declared.Buffer.{Buffer}
use Rattle.reader.specs.Results.{carried_of, edition_of, reason_of}
use Rattle.reader.specs.declared.Edition.{Edition as ReaderEdition}
use Rattle.reader.specs.declared.Refusal.{Refusal}
use Rattle.reply.specs.declared.Reason.TheVariants.{Unsound}
use Rattle.sheet_rules.specs.Lines.{lines_from, printed}
use Rattle.sheet_rules.specs.Run.{calls_in}
use Rattle.sheet_rules.specs.Sheet.{Edition, Reading, Records, decode_records, lent_table, opened, opening_number, reading, unopened}
use Rattle.sheet_rules.specs.Tally.{zeros}
use Rattle.tally.specs.Counts.{to_tally}
use Rattle.sheet.specs.declared.State.{State}

-- Room for the longest last line, and for the longest line with the last line after it (`proofs/Laws/Longest` of `sheet_rules`).
abbrev pub end_room : ℕ
end_room = 67

abbrev pub record_room : ℕ
record_room = 84 + end_room

-- The buffer has room for so many bytes.
abbrev pub RoomFor : ℕ → Buffer → Type 0
RoomFor count out = out.len + count ≤ length out.bytes.now

-- The records that remain to be read.
abbrev pub remaining_records : Edition → List ℕ → State → Records
remaining_records edition sheet state = decode_records edition (length sheet) (carried_of state.carried) sheet state.offset

-- The bytes of a sheet's output that remain to be printed: none after the last line, else the lines from the next record on.
abbrev pub remaining_output : Edition → List ℕ → Option State → List ℕ → List ℕ
remaining_output edition sheet None table = []
remaining_output edition sheet (Some state) table = lines_from edition.limits table state.index (to_tally state.tally) (remaining_records edition sheet state)

-- The calls that remain to be run.
abbrev pub remaining_calls : Edition → List ℕ → Option State → List Call
remaining_calls edition sheet None = []
remaining_calls edition sheet (Some state) = calls_in (remaining_records edition sheet state)

-- A bound on the batches that remain: each but the last reads at least one record, and a record has at least one byte.
abbrev pub batches_left : List ℕ → Option State → ℕ
batches_left sheet None = 0
batches_left sheet (Some state) = suc (length sheet - state.offset)

-- What the state says of the table's soundness, which was asked after the opening, is still so.
abbrev pub Checked : ReaderEdition → Option State → List ℕ → Type 0
Checked edition None bytes = Unit {0}
Checked edition (Some state) bytes = state.soundness ≡ soundness_of first (limits_of edition.format.limits) (words_of_bytes bytes)

-- A batch leaves the table as sound as it was, also where no state is left to say so.
abbrev pub SameSoundness : ReaderEdition → List ℕ → List ℕ → Type 0
SameSoundness edition before after =
    soundness_of first (limits_of edition.format.limits) (words_of_bytes after) ≡ soundness_of first (limits_of edition.format.limits) (words_of_bytes before)

-- Where the reading ends before a record no hall was opened, and the table is not sound.
abbrev pub NoneOpened : ReaderEdition → Option State → List ℕ → Type 0
NoneOpened edition None bytes = Err Unsound ≡ soundness_of first (limits_of edition.format.limits) (words_of_bytes bytes)
NoneOpened edition (Some state) bytes = Unit {0}

-- A record's number is at most its offset, so that it does not overflow.
abbrev pub Numbered : Option State → Type 0
Numbered None = Unit {0}
Numbered (Some state) = state.index ≤ state.offset

-- Bytes that lead from one state and table to another: followed by what remains after them, they are what remained before.
-- The table is as the calls that were run leave it, sent with the right message numbers; how many these are is left free.
pub record Emitted (edition : Edition) (sheet : List ℕ) (was : Option State) (before bytes : List ℕ) (is : Option State) (after : List ℕ) : Type 0 where
  pub output : bytes ++ remaining_output edition sheet is after ≡ remaining_output edition sheet was before
  pub calls : List Call
  pub run : calls ++ remaining_calls edition sheet is ≡ remaining_calls edition sheet was
  pub table : after ≡ end (send edition.limits) before calls

-- Fewer batches remain, unless none did.
pub record Progress (sheet : List ℕ) (was is : Option State) : Type 0 where
  pub fewer : batches_left sheet is ≤ batches_left sheet was - 1
  pub numbered : Numbered is

-- A part of a batch: its bytes were put into the buffer, after those before.
pub record PartialBatch (edition : Edition) (sheet : List ℕ) (was : Option State) (before : List ℕ) (out : Buffer) (is : Option State) (after : List ℕ) (out_after : Buffer) : Type 0 where
  pub bytes : List ℕ
  pub put : Put out out_after bytes
  pub emitted : Emitted edition sheet was before bytes is after

-- A batch: the same, and it makes progress.
pub record Batch (edition : Edition) (sheet : List ℕ) (was : Option State) (before : List ℕ) (out : Buffer) (is : Option State) (after : List ℕ) (out_after : Buffer) : Type 0 where
  pub partial : PartialBatch edition sheet was before out is after out_after
  pub progress : Progress sheet was is

-- ---- The first batch: the header and the opening.

-- the table after the opening, and the calls to run
abbrev pub start_table : Limits → Reading → List ℕ
start_table limits (unopened reason) = lent_table
start_table limits (opened hall records) = (open_table limits hall lent_table).after

abbrev pub calls_of : Reading → List Call
calls_of (unopened reason) = []
calls_of (opened hall records) = calls_in records

-- the table after all calls of a sheet
abbrev pub sheet_table : Edition → List ℕ → List ℕ
sheet_table edition sheet = end (send edition.limits) (start_table edition.limits (reading edition sheet)) (calls_of (reading edition sheet))

-- A sheet whose hall was opened in the table, at its first record; or the table is still the one that was lent.
pub record Opens (edition : ReaderEdition) (sheet : List ℕ) (is : State) (after : List ℕ) : Type 0 where
  pub hall : Hall
  pub accepted : opening_number (edition_of edition).limits hall ≡ 0
  pub reads : reading (edition_of edition) sheet ≡ opened hall (remaining_records (edition_of edition) sheet is)
  pub table : words_of_bytes after ≡ (open_table (edition_of edition).limits hall lent_table).after
  pub checked : Checked edition (Some is) after
  pub first_record : is.index ≡ 1
  pub none_counted : to_tally is.tally ≡ zeros
  pub numbered : is.index ≤ is.offset

abbrev pub Begun : ReaderEdition → List ℕ → Result State Refusal → List ℕ → Type 0
Begun edition sheet (Ok is) after = Opens edition sheet is after
Begun edition sheet (Err refusal) after = (reading (edition_of edition) sheet ≡ unopened (reason_of refusal)) × (words_of_bytes after ≡ lent_table)

-- The first bytes of the output, put into the buffer after those before: the header's line, or all lines where the reading ends before a record.
pub record Started (edition : Edition) (sheet : List ℕ) (out : Buffer) (is : Option State) (after : List ℕ) (out_after : Buffer) : Type 0 where
  pub bytes : List ℕ
  pub put : Put out out_after bytes
  pub output : bytes ++ remaining_output edition sheet is after ≡ printed edition sheet
  pub some : 1 ≤ length bytes
  pub run : remaining_calls edition sheet is ≡ calls_of (reading edition sheet)
  pub table : after ≡ start_table edition.limits (reading edition sheet)
  pub numbered : Numbered is

-- ---- Batches one after another.

-- the bytes of a batch, and the state and the table after it
pub record BatchResult : Type 0 where
  pub bytes : List ℕ
  pub state : Option State
  pub table : List ℕ

abbrev pub last_state : Option State → List BatchResult → Option State
last_state state [] = state
last_state state (batch ∷ batches) = last_state batch.state batches

abbrev pub last_table : List ℕ → List BatchResult → List ℕ
last_table table [] = table
last_table table (batch ∷ batches) = last_table batch.table batches

abbrev pub bytes_of : List BatchResult → List ℕ
bytes_of [] = []
bytes_of (batch ∷ batches) = batch.bytes ++ bytes_of batches

-- Each batch starts at the state and the table that the last one left, and only where there is a state.
abbrev pub Batches : Edition → List ℕ → Option State → List ℕ → List BatchResult → Type 0
Batches edition sheet was before [] = Unit {0}
Batches edition sheet was before (batch ∷ batches) =
    IsSome was
    × Emitted edition sheet was before batch.bytes batch.state batch.table
    × Progress sheet was batch.state
    × Batches edition sheet batch.state batch.table batches
