-- `board::RowRecords::retire` meets its contract: a sound record encodes a desk.
use Rattle.board.proofs.RecordLaws.{record_encoded}
use Rattle.board.proofs.RowRecords.retire.Goals as goal

pub retire_record-requires : goal.retire_record-requires
retire_record-requires c = (record_encoded c.args.r.now c.requires (λ i. (c.slice_known-1.given i).fits), c.requires.long)

pub returns : goal.returns
returns c = let r = c.retire_record.ensures in record { number = r.number; session = r.session; after = r.after }
