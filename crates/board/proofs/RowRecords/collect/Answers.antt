-- `board::RowRecords::collect` meets its contract: a sound record encodes a desk, whose k is less than S.
use Rattle.std.proofs.Common.{arith}
use Rattle.rules.specs.Bytes.{words_of_bytes}
use Rattle.board.specs.FirstLaws.{first_laws}
use Rattle.board.proofs.RecordLaws.{record_encoded}
use Rattle.board.proofs.RowRecords.collect.Goals as goal

pub collect_record-requires : goal.collect_record-requires
collect_record-requires c =
    let whole = c.requires.0 in
    let below = first_laws.scanned-below c.args.s (words_of_bytes c.args.r.now) whole.some whole.passes in
    (record_encoded c.args.r.now whole (λ i. (c.slice_known-1.given i).fits), whole.long, omega (arith, below, whole.bounded), c.requires.1, c.requires.2)
