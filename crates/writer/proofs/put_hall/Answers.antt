-- `writer::put_hall` meets its contract: one part is put after another.
use Rattle.buffer.proofs.Laws.Put.{put_on}
use Rattle.sheet_rules.specs.Edition1.{encode_header}
use Rattle.writer.proofs.put_hall.Goals as goal

pub returns : goal.returns
unfolding encode_header
returns c = put_on c.put_number.ensures (put_on c.put_number-2.ensures c.put_number-3.ensures)
