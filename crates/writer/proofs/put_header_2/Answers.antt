-- `writer::put_header_2` meets its contract: one part is put after another.
use Rattle.buffer.proofs.Laws.Put.{put_on}
use Rattle.sheet_rules.specs.Edition2.{encode_header2}
use Rattle.writer.proofs.put_header_2.Goals as goal

pub returns : goal.returns
unfolding encode_header2
returns c = put_on c.put_number.ensures (put_on c.put_number-2.ensures c.put_hall.ensures)
