-- `writer::put_written_out` meets its contract: one part is put after another.
use Rattle.buffer.proofs.Laws.Put.{put_on}
use Rattle.sheet_rules.specs.Edition1.{encode_record}
use Rattle.writer.proofs.put_written_out.Goals as goal

pub returns : goal.returns
unfolding encode_record
returns c = put_on (rw c.number.ensures at c.put_number.ensures) (put_on c.put_field.ensures c.put_rest.ensures)
