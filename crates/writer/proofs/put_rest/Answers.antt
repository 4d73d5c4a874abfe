-- `writer::put_rest` meets its contract: one part is put after another.
use Rattle.buffer.proofs.Laws.Put.{put_on}
use Rattle.writer.proofs.put_rest.Goals as goal

pub returns : goal.returns
returns c = put_on c.put_field.ensures (put_on c.put_field-2.ensures c.put_field-3.ensures)
