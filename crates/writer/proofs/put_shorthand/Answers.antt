-- `writer::put_shorthand` meets its contract: one part is put after another.
use Rattle.buffer.proofs.Laws.Put.{put_on}
use Rattle.writer.proofs.put_shorthand.Goals as goal

pub returns : goal.returns
returns c = put_on (rw c.number.ensures at c.put_number.ensures) c.put_rest.ensures
