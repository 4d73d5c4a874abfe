-- `words::word` meets its contract.
use Rattle.std.proofs.Common.{arith}
use Rattle.words.proofs.Laws.{word_at}
use Rattle.words.proofs.word.Goals as goal

pub returns : goal.returns
returns c = omega (arith, word_at c.args.t.now c.args.i c.requires, c.from_le_bytes.ensures)
