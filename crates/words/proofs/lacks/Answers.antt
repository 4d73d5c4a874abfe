-- `words::lacks` meets its contract.
use Rattle.std.proofs.Common.{not, eqb, arith}
use Rattle.rules.specs.Bytes.{words_of_bytes}
use Rattle.words.proofs.Laws.{length-words}
use Rattle.words.proofs.Scan.{every_end, every_step, not_or}
use Rattle.words.proofs.lacks.Goals as goal

pub loop-i-preserved : goal.loop-i-preserved
loop-i-preserved c =
    let many = length-words c.args.l.now in
    rw not_or (every_step (λ y. not (eqb y c.args.x)) _ (not c.loop-i.found) (words_of_bytes c.args.l.now) c.loop-i.i c.word.result (omega arith) c.word.ensures c.loop-i.invariant)

pub returns : goal.returns
returns c =
    let many = length-words c.args.l.now in
    every_end (λ y. not (eqb y c.args.x)) _ (not c.loop-i.found) (words_of_bytes c.args.l.now) c.loop-i.i (omega arith) c.loop-i.invariant
