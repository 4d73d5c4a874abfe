-- `words::all_zero` meets its contract.
use Rattle.std.proofs.Common.{eqb, arith}
use Rattle.rules.specs.Bytes.{words_of_bytes}
use Rattle.words.proofs.Laws.{length-words}
use Rattle.words.proofs.Scan.{every_end, every_step, or_zero}
use Rattle.words.proofs.all_zero.Goals as goal

pub loop-i-preserved : goal.loop-i-preserved
loop-i-preserved c =
    let many = length-words c.args.l.now in
    rw or_zero (every_step (λ x. eqb x 0) _ (eqb c.loop-i.bits 0) (words_of_bytes c.args.l.now) c.loop-i.i c.word-bits.result (omega arith) c.word-bits.ensures c.loop-i.invariant)

pub returns : goal.returns
returns c =
    let many = length-words c.args.l.now in
    every_end (λ x. eqb x 0) _ (eqb c.loop-i.bits 0) (words_of_bytes c.args.l.now) c.loop-i.i (omega arith) c.loop-i.invariant
