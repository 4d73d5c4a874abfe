-- `words::zeros` meets its contract.
use Rattle.std.proofs.Common.{arith}
use Rattle.std.proofs.lemmas.Bool.Decides.{nat_tests}
use Rattle.std.proofs.lemmas.List.{at_drop_all, at_drop_more}
use Rattle.rules.specs.Bytes.{words_of_bytes}
use Rattle.words.specs.Words.{zeros_in}
use Rattle.words.proofs.Laws.{length-words}
use Rattle.words.proofs.zeros.Goals as goal

pub loop-i-preserved : goal.loop-i-preserved
loop-i-preserved c =
    let words = words_of_bytes c.args.l.now in
    let more = at_drop_more zeros_in words c.loop-i.i 0 (omega (arith, length-words c.args.l.now)) in
    grind (arith, nat_tests, more)

pub returns : goal.returns
returns c =
    let words = words_of_bytes c.args.l.now in
    omega (arith, at_drop_all zeros_in words c.loop-i.i (omega (arith, length-words c.args.l.now)))
