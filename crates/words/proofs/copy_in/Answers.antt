-- `words::copy_in` meets its contract.
use Rattle.std.proofs.Common.{◌≡◌, ◌+◌, length, take, sym, ap, ◌∙◌, arith}
use Rattle.std.proofs.Math.Seq.{take_all}
use Rattle.rules.specs.Bytes.{words_of_bytes}
use Rattle.words.proofs.Copies.{copy_next}
use Rattle.words.proofs.Laws.{length-words, written_as, written_then}
use Rattle.words.proofs.copy_in.Goals as goal

pub loop-i-preserved : goal.loop-i-preserved
loop-i-preserved c =
    let loop = c.loop-i in
    let put = c.put_word.ensures in
    let many = length-words loop.dst in (
      written_as (written_then loop.invariant.0 loop.auto.dst put) (sym put.holds),
      ap (take (loop.i + 1)) put.holds ∙ copy_next (words_of_bytes loop.dst) c.args.src.now loop.i (omega arith) (omega arith) loop.invariant.1,
    )

pub returns : goal.returns
returns c =
    let loop = c.loop-i in
    let many = length-words loop.dst in
    let many₀ = length-words c.args.dst.now in
    let end : loop.i ≡ length (words_of_bytes c.args.dst.now) = omega arith in
    written_as loop.invariant.0 (sym (take_all loop.i (words_of_bytes loop.dst) (omega arith)) ∙ loop.invariant.1 ∙ ap (λ k. take k c.args.src.now) end)
