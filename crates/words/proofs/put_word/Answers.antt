-- `words::put_word` meets its contract.
use Rattle.std.proofs.Common.{◌≡◌, ◌+◌, ◌*◌, ◌/◌, bit_and, set, ap, arith}
use Rattle.std.proofs.lemmas.Grind.{common_steps}
use Rattle.rules.specs.Bytes.{words_of_bytes}
use Rattle.words.proofs.Laws.{put_written, written_as}
use Rattle.words.proofs.put_word.Goals as goal

pub returns : goal.returns
returns c =
    let bytes = c.args.t.now in
    let w = c.args.w in
    let both : bit_and w 255 + 256 * (w / 256) ≡ w = grind (arith, common_steps) in
    written_as (put_written bytes c.args.i (bit_and w 255) (w / 256) c.requires) (ap (set (words_of_bytes bytes) c.args.i) both)
