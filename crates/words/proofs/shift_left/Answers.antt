-- `words::shift_left` meets its contract.
use Rattle.std.proofs.Common.{◌-◌, ◌/◌, ◌++◌, length, take, drop, sym, ◌∙◌, arith}
use Rattle.rules.specs.Bytes.{words_of_bytes}
use Rattle.words.specs.Written.{Written}
use Rattle.words.proofs.Copies.{move_end, moved_up, shift_some}
use Rattle.words.proofs.Laws.{length-words, written_as, written_then}
use Rattle.words.proofs.shift_left.Goals as goal

pub returns : goal.returns
returns c =
    let l = c.args.l.now in
    let words = words_of_bytes l in
    let last = length l / 2 - 1 in
    let many = length-words l in
    let copied = c.copy_within in
    let moved : Written l (take last (drop 1 words) ++ drop last words) copied.new.self = rw copied.ensures.after (moved_up last l (omega arith)) in
    written_as (written_then moved copied.ensures.len c.put_word.ensures) (move_end words (words_of_bytes copied.new.self) last (omega arith) moved.holds ∙ sym (shift_some words (omega arith)))
