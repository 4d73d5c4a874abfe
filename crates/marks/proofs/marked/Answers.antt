-- `marks::marked` meets its contract.
use Rattle.std.proofs.Common.{ℕ, get_or, ap, sym, ◌∙◌, arith}
use Rattle.std.proofs.lemmas.Nat.Bits.{shr_and_one}
use Rattle.rules.specs.Bytes.{words_of_bytes}
use Rattle.words.proofs.Laws.{length-words}
use Rattle.marks.proofs.MarkLaws.{mark_at}
use Rattle.marks.proofs.marked.Goals as goal

pub returns : goal.returns
returns c =
    let words = words_of_bytes c.args.m.now in
    let j = c.args.j in
    let at = c.mark_position-at.ensures in
    let w = c.word.ensures ∙ ap (λ (q : ℕ). get_or words q 0) at.0 in
    let mark = mark_at words j (omega (arith, c.requires, length-words c.args.m.now)) in
    rw (w, at.1, shr_and_one, sym mark)
