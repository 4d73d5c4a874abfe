-- `marks::mark_slot` meets its contract.
use Rattle.std.proofs.Common.{◌≡◌, ℕ, ◌*◌, ◌/◌, ◌%◌, ◌^◌, bit_or, get_or, set, refl, ap, ◌∙◌, arith}
use Rattle.std.proofs.lemmas.Grind.{one_shifted}
use Rattle.rules.specs.Bytes.{words_of_bytes}
use Rattle.words.proofs.Laws.{length-words, written_as}
use Rattle.marks.proofs.MarkLaws.{mark_set}
use Rattle.marks.proofs.mark_slot.Goals as goal

pub returns : goal.returns
returns c =
    let words = words_of_bytes c.args.m.now in
    let j = c.args.j in
    let at = c.mark_position-at.ensures in
    let w = c.word-marks.ensures ∙ ap (λ (k : ℕ). get_or words k 0) at.0 in
    let b : (1 * 2 ^ c.mark_position-at.result.bit) % 65536 ≡ 2 ^ (j % 16) = (one_shifted c.mark_position-at.result.bit 65535 refl (omega arith)).0 ∙ ap (λ (k : ℕ). 2 ^ k) at.1 in
    let s = mark_set words j (omega (arith, length-words c.args.m.now)) c.requires.2 in
    written_as c.put_word.ensures ((λ i. set words (at.0 i) (bit_or (w i) (b i))) ∙ ap (set words (j / 16)) s)
