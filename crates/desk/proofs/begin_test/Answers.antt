-- `desk::begin_test` meets its contract.
use mathlib.Core.List.{List}
use mathlib.Core.Path.{ap, sym, ◌∙◌}
use lib.ListN.{set}
use Rattle.rules.specs.Bytes.{words_of_bytes}
use Rattle.desk.proofs.LayoutLaws.{begin_none, begin_stores}
use Rattle.desk.proofs.begin_test.Goals as goal

pub returns-then-word-eq0 : goal.returns-then-word-eq0
returns-then-word-eq0 g c =
    let words = words_of_bytes c.args.r.now in
    let stored = c.put_word-then-word-eq0.ensures.holds ∙ ap (λ (x : List _). set x 4 0) c.put_word.ensures.holds in
    stored ∙ (λ i. set (set words 3 (c.word-waiting.ensures i)) 4 0)
    ∙ begin_stores g.L.Slots.layout g.L.Slots.laws c.args.s words c.requires.laid (sym c.word.ensures ∙ c.if-word-eq0.true)

pub returns-else-word-eq0 : goal.returns-else-word-eq0
returns-else-word-eq0 g c =
    begin_none g.L.Slots.layout g.L.Slots.laws c.args.s (words_of_bytes c.args.r.now) c.requires.laid (λ z. c.if-word-eq0.false (c.word.ensures ∙ z))
