-- `marks::mark_bits` meets its contract.
use Rattle.std.proofs.Common.{ap, ◌∙◌}
use Rattle.std.proofs.lemmas.Option.{MatchOption-at_some}
use Rattle.std.specs.Int.{from_le_bytes, w128}
use Rattle.marks.proofs.WordLaws.{one_number}
use Rattle.marks.proofs.mark_bits.Goals as goal

pub returns : goal.returns
returns c =
    let lent = MatchOption-at_some _ _ c.unwrap.result c.unwrap.ensures c.as_array.ensures.cases in
    one_number c.args.m.now c.from_le_bytes.result (λ i. (c.type_inv.m i).fits) c.requires (c.from_le_bytes.ensures ∙ ap (from_le_bytes w128) lent.same)
