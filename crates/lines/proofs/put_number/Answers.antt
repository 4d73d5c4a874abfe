-- `lines::put_number` meets its contract.
use mathlib.Core.List.{[], ◌∷◌}
use Rattle.buffer.proofs.Laws.Put.{front_fits, put_on, rest_fits}
use Rattle.sheet_rules.specs.Lines.{decimal}
use Rattle.lines.proofs.put_number.Goals as goal

pub put_digits-requires : goal.put_digits-requires
put_digits-requires c = front_fits c.args.out.now (decimal c.args.value) (c.args.after ∷ []) c.requires

pub put_byte-requires : goal.put_byte-requires
put_byte-requires c = rest_fits (c.args.after ∷ []) c.put_digits.ensures c.requires

pub returns : goal.returns
returns c = put_on c.put_digits.ensures c.put_byte.ensures
