-- `lines::decimal_length` meets its contract.
use mathlib.Core.Path.{ap, ◌∙◌}
use lib.ListN.{length}
use Rattle.lines.proofs.DigitLaws.{printed_is_decimal}
use Rattle.lines.proofs.decimal_length.Goals as goal

pub returns : goal.returns
returns c = ap length (c.format.ensures.text ∙ printed_is_decimal c.args.value c.ranges.value.fits)
