-- `lines::put_digits` meets its contract.
use mathlib.Core.Path.{◌≡◌, ◌∙◌}
use Rattle.sheet_rules.specs.Lines.{decimal}
use Rattle.lines.proofs.DigitLaws.{decimal_one, printed_is_decimal}
use Rattle.lines.proofs.put_digits.Goals as goal
use Rattle.lines.proofs.put_digits.Goals.{After-as_bytes}

text : (c : After-as_bytes) → c.as_bytes.result.now ≡ decimal c.args.value
text c = c.as_bytes.ensures.value ∙ c.format.ensures.text ∙ printed_is_decimal c.args.value c.ranges.value.fits

pub put_byte-requires : goal.put_byte-requires
put_byte-requires c = rw (decimal_one c.args.value c.if-value-lt10.true) at c.requires

pub returns-then-value-lt10 : goal.returns-then-value-lt10
returns-then-value-lt10 c = rw (decimal_one c.args.value c.if-value-lt10.true) c.put_byte.ensures

pub put-requires : goal.put-requires
put-requires c = rw (text c) c.requires

pub returns-else-value-lt10 : goal.returns-else-value-lt10
returns-else-value-lt10 c = rw (text (goal.at.returns-else-value-lt10 c).After-as_bytes) at c.put.ensures
