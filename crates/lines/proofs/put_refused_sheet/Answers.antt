-- `lines::put_refused_sheet` meets its contract.
use mathlib.Core.List.{[], ◌∷◌}
use Rattle.sheet_rules.specs.Lines.{decimal, spaced}
use Rattle.sheet_rules.specs.Rewriting.{refused_sheet_line}
use Rattle.lines.proofs.FrontLaws.{front_fits, rest_fits, rest_put}
use Rattle.lines.proofs.put_refused_sheet.Goals as goal

pub put_number-requires : goal.put_number-requires
unfolding refused_sheet_line
put_number-requires c = front_fits (decimal c.args.reply_number) 32 (spaced (c.args.offset ∷ [])) c.args.out.now c.requires

pub put_number-requires-2 : goal.put_number-requires-2
unfolding refused_sheet_line
put_number-requires-2 c = rest_fits (decimal c.args.reply_number) 32 (spaced (c.args.offset ∷ [])) c.put_number.ensures c.requires

pub returns : goal.returns
unfolding refused_sheet_line
returns c = rest_put (decimal c.args.reply_number) 32 c.put_number.ensures c.put_number-2.ensures
