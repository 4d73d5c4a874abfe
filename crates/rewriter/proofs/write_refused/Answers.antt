-- `rewriter::write_refused` meets its contract.
use borrow.Author.Rules.{rules}
use mathlib.Core.Path.{◌≡◌, ◌∙◌}
use Rattle.sheet_rules.specs.Rewriting.{refused_sheet_line}
use Rattle.rewriter.specs.Output.{put, write_whole}
use Rattle.rewriter.proofs.OutputLaws.{bytes_written}
use Rattle.rewriter.proofs.write_refused.Goals as goal

pub returns : goal.returns
returns c =
    let refusal = c.args.refusal in
    let number = c.from-reply_number.ensures in
    let new = c.new-line.ensures in
    let after = c.put_refused_sheet.new.out in
    let written : put after.bytes.now after.len ≡ write_whole c.args.out.now (refused_sheet_line refusal.number refusal.offset) =
    bytes_written c.new-line.result after (refused_sheet_line c.from-reply_number.result refusal.offset) new.len c.refused_sheet_length.ensures c.fits.ensures c.if-not-fits.false
    c.put_refused_sheet.ensures
    ∙ (λ i. write_whole (new.bytes i) (refused_sheet_line (number i) refusal.offset)) in
    search (rules, written)
