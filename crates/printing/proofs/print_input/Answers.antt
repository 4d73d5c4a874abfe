use Rattle.std.proofs.Common.{arith, rules, ◌<◌, ⊎_elim, OnOk}
use Rattle.std.proofs.lemmas.Result.{on_ok_weaker}
use Rattle.std.specs.Io.KnownBytes.{Appends}
use Rattle.reader.specs.Results.{edition_of}
use Rattle.reader.specs.declared.TheConstants.{READ_BYTES}
use Rattle.sheet_rules.specs.Lines.{printed}
use Rattle.sheet_rules.specs.Sheet.{max_bytes}
use Rattle.program.proofs.KnownInput.{writes_known}
use Rattle.printing.proofs.KnownInput.{printed_as_all}
use Rattle.printing.proofs.print_input.Goals as goal

-- all of the input, if its bytes are known
pub returns-clause-all : goal.returns-clause-all
returns-clause-all g c =
    let work = c.work_on_input in
    let edition = edition_of c.args.edition in
    let contents = g.W.Write.contents in
    let large : max_bytes < READ_BYTES = omega arith in
    ⊎_elim
    (λ unread. search rules)
    (λ worked.
    let on = worked.0 in
    let written : OnOk work.result.taken (Appends (contents c.args.to.now) (contents work.new.to) (printed edition on.bytes.now)) = search rules in
    on_ok_weaker work.result.taken (writes_known (printed edition) READ_BYTES (printed_as_all edition READ_BYTES large) (g.R.Read.remaining c.args.from.now) on.bytes.now _ _ on.front) written)
    work.ensures.outcome
