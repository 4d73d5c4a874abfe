use Rattle.std.proofs.Common.{arith, rules, ◌<◌, ⊎_elim, OnOk}
use Rattle.std.proofs.lemmas.Result.{on_ok_weaker}
use Rattle.std.specs.Io.KnownBytes.{Appends}
use Rattle.reader.specs.Results.{edition_of}
use Rattle.reader.specs.declared.TheConstants.{READ_BYTES}
use Rattle.sheet_rules.specs.Rewriting.{rewrite}
use Rattle.sheet_rules.specs.Sheet.{max_bytes}
use Rattle.program.proofs.KnownInput.{writes_known}
use Rattle.rewriting.proofs.KnownInput.{rewritten_as_all}
use Rattle.rewriting.proofs.rewrite_input.Goals as goal

-- all of the input, if its bytes are known
pub returns-clause-all : goal.returns-clause-all
returns-clause-all g c =
    let work = c.work_on_input in
    let from = edition_of c.args.from in
    let to = edition_of c.args.to in
    let contents = g.W.Write.contents in
    let large : max_bytes < READ_BYTES = omega arith in
    ⊎_elim
    (λ unread. search rules)
    (λ worked.
    let on = worked.0 in
    let written : OnOk work.result.taken (Appends (contents c.args.output.now) (contents work.new.to) (rewrite from to on.bytes.now)) = search rules in
    on_ok_weaker work.result.taken (writes_known (rewrite from to) READ_BYTES (rewritten_as_all from to READ_BYTES large) (g.R.Read.remaining c.args.input.now) on.bytes.now _ _ on.front) written)
    work.ensures.outcome
