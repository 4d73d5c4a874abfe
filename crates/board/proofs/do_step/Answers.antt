-- `board::do_step` meets its contract: the table is not sound, or the step was done in its hall.
use Rattle.std.proofs.lemmas.Result.{err_from_is_err_and}
use Rattle.board.proofs.AdmissionLaws.{refused_table}
use Rattle.board.proofs.ResultLaws.{matches_unchanged}
use Rattle.board.proofs.do_step.Goals as goal
use Rattle.board.proofs.do_step.Given.{Over}
use Rattle.board.specs.Kind.{Laws}

laws : (g : Over) → Laws g.K.Records.kind
laws g = g.met.K.Records.laws

pub returns-in_err-hall : goal.returns-in_err-hall
returns-in_err-hall g c =
    let p = err_from_is_err_and c.from_residual.result c.from_residual.ensures.1 in
    rw (p.1, p.2) (matches_unchanged (refused_table (laws g) _ _ _ c.in_err-hall.ensures))
