-- `board::step_in` meets its contract: each refusal is that of `admit`, or `move_on` followed the step.
use Rattle.std.proofs.lemmas.Result.{err_from_is_err_and}
use Rattle.board.specs.Results.{step_of}
use Rattle.board.proofs.AdmissionLaws.{admits, refused_desk}
use Rattle.board.proofs.MessageLaws.{number_in_bytes, stepped}
use Rattle.board.proofs.ResultLaws.{matches_unchanged}
use Rattle.board.proofs.step_in.Goals as goal
use Rattle.board.proofs.step_in.Given.{Over}
use Rattle.board.specs.Kind.{Laws}

laws : (g : Over) → Laws g.K.Records.kind
laws g = g.met.K.Records.laws

pub returns-in_err-location : goal.returns-in_err-location
returns-in_err-location g c =
    let p = err_from_is_err_and c.from_residual.result c.from_residual.ensures.1 in
    rw (p.1, p.2) (matches_unchanged (refused_desk (laws g) _ _ _ c.requires c.in_err-location.ensures))

pub step_at-reply-requires : goal.step_at-reply-requires
step_at-reply-requires g c = (admits (laws g) c.requires c.in_ok-location.ensures).admits_desk

pub move_on-requires : goal.move_on-requires
move_on-requires g c = number_in_bytes (laws g) c.args.t.now c.step_at-reply.new.t (admits (laws g) c.requires c.in_ok-location.ensures) c.step_at-reply.auto.t

pub returns : goal.returns
returns g c = stepped (laws g) (admits (laws g) c.requires c.in_ok-location.ensures) (step_of c.args.step) c.step_at-reply.ensures c.step_at-reply.auto.t c.move_on.ensures
