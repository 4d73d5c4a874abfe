-- `runner::run` meets its contract: 4, 5, or the steps.
use Rattle.std.proofs.lemmas.Result.{err_from_is_err_and}
use Rattle.board.proofs.SoundLaws.{said_false, said_true}
use Rattle.runner.proofs.RunLaws.{run_accepted, run_room, run_short, run_unsound}
use Rattle.runner.proofs.run.Goals as goal

pub returns-then-not-has_room : goal.returns-then-not-has_room
returns-then-not-has_room c = run_short _ _ _ _ (said_false c.has_room.ensures c.if-not-has_room.true)

pub returns-in_err-hall : goal.returns-in_err-hall
returns-in_err-hall c =
    let p = err_from_is_err_and c.from_residual.result c.from_residual.ensures.1 in
    rw (p.1, p.2) (run_unsound _ _ _ _ (said_true c.has_room.ensures c.if-not-has_room.false) c.in_err-hall.ensures)

pub do_steps-requires : goal.do_steps-requires
do_steps-requires c = (run_room c.args.steps.now c.args.replies.now (said_true c.has_room.ensures c.if-not-has_room.false), c.in_ok-hall.ensures)

pub returns : goal.returns
returns c = run_accepted _ _ _ _ (said_true c.has_room.ensures c.if-not-has_room.false) c.in_ok-hall.ensures c.do_steps.ensures
