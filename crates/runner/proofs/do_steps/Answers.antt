-- `runner::do_steps` meets its contract.
use Rattle.std.proofs.Common.{◌≡◌, length, rules, arith}
use Rattle.words.proofs.Laws.{length-words}
use Rattle.runner.proofs.RunLaws.{done_all, done_more, done_none, room_for_one, step_bytes_width}
use Rattle.runner.proofs.do_steps.Goals as goal

pub loop-i-init : goal.loop-i-init
loop-i-init c =
    let items = c.enumerate-i-items.ensures in
    let none = done_none (λ j. (c.type_inv.replies j).fits) (λ j. (c.type_inv.table j).fits) in
    (search rules, search rules, search rules, rw (c.into_iter-i-iterator.ensures.into_iter_gives, items.source, items.count, c.chunks.ensures.rest) none)

pub put_reply-requires : goal.put_reply-requires
put_reply-requires c =
    let next = c.in-Some.ensures.steps in
    omega (arith, next.1, length-words c.loop-i.replies, room_for_one c.loop-i.invariant.3 (omega (arith, next.0.1.1, c.if-step.false)) c.requires.0)

pub loop-i-preserved : goal.loop-i-preserved
loop-i-preserved c =
    let inv = c.loop-i.invariant in
    let next = c.in-Some.ensures.steps in
    let step = c.in-Some.step.now in
    let did = c.do_step-r in
    let put = c.put_reply in
    let room = room_for_one inv.3 (omega (arith, next.0.1.1, c.if-step.false)) c.requires.0 in
    let whole : length step ≡ step_bytes_width = omega (arith, next.0.1.1, inv.2, c.if-step.false) in
    let more = done_more step did.result inv.3 next.0.1.0 whole (λ j. (c.type_inv.replies j).fits) (λ j. (c.type_inv.table j).fits) did.auto.table did.ensures put.auto.replies room (rw next.1 at put.ensures) in
    (search rules, search rules, search rules, rw next.2 more)

pub returns-in-None : goal.returns-in-None
returns-in-None c = done_all c.loop-i.invariant.3 (omega (arith, c.in-None.ensures.steps.0.1.0)) c.requires.0

pub returns-then-step : goal.returns-then-step
returns-then-step c =
    let next = c.in-Some.ensures.steps in
    done_all c.loop-i.invariant.3 (omega (arith, next.0.1.1, c.loop-i.invariant.2, c.if-step.true)) c.requires.0
