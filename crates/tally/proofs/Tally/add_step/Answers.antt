-- `tally::Tally::add_step` meets its contract: a step of one of the five codes is counted, and no other is.
use Rattle.std.proofs.Common.{Bool, sym, ap, ◌∙◌}
use Rattle.sheet_rules.specs.Tally.{add_step, one_more_if, tally_of}
use Rattle.tally.proofs.CodeLaws.{step_is_code}
use Rattle.tally.proofs.Tally.add_step.Goals as goal

pub returns-in-Ok : goal.returns-in-Ok
unfolding add_step
returns-in-Ok c =
    let back = c.one_more_if-self-in-Ok-2.ensures ∙ ap (λ (yes : Bool). one_more_if yes c.args.self.now.handed_back) c.hands_back.ensures in
    rw (sym c.in-Ok.ensures, step_is_code c.in-Ok.step)
    (λ i. tally_of (c.one_more_if-self.ensures i) (c.one_more_if-self-in-Ok.ensures i) (back i))

pub returns-in_default : goal.returns-in_default
unfolding add_step
returns-in_default c = rw c.in_default.ensures.1
