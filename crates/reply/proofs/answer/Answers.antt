-- `reply::answer` meets its contract.
use mathlib.Core.Path.{◌∙◌, ap₂}
use Rattle.reply.specs.Answer.{answer_with}
use Rattle.reply.proofs.answer.Goals as goal

pub returns : goal.returns
returns c = c.pack.ensures.1 ∙ ap₂ answer_with c.number.ensures c.session.ensures
