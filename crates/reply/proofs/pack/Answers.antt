-- `reply::pack` meets its contract.
use mathlib.Core.Path.{refl}
use borrow.Author.Rules.{rules}
use Rattle.rules.proofs.Laws.Bytes.Bytes.{unpack-pack}
use Rattle.reply.specs.Answer.{answer_with}
use Rattle.reply.proofs.pack.Goals as goal

pub returns : goal.returns
returns c = (refl, unpack-pack (answer_with c.args.number c.args.session) (search rules))
