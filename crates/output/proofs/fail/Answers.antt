use Rattle.output.proofs.Front.{front_either}
use Rattle.output.proofs.fail.Goals as goal

pub returns-clause-front : goal.returns-clause-front
returns-clause-front g c = (_, front_either c.write_line.result _ _ _ c.write_line.ensures.all c.write_line.ensures.front)
