use Rattle.std.proofs.Common.{refl, inl, inr}
use Rattle.output.proofs.Front.{front_either}
use Rattle.program.proofs.run.Goals as goal

pub returns-in-Run : goal.returns-in-Run
returns-in-Run g c =
    inl (record { to = _; errors = _; shows = (refl, refl); to_left = _; errors_left = _; met = c.work.ensures; leaves = (refl, refl) })

pub returns : goal.returns
returns g c =
    let written = c.write_all-in-Unknown in
    inr (inr (refl, front_either written.result _ _ _ written.ensures.all written.ensures.front))
