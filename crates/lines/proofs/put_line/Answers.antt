-- `lines::put_line` meets its contract.
use mathlib.Core.List.{[], ◌∷◌}
use Rattle.buffer.specs.Put.{Fits}
use Rattle.sheet_rules.specs.Lines.{decimal, line, spaced}
use Rattle.lines.proofs.FrontLaws.{front_fits, rest_fits, rest_put}
use Rattle.lines.proofs.put_line.Goals as goal
use Rattle.lines.proofs.put_line.Goals.{After-put_number, After-put_number-2, After-put_number-3}

after_index : (c : After-put_number) → Fits c.put_number.new.out (spaced (c.args.code ∷ c.args.number ∷ c.args.session ∷ []))
unfolding line
after_index c = rest_fits (decimal c.args.index) 32 (spaced (c.args.code ∷ c.args.number ∷ c.args.session ∷ [])) c.put_number.ensures c.requires

after_code : (c : After-put_number-2) → Fits c.put_number-2.new.out (spaced (c.args.number ∷ c.args.session ∷ []))
after_code c = rest_fits (decimal c.args.code) 32 (spaced (c.args.number ∷ c.args.session ∷ [])) c.put_number-2.ensures (after_index (goal.at.After-put_number-2 c).After-put_number)

pub put_number-requires : goal.put_number-requires
unfolding line
put_number-requires c = front_fits (decimal c.args.index) 32 (spaced (c.args.code ∷ c.args.number ∷ c.args.session ∷ [])) c.args.out.now c.requires

pub put_number-requires-2 : goal.put_number-requires-2
put_number-requires-2 c = front_fits (decimal c.args.code) 32 (spaced (c.args.number ∷ c.args.session ∷ [])) c.put_number.new.out (after_index (goal.at.put_number-requires-2 c).After-put_number)

pub put_number-requires-3 : goal.put_number-requires-3
put_number-requires-3 c = front_fits (decimal c.args.number) 32 (spaced (c.args.session ∷ [])) c.put_number-2.new.out (after_code (goal.at.put_number-requires-3 c).After-put_number-2)

pub put_number-requires-4 : goal.put_number-requires-4
put_number-requires-4 c = rest_fits (decimal c.args.number) 32 (spaced (c.args.session ∷ [])) c.put_number-3.ensures (after_code (goal.at.put_number-requires-4 c).After-put_number-2)

pub returns : goal.returns
unfolding line
returns c =
    let a = c.args in
    rest_put (decimal a.index) 32 c.put_number.ensures
    (rest_put (decimal a.code) 32 c.put_number-2.ensures
    (rest_put (decimal a.number) 32 c.put_number-3.ensures c.put_number-4.ensures))
