-- `lines::put_end` meets its contract.
use mathlib.Core.List.{[], ◌∷◌}
use Rattle.buffer.specs.Put.{Fits}
use Rattle.buffer.proofs.Laws.Put.{front_fits as front_of, put_on, rest_fits as after_bytes}
use Rattle.sheet_rules.specs.Lines.{decimal, end_line, spaced}
use Rattle.lines.proofs.FrontLaws.{front_fits, rest_fits, rest_put}
use Rattle.lines.proofs.put_end.Goals as goal
use Rattle.lines.proofs.put_end.Goals.{After-put, After-put_number}

after_end : (c : After-put) → Fits c.put.new.self (spaced (c.args.accepted ∷ c.args.refused ∷ c.args.handed_back ∷ []))
unfolding end_line
after_end c = after_bytes (spaced (c.args.accepted ∷ c.args.refused ∷ c.args.handed_back ∷ [])) c.put.ensures c.requires

after_accepted : (c : After-put_number) → Fits c.put_number.new.out (spaced (c.args.refused ∷ c.args.handed_back ∷ []))
after_accepted c = rest_fits (decimal c.args.accepted) 32 (spaced (c.args.refused ∷ c.args.handed_back ∷ [])) c.put_number.ensures (after_end (goal.at.After-put_number c).After-put)

pub put-requires : goal.put-requires
unfolding end_line
put-requires c = front_of c.args.out.now (101 ∷ 110 ∷ 100 ∷ 32 ∷ []) (spaced (c.args.accepted ∷ c.args.refused ∷ c.args.handed_back ∷ [])) c.requires

pub put_number-requires : goal.put_number-requires
put_number-requires c = front_fits (decimal c.args.accepted) 32 (spaced (c.args.refused ∷ c.args.handed_back ∷ [])) c.put.new.self (after_end (goal.at.put_number-requires c).After-put)

pub put_number-requires-2 : goal.put_number-requires-2
put_number-requires-2 c = front_fits (decimal c.args.refused) 32 (spaced (c.args.handed_back ∷ [])) c.put_number.new.out (after_accepted (goal.at.put_number-requires-2 c).After-put_number)

pub put_number-requires-3 : goal.put_number-requires-3
put_number-requires-3 c = rest_fits (decimal c.args.refused) 32 (spaced (c.args.handed_back ∷ [])) c.put_number-2.ensures (after_accepted (goal.at.put_number-requires-3 c).After-put_number)

pub returns : goal.returns
unfolding end_line
returns c =
    let a = c.args in
    put_on c.put.ensures
    (rest_put (decimal a.accepted) 32 c.put_number.ensures
    (rest_put (decimal a.refused) 32 c.put_number-2.ensures c.put_number-3.ensures))
