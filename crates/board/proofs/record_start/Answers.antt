-- `board::record_start` meets its contract.
use Rattle.std.proofs.Common.{ℕ, ◌+◌, ◌*◌, ◌≤◌, ap, mul-le-mul, arith}
use Rattle.rules.specs.Hall.{max_all_screens, max_desks}
use Rattle.rules.specs.Table.{width_for}
use Rattle.board.proofs.record_start.Goals as goal
use Rattle.board.proofs.record_start.Given.{Over}
use Rattle.board.proofs.record_start.Goals.{After-record_words}

-- the records before it, at most all those of the largest hall
before : (g : Over) (c : After-record_words g) → c.args.d * c.record_words.result ≤ max_desks * (width_for max_all_screens + 1)
before g c =
    let narrow = g.met.K.Records.laws.narrow c.args.s in
    let h : c.record_words.result ≤ width_for max_all_screens + 1 = omega (arith, narrow, c.record_words.ensures) in mul-le-mul c.requires.2 h

pub overflow_mul-result : goal.overflow_mul-result
overflow_mul-result g c = omega (arith, before g c)

pub overflow_add-result-3 : goal.overflow_add-result-3
overflow_add-result-3 g c = omega (arith, before g c)

pub returns : goal.returns
returns g c = omega (arith, ap (λ (w : ℕ). c.args.d * w) c.record_words.ensures, before g c)
