-- `board::Board::need` meets its contract.
use Rattle.std.proofs.Common.{ℕ, ◌+◌, ◌*◌, ◌≤◌, ap, mul-le-mul, arith}
use Rattle.rules.specs.Table.{width_for, header_words}
use Rattle.board.specs.Kind.{Laws}
use Rattle.board.proofs.Board.need.Goals as goal
use Rattle.board.proofs.Board.need.Given.{Over}
use Rattle.board.proofs.Board.need.Goals.{Start, After-record_words}

laws : (g : Over) → Laws g.K.Records.kind
laws g = g.met.K.Records.laws

-- 16-bit numbers: the screens and the records of any hall fit
screens : (g : Over) (c : Start g) → c.args.desks * c.args.screens ≤ 65535 * 65535
screens g c =
    let p : c.args.desks ≤ 65535 = omega arith in
    let n : c.args.screens ≤ 65535 = omega arith in
    mul-le-mul p n

records : (g : Over) (c : After-record_words g) → c.args.desks * c.record_words.result ≤ 65535 * (width_for (65535 * 65535) + 1)
records g c =
    let p : c.args.desks ≤ 65535 = omega arith in
    let w : c.record_words.result ≤ width_for (65535 * 65535) + 1 = omega (arith, c.record_words.ensures, (laws g).narrow (c.args.desks * c.args.screens), screens g c.before) in
    mul-le-mul p w

pub overflow_mul-s : goal.overflow_mul-s
overflow_mul-s g c = omega (arith, screens g c)

pub record_words-requires : goal.record_words-requires
record_words-requires g c = omega (arith, screens g c)

pub overflow_mul-result : goal.overflow_mul-result
overflow_mul-result g c = omega (arith, records g c)

pub overflow_add-result : goal.overflow_add-result
overflow_add-result g c = omega (arith, screens g (goal.at.overflow_add-result g c).Start, records g c)

pub overflow_add-result-2 : goal.overflow_add-result-2
overflow_add-result-2 g c = omega (arith, screens g (goal.at.overflow_add-result-2 g c).Start, records g c)

pub overflow_add-result-3 : goal.overflow_add-result-3
overflow_add-result-3 g c = omega (arith, screens g (goal.at.overflow_add-result-3 g c).Start, records g c)

pub returns : goal.returns
returns g c =
    let o = c.args in
    ap (λ (w : ℕ). header_words + (o.positions + (o.desks * o.screens + o.desks * w))) c.record_words.ensures
