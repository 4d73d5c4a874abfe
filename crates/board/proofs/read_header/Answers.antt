-- `board::read_header` meets its contract.
use Rattle.std.proofs.Common.{◌≤◌, length, mul-le-mul, arith}
use Rattle.rules.specs.Bytes.{words_of_bytes}
use Rattle.rules.specs.Hall.{hall_of}
use Rattle.board.specs.Kind.{need_of}
use Rattle.rules.proofs.Laws.Table.EncodedStep.{limits_fit}
use Rattle.limits.specs.Room.{limits_of}
use Rattle.words.proofs.Laws.{length-words}
use Rattle.board.proofs.SoundLaws.{header_names, header_short, limits_broken, said_false, said_true, table_too_short}
use Rattle.board.proofs.read_header.Goals as goal

pub returns-then-n-lt-HEADER : goal.returns-then-n-lt-HEADER
returns-then-n-lt-HEADER g c = header_short g.K.Records.kind (limits_of c.args.limits) (words_of_bytes c.args.t.now) (omega (arith, length-words c.args.t.now, c.if-n-lt-HEADER.true))

pub returns-then-not-in_limits : goal.returns-then-not-in_limits
returns-then-not-in_limits g c = limits_broken g.K.Records.kind (limits_of c.args.limits) (words_of_bytes c.args.t.now) c.word-desks.result c.word-screens.result c.word-positions.result c.word-desks.ensures c.word-screens.ensures c.word-positions.ensures (said_false c.in_limits.ensures c.if-not-in_limits.true)

pub returns-then-n-need : goal.returns-then-n-need
returns-then-n-need g c = table_too_short g.K.Records.kind (limits_of c.args.limits) (words_of_bytes c.args.t.now) c.word-desks.result c.word-screens.result c.word-positions.result c.word-desks.ensures c.word-screens.ensures c.word-positions.ensures (omega (arith, length-words c.args.t.now, c.need.ensures, c.if-n-need.true))

pub overflow_mul-s : goal.overflow_mul-s
overflow_mul-s g c =
    let fits = limits_fit (limits_of c.args.limits) (hall_of c.word-desks.result c.word-screens.result c.word-positions.result) (said_true c.in_limits.ensures c.if-not-in_limits.false) in
    omega (arith, mul-le-mul fits.desks.1 fits.screens.1)

pub returns : goal.returns
returns g c =
    let inside = said_true c.in_limits.ensures c.if-not-in_limits.false in
    let long : need_of g.K.Records.kind (hall_of c.word-desks.result c.word-screens.result c.word-positions.result) ≤ length (words_of_bytes c.args.t.now) = omega (arith, length-words c.args.t.now, c.need.ensures, c.if-n-need.false) in
    header_names g.K.Records.kind (limits_of c.args.limits) (words_of_bytes c.args.t.now) c.word-desks.result c.word-screens.result c.word-positions.result c.word-desks.ensures c.word-screens.ensures c.word-positions.ensures inside long
