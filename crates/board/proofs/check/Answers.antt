-- `board::check` meets its contract: the header is broken, or the records decide.
use Rattle.std.proofs.lemmas.Result.{err_from_is_err_and}
use Rattle.std.proofs.Common.{ap, mul-le-mul, arith}
use Rattle.rules.specs.Bytes.{words_of_bytes}
use Rattle.rules.specs.Table.{hall_in}
use Rattle.board.specs.Kind.{start_for}
use Rattle.rules.proofs.Laws.Table.EncodedStep.{limits_fit}
use Rattle.limits.specs.Room.{limits_of}
use Rattle.words.proofs.Laws.{length-words}
use Rattle.board.specs.declared.Hall.{Hall}
use Rattle.board.proofs.AdmissionLaws.{header_broken, named, records-sound, records-unsound}
use Rattle.board.proofs.SoundLaws.{said_false, said_true}
use Rattle.board.proofs.check.Goals as goal
use Rattle.board.proofs.check.Given.{Over}
use Rattle.board.specs.Kind.{Laws}

laws : (g : Over) → Laws g.K.Records.kind
laws g = g.met.K.Records.laws

pub returns-in_err-hall : goal.returns-in_err-hall
returns-in_err-hall g c =
    let p = err_from_is_err_and c.from_residual.result c.from_residual.ensures.1 in
    rw (p.1, p.2) (header_broken (laws g) _ _ c.in_err-hall.ensures)

pub sound_records-requires : goal.sound_records-requires
sound_records-requires g c =
    let n = named c.in_ok-hall.ensures in
    let fits = limits_fit (limits_of c.args.limits) (hall_in (words_of_bytes c.args.t.now)) n.inside in
    let desks = ap (λ (h : Hall). h.desks) n.is in
    let positions = ap (λ (h : Hall). h.positions) n.is in
    let all = ap (λ (h : Hall). h.all) n.is in
    let last = ap (λ (h : Hall). start_for g.K.Records.kind h.positions h.all h.desks) n.is in
    (omega (arith, desks, fits.desks), omega (arith, positions, fits.positions), omega (arith, all, mul-le-mul fits.desks.1 fits.screens.1), omega (arith, last, n.long, length-words c.args.t.now))

pub returns-then-not-sound_records : goal.returns-then-not-sound_records
returns-then-not-sound_records g c = records-unsound (laws g) (named c.in_ok-hall.ensures) (said_false c.sound_records.ensures c.if-not-sound_records.true)

pub returns : goal.returns
returns g c = records-sound (laws g) (named c.in_ok-hall.ensures) (said_true c.sound_records.ensures c.if-not-sound_records.false)
