-- `board::open` meets its contract.
use Rattle.std.proofs.lemmas.Result.{err_from_is_err_and}
use Rattle.std.proofs.Common.{ℕ, ◌-◌, ◌*◌, ◌≤◌, List, length, set, ap, ◌∙◌, arith}
use borrow.Rule.Slice.PartMut.{same_len_mid}
use Rattle.rules.specs.Bytes.{words_of_bytes}
use Rattle.rules.specs.Hall.{Hall, Limits, hall_of}
use Rattle.board.specs.Kind.{Laws, need_of}
use Rattle.limits.specs.Room.{limits_of}
use Rattle.words.proofs.Laws.{length-words, written_then}
use Rattle.board.proofs.OpenLaws.{cleared, is_opened, need_there, not_opened, opened_bytes}
use Rattle.board.proofs.ResultLaws.{matches_unchanged}
use Rattle.reply.specs.Answer.{table_result}
use Rattle.std.specs.Prelude.{Ok}
use Rattle.board.proofs.open.Goals as goal
use Rattle.board.proofs.open.Given.{Over}
use Rattle.board.proofs.open.Goals.{Start, In_ok-opening}
use Rattle.board.specs.Kind.{Laws}

laws : (g : Over) → Laws g.K.Records.kind
laws g = g.met.K.Records.laws

-- the call's limits, and its hall
abbrev limits : (g : Over) (o : Start g) → Limits
limits g o = limits_of o.args.limits

abbrev hall : (g : Over) (o : Start g) → Hall
hall g o = hall_of o.args.desks o.args.screens o.args.positions

-- all questions were answered yes, so the need is there
there : (g : Over) (c : In_ok-opening g) →
    2 * need_of g.K.Records.kind (hall_of c.args.desks c.args.screens c.args.positions) ≤ length c.args.t.now
there g c =
    let words = words_of_bytes c.args.t.now in
    let many = length-words c.args.t.now in
    omega (arith, many, need_there (laws g) (limits_of c.args.limits) (hall_of c.args.desks c.args.screens c.args.positions) words (c.in_ok-opening.ensures words many))

pub returns-in_err-opening : goal.returns-in_err-opening
returns-in_err-opening g c =
    let words = words_of_bytes c.args.t.now in
    let p = err_from_is_err_and c.from_residual.result c.from_residual.ensures.1 in
    rw (p.1, p.2) (matches_unchanged (not_opened (laws g) _ _ words c.in_err-opening.field-0.0 (c.in_err-opening.ensures words (length-words c.args.t.now))))

pub overflow_mul-n : goal.overflow_mul-n
overflow_mul-n g c = omega (arith, c.need-n.ensures, there g (goal.at.overflow_mul-n g c).In_ok-opening)

pub slice_bounds-clear-count : goal.slice_bounds-clear-count
slice_bounds-clear-count g c = omega (arith, c.need-n.ensures)

pub slice_bounds-clear-start : goal.slice_bounds-clear-start
slice_bounds-clear-start g c = omega (arith, c.need-n.ensures)

pub slice_bounds-clear-end : goal.slice_bounds-clear-end
slice_bounds-clear-end g c = omega (arith, c.need-n.ensures, there g (goal.at.slice_bounds-clear-end g c).In_ok-opening)

pub put_word-requires : goal.put_word-requires
put_word-requires g c =
    let same = same_len_mid {X = ℕ} 0 (2 * c.need-n.result - 0) c.args.t.now c.clear.new.l c.clear.auto.l in
    omega (arith, same, there g (goal.at.put_word-requires g c).In_ok-opening)

pub put_word-requires-2 : goal.put_word-requires-2
put_word-requires-2 g c =
    let same = same_len_mid {X = ℕ} 0 (2 * c.need-n.result - 0) c.args.t.now c.clear.new.l c.clear.auto.l in
    omega (arith, c.put_word.auto.t, same, there g (goal.at.put_word-requires-2 g c).In_ok-opening)

pub put_word-requires-3 : goal.put_word-requires-3
put_word-requires-3 g c =
    let same = same_len_mid {X = ℕ} 0 (2 * c.need-n.result - 0) c.args.t.now c.clear.new.l c.clear.auto.l in
    omega (arith, c.put_word-2.auto.t, c.put_word.auto.t, same, there g (goal.at.put_word-requires-3 g c).In_ok-opening)

pub returns : goal.returns
returns g c =
    let bytes = c.args.t.now in
    let words = words_of_bytes bytes in
    let n = c.need-n.result in
    let part = c.clear.new.l in
    let asked = is_opened (laws g) (limits g (goal.at.returns g c).Start) (hall g (goal.at.returns g c).Start) words (c.in_ok-opening.ensures words (length-words bytes)) in
    let long : 2 * n ≤ length bytes = omega (arith, c.need-n.ensures, there g (goal.at.returns g c).In_ok-opening) in
    let same = same_len_mid {X = ℕ} 0 (2 * n - 0) bytes part c.clear.auto.l in
    let zeros = cleared (laws g) (hall g (goal.at.returns g c).Start) bytes part n c.need-n.ensures long c.clear.ensures in
    let one = written_then zeros same c.put_word.ensures in
    let two = written_then one (c.put_word.auto.t ∙ same) c.put_word-2.ensures in
    let three = written_then two (c.put_word-2.auto.t ∙ c.put_word.auto.t ∙ same) c.put_word-3.ensures in
    let stored = c.put_word-3.ensures.holds ∙ ap (λ (x : List ℕ). set x 2 c.args.positions) (c.put_word-2.ensures.holds ∙ ap (λ (x : List ℕ). set x 1 c.args.screens) c.put_word.ensures.holds) in
    record {
      words = (λ i. table_result (Ok 0) (stored i)) ∙ opened_bytes (laws g) (hall g (goal.at.returns g c).Start) bytes part n c.need-n.ensures long c.clear.ensures (limits g (goal.at.returns g c).Start) asked;
      last = three.last;
    }
