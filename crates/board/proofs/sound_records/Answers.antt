-- `board::sound_records` meets its contract.
use Rattle.std.proofs.Common.{◌≡◌, ℕ, ◌+◌, ◌-◌, ◌*◌, ◌≤◌, List, take, drop, sym, refl, ap, ◌∙◌, mul-le-mul_right, add-one, arith}
use borrow.Rule.Slice.PartMut.{mid_len}
use Rattle.rules.specs.Bytes.{words_of_bytes}
use Rattle.rules.specs.Table.{header_words}
use Rattle.words.proofs.Laws.{words-part}
use Rattle.board.proofs.SoundLaws.{one_bad, one_more, record_at, said_false, said_true}
use Rattle.board.proofs.sound_records.Goals as goal
use Rattle.board.proofs.sound_records.Given.{Over}
use Rattle.board.proofs.sound_records.Goals.{After-sound_record}

-- the words of all records
abbrev records : (g : Over) (o : After-sound_record g) → List ℕ
records g c = drop (header_words + c.args.l + c.args.s) (words_of_bytes c.args.t.now)

answer : (g : Over) (c : After-sound_record g) → let s = c.args.s in c.sound_record.result ≡ g.K.Records.kind.record_sound s (take (g.K.Records.kind.width s) (drop (c.loop-d.d * g.K.Records.kind.width s) (records g c)))
answer g c =
    let o = c.args in
    let a = c.record_start-a.result in
    let w = g.K.Records.kind.width o.s in
    c.sound_record.ensures
    ∙ ap (λ (k : ℕ). g.K.Records.kind.record_sound o.s (words_of_bytes (take (2 * (a + k) - 2 * a) (drop (2 * a) o.t.now)))) c.record_words-size.ensures
    ∙ ap (g.K.Records.kind.record_sound o.s) (words-part a (a + w) o.t.now ∙ record_at (words_of_bytes o.t.now) a (header_words + o.l + o.s) c.loop-d.d w c.record_start-a.ensures.0)

pub loop-d-init : goal.loop-d-init
loop-d-init g c = (omega arith, refl)

pub slice_bounds-sound_record-end : goal.slice_bounds-sound_record-end
slice_bounds-sound_record-end g c =
    let w = g.K.Records.kind.width c.args.s in
    let h : (c.loop-d.d + 1) * w ≤ c.args.p * w = mul-le-mul_right w (omega arith) in
    omega (arith, c.record_start-a.ensures.0, c.record_words-size.ensures)

pub sound_record-requires : goal.sound_record-requires
sound_record-requires g c =
    let a = c.record_start-a.result in
    let w = g.K.Records.kind.width c.args.s in
    let h : (c.loop-d.d + 1) * w ≤ c.args.p * w = mul-le-mul_right w (omega arith) in
    let long = mid_len (2 * a) (2 * (a + c.record_words-size.result)) c.args.t.now (omega (arith, c.record_start-a.ensures.0, c.record_words-size.ensures)) in
    (omega (arith, c.requires), omega (arith, long, c.record_words-size.ensures))

pub returns-then-not-sound_record : goal.returns-then-not-sound_record
returns-then-not-sound_record g c = sym (one_bad (g.K.Records.kind.record_sound c.args.s) (g.K.Records.kind.width c.args.s) c.args.p c.loop-d.d (records g (goal.at.returns-then-not-sound_record g c).After-sound_record) (omega arith) (said_false (answer g (goal.at.returns-then-not-sound_record g c).After-sound_record) c.if-not-sound_record.true))

pub loop-d-preserved : goal.loop-d-preserved
loop-d-preserved g c = (omega arith, rw add-one (one_more (g.K.Records.kind.record_sound c.args.s) (g.K.Records.kind.width c.args.s) c.loop-d.d (records g (goal.at.loop-d-preserved g c).After-sound_record) c.loop-d.invariant.1 (said_true (answer g (goal.at.loop-d-preserved g c).After-sound_record) c.if-not-sound_record.false)))

pub returns : goal.returns
returns g c =
    let end : c.loop-d.d ≡ c.args.p = omega arith in
    sym (rw (← end) c.loop-d.invariant.1)
