-- `board::admit` meets its contract.
use Rattle.std.specs.Prelude.{Ok}
use Rattle.std.proofs.Common.{◌≡◌, ℕ, ◌+◌, ◌-◌, true, List, get_or, sym, ap, ◌∙◌, ap₂, arith, eq-eqb, ne_eqb}
use Rattle.rules.specs.Bytes.{words_of_bytes}
use Rattle.rules.specs.Steps.{in_range}
use Rattle.rules.specs.Table.{hall_in, tail_offset}
use Rattle.rules.proofs.Laws.History.StepEffects.{in_range_lem}
use Rattle.limits.specs.Room.{limits_of}
use Rattle.words.proofs.Laws.{length-words}
use Rattle.board.specs.Admission.{admission_of}
use Rattle.board.specs.Kind.{Kind, Laws, next_of, start_for}
use Rattle.board.specs.declared.Hall.{Hall}
use Rattle.board.proofs.AdmissionLaws.{Bounded, Known, SoundHall, hall_bounded, known, next_within, sound-hall}
use Rattle.board.proofs.SoundLaws.{said_false, said_true}
use Rattle.board.proofs.admit.Goals as goal
use Rattle.board.proofs.admit.Given.{Over}
use Rattle.board.proofs.admit.Goals.{Start, Else-not-in_range, After-tail_offset, After-word}

abbrev kind : Over → Kind
kind g = g.K.Records.kind

laws : (g : Over) → Laws (kind g)
laws g = g.met.K.Records.laws

-- the words, and the hall in them
abbrev words : (g : Over) → Start g → List ℕ
words g o = words_of_bytes o.args.t.now

numbers : (g : Over) (o : Start g) → SoundHall (kind g) (limits_of o.args.limits) (words g o) o.args.hall
numbers g o = sound-hall o.requires

facts : (g : Over) (o : Start g) → Known (kind g) (words g o)
facts g o = known (laws g) (limits_of o.args.limits) (words g o) (numbers g o).yes_sound

within : (g : Over) (o : Start g) → Bounded o.args.hall
within g o = hall_bounded (laws g) (numbers g o)

-- the desk is one of the hall's
own_desk : (g : Over) (c : Else-not-in_range g) → in_range c.args.desk (hall_in (words_of_bytes c.args.t.now)).desks ≡ true
own_desk g c = said_true (c.in_range.ensures ∙ ap (λ (h : Hall). in_range c.args.desk h.desks) (sound-hall c.requires).is) c.if-not-in_range.false

-- the offset of the desk's next message number
next_at : (g : Over) (c : After-tail_offset g) → c.record_start-a.result + c.tail_offset.result ≡ next_of (kind g) (hall_in (words_of_bytes c.args.t.now)) c.args.desk
next_at g c =
    ap₂ (λ (x y : ℕ). x + y) c.record_start-a.ensures.0 c.tail_offset.ensures
    ∙ ap (λ (h : Hall). start_for (kind g) h.positions h.all (c.args.desk - 1) + tail_offset h.all) (sound-hall c.requires).is

-- and what is read there
next_read : (g : Over) (c : After-word g) → c.word.result ≡ get_or (words_of_bytes c.args.t.now) (next_of (kind g) (hall_in (words_of_bytes c.args.t.now)) c.args.desk) 0
next_read g c =
    c.word.ensures
    ∙ ap (λ (k : ℕ). get_or (words_of_bytes c.args.t.now) k 0)
    (ap₂ (λ (x y : ℕ). x + y) c.record_start-a.ensures.0 c.tail_offset.ensures
    ∙ ap (λ (h : Hall). start_for (kind g) h.positions h.all (c.args.desk - 1) + tail_offset h.all) (sound-hall c.requires).is)

pub returns-then-not-in_range : goal.returns-then-not-in_range
unfolding admission_of
returns-then-not-in_range g c =
    rw (said_false (c.in_range.ensures ∙ ap (λ (h : Hall). in_range c.args.desk h.desks) (numbers g (goal.at.returns-then-not-in_range g c).Start).is) c.if-not-in_range.true)

pub overflow_sub-d : goal.overflow_sub-d
overflow_sub-d g c = omega (arith, in_range_lem c.args.desk c.args.hall.desks (said_true c.in_range.ensures c.if-not-in_range.false))

pub record_start-a-requires : goal.record_start-a-requires
record_start-a-requires g c =
    let w = within g (goal.at.record_start-a-requires g c).Start in
    omega (arith, w.positions, w.all, w.desks, in_range_lem c.args.desk c.args.hall.desks (said_true c.in_range.ensures c.if-not-in_range.false))

pub record_start-e-requires : goal.record_start-e-requires
record_start-e-requires g c =
    let w = within g (goal.at.record_start-e-requires g c).Start in
    omega (arith, w.positions, w.all, w.desks, in_range_lem c.args.desk c.args.hall.desks (said_true c.in_range.ensures c.if-not-in_range.false))

pub tail_offset-requires : goal.tail_offset-requires
tail_offset-requires g c = omega (arith, (within g (goal.at.tail_offset-requires g c).Start).all)

pub overflow_add-next : goal.overflow_add-next
overflow_add-next g c = omega (arith, c.record_start-a.ensures.1, c.tail_offset.ensures, (within g (goal.at.overflow_add-next g c).Start).all)

pub word-requires : goal.word-requires
word-requires g c =
    let hall = hall_in (words_of_bytes c.args.t.now) in
    let range = in_range_lem c.args.desk hall.desks (own_desk g (goal.at.word-requires g c).Else-not-in_range) in
    omega (arith, next_at g c, next_within (laws g) hall c.args.desk range.0 range.1, (facts g (goal.at.word-requires g c).Start).long, length-words c.args.t.now)

pub returns-then-word-message : goal.returns-then-word-message
unfolding admission_of
returns-then-word-message g c =
    let next = get_or (words_of_bytes c.args.t.now) (next_of (kind g) (hall_in (words_of_bytes c.args.t.now)) c.args.desk) 0 in
    rw (own_desk g (goal.at.returns-then-word-message g c).Else-not-in_range, ne_eqb c.args.message next (λ same. c.if-word-message.true (next_read g (goal.at.returns-then-word-message g c).After-word ∙ sym same)))

pub returns : goal.returns
unfolding admission_of
returns g c =
    let n = numbers g (goal.at.returns g c).Start in
    let positions = ap (λ (h : Hall). h.positions) n.is in
    let screens = ap (λ (h : Hall). h.screens) n.is in
    let all = ap (λ (h : Hall). h.all) n.is in
    let from = c.record_start-a.ensures.0 ∙ ap₂ (λ (x y : ℕ). start_for (kind g) x y (c.args.desk - 1)) positions all in
    let to = c.record_start-e.ensures.0 ∙ ap₂ (λ (x y : ℕ). start_for (kind g) x y c.args.desk) positions all in
    let next = get_or (words_of_bytes c.args.t.now) (next_of (kind g) (hall_in (words_of_bytes c.args.t.now)) c.args.desk) 0 in
    rw (own_desk g (goal.at.returns g c).Else-not-in_range, eq-eqb c.args.message next (sym c.if-word-message.false ∙ next_read g (goal.at.returns g c).After-word))
    (λ i. Ok (record { positions = positions i; screens = screens i; all = all i; start = from i; end = to i; next = next_at g (goal.at.returns g c).After-tail_offset i }))
