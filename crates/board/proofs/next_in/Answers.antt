-- `board::next_in` meets its contract.
use Rattle.std.proofs.Common.{◌≡◌, ℕ, ◌+◌, ◌-◌, List, ap, ◌∙◌, ap₂, arith}
use Rattle.rules.specs.Bytes.{words_of_bytes}
use Rattle.rules.specs.Table.{hall_in, next_word, start_for, tail_offset}
use Rattle.rules.proofs.Laws.History.StepEffects.{in_range_lem}
use Rattle.rules.proofs.Laws.Table.TableSteps.{known, record_within}
use Rattle.board.specs.Kind.{first}
use Rattle.board.specs.FirstLaws.{first_laws}
use Rattle.limits.specs.Room.{limits_of}
use Rattle.words.proofs.Laws.{length-words}
use Rattle.board.specs.declared.Hall.{Hall}
use Rattle.board.proofs.AdmissionLaws.{SoundHall, hall_bounded, sound-hall}
use Rattle.board.proofs.MessageLaws.{next_of_desk, next_of_no_desk}
use Rattle.board.proofs.SoundLaws.{said_false, said_true}
use Rattle.board.proofs.next_in.Goals as goal
use Rattle.board.proofs.next_in.Goals.{Start, After-tail_offset}

-- the words, and the hall in them
abbrev words : Start → List ℕ
words o = words_of_bytes o.args.t.now

numbers : (o : Start) → SoundHall first (limits_of o.args.limits) (words o) o.args.hall
numbers o = sound-hall o.requires

-- the offset of the desk's next message number
next_at : (c : After-tail_offset) →
    c.record_start-a.result + c.tail_offset.result ≡ next_word (hall_in (words_of_bytes c.args.t.now)) c.args.desk
next_at c =
    ap₂ (λ (x y : ℕ). x + y) c.record_start-a.ensures.0 c.tail_offset.ensures
    ∙ ap (λ (h : Hall). start_for h.positions h.all (c.args.desk - 1) + tail_offset h.all) (sound-hall c.requires).is

pub returns-then-not-in_range : goal.returns-then-not-in_range
returns-then-not-in_range c = next_of_no_desk (numbers (goal.at.returns-then-not-in_range c).Start) c.args.desk (said_false c.in_range.ensures c.if-not-in_range.true)

pub overflow_sub-desk : goal.overflow_sub-desk
overflow_sub-desk c = omega (arith, in_range_lem c.args.desk c.args.hall.desks (said_true c.in_range.ensures c.if-not-in_range.false))

pub record_start-a-requires : goal.record_start-a-requires
record_start-a-requires c =
    let b = hall_bounded first_laws (numbers (goal.at.record_start-a-requires c).Start) in
    omega (arith, b.positions, b.all, b.desks, in_range_lem c.args.desk c.args.hall.desks (said_true c.in_range.ensures c.if-not-in_range.false))

pub tail_offset-requires : goal.tail_offset-requires
tail_offset-requires c = omega (arith, (hall_bounded first_laws (numbers (goal.at.tail_offset-requires c).Start)).all)

pub overflow_add-a : goal.overflow_add-a
overflow_add-a c = omega (arith, c.record_start-a.ensures.1, c.tail_offset.ensures, (hall_bounded first_laws (numbers (goal.at.overflow_add-a c).Start)).all)

pub word-requires : goal.word-requires
word-requires c =
    let hall = hall_in (words (goal.at.word-requires c).Start) in
    let desks = ap (λ (h : Hall). h.desks) (numbers (goal.at.word-requires c).Start).is in
    let range = in_range_lem c.args.desk c.args.hall.desks (said_true c.in_range.ensures c.if-not-in_range.false) in
    omega (arith, next_at c, record_within hall c.args.desk range.0 (omega (arith, range.1, desks)), (known (limits_of c.args.limits) (words (goal.at.word-requires c).Start) (numbers (goal.at.word-requires c).Start).yes_sound).long, length-words c.args.t.now)

pub returns : goal.returns
returns c = c.word.ensures ∙ next_of_desk (numbers (goal.at.returns c).Start) c.args.desk (said_true c.in_range.ensures c.if-not-in_range.false) (next_at (goal.at.returns c).After-tail_offset)
