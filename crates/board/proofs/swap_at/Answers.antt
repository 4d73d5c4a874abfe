-- `board::swap_at` meets its contract.
use Rattle.std.proofs.Common.{◌+◌, set, ap, arith}
use Rattle.rules.specs.Bytes.{words_of_bytes}
use Rattle.rules.specs.Table.{owed_offset}
use Rattle.limits.specs.Room.{limits_of}
use Rattle.words.proofs.Laws.{length-words, written_as, written_then}
use Rattle.board.proofs.AdmissionLaws.{Admitted, admitted}
use Rattle.board.proofs.LocationLaws.{AtPosition, at_position}
use Rattle.board.proofs.ResultLaws.{matches, matches_unchanged}
use Rattle.board.proofs.SoundLaws.{said_false, said_true}
use Rattle.board.proofs.StepLaws.{swap_accepted, swap_accepted_none, swap_no_position, swap_over_limits, swap_owing, swap_repeated}
use Rattle.board.proofs.swap_at.Goals as goal
use Rattle.board.proofs.swap_at.Given.{Over}
use Rattle.board.proofs.swap_at.Goals.{Else-session-limits, Start, After-word, After-word-old}
use Rattle.board.specs.Kind.{Laws}

laws : (g : Over) → Laws g.K.Records.kind
laws g = g.met.K.Records.laws

here : (g : Over) (c : Else-session-limits g) → let o = c.args in Admitted g.K.Records.kind (limits_of o.limits) (words_of_bytes o.t.now) o.desk o.location
here g c = admitted (laws g) c.requires

position : (g : Over) (c : Else-session-limits g) → let o = c.args in AtPosition g.K.Records.kind (words_of_bytes o.t.now) o.desk o.position
position g c = search (at_position (laws g), admitted (laws g), said_true)

-- ---- the answers that write nothing: the three refusals, and a repeat
pub returns-then-not-in_range : goal.returns-then-not-in_range
returns-then-not-in_range g c = matches_unchanged (search (swap_no_position (laws g), admitted (laws g), said_false))

pub returns-then-session-limits : goal.returns-then-session-limits
returns-then-session-limits g c = matches_unchanged (search (swap_over_limits (laws g), admitted (laws g), at_position (laws g), said_true))

pub returns-then-word-ne0 : goal.returns-then-word-ne0
returns-then-word-ne0 g c = matches_unchanged (search (swap_owing (laws g), admitted (laws g), at_position (laws g), said_true))

pub returns-then-old-session : goal.returns-then-old-session
returns-then-old-session g c = matches_unchanged (search (swap_repeated (laws g), admitted (laws g), at_position (laws g), said_true))

pub overflow_add-owed : goal.overflow_add-owed
overflow_add-owed g c = let e = here g (goal.at.overflow_add-owed g c).Else-session-limits in omega (arith, e.room, e.end_is, length-words c.args.t.now)

pub word-requires : goal.word-requires
word-requires g c =
    let e = here g (goal.at.word-requires g c).Else-session-limits in
    omega (arith, e.room, e.end_is, length-words c.args.t.now)

pub overflow_sub-at : goal.overflow_sub-at
overflow_sub-at g c = omega (arith, (position g (goal.at.overflow_sub-at g c).Else-session-limits).first)

pub word-old-requires : goal.word-old-requires
word-old-requires g c = let else2 = (goal.at.word-old-requires g c).Else-session-limits in omega (arith, (position g else2).there, length-words c.args.t.now)

pub put_word-requires : goal.put_word-requires
put_word-requires g c = let else2 = (goal.at.put_word-requires g c).Else-session-limits in omega (arith, (position g else2).there, length-words c.args.t.now)

pub put_word-requires-then-old-ne0 : goal.put_word-requires-then-old-ne0
put_word-requires-then-old-ne0 g c =
    let else2 = (goal.at.put_word-requires-then-old-ne0 g c).Else-session-limits in let e = here g else2 in
    omega (arith, e.room, e.end_is, length-words c.args.t.now, c.put_word.auto.t)

-- ---- the answers of a change: from a session, which the desk then owes
pub returns-then-old-ne0 : goal.returns-then-old-ne0
returns-then-old-ne0 g c =
    let else2 = (goal.at.returns-then-old-ne0 g c).Else-session-limits in
    let put = c.put_word in
    let put2 = c.put_word-then-old-ne0 in
    let stored = written_as (written_then put.ensures put.auto.t put2.ensures) (ap (λ x. set x (c.args.location.start + owed_offset) c.word-old.result) put.ensures.holds) in
    matches (swap_accepted (laws g) (here g else2) _ _ (position g else2) c.if-session-limits.false c.word.ensures c.if-word-ne0.false c.word-old.ensures c.if-old-session.false) stored

-- and of an empty position
pub returns-else-old-ne0 : goal.returns-else-old-ne0
returns-else-old-ne0 g c =
    let else2 = (goal.at.returns-else-old-ne0 g c).Else-session-limits in
    matches (swap_accepted_none (laws g) (here g else2) _ _ (position g else2) c.if-session-limits.false c.word.ensures c.if-word-ne0.false c.word-old.ensures c.if-old-session.false c.if-old-ne0.false) c.put_word.ensures
