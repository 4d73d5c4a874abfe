-- `board::take_at` meets its contract.
use Rattle.std.proofs.Common.{ℕ, set, sym, refl, ap, ◌∙◌, arith}
use Rattle.rules.specs.Bytes.{words_of_bytes}
use Rattle.words.proofs.Laws.{length-words}
use Rattle.reply.specs.Answer.{table_result}
use Rattle.std.specs.Prelude.{Ok}
use Rattle.board.proofs.AdmissionLaws.{admitted}
use Rattle.board.proofs.LocationLaws.{AtPosition, AtScreen, at_position, at_screen}
use Rattle.board.proofs.ResultLaws.{matches, matches_unchanged}
use Rattle.board.proofs.SoundLaws.{said_false, said_true}
use Rattle.board.proofs.StepLaws.{take_accepted, take_no_position, take_no_screen, take_position_empty, take_screen_full}
use Rattle.board.proofs.take_at.Goals as goal
use Rattle.board.proofs.take_at.Given.{Over}
use Rattle.board.proofs.take_at.Goals.{Else-not-in_range-2, After-screen_at-at}
use Rattle.board.specs.Kind.{Laws}

laws : (g : Over) → Laws g.K.Records.kind
laws g = g.met.K.Records.laws

-- the words of its position and of its screen
position : (g : Over) (c : Else-not-in_range-2 g) →
    AtPosition g.K.Records.kind (words_of_bytes c.args.t.now) c.args.desk c.args.position
position g c =
    at_position (laws g) (admitted (laws g) c.requires) (said_true c.in_range-2.ensures c.if-not-in_range-2.false)

screen : (g : Over) (c : After-screen_at-at g) →
    AtScreen g.K.Records.kind (words_of_bytes c.args.t.now) c.args.desk c.args.screen c.screen_at-at.result
screen g c =
    at_screen (laws g) (admitted (laws g) c.requires) (said_true c.in_range.ensures c.if-not-in_range.false) c.screen_at-at.ensures

pub returns-then-not-in_range : goal.returns-then-not-in_range
returns-then-not-in_range g c = matches_unchanged (take_no_screen (laws g) (admitted (laws g) c.requires) c.args.screen c.args.position (said_false c.in_range.ensures c.if-not-in_range.true))

pub returns-then-not-in_range-2 : goal.returns-then-not-in_range-2
returns-then-not-in_range-2 g c =
    let s = at_screen (laws g) (admitted (laws g) c.requires) (said_true c.in_range.ensures c.if-not-in_range.false) refl in
    matches_unchanged (take_no_position (laws g) (admitted (laws g) c.requires) s c.args.position (said_false c.in_range-2.ensures c.if-not-in_range-2.true))

pub screen_at-at-requires : goal.screen_at-at-requires
screen_at-at-requires g c =
    let s = at_screen (laws g) (admitted (laws g) c.requires) (said_true c.in_range.ensures c.if-not-in_range.false) refl in
    (s.desk, s.first, s.bounded)

pub word-requires : goal.word-requires
word-requires g c = omega (arith, (screen g (goal.at.word-requires g c).After-screen_at-at).there, length-words c.args.t.now)

pub returns-then-word-ne0 : goal.returns-then-word-ne0
returns-then-word-ne0 g c = matches_unchanged (take_screen_full (laws g) (admitted (laws g) c.requires) (screen g (goal.at.returns-then-word-ne0 g c).After-screen_at-at) (position g (goal.at.returns-then-word-ne0 g c).Else-not-in_range-2) (λ z. c.if-word-ne0.true (c.word.ensures ∙ z)))

pub overflow_sub-position : goal.overflow_sub-position
overflow_sub-position g c = omega (arith, (position g (goal.at.overflow_sub-position g c).Else-not-in_range-2).first)

pub word-held-requires : goal.word-held-requires
word-held-requires g c = omega (arith, (position g (goal.at.word-held-requires g c).Else-not-in_range-2).there, length-words c.args.t.now)

pub returns-then-held-eq0 : goal.returns-then-held-eq0
returns-then-held-eq0 g c = matches_unchanged (take_position_empty (laws g) (admitted (laws g) c.requires) (screen g (goal.at.returns-then-held-eq0 g c).After-screen_at-at) (position g (goal.at.returns-then-held-eq0 g c).Else-not-in_range-2) (sym c.word.ensures ∙ c.if-word-ne0.false) (sym c.word-held.ensures ∙ c.if-held-eq0.true))

pub put_word-requires : goal.put_word-requires
put_word-requires g c = omega (arith, (screen g (goal.at.put_word-requires g c).After-screen_at-at).there, length-words c.args.t.now)

pub returns : goal.returns
returns g c = matches (ap (λ (x : ℕ). table_result (Ok x) (set (words_of_bytes c.args.t.now) c.screen_at-at.result x)) c.word-held.ensures ∙ take_accepted (laws g) (admitted (laws g) c.requires) (screen g (goal.at.returns g c).After-screen_at-at) (position g (goal.at.returns g c).Else-not-in_range-2) (sym c.word.ensures ∙ c.if-word-ne0.false) (λ z. c.if-held-eq0.false (c.word-held.ensures ∙ z))) c.put_word.ensures
