-- `board::drop_at` meets its contract.
use Rattle.std.proofs.Common.{set, sym, refl, ap, ◌∙◌, arith}
use Rattle.rules.specs.Bytes.{words_of_bytes}
use Rattle.words.proofs.Laws.{length-words}
use Rattle.reply.specs.Answer.{table_result}
use Rattle.std.specs.Prelude.{Ok}
use Rattle.board.proofs.AdmissionLaws.{admitted}
use Rattle.board.proofs.LocationLaws.{AtScreen, at_screen}
use Rattle.board.proofs.ResultLaws.{matches, matches_unchanged}
use Rattle.board.proofs.SoundLaws.{said_false, said_true}
use Rattle.board.proofs.StepLaws.{drop_accepted, drop_no_screen, drop_screen_empty}
use Rattle.board.proofs.drop_at.Goals as goal
use Rattle.board.proofs.drop_at.Given.{Over}
use Rattle.board.proofs.drop_at.Goals.{After-screen_at-at}
use Rattle.board.specs.Kind.{Laws}

laws : (g : Over) → Laws g.K.Records.kind
laws g = g.met.K.Records.laws

-- the word of its screen
screen : (g : Over) (c : After-screen_at-at g) →
    AtScreen g.K.Records.kind (words_of_bytes c.args.t.now) c.args.desk c.args.screen c.screen_at-at.result
screen g c =
    at_screen (laws g) (admitted (laws g) c.requires) (said_true c.in_range.ensures c.if-not-in_range.false) c.screen_at-at.ensures

pub returns-then-not-in_range : goal.returns-then-not-in_range
returns-then-not-in_range g c = matches_unchanged (drop_no_screen (laws g) (admitted (laws g) c.requires) c.args.screen (said_false c.in_range.ensures c.if-not-in_range.true))

pub screen_at-at-requires : goal.screen_at-at-requires
screen_at-at-requires g c =
    let s = at_screen (laws g) (admitted (laws g) c.requires) (said_true c.in_range.ensures c.if-not-in_range.false) refl in
    (s.desk, s.first, s.bounded)

pub word-shown-requires : goal.word-shown-requires
word-shown-requires g c = omega (arith, (screen g (goal.at.word-shown-requires g c).After-screen_at-at).there, length-words c.args.t.now)

pub returns-then-shown-eq0 : goal.returns-then-shown-eq0
returns-then-shown-eq0 g c = matches_unchanged (drop_screen_empty (laws g) (admitted (laws g) c.requires) (screen g (goal.at.returns-then-shown-eq0 g c).After-screen_at-at) (sym c.word-shown.ensures ∙ c.if-shown-eq0.true))

pub put_word-requires : goal.put_word-requires
put_word-requires g c = omega (arith, (screen g (goal.at.put_word-requires g c).After-screen_at-at).there, length-words c.args.t.now)

pub returns : goal.returns
returns g c = matches (ap (λ x. table_result (Ok x) (set (words_of_bytes c.args.t.now) c.screen_at-at.result 0)) c.word-shown.ensures ∙ drop_accepted (laws g) (admitted (laws g) c.requires) (screen g (goal.at.returns g c).After-screen_at-at) (λ z. c.if-shown-eq0.false (c.word-shown.ensures ∙ z))) c.put_word.ensures
