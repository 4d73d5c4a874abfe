-- `board::retire_at` meets its contract.
use Rattle.std.proofs.Common.{ℕ, List, subst, arith}
use Rattle.rules.specs.Bytes.{words_of_bytes}
use Rattle.words.proofs.Laws.{length-words}
use Rattle.reply.specs.Answer.{answer_of}
use Rattle.board.proofs.AdmissionLaws.{admitted}
use Rattle.board.proofs.LocationLaws.{lent, lent_back, lent_sound, lent_words}
use Rattle.board.proofs.ResultLaws.{matches}
use Rattle.board.proofs.StepLaws.{retire_result}
use Rattle.board.proofs.retire_at.Goals as goal
use Rattle.board.proofs.retire_at.Given.{Over}
use Rattle.board.specs.Kind.{Laws, RetiredAs}

laws : (g : Over) → Laws g.K.Records.kind
laws g = g.met.K.Records.laws

pub overflow_mul-a : goal.overflow_mul-a
overflow_mul-a g c = let e = admitted (laws g) c.requires in omega (arith, e.room, e.end_is, length-words c.args.t.now)

pub overflow_mul-e : goal.overflow_mul-e
overflow_mul-e g c = let e = admitted (laws g) c.requires in omega (arith, e.room, e.end_is, length-words c.args.t.now)

pub slice_bounds-retire-count : goal.slice_bounds-retire-count
slice_bounds-retire-count g c = let e = admitted (laws g) c.requires in omega (arith, e.room, e.end_is, length-words c.args.t.now)

pub slice_bounds-retire-start : goal.slice_bounds-retire-start
slice_bounds-retire-start g c = let e = admitted (laws g) c.requires in omega (arith, e.room, e.end_is, length-words c.args.t.now)

pub slice_bounds-retire-end : goal.slice_bounds-retire-end
slice_bounds-retire-end g c = let e = admitted (laws g) c.requires in omega (arith, e.room, e.end_is, length-words c.args.t.now)

pub retire-requires : goal.retire-requires
retire-requires g c = lent_sound (laws g) c.args.t.now (admitted (laws g) c.requires)

pub returns : goal.returns
returns g c =
    let e = admitted (laws g) c.requires in
    let r = c.retire in
    let retired = subst (λ (words : List ℕ). RetiredAs g.K.Records.kind c.args.location.all words (answer_of r.result) (words_of_bytes r.new.r)) (lent_words (laws g) c.args.t.now e) r.ensures in
    matches (retire_result (laws g) e (lent (laws g) e) r.result (words_of_bytes r.new.r) retired) (lent_back (laws g) c.args.t.now e r.new.r r.auto.r)
