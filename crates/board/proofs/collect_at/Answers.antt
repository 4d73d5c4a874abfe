-- `board::collect_at` meets its contract.
use Rattle.std.proofs.Common.{◌≡◌, ℕ, ◌-◌, ◌*◌, List, [], ◌∷◌, ap, ◌∙◌, arith}
use borrow.Rule.Slice.PartMut.{mid_of}
use Rattle.rules.specs.Bytes.{words_of_bytes}
use Rattle.rules.specs.Steps.{Collect, collect_seeing, next_screens}
use Rattle.limits.specs.Room.{limits_of}
use Rattle.words.proofs.Laws.{length-words}
use Rattle.reply.specs.Answer.{table_result}
use Rattle.std.specs.Prelude.{Ok}
use Rattle.board.specs.Results.{admitted_step}
use Rattle.board.proofs.AdmissionLaws.{Admitted, admitted}
use Rattle.board.proofs.LocationLaws.{lent, lent_back, lent_sound, lent_words, lent_record, with_record}
use Rattle.board.proofs.ResultLaws.{matches}
use Rattle.board.proofs.StepLaws.{Scans, collect_result, scans}
use Rattle.board.proofs.collect_at.Goals as goal
use Rattle.board.proofs.collect_at.Given.{Over}
use Rattle.board.proofs.collect_at.Goals.{After-count-k, Start}
use Rattle.board.specs.Kind.{Laws, SoundRecord}

laws : (g : Over) → Laws g.K.Records.kind
laws g = g.met.K.Records.laws

here : (g : Over) (c : After-count-k g) → let o = c.args in Admitted g.K.Records.kind (limits_of o.limits) (words_of_bytes o.t.now) o.desk o.location
here g c = admitted (laws g) c.requires

reading : (g : Over) (c : After-count-k g) → let o = c.args in Scans g.K.Records.kind (words_of_bytes o.t.now) o.location c.count-k.result
reading g c = scans (laws g) (here g c) c.count-k.ensures.0

-- the record as the code lends it is sound
lent_one : (g : Over) (c : After-count-k g) → let o = c.args in SoundRecord g.K.Records.kind o.location.all (mid_of (2 * o.location.start) (2 * o.location.end - 2 * o.location.start) o.t.now)
lent_one g c = lent_sound (laws g) c.args.t.now (here g c)

-- what is left in the record is what the rules leave in the table
collected : (g : Over) (c : After-count-k g) (shown : List ℕ) → let o = c.args in let s = o.location.all in let kind = g.K.Records.kind in
    let words = words_of_bytes (mid_of (2 * o.location.start) (2 * o.location.end - 2 * o.location.start) o.t.now) in
    shown ≡ next_screens (kind.state (words_of_bytes o.t.now)).shown (kind.desk s (lent_record (words_of_bytes o.t.now) o.location))
    → (x : ℕ) (part : List ℕ) → x ≡ (collect_seeing s shown (kind.desk s words)).session → words_of_bytes part ≡ kind.collected s shown words
    → table_result (Ok x) (with_record (words_of_bytes o.t.now) o.location (words_of_bytes part)) ≡ admitted_step kind (limits_of o.limits) (words_of_bytes o.t.now) o.desk Collect
collected g c shown seen x part session after =
    let s = c.args.location.all in
    let kind = g.K.Records.kind in
    let words = lent_words (laws g) c.args.t.now (here g c) in
    collect_result (laws g) (here g c) (lent (laws g) (here g c)) shown seen x (words_of_bytes part) (session ∙ ap (λ (w : List ℕ). (collect_seeing s shown (kind.desk s w)).session) words)
    (after ∙ ap (λ (w : List ℕ). kind.collected s shown w) words)

pub overflow_add-a : goal.overflow_add-a
overflow_add-a g c = let e = admitted (laws g) c.requires in omega (arith, e.room, e.end_is, length-words c.args.t.now)

pub count-k-requires : goal.count-k-requires
count-k-requires g c = let e = admitted (laws g) c.requires in omega (arith, e.room, e.end_is, length-words c.args.t.now)

pub overflow_add-at : goal.overflow_add-at
overflow_add-at g c = let e = here g (goal.at.overflow_add-at g c).After-count-k in let g = reading g (goal.at.overflow_add-at g c).After-count-k in omega (arith, e.room, e.end_is, g.there, g.below, length-words c.args.t.now)

pub overflow_add-at-2 : goal.overflow_add-at-2
overflow_add-at-2 g c = let e = here g (goal.at.overflow_add-at-2 g c).After-count-k in let g = reading g (goal.at.overflow_add-at-2 g c).After-count-k in omega (arith, e.room, e.end_is, g.there, g.below, length-words c.args.t.now)

pub word-x-requires : goal.word-x-requires
word-x-requires g c = let e = here g (goal.at.word-x-requires g c).After-count-k in let g = reading g (goal.at.word-x-requires g c).After-count-k in omega (arith, e.room, e.end_is, g.there, g.below, length-words c.args.t.now)

pub overflow_add-k : goal.overflow_add-k
overflow_add-k g c = let e = here g (goal.at.overflow_add-k g c).After-count-k in let g = reading g (goal.at.overflow_add-k g c).After-count-k in omega (arith, e.room, e.end_is, g.there, g.below, length-words c.args.t.now)

pub overflow_add-at-then-k-s : goal.overflow_add-at-then-k-s
overflow_add-at-then-k-s g c = let e = here g (goal.at.overflow_add-at-then-k-s g c).After-count-k in let g = reading g (goal.at.overflow_add-at-then-k-s g c).After-count-k in omega (arith, e.room, g.there, length-words c.args.t.now, c.if-k-s.true)

pub word-y-requires : goal.word-y-requires
word-y-requires g c = let e = here g (goal.at.word-y-requires g c).After-count-k in let g = reading g (goal.at.word-y-requires g c).After-count-k in omega (arith, e.room, g.there, length-words c.args.t.now, c.if-k-s.true)

pub overflow_mul-a : goal.overflow_mul-a
overflow_mul-a g c = let e = here g (goal.at.overflow_mul-a g c).After-count-k in let g = reading g (goal.at.overflow_mul-a g c).After-count-k in omega (arith, e.room, e.end_is, g.there, g.below, length-words c.args.t.now)

pub overflow_mul-e : goal.overflow_mul-e
overflow_mul-e g c = let e = here g (goal.at.overflow_mul-e g c).After-count-k in let g = reading g (goal.at.overflow_mul-e g c).After-count-k in omega (arith, e.room, e.end_is, g.there, g.below, length-words c.args.t.now)

pub slice_bounds-collect-count : goal.slice_bounds-collect-count
slice_bounds-collect-count g c = let e = here g (goal.at.slice_bounds-collect-count g c).After-count-k in let g = reading g (goal.at.slice_bounds-collect-count g c).After-count-k in omega (arith, e.room, e.end_is, g.there, g.below, length-words c.args.t.now)

pub slice_bounds-collect-start : goal.slice_bounds-collect-start
slice_bounds-collect-start g c = let e = here g (goal.at.slice_bounds-collect-start g c).After-count-k in let g = reading g (goal.at.slice_bounds-collect-start g c).After-count-k in omega (arith, e.room, e.end_is, g.there, g.below, length-words c.args.t.now)

pub slice_bounds-collect-end : goal.slice_bounds-collect-end
slice_bounds-collect-end g c = let e = here g (goal.at.slice_bounds-collect-end g c).After-count-k in let g = reading g (goal.at.slice_bounds-collect-end g c).After-count-k in omega (arith, e.room, e.end_is, g.there, g.below, length-words c.args.t.now)

pub collect-requires : goal.collect-requires
collect-requires g c = (lent_one g (goal.at.collect-requires g c).After-count-k, omega arith, omega arith)

pub overflow_mul-a-else-k-s : goal.overflow_mul-a-else-k-s
overflow_mul-a-else-k-s g c = let e = here g (goal.at.overflow_mul-a-else-k-s g c).After-count-k in let g = reading g (goal.at.overflow_mul-a-else-k-s g c).After-count-k in omega (arith, e.room, e.end_is, g.there, g.below, length-words c.args.t.now)

pub overflow_mul-e-else-k-s : goal.overflow_mul-e-else-k-s
overflow_mul-e-else-k-s g c = let e = here g (goal.at.overflow_mul-e-else-k-s g c).After-count-k in let g = reading g (goal.at.overflow_mul-e-else-k-s g c).After-count-k in omega (arith, e.room, e.end_is, g.there, g.below, length-words c.args.t.now)

pub slice_bounds-collect-count-else-k-s : goal.slice_bounds-collect-count-else-k-s
slice_bounds-collect-count-else-k-s g c = let e = here g (goal.at.slice_bounds-collect-count-else-k-s g c).After-count-k in let g = reading g (goal.at.slice_bounds-collect-count-else-k-s g c).After-count-k in omega (arith, e.room, e.end_is, g.there, g.below, length-words c.args.t.now)

pub slice_bounds-collect-start-else-k-s : goal.slice_bounds-collect-start-else-k-s
slice_bounds-collect-start-else-k-s g c = let e = here g (goal.at.slice_bounds-collect-start-else-k-s g c).After-count-k in let g = reading g (goal.at.slice_bounds-collect-start-else-k-s g c).After-count-k in omega (arith, e.room, e.end_is, g.there, g.below, length-words c.args.t.now)

pub slice_bounds-collect-end-else-k-s : goal.slice_bounds-collect-end-else-k-s
slice_bounds-collect-end-else-k-s g c = let e = here g (goal.at.slice_bounds-collect-end-else-k-s g c).After-count-k in let g = reading g (goal.at.slice_bounds-collect-end-else-k-s g c).After-count-k in omega (arith, e.room, e.end_is, g.there, g.below, length-words c.args.t.now)

pub collect-requires-else-k-s : goal.collect-requires-else-k-s
collect-requires-else-k-s g c = (lent_one g (goal.at.collect-requires-else-k-s g c).After-count-k, omega arith, omega arith)

pub returns-then-k-s : goal.returns-then-k-s
returns-then-k-s g c =
    let words = words_of_bytes c.args.t.now in
    let r = c.collect in
    let seen = (λ i. c.word-x.ensures i ∷ c.word-y.ensures i ∷ []) ∙ (reading g (goal.at.returns-then-k-s g c).After-count-k).see_two c.if-k-s.true in
    matches (collected g (goal.at.returns-then-k-s g c).After-count-k (c.word-x.result ∷ c.word-y.result ∷ []) seen r.result r.new.r r.ensures.session r.ensures.record) (lent_back (laws g) c.args.t.now (here g (goal.at.returns-then-k-s g c).After-count-k) r.new.r r.auto.r)

pub returns-else-k-s : goal.returns-else-k-s
returns-else-k-s g c =
    let words = words_of_bytes c.args.t.now in
    let r = c.collect-else-k-s in
    let seen = (λ i. c.word-x.ensures i ∷ []) ∙ (reading g (goal.at.returns-else-k-s g c).After-count-k).see_one c.if-k-s.false in
    matches (collected g (goal.at.returns-else-k-s g c).After-count-k (c.word-x.result ∷ []) seen r.result r.new.r r.ensures.session r.ensures.record) (lent_back (laws g) c.args.t.now (here g (goal.at.returns-else-k-s g c).After-count-k) r.new.r r.auto.r)
