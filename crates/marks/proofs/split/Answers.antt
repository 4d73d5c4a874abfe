-- `marks::split` meets its contract.
use Rattle.std.proofs.Common.{get_or, sym, ◌∙◌, arith}
use Rattle.std.proofs.lemmas.Bool.{eqb-true}
use Rattle.rules.specs.Bytes.{words_of_bytes}
use Rattle.words.proofs.Laws.{length-words}
use Rattle.marks.specs.Marks.{marks}
use Rattle.marks.proofs.MarkLaws.{is_unmarked, marks_many}
use Rattle.marks.proofs.SplitLaws.{going_end, going_marked, going_unmarked}
use Rattle.marks.proofs.split.Goals as goal
use Rattle.marks.proofs.split.Goals.{then-marked, else-marked}

pub loop-j-preserved : goal.loop-j-preserved
loop-j-preserved c =
    let loop = c.loop-j in
    let l₀ = words_of_bytes c.args.l.now in
    let m = words_of_bytes c.args.m.now in
    let kept₀ = c.args.kept.now in
    let x = c.word-x.ensures in
    let many = length-words c.args.l.now in
    let marks_all = marks_many c.args.m.now (omega arith) in
    elim c.if-marked.branch [
      | then-marked w ↦ rw (w.l-is, w.kept-is, w.u-is, x) (going_marked l₀ (marks m) kept₀ (words_of_bytes loop.l) loop.kept loop.j loop.u loop.invariant (omega arith) (omega arith) (omega arith) (eqb-true (get_or (marks m) loop.j 0) 1 (sym c.marked.ensures ∙ w.if-marked.true)))
      | else-marked w ↦ rw (w.l-is, w.kept-is, w.u-is, w.put_word.ensures.holds, x) (going_unmarked l₀ (marks m) kept₀ (words_of_bytes loop.l) loop.kept loop.j loop.u loop.invariant (omega arith) (omega arith) (omega arith) (is_unmarked m loop.j (sym c.marked.ensures ∙ w.if-marked.false)))
    ]

pub returns : goal.returns
returns c =
    let loop = c.loop-j in
    let many = length-words c.args.l.now in
    going_end (words_of_bytes c.args.l.now) (marks (words_of_bytes c.args.m.now)) c.args.kept.now (words_of_bytes loop.l) loop.kept loop.j loop.u loop.invariant (omega arith)
