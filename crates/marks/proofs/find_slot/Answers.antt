-- `marks::find_slot` meets its contract.
use Rattle.std.proofs.Common.{get_or, sym, ◌∙◌, arith}
use Rattle.std.proofs.lemmas.Bool.{eqb-true}
use Rattle.rules.specs.Bytes.{words_of_bytes}
use Rattle.words.proofs.Laws.{length-words}
use Rattle.marks.specs.Marks.{marks}
use Rattle.marks.proofs.MarkLaws.{is_unmarked, marks_many}
use Rattle.marks.proofs.SlotLaws.{find_end, find_found, find_lacking, find_marked, find_other}
use Rattle.marks.proofs.find_slot.Goals as goal
use Rattle.marks.proofs.find_slot.Goals.{else-word-x-via-then-word-x+else-not-marked, else-word-x-via-else-word-x}

pub returns-then-lacks : goal.returns-then-lacks
returns-then-lacks c =
    let m = words_of_bytes c.args.m.now in
    let many = length-words c.args.l.now in
    let marks_all = marks_many c.args.m.now (omega arith) in
    omega (arith, find_lacking c.args.x (words_of_bytes c.args.l.now) (marks m) (omega arith) (sym c.lacks.ensures ∙ c.if-lacks.true))

pub returns-then-not-marked : goal.returns-then-not-marked
returns-then-not-marked c =
    let l = words_of_bytes c.args.l.now in
    let m = words_of_bytes c.args.m.now in
    let j = c.loop-j.j in
    let many = length-words c.args.l.now in
    let marks_all = marks_many c.args.m.now (omega arith) in
    find_found c.args.x _ l (marks m) j (omega arith) (omega arith) c.loop-j.invariant (sym c.word.ensures ∙ c.if-word-x.true)
    (is_unmarked m j (sym c.marked.ensures ∙ c.if-not-marked.true))

pub loop-j-preserved : goal.loop-j-preserved
loop-j-preserved c =
    let l = words_of_bytes c.args.l.now in
    let m = words_of_bytes c.args.m.now in
    let x = c.args.x in
    let j = c.loop-j.j in
    let many = length-words c.args.l.now in
    let marks_all = marks_many c.args.m.now (omega arith) in
    elim c.else-word-x.branch [
      | else-word-x-via-then-word-x+else-not-marked w ↦ let e = eqb-true (get_or (marks m) j 0) 1 (sym w.marked.ensures ∙ w.if-not-marked.false) in
          find_marked x _ l (marks m) j (omega arith) (omega arith) c.loop-j.invariant (λ z. omega arith)
      | else-word-x-via-else-word-x w ↦ find_other x _ l (marks m) j (omega arith) (omega arith) c.loop-j.invariant (λ z. w.if-word-x.false (c.word.ensures ∙ z))
    ]

pub returns : goal.returns
returns c =
    let l = words_of_bytes c.args.l.now in
    let m = words_of_bytes c.args.m.now in
    let many = length-words c.args.l.now in
    let end = find_end c.args.x _ l (marks m) c.loop-j.j (omega arith) c.loop-j.invariant in
    omega arith
