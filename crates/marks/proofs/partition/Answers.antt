-- `marks::partition` meets its contract.
use Rattle.std.proofs.Common.{arith}
use Rattle.rules.specs.Bytes.{words_of_bytes}
use Rattle.words.proofs.Laws.{length-words}
use Rattle.marks.specs.Marks.{marks}
use Rattle.marks.proofs.SplitLaws.{split_bytes}
use Rattle.marks.proofs.partition.Goals as goal

pub overflow_mul-u : goal.overflow_mul-u
overflow_mul-u c = omega (arith, c.split-u.ensures.most, length-words c.args.l.now, c.requires)

pub slice_bounds-copy_in-count : goal.slice_bounds-copy_in-count
slice_bounds-copy_in-count c = omega (arith, c.split-u.ensures.most, length-words c.args.l.now, c.split-u.auto.l)

pub slice_bounds-copy_in-start : goal.slice_bounds-copy_in-start
slice_bounds-copy_in-start c = omega (arith, c.split-u.ensures.most, length-words c.args.l.now, c.split-u.auto.l)

pub returns : goal.returns
returns c =
    let split = c.split-u in
    let copied = c.copy_in in
    split_bytes c.args.l.now (marks (words_of_bytes c.args.m.now)) split.result split.new.l split.new.kept copied.new.dst split.ensures split.auto.l c.requires.1 copied.auto.dst copied.ensures.holds
