-- `ring_desk::partition_in` meets its contract.
use native.Mathlib.Omega.{arith}
use mathlib.Core.Path.{◌≡◌}
use lib.ListN.{length}
use Rattle.rules.specs.Bytes.{words_of_bytes}
use Rattle.words.proofs.Laws.{length-words}
use Rattle.marks.specs.Marks.{marks}
use Rattle.ring_desk.proofs.AroundLaws.{parted_copy}
use Rattle.ring_desk.proofs.partition_in.Goals as goal

pub returns : goal.returns
returns c =
    let before = words_of_bytes c.args.part.now in
    let read = words_of_bytes c.read_around.new.part in
    let parted = words_of_bytes c.partition.new.l in
    let wide : length parted ≡ length before =
    omega (arith, length-words c.args.part.now, length-words c.partition.new.l, c.partition.auto.l, c.read_around.auto.part) in
    parted_copy (words_of_bytes c.args.l.now) (words_of_bytes c.write_around.new.l) (marks (words_of_bytes c.args.m.now)) c.args.a (length before) read parted
    c.read_around.ensures c.partition.ensures wide c.write_around.ensures
