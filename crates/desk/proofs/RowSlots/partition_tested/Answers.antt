-- `desk::Row::partition_tested` meets its contract.
use Prim.Native.Nat.{ℕ, ◌+◌, ◌-◌, ◌*◌, ◌≤◌}
use native.Mathlib.Omega.{arith}
use mathlib.Core.List.{List, ◌++◌}
use mathlib.Core.Path.{refl, ap, ◌∙◌}
use lib.ListN.{length}
use borrow.Author.Rules.{rules}
use borrow.Rule.Slice.PartMut.{mid_len, put_mid, same_len_mid}
use Rattle.rules.specs.Bytes.{words_of_bytes}
use Rattle.rules.specs.Table.{list_offset}
use Rattle.marks.specs.Marks.{marks, pick}
use Rattle.words.proofs.Laws.{length-words, words-part, words_put}
use Rattle.desk.proofs.DeskLaws.{partitioned_at}
use Rattle.desk.proofs.DeskTie.{desk_counts}
use Rattle.desk.proofs.RowSlots.partition_tested.Goals as goal

pub slice_bounds-partition-end : goal.slice_bounds-partition-end
slice_bounds-partition-end c =
    let lent = c.requires in
    let counts = desk_counts c.args._s (words_of_bytes c.args.r.now) lent.laid.reads in
    omega (arith, lent.whole, lent.laid.reads.room, c.count-a.ensures, c.count.ensures, counts.ready, counts.tested)

pub partition-requires : goal.partition-requires
partition-requires c =
    let lent = c.requires in
    let a = list_offset + c.count-a.result in
    let counts = desk_counts c.args._s (words_of_bytes c.args.r.now) lent.laid.reads in
    let wide = mid_len (2 * a) (2 * (a + c.count.result)) c.args.r.now (omega (arith, lent.whole, lent.laid.reads.room, c.count-a.ensures, c.count.ensures, counts.ready, counts.tested)) in
    (omega (arith, wide, lent.laid.reads.bounded, lent.laid.reads.room, c.count.ensures, counts.tested), omega (arith, wide), search rules)

pub returns : goal.returns
returns c =
    let lent = c.requires in
    let bytes = c.args.r.now in
    let words = words_of_bytes bytes in
    let a = list_offset + c.count-a.result in
    let b = a + c.count.result in
    let counts = desk_counts c.args._s words lent.laid.reads in
    let room : 2 * b ≤ length bytes = omega (arith, lent.whole, lent.laid.reads.room, c.count-a.ensures, c.count.ensures, counts.ready, counts.tested) in
    let part = c.partition.new.l in
    let wide = c.partition.auto.l ∙ mid_len (2 * a) (2 * b) bytes room in
    let m = marks (words_of_bytes c.args.m.now) in
    let picked = c.partition.ensures ∙ ap (λ (l : List ℕ). pick 0 m l ++ pick 1 m l) (words-part a b bytes) in
    record {
      long = omega (arith, length-words (put_mid (2 * a) (2 * b - 2 * a) bytes part), same_len_mid {X = ℕ} (2 * a) (2 * b - 2 * a) bytes part c.partition.auto.l, lent.whole);
      begins = refl;
      is = words_put a b bytes part (omega arith) room wide ∙ partitioned_at words c.count-a.result c.count.result c.count-a.ensures.0 c.count.ensures.0 m (words_of_bytes part) picked;
    }
