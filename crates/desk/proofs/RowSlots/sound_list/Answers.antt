-- `desk::Row::sound_list` meets its contract: each test answers a part of the rules' test.
use Prim.Native.Nat.{◌*◌}
use native.Mathlib.Omega.{arith}
use mathlib.Core.Path.{sym, ◌∙◌}
use borrow.Author.Tests.{le-leb}
use Rattle.rules.specs.Bytes.{words_of_bytes}
use Rattle.rules.specs.Table.{used_in}
use Rattle.desk.proofs.SoundLaws.{free_part, used-part}
use Rattle.desk.proofs.RowSlots.sound_list.Goals as goal

pub returns-then-not-lacks : goal.returns-then-not-lacks
returns-then-not-lacks c =
    let counted = c.used_slots-n.ensures.0 in
    let used = sym (used-part c.args.s c.args.r.now c.used_slots-n.result counted c.if-s-n.false) ∙ sym c.lacks.ensures ∙ c.if-not-lacks.true in
    sym (rw (le-leb (used_in (words_of_bytes c.args.r.now)) (2 * c.args.s) (omega (arith, counted, c.if-s-n.false)), used))

pub returns : goal.returns
returns c =
    let counted = c.used_slots-n.ensures.0 in
    let used = sym (used-part c.args.s c.args.r.now c.used_slots-n.result counted c.if-s-n.false) ∙ sym c.lacks.ensures ∙ c.if-not-lacks.false in
    c.all_zero.ensures ∙ free_part c.args.s c.args.r.now c.used_slots-n.result counted c.if-s-n.false c.requires.whole
    ∙ sym (rw (le-leb (used_in (words_of_bytes c.args.r.now)) (2 * c.args.s) (omega (arith, counted, c.if-s-n.false)), used))
