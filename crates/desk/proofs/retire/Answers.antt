-- `desk::retire` meets its contract.
use Prim.Native.Nat.{◌+◌, ◌*◌}
use native.Mathlib.Omega.{arith}
use mathlib.Core.Bool.{false}
use mathlib.Core.List.{List}
use mathlib.Core.Path.{◌≡◌, refl, sym, ap, ◌∙◌}
use lib.Dec.{eqb}
use lib.ListN.{set}
use borrow.Author.Tests.{eq-eqb, le-ltb, lt-ltb, ne_eqb}
use Rattle.rules.specs.Bytes.{words_of_bytes}
use Rattle.rules.specs.Hall.{used_slots}
use Rattle.rules.specs.Table.{list_offset}
use Rattle.desk.specs.Layout.{decode}
use Rattle.desk.proofs.LayoutLaws.{owed_word, retire_stores, used_count}
use Rattle.desk.proofs.retire.Goals as goal

pub returns-then-owed-eq0 : goal.returns-then-owed-eq0
returns-then-owed-eq0 g c =
    let layout = g.L.Slots.layout in
    let s = c.args.s in
    let words = words_of_bytes c.args.r.now in
    let D = decode layout s words in
    let none : eqb D.owed 0 ≡ _ = eq-eqb D.owed 0 (sym (owed_word layout g.L.Slots.laws s words c.requires.laid) ∙ sym c.word-owed.ensures ∙ c.if-owed-eq0.true) in
    record { number = simp none; session = refl; after = refl }

pub returns-then-s-n : goal.returns-then-s-n
returns-then-s-n g c =
    let layout = g.L.Slots.layout in
    let laws = g.L.Slots.laws in
    let s = c.args.s in
    let words = words_of_bytes c.args.r.now in
    let D = decode layout s words in
    let owes : eqb D.owed 0 ≡ false = ne_eqb D.owed 0 (λ z. c.if-owed-eq0.false (c.word-owed.ensures ∙ owed_word layout laws s words c.requires.laid ∙ z)) in
    let used = c.used_slots-n.ensures.0 ∙ used_count layout laws s words c.requires.laid in
    record { number = simp (owes, le-ltb (used_slots D) (2 * s) (omega (arith, used, c.if-s-n.true))); session = refl; after = refl }

pub returns : goal.returns
returns g c =
    let layout = g.L.Slots.layout in
    let laws = g.L.Slots.laws in
    let s = c.args.s in
    let words = words_of_bytes c.args.r.now in
    let D = decode layout s words in
    let owed = owed_word layout laws s words c.requires.laid in
    let owes : eqb D.owed 0 ≡ false = ne_eqb D.owed 0 (λ z. c.if-owed-eq0.false (c.word-owed.ensures ∙ owed ∙ z)) in
    let used = c.used_slots-n.ensures.0 ∙ used_count layout laws s words c.requires.laid in
    let n = c.used_slots-n.result in
    let p = c.slot-p.result in
    let waiting = c.word-waiting.result in
    let stored = c.put_word-3.ensures.holds ∙ ap (λ (x : List _). set x 0 0) (c.put_word-2.ensures.holds ∙ ap (λ (x : List _). set x 4 (waiting + 1)) c.put_word.ensures.holds) in
    record {
      number = simp (owes, lt-ltb (used_slots D) (2 * s) (omega (arith, used, c.if-s-n.false)));
      session = c.word-owed.ensures ∙ owed;
      after = stored ∙ (λ i. set (set (set words (list_offset + p) (c.word-owed.ensures i)) 4 (c.word-waiting.ensures i + 1)) 0 0)
          ∙ retire_stores layout laws s words c.requires.laid n p used (omega (arith, c.if-s-n.false)) c.slot-p.ensures;
    }
