-- `desk::Row::hand_back` meets its contract.
use Prim.Native.Nat.{ℕ, ◌+◌, ◌-◌, ◌*◌, ◌≤◌, ◌<◌}
use native.Mathlib.Omega.{arith}
use mathlib.Core.List.{List, [], ◌∷◌, ◌++◌}
use mathlib.Core.Path.{sym, ap, ap₂, ◌∙◌}
use lib.ListN.{drop, get_or, length, set}
use borrow.Rule.Slice.PartMut.{mid_len, mid_of, put_mid}
use Rattle.rules.specs.Bytes.{words_of_bytes}
use Rattle.rules.specs.Table.{list_offset, used_in}
use Rattle.words.proofs.Copies.{shift_some}
use Rattle.words.proofs.Laws.{length-words, words-part, words_put}
use Rattle.desk.specs.Record.{Encoded}
use Rattle.desk.proofs.DeskLaws.{facts, first_ready, hand_none, hand_stores, none_ready}
use Rattle.desk.proofs.DeskTie.{first-handed, formed_of, handed_encoded}
use Rattle.desk.proofs.RowSlots.hand_back.Goals as goal

-- the used slots are of the list
used_most : (s : ℕ) (r : List ℕ) → Encoded s r → used_in r ≤ 2 * s
used_most s r e = let f = facts s r (formed_of s r e) in omega (arith, f.ready, f.tested, f.waiting, f.sum)

pub returns-then-n-eq0 : goal.returns-then-n-eq0
returns-then-n-eq0 c =
    let s = c.args._s in
    let words = words_of_bytes c.args.r.now in
    let none = sym c.word-n.ensures ∙ c.if-n-eq0.true in
    (none_ready s words none ∙ first-handed s words c.requires.laid.reads, hand_none s words (formed_of s words c.requires.laid.reads) none ∙ handed_encoded s words c.requires.laid.reads)

pub slice_bounds-shift_left-end : goal.slice_bounds-shift_left-end
slice_bounds-shift_left-end c = omega (arith, c.requires, c.used_slots-u.ensures, used_most c.args._s (words_of_bytes c.args.r.now) c.requires.laid.reads)

pub returns : goal.returns
returns c =
    let s = c.args._s in
    let bytes = c.args.r.now in
    let words = words_of_bytes bytes in
    let u = c.used_slots-u.result in
    let most = used_most s words c.requires.laid.reads in
    let some : 0 < get_or words 2 0 = omega (arith, c.word-n.ensures, c.if-n-eq0.false) in
    let room : 2 * (list_offset + u) ≤ length bytes = omega (arith, c.requires, c.used_slots-u.ensures, most) in
    let wide = c.shift_left.auto.l ∙ mid_len (2 * list_offset) (2 * (list_offset + u)) bytes room in
    let part = words_of_bytes (mid_of (2 * list_offset) (2 * (list_offset + u) - 2 * list_offset) bytes) in
    let shifted = words_put list_offset (list_offset + u) bytes c.shift_left.new.l (omega arith) room wide
    ∙ ap (put_mid list_offset (list_offset + u - list_offset) words) (c.shift_left.ensures.holds ∙ shift_some part (omega (arith, length-words (mid_of (2 * list_offset) (2 * (list_offset + u) - 2 * list_offset) bytes), mid_len (2 * list_offset) (2 * (list_offset + u)) bytes room, c.word-n.ensures, c.if-n-eq0.false, c.used_slots-u.ensures)) ∙ ap (λ (l : List ℕ). drop 1 l ++ (0 ∷ [])) (words-part list_offset (list_offset + u) bytes)) in (
      c.word-x.ensures ∙ first_ready s words some ∙ first-handed s words c.requires.laid.reads,
      c.put_word.ensures.holds ∙ ap₂ (λ (y : List ℕ) (k : ℕ). set y 2 (k - 1)) shifted c.word-n.ensures ∙ hand_stores s words u (formed_of s words c.requires.laid.reads) c.used_slots-u.ensures.0 some ∙ handed_encoded s words c.requires.laid.reads,
    )
