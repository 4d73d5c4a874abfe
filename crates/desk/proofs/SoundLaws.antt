-- What the code of the soundness test finds, as the parts of the rules' test of a record and of its k.
use Prim.Native.Nat.{ℕ, ◌+◌, ◌-◌, ◌*◌, ◌^◌, ◌≤◌, ◌<◌}
use native.Mathlib.Omega.{arith}
use mathlib.Core.Bool.{Bool, true, false, ◌&&◌, and_assoc, and_comm}
use mathlib.Core.List.{List}
use mathlib.Core.Path.{◌≡◌, refl, sym, ap, ap₂, subst, ◌∙◌}
use lib.Dec.{leb, ltb}
use lib.ListN.{length, get_or, take, drop, length-drop}
use lib.Seq.{drop_at, drop-drop, length-take-le, take-add, take-take}
use borrow.Rule.Slice.PartMut.{mid_of}
use Rattle.rules.specs.Bytes.{words_of_bytes}
use Rattle.rules.specs.Lists.{every}
use Rattle.rules.specs.Steps.{is_none, is_session}
use Rattle.rules.specs.Table.{list_offset, mark_words, marks_offset, record_sound, scan_sound, slots_in, used_in, width_for}
use Rattle.rules.proofs.Laws.Desk.Decoding.{small-drop, small-take}
use Rattle.marks.specs.Marks.{marks, ones_in}
use Rattle.words.specs.Words.{all_zero, lacks}
use Rattle.words.proofs.Laws.{length-words, words-part}
use Rattle.desk.specs.Layout.{Layout, LayoutLaws, Reads, list_sound_as, marks_of_record, sound_as}
use Rattle.desk.proofs.LayoutLaws.{head_word, marks_same}
use Rattle.desk.proofs.MarkTie.{clear_is, count_is}
use Rattle.desk.proofs.WordDesk.{list_in}

-- the parts of a list in a row that the code tests, where it counts n used slots
module _ (s : ℕ) (bytes : List ℕ) (n : ℕ) (en : n ≡ used_in (words_of_bytes bytes)) (h : n ≤ 2 * s) where
  abbrev r : List ℕ
  r = words_of_bytes bytes

  pub used-part : lacks 0 (words_of_bytes (mid_of (2 * list_offset) (2 * (list_offset + n) - 2 * list_offset) bytes)) ≡ every is_session (take (used_in r) (slots_in s r))
  used-part =
      let e : list_offset + n - list_offset ≡ used_in r = omega arith in
      ap (lacks 0) (words-part list_offset (list_offset + n) bytes ∙ ap (λ (k : ℕ). take k (list_in r)) e ∙ sym (take-take (used_in r) (2 * s) (list_in r) (omega arith)))

  pub free_part : length bytes ≡ 2 * width_for s
      → all_zero (words_of_bytes (mid_of (2 * (list_offset + n)) (2 * (list_offset + 2 * s) - 2 * (list_offset + n)) bytes)) ≡ every is_none (drop (used_in r) (slots_in s r))
  free_part l =
      let m = list_offset + 2 * s - (list_offset + n) in
      let e : n + m ≡ 2 * s = omega arith in
      ap all_zero (words-part (list_offset + n) (list_offset + 2 * s) bytes)
      ∙ ap (λ (x : List ℕ). all_zero (take m x)) (sym (drop-drop n list_offset r))
      ∙ ap all_zero (sym (drop_at (take n (list_in r)) (take m (drop n (list_in r))) n (length-take-le n (list_in r) (omega (arith, length-drop list_offset r, length-words bytes)))))
      ∙ ap (λ (x : List ℕ). all_zero (drop n x)) (sym (take-add n m (list_in r)))
      ∙ ap₂ (λ (k j : ℕ). all_zero (drop k (take j (list_in r)))) en e

-- ---- the definition's order, and that of the code
and_middle : (x y z : Bool) → x && (y && z) ≡ y && (x && z)
and_middle true y z = refl
and_middle false true z = refl
and_middle false false z = refl

gathered : (begins room used free rest : Bool) → begins && (room && (used && (free && rest))) ≡ (begins && (room && (used && free))) && rest
gathered true true true free rest = refl
gathered true true false free rest = refl
gathered true false used free rest = refl
gathered false room used free rest = refl

reordered : (begins room used free clear scan few : Bool)
    → begins && (room && (used && (free && (clear && (scan && few))))) ≡ scan && ((clear && few) && (begins && (room && (used && free))))
reordered begins room used free clear scan few =
    let list = begins && (room && (used && free)) in
    gathered begins room used free (clear && (scan && few))
    ∙ and_comm list (clear && (scan && few))
    ∙ ap (λ (x : Bool). x && list) (and_middle clear scan few)
    ∙ and_assoc scan (clear && few) list

-- all tests of a record, whatever its layout, the list's last
pub sound_tests : (layout : Layout) (laws : LayoutLaws layout) (s : ℕ) (r : List ℕ) (t k : ℕ) → length r ≡ layout.width s → t ≡ get_or r 3 0 → k ≡ get_or r 1 0 → ((i : ℕ) → get_or r i 0 < 2 ^ 16)
    → sound_as layout s r ≡ scan_sound s t k && ((all_zero (drop t (marks (marks_of_record r))) && leb (ones_in (marks_of_record r)) k) && list_sound_as layout s r)
unfolding record_sound
sound_tests layout laws s r t k long tested scanned small =
    let b = layout.beginning s r in
    let w = layout.linear s r in
    let reads : Reads layout s b r w = record { long = long; begins = refl; is = refl } in
    let marks_are = sym (marks_same layout laws s b r w reads) in
    let words_small : (i : ℕ) → get_or (marks_of_record w) i 0 < 2 ^ 16 = subst (λ (m : List ℕ). (i : ℕ) → get_or m i 0 < 2 ^ 16) (sym marks_are) (small-take mark_words (drop marks_offset r) (small-drop marks_offset r small)) in
    let tested_is : get_or w 3 0 ≡ t = sym (tested ∙ head_word layout laws s b r w reads 3 (omega arith)) in
    let scanned_is : get_or w 1 0 ≡ k = sym (scanned ∙ head_word layout laws s b r w reads 1 (omega arith)) in
    let used = every is_session (take (used_in w) (slots_in s w)) in
    let free = every is_none (drop (used_in w) (slots_in s w)) in
    let begins = ltb b (layout.beginnings s) in
    let room = leb (used_in w) (2 * s) in
    (λ i. begins && (room && (used && (free
    && (sym (clear_is (get_or w 3 0) (marks_of_record w)) i && (scan_sound s (tested_is i) (scanned_is i) && leb (sym (count_is (marks_of_record w) words_small) i) (get_or w 1 0)))))))
    ∙ (λ i. begins && (room && (used && (free
    && (all_zero (drop (tested_is i) (marks (marks_are i))) && (scan_sound s t k && leb (ones_in (marks_are i)) (scanned_is i)))))))
    ∙ reordered begins room used free (all_zero (drop t (marks (marks_of_record r)))) (scan_sound s t k) (leb (ones_in (marks_of_record r)) k)
