-- The steps on a record, whatever its layout: the words that the code leaves are the record of the rules' desk. By the laws of the layout each
-- store is one in the record of the first board that the record reads as, and there it is a law of that record (DeskLaws, DeskTie).
use Prim.Native.Nat.{ℕ, ◌+◌, ◌*◌, ◌^◌, ◌≤◌, ◌<◌}
use native.Mathlib.Omega.{arith}
use mathlib.Core.Bool.{true}
use mathlib.Core.List.{List, [], ◌∷◌, ◌++◌}
use mathlib.Core.Path.{◌≡◌, refl, sym, ap, subst, ◌∙◌}
use lib.ListN.{length, get_or, drop, set, replicate, length-append, length-map, length-replicate, length-set}
use lib.Seq.{get_or-take}
use Rattle.std.proofs.lemmas.List.{drop-take}
use Rattle.rules.specs.Bytes.{words_of_bytes}
use Rattle.rules.specs.Hall.{Desk, max_all_screens, unmarked, used_slots}
use Rattle.rules.specs.Steps.{begin, marked_of, read_screens, retire, settle_if, unmarked_of}
use Rattle.rules.specs.Table.{decode_desk, encode_desk, list_offset, mark_words, marks_offset, used_in}
use Rattle.rules.proofs.Laws.Desk.Decoding.{small-drop, small-take}
use Rattle.rules.proofs.Laws.Desk.Marks.{unmarked_and_marked}
use Rattle.marks.specs.Marks.{find_slot, mark_slot, marks, ones_in}
use Rattle.desk.specs.Layout.{Layout, LayoutLaws, Reads, decode, encode, marks_of_record, partitioned, tested_slots, with_desk, with_marks}
use Rattle.desk.specs.Record.{Does, Encoded, Laid, Lent, desk_in, parted}
use Rattle.desk.proofs.WordDesk.{word_desk}
use Rattle.desk.proofs.DeskLaws.{Counted, Found, counted, facts, found, part_stores, see_none, see_stores, start_none, start_stores, words_of}
use Rattle.desk.proofs.DeskTie.{DeskCounts, again, begun_encoded, desk_counts, finds, formed_of, marked_is, parted_encoded, parted_none, read_encoded, settled-counts}

parted-slots : (D : Desk) → used_slots (parted D) ≡ used_slots D
parted-slots D =
    let all = unmarked_of D.tested ++ marked_of D.tested in
    omega (arith, length-map all unmarked, length-append (unmarked_of D.tested) (marked_of D.tested), unmarked_and_marked D.tested)

module _ (layout : Layout) (laws : LayoutLaws layout) where
  module _ (s b : ℕ) (r w : List ℕ) (e : Reads layout s b r w) where
    pub head_word : (i : ℕ) → i < list_offset → get_or r i 0 ≡ get_or w i 0
    head_word i h = sym (get_or-take list_offset r i 0 h) ∙ ap (λ (x : List ℕ). get_or x i 0) (laws.head s b r w e) ∙ get_or-take list_offset w i 0 h

    pub used_same : used_in r ≡ used_in w
    used_same = λ i. head_word 2 (omega arith) i + head_word 3 (omega arith) i + head_word 4 (omega arith) i

    pub marks_same : marks_of_record r ≡ marks_of_record w
    marks_same = sym (drop-take marks_offset mark_words r) ∙ ap (drop marks_offset) (laws.head s b r w e) ∙ drop-take marks_offset mark_words w

  -- ---- from one part to the next: bytes that a part leaves are lent to the next one
  pub record Left (s b : ℕ) (D : Desk) (bytes : List ℕ) : Type 0 where
    pub lent : Lent layout s bytes
    pub desk_is : desk_in layout s bytes ≡ D
    pub begins_same : layout.beginning s (words_of_bytes bytes) ≡ b

  pub left : (s b : ℕ) (D : Desk) (bytes : List ℕ) → s ≤ max_all_screens → b < layout.beginnings s → used_slots D ≤ 2 * s → length bytes ≡ 2 * layout.width s
      → words_of_bytes bytes ≡ encode layout s b D → Left s b D bytes
  left s b D bytes h hb room whole is =
      let w = encode_desk s D in
      let first = again s D w h room refl in
      let read = laws.lies s b w hb first.encoded.long in
      let begins : layout.beginning s (words_of_bytes bytes) ≡ b = ap (layout.beginning s) is ∙ read.begins in
      let linear : layout.linear s (words_of_bytes bytes) ≡ w = ap (layout.linear s) is ∙ read.is in
      record {
        lent = record {
          laid = record { long = ap length is ∙ read.long; begins = omega arith; reads = subst (Encoded s) (sym linear) first.encoded };
          whole = whole;
        };
        desk_is = ap (decode_desk s) linear ∙ first.desk_is;
        begins_same = begins;
      }

  -- where the part keeps the number of used slots
  pub does : (s : ℕ) (part : Desk → Desk) (bytes bytes' : List ℕ) → Lent layout s bytes → used_slots (part (desk_in layout s bytes)) ≡ used_slots (desk_in layout s bytes)
      → length bytes' ≡ length bytes → Does layout s part bytes bytes' → Left s (layout.beginning s (words_of_bytes bytes)) (part (desk_in layout s bytes)) bytes'
  does s part bytes bytes' e same long is =
      left s (layout.beginning s (words_of_bytes bytes)) (part (desk_in layout s bytes)) bytes' e.laid.reads.bounded e.laid.begins (omega (arith, same, e.laid.reads.room)) (long ∙ e.whole) is

  -- one part after another
  pub then : (s b : ℕ) (D : Desk) (part : Desk → Desk) (bytes bytes' : List ℕ) → Left s b D bytes → Does layout s part bytes bytes' → words_of_bytes bytes' ≡ encode layout s b (part D)
  then s b D part bytes bytes' past is = is ∙ (λ i. encode layout s (past.begins_same i) (part (past.desk_is i)))

  -- ---- the record that a call is lent
  module _ (s : ℕ) (r : List ℕ) (e : Laid layout s r) where
    abbrev b : ℕ
    b = layout.beginning s r

    abbrev w : List ℕ
    w = layout.linear s r

    abbrev D : Desk
    D = decode layout s r

    pub reads : Reads layout s b r w
    reads = record { long = e.long; begins = refl; is = refl }

    pub same_word : (i : ℕ) → i < list_offset → get_or r i 0 ≡ get_or w i 0
    same_word i h = head_word s b r w reads i h

    -- its counts, and k
    counts : DeskCounts s w
    counts = desk_counts s w e.reads

    pub ready_count : get_or r 2 0 ≡ length D.ready
    ready_count = same_word 2 (omega arith) ∙ counts.ready

    pub tested_count : get_or r 3 0 ≡ length D.tested
    tested_count = same_word 3 (omega arith) ∙ counts.tested

    pub waiting_count : get_or r 4 0 ≡ length D.waiting
    waiting_count = same_word 4 (omega arith) ∙ counts.waiting

    pub scanned_count : get_or r 1 0 ≡ D.scanned
    unfolding decode_desk
    scanned_count = same_word 1 (omega arith)

    pub tested_fits : get_or r 2 0 + get_or r 3 0 ≤ 2 * s
    tested_fits = omega (arith, ready_count, tested_count, e.reads.room)

    -- a record that is not written is that of its own desk
    pub record_same : r ≡ with_desk layout s r D
    record_same = laws.known s b r w e.begins reads ∙ ap (layout.lay s b) e.reads.is

    -- ---- retire: what the code finds, and its three stores
    pub owed_word : get_or r 0 0 ≡ D.owed
    owed_word = same_word 0 (omega arith) ∙ (finds s w e.reads).owed

    pub used_count : used_in r ≡ used_slots D
    used_count = used_same s b r w reads ∙ (finds s w e.reads).count

    pub retire_stores : (n p : ℕ) → n ≡ used_slots D → n < 2 * s → p ≡ layout.slot s b n
        → set (set (set r (list_offset + p) (get_or r 0 0)) 4 (get_or r 4 0 + 1)) 0 0 ≡ with_desk layout s r (retire D)
    retire_stores n p used room is =
        let first = laws.put_slot s b r w n (get_or r 0 0) e.begins room reads in
        let second = laws.put_head s b _ _ 4 (get_or r 4 0 + 1) (omega arith) first in
        ap (λ (k : ℕ). set (set (set r (list_offset + k) (get_or r 0 0)) 4 (get_or r 4 0 + 1)) 0 0) is
        ∙ laws.known s b _ _ e.begins (laws.put_head s b _ _ 0 0 (omega arith) second)
        ∙ ap (layout.lay s b) ((λ i. set (set (set w (list_offset + n) (same_word 0 (omega arith) i)) 4 (same_word 4 (omega arith) i + 1)) 0 0) ∙ (finds s w e.reads).stores n used room)

    -- ---- collect (a)
    pub begin_stores : get_or r 3 0 ≡ 0 → set (set r 3 (get_or r 4 0)) 4 0 ≡ with_desk layout s r (begin D)
    begin_stores none =
        laws.known s b _ _ e.begins (laws.put_head s b _ _ 4 0 (omega arith) (laws.put_head s b r w 3 (get_or r 4 0) (omega arith) reads))
        ∙ ap (layout.lay s b)
        ((λ i. set (set w 3 (same_word 4 (omega arith) i)) 4 0) ∙ start_stores s w (formed_of s w e.reads) (sym (same_word 3 (omega arith)) ∙ none) ∙ begun_encoded s w e.reads)

    pub begin_none : (get_or r 3 0 ≡ 0 → ⊥) → r ≡ with_desk layout s r (begin D)
    begin_none some =
        laws.known s b r w e.begins reads
        ∙ ap (layout.lay s b) (start_none s w (formed_of s w e.reads) (λ z. some (same_word 3 (omega arith) ∙ z)) ∙ begun_encoded s w e.reads)

    -- ---- collect (b), for one screen
    pub marks_eight : length (marks_of_record r) ≡ mark_words
    marks_eight = ap length (marks_same s b r w reads ∙ words_of s w) ∙ (formed_of s w e.reads).fit.eight

    all_tested : get_or r 3 0 ≡ length (word_desk s w).tested
    all_tested = same_word 3 (omega arith) ∙ (facts s w (formed_of s w e.reads)).tested

    module _ (x j : ℕ) (is : j ≡ find_slot x (tested_slots w) (marks (marks_of_record r))) where
      -- the slot that was found, as the laws of the first board's record have it
      slot_found : Found s w x j
      slot_found = found s w x j (formed_of s w e.reads) (is ∙ ap (λ (m : List ℕ). find_slot x (tested_slots w) (marks m)) (marks_same s b r w reads))

      pub slot_unmarked : j < get_or r 3 0 → get_or (marks (marks_of_record r)) j 0 ≡ 0
      slot_unmarked below = ap (λ (m : List ℕ). get_or (marks m) j 0) (marks_same s b r w reads) ∙ slot_found.free (omega (arith, all_tested))

      pub mark_stores : j < get_or r 3 0 → set (with_marks r (mark_slot (marks_of_record r) j)) 1 (get_or r 1 0 + 1) ≡ with_desk layout s r (read_screens (x ∷ []) D)
      mark_stores below =
          let eight : length (mark_slot (marks_of_record r) j) ≡ mark_words = length-set (marks_of_record r) _ _ ∙ marks_eight in
          laws.known s b _ _ e.begins (laws.put_head s b _ _ 1 (get_or r 1 0 + 1) (omega arith) (laws.put_marks s b r w (mark_slot (marks_of_record r) j) eight reads))
          ∙ ap (layout.lay s b)
          ((λ i. set (with_marks w (mark_slot (marks_same s b r w reads i) j)) 1 (same_word 1 (omega arith) i + 1))
          ∙ see_stores s w x j (formed_of s w e.reads) slot_found.is (omega (arith, all_tested)) ∙ read_encoded s w e.reads x)

      pub unmarked_stores : get_or r 3 0 ≤ j → set r 1 (get_or r 1 0 + 1) ≡ with_desk layout s r (read_screens (x ∷ []) D)
      unmarked_stores past =
          laws.known s b _ _ e.begins (laws.put_head s b r w 1 (get_or r 1 0 + 1) (omega arith) reads)
          ∙ ap (layout.lay s b)
          ((λ i. set w 1 (same_word 1 (omega arith) i + 1)) ∙ see_none s w x j (formed_of s w e.reads) slot_found.is (omega (arith, all_tested)) ∙ read_encoded s w e.reads x)

    -- ---- collect (c), the list: as the code has them, the mark words m and their count k
    module _ (k : ℕ) (m : List ℕ) (small : (i : ℕ) → get_or r i 0 < 2 ^ 16) (is : m ≡ marks_of_record r) (ones : k ≡ ones_in m) where
      known_marks : Counted s w k m
      known_marks =
          let same = marks_same s b r w reads in
          counted s w (formed_of s w e.reads) (subst (λ (l : List ℕ). (i : ℕ) → get_or l i 0 < 2 ^ 16) same (small-take mark_words (drop marks_offset r) (small-drop marks_offset r small))) k m (is ∙ same) ones

      pub marked_count : k ≡ length (marked_of D.tested)
      marked_count = known_marks.kept ∙ marked_is s w e.reads

      pub parted_same : k ≡ 0 → r ≡ with_desk layout s r (parted D)
      parted_same none = record_same ∙ ap (with_desk layout s r) (parted_none D (sym marked_count ∙ none))

      -- the tested slots are partitioned, and then the marks are cleared
      pub parted_stores : (r' zeros : List ℕ) → Reads layout s b r' (partitioned (marks m) w) → zeros ≡ replicate mark_words 0 → with_marks r' zeros ≡ with_desk layout s r (parted D)
      parted_stores r' zeros read cleared =
          laws.known s b _ _ e.begins (laws.put_marks s b _ _ zeros (ap length cleared ∙ length-replicate {A = ℕ} mark_words 0) read)
          ∙ ap (layout.lay s b) (part_stores s w (formed_of s w e.reads) k m known_marks zeros cleared ∙ parted_encoded s w e.reads)

    -- ---- (c): four counts in the record of the parted desk
    pub settled_stores : (r' : List ℕ) (a c : ℕ) → r' ≡ with_desk layout s r (parted D) → a ≡ length (D.ready ++ unmarked_of D.tested) → c ≡ length (marked_of D.tested ++ D.waiting)
        → set (set (set (set r' 1 0) 2 a) 3 0) 4 c ≡ with_desk layout s r (settle_if true D)
    settled_stores r' a c is ready waiting =
        let long = (again s (parted D) (encode_desk s (parted D)) e.reads.bounded (omega (arith, parted-slots D, e.reads.room)) refl).encoded.long in
        let start = laws.lies s b (encode_desk s (parted D)) e.begins long in
        let scanned = laws.put_head s b _ _ 1 0 (omega arith) start in
        let counted_lem = laws.put_head s b _ _ 2 a (omega arith) scanned in
        let tested = laws.put_head s b _ _ 3 0 (omega arith) counted_lem in
        ap (λ (x : List ℕ). set (set (set (set x 1 0) 2 a) 3 0) 4 c) is
        ∙ laws.known s b _ _ e.begins (laws.put_head s b _ _ 4 c (omega arith) tested)
        ∙ ap (layout.lay s b) (settled-counts s D a c (omega (arith, e.reads.room, e.reads.bounded)) ready waiting)
