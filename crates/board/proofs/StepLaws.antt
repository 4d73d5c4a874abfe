-- The steps, return by return: what the code answers and leaves is what the rules say.
use Rattle.std.specs.Prelude.{Ok, Err}
use Rattle.std.proofs.Common.{◌≡◌, ℕ, zero, suc, ◌+◌, ◌-◌, ◌<◌, ◌≤◌, Bool, true, false, cond, leb, List, [], ◌∷◌, length, get_or, take, drop, set, sym, refl, ap, ◌∙◌, ap₂, add_assoc, arith, get_or-drop, get_or-set_other, get_or-take, eq-eqb, ne_eqb, le-leb}
use lib.Dec.{eqb-suc-zero}
use lib.Seq.{set-get_or}
use borrow.Author.Tests.{lt-leb}
use borrow.Rule.Slice.PartMut.{put_same}
use Rattle.rules.specs.Hall.{Desk, Hall, Limits, all_screens, desk_of}
use Rattle.rules.specs.Steps.{Collect, Collected, Drop, Retire, Step, Swap, Take, accept, collect, collect_seeing, decide, first_no, in_range, is_repeat, next_screens}
use Rattle.rules.specs.Steps.{perform_step, refuse, retire_questions, step_questions}
use Rattle.rules.specs.Table.{hall_in, header_words, owed_offset, position_word, scanned_offset}
use Rattle.rules.proofs.Laws.Table.TableSteps.{collect-seeing}
use Rattle.reply.specs.Answer.{Reply, answer_of, table_result}
use Rattle.reply.specs.declared.Reason.TheVariants.{NoPosition, NoScreen, OverLimits, Owing, PositionEmpty, ScreenEmpty, ScreenFull}
use Rattle.words.proofs.Scan.{ended, rest}
use Rattle.board.specs.Kind.{Kind, Laws, RetiredAs, put_in, record_in, start_of}
use Rattle.board.specs.Results.{admitted_step}
use Rattle.board.specs.declared.Location.{Location}
use Rattle.board.proofs.AdmissionLaws.{Admitted}
use Rattle.board.proofs.LocationLaws.{AtPosition, AtScreen, Lent, lent, lent_record, with_record}

module _ {kind : Kind} (laws : Laws kind) {limits : Limits} {t : List ℕ} {d : ℕ} {p : Location} (e : Admitted kind limits t d p) where
  -- a step, by the number that its own questions give
  abbrev own_asked : Step → ℕ
  own_asked step = first_no (step_questions limits (hall_in t) (kind.state t) d step)

  refused_as : (n : ℕ) (step : Step) → own_asked step ≡ suc n → refuse (suc n) t ≡ admitted_step kind limits t d step
  unfolding admitted_step
  refused_as n step q = sym (ap (λ (k : ℕ). decide k t (perform_step (hall_in t) (kind.state t) d step).session (kind.after t d step)) q)

  accepted_as : (step : Step) → own_asked step ≡ 0 → accept (perform_step (hall_in t) (kind.state t) d step).session (kind.after t d step) ≡ admitted_step kind limits t d step
  unfolding admitted_step
  accepted_as step q = sym (ap (λ (k : ℕ). decide k t (perform_step (hall_in t) (kind.state t) d step).session (kind.after t d step)) q)

  -- ---- drop
  pub drop_no_screen : (i : ℕ) → in_range i p.screens ≡ false → table_result (Err NoScreen) t ≡ admitted_step kind limits t d (Drop i)
  drop_no_screen i out = refused_as 6 (Drop i) (rw (← e.screens_is, out))

  module _ {i a : ℕ} (s : AtScreen kind t d i a) where
    pub drop_screen_empty : get_or t a 0 ≡ 0 → table_result (Err ScreenEmpty) t ≡ admitted_step kind limits t d (Drop i)
    drop_screen_empty none = refused_as 10 (Drop i) (rw (s.yes_screen, s.shows, none))

    pub drop_accepted : (get_or t a 0 ≡ 0 → ⊥)
        → table_result (Ok (get_or t a 0)) (set t a 0) ≡ admitted_step kind limits t d (Drop i)
    drop_accepted some =
        (λ j. record { answer = record { number = 0; session = sym s.shows j }; after = set t (s.is j) 0 })
        ∙ ap (accept _) (sym (laws.drop_leaves t d i))
        ∙ accepted_as (Drop i) (rw (s.yes_screen, s.shows, ne_eqb (get_or t a 0) 0 some))

  -- ---- take
  pub take_no_screen : (i q : ℕ) → in_range i p.screens ≡ false → table_result (Err NoScreen) t ≡ admitted_step kind limits t d (Take i q)
  take_no_screen i q out = refused_as 6 (Take i q) (rw (← e.screens_is, out))

  module _ {i a : ℕ} (s : AtScreen kind t d i a) where
    pub take_no_position : (q : ℕ) → in_range q p.positions ≡ false → table_result (Err NoPosition) t ≡ admitted_step kind limits t d (Take i q)
    take_no_position q out = refused_as 7 (Take i q) (rw (s.yes_screen, ← e.positions_is, out))

    module _ {q : ℕ} (h : AtPosition kind t d q) where
      pub take_screen_full : (get_or t a 0 ≡ 0 → ⊥) → table_result (Err ScreenFull) t ≡ admitted_step kind limits t d (Take i q)
      take_screen_full some =
          refused_as 8 (Take i q) (rw (s.yes_screen, h.yes_position, s.shows, ne_eqb (get_or t a 0) 0 some))

      pub take_position_empty : get_or t a 0 ≡ 0 → get_or t (position_word q) 0 ≡ 0 → table_result (Err PositionEmpty) t ≡ admitted_step kind limits t d (Take i q)
      take_position_empty free none = refused_as 9 (Take i q) (rw (s.yes_screen, h.yes_position, s.shows, free, h.holds, none))

      pub take_accepted : get_or t a 0 ≡ 0 → (get_or t (position_word q) 0 ≡ 0 → ⊥)
          → table_result (Ok (get_or t (position_word q) 0)) (set t a (get_or t (position_word q) 0)) ≡ admitted_step kind limits t d (Take i q)
      take_accepted free some =
          (λ j. record { answer = record { number = 0; session = sym h.holds j }; after = set t (s.is j) (get_or t (position_word q) 0) })
          ∙ ap (accept _) (sym (laws.take_leaves t d i q))
          ∙ accepted_as (Take i q) (rw (s.yes_screen, h.yes_position, s.shows, free, h.holds, ne_eqb (get_or t (position_word q) 0) 0 some))

  -- ---- swap: the owed word and the word of the position, as the code reads them
  owed_at : p.start + owed_offset ≡ start_of kind (hall_in t) d
  owed_at = omega (arith, e.start_is)

  owes : (desk_of (kind.state t) d).owed ≡ get_or t (p.start + owed_offset) 0
  owes =
      let l = lent laws e in
      ap (λ (D : Desk). D.owed) (sym l.desk_is)
      ∙ (laws.reads p.all (lent_record t p) l.long).owed
      ∙ get_or-take (p.end - p.start) (drop p.start t) owed_offset 0 (omega (arith, e.end_is, laws.numbered p.all))
      ∙ get_or-drop p.start t owed_offset 0

  module _ (q v : ℕ) where
    pub swap_no_position : in_range q p.positions ≡ false → table_result (Err NoPosition) t ≡ admitted_step kind limits t d (Swap q v)
    swap_no_position out = refused_as 7 (Swap q v) (rw (← e.positions_is, out))

    pub swap_over_limits : AtPosition kind t d q → limits.sessions < v → table_result (Err OverLimits) t ≡ admitted_step kind limits t d (Swap q v)
    swap_over_limits h over = refused_as 21 (Swap q v) (rw (h.yes_position, lt-leb v limits.sessions over))

    module _ (h : AtPosition kind t d q) (in-limits : v ≤ limits.sessions) {owed : ℕ} (owed-is : owed ≡ get_or t (p.start + owed_offset) 0) where
      yes_session : leb v limits.sessions ≡ true
      yes_session = le-leb v limits.sessions in-limits

      pub swap_owing : (owed ≡ 0 → ⊥) → table_result (Err Owing) t ≡ admitted_step kind limits t d (Swap q v)
      swap_owing some = refused_as 11 (Swap q v) (rw (h.yes_position, yes_session, owes, ← owed-is, ne_eqb owed 0 some))

      module _ (none : owed ≡ 0) {old : ℕ} (old-is : old ≡ get_or t (position_word q) 0) where
        -- an accepted swap, given whether it is a repeat
        swap_accepted_as : (repeat : Bool) → is_repeat old v ≡ repeat
            → table_result (Ok old) (cond repeat t (set (set t (position_word q) v) (p.start + owed_offset) old)) ≡ admitted_step kind limits t d (Swap q v)
        swap_accepted_as repeat is =
            (λ j. record {
              answer = record { number = 0; session = (old-is ∙ sym h.holds) j };
              after = cond ((sym is ∙ ap (λ (x : ℕ). is_repeat x v) old-is) j) t (set (set t (position_word q) v) (owed_at j) (old-is j));
            })
            ∙ ap (accept _) (sym (laws.swap_leaves t d q v))
            ∙ accepted_as (Swap q v) (rw (h.yes_position, yes_session, owes, ← owed-is, none))

        -- the position holds it already: nothing is written
        pub swap_repeated : old ≡ v → table_result (Ok old) t ≡ admitted_step kind limits t d (Swap q v)
        swap_repeated same = swap_accepted_as true (eq-eqb old v same)

        pub swap_accepted : (old ≡ v → ⊥)
            → table_result (Ok old) (set (set t (position_word q) v) (p.start + owed_offset) old) ≡ admitted_step kind limits t d (Swap q v)
        swap_accepted other = swap_accepted_as false (ne_eqb old v other)

        -- nothing stood there: the owed word stays 0
        pub swap_accepted_none : (old ≡ v → ⊥) → old ≡ 0 → table_result (Ok old) (set t (position_word q) v) ≡ admitted_step kind limits t d (Swap q v)
        swap_accepted_none other empty =
            let after : List ℕ = set t (position_word q) v in
            let at : ℕ = p.start + owed_offset in
            let stays : get_or after at 0 ≡ old = get_or-set_other t (position_word q) at v 0 (λ z. omega (arith, z, h.apart at owed_at)) ∙ sym owed-is ∙ none ∙ sym empty in
            (λ j. table_result (Ok old) ((sym (set-get_or after at 0) ∙ ap (set after at) stays) j)) ∙ swap_accepted other

  -- ---- retire
  module _ (l : Lent kind t d p) where
    pub retire_result : (x : Reply) (ys : List ℕ) → RetiredAs kind p.all (lent_record t p) (answer_of x) ys
        → table_result x (with_record t p ys) ≡ admitted_step kind limits t d Retire
    retire_result x ys r = by_number (answer_of x).number refl
      where
        all_asked : own_asked Retire ≡ (answer_of x).number
        all_asked = sym (r.number ∙ ap₂ (λ (n : ℕ) (D : Desk). first_no (retire_questions n D)) e.all_is l.desk_is)

        by_number : (n : ℕ) → (answer_of x).number ≡ n → table_result x (with_record t p ys) ≡ admitted_step kind limits t d Retire
        by_number zero z =
            let session : (answer_of x).session ≡ (desk_of (kind.state t) d).owed = rw z at r.session ∙ ap (λ (D : Desk). D.owed) l.desk_is in
            let after : ys ≡ kind.retired (all_screens (hall_in t)) (record_in kind (hall_in t) t d) = rw z at r.after ∙ ap₂ kind.retired e.all_is l.part in
            (λ i. record { answer = record { number = z i; session = session i }; after = (l.put ys ∙ ap (put_in kind (hall_in t) t d) after) i })
            ∙ ap (accept _) (sym (laws.retire_leaves t d))
            ∙ accepted_as Retire (all_asked ∙ z)
        by_number (suc n) z =
            let session : (answer_of x).session ≡ 0 = rw (z, eqb-suc-zero) at r.session in
            let after : ys ≡ lent_record t p = rw (z, eqb-suc-zero) at r.after in
            let same : with_record t p ys ≡ t = ap (with_record t p) after ∙ put_same p.start (p.end - p.start) t in
            (λ i. record { answer = record { number = z i; session = session i }; after = same i })
            ∙ refused_as n Retire (all_asked ∙ z)

    -- ---- collect
    pub collect_result : (vs : List ℕ) → vs ≡ next_screens (kind.state t).shown (kind.desk p.all (lent_record t p)) → (x : ℕ) (ys : List ℕ)
        → x ≡ (collect_seeing p.all vs (kind.desk p.all (lent_record t p))).session
        → ys ≡ kind.collected p.all vs (lent_record t p)
        → table_result (Ok x) (with_record t p ys) ≡ admitted_step kind limits t d Collect
    collect_result vs seen x ys ex ey =
        let H : Hall = hall_in t in
        let S = all_screens H in
        let r = lent_record t p in
        let shown : List ℕ = (kind.state t).shown in
        let session : x ≡ (collect S shown (desk_of (kind.state t) d)).session =
        ex ∙ ap (λ (l : List ℕ). (collect_seeing p.all l (kind.desk p.all r)).session) seen
        ∙ ap (λ (g : Collected). g.session) (collect-seeing p.all shown (kind.desk p.all r))
        ∙ ap₂ (λ (n : ℕ) (E : Desk). (collect n shown E).session) e.all_is l.desk_is in
        let after : ys ≡ kind.collected S (next_screens shown (kind.desk S (record_in kind H t d))) (record_in kind H t d) =
        ey ∙ ap (λ (l : List ℕ). kind.collected p.all l r) seen
        ∙ ap₂ (λ (n : ℕ) (words : List ℕ). kind.collected n (next_screens shown (kind.desk n words)) words) e.all_is l.part in
        (λ i. record { answer = record { number = 0; session = session i }; after = (l.put ys ∙ ap (put_in kind H t d) after) i })
        ∙ ap (accept _) (sym (laws.collect_leaves t d))
        ∙ accepted_as Collect refl

-- the screens that a collect reads
two : (l : List ℕ) (k : ℕ) → k + 1 < length l → take 2 (drop k l) ≡ get_or l k 0 ∷ get_or l (k + 1) 0 ∷ []
two l k h = rw (rest l k (omega arith), rest l (k + 1) h)

one : (l : List ℕ) (k : ℕ) → k + 1 ≡ length l → take 2 (drop k l) ≡ get_or l k 0 ∷ []
one l k h = rw (rest l k (omega arith), ended l (k + 1) (omega arith))

pub record Scans (kind : Kind) (t : List ℕ) (p : Location) (k : ℕ) : Type 0 where
  pub scanned_is : k ≡ (kind.desk p.all (lent_record t p)).scanned
  pub below : k < p.all
  pub there : header_words + p.positions + p.all < length t
  pub see_two : k + 1 < p.all
      → let at = header_words + p.positions + k in get_or t at 0 ∷ get_or t (at + 1) 0 ∷ [] ≡ next_screens (kind.state t).shown (kind.desk p.all (lent_record t p))
  pub see_one : p.all ≤ k + 1 → get_or t (header_words + p.positions + k) 0 ∷ [] ≡ next_screens (kind.state t).shown (kind.desk p.all (lent_record t p))

pub scans : {kind : Kind} (laws : Laws kind) {limits : Limits} {t : List ℕ} {d k : ℕ} {p : Location} → Admitted kind limits t d p → k ≡ get_or t (p.start + scanned_offset) 0 → Scans kind t p k
scans {kind} laws {t = t} {d} {k} {p} e is =
    let H : Hall = hall_in t in
    let s = p.all in
    let a = p.start in
    let l = lent laws e in
    let r = lent_record t p in
    let shown : List ℕ = (kind.state t).shown in
    let n = p.end - p.start in
    let word : k ≡ get_or r scanned_offset 0 =
    is ∙ sym (get_or-take n (drop a t) scanned_offset 0 (omega (arith, e.end_is, laws.numbered s)) ∙ get_or-drop a t scanned_offset 0) in
    let scanned : k ≡ (kind.desk s r).scanned = word ∙ sym (laws.reads s r l.long).scanned in
    let below : k < s = omega (arith, scanned, laws.scanned-below s r l.some l.passes) in
    let long : length shown ≡ s = e.facts.holds.screens ∙ sym e.all_is in
    let look : (j : ℕ) → j < s → get_or shown j 0 ≡ get_or t (header_words + p.positions + j) 0 =
    λ j h. e.facts.holds.shown j (omega (arith, e.all_is)) ∙ ap (λ (x : ℕ). get_or t (header_words + x + j) 0) (sym e.positions_is) in
    record {
      scanned_is = scanned;
      below = below;
      there = omega (arith, e.start_is, e.positions_is, e.all_is, e.end_is, e.room, laws.numbered s);
      see_two = λ h. rw (← scanned, two shown k (omega arith), look k below, look (k + 1) h, ← add_assoc (header_words + p.positions) k 1);
      see_one = λ h. rw (← scanned, one shown k (omega arith), look k below);
    }
