-- Locality of one call: what it leaves alone, and what its answer and its own desk depend on.
use Rattle.std.specs.Prelude.{ℕ, zero, suc, ◌-◌, ◌≡◌, refl, Bool, true, false, cond, ◌&&◌, List, [], ◌∷◌, get_or, set, leb, eqb}
use Rattle.std.proofs.Common.{arith, sym, ap, ap₂, ◌∙◌, true≢false, get_or-set_same, get_or-set_other}
use Rattle.std.proofs.lemmas.Bool.{eqb-false}
use Rattle.rules.specs.Hall.{Desk, Formed, Hall, Limits, State, TestedSlot, all_screens, desk_of, empty_desk, screen_index, with_held, with_shown}
use Rattle.rules.specs.Locality.{OthersStay, SameView, StepsAlike, collect_reads, desk_at, position_at, read_if_tested, screen_at, step_named_words}
use Rattle.rules.specs.Steps.{Answer, Call, Collect, Collected, Drop, Retire, Step, Swap, Take, ◌numbered◌, ◌sends◌, accept, advance, begin, change_position}
use Rattle.rules.specs.Steps.{collect, decide, first_no, hand_back, in_range, is_none, is_repeat, is_session, owe, perform, perform_step, questions, read_screens, renumber}
use Rattle.rules.specs.Steps.{retire, retire_questions, scan_at, settle, step, with_next}
use Rattle.rules.proofs.Laws.History.ScreenIndex.{screen_in, screen_same}
use Rattle.rules.proofs.Laws.History.StepEffects.{IsDesk, IsPosition, IsScreen, SwapAsked, desk_asked, drop-asked, formed_performed, in_range_lem, range_holds}
use Rattle.rules.proofs.Laws.History.StepEffects.{swap_asked, take-asked, unmoved}
use Rattle.rules.proofs.Laws.Lists.Bools.{and_left, and_right, and-true, cond_both}

-- What is chosen by a test is the same where it is the same whenever the test holds; and back, where it holds.
cond_cong : {A : Type 0} (b : Bool) (x y z : A) → (b ≡ true → x ≡ y) → cond b x z ≡ cond b y z
cond_cong true x y z h = h refl
cond_cong false x y z h = refl

cond_true_injective : {A : Type 0} (b : Bool) (x y z : A) → b ≡ true → cond b x z ≡ cond b y z → x ≡ y
cond_true_injective true x y z q e = e
cond_true_injective false x y z q e = absurd (true≢false (sym q))

-- the first and the second of two lists that are the same
first_same : {xs ys : List ℕ} → xs ≡ ys → get_or xs 0 0 ≡ get_or ys 0 0
first_same e = ap (λ (l : List ℕ). get_or l 0 0) e

second_same : {xs ys : List ℕ} → xs ≡ ys → get_or xs 1 0 ≡ get_or ys 1 0
second_same e = ap (λ (l : List ℕ). get_or l 1 0) e

-- ---- What a call leaves alone.
other_desk_stays : (H : Hall) (st : State) (held : List ℕ) (d : ℕ) (new : Desk) → IsDesk H d → (x : ℕ) → (x ≡ d → ⊥)
    → desk_at H (record { held = held; shown = st.shown; desks = set st.desks (d - 1) new }) x ≡ desk_at H st x
other_desk_stays H st held d new hd x other =
    cond_cong (in_range x H.desks) _ _ empty_desk (λ h.
    let hx = in_range_lem x H.desks h in
    get_or-set_other st.desks (d - 1) (x - 1) new empty_desk (λ m. other (omega (arith, hd.0, hx.0))))

module _ (limits : Limits) (H : Hall) (st : State) where
  other_screen_stays : (d c v : ℕ) → IsDesk H d → IsScreen H c → (x y : ℕ) → (x ≡ d → y ≡ c → ⊥)
      → screen_at H (with_shown st (screen_index H d c) v) x y ≡ screen_at H st x y
  other_screen_stays d c v hd hc x y other =
      cond_cong (in_range x H.desks && in_range y H.screens) _ _ 0 (λ h.
      let hx = in_range_lem x H.desks (and_left (in_range x H.desks) (in_range y H.screens) h) in
      let hy = in_range_lem y H.screens (and_right (in_range x H.desks) (in_range y H.screens) h) in
      get_or-set_other st.shown (screen_index H d c) (screen_index H x y) v 0 (λ m.
      let same = screen_same H x y d c (hx.0, hx.1, hy.0, hy.1) (hd.0, hd.1, hc.0, hc.1) m in
      other same.0 same.1))

  other_position_stays : (p v : ℕ) → IsPosition H p → (q : ℕ) → (q ≡ p → ⊥) → position_at H (with_held st (p - 1) v) q ≡ position_at H st q
  other_position_stays p v hp q other =
      cond_cong (in_range q H.positions) _ _ 0 (λ h.
      let hq = in_range_lem q H.positions h in
      get_or-set_other st.held (p - 1) (q - 1) v 0 (λ m. other (omega (arith, hp.0, hq.0))))

  pub others_stay : (call : Call) → OthersStay H call st (step limits H st call).after
  others_stay call = moved (first_no (questions limits H st call)) refl (by_number_lem (first_no (questions limits H st call)) call.message call.desk call.step refl)
    where
      unchanged : (m d : ℕ) (s : Step) → OthersStay H (d sends s numbered m) st st
      unchanged m d s = record { desks = λ x other. refl; screens = λ x y free. refl; positions = λ q free. refl }

      by_number_lem : (n m d : ℕ) (s : Step) → first_no (questions limits H st (d sends s numbered m)) ≡ n
          → OthersStay H (d sends s numbered m) st (unmoved limits H st n d s).after
      by_number_lem zero m d (Take c p) e =
          let asked = take-asked limits H st m d c p e in
          record {
            desks = λ x other. refl;
            screens = λ x y free. other_screen_stays d c _ asked.desk asked.screen x y (λ own same. eqb-false c y (free own) (sym same));
            positions = λ q free. refl;
          }
      by_number_lem zero m d (Drop c) e =
          let asked = drop-asked limits H st m d c e in
          record {
            desks = λ x other. refl;
            screens = λ x y free. other_screen_stays d c 0 asked.desk asked.screen x y (λ own same. eqb-false c y (free own) (sym same));
            positions = λ q free. refl;
          }
      by_number_lem zero m d (Swap p v) e =
          let asked = swap_asked limits H st m d p v e in
          cond_both (OthersStay H (d sends Swap p v numbered m) st) (is_repeat (get_or st.held (p - 1) 0) v) (unchanged m d (Swap p v)) (record {
            desks = other_desk_stays H st (set st.held (p - 1) v) d _ asked.desk;
            screens = λ x y free. refl;
            positions = λ q free. other_position_stays p v asked.position q (λ same. eqb-false p q free (sym same));
          })
      by_number_lem zero m d Retire e =
          record { desks = other_desk_stays H st st.held d _ (desk_asked limits H st (d sends Retire numbered m) e); screens = λ x y free. refl; positions = λ q free. refl }
      by_number_lem zero m d Collect e =
          record { desks = other_desk_stays H st st.held d _ (desk_asked limits H st (d sends Collect numbered m) e); screens = λ x y free. refl; positions = λ q free. refl }
      by_number_lem (suc n) m d s e = unchanged m d s

      -- the message number is in the desk's own record
      moved : (n : ℕ) → first_no (questions limits H st call) ≡ n → OthersStay H call st (unmoved limits H st n call.desk call.step).after
          → OthersStay H call st (decide n st (perform H st call).session (perform H st call).after).after
      moved zero e stay =
          let after : State = (perform_step H st call.desk call.step).after in
          record {
            desks = λ x other. other_desk_stays H after after.held call.desk _ (desk_asked limits H st call e) x other ∙ stay.desks x other;
            screens = stay.screens;
            positions = stay.positions;
          }
      moved (suc n) e stay = stay

-- ---- What a call's answer and its own desk depend on.

-- A collect looks at the screens only through those that it reads.
scan_reads : (slots : List TestedSlot) (left right : List ℕ) (D : Desk) → read_if_tested slots left ≡ read_if_tested slots right
    → scan_at slots left D ≡ scan_at slots right D
scan_reads [] left right D e = refl
scan_reads (slot ∷ slots) left right D e = ap (λ (sessions : List ℕ). read_screens sessions D) e

pub collect_reads_lem : (S : ℕ) (left right : List ℕ) (D : Desk) → collect_reads left D ≡ collect_reads right D → collect S left D ≡ collect S right D
collect_reads_lem S left right D e = ap (λ (E : Desk). hand_back (settle S E)) (scan_reads (begin D).tested _ _ (begin D) e)

module _ (limits : Limits) (H : Hall) (A B : State) where
  -- Where the hall has them, the words themselves are the same.
  same_desk_lem : (d : ℕ) → desk_at H A d ≡ desk_at H B d → in_range d H.desks ≡ true → desk_of A d ≡ desk_of B d
  same_desk_lem d e h = cond_true_injective (in_range d H.desks) _ _ empty_desk h e

  same_screen : (d c : ℕ) → screen_at H A d c ≡ screen_at H B d c → in_range d H.desks ≡ true → in_range c H.screens ≡ true
      → get_or A.shown (screen_index H d c) 0 ≡ get_or B.shown (screen_index H d c) 0
  same_screen d c e hd hc =
      cond_true_injective (in_range d H.desks && in_range c H.screens) _ _ 0 (and-true (in_range d H.desks) (in_range c H.screens) hd hc) e

  same_position : (p : ℕ) → position_at H A p ≡ position_at H B p → in_range p H.positions ≡ true → get_or A.held (p - 1) 0 ≡ get_or B.held (p - 1) 0
  same_position p e h = cond_true_injective (in_range p H.positions) _ _ 0 h e

  -- A call is asked the same in both, so it is refused by the same number or accepted in both.
  same_number : (m : ℕ) {D E : Desk} {x y : ℕ} → D ≡ E → x ≡ y → cond (eqb m D.next) x 23 ≡ cond (eqb m E.next) y 23
  same_number m desks later = λ i. cond (eqb m (desks i).next) (later i) 23

  asked_alike : (m d : ℕ) (s : Step) → SameView H A B (d sends s numbered m)
      → first_no (questions limits H A (d sends s numbered m)) ≡ first_no (questions limits H B (d sends s numbered m))
  asked_alike m d (Take c p) view =
      cond_cong (in_range d H.desks) _ _ 6 (λ hd.
      same_number m (same_desk_lem d view.desk hd)
      (cond_cong (in_range c H.screens) _ _ 7 (λ hc.
      cond_cong (in_range p H.positions) _ _ 8 (λ hp.
      ap₂ (λ (shown held : ℕ). cond (is_none shown) (cond (is_session held) 0 10) 9) (same_screen d c (first_same view.named) hd hc)
      (same_position p (second_same view.named) hp)))))
  asked_alike m d (Drop c) view =
      cond_cong (in_range d H.desks) _ _ 6 (λ hd.
      same_number m (same_desk_lem d view.desk hd)
      (cond_cong (in_range c H.screens) _ _ 7 (λ hc. ap (λ (shown : ℕ). cond (is_session shown) 0 11) (same_screen d c (first_same view.named) hd hc))))
  asked_alike m d (Swap p v) view =
      cond_cong (in_range d H.desks) _ _ 6 (λ hd.
      same_number m (same_desk_lem d view.desk hd)
      (cond_cong (in_range p H.positions) _ _ 8 (λ hp.
      ap (λ (D : Desk). cond (leb v limits.sessions) (cond (is_none D.owed) 0 12) 22) (same_desk_lem d view.desk hd))))
  asked_alike m d Retire view =
      cond_cong (in_range d H.desks) _ _ 6 (λ hd.
      same_number m (same_desk_lem d view.desk hd) (ap (λ (D : Desk). first_no (retire_questions (all_screens H) D)) (same_desk_lem d view.desk hd)))
  asked_alike m d Collect view = cond_cong (in_range d H.desks) _ _ 6 (λ hd. same_number m (same_desk_lem d view.desk hd) refl)

  module _ (formed_a : Formed H A) (formed_b : Formed H B) where
    -- What is the same and stored in both at one desk, one screen or one position is the same there.
    desk_stored : (d : ℕ) (D E : Desk) (held_a held_b : List ℕ) → IsDesk H d → D ≡ E
        → desk_at H (record { held = held_a; shown = A.shown; desks = set A.desks (d - 1) D }) d
        ≡ desk_at H (record { held = held_b; shown = B.shown; desks = set B.desks (d - 1) E }) d
    desk_stored d D E held_a held_b hd e =
        cond_cong (in_range d H.desks) _ _ empty_desk (λ h.
        get_or-set_same A.desks (d - 1) D empty_desk (omega (arith, formed_a.desks))
        ∙ e
        ∙ sym (get_or-set_same B.desks (d - 1) E empty_desk (omega (arith, formed_b.desks))))

    screen_stored_alike : (d c v w : ℕ) → IsDesk H d → IsScreen H c → v ≡ w
        → screen_at H (with_shown A (screen_index H d c) v) d c ≡ screen_at H (with_shown B (screen_index H d c) w) d c
    screen_stored_alike d c v w hd hc e =
        let inside = screen_in H d c hd.0 hd.1 hc.0 hc.1 in
        cond_cong (in_range d H.desks && in_range c H.screens) _ _ 0 (λ h.
        get_or-set_same A.shown (screen_index H d c) v 0 (omega (arith, inside, formed_a.screens))
        ∙ e
        ∙ sym (get_or-set_same B.shown (screen_index H d c) w 0 (omega (arith, inside, formed_b.screens))))

    position_stored : (p v : ℕ) → IsPosition H p → position_at H (with_held A (p - 1) v) p ≡ position_at H (with_held B (p - 1) v) p
    position_stored p v hp =
        cond_cong (in_range p H.positions) _ _ 0 (λ h.
        get_or-set_same A.held (p - 1) v 0 (omega (arith, formed_a.positions))
        ∙ sym (get_or-set_same B.held (p - 1) v 0 (omega (arith, formed_b.positions))))

    pub steps_alike : (call : Call) → SameView H A B call → StepsAlike H call (step limits H A call) (step limits H B call)
    steps_alike call view = from (first_no (questions limits H B call)) (asked_alike call.message call.desk call.step view) refl
      where
        accepted : {v w : ℕ} → v ≡ w → ◌≡◌ {A = Answer} (record { number = 0; session = v }) (record { number = 0; session = w })
        accepted e = λ i. record { number = 0; session = e i }

        -- a collect of the same desk that reads the same screens
        collect_alike : (m d : ℕ) → in_range d H.desks ≡ true → SameView H A B (d sends Collect numbered m)
            → collect (all_screens H) A.shown (desk_of A d) ≡ collect (all_screens H) B.shown (desk_of B d)
        collect_alike m d hd view =
            let same = same_desk_lem d view.desk hd in
            let reads : collect_reads A.shown (desk_of A d) ≡ collect_reads B.shown (desk_of B d) =
            ap (λ (b : Bool). collect_reads A.shown (cond b (desk_of A d) empty_desk)) (sym hd)
            ∙ view.read
            ∙ ap (λ (b : Bool). collect_reads B.shown (cond b (desk_of B d) empty_desk)) hd in
            collect_reads_lem (all_screens H) A.shown B.shown (desk_of A d) (reads ∙ ap (collect_reads B.shown) (sym same))
            ∙ ap (collect (all_screens H) B.shown) same

        -- a swap that both states find to be a repeat, or both find to be a change
        swap_alike : (m d p v : ℕ) → SameView H A B (d sends Swap p v numbered m) → SwapAsked H A d p
            → let left = get_or A.held (p - 1) 0 in
            let right = get_or B.held (p - 1) 0 in
            left ≡ right → (b : Bool)
            → StepsAlike H (d sends Swap p v numbered m) (accept left (cond b A (change_position A d p v))) (accept right (cond b B (change_position B d p v)))
        swap_alike m d p v view asked old true = record { answer = accepted old; desk = view.desk; named = view.named }
        swap_alike m d p v view asked old false =
            let same = same_desk_lem d view.desk (range_holds d H.desks asked.desk) in
            record {
              answer = accepted old;
              desk = desk_stored d _ _ (set A.held (p - 1) v) (set B.held (p - 1) v) asked.desk (ap₂ owe same old);
              named = λ i. position_stored p v asked.position i ∷ [];
            }

        by_number_lem : (n m d : ℕ) (s : Step) → SameView H A B (d sends s numbered m) → first_no (questions limits H A (d sends s numbered m)) ≡ n
            → StepsAlike H (d sends s numbered m) (unmoved limits H A n d s) (unmoved limits H B n d s)
        by_number_lem zero m d (Take c p) view e =
            let asked = take-asked limits H A m d c p e in
            let session = same_position p (second_same view.named) (range_holds p H.positions asked.position) in
            record {
              answer = accepted session;
              desk = view.desk;
              named = λ i. screen_stored_alike d c _ _ asked.desk asked.screen session i ∷ second_same view.named i ∷ [];
            }
        by_number_lem zero m d (Drop c) view e =
            let asked = drop-asked limits H A m d c e in
            record {
              answer = accepted (same_screen d c (first_same view.named) (range_holds d H.desks asked.desk) (range_holds c H.screens asked.screen));
              desk = view.desk;
              named = λ i. screen_stored_alike d c 0 0 asked.desk asked.screen refl i ∷ [];
            }
        by_number_lem zero m d (Swap p v) view e =
            let asked = swap_asked limits H A m d p v e in
            let old = same_position p (first_same view.named) (range_holds p H.positions asked.position) in
            rw (ap (λ (session : ℕ). is_repeat session v) old) (swap_alike m d p v view asked old (is_repeat (get_or B.held (p - 1) 0) v))
        by_number_lem zero m d Retire view e =
            let hd = desk_asked limits H A (d sends Retire numbered m) e in
            let same = same_desk_lem d view.desk (range_holds d H.desks hd) in
            record { answer = accepted (ap (λ (D : Desk). D.owed) same); desk = desk_stored d _ _ A.held B.held hd (ap retire same); named = refl }
        by_number_lem zero m d Collect view e =
            let hd = desk_asked limits H A (d sends Collect numbered m) e in
            let same = collect_alike m d (range_holds d H.desks hd) view in
            record {
              answer = accepted (ap (λ (collected : Collected). collected.session) same);
              desk = desk_stored d _ _ A.held B.held hd (ap (λ (collected : Collected). collected.after) same);
              named = refl;
            }
        by_number_lem (suc n) m d s view e = record { answer = refl; desk = view.desk; named = view.named }

        -- the message number, which is in the desk's record, moves on in both
        named-moved : (st : State) (number : ℕ) (s : Step) → step_named_words H (with_next st call.desk number) call.desk s ≡ step_named_words H st call.desk s
        named-moved st number (Take c p) = refl
        named-moved st number (Drop c) = refl
        named-moved st number (Swap p v) = refl
        named-moved st number Retire = refl
        named-moved st number Collect = refl

        moved : (n : ℕ) → first_no (questions limits H A call) ≡ n → first_no (questions limits H B call) ≡ n
            → StepsAlike H call (unmoved limits H A n call.desk call.step) (unmoved limits H B n call.desk call.step)
            → StepsAlike H call (decide n A (perform H A call).session (perform H A call).after) (decide n B (perform H B call).session (perform H B call).after)
        moved zero e f alike =
            let d : ℕ = call.desk in
            let hd = range_holds d H.desks (desk_asked limits H A call e) in
            let there = desk_asked limits H A call e in
            let before = same_desk_lem d view.desk hd in
            let left : State = (perform_step H A d call.step).after in
            let right : State = (perform_step H B d call.step).after in
            let after : desk_of left d ≡ desk_of right d = cond_true_injective (in_range d H.desks) _ _ empty_desk hd alike.desk in
            record {
              answer = alike.answer;
              desk =
                  cond_cong (in_range d H.desks) _ _ empty_desk (λ h.
                  get_or-set_same left.desks (d - 1) (renumber (desk_of left d) (advance (desk_of A d).next)) empty_desk (omega (arith, (formed_performed limits H A formed_a call e).desks, there))
                  ∙ (λ i. renumber (after i) (advance (before i).next))
                  ∙ sym (get_or-set_same right.desks (d - 1) (renumber (desk_of right d) (advance (desk_of B d).next)) empty_desk (omega (arith, (formed_performed limits H B formed_b call f).desks, there))));
              named = named-moved left (advance (desk_of A d).next) call.step ∙ alike.named ∙ sym (named-moved right (advance (desk_of B d).next) call.step);
            }
        moved (suc n) e f alike = alike

        from : (n : ℕ) → first_no (questions limits H A call) ≡ n → first_no (questions limits H B call) ≡ n → StepsAlike H call (step limits H A call) (step limits H B call)
        from n e f = rw (e, f) (moved n e f (by_number_lem n call.message call.desk call.step view e))
