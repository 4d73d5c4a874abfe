-- "Words past the need are neither read nor written": a call on a table that is long enough for its hall, and anything behind it.
use Prim.Native.Nat.{ℕ, ◌+◌, ◌-◌, ◌≤◌, zero, suc, ◌*◌, ◌<◌}
use Rattle.std.proofs.Common.{arith, mul-le-mul_right, mul-le-mul, sym, ◌∙◌, length-append, length-drop, length-set, length-take-le, le-leb}
use Rattle.std.specs.Prelude.{◌≡◌, true, false, cond, ◌&&◌, length, take, get_or, drop, set, replicate}
use Rattle.std.proofs.Math.Path.{refl, ap}
use Rattle.std.proofs.Math.Bool.{Bool}
use mathlib.Core.List.{List, [], ◌∷◌, ◌++◌, map, append_assoc}
use Rattle.std.proofs.Math.ListN.{get_or-append}
use Rattle.std.proofs.lemmas.List.{set-append_left, take-append-le}
use Rattle.std.proofs.Math.Dec.{leb}
use Rattle.rules.specs.Hall.{Desk, Hall, Limits, State, all_screens, max_all_screens, max_desks}
use Rattle.rules.specs.Lists.{chunks, every}
use Rattle.rules.specs.Steps.{Call, Collect, Drop, Result, Retire, Step, Swap, Take, ◌numbered◌, ◌sends◌, accept, advance, collect, first_no, is_repeat, perform}
use Rattle.rules.specs.Steps.{questions, retire}
use Rattle.rules.specs.Table.{decode, decode_desk, encode_desk, hall_in, header_words, in_limits, max_words, need, next_word, open_questions, open_table, opened_table}
use Rattle.rules.specs.Table.{position_word, put_record, record_of, record_sound, record_start, record_width, records_in, screen_word, sound, step_table, table_after}
use Rattle.rules.specs.Table.{table_after_step, width_for}
use Rattle.rules.proofs.Laws.Desk.Encoding.{encoded_long}
use Rattle.rules.proofs.Laws.History.ScreenIndex.{screen_in}
use Rattle.rules.proofs.Laws.Lists.Bools.{cond_both}
use Rattle.rules.proofs.Laws.Table.EncodedStep.{Fits}
use Rattle.rules.proofs.Laws.Table.TableSteps.{accepted_open, accepted_step, asked, known, record_within, refused_open, refused_step, unsound-step}
use Rattle.rules.proofs.Laws.History.StepEffects.{IsDesk, SwapAsked, desk_asked, drop-asked, swap_asked, take-asked}

pub need_at_most : (H : Hall) → Fits H → need H ≤ max_words
need_at_most H o =
    let S≤ : all_screens H ≤ max_all_screens = mul-le-mul o.desks.1 o.screens.1 in
    let wide : record_width H ≤ width_for max_all_screens = omega arith in
    let all : H.desks * record_width H ≤ max_desks * width_for max_all_screens = mul-le-mul o.desks.1 wide in
    omega (arith, o.positions)

pub drop_append_left : (n : ℕ) (x b : List ℕ) → n ≤ length x → drop n (x ++ b) ≡ drop n x ++ b
drop_append_left zero x b h = refl
drop_append_left (suc n) [] b h = absurd (omega arith)
drop_append_left (suc n) (y ∷ x) b h = drop_append_left n x b (omega arith)

pub chunks-append : (n w : ℕ) (x b : List ℕ) → n * w ≤ length x → chunks n w (x ++ b) ≡ chunks n w x
chunks-append zero w x b h = refl
chunks-append (suc n) w x b h =
    λ i. take-append-le w x b (omega arith) i
    ∷ (ap (chunks n w) (drop_append_left w x b (omega arith)) ∙ chunks-append n w (drop w x) b (omega (arith, length-drop w x))) i

-- a table that is long enough is so with more behind it
long_before : (a b : List ℕ) (H : Hall) → need H ≤ length a → leb (need H) (length (a ++ b)) ≡ leb (need H) (length a)
long_before a b H far =
    le-leb (need H) (length (a ++ b)) (omega (arith, far, length-append a b)) ∙ sym (le-leb (need H) (length a) far)

-- what an accepted step writes, with the hall beside the table
abbrev after_in : Hall → List ℕ → ℕ → Step → List ℕ
after_in H t d (Take c p) = set t (screen_word H d c) (get_or t (position_word p) 0)
after_in H t d (Drop c) = set t (screen_word H d c) 0
after_in H t d (Swap p v) =
    let old = get_or t (position_word p) 0 in cond (is_repeat old v) t (set (set t (position_word p) v) (record_start H d) old)
after_in H t d Retire = put_record H t d (encode_desk (all_screens H) (retire (decode_desk (all_screens H) (record_of H t d))))
after_in H t d Collect =
    put_record H t d (encode_desk (all_screens H) (collect (all_screens H) (decode H t).shown (decode_desk (all_screens H) (record_of H t d))).after)

after_is_in : (t : List ℕ) (d : ℕ) (s : Step) → table_after_step t d s ≡ after_in (hall_in t) t d s
after_is_in t d (Take c p) = refl
after_is_in t d (Drop c) = refl
after_is_in t d (Swap p v) = refl
after_is_in t d Retire = refl
after_is_in t d Collect = refl

module _ (a b : List ℕ) (three : header_words ≤ length a) where
  pub hall_same : hall_in (a ++ b) ≡ hall_in a
  hall_same = λ i. record {
    desks = get_or-append a b 0 0 (omega arith) i;
    screens = get_or-append a b 0 1 (omega arith) i;
    positions = get_or-append a b 0 2 (omega arith) i;
  }

  module _ (H : Hall) (far : need H ≤ length a) where
    past_header : drop H.positions (drop header_words (a ++ b)) ≡ drop H.positions (drop header_words a) ++ b
    past_header =
        ap (drop H.positions) (drop_append_left header_words a b (omega (arith, far)))
        ∙ drop_append_left H.positions (drop header_words a) b (omega (arith, far, length-drop header_words a))

    records_same : records_in H (a ++ b) ≡ records_in H a
    records_same =
        let l1 = length-drop header_words a in
        let l2 = length-drop H.positions (drop header_words a) in
        ap (λ (x : List ℕ). chunks H.desks (record_width H) (drop (all_screens H) x)) past_header
        ∙ ap (chunks H.desks (record_width H)) (drop_append_left (all_screens H) (drop H.positions (drop header_words a)) b (omega (arith, far)))
        ∙ chunks-append H.desks (record_width H) (drop (all_screens H) (drop H.positions (drop header_words a))) b
        (omega (arith, far, length-drop (all_screens H) (drop H.positions (drop header_words a))))

    pub decode_same : decode H (a ++ b) ≡ decode H a
    decode_same =
        let l1 = length-drop header_words a in
        let l2 = length-drop H.positions (drop header_words a) in
        λ i. record {
          held =
              (ap (take H.positions) (drop_append_left header_words a b (omega (arith, far))) ∙ take-append-le H.positions (drop header_words a) b (omega (arith, far))) i;
          shown = (ap (take (all_screens H)) past_header ∙ take-append-le (all_screens H) (drop H.positions (drop header_words a)) b (omega (arith, far))) i;
          desks = map (decode_desk (all_screens H)) (records_same i);
        }

    -- the record of a desk of the hall
    module _ (d : ℕ) (r : (1 ≤ d) × (d ≤ H.desks)) where
      fits : record_start H d + record_width H ≤ length a
      fits =
          let m : suc (d - 1) * record_width H ≤ H.desks * record_width H = mul-le-mul_right (record_width H) (omega arith) in
          omega (arith, far)

      record_same : record_of H (a ++ b) d ≡ record_of H a d
      record_same =
          ap (take (record_width H)) (drop_append_left (record_start H d) a b (omega (arith, fits)))
          ∙ take-append-le (record_width H) (drop (record_start H d) a) b (omega (arith, fits, length-drop (record_start H d) a))

      put_same_rest : (words : List ℕ) → put_record H (a ++ b) d words ≡ put_record H a d words ++ b
      put_same_rest words =
          let s : ℕ = record_start H d in
          let w : ℕ = record_width H in
          (λ i. take-append-le s a b (omega (arith, fits)) i
          ++
          (words ++ (ap (drop w) (drop_append_left s a b (omega (arith, fits))) ∙ drop_append_left w (drop s a) b (omega (arith, fits, length-drop s a))) i))
          ∙ sym
          (append_assoc (take s a) (words ++ drop w (drop s a)) b ∙ ap (λ (l : List ℕ). take s a ++ l) (append_assoc words (drop w (drop s a)) b))

    word_same : (i : ℕ) → i < need H → get_or (a ++ b) i 0 ≡ get_or a i 0
    word_same i h = get_or-append a b 0 i (omega (arith, far))

    set_same : (t : List ℕ) (i v : ℕ) → length t ≡ length a → i < need H → set (t ++ b) i v ≡ set t i v ++ b
    set_same t i v l h = set-append_left t b i v (omega (arith, far))

    after_before : (limits : Limits) (st : State) (m d : ℕ) (s : Step) → first_no (questions limits H st (d sends s numbered m)) ≡ 0 → after_in H (a ++ b) d s ≡ after_in H a d s ++ b
    after_before limits st m d (Take c p) e =
        let f = take-asked limits H st m d c p e in
        let screen = screen_in H d c f.desk.0 f.desk.1 f.screen.0 f.screen.1 in
        ap (set (a ++ b) (screen_word H d c)) (word_same (position_word p) (omega (arith, f.position)))
        ∙ set_same a (screen_word H d c) (get_or a (position_word p) 0) refl (omega arith)
    after_before limits st m d (Drop c) e =
        let f = drop-asked limits H st m d c e in
        let screen = screen_in H d c f.desk.0 f.desk.1 f.screen.0 f.screen.1 in
        set_same a (screen_word H d c) 0 refl (omega arith)
    after_before limits st m d (Swap p v) e =
        let f = swap_asked limits H st m d p v e in
        rw (word_same (position_word p) (omega (arith, f.position))) (by_repeat f (is_repeat (get_or a (position_word p) 0) v))
      where
        by_repeat : SwapAsked H st d p → (r : Bool)
            → let old = get_or a (position_word p) 0 in
            cond r (a ++ b) (set (set (a ++ b) (position_word p) v) (record_start H d) old) ≡ cond r a (set (set a (position_word p) v) (record_start H d) old) ++ b
        by_repeat f true = refl
        by_repeat f false =
            let room = fits d f.desk in
            let m : suc (d - 1) * record_width H ≤ H.desks * record_width H = mul-le-mul_right (record_width H) (omega (arith, f.desk)) in
            (λ i. set (set_same a (position_word p) v refl (omega (arith, f.position)) i) (record_start H d) (get_or a (position_word p) 0))
            ∙ set_same (set a (position_word p) v) (record_start H d) (get_or a (position_word p) 0) (length-set a (position_word p) v) (omega (arith, f.desk))
    after_before limits st m d Retire e =
        let r = desk_asked limits H st (d sends Retire numbered m) e in
        ap (λ (words : List ℕ). put_record H (a ++ b) d (encode_desk (all_screens H) (retire (decode_desk (all_screens H) words)))) (record_same d r)
        ∙ put_same_rest d r (encode_desk (all_screens H) (retire (decode_desk (all_screens H) (record_of H a d))))
    after_before limits st m d Collect e =
        let r = desk_asked limits H st (d sends Collect numbered m) e in
        (λ i. put_record H (a ++ b) d (encode_desk (all_screens H) (collect (all_screens H) (decode_same i).shown (decode_desk (all_screens H) (record_same d r i))).after))
        ∙ put_same_rest d r (encode_desk (all_screens H) (collect (all_screens H) (decode H a).shown (decode_desk (all_screens H) (record_of H a d))).after)

    -- the message number stands within what an accepted step leaves
    number_within : (limits : Limits) (st : State) (m d : ℕ) (s : Step) → first_no (questions limits H st (d sends s numbered m)) ≡ 0
        → next_word H d < length (after_in H a d s)
    number_within limits st m d s e = at s
      where
        r : IsDesk H d
        r = desk_asked limits H st (d sends s numbered m) e

        stored : (i v : ℕ) → next_word H d < length (set a i v)
        stored i v = omega (arith, fits d r, length-set a i v)

        put : (D : Desk) → next_word H d < length (put_record H a d (encode_desk (all_screens H) D))
        put D =
            let words : List ℕ = encode_desk (all_screens H) D in
            let start : ℕ = record_start H d in
            omega (
              arith,
              fits d r,
              length-append (take start a) (words ++ drop (record_width H) (drop start a)),
              length-append words (drop (record_width H) (drop start a)),
              length-take-le start a (omega (arith, fits d r)),
              encoded_long (all_screens H) D,
            )

        at : (s : Step) → next_word H d < length (after_in H a d s)
        at (Take c p) = stored (screen_word H d c) (get_or a (position_word p) 0)
        at (Drop c) = stored (screen_word H d c) 0
        at (Swap p v) =
            let old = get_or a (position_word p) 0 in
            cond_both (λ (words : List ℕ). next_word H d < length words) (is_repeat old v) (omega (arith, fits d r))
            (omega (arith, fits d r, length-set (set a (position_word p) v) (record_start H d) old, length-set a (position_word p) v))
        at Retire = put (retire (decode_desk (all_screens H) (record_of H a d)))
        at Collect = put (collect (all_screens H) (decode H a).shown (decode_desk (all_screens H) (record_of H a d))).after

-- ---- Soundness does not look past the need.
module _ (limits : Limits) (a b : List ℕ) (three : header_words ≤ length a) (enough : in_limits limits (hall_in a) ≡ true → need (hall_in a) ≤ length a) where
  sound_same : sound limits (a ++ b) ≡ sound limits a
  unfolding sound
  sound_same = ap (λ (H : Hall). in_limits limits H && asks H (a ++ b)) (hall_same a b three) ∙ by_range (in_limits limits (hall_in a)) refl
    where
      asks : Hall → List ℕ → Bool
      asks H t = leb (need H) (length t) && every (record_sound (all_screens H)) (records_in H t)

      by_range : (x : Bool) → in_limits limits (hall_in a) ≡ x → x && asks (hall_in a) (a ++ b) ≡ x && asks (hall_in a) a
      by_range true inside =
          let far = enough inside in
          λ i. long_before a b (hall_in a) far i && every (record_sound (all_screens (hall_in a))) (records_same a b three (hall_in a) far i)
      by_range false inside = refl

  -- ---- A step.
  pub step-append : (c : Call) → step_table limits (a ++ b) c ≡ record { answer = (step_table limits a c).answer; after = (step_table limits a c).after ++ b }
  step-append c = by_sound (sound limits a) refl
    where
      followed : Result (List ℕ) → Result (List ℕ)
      followed r = record { answer = r.answer; after = r.after ++ b }

      by_sound : (x : Bool) → sound limits a ≡ x → step_table limits (a ++ b) c ≡ followed (step_table limits a c)
      by_sound false s = unsound-step limits (a ++ b) c (sound_same ∙ s) ∙ sym (ap followed (unsound-step limits a c s))
      by_sound true s = by_number_lem (asked limits a c) refl
        where
          far : need (hall_in a) ≤ length a
          far = (known limits a s).long

          -- the questions and the reply are those at the same state
          outcome_same : (perform (hall_in (a ++ b)) (decode (hall_in (a ++ b)) (a ++ b)) c).session ≡ (perform (hall_in a) (decode (hall_in a) a) c).session
          outcome_same =
              ap (λ (H : Hall). (perform H (decode H (a ++ b)) c).session) (hall_same a b three)
              ∙ ap (λ (st : State). (perform (hall_in a) st c).session) (decode_same a b three (hall_in a) far)

          asked_same : asked limits (a ++ b) c ≡ asked limits a c
          asked_same =
              ap (λ (H : Hall). first_no (questions limits H (decode H (a ++ b)) c)) (hall_same a b three)
              ∙ ap (λ (st : State). first_no (questions limits (hall_in a) st c)) (decode_same a b three (hall_in a) far)

          after_same : asked limits a c ≡ 0 → table_after (a ++ b) c ≡ table_after a c ++ b
          after_same q =
              let H : Hall = hall_in a in
              let d : ℕ = c.desk in
              let number : ℕ = next_word H d in
              let r = desk_asked limits H (decode H a) c q in
              (λ i. set (after_is_in (a ++ b) d c.step i) (next_word (hall_in (a ++ b)) d) (advance (get_or (a ++ b) (next_word (hall_in (a ++ b)) d) 0)))
              ∙ ap (λ (G : Hall). set (after_in G (a ++ b) d c.step) (next_word G d) (advance (get_or (a ++ b) (next_word G d) 0))) (hall_same a b three)
              ∙ (λ i. set (after_before a b three H far limits (decode H a) c.message d c.step q i) number (advance (word_same a b three H far number (omega (arith, record_within H d r.0 r.1)) i)))
              ∙ set-append_left (after_in H a d c.step) b number (advance (get_or a number 0)) (number_within a b three H far limits (decode H a) c.message d c.step q)
              ∙ (λ i. set (sym (after_is_in a d c.step) i) number (advance (get_or a number 0)) ++ b)

          by_number_lem : (n : ℕ) → asked limits a c ≡ n → step_table limits (a ++ b) c ≡ followed (step_table limits a c)
          by_number_lem zero q =
              accepted_step limits (a ++ b) c (sound_same ∙ s) (asked_same ∙ q)
              ∙ (λ i. accept (outcome_same i) (after_same q i))
              ∙ sym (ap followed (accepted_step limits a c s q))
          by_number_lem (suc n) q =
              refused_step limits (a ++ b) c n (sound_same ∙ s) (asked_same ∙ q) ∙ sym (ap followed (refused_step limits a c n s q))

-- ---- The opening.
module _ (limits : Limits) (H : Hall) (a b : List ℕ) (far : need H ≤ length a) where
  pub open_append : open_table limits H (a ++ b) ≡ record { answer = (open_table limits H a).answer; after = (open_table limits H a).after ++ b }
  open_append = by_number_lem (first_no (open_questions limits H a)) refl
    where
      followed : Result (List ℕ) → Result (List ℕ)
      followed r = record { answer = r.answer; after = r.after ++ b }

      same : first_no (open_questions limits H (a ++ b)) ≡ first_no (open_questions limits H a)
      same = rw (long_before a b H far)

      opened-append : opened_table H (a ++ b) ≡ opened_table H a ++ b
      opened-append =
          let front : List ℕ = H.desks ∷ H.screens ∷ H.positions ∷ replicate (need H - header_words) 0 in
          ap (λ (l : List ℕ). front ++ l) (drop_append_left (need H) a b far) ∙ sym (append_assoc front (drop (need H) a) b)

      by_number_lem : (n : ℕ) → first_no (open_questions limits H a) ≡ n → open_table limits H (a ++ b) ≡ followed (open_table limits H a)
      by_number_lem zero q =
          accepted_open limits H (a ++ b) (same ∙ q)
          ∙ (λ i. accept 0 (opened-append i))
          ∙ sym (ap followed (accepted_open limits H a q))
      by_number_lem (suc n) q = refused_open limits H (a ++ b) n (same ∙ q) ∙ sym (ap followed (refused_open limits H a n q))
