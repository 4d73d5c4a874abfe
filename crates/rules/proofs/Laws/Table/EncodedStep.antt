-- A step on the table of a state is the step of the rules on that state.
use Prim.Native.Nat.{ℕ, zero, suc, ◌+◌, ◌*◌, ◌-◌, ◌≤◌, ◌<◌}
use native.Mathlib.Omega.{arith}
use Rattle.std.proofs.Common.{mul-pos, mul-le-mul, ap₂, ◌∙◌, subst, take_at, drop_at, le-leb, leb-true}
use Rattle.std.specs.Prelude.{◌≡◌, Bool, ◌&&◌, take, drop, leb}
use Rattle.std.proofs.Math.Path.{refl, sym, ap}
use Rattle.std.proofs.Math.Bool.{true, false, cond}
use mathlib.Core.List.{List, [], ◌∷◌, ◌++◌, map, append_assoc}
use Rattle.std.proofs.Math.ListN.{length, get_or, set, replicate, length-append, length-set, replicate-append-replicate}
use Rattle.rules.specs.Hall.{Desk, Formed, Hall, Limits, State, all_screens, desk_of, empty_desk, fresh, max_all_screens, max_desks, max_positions, max_screens}
use Rattle.rules.specs.Hall.{screen_index, used_slots, with_desk, with_held, with_shown}
use Rattle.rules.specs.Lists.{chunks, concat, every}
use Rattle.rules.specs.Steps.{Call, Collect, Drop, Event, Result, Retire, Step, Swap, Take, ◌numbered◌, ◌sends◌, accept, advance, change_position, collect, decide}
use Rattle.rules.specs.Steps.{end, first_no, in_range, is_repeat, owe, perform, perform_step, questions, renumber, retire, run, step, with_next}
use Rattle.rules.specs.Table.{decode, decode_desk, encode, encode_desk, encode_tail, header_words, in_hall, in_limits, list_offset, need, next_word, open_questions}
use Rattle.rules.specs.Table.{opened_table, position_word, put_record, record_of, record_sound, record_start, record_width, records_in, screen_word, slots_for, sound, step_if}
use Rattle.rules.specs.Table.{step_table, table_after, table_after_step, tail_offset, tail_words, within}
use Rattle.rules.proofs.Laws.Desk.Encoding.{desk_read_back, length-slots_for, length_tail, number_stored, tail_word}
use Rattle.rules.proofs.Laws.Desk.Sound.{Sound, collect-sound, encoded_sound, retire-sound, sound_owe, sound_renumbered}
use Rattle.rules.proofs.Laws.History.InitialState.{fresh_formed}
use Rattle.rules.proofs.Laws.History.ScreenIndex.{screen_in}
use Rattle.rules.proofs.Laws.History.StepEffects.{IsDesk, SwapAsked, action_change, action_in, desk_asked, drop-asked, formed_action, formed_numbered, holds, in_range_lem, retire-asked}
use Rattle.rules.proofs.Laws.History.StepEffects.{swap_asked, take-asked, unmoved}
use Rattle.rules.proofs.Laws.Lists.Bools.{and_left, and_right, and-true, cond_both}
use Rattle.rules.proofs.Laws.Lists.ListSlices.{get_mid, put_mid_lem, set_mid, take_mid}

-- A hall that the table has room for.
pub record Fits (H : Hall) : Type 0 where
  pub desks : (1 ≤ H.desks) × (H.desks ≤ max_desks)
  pub screens : (1 ≤ H.screens) × (H.screens ≤ max_screens)
  pub positions : (1 ≤ H.positions) × (H.positions ≤ max_positions)

-- one whose numbers are in range is one, and so is one within the limits of a room
pub hall_fits : (H : Hall) → in_hall H ≡ true → Fits H
hall_fits H in_hall_lem =
    let desks = in_range H.desks max_desks in
    let screens = in_range H.screens max_screens in
    let positions = in_range H.positions max_positions in
    let later = and_right desks (screens && positions) in_hall_lem in
    record {
      desks = in_range_lem H.desks max_desks (and_left desks (screens && positions) in_hall_lem);
      screens = in_range_lem H.screens max_screens (and_left screens positions later);
      positions = in_range_lem H.positions max_positions (and_right screens positions later);
    }

pub limits_fit : (limits : Limits) (H : Hall) → in_limits limits H ≡ true → Fits H
limits_fit limits H inside = hall_fits H (and_left (in_hall H) (within limits H) inside)

abbrev pub All : (Desk → Type 0) → List Desk → Type 0
All P [] = Unit {0}
All P (x ∷ xs) = P x × All P xs

pub all_get : (P : Desk → Type 0) (xs : List Desk) (i : ℕ) (z : Desk) → P z → All P xs → P (get_or xs i z)
all_get P [] i z pz h = pz
all_get P (x ∷ xs) zero z pz h = h.0
all_get P (x ∷ xs) (suc i) z pz h = all_get P xs i z pz h.1

all_set : (P : Desk → Type 0) (xs : List Desk) (i : ℕ) (y : Desk) → P y → All P xs → All P (set xs i y)
all_set P [] i y py h = tt
all_set P (x ∷ xs) zero y py h = (py, h.1)
all_set P (x ∷ xs) (suc i) y py h = (h.0, all_set P xs i y py h.1)

all_replicate : (P : Desk → Type 0) (n : ℕ) (y : Desk) → P y → All P (replicate n y)
all_replicate P zero y py = tt
all_replicate P (suc n) y py = (py, all_replicate P n y py)

pub record Valid (H : Hall) (st : State) : Type 0 where
  pub formed : Formed H st
  pub desks : All (Sound (all_screens H)) st.desks

pub empty_desk-sound : (S : ℕ) → Sound S empty_desk
empty_desk-sound S = record { total = omega arith; real = refl; pass = refl }

module _ (H : Hall) (fits : Fits H) where
  pub some_screens : 1 ≤ all_screens H
  some_screens = mul-pos fits.desks.0 fits.screens.0

  bounded : all_screens H ≤ max_all_screens
  bounded = mul-le-mul fits.desks.1 fits.screens.1

  -- after a call, but for the message number
  valid_unmoved : (limits : Limits) (st : State) (c : Call) → Valid H st → Valid H (unmoved limits H st (first_no (questions limits H st c)) c.desk c.step).after
  valid_unmoved limits st c v = record {
    formed = formed_action limits H st v.formed c.desk (action_in limits H st c) _ (action_change limits H st c);
    desks = desks_sound (first_no (questions limits H st c)) c.message c.desk c.step refl;
  }
    where
      desk_sound : (d : ℕ) → Sound (all_screens H) (desk_of st d)
      desk_sound d = all_get (Sound (all_screens H)) st.desks (d - 1) empty_desk (empty_desk-sound (all_screens H)) v.desks

      stored : (d : ℕ) (new : Desk) → Sound (all_screens H) new → All (Sound (all_screens H)) (set st.desks (d - 1) new)
      stored d new ok = all_set (Sound (all_screens H)) st.desks (d - 1) new ok v.desks

      desks_sound : (n m d : ℕ) (s : Step) → first_no (questions limits H st (d sends s numbered m)) ≡ n → All (Sound (all_screens H)) (unmoved limits H st n d s).after.desks
      desks_sound zero m d (Take c p) e = v.desks
      desks_sound zero m d (Drop c) e = v.desks
      desks_sound zero m d (Swap p w) e =
          let old = get_or st.held (p - 1) 0 in
          cond_both (λ (after : State). All (Sound (all_screens H)) after.desks) (is_repeat old w) v.desks
          (stored d _ (sound_owe (all_screens H) old (desk_of st d) (desk_sound d)))
      desks_sound zero m d Retire e =
          let asked = retire-asked limits H st m d e in
          stored d _ (retire-sound (all_screens H) (desk_of st d) asked.owes asked.room (desk_sound d))
      desks_sound zero m d Collect e =
          stored d _ (collect-sound (all_screens H) st.shown (desk_of st d) some_screens v.formed.screens (desk_sound d))
      desks_sound (suc n) m d s e = v.desks

  valid_numbered : (st : State) (d number : ℕ) → Valid H st → Valid H (with_next st d number)
  valid_numbered st d number v = record {
    formed = formed_numbered H st d number v.formed;
    desks =
        let desk = all_get (Sound (all_screens H)) st.desks (d - 1) empty_desk (empty_desk-sound (all_screens H)) v.desks in
        all_set (Sound (all_screens H)) st.desks (d - 1) _ (sound_renumbered (all_screens H) number (desk_of st d) desk) v.desks;
  }

  pub valid_step : (limits : Limits) (st : State) (c : Call) → Valid H st → Valid H (step limits H st c).after
  valid_step limits st c v = by_number_lem (first_no (questions limits H st c)) (valid_unmoved limits st c v)
    where
      by_number_lem : (n : ℕ) → Valid H (unmoved limits H st n c.desk c.step).after → Valid H (decide n st (perform H st c).session (perform H st c).after).after
      by_number_lem zero after = valid_numbered _ c.desk (advance (desk_of st c.desk).next) after
      by_number_lem (suc n) after = after

  pub length_encoded : (D : Desk) → Sound (all_screens H) D → length (encode_desk (all_screens H) D) ≡ record_width H
  unfolding encode_desk
  length_encoded D s =
      omega (
        arith,
        length-append (slots_for (all_screens H) D) (encode_tail D),
        length-slots_for (all_screens H) D s.total,
        length_tail D,
      )

  -- the records, one after the other
  records_flat : (ds : List Desk) (rest : List ℕ) → All (Sound (all_screens H)) ds
      → chunks (length ds) (record_width H) (concat (map (encode_desk (all_screens H)) ds) ++ rest) ≡ map (encode_desk (all_screens H)) ds
  records_flat [] rest h = refl
  records_flat (D ∷ ds) rest h =
      let q = append_assoc (encode_desk (all_screens H) D) (concat (map (encode_desk (all_screens H)) ds)) rest in
      λ i. (ap (take (record_width H)) q ∙ take_at (encode_desk (all_screens H) D) (concat (map (encode_desk (all_screens H)) ds) ++ rest) (record_width H) (length_encoded D h.0)) i ∷ (ap (λ (l : List ℕ). chunks (length ds) (record_width H) (drop (record_width H) l)) q ∙ ap (chunks (length ds) (record_width H)) (drop_at (encode_desk (all_screens H) D) (concat (map (encode_desk (all_screens H)) ds) ++ rest) (record_width H) (length_encoded D h.0)) ∙ records_flat ds rest h.1) i

  length_flat : (ds : List Desk) → All (Sound (all_screens H)) ds → length (concat (map (encode_desk (all_screens H)) ds)) ≡ length ds * record_width H
  length_flat [] h = omega arith
  length_flat (D ∷ ds) h =
      omega
      (arith, length-append (encode_desk (all_screens H) D) (concat (map (encode_desk (all_screens H)) ds)), length_encoded D h.0, length_flat ds h.1)

  desks_code : (ds : List Desk) → All (Sound (all_screens H)) ds → map (decode_desk (all_screens H)) (map (encode_desk (all_screens H)) ds) ≡ ds
  desks_code [] h = refl
  desks_code (D ∷ ds) h = λ i. desk_read_back (all_screens H) D h.0.total (omega (arith, h.0.total, bounded)) i ∷ desks_code ds h.1 i

  all_sound : (ds : List Desk) → All (Sound (all_screens H)) ds → every (record_sound (all_screens H)) (map (encode_desk (all_screens H)) ds) ≡ true
  all_sound [] h = refl
  all_sound (D ∷ ds) h =
      and-true (record_sound (all_screens H) (encode_desk (all_screens H) D))
      (every (record_sound (all_screens H)) (map (encode_desk (all_screens H)) ds)) (encoded_sound (all_screens H) D bounded h.0)
      (all_sound ds h.1)

  -- the records before desk i, from 0, its own, and those after it
  record Cut (ds : List Desk) (i : ℕ) : Type 0 where
    front : List ℕ
    back : List ℕ
    starts : length front ≡ i * record_width H
    total : used_slots (get_or ds i empty_desk) ≤ 2 * all_screens H
    wide : length (encode_desk (all_screens H) (get_or ds i empty_desk)) ≡ record_width H
    is : concat (map (encode_desk (all_screens H)) ds) ≡ front ++ (encode_desk (all_screens H) (get_or ds i empty_desk) ++ back)
    put : (x : Desk) → concat (map (encode_desk (all_screens H)) (set ds i x)) ≡ front ++ (encode_desk (all_screens H) x ++ back)

  cut : (ds : List Desk) (i : ℕ) → All (Sound (all_screens H)) ds → i < length ds → Cut ds i
  cut [] i h l = absurd (omega arith)
  cut (D ∷ ds) zero h l = record {
    front = [];
    back = concat (map (encode_desk (all_screens H)) ds);
    starts = omega arith;
    total = h.0.total;
    wide = length_encoded D h.0;
    is = refl;
    put = λ x. refl;
  }
  cut (D ∷ ds) (suc i) h l =
      let c = cut ds i h.1 (omega arith) in
      record {
        front = encode_desk (all_screens H) D ++ c.front;
        back = c.back;
        starts = omega (arith, length-append (encode_desk (all_screens H) D) c.front, length_encoded D h.0, c.starts);
        total = c.total;
        wide = c.wide;
        is =
            ap (λ (y : List ℕ). encode_desk (all_screens H) D ++ y) c.is
            ∙ sym (append_assoc (encode_desk (all_screens H) D) c.front (encode_desk (all_screens H) (get_or ds i empty_desk) ++ c.back));
        put =
            λ x. ap (λ (y : List ℕ). encode_desk (all_screens H) D ++ y) (c.put x)
            ∙ sym (append_assoc (encode_desk (all_screens H) D) c.front (encode_desk (all_screens H) x ++ c.back));
      }

  module _ (st : State) (v : Valid H st) (rest : List ℕ) where
    past_held : drop H.positions ((st.held ++ (st.shown ++ concat (map (encode_desk (all_screens H)) st.desks))) ++ rest) ≡ st.shown ++ (concat (map (encode_desk (all_screens H)) st.desks) ++ rest)
    past_held =
        ap (drop H.positions) (append_assoc st.held (st.shown ++ concat (map (encode_desk (all_screens H)) st.desks)) rest)
        ∙ drop_at st.held ((st.shown ++ concat (map (encode_desk (all_screens H)) st.desks)) ++ rest) H.positions v.formed.positions
        ∙ append_assoc st.shown (concat (map (encode_desk (all_screens H)) st.desks)) rest

    held_of_encode : take H.positions ((st.held ++ (st.shown ++ concat (map (encode_desk (all_screens H)) st.desks))) ++ rest) ≡ st.held
    held_of_encode =
        ap (take H.positions) (append_assoc st.held (st.shown ++ concat (map (encode_desk (all_screens H)) st.desks)) rest)
        ∙ take_at st.held ((st.shown ++ concat (map (encode_desk (all_screens H)) st.desks)) ++ rest) H.positions v.formed.positions

    pub records_of-encode : records_in H (encode H st ++ rest) ≡ map (encode_desk (all_screens H)) st.desks
    records_of-encode =
        ap (λ (l : List ℕ). chunks H.desks (record_width H) (drop (all_screens H) l)) past_held
        ∙ ap (chunks H.desks (record_width H))
        (drop_at st.shown (concat (map (encode_desk (all_screens H)) st.desks) ++ rest) (all_screens H) v.formed.screens)
        ∙ ap (λ (n : ℕ). chunks n (record_width H) (concat (map (encode_desk (all_screens H)) st.desks) ++ rest)) (sym v.formed.desks)
        ∙ records_flat st.desks rest v.desks

    pub decode-encode : decode H (encode H st ++ rest) ≡ st
    decode-encode =
        λ i. record { held = held_of_encode i; shown = (ap (take (all_screens H)) past_held ∙ take_at st.shown (concat (map (encode_desk (all_screens H)) st.desks) ++ rest) (all_screens H) v.formed.screens) i; desks = (ap (map (decode_desk (all_screens H))) records_of-encode ∙ desks_code st.desks v.desks) i }

    pub length-table : length (encode H st) ≡ need H
    length-table =
        omega
        (arith, length-append st.held (st.shown ++ concat (map (encode_desk (all_screens H)) st.desks)), length-append st.shown (concat (map (encode_desk (all_screens H)) st.desks)), length_flat st.desks v.desks, v.formed.positions, v.formed.screens, ap (λ (n : ℕ). n * record_width H) v.formed.desks)

    -- the table in three parts, with the positions, the screens or one record in the middle
    as_held : (h s f : List ℕ)
        → (H.desks ∷ H.screens ∷ H.positions ∷ (h ++ (s ++ f))) ++ rest ≡ (H.desks ∷ H.screens ∷ H.positions ∷ []) ++ (h ++ ((s ++ f) ++ rest))
    as_held h s f = ap (λ (l : List ℕ). H.desks ∷ H.screens ∷ H.positions ∷ l) (append_assoc h (s ++ f) rest)

    as_shown : (h s f : List ℕ)
        → (H.desks ∷ H.screens ∷ H.positions ∷ (h ++ (s ++ f))) ++ rest ≡ (H.desks ∷ H.screens ∷ H.positions ∷ h) ++ (s ++ (f ++ rest))
    as_shown h s f = as_held h s f ∙ ap (λ (l : List ℕ). H.desks ∷ H.screens ∷ H.positions ∷ (h ++ l)) (append_assoc s f rest)

    as_record : (h s a m b f : List ℕ) → f ≡ a ++ (m ++ b)
        → (H.desks ∷ H.screens ∷ H.positions ∷ (h ++ (s ++ f))) ++ rest ≡ (H.desks ∷ H.screens ∷ H.positions ∷ (h ++ (s ++ a))) ++ (m ++ (b ++ rest))
    as_record h s a m b f e =
        ap (λ (x : List ℕ). (H.desks ∷ H.screens ∷ H.positions ∷ (h ++ (s ++ x))) ++ rest) e
        ∙ ap (λ (l : List ℕ). H.desks ∷ H.screens ∷ H.positions ∷ l) (simp append_assoc)

    at_desk : (d : ℕ) → IsDesk H d → Cut st.desks (d - 1)
    at_desk d r = cut st.desks (d - 1) v.desks (omega (arith, v.formed.desks))

    -- one record replaced
    put_record_is : (d : ℕ) (x : Desk) → Cut st.desks (d - 1)
        → put_record H (encode H st ++ rest) d (encode_desk (all_screens H) x) ≡ encode H (with_desk st d x) ++ rest
    put_record_is d x c =
        let a : List ℕ = H.desks ∷ H.screens ∷ H.positions ∷ (st.held ++ (st.shown ++ c.front)) in
        let n : length a ≡ record_start H d =
        omega
        (arith, length-append st.held (st.shown ++ c.front), length-append st.shown c.front, v.formed.positions, v.formed.screens, c.starts) in
        let q =
        as_record st.held st.shown c.front (encode_desk (all_screens H) (desk_of st d)) c.back
        (concat (map (encode_desk (all_screens H)) st.desks)) c.is in
        ap (λ (t : List ℕ). put_record H t d (encode_desk (all_screens H) x)) q
        ∙ put_mid_lem a (encode_desk (all_screens H) (desk_of st d)) (c.back ++ rest) (record_start H d) n (record_width H) (encode_desk (all_screens H) x)
        c.wide
        ∙ sym
        (as_record st.held st.shown c.front (encode_desk (all_screens H) x) c.back (concat (map (encode_desk (all_screens H)) (set st.desks (d - 1) x))) (c.put x))

    -- one record read
    record_of-encode : (d : ℕ) → Cut st.desks (d - 1) → record_of H (encode H st ++ rest) d ≡ encode_desk (all_screens H) (desk_of st d)
    record_of-encode d c =
        let a : List ℕ = H.desks ∷ H.screens ∷ H.positions ∷ (st.held ++ (st.shown ++ c.front)) in
        let n : length a ≡ record_start H d =
        omega
        (arith, length-append st.held (st.shown ++ c.front), length-append st.shown c.front, v.formed.positions, v.formed.screens, c.starts) in
        let q =
        as_record st.held st.shown c.front (encode_desk (all_screens H) (desk_of st d)) c.back
        (concat (map (encode_desk (all_screens H)) st.desks)) c.is in
        ap (λ (t : List ℕ). record_of H t d) q
        ∙ take_mid a (encode_desk (all_screens H) (desk_of st d)) (c.back ++ rest) (record_start H d) n (record_width H) c.wide

    record_decoded : (d : ℕ) → Cut st.desks (d - 1) → decode_desk (all_screens H) (record_of H (encode H st ++ rest) d) ≡ desk_of st d
    record_decoded d c =
        ap (decode_desk (all_screens H)) (record_of-encode d c)
        ∙ desk_read_back (all_screens H) (desk_of st d) c.total (omega (arith, c.total, bounded))

    -- the record of a desk of the hall
    pub desk_record : (d : ℕ) → IsDesk H d → record_of H (encode H st ++ rest) d ≡ encode_desk (all_screens H) (desk_of st d)
    desk_record d r = record_of-encode d (at_desk d r)

    -- a position and a screen read, and written
    pub position_word_is : (p : ℕ) → 1 ≤ p → p ≤ H.positions → get_or (encode H st ++ rest) (position_word p) 0 ≡ get_or st.held (p - 1) 0
    position_word_is p l m =
        ap (λ (t : List ℕ). get_or t (header_words + (p - 1)) 0) (as_held st.held st.shown (concat (map (encode_desk (all_screens H)) st.desks)))
        ∙ get_mid (H.desks ∷ H.screens ∷ H.positions ∷ []) st.held
        ((st.shown ++ concat (map (encode_desk (all_screens H)) st.desks)) ++ rest) header_words refl (p - 1) (omega (arith, v.formed.positions))

    pub screen_word_is : (d c : ℕ) → (1 ≤ d) × (d ≤ H.desks) → (1 ≤ c) × (c ≤ H.screens)
        → get_or (encode H st ++ rest) (screen_word H d c) 0 ≡ get_or st.shown (screen_index H d c) 0
    screen_word_is d c i j =
        let f = concat (map (encode_desk (all_screens H)) st.desks) in
        let n : length (H.desks ∷ H.screens ∷ H.positions ∷ st.held) ≡ header_words + H.positions = omega (arith, v.formed.positions) in
        ap (λ (t : List ℕ). get_or t (screen_word H d c) 0) (as_shown st.held st.shown f)
        ∙ get_mid (H.desks ∷ H.screens ∷ H.positions ∷ st.held) st.shown (f ++ rest) (header_words + H.positions) n (screen_index H d c)
        (omega (arith, v.formed.screens, screen_in H d c i.0 i.1 j.0 j.1))

    position_written : (p w : ℕ) → 1 ≤ p → p ≤ H.positions → set (encode H st ++ rest) (position_word p) w ≡ encode H (with_held st (p - 1) w) ++ rest
    position_written p w l m =
        let f = concat (map (encode_desk (all_screens H)) st.desks) in
        ap (λ (t : List ℕ). set t (header_words + (p - 1)) w) (as_held st.held st.shown f)
        ∙ set_mid (H.desks ∷ H.screens ∷ H.positions ∷ []) st.held ((st.shown ++ f) ++ rest) header_words refl (p - 1) w (omega (arith, v.formed.positions))
        ∙ sym (as_held (set st.held (p - 1) w) st.shown f)

    screen_written : (d c w : ℕ) → (1 ≤ d) × (d ≤ H.desks) → (1 ≤ c) × (c ≤ H.screens)
        → set (encode H st ++ rest) (screen_word H d c) w ≡ encode H (with_shown st (screen_index H d c) w) ++ rest
    screen_written d c w i j =
        let f = concat (map (encode_desk (all_screens H)) st.desks) in
        let n : length (H.desks ∷ H.screens ∷ H.positions ∷ st.held) ≡ header_words + H.positions = omega (arith, v.formed.positions) in
        ap (λ (t : List ℕ). set t (screen_word H d c) w) (as_shown st.held st.shown f)
        ∙ set_mid (H.desks ∷ H.screens ∷ H.positions ∷ st.held) st.shown (f ++ rest) (header_words + H.positions) n (screen_index H d c) w
        (omega (arith, v.formed.screens, screen_in H d c i.0 i.1 j.0 j.1))
        ∙ sym (as_shown st.held (set st.shown (screen_index H d c) w) f)

    -- a next message number read, and written
    pub number_word_is : (d : ℕ) → IsDesk H d → get_or (encode H st ++ rest) (next_word H d) 0 ≡ (desk_of st d).next
    number_word_is d r =
        let S : ℕ = all_screens H in
        let c = at_desk d r in
        let a : List ℕ = H.desks ∷ H.screens ∷ H.positions ∷ (st.held ++ (st.shown ++ c.front)) in
        let n : length a ≡ record_start H d =
        omega
        (arith, length-append st.held (st.shown ++ c.front), length-append st.shown c.front, v.formed.positions, v.formed.screens, c.starts) in
        let first : tail_offset S - tail_offset S ≡ 0 = omega arith in
        ap (λ (t : List ℕ). get_or t (next_word H d) 0)
        (as_record st.held st.shown c.front (encode_desk S (desk_of st d)) c.back (concat (map (encode_desk S) st.desks)) c.is)
        ∙ get_mid a (encode_desk S (desk_of st d)) (c.back ++ rest) (record_start H d) n (tail_offset S) (omega (arith, c.wide))
        ∙ tail_word S (desk_of st d) c.total (tail_offset S) (omega arith)
        ∙ ap (λ (i : ℕ). get_or (encode_tail (desk_of st d)) i 0) first

    number_written : (d number : ℕ) → IsDesk H d → set (encode H st ++ rest) (next_word H d) number ≡ encode H (with_next st d number) ++ rest
    number_written d number r =
        let S : ℕ = all_screens H in
        let c = at_desk d r in
        let D : Desk = desk_of st d in
        let a : List ℕ = H.desks ∷ H.screens ∷ H.positions ∷ (st.held ++ (st.shown ++ c.front)) in
        let n : length a ≡ record_start H d =
        omega
        (arith, length-append st.held (st.shown ++ c.front), length-append st.shown c.front, v.formed.positions, v.formed.screens, c.starts) in
        ap (λ (t : List ℕ). set t (next_word H d) number)
        (as_record st.held st.shown c.front (encode_desk S D) c.back (concat (map (encode_desk S) st.desks)) c.is)
        ∙ set_mid a (encode_desk S D) (c.back ++ rest) (record_start H d) n (tail_offset S) number (omega (arith, c.wide))
        ∙ ap (λ (words : List ℕ). a ++ (words ++ (c.back ++ rest))) (number_stored S D number c.total)
        ∙ sym
        (as_record st.held st.shown c.front (encode_desk S (renumber D number)) c.back (concat (map (encode_desk S) (set st.desks (d - 1) (renumber D number)))) (c.put (renumber D number)))

    -- what an accepted step writes is the table of the state after it, but for the message number
    after_step_encoded : (limits : Limits) (c : Call) → first_no (questions limits H st c) ≡ 0
        → table_after_step (encode H st ++ rest) c.desk c.step ≡ encode H (perform_step H st c.desk c.step).after ++ rest
    unfolding encode_desk
    after_step_encoded limits c e = by_step c.message c.desk c.step e
      where
        swapped : (d p w : ℕ) → SwapAsked H st d p → (b : Bool)
            → let o = get_or st.held (p - 1) 0 in
            cond b (encode H st ++ rest) (set (set (encode H st ++ rest) (position_word p) w) (record_start H d) o)
            ≡ encode H (cond b st (change_position st d p w)) ++ rest
        swapped d p w asked true = refl
        swapped d p w asked false =
            let k = at_desk d asked.desk in
            let h : List ℕ = set st.held (p - 1) w in
            let o = get_or st.held (p - 1) 0 in
            let a : List ℕ = H.desks ∷ H.screens ∷ H.positions ∷ (h ++ (st.shown ++ k.front)) in
            let n : length a ≡ record_start H d =
            omega
            (arith, length-append h (st.shown ++ k.front), length-append st.shown k.front, length-set st.held (p - 1) w, v.formed.positions, v.formed.screens, k.starts) in
            let z : record_start H d ≡ record_start H d + 0 = omega arith in
            (λ i. set (position_written p w asked.position.0 asked.position.1 i) (z i) o)
            ∙ ap (λ (t : List ℕ). set t (record_start H d + 0) o)
            (as_record h st.shown k.front (encode_desk (all_screens H) (desk_of st d)) k.back (concat (map (encode_desk (all_screens H)) st.desks)) k.is)
            ∙ set_mid a (encode_desk (all_screens H) (desk_of st d)) (k.back ++ rest) (record_start H d) n 0 o (omega (arith, k.wide))
            ∙ sym
            (as_record h st.shown k.front (encode_desk (all_screens H) (owe (desk_of st d) o)) k.back (concat (map (encode_desk (all_screens H)) (set st.desks (d - 1) (owe (desk_of st d) o)))) (k.put (owe (desk_of st d) o)))

        by_step : (m d : ℕ) (s : Step) → first_no (questions limits H st (d sends s numbered m)) ≡ 0
            → table_after_step (encode H st ++ rest) d s ≡ encode H (perform_step H st d s).after ++ rest
        by_step m d (Take c p) e =
            let asked = take-asked limits H st m d c p e in
            (λ i. set (encode H st ++ rest) (screen_word H d c) (position_word_is p asked.position.0 asked.position.1 i))
            ∙ screen_written d c (get_or st.held (p - 1) 0) asked.desk asked.screen
        by_step m d (Drop c) e = let asked = drop-asked limits H st m d c e in screen_written d c 0 asked.desk asked.screen
        by_step m d (Swap p w) e =
            let asked = swap_asked limits H st m d p w e in
            rw (position_word_is p asked.position.0 asked.position.1) (swapped d p w asked (is_repeat (get_or st.held (p - 1) 0) w))
        by_step m d Retire e =
            let k = at_desk d (retire-asked limits H st m d e).desk in
            ap (λ (D : Desk). put_record H (encode H st ++ rest) d (encode_desk (all_screens H) (retire D))) (record_decoded d k)
            ∙ put_record_is d (retire (desk_of st d)) k
        by_step m d Collect e =
            let k = at_desk d (desk_asked limits H st (d sends Collect numbered m) e) in
            (λ i. put_record H (encode H st ++ rest) d (encode_desk (all_screens H) (collect (all_screens H) (decode-encode i).shown (record_decoded d k i)).after))
            ∙ put_record_is d (collect (all_screens H) st.shown (desk_of st d)).after k

  -- what an accepted call writes is the table of the state after it
  module _ (st : State) (v : Valid H st) (rest : List ℕ) where
    pub after_encoded : (limits : Limits) (c : Call) → first_no (questions limits H st c) ≡ 0 → table_after (encode H st ++ rest) c ≡ encode H (perform H st c).after ++ rest
    after_encoded limits c e =
        let d : ℕ = c.desk in
        let r = desk_asked limits H st c e in
        let performed : State = (perform_step H st d c.step).after in
        let performed_valid : Valid H performed = subst (λ (n : ℕ). Valid H (unmoved limits H st n d c.step).after) e (valid_unmoved limits st c v) in
        (λ i. set (after_step_encoded st v rest limits c e i) (next_word H d) (advance (number_word_is st v rest d r i)))
        ∙ number_written performed performed_valid rest d (advance (desk_of st d).next) r

  pub fresh_valid : Valid H (fresh H)
  fresh_valid = record {
    formed = fresh_formed H;
    desks = all_replicate (Sound (all_screens H)) H.desks empty_desk (empty_desk-sound (all_screens H));
  }

  alike : (m n : ℕ) → m ≡ n → replicate {A = ℕ} m 0 ≡ replicate n 0
  alike m n e = ap (λ (x : ℕ). replicate {A = ℕ} x 0) e

  empty_encoded : encode_desk (all_screens H) empty_desk ≡ replicate (record_width H) 0
  unfolding encode_desk
  empty_encoded =
      ap (λ (l : List ℕ). replicate list_offset 0 ++ l) (replicate-append-replicate (2 * all_screens H - 0) tail_words 0)
      ∙ replicate-append-replicate list_offset (2 * all_screens H - 0 + tail_words) 0
      ∙ alike (list_offset + (2 * all_screens H - 0 + tail_words)) (record_width H) (omega arith)

  concat_empty : (n : ℕ) → concat (map (encode_desk (all_screens H)) (replicate n empty_desk)) ≡ replicate (n * record_width H) 0
  concat_empty zero = alike 0 (0 * record_width H) (omega arith)
  concat_empty (suc n) =
      ap₂ {C = List ℕ} (λ x y. x ++ y) empty_encoded (concat_empty n) ∙ replicate-append-replicate (record_width H) (n * record_width H) 0
      ∙ alike (record_width H + n * record_width H) (suc n * record_width H) (omega arith)

  -- the table that an accepted opening leaves is that of the fresh state
  pub opened_is_fresh : (t : List ℕ) → opened_table H t ≡ encode H (fresh H) ++ drop (need H) t
  opened_is_fresh t = ap {B = List ℕ} (λ l. H.desks ∷ H.screens ∷ H.positions ∷ (l ++ drop (need H) t)) zeros
    where
      zeros : replicate {A = ℕ} (need H - header_words) 0 ≡ replicate H.positions 0 ++ (replicate (all_screens H) 0 ++ concat (map (encode_desk (all_screens H)) (replicate H.desks empty_desk)))
      zeros =
          sym
          (ap (λ (l : List ℕ). replicate H.positions 0 ++ (replicate (all_screens H) 0 ++ l)) (concat_empty H.desks) ∙ ap (λ (l : List ℕ). replicate H.positions 0 ++ l) (replicate-append-replicate (all_screens H) (H.desks * record_width H) 0) ∙ replicate-append-replicate H.positions (all_screens H + H.desks * record_width H) 0 ∙ alike (H.positions + (all_screens H + H.desks * record_width H)) (need H - header_words) (omega arith))

  pub valid_end : (limits : Limits) (cs : List Call) (st : State) → Valid H st → Valid H (end (step limits H) st cs)
  valid_end limits [] st v = v
  valid_end limits (c ∷ cs) st v = valid_end limits cs (step limits H st c).after (valid_step limits st c v)

-- ---- A step, and a list of steps, on the table of a state, where the hall is within the limits of the room.
module _ (limits : Limits) (H : Hall) (inside : in_limits limits H ≡ true) where
  abbrev fits : Fits H
  fits = limits_fit limits H inside

  module _ (st : State) (v : Valid H st) (rest : List ℕ) where
    pub encode-is_sound : sound limits (encode H st ++ rest) ≡ true
    unfolding sound
    encode-is_sound =
        and-true (in_limits limits H) _ inside
        (and-true _ _ (le-leb (need H) (length (encode H st ++ rest)) (omega (arith, length-table H fits st v rest, length-append (encode H st) rest)))
        (ap (every (record_sound (all_screens H))) (records_of-encode H fits st v rest) ∙ all_sound H fits st.desks v.desks))

    -- a step on the table is the step of the rules
    pub table_step : (c : Call) → step_table limits (encode H st ++ rest) c ≡ record { answer = (step limits H st c).answer; after = encode H (step limits H st c).after ++ rest }
    unfolding step_table
    table_step c =
        ap (λ (b : Bool). step_if limits b (encode H st ++ rest) c) encode-is_sound ∙ ap result (decode-encode H fits st v rest)
        ∙ by_number_lem (first_no (questions limits H st c)) refl
      where
        result : State → Result (List ℕ)
        result s = decide (first_no (questions limits H s c)) (encode H st ++ rest) (perform H s c).session (table_after (encode H st ++ rest) c)

        by_number_lem : (n : ℕ) → first_no (questions limits H st c) ≡ n
            → let outcome = perform H st c in
            let r = decide n st outcome.session outcome.after in
            decide n (encode H st ++ rest) outcome.session (table_after (encode H st ++ rest) c)
            ≡ record { answer = r.answer; after = encode H r.after ++ rest }
        by_number_lem zero e = λ i. accept (perform H st c).session (after_encoded H fits st v rest limits c e i)
        by_number_lem (suc n) e = refl

  pub table_run : (cs : List Call) (st : State) → Valid H st → (rest : List ℕ) → run (step_table limits) (encode H st ++ rest) cs ≡ run (step limits H) st cs
  table_run [] st v rest = refl
  table_run (c ∷ cs) st v rest =
      ap (λ (r : Result (List ℕ)). more r) (table_step st v rest c)
      ∙ ap {B = List Event} (λ es. record { call = c; answer = (step limits H st c).answer } ∷ es) (table_run cs (step limits H st c).after (valid_step H fits limits st c v) rest)
    where
      more : Result (List ℕ) → List Event
      more r = record { call = c; answer = r.answer } ∷ run (step_table limits) r.after cs

  pub table_end : (cs : List Call) (st : State) → Valid H st → (rest : List ℕ)
      → end (step_table limits) (encode H st ++ rest) cs ≡ encode H (end (step limits H) st cs) ++ rest
  table_end [] st v rest = refl
  table_end (c ∷ cs) st v rest =
      ap (λ (r : Result (List ℕ)). end (step_table limits) r.after cs) (table_step st v rest c) ∙ table_end cs (step limits H st c).after (valid_step H fits limits st c v) rest

  -- The table stays sound: no step from an opening on is answered 5.
  pub sound-table : (t : List ℕ) (cs : List Call) → sound limits (end (step_table limits) (opened_table H t) cs) ≡ true
  sound-table t cs =
      let start = fresh_valid H fits in
      rw (opened_is_fresh H fits t, table_end cs (fresh H) start (drop (need H) t))
      (encode-is_sound (end (step limits H) (fresh H) cs) (valid_end H fits limits cs (fresh H) start) (drop (need H) t))

-- What an accepted opening asked of its hall and its table.
pub hall-opens : (limits : Limits) (H : Hall) (t : List ℕ) → first_no (open_questions limits H t) ≡ 0 → (in_limits limits H ≡ true) × (need H ≤ length t)
hall-opens limits H t e =
    let y1 = holds (in_range H.desks max_desks) _ 0 e in
    let y2 = holds (in_range H.screens max_screens) _ 1 y1.1 in
    let y3 = holds (in_range H.positions max_positions) _ 2 y2.1 in
    let y22 = holds (within limits H) _ 21 y3.1 in
    let y4 = holds (leb (need H) (length t)) _ 3 y22.1 in
    (and-true _ _ (and-true _ _ y1.0 (and-true _ _ y2.0 y3.0)) y22.0, leb-true (need H) (length t) y4.0)
