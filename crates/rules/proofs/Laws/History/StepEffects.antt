-- One call: what an accepted one has been asked, what its action did to the state, and what it did to each desk.
-- All that the later laws know of a step is `state_change`, by cases of the action, and `desk_change`, seen from one desk.
use Rattle.std.specs.Prelude.{ℕ, zero, suc, ◌*◌, ◌-◌, ◌≤◌, ◌<◌, ◌≡◌, refl, Bool, true, false, cond, not, ◌&&◌, List, [], ◌∷◌, length, get_or, set, leb, ltb, eqb}
use Rattle.std.proofs.Common.{arith, sym, ◌∙◌, subst, true≢false, length-set, get_or-set_same, get_or-set_other, eqb-true, ltb-true, ltb-false, leb-true, le-leb}
use Rattle.std.proofs.lemmas.List.{set-get_or}
use Rattle.std.proofs.lemmas.Bool.{eqb-false, not-true}
use Rattle.rules.specs.Hall.{Desk, Formed, Hall, Limits, State, all_screens, desk_of, empty_desk, screen_index, used_slots, with_desk, with_shown}
use Rattle.rules.specs.History.{Action, Effect, ◌by◌, action_of, by_desk, collects, drops, hands_back, no_action, out_of_room, retires, swaps, takes}
use Rattle.rules.specs.Steps.{Answer, Call, Collect, Drop, Question, Result, Retire, Step, Swap, Take, ◌numbered◌, ◌sends◌, advance, ask, change_position, collect, decide, first_no}
use Rattle.rules.specs.Steps.{in_range, is_repeat, owe, perform, perform_step, questions, renumber, retire, step, with_next}
use Rattle.rules.proofs.Laws.Lists.Bools.{and_left, and_right, and-true}

abbrev pub IsDesk : Hall → ℕ → Type 0
IsDesk H d = (1 ≤ d) × (d ≤ H.desks)

abbrev pub IsScreen : Hall → ℕ → Type 0
IsScreen H c = (1 ≤ c) × (c ≤ H.screens)

abbrev pub IsPosition : Hall → ℕ → Type 0
IsPosition H p = (1 ≤ p) × (p ≤ H.positions)

-- What a call did.
abbrev pub action_in : Limits → Hall → State → Call → Action
action_in limits H st call = action_of call.step (step limits H st call).answer.number (step limits H st call).answer.session

abbrev pub effect_in : Limits → Hall → State → Call → Effect
effect_in limits H st call = action_in limits H st call by call.desk

-- ---- The questions that an accepted call has been asked.
pub in_range_lem : (n m : ℕ) → in_range n m ≡ true → (1 ≤ n) × (n ≤ m)
in_range_lem n m h = (leb-true 1 n (and_left (leb 1 n) (leb n m) h), leb-true n m (and_right (leb 1 n) (leb n m) h))

pub range_holds : (n m : ℕ) → (1 ≤ n) × (n ≤ m) → in_range n m ≡ true
range_holds n m r = and-true (leb 1 n) (leb n m) (le-leb 1 n r.0) (le-leb n m r.1)

pub out_of_range : (n m : ℕ) → in_range n m ≡ false → (1 ≤ n) × (n ≤ m) → ⊥
out_of_range n m e r = true≢false (sym (range_holds n m r) ∙ e)

-- a first question, and those after it
pub holds : (b : Bool) (m n : ℕ) → cond {A = ℕ} b m (suc n) ≡ 0 → (b ≡ true) × (m ≡ 0)
holds true m n e = (refl, e)
holds false m n e = absurd (omega arith)

-- each question of a list in which none has the number 0
abbrev has_numbers : List Question → Bool
has_numbers [] = true
has_numbers (first ∷ others) = not (eqb first.number 0) && has_numbers others

all_yes : (asked : List Question) → has_numbers asked ≡ true → first_no asked ≡ 0 → (i : ℕ) → (get_or asked i (ask true 0)).yes? ≡ true
all_yes [] n e = λ i. refl
all_yes (first ∷ others) n e = by_answer first.yes? refl e (all_yes others (and_right (not (eqb first.number 0)) (has_numbers others) n))
  where
    by_answer : (b : Bool) → first.yes? ≡ b → cond b (first_no others) first.number ≡ 0
        → (first_no others ≡ 0 → (i : ℕ) → (get_or others i (ask true 0)).yes? ≡ true) → (i : ℕ) → (get_or (first ∷ others) i (ask true 0)).yes? ≡ true
    by_answer true y e rest zero = y
    by_answer true y e rest (suc i) = rest e i
    by_answer false y e rest i = absurd (eqb-false first.number 0 (not-true _ (and_left (not (eqb first.number 0)) (has_numbers others) n)) e)

retire_refused_full : (a n b c : Bool) → cond {A = ℕ} a (cond {A = ℕ} n (cond {A = ℕ} b (cond {A = ℕ} c 0 14) 13) 23) 6 ≡ 14 → (a ≡ true) × (c ≡ false)
retire_refused_full true true true true e = absurd (omega arith)
retire_refused_full true true true false e = (refl, refl)
retire_refused_full true true false c e = absurd (omega arith)
retire_refused_full true false b c e = absurd (omega arith)
retire_refused_full false n b c e = absurd (omega arith)

pub record TakeAsked (H : Hall) (st : State) (d c p : ℕ) : Type 0 where
  pub desk : IsDesk H d
  pub screen : IsScreen H c
  pub position : IsPosition H p
  pub empty : get_or st.shown (screen_index H d c) 0 ≡ 0
  pub some : get_or st.held (p - 1) 0 ≡ 0 → ⊥

pub record DropAsked (H : Hall) (d c : ℕ) : Type 0 where
  pub desk : IsDesk H d
  pub screen : IsScreen H c

pub record SwapAsked (H : Hall) (st : State) (d p : ℕ) : Type 0 where
  pub desk : IsDesk H d
  pub position : IsPosition H p
  pub owes_nothing : (desk_of st d).owed ≡ 0

pub record RetireAsked (H : Hall) (st : State) (d : ℕ) : Type 0 where
  pub desk : IsDesk H d
  pub owes : (desk_of st d).owed ≡ 0 → ⊥
  pub room : used_slots (desk_of st d) < 2 * all_screens H

module _ (limits : Limits) (H : Hall) (st : State) where
  -- the desk of any call, and its message number
  pub desk_asked : (call : Call) → first_no (questions limits H st call) ≡ 0 → IsDesk H call.desk
  desk_asked call e = in_range_lem call.desk H.desks (holds (in_range call.desk H.desks) _ 5 e).0

  pub number_asked : (call : Call) → first_no (questions limits H st call) ≡ 0 → call.message ≡ (desk_of st call.desk).next
  number_asked call e =
      eqb-true call.message (desk_of st call.desk).next
      (holds (eqb call.message (desk_of st call.desk).next) _ 22 (holds (in_range call.desk H.desks) _ 5 e).1).0

  pub take-asked : (m d c p : ℕ) → first_no (questions limits H st (d sends Take c p numbered m)) ≡ 0 → TakeAsked H st d c p
  take-asked m d c p e =
      let y = all_yes (questions limits H st (d sends Take c p numbered m)) refl e in
      record {
        desk = in_range_lem d H.desks (y 0);
        screen = in_range_lem c H.screens (y 2);
        position = in_range_lem p H.positions (y 3);
        empty = eqb-true _ 0 (y 4);
        some = eqb-false _ 0 (not-true _ (y 5));
      }

  pub drop-asked : (m d c : ℕ) → first_no (questions limits H st (d sends Drop c numbered m)) ≡ 0 → DropAsked H d c
  drop-asked m d c e =
      let y = all_yes (questions limits H st (d sends Drop c numbered m)) refl e in
      record { desk = in_range_lem d H.desks (y 0); screen = in_range_lem c H.screens (y 2) }

  pub swap_asked : (m d p v : ℕ) → first_no (questions limits H st (d sends Swap p v numbered m)) ≡ 0 → SwapAsked H st d p
  swap_asked m d p v e =
      let y = all_yes (questions limits H st (d sends Swap p v numbered m)) refl e in
      record { desk = in_range_lem d H.desks (y 0); position = in_range_lem p H.positions (y 2); owes_nothing = eqb-true _ 0 (y 4) }

  pub retire-asked : (m d : ℕ) → first_no (questions limits H st (d sends Retire numbered m)) ≡ 0 → RetireAsked H st d
  retire-asked m d e =
      let y = all_yes (questions limits H st (d sends Retire numbered m)) refl e in
      record { desk = in_range_lem d H.desks (y 0); owes = eqb-false _ 0 (not-true _ (y 2)); room = ltb-true _ _ (y 3) }

-- ---- What becomes of a desk D, by its own action.

-- its list and its reading stay as they are
pub record Same (D E : Desk) : Type 0 where
  pub owed : ℕ
  pub after : E ≡ owe D owed

pub record Retires (S v : ℕ) (D E : Desk) : Type 0 where
  pub owed : D.owed ≡ v
  pub some : v ≡ 0 → ⊥
  pub room : used_slots D < 2 * S
  pub after : E ≡ retire D

pub record OutOfRoom (S : ℕ) (D E : Desk) : Type 0 where
  pub room : 2 * S ≤ used_slots D
  pub after : E ≡ D

pub record Collects (S : ℕ) (shown : List ℕ) (v : ℕ) (D E : Desk) : Type 0 where
  pub session : (collect S shown D).session ≡ v
  pub after : E ≡ (collect S shown D).after

abbrev pub DeskChange : ℕ → List ℕ → Desk → Desk → Action → Type 0
DeskChange S shown D E (takes c p v) = Same D E
DeskChange S shown D E (drops c) = Same D E
DeskChange S shown D E (swaps p) = Same D E
DeskChange S shown D E (retires v) = Retires S v D E
DeskChange S shown D E out_of_room = OutOfRoom S D E
DeskChange S shown D E collects = Collects S shown 0 D E
DeskChange S shown D E (hands_back v) = (v ≡ 0 → ⊥) × Collects S shown v D E
DeskChange S shown D E no_action = Same D E

-- of desk d in a state
abbrev pub DeskChangeIn : Hall → State → ℕ → Desk → Action → Type 0
DeskChangeIn H st d E action = DeskChange (all_screens H) st.shown (desk_of st d) E action

-- A desk with another next message number, or the same.
pub record Renumbered (before after : Desk) : Type 0 where
  pub number : ℕ
  pub is : after ≡ renumber before number

-- What became of desk d, and then of its next message number.
pub record DeskChanged (H : Hall) (st : State) (d : ℕ) (after : Desk) (action : Action) : Type 0 where
  pub desk : Desk
  pub change : DeskChangeIn H st d desk action
  pub moved : Renumbered desk after

-- ---- What an action of desk d found, and the state after it, but for the message number.
pub record Took (H : Hall) (st : State) (d c p v : ℕ) (after : State) : Type 0 where
  pub desk : IsDesk H d
  pub screen : IsScreen H c
  pub position : 1 ≤ p
  pub empty : get_or st.shown (screen_index H d c) 0 ≡ 0
  pub session : v ≡ get_or st.held (p - 1) 0
  pub some : v ≡ 0 → ⊥
  pub state : after ≡ with_shown st (screen_index H d c) v

pub record Dropped (H : Hall) (st : State) (d c : ℕ) (after : State) : Type 0 where
  pub desk : IsDesk H d
  pub screen : IsScreen H c
  pub state : after ≡ with_shown st (screen_index H d c) 0

pub record Swapped (H : Hall) (st : State) (d p : ℕ) (after : State) : Type 0 where
  pub desk : IsDesk H d
  pub position : 1 ≤ p
  pub owes_nothing : (desk_of st d).owed ≡ 0
  pub session : ℕ
  pub state : after ≡ change_position st d p session

-- an action that changes its desk alone
pub record OnDesk (H : Hall) (st : State) (d : ℕ) (action : Action) (after : State) : Type 0 where
  pub desk : IsDesk H d
  pub new : Desk
  pub done : DeskChangeIn H st d new action
  pub state : after ≡ with_desk st d new

abbrev pub StateChange : Hall → State → ℕ → Action → State → Type 0
StateChange H st d (takes c p v) after = Took H st d c p v after
StateChange H st d (drops c) after = Dropped H st d c after
StateChange H st d (swaps p) after = Swapped H st d p after
StateChange H st d (retires v) after = OnDesk H st d (retires v) after
StateChange H st d out_of_room after = OnDesk H st d out_of_room after
StateChange H st d collects after = OnDesk H st d collects after
StateChange H st d (hands_back v) after = OnDesk H st d (hands_back v) after
StateChange H st d no_action after = after ≡ st

-- A call of desk d: its action, and then the desk's next message number, moved on if the call was accepted and as it was otherwise.
pub record StateChanged (H : Hall) (st : State) (d : ℕ) (action : Action) (after : State) : Type 0 where
  pub state : State
  pub change : StateChange H st d action state
  pub number : ℕ
  pub moved : after ≡ with_next state d number

-- What an action has in range, and that a session retired or handed back is not 0.
abbrev pub Range : Hall → ℕ → Action → Type 0
Range H d (takes c p v) = IsDesk H d × IsScreen H c
Range H d (drops c) = IsDesk H d × IsScreen H c
Range H d (swaps p) = IsDesk H d
Range H d (retires v) = IsDesk H d × (v ≡ 0 → ⊥)
Range H d out_of_room = IsDesk H d
Range H d collects = IsDesk H d
Range H d (hands_back v) = IsDesk H d × (v ≡ 0 → ⊥)
Range H d no_action = Unit {0}

abbrev pub InHall : Hall → Effect → Type 0
InHall H effect = Range H effect.desk effect.action

-- Any desk, where one has moved its number.
pub desk_renumbered : (st : State) (d n e : ℕ) → Renumbered (desk_of st e) (desk_of (with_next st d n) e)
desk_renumbered st d n e = at st.desks (d - 1) (e - 1)
  where
    at : (Ds : List Desk) (i j : ℕ) → Renumbered (get_or Ds j empty_desk) (get_or (set Ds i (renumber (get_or Ds i empty_desk) n)) j empty_desk)
    at [] i j = record { number = 0; is = refl }
    at (D ∷ Ds) zero zero = record { number = n; is = refl }
    at (D ∷ Ds) zero (suc j) = record { number = (get_or Ds j empty_desk).next; is = refl }
    at (D ∷ Ds) (suc i) zero = record { number = D.next; is = refl }
    at (D ∷ Ds) (suc i) (suc j) = at Ds i j

module _ (limits : Limits) (H : Hall) (st : State) where
  -- the state, if the message number did not move
  abbrev pub unmoved : ℕ → ℕ → Step → Result State
  unmoved n d s = let outcome = perform_step H st d s in decide n st outcome.session outcome.after

  pub action_change : (call : Call) → StateChange H st call.desk (action_in limits H st call) (unmoved (first_no (questions limits H st call)) call.desk call.step).after
  action_change call =
      subst
      (λ (answer : Answer). StateChange H st call.desk (action_of call.step answer.number answer.session) (unmoved (first_no (questions limits H st call)) call.desk call.step).after)
      (same_answer (first_no (questions limits H st call))) (by_number_lem (first_no (questions limits H st call)) call.message call.desk call.step refl)
    where
      same_answer : (n : ℕ) → (unmoved n call.desk call.step).answer ≡ (decide n st (perform H st call).session (perform H st call).after).answer
      same_answer zero = refl
      same_answer (suc n) = refl

      collected : (d v : ℕ) (b : Bool) → eqb v 0 ≡ b → IsDesk H d → (collect (all_screens H) st.shown (desk_of st d)).session ≡ v
          → StateChange H st d (cond b collects (hands_back v)) (with_desk st d (collect (all_screens H) st.shown (desk_of st d)).after)
      collected d v true q r e = record { desk = r; new = _; done = record { session = e ∙ eqb-true v 0 q; after = refl }; state = refl }
      collected d v false q r e = record { desk = r; new = _; done = (eqb-false v 0 q, record { session = e; after = refl }); state = refl }

      swapped : (d p v : ℕ) (b : Bool) → SwapAsked H st d p
          → StateChange H st d (cond b no_action (swaps p)) (cond b st (change_position st d p v))
      swapped d p v true t = refl
      swapped d p v false t = record { desk = t.desk; position = t.position.0; owes_nothing = t.owes_nothing; session = v; state = refl }

      full : (m d n : ℕ) (b : Bool) → eqb n 14 ≡ b → first_no (questions limits H st (d sends Retire numbered m)) ≡ n → StateChange H st d (cond b out_of_room no_action) st
      full m d n true q e =
          let y =
          retire_refused_full (in_range d H.desks) (eqb m (desk_of st d).next) (not (eqb (desk_of st d).owed 0)) (ltb (used_slots (desk_of st d)) (2 * all_screens H))
          (e ∙ eqb-true n 14 q) in
          record {
            desk = in_range_lem d H.desks y.0;
            new = desk_of st d;
            done = record { room = ltb-false _ _ y.1; after = refl };
            state = λ i. record { held = st.held; shown = st.shown; desks = sym (set-get_or st.desks (d - 1) empty_desk) i };
          }
      full m d n false q e = refl

      by_number_lem : (n m d : ℕ) (s : Step) → first_no (questions limits H st (d sends s numbered m)) ≡ n
          → let r = unmoved n d s in
          StateChange H st d (action_of s r.answer.number r.answer.session) r.after
      by_number_lem zero m d (Take c p) e =
          let t = take-asked limits H st m d c p e in
          record { desk = t.desk; screen = t.screen; position = t.position.0; empty = t.empty; session = refl; some = t.some; state = refl }
      by_number_lem zero m d (Drop c) e = let t = drop-asked limits H st m d c e in record { desk = t.desk; screen = t.screen; state = refl }
      by_number_lem zero m d (Swap p v) e = swapped d p v (is_repeat (get_or st.held (p - 1) 0) v) (swap_asked limits H st m d p v e)
      by_number_lem zero m d Retire e =
          let t = retire-asked limits H st m d e in
          record {
            desk = t.desk;
            new = retire (desk_of st d);
            done = record { owed = refl; some = t.owes; room = t.room; after = refl };
            state = refl;
          }
      by_number_lem zero m d Collect e =
          let session = (collect (all_screens H) st.shown (desk_of st d)).session in
          collected d session (eqb session 0) refl (desk_asked limits H st (d sends Collect numbered m) e) refl
      by_number_lem (suc n) m d (Take c p) e = refl
      by_number_lem (suc n) m d (Drop c) e = refl
      by_number_lem (suc n) m d (Swap p v) e = refl
      by_number_lem (suc n) m d Retire e = full m d (suc n) (eqb (suc n) 14) refl e
      by_number_lem (suc n) m d Collect e = refl

  pub state_change : (call : Call) → StateChanged H st call.desk (action_in limits H st call) (step limits H st call).after
  state_change call = record {
    state = (unmoved (first_no (questions limits H st call)) call.desk call.step).after;
    change = action_change call;
    number = number_after (first_no (questions limits H st call));
    moved = moved (first_no (questions limits H st call));
  }
    where
      number_after : ℕ → ℕ
      number_after zero = advance (desk_of st call.desk).next
      number_after (suc n) = (desk_of st call.desk).next

      moved : (n : ℕ) → (decide n st (perform H st call).session (perform H st call).after).after ≡ with_next (unmoved n call.desk call.step).after call.desk (number_after n)
      moved zero = refl
      moved (suc n) = λ i. record { held = st.held; shown = st.shown; desks = sym (set-get_or st.desks (call.desk - 1) empty_desk) i }

  -- of an effect that the call's is known to be
  pub state_change_as : (call : Call) (e : Effect) → effect_in limits H st call ≡ e → StateChanged H st e.desk e.action (step limits H st call).after
  state_change_as call e q = subst (λ (x : Effect). StateChanged H st x.desk x.action (step limits H st call).after) q (state_change call)

  pub range-step : (call : Call) → InHall H (effect_in limits H st call)
  range-step call = at call.desk (action_in limits H st call) _ (action_change call)
    where
      at : (d : ℕ) (a : Action) (after : State) → StateChange H st d a after → Range H d a
      at d (takes c p v) after k = (k.desk, k.screen)
      at d (drops c) after k = (k.desk, k.screen)
      at d (swaps p) after k = k.desk
      at d (retires v) after k = (k.desk, k.done.some)
      at d out_of_room after k = k.desk
      at d collects after k = k.desk
      at d (hands_back v) after k = (k.desk, k.done.0)
      at d no_action after k = tt

-- Every state after a call has the hall's positions, screens and desks.
pub formed_numbered : (H : Hall) (st : State) (d n : ℕ) → Formed H st → Formed H (with_next st d n)
formed_numbered H st d n f = record {
  positions = f.positions;
  screens = f.screens;
  desks = length-set st.desks (d - 1) (renumber (desk_of st d) n) ∙ f.desks;
}

module _ (limits : Limits) (H : Hall) (st : State) (formed : Formed H st) where
  pub formed_action : (d : ℕ) (a : Action) (after : State) → StateChange H st d a after → Formed H after
  formed_action = at
    where
      screen : (index v : ℕ) → Formed H (with_shown st index v)
      screen index v = record { positions = formed.positions; screens = length-set st.shown index v ∙ formed.screens; desks = formed.desks }

      desk : (held : List ℕ) (d : ℕ) (new : Desk) → length held ≡ H.positions
          → Formed H (record { held = held; shown = st.shown; desks = set st.desks (d - 1) new })
      desk held d new positions = record { positions = positions; screens = formed.screens; desks = length-set st.desks (d - 1) new ∙ formed.desks }

      at : (d : ℕ) (a : Action) (after : State) → StateChange H st d a after → Formed H after
      at d (takes c p v) after k = rw k.state (screen (screen_index H d c) v)
      at d (drops c) after k = rw k.state (screen (screen_index H d c) 0)
      at d (swaps p) after k = rw k.state (desk _ d _ (length-set st.held (p - 1) k.session ∙ formed.positions))
      at d (retires v) after k = rw k.state (desk st.held d k.new formed.positions)
      at d out_of_room after k = rw k.state (desk st.held d k.new formed.positions)
      at d collects after k = rw k.state (desk st.held d k.new formed.positions)
      at d (hands_back v) after k = rw k.state (desk st.held d k.new formed.positions)
      at d no_action after k = rw k formed

  -- after an accepted step, but for the message number
  pub formed_performed : (call : Call) → first_no (questions limits H st call) ≡ 0 → Formed H (perform_step H st call.desk call.step).after
  formed_performed call e =
      subst (λ (n : ℕ). Formed H (unmoved limits H st n call.desk call.step).after) e
      (formed_action call.desk (action_in limits H st call) _ (action_change limits H st call))

  pub formed_step : (call : Call) → Formed H (step limits H st call).after
  formed_step call =
      let k = state_change limits H st call in
      rw k.moved (formed_numbered H k.state call.desk k.number (formed_action call.desk (action_in limits H st call) k.state k.change))

  module _ (d : ℕ) (hd : 1 ≤ d) where
    -- an action that changes no desk
    unchanged : (a : Action) → DeskChangeIn H st d (desk_of st d) a → (b : Bool) → DeskChangeIn H st d (desk_of st d) (cond b a no_action)
    unchanged a e true = e
    unchanged a e false = record { owed = (desk_of st d).owed; after = refl }

    -- an action that stores a desk
    stored : (actor : ℕ) (new : Desk) (a : Action) → IsDesk H actor → DeskChangeIn H st actor new a
        → DeskChangeIn H st d (get_or (set st.desks (actor - 1) new) (d - 1) empty_desk) (cond (eqb actor d) a no_action)
    stored actor new a r e = by_desk_lem (eqb actor d) refl
      where
        by_desk_lem : (b : Bool) → eqb actor d ≡ b
            → DeskChangeIn H st d (get_or (set st.desks (actor - 1) new) (d - 1) empty_desk) (cond b a no_action)
        by_desk_lem true q =
            let same : actor ≡ d = eqb-true actor d q in
            rw (← same, get_or-set_same st.desks (actor - 1) new empty_desk (omega (arith, formed.desks))) e
        by_desk_lem false q =
            let other = eqb-false actor d q in
            rw (get_or-set_other st.desks (actor - 1) (d - 1) new empty_desk (λ m. other (omega arith)))
            (record { owed = (desk_of st d).owed; after = refl })

    pub desk_change : (call : Call) → DeskChanged H st d (desk_of (step limits H st call).after d) (by_desk d (effect_in limits H st call))
    desk_change call =
        let k = state_change limits H st call in
        record {
          desk = desk_of k.state d;
          change = at call.desk (action_in limits H st call) k.state k.change;
          moved = subst (λ (after : State). Renumbered (desk_of k.state d) (desk_of after d)) (sym k.moved) (desk_renumbered k.state call.desk k.number d);
        }
      where
        at : (actor : ℕ) (a : Action) (after : State) → StateChange H st actor a after → DeskChangeIn H st d (desk_of after d) (cond (eqb actor d) a no_action)
        at actor (takes c p v) after k = rw k.state (unchanged (takes c p v) (record { owed = (desk_of st d).owed; after = refl }) (eqb actor d))
        at actor (drops c) after k = rw k.state (unchanged (drops c) (record { owed = (desk_of st d).owed; after = refl }) (eqb actor d))
        at actor (swaps p) after k = rw k.state (stored actor _ (swaps p) k.desk (record { owed = get_or st.held (p - 1) 0; after = refl }))
        at actor (retires v) after k = rw k.state (stored actor k.new (retires v) k.desk k.done)
        at actor out_of_room after k = rw k.state (stored actor k.new out_of_room k.desk k.done)
        at actor collects after k = rw k.state (stored actor k.new collects k.desk k.done)
        at actor (hands_back v) after k = rw k.state (stored actor k.new (hands_back v) k.desk k.done)
        at actor no_action after k = rw k (unchanged no_action (record { owed = (desk_of st d).owed; after = refl }) (eqb actor d))
