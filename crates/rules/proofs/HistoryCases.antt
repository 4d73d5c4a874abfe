-- What the statements about histories admit and what they refuse, by computation: for each field of each statement a history that
-- this field alone refuses. No theorem is used here; Examples applies the theorems to some of these histories.
-- A history is computed by the rules (`history_of`), or is written down with its answers, right or wrong.
use Rattle.std.specs.Prelude.{ℕ, zero, suc, ◌+◌, ◌≤◌, ◌<◌, ◌≡◌, refl, Bool, true, List, [], ◌∷◌, ◌++◌, map, get_or, length, replicate, take, eqb}
use Rattle.std.proofs.Common.{arith, sym, ap, ◌∙◌, subst, eq-eqb}
use Rattle.std.proofs.Math.Decide.{dec_le}
use Rattle.rules.proofs.Cases.{◌⇒◌, ok, refused_with, wide, wide_words}
use Rattle.rules.specs.Closing.{ClosingRule, HandBackCloses, PutFresh, ShownNowhere, StandsNowhere, Unreferenced, put_at}
use Rattle.rules.specs.Demands.{Demand2, Demand3, Guarantee, HandedBackWithin, counts_of_desk, list_of_desk, sharper_bound}
use Rattle.rules.specs.Hall.{Hall, hall_limits, hall_of}
use Rattle.rules.specs.History.{Action, CollectsBetweenRetires, DroppedBefore, Effect, Linked, NextDrop, NextRetire, NextSwap, Shows, Unshown, ◌by◌, collects}
use Rattle.rules.specs.History.{collects_of, drops, effect_at, effect_of, hand_backs, hand_backs_of, hands_back, is_collect, is_hand_back, is_hand_back_of, is_retire_attempt}
use Rattle.rules.specs.History.{by_desk, is_retirement, is_retirement_of, no_action, number_at, out_of_room, retirements, retirements_of, retires, swaps, takes}
use Rattle.rules.specs.Lists.{to_nat}
use Rattle.rules.specs.Messages.{answers_of, sent_to}
use Rattle.rules.specs.Steps.{Answer, Call, Collect, Drop, Event, Retire, Swap, Take, ◌sends◌, end, run}
use Rattle.rules.specs.Table.{decode_desk, encode_desk, open_table, owed_offset, position_word, record_of, record_sound, screen_word, sound, step_table}
use Rattle.rules.proofs.Laws.History.Actions.{is_drop}
use Rattle.rules.proofs.Laws.History.Checks.{indices_where, is_drop_of, is_retire_by, is_swap_at, never_shown, none_between_lem, none_between, nowhere}
use Rattle.rules.proofs.Laws.History.Checks.{one_of_two_lem, only_at, part, put_fresh_by_test, unreferenced_by_test}
use Rattle.rules.proofs.Laws.History.Spacing.{collects_between_retires}
use Rattle.rules.proofs.Laws.Lists.Bools.{and-true}

-- A hall that is opened in a table of 9s; and the history of calls to it.
abbrev pub opened_in : Hall → ℕ → List ℕ
opened_in hall words = (open_table hall_limits hall (replicate words 9)).after

abbrev pub history_from : Hall → ℕ → List Call → List Event
history_from hall words calls = run (step_table hall_limits) (opened_in hall words) calls

-- The same where the calls are sent with the right message numbers.
abbrev pub sent_in : Hall → ℕ → List Call → List Call
sent_in hall words calls = sent_to hall_limits (opened_in hall words) calls

abbrev pub history_of : Hall → ℕ → List Call → List Event
history_of hall words calls = history_from hall words (sent_in hall words calls)

-- Its tables: the words after the first i calls.
abbrev pub tables_of : Hall → ℕ → List Call → ℕ → List ℕ
tables_of hall words calls i = end (step_table hall_limits) (opened_in hall words) (take i (sent_in hall words calls))

-- Desk 1 puts a session at position 1, replaces it by 0 and retires it.
abbrev pub retiring : ℕ → List Call
retiring session = 1 sends Swap 1 session ∷ 1 sends Swap 1 0 ∷ 1 sends Retire ∷ []

-- ---- Effects: what each call with its answer did.
abbrev one_of_each : List Event
one_of_each =
    (2 sends Take 3 4 ⇒ ok 5) ∷ (2 sends Drop 3 ⇒ ok 5) ∷ (2 sends Swap 4 6 ⇒ ok 5) ∷ (2 sends Retire ⇒ ok 5) ∷ (2 sends Collect ⇒ ok 0) ∷ (2 sends Collect ⇒ ok 5)
    -- "Refused for want of room is 14"; every other refused call does nothing
    ∷ (2 sends Retire ⇒ refused_with 14) ∷ (2 sends Retire ⇒ refused_with 13) ∷ (2 sends Take 3 4 ⇒ refused_with 14) ∷ (2 sends Drop 3 ⇒ refused_with 14) ∷ (2 sends Swap 4 6 ⇒ refused_with 14)
    ∷ (2 sends Collect ⇒ refused_with 14)
    -- a repeat "is no swap for linking", of a session or of 0; from 0 to a session and from a session to 0 the position changes
    ∷ (2 sends Swap 4 6 ⇒ ok 6) ∷ (2 sends Swap 4 0 ⇒ ok 0) ∷ (2 sends Swap 4 6 ⇒ ok 0) ∷ (2 sends Swap 4 0 ⇒ ok 6) ∷ []

pub effects-of-calls :
    map effect_of one_of_each
    ≡ (takes 3 4 5 by 2) ∷ (drops 3 by 2) ∷ (swaps 4 by 2) ∷ (retires 5 by 2) ∷ (collects by 2) ∷ (hands_back 5 by 2)
    ∷ (out_of_room by 2) ∷ (no_action by 2) ∷ (no_action by 2) ∷ (no_action by 2) ∷ (no_action by 2) ∷ (no_action by 2)
    ∷ (no_action by 2) ∷ (no_action by 2) ∷ (swaps 4 by 2) ∷ (swaps 4 by 2) ∷ []
effects-of-calls = refl

-- Which actions are a retirement of 5, a hand-back of 5, a collect, and a retire that needs a collect before the next.
abbrev kinds : (Action → Bool) → List ℕ
kinds test =
    map (λ (action : Action). to_nat (test action))
    (takes 5 5 5 ∷ drops 5 ∷ swaps 5 ∷ retires 5 ∷ retires 6 ∷ out_of_room ∷ collects ∷ hands_back 5 ∷ hands_back 6 ∷ no_action ∷ [])

pub kinds-of-actions :
    (kinds (is_retirement_of 5) ≡ 0 ∷ 0 ∷ 0 ∷ 1 ∷ 0 ∷ 0 ∷ 0 ∷ 0 ∷ 0 ∷ 0 ∷ [])
    × (kinds is_retirement ≡ 0 ∷ 0 ∷ 0 ∷ 1 ∷ 1 ∷ 0 ∷ 0 ∷ 0 ∷ 0 ∷ 0 ∷ [])
    × (kinds (is_hand_back_of 5) ≡ 0 ∷ 0 ∷ 0 ∷ 0 ∷ 0 ∷ 0 ∷ 0 ∷ 1 ∷ 0 ∷ 0 ∷ [])
    × (kinds is_hand_back ≡ 0 ∷ 0 ∷ 0 ∷ 0 ∷ 0 ∷ 0 ∷ 0 ∷ 1 ∷ 1 ∷ 0 ∷ [])
    × (kinds is_collect ≡ 0 ∷ 0 ∷ 0 ∷ 0 ∷ 0 ∷ 0 ∷ 1 ∷ 1 ∷ 1 ∷ 0 ∷ [])
    × (kinds is_retire_attempt ≡ 0 ∷ 0 ∷ 0 ∷ 1 ∷ 1 ∷ 1 ∷ 0 ∷ 0 ∷ 0 ∷ 0 ∷ [])
kinds-of-actions = (refl, refl, refl, refl, refl, refl)

-- The effect and the reply number at an index; past the end there is no effect, and the number is 0.
pub at-an-index :
    (map (effect_at one_of_each) (0 ∷ 6 ∷ 16 ∷ []) ≡ (takes 3 4 5 by 2) ∷ (out_of_room by 2) ∷ (no_action by 0) ∷ [])
    × (map (number_at one_of_each) (0 ∷ 6 ∷ 7 ∷ 16 ∷ []) ≡ 0 ∷ 14 ∷ 13 ∷ 0 ∷ [])
at-an-index = (refl, refl)

-- ---- Counts, by desk and by session: two desks, two sessions, and refused calls, which do not count.
abbrev counted : List Event
counted =
    (1 sends Retire ⇒ ok 5) ∷ (2 sends Retire ⇒ ok 5) ∷ (1 sends Retire ⇒ ok 6) ∷ (1 sends Retire ⇒ refused_with 14) ∷ (1 sends Retire ⇒ ok 5) ∷ (1 sends Collect ⇒ ok 0) ∷ (1 sends Collect ⇒ ok 5)
    ∷ (2 sends Collect ⇒ ok 5) ∷ (1 sends Collect ⇒ ok 6) ∷ (1 sends Collect ⇒ refused_with 5) ∷ (1 sends Take 1 1 ⇒ ok 5) ∷ (1 sends Drop 1 ⇒ ok 5) ∷ (1 sends Swap 1 5 ⇒ ok 5) ∷ []

-- retirements, hand-backs and collects of desk 1; its retirements and hand-backs of 5; the same of desk 2
abbrev counts_of : ℕ → List ℕ
counts_of d = retirements d counted ∷ hand_backs d counted ∷ collects_of d counted ∷ retirements_of d 5 counted ∷ hand_backs_of d 5 counted ∷ []

pub counts-by_desk : (counts_of 1 ≡ 3 ∷ 2 ∷ 3 ∷ 2 ∷ 1 ∷ []) × (counts_of 2 ≡ 1 ∷ 1 ∷ 1 ∷ 1 ∷ 1 ∷ [])
counts-by_desk = (refl, refl)

-- ---- Links. Desk 2 takes 5 at position 2 onto its screen 2. Desk 1 swaps it off at index 5 and retires it at index 9; desk 2 drops it at
-- index 12. The history also has others of each that are not the next: at another position, of another screen or desk, refused, or later.
abbrev linked_history : List Event
linked_history =
    (2 sends Take 2 2 ⇒ ok 5) ∷ (1 sends Swap 1 6 ⇒ ok 0) ∷ (2 sends Drop 1 ⇒ ok 7) ∷ (1 sends Drop 2 ⇒ ok 7) ∷ (1 sends Swap 2 6 ⇒ refused_with 12) ∷ (1 sends Swap 2 6 ⇒ ok 5)
    ∷ (2 sends Swap 2 8 ⇒ ok 6) ∷ (2 sends Retire ⇒ ok 6) ∷ (1 sends Retire ⇒ refused_with 14) ∷ (1 sends Retire ⇒ ok 5) ∷ (1 sends Retire ⇒ ok 9)
    ∷ (2 sends Drop 2 ⇒ refused_with 11) ∷ (2 sends Drop 2 ⇒ ok 5) ∷ (2 sends Drop 2 ⇒ ok 5) ∷ (1 sends Collect ⇒ ok 5) ∷ []

abbrev linked_effects : ℕ → Effect
linked_effects = effect_at linked_history

-- "the next swap that changes the position"
pub next_swap : NextSwap linked_effects 0 2 1 5
next_swap = record {
  later = omega arith;
  here = refl;
  first = λ m other after before swap. none_between_lem (λ m. is_swap_at 2 (linked_effects m)) 0 5 refl m after before (ap (is_swap_at 2) swap);
}

-- not one that comes first; not one at another position, nor by another desk; not the second
pub not-the-next-swap :
    (NextSwap linked_effects 5 2 1 5 → ⊥) × (NextSwap linked_effects 6 2 1 5 → ⊥)
    × (NextSwap linked_effects 0 2 1 1 → ⊥) × (NextSwap linked_effects 0 2 2 5 → ⊥) × (NextSwap linked_effects 0 2 1 4 → ⊥)
    × (NextSwap linked_effects 0 2 2 6 → ⊥)
not-the-next-swap = (
  λ next. omega (arith, next.later),
  λ next. omega (arith, next.later),
  λ next. omega (arith, ap (part 2) next.here),
  λ next. omega (arith, ap (part 1) next.here),
  λ next. omega (arith, ap (part 0) next.here),
  λ next. next.first 5 1 (omega arith) (omega arith) refl,
)

-- "that desk's next accepted retire"
pub next-retire : NextRetire linked_effects 5 1 5 9
next-retire = record {
  later = omega arith;
  here = refl;
  first = λ m session after before retire. none_between_lem (λ m. is_retire_by 1 (linked_effects m)) 5 9 refl m after before (ap (is_retire_by 1) retire);
}

pub not-the-next-retire :
    (NextRetire linked_effects 9 1 5 9 → ⊥) × (NextRetire linked_effects 10 1 5 9 → ⊥)
    × (NextRetire linked_effects 5 1 6 7 → ⊥) × (NextRetire linked_effects 5 1 6 9 → ⊥) × (NextRetire linked_effects 5 1 5 8 → ⊥)
    × (NextRetire linked_effects 5 1 9 10 → ⊥)
not-the-next-retire = (
  λ next. omega (arith, next.later),
  λ next. omega (arith, next.later),
  λ next. omega (arith, ap (part 1) next.here),
  λ next. omega (arith, ap (part 2) next.here),
  λ next. omega (arith, ap (part 0) next.here),
  λ next. next.first 9 5 (omega arith) (omega arith) refl,
)

-- "the next accepted drop of its screen"
pub next-drop : NextDrop linked_effects 0 2 2 12
next-drop = record {
  later = omega arith;
  here = refl;
  first = λ m after before drop. none_between_lem (λ m. is_drop_of 2 2 (linked_effects m)) 0 12 refl m after before (ap (is_drop_of 2 2) drop);
}

pub not-the-next-drop :
    (NextDrop linked_effects 12 2 2 12 → ⊥) × (NextDrop linked_effects 13 2 2 12 → ⊥)
    × (NextDrop linked_effects 0 2 2 2 → ⊥) × (NextDrop linked_effects 0 2 2 3 → ⊥) × (NextDrop linked_effects 0 2 2 11 → ⊥)
    × (NextDrop linked_effects 0 2 2 13 → ⊥)
not-the-next-drop = (
  λ next. omega (arith, next.later),
  λ next. omega (arith, next.later),
  λ next. omega (arith, ap (part 2) next.here),
  λ next. omega (arith, ap (part 1) next.here),
  λ next. omega (arith, ap (part 0) next.here),
  λ next. next.first 12 (omega arith) (omega arith) refl,
)

-- Two indices, neither before the other.
unordered : (j k : ℕ) → (j < k → ⊥) → (k < j → ⊥) → j ≡ k
unordered j k not-before not_after = by_order (dec_le (suc j) k) (dec_le (suc k) j)
  where
    by_order : Dec (suc j ≤ k) → Dec (suc k ≤ j) → j ≡ k
    by_order (yes before) after = absurd (not-before before)
    by_order (no here) (yes after) = absurd (not_after after)
    by_order (no here) (no there) = omega arith

next_swap_is_unique : (f : ℕ → Effect) (i p d j e k : ℕ) → NextSwap f i p d j → NextSwap f i p e k → j ≡ k
next_swap_is_unique f i p d j e k one other =
    unordered j k (λ before. other.first j d one.later before one.here) (λ after. one.first k e other.later after other.here)

next_retire_is_unique : (f : ℕ → Effect) (j d s r s' r' : ℕ) → NextRetire f j d s r → NextRetire f j d s' r' → r ≡ r'
next_retire_is_unique f j d s r s' r' one other =
    unordered r r' (λ before. other.first r s one.later before one.here) (λ after. one.first r' s' other.later after other.here)

-- A take is linked to one retirement.
link_is_unique : (f : ℕ → Effect) (i r r' : ℕ) → Linked f i r → Linked f i r' → r ≡ r'
link_is_unique f i r r' one other =
    let position : one.position ≡ other.position = sym (ap (part 3) one.take) ∙ ap (part 3) other.take in
    let moved = subst (λ (p : ℕ). NextSwap f i p one.swapper one.swap_at) position one.swap in
    let swap_at = next_swap_is_unique f i other.position one.swapper one.swap_at other.swapper other.swap_at moved other.swap in
    let swapper : one.swapper ≡ other.swapper = sym (ap (part 1) one.swap.here) ∙ ap (λ (j : ℕ). part 1 (f j)) swap_at ∙ ap (part 1) other.swap.here in
    next_retire_is_unique f other.swap_at other.swapper one.session r other.session r'
    (subst (λ (d : ℕ). NextRetire f other.swap_at d one.session r) swapper (subst (λ (j : ℕ). NextRetire f j one.swapper one.session r) swap_at one.retire))
    other.retire

-- The take at index 0 is linked to the retirement at index 9, and to no other; a call that is no take is linked to none.
pub linked_take : Linked linked_effects 0 9
linked_take = record {
  desk = 2;
  screen = 2;
  position = 2;
  shown = 5;
  take = refl;
  swapper = 1;
  swap_at = 5;
  swap = next_swap;
  session = 5;
  retire = next-retire;
}

pub linked_to_no_other : (r : ℕ) → Linked linked_effects 0 r → r ≡ 9
linked_to_no_other r link = link_is_unique linked_effects 0 r 9 link linked_take

pub no_take_no_link : Linked linked_effects 1 9 → ⊥
no_take_no_link link = omega (arith, ap (part 0) link.take)

-- A take is not dropped before an index if there is no drop of its screen between them.
not_dropped : (f : ℕ → Effect) (i h d c p s : ℕ) → f i ≡ takes c p s by d → none_between (λ m. is_drop_of d c (f m)) i h ≡ true → DroppedBefore f i h → ⊥
not_dropped f i h d c p s take none dropped =
    let desk : dropped.desk ≡ d = sym (ap (part 1) dropped.take) ∙ ap (part 1) take in
    let screen : dropped.screen ≡ c = sym (ap (part 2) dropped.take) ∙ ap (part 2) take in
    let here : f dropped.drop_at ≡ drops c by d = subst (λ (x : ℕ). f dropped.drop_at ≡ drops c by x) desk (subst (λ (x : ℕ). f dropped.drop_at ≡ drops x by dropped.desk) screen dropped.drop.here) in
    none_between_lem (λ m. is_drop_of d c (f m)) i h none dropped.drop_at dropped.drop.later dropped.before
    (ap (is_drop_of d c) here ∙ and-true (eqb d d) (eqb c c) (eq-eqb d d refl) (eq-eqb c c refl))

-- It was dropped before index 13, and not before index 12.
pub dropped_take : DroppedBefore linked_effects 0 13
dropped_take = record {
  desk = 2;
  screen = 2;
  position = 2;
  shown = 5;
  take = refl;
  drop_at = 12;
  drop = next-drop;
  before = omega arith;
}

pub not_dropped_yet : DroppedBefore linked_effects 0 12 → ⊥
not_dropped_yet = not_dropped linked_effects 0 12 2 2 2 5 refl refl

-- A drop before the take is not the take's.
pub dropped_too_soon : DroppedBefore (effect_at ((1 sends Drop 1 ⇒ ok 5) ∷ (1 sends Take 1 1 ⇒ ok 5) ∷ (1 sends Collect ⇒ ok 0) ∷ [])) 1 3 → ⊥
dropped_too_soon = not_dropped (effect_at ((1 sends Drop 1 ⇒ ok 5) ∷ (1 sends Take 1 1 ⇒ ok 5) ∷ (1 sends Collect ⇒ ok 0) ∷ [])) 1 3 1 1 1 5 refl refl

-- ---- Links across repeats, in a history that the rules compute. Desk 2 takes 5 at index 1. Both desks repeat the swap of 5. Desk 1 changes
-- the position at index 4 and retires 5 at index 6; the repeats at indices 5 and 10 are answered 12 and 0. Desk 2 drops 5 at index 8.
abbrev pub repeated : List Call
repeated =
    1 sends Swap 1 5 ∷ 2 sends Take 1 1 ∷ 2 sends Swap 1 5 ∷ 1 sends Swap 1 5 ∷ 1 sends Swap 1 6 ∷ 1 sends Swap 1 6 ∷ 1 sends Retire
    ∷ 1 sends Collect ∷ 2 sends Drop 1 ∷ 1 sends Collect ∷ 1 sends Swap 1 6 ∷ []

pub repeated_answers : answers_of (history_of (hall_of 2 1 1) 50 repeated) ≡ ok 0 ∷ ok 5 ∷ ok 5 ∷ ok 5 ∷ ok 5 ∷ refused_with 12 ∷ map ok (5 ∷ 0 ∷ 5 ∷ 5 ∷ 6 ∷ [])
unfolding open_table step_table sound record_sound encode_desk decode_desk
repeated_answers = refl

abbrev repeated_effects : ℕ → Effect
repeated_effects = effect_at (history_of (hall_of 2 1 1) 50 repeated)

-- "Takes link to the next swap that changes the position": neither desk's repeat is that swap.
pub next_change : NextSwap repeated_effects 1 1 1 4
unfolding open_table step_table sound record_sound encode_desk decode_desk
next_change = record {
  later = omega arith;
  here = refl;
  first = λ m other after before swap. none_between_lem (λ m. is_swap_at 1 (repeated_effects m)) 1 4 refl m after before (ap (is_swap_at 1) swap);
}

pub not_the_next_change : (NextSwap repeated_effects 1 1 2 2 → ⊥) × (NextSwap repeated_effects 1 1 1 3 → ⊥)
unfolding open_table step_table sound record_sound encode_desk decode_desk
not_the_next_change = (λ next. omega (arith, ap (part 0) next.here), λ next. omega (arith, ap (part 0) next.here))

pub linked_across_repeats : Linked repeated_effects 1 6
unfolding open_table step_table sound record_sound encode_desk decode_desk
linked_across_repeats = record {
  desk = 2;
  screen = 1;
  position = 1;
  shown = 5;
  take = refl;
  swapper = 1;
  swap_at = 4;
  swap = next_change;
  session = 5;
  retire = record {
    later = omega arith;
    here = refl;
    first = λ m session after before retire. none_between_lem (λ m. is_retire_by 1 (repeated_effects m)) 4 6 refl m after before (ap (is_retire_by 1) retire);
  };
}

-- ---- "a desk that collects at least once between any two of its retires"

-- "The retires that need an accepted collect between them are those answered 0 or 14; others may come anywhere." So may another desk's.
abbrev spaced : List Event
spaced =
    (1 sends Retire ⇒ ok 5) ∷ (1 sends Retire ⇒ refused_with 13) ∷ (2 sends Retire ⇒ ok 6) ∷ (1 sends Collect ⇒ ok 0) ∷ (1 sends Retire ⇒ refused_with 14) ∷ (1 sends Collect ⇒ ok 5)
    ∷ (1 sends Retire ⇒ ok 5) ∷ []

pub collects_between_lem : CollectsBetweenRetires (effect_at spaced) 1
collects_between_lem = collects_between_retires 1 spaced refl

-- On a board of S = 1: desk 1 shows 5 and collects between its retires, and its list is full (2S = 2) after the second.
abbrev pub full : List Call
full = 1 sends Swap 1 5 ∷ 1 sends Take 1 1 ∷ 1 sends Swap 1 6 ∷ 1 sends Retire ∷ 1 sends Collect ∷ 1 sends Swap 1 7 ∷ 1 sends Retire ∷ []

pub full_collects_between_retires : CollectsBetweenRetires (effect_at (history_of (hall_of 1 1 1) 21 full)) 1
unfolding open_table step_table sound record_sound encode_desk decode_desk
full_collects_between_retires = collects_between_retires 1 (history_of (hall_of 1 1 1) 21 full) refl

pub full_list : retirements 1 (history_of (hall_of 1 1 1) 21 full) ≡ hand_backs 1 (history_of (hall_of 1 1 1) 21 full) + 2
unfolding open_table step_table sound record_sound encode_desk decode_desk
full_list = refl

-- A collect before both retires, one after both, another desk's and a refused one are not between them.
not_between : (es : List Event) (d i j : ℕ) → i < j → is_retire_attempt (by_desk d (effect_at es i)) ≡ true → is_retire_attempt (by_desk d (effect_at es j)) ≡ true
    → none_between (λ m. is_collect (by_desk d (effect_at es m))) i j ≡ true → CollectsBetweenRetires (effect_at es) d → ⊥
not_between es d i j order first second none claim =
    let collect = claim i j order first second in
    none_between_lem (λ m. is_collect (by_desk d (effect_at es m))) i j none collect.index collect.after collect.before collect.here

abbrev collects_elsewhere : Answer → Answer → List Event
collects_elsewhere first second =
    (1 sends Collect ⇒ ok 0) ∷ (1 sends Retire ⇒ first) ∷ (2 sends Collect ⇒ ok 0) ∷ (1 sends Collect ⇒ refused_with 5) ∷ (2 sends Collect ⇒ ok 5) ∷ (1 sends Retire ⇒ second)
    ∷ (1 sends Collect ⇒ ok 0) ∷ []

-- both accepted, and one of them refused with 14
pub no-collect-between :
    (CollectsBetweenRetires (effect_at (collects_elsewhere (ok 5) (ok 6))) 1 → ⊥)
    × (CollectsBetweenRetires (effect_at (collects_elsewhere (refused_with 14) (ok 6))) 1 → ⊥)
    × (CollectsBetweenRetires (effect_at (collects_elsewhere (ok 5) (refused_with 14))) 1 → ⊥)
no-collect-between = (
  not_between (collects_elsewhere (ok 5) (ok 6)) 1 1 5 (omega arith) refl refl refl,
  not_between (collects_elsewhere (refused_with 14) (ok 6)) 1 1 5 (omega arith) refl refl refl,
  not_between (collects_elsewhere (ok 5) (refused_with 14)) 1 1 5 (omega arith) refl refl refl,
)

-- ---- "A screen shows a session from the accepted take that replied it up to the next accepted drop of that screen."
-- Desk 2's screen 2 shows 5 from its take at index 1 to its drop at index 4; drops of another screen and of another desk are between.
abbrev shown_history : List Event
shown_history =
    (1 sends Collect ⇒ ok 0) ∷ (2 sends Take 2 3 ⇒ ok 5) ∷ (2 sends Drop 1 ⇒ ok 5) ∷ (1 sends Drop 2 ⇒ ok 5) ∷ (2 sends Drop 2 ⇒ ok 5) ∷ (1 sends Collect ⇒ ok 0) ∷ []

abbrev shown_effects : ℕ → Effect
shown_effects = effect_at shown_history

-- from just after index 1 to just before index 4
shows_before : (n : ℕ) → 1 < n → n ≤ 4 → Shows shown_effects n 2 2 5
shows_before n taken before = record {
  taken_at = 1;
  position = 3;
  earlier = taken;
  take = refl;
  undropped = λ m after earlier drop. none_between_lem (λ m. is_drop_of 2 2 (shown_effects m)) 1 4 refl m after (omega arith) (ap (is_drop_of 2 2) drop);
}

pub shows_from_take_to_drop : Shows shown_effects 2 2 2 5 × Shows shown_effects 4 2 2 5
shows_from_take_to_drop = (shows_before 2 (omega arith) (omega arith), shows_before 4 (omega arith) (omega arith))

-- there is one take
module _ (n d c s : ℕ) (shows : Shows shown_effects n d c s) where
  only_take : shows.taken_at ≡ 1
  only_take = only_at (λ action. eqb (part 0 (action by 0)) 1) refl shown_history 1 refl shows.taken_at (ap (λ (e : Effect). eqb (part 0 (e.action by 0)) 1) shows.take)

  the_take : takes 2 3 5 by 2 ≡ takes c shows.position s by d
  the_take = sym (ap shown_effects only_take) ∙ shows.take

-- not before the take; not after the drop; not on another desk's or another screen; not another session
pub shows-nothing-else :
    (Shows shown_effects 1 2 2 5 → ⊥) × (Shows shown_effects 5 2 2 5 → ⊥)
    × (Shows shown_effects 4 1 2 5 → ⊥) × (Shows shown_effects 4 2 1 5 → ⊥) × (Shows shown_effects 4 2 2 6 → ⊥)
shows-nothing-else = (
  λ shows. omega (arith, shows.earlier, only_take 1 2 2 5 shows),
  λ shows. shows.undropped 4 (omega (arith, only_take 5 2 2 5 shows)) (omega arith) refl,
  λ shows. omega (arith, ap (part 1) (the_take 4 1 2 5 shows)),
  λ shows. omega (arith, ap (part 2) (the_take 4 2 1 5 shows)),
  λ shows. omega (arith, ap (part 4) (the_take 4 2 2 6 shows)),
)

-- "no screen shows the session from then": just after one index, and on to just before another. After the drop, 5 is not shown; nor up to
-- the take itself; another session never is.
pub unshown_outside : Unshown shown_effects 5 4 9 × Unshown shown_effects 5 0 1 × Unshown shown_effects 6 0 9
unshown_outside = (
  λ n d c after before shows. dropped n d c after shows,
  λ n d c after before shows. omega (arith, shows.earlier, only_take n d c 5 shows),
  never_shown 6 shown_history refl 0 9,
)
  where
    dropped : (n d c : ℕ) → 4 < n → Shows shown_effects n d c 5 → ⊥
    dropped n d c after shows =
        let desk : 2 ≡ d = ap (part 1) (the_take n d c 5 shows) in
        let screen : 2 ≡ c = ap (part 2) (the_take n d c 5 shows) in
        shows.undropped 4 (omega (arith, only_take n d c 5 shows)) after (ap (λ (screen : ℕ). drops screen by 2) screen ∙ ap (λ (desk : ℕ). drops c by desk) desk)

-- A take before the first index still counts, up to its drop; and so does a take before the last.
pub shown_inside : (Unshown shown_effects 5 3 9 → ⊥) × (Unshown shown_effects 5 0 2 → ⊥)
shown_inside = (
  λ unshown. unshown 4 2 2 (omega arith) (omega arith) (shows_before 4 (omega arith) (omega arith)),
  λ unshown. unshown 2 2 2 (omega arith) (omega arith) (shows_before 2 (omega arith) (omega arith)),
)

-- ---- Demand 2, the guarantee. Case D, computed by the rules: the take at index 1 is linked to the retirement at index 3, and the hand-back
-- at index 6 is paired with it.
abbrev pub case_d : List Call
case_d = 1 sends Swap 1 300 ∷ 1 sends Take 1 1 ∷ 1 sends Swap 1 7 ∷ 1 sends Retire ∷ 1 sends Collect ∷ 1 sends Drop 1 ∷ 1 sends Collect ∷ 1 sends Retire ∷ []

-- a take, its swap at the next index, its retirement at the one after that
abbrev linked_at_once : (f : ℕ → Effect) (i d c p v e s : ℕ) → f i ≡ takes c p v by d → f (suc i) ≡ swaps p by e → f (suc (suc i)) ≡ retires s by e
    → Linked f i (suc (suc i))
linked_at_once f i d c p v e s t w r = record {
  desk = d;
  screen = c;
  position = p;
  shown = v;
  take = t;
  swapper = e;
  swap_at = suc i;
  swap = record { later = omega arith; here = w; first = λ m x a b. absurd (omega arith) };
  session = s;
  retire = record { later = omega arith; here = r; first = λ m x a b. absurd (omega arith) };
}

-- the only retirement of a session is the one that its hand-back is paired with
paired_with : (es : List Event) (r h d s : ℕ) → indices_where (is_retirement_of s) 0 es ≡ r ∷ [] → effect_at es h ≡ hands_back s by d
    → (g : Guarantee (effect_at es)) → g.pair h ≡ r
paired_with es r h d s only back g =
    only_at (is_retirement_of s) refl es r only (g.pair h) (ap (λ (x : Effect). is_retirement_of s x.action) (g.same h d s back) ∙ eq-eqb s s refl)

pub linked_in_D : Linked (effect_at (history_of (hall_of 1 1 1) 21 case_d)) 1 3
unfolding open_table step_table sound record_sound encode_desk decode_desk
linked_in_D = linked_at_once (effect_at (history_of (hall_of 1 1 1) 21 case_d)) 1 1 1 1 300 1 300 refl refl refl

pub paired_in_D : (g : Guarantee (effect_at (history_of (hall_of 1 1 1) 21 case_d))) → g.pair 6 ≡ 3
unfolding open_table step_table sound record_sound encode_desk decode_desk
paired_in_D g = paired_with (history_of (hall_of 1 1 1) 21 case_d) 3 6 1 300 refl refl g

-- The guarantee admits a hand-back by desk 2 at index 2, paired with the retirement at index 0.
abbrev back_once : List Event
back_once = (2 sends Retire ⇒ ok 5) ∷ (1 sends Retire ⇒ ok 6) ∷ (2 sends Collect ⇒ ok 5) ∷ []

pub admits_a_pairing : Guarantee (effect_at back_once)
admits_a_pairing = record {
  pair = λ h. 0;
  earlier = λ h d s back. omega (arith, only_back h d s back);
  same = λ h d s back. retired h d s back;
  once = λ h d s other e session back another same. only_back h d s back ∙ sym (only_back other e session another);
  dropped = λ h d s i back link. absurd (nowhere is_take refl back_once refl i (ap (λ (e : Effect). is_take e.action) link.take));
}
  where
    is_take : Action → Bool
    is_take action = eqb (part 0 (action by 0)) 1

    only_back : (h d s : ℕ) → effect_at back_once h ≡ hands_back s by d → h ≡ 2
    only_back h d s back = only_at is_hand_back refl back_once 2 refl h (ap (λ (e : Effect). is_hand_back e.action) back)

    retired : (h d s : ℕ) → effect_at back_once h ≡ hands_back s by d → retires 5 by 2 ≡ retires s by d
    retired h d s back =
        let at : hands_back 5 by 2 ≡ hands_back s by d = sym (ap (effect_at back_once) (only_back h d s back)) ∙ back in
        ap (λ (session : ℕ). retires session by 2) (ap (part 2) at) ∙ ap (λ (desk : ℕ). retires s by desk) (ap (part 1) at)

-- In the history with repeats, the hand-back at index 9 is paired with the retirement at index 6.
pub paired_across_repeats : (g : Guarantee (effect_at (history_of (hall_of 2 1 1) 50 repeated))) → g.pair 9 ≡ 6
unfolding open_table step_table sound record_sound encode_desk decode_desk
paired_across_repeats g = paired_with (history_of (hall_of 2 1 1) 50 repeated) 6 9 1 5 refl refl g

-- ---- Answers that the guarantee refuses, one field at a time.

-- "hand-backs can be paired with earlier retirements": the only retirement of 5 comes after its hand-back
pub refuses_later_retirement : Guarantee (effect_at ((1 sends Collect ⇒ ok 5) ∷ (1 sends Retire ⇒ ok 5) ∷ [])) → ⊥
refuses_later_retirement g = omega (arith, g.earlier 0 1 5 refl)

-- "of the same session": 6 was retired; "by the same desk": desk 2 retired it
pub refuses_another_session : Guarantee (effect_at ((1 sends Retire ⇒ ok 6) ∷ (1 sends Collect ⇒ ok 5) ∷ [])) → ⊥
refuses_another_session g =
    nowhere (is_retirement_of 5) refl ((1 sends Retire ⇒ ok 6) ∷ (1 sends Collect ⇒ ok 5) ∷ []) refl (g.pair 1)
    (ap (λ (x : Effect). is_retirement_of 5 x.action) (g.same 1 1 5 refl))

pub refuses_another_desk : Guarantee (effect_at ((2 sends Retire ⇒ ok 5) ∷ (1 sends Collect ⇒ ok 5) ∷ [])) → ⊥
refuses_another_desk g =
    let history = (2 sends Retire ⇒ ok 5) ∷ (1 sends Collect ⇒ ok 5) ∷ [] in
    let paired : g.pair 1 ≡ 0 = only_at (is_retirement_of 5) refl history 0 refl (g.pair 1) (ap (λ (x : Effect). is_retirement_of 5 x.action) (g.same 1 1 5 refl)) in
    omega (arith, ap (part 1) (sym (ap (effect_at history) paired) ∙ g.same 1 1 5 refl))

-- "none twice": one retirement, and two hand-backs
abbrev back_twice : List Event
back_twice = (3 sends Retire ⇒ ok 5) ∷ (3 sends Collect ⇒ ok 5) ∷ (3 sends Collect ⇒ ok 5) ∷ []

pub refuses_paired_twice : Guarantee (effect_at back_twice) → ⊥
refuses_paired_twice g =
    omega (arith, g.once 1 3 5 2 3 5 refl refl (paired_with back_twice 0 1 3 5 refl refl g ∙ sym (paired_with back_twice 0 2 3 5 refl refl g)))

-- "each take linked to a retirement was dropped before its hand-back": the only retirement of 5, at index 4, is linked to the take at
-- index 2, of desk 2's screen 1. Its screen is dropped before the take, another screen and another desk's between, and its own only after
-- the hand-back at index 7.
abbrev dropped_late : List Event
dropped_late =
    (1 sends Swap 1 5 ⇒ ok 0) ∷ (2 sends Drop 1 ⇒ ok 6) ∷ (2 sends Take 1 1 ⇒ ok 5) ∷ (1 sends Swap 1 0 ⇒ ok 5) ∷ (1 sends Retire ⇒ ok 5) ∷ (2 sends Drop 2 ⇒ ok 7) ∷ (1 sends Drop 1 ⇒ ok 7)
    ∷ (1 sends Collect ⇒ ok 5) ∷ (2 sends Drop 1 ⇒ ok 5) ∷ []

pub refuses_dropped_late : Guarantee (effect_at dropped_late) → ⊥
refuses_dropped_late g =
    let paired = paired_with dropped_late 4 7 1 5 refl refl g in
    not_dropped (effect_at dropped_late) 2 7 2 1 1 5 refl refl
    (g.dropped 7 1 5 2 refl (subst (Linked (effect_at dropped_late) 2) (sym paired) (linked_at_once (effect_at dropped_late) 2 2 1 1 5 1 5 refl refl refl)))

-- Nothing is ever dropped, and yet a session is handed back, every retirement of which
-- has a take linked to it. Each list is what a board with one of the tempting errors would answer.
module _ (es : List Event) (h d s : ℕ) (none : indices_where is_drop 0 es ≡ []) (back : effect_at es h ≡ hands_back s by d) where
  never_dropped : (i : ℕ) → DroppedBefore (effect_at es) i h → ⊥
  never_dropped i b = nowhere is_drop refl es none b.drop_at (ap (λ (x : Effect). is_drop x.action) b.drop.here)

  -- every retirement with which the hand-back could be paired is linked to a take
  refuses : ((r : ℕ) → effect_at es r ≡ retires s by d → (i : ℕ) × Linked (effect_at es) i r) → Guarantee (effect_at es) → ⊥
  refuses linked g =
      let k = linked (g.pair h) (g.same h d s back) in
      never_dropped k.0 (g.dropped h d s k.0 back k.1)

  -- and so where there is only one, at the second index after a take, and its swap between them
  refuses_one : (i x c p : ℕ) → indices_where (is_retirement_of s) 0 es ≡ suc (suc i) ∷ [] → effect_at es i ≡ takes c p s by x → effect_at es (suc i) ≡ swaps p by d
      → effect_at es (suc (suc i)) ≡ retires s by d → Guarantee (effect_at es) → ⊥
  refuses_one i x c p only take swap retire = refuses linked
    where
      linked : (r : ℕ) → effect_at es r ≡ retires s by d → (i : ℕ) × Linked (effect_at es) i r
      linked r e =
          let there : r ≡ suc (suc i) = only_at (is_retirement_of s) refl es (suc (suc i)) only r (ap (λ (x : Effect). is_retirement_of s x.action) e ∙ eq-eqb s s refl) in
          (i, subst (Linked (effect_at es) i) (sym there) (linked_at_once (effect_at es) i x c p s d s take swap retire))

-- a session handed back while it is shown, because a repeat by another desk came between its take and the swap that replaced it
abbrev repeat_ends_link : List Event
repeat_ends_link =
    (1 sends Swap 1 5 ⇒ ok 0) ∷ (2 sends Take 1 1 ⇒ ok 5) ∷ (2 sends Swap 1 5 ⇒ ok 5) ∷ (1 sends Swap 1 0 ⇒ ok 5) ∷ (1 sends Retire ⇒ ok 5) ∷ (1 sends Collect ⇒ ok 5) ∷ []

pub refuses_repeat_ends_link : Guarantee (effect_at repeat_ends_link) → ⊥
refuses_repeat_ends_link = refuses repeat_ends_link 5 1 5 refl refl linked
  where
    linked : (r : ℕ) → effect_at repeat_ends_link r ≡ retires 5 by 1 → (i : ℕ) × Linked (effect_at repeat_ends_link) i r
    linked r e =
        let there : r ≡ 4 = only_at (is_retirement_of 5) refl repeat_ends_link 4 refl r (ap (λ (x : Effect). is_retirement_of 5 x.action) e) in (
          1,
          subst (Linked (effect_at repeat_ends_link) 1) (sym there) (record {
            desk = 2;
            screen = 1;
            position = 1;
            shown = 5;
            take = refl;
            swapper = 1;
            swap_at = 3;
            swap = record {
              later = omega arith;
              here = refl;
              first = λ m other after before swap. none_between_lem (λ m. is_swap_at 1 (effect_at repeat_ends_link m)) 1 3 refl m after before (ap (is_swap_at 1) swap);
            };
            session = 5;
            retire = record { later = omega arith; here = refl; first = λ m session after before. absurd (omega arith) };
          }),
        )

-- error 4, the desk's own screen not read
abbrev own_skipped : List Event
own_skipped = (1 sends Swap 1 5 ⇒ ok 0) ∷ (1 sends Take 1 1 ⇒ ok 5) ∷ (1 sends Swap 1 0 ⇒ ok 5) ∷ (1 sends Retire ⇒ ok 5) ∷ (1 sends Collect ⇒ ok 5) ∷ []

pub refuses_own_skipped : Guarantee (effect_at own_skipped) → ⊥
refuses_own_skipped = refuses_one own_skipped 4 1 5 refl refl 1 1 1 1 refl refl refl refl

-- error 2, a session retired in mid-reading joins the tested ones, and a screen that was read before shows it
abbrev joined_late : List Event
joined_late =
    (1 sends Swap 1 7 ⇒ ok 0) ∷ (1 sends Swap 1 5 ⇒ ok 7) ∷ (1 sends Retire ⇒ ok 7) ∷ (1 sends Collect ⇒ ok 0) ∷ (1 sends Take 1 1 ⇒ ok 5) ∷ (1 sends Swap 1 0 ⇒ ok 5) ∷ (1 sends Retire ⇒ ok 5)
    ∷ (1 sends Collect ⇒ ok 7) ∷ (1 sends Collect ⇒ ok 5) ∷ []

pub refuses_joined_late : Guarantee (effect_at joined_late) → ⊥
refuses_joined_late = refuses_one joined_late 8 1 5 refl refl 4 1 1 1 refl refl refl refl

-- error 3, one slot marked for two screens that show 5, each linked to a retirement of its own
abbrev marked_twice : List Event
marked_twice =
    (1 sends Swap 1 5 ⇒ ok 0) ∷ (1 sends Swap 2 5 ⇒ ok 0) ∷ (1 sends Take 1 1 ⇒ ok 5) ∷ (1 sends Swap 1 0 ⇒ ok 5) ∷ (1 sends Retire ⇒ ok 5) ∷ (2 sends Take 1 2 ⇒ ok 5) ∷ (1 sends Swap 2 0 ⇒ ok 5)
    ∷ (1 sends Retire ⇒ ok 5) ∷ (1 sends Collect ⇒ ok 5) ∷ []

pub refuses_marked_twice : Guarantee (effect_at marked_twice) → ⊥
refuses_marked_twice =
    refuses marked_twice 8 1 5 refl refl
    (λ r e. one_of_two_lem (λ (m : ℕ). (i : ℕ) × Linked (effect_at marked_twice) i m) (is_retirement_of 5) refl marked_twice 4 7 refl
    (2, linked_at_once (effect_at marked_twice) 2 1 1 1 5 1 5 refl refl refl)
    (5, linked_at_once (effect_at marked_twice) 5 2 1 2 5 1 5 refl refl refl) r (ap (λ (x : Effect). is_retirement_of 5 x.action) e))

-- ---- A pairing need not go in order: the first of two retirements of 5 is linked to a take that still shows it, so the hand-back
-- is paired with the second.
abbrev out_of_order : List Call
out_of_order = 1 sends Swap 1 5 ∷ 2 sends Take 1 1 ∷ 1 sends Swap 1 0 ∷ 1 sends Retire ∷ 1 sends Swap 1 5 ∷ 1 sends Swap 1 0 ∷ 1 sends Retire ∷ 1 sends Collect ∷ []

pub pairs_the_second : (g : Guarantee (effect_at (history_of (hall_of 2 1 1) 50 out_of_order))) → g.pair 7 ≡ 6
unfolding open_table step_table sound record_sound encode_desk decode_desk
pairs_the_second g =
    one_of_two_lem (λ (m : ℕ). g.pair 7 ≡ m → m ≡ 6) (is_retirement_of 5) refl history 3 6 refl (λ q. absurd (not_the_first q)) (λ q. refl) (g.pair 7)
    (ap (λ (x : Effect). is_retirement_of 5 x.action) (g.same 7 1 5 refl)) refl
  where
    history : List Event
    history = history_of (hall_of 2 1 1) 50 out_of_order

    first_linked : Linked (effect_at history) 1 3
    first_linked = linked_at_once (effect_at history) 1 2 1 1 5 1 5 refl refl refl

    not_the_first : g.pair 7 ≡ 3 → ⊥
    not_the_first q =
        never_dropped history 7 1 5 refl refl 1
        (g.dropped 7 1 5 1 refl (subst (Linked (effect_at history) 1) (sym q) first_linked))

-- ---- Demand 2, its fields other than the guarantee. A hall of 1, 1, 1 whose table stays as it was opened.
abbrev empty_tables : ℕ → List ℕ
empty_tables i = 1 ∷ 1 ∷ 1 ∷ replicate 18 0

-- a take of 5 is linked to a retirement of 6
abbrev retires_another : List Event
retires_another = (1 sends Take 1 1 ⇒ ok 5) ∷ (1 sends Swap 1 0 ⇒ ok 5) ∷ (1 sends Retire ⇒ ok 6) ∷ []

pub refuses_linked_session : Demand2 (hall_of 1 1 1) retires_another empty_tables → ⊥
refuses_linked_session demand =
    let same : ◌≡◌ {A = ℕ} 5 6 = demand.sessions 0 2 (linked_at_once (effect_at retires_another) 0 1 1 1 5 1 6 refl refl refl) in
    omega arith

-- A desk's list and the sum of its counts, in the wide hall of Cases: desks 1 and 2, and desks 0 and 3, which the hall does not have.
pub lists-of-desks :
    (map (list_of_desk wide wide_words) (0 ∷ 1 ∷ 2 ∷ 3 ∷ []) ≡ [] ∷ (20 ∷ []) ∷ (17 ∷ 11 ∷ 12 ∷ 65535 ∷ 19 ∷ 13 ∷ 18 ∷ []) ∷ [] ∷ [])
    × (map (counts_of_desk wide wide_words) (0 ∷ 1 ∷ 2 ∷ 3 ∷ []) ≡ 0 ∷ 1 ∷ 7 ∷ 0 ∷ [])
lists-of-desks = (refl, refl)

-- "Per desk and session, accepted retirements equal hand-backs plus copies on the list": 5 was retired, and the list is empty, or holds 6,
-- or the copy is on another desk's list
abbrev one_retired : List Event
one_retired = (1 sends Retire ⇒ ok 5) ∷ []

-- 2 desks with 1 screen each and 1 position; each has one session waiting
abbrev waiting_tables : ℕ → ℕ → ℕ → List ℕ
waiting_tables first second i =
    (2 ∷ 1 ∷ 1 ∷ 0 ∷ 0 ∷ 0 ∷ []) ++ (waiting first ++ waiting second)
  where
    waiting : ℕ → List ℕ
    waiting session = (0 ∷ 0 ∷ 0 ∷ 0 ∷ 1 ∷ replicate 8 0) ++ (session ∷ 0 ∷ 0 ∷ 0 ∷ 0 ∷ [])

-- desk 2's list and counts there, in a hall with more desks than screens per desk
pub lists_of_two : (list_of_desk (hall_of 2 1 1) (waiting_tables 6 5 0) 2 ≡ 5 ∷ []) × (counts_of_desk (hall_of 2 1 1) (waiting_tables 6 5 0) 2 ≡ 1)
lists_of_two = (refl, refl)

pub refuses_copies : (Demand2 (hall_of 1 1 1) one_retired empty_tables → ⊥) × (Demand2 (hall_of 2 1 1) one_retired (waiting_tables 6 5) → ⊥)
refuses_copies = (λ demand. omega (arith, demand.counts 1 5 1), λ demand. omega (arith, demand.counts 1 5 1))

-- ---- Demand 3. With S = 1 a desk that retires and does not collect between is answered 14: so "out of room" happens, and the premise of
-- room is needed.
abbrev never_collects : List Call
never_collects = retiring 3 ++ (retiring 4 ++ retiring 5)

pub meets_14 : effect_at (history_of (hall_of 1 1 1) 21 never_collects) 8 ≡ out_of_room by 1
unfolding open_table step_table sound record_sound encode_desk decode_desk
meets_14 = refl

pub meets_14_uncollected : CollectsBetweenRetires (effect_at (history_of (hall_of 1 1 1) 21 never_collects)) 1 → ⊥
unfolding open_table step_table sound record_sound encode_desk decode_desk
meets_14_uncollected = not_between (history_of (hall_of 1 1 1) 21 never_collects) 1 2 5 (omega arith) refl refl refl

-- "never has a retire refused for want of room": the first retire is
abbrev refused_at_once : List Event
refused_at_once = (1 sends Retire ⇒ refused_with 14) ∷ []

pub refuses_no_room : Demand3 (hall_of 1 1 1) refused_at_once empty_tables → ⊥
refuses_no_room demand = demand.room 1 (collects_between_retires 1 refused_at_once refl) 0 refl

-- "at most twice the hall's screens on its list": three, with S = 1
abbrev three_retired : List Event
three_retired = (1 sends Retire ⇒ ok 5) ∷ (1 sends Retire ⇒ ok 5) ∷ (1 sends Retire ⇒ ok 5) ∷ []

pub refuses_long_list : Demand3 (hall_of 1 1 1) three_retired empty_tables → ⊥
refuses_long_list demand = omega (arith, demand.list 1 3)

-- "and this equals the sum of its three counts": one retired, and the counts are 0, or 2
pub refuses_counts : (Demand3 (hall_of 1 1 1) one_retired empty_tables → ⊥) × (Demand3 (hall_of 1 1 1) one_retired (λ i. 1 ∷ 1 ∷ 1 ∷ 0 ∷ 0 ∷ 0 ∷ 0 ∷ 1 ∷ 0 ∷ 1 ∷ replicate 11 5) → ⊥)
refuses_counts = (λ demand. omega (arith, demand.counts 1 1), λ demand. omega (arith, demand.counts 1 1))

-- "three more times for each screen of the hall": 5 is not back after three collects, with S = 1
abbrev not_back : List Event
not_back = (1 sends Retire ⇒ ok 5) ∷ (1 sends Collect ⇒ ok 0) ∷ (1 sends Collect ⇒ ok 0) ∷ (1 sends Collect ⇒ ok 0) ∷ []

pub refuses_not_back : Demand3 (hall_of 1 1 1) not_back empty_tables → ⊥
refuses_not_back demand =
    let late : 1 ≤ 0 = demand.back 1 5 0 3 refl refl (never_shown 5 not_back refl 0 3) in
    omega arith

-- "the desk's hand-backs of that session are by then at least as many as its accepted retirements of it": two retired and one back; another
-- session back; back to another desk. Another desk's collects do not count.
abbrev one_of_two : List Event
one_of_two = (1 sends Retire ⇒ ok 5) ∷ (1 sends Retire ⇒ ok 5) ∷ (1 sends Collect ⇒ ok 5) ∷ (1 sends Collect ⇒ ok 0) ∷ []

abbrev another_back : List Event
another_back = (1 sends Retire ⇒ ok 5) ∷ (2 sends Collect ⇒ ok 5) ∷ (1 sends Collect ⇒ ok 6) ∷ (2 sends Collect ⇒ ok 5) ∷ []

pub refuses_too_few_back : (HandedBackWithin 2 one_of_two → ⊥) × (HandedBackWithin 1 another_back → ⊥)
refuses_too_few_back = (two, another)
  where
    two : HandedBackWithin 2 one_of_two → ⊥
    two claim = let late : 2 ≤ 1 = claim 1 5 1 3 refl refl (never_shown 5 one_of_two refl 1 3) in omega arith

    another : HandedBackWithin 1 another_back → ⊥
    another claim = let late : 1 ≤ 0 = claim 1 5 0 3 refl refl (never_shown 5 another_back refl 0 3) in omega arith

-- ---- The sharper bound, 8 collects for S = 3, is reached: all three screens show what is tested, so nothing is ready when 5 is
-- retired in mid-reading, and five sessions are before it in the next reading. After 7 collects it is not back.
abbrev shown : ℕ → ℕ → List Call
shown d session = 1 sends Swap 1 session ∷ d sends Take 1 1 ∷ 1 sends Swap 1 0 ∷ 1 sends Retire ∷ []

abbrev pub slowest : List Call
slowest =
    shown 1 11 ++ (shown 2 12 ++ (shown 3 13 ++ (1 sends Collect ∷ retiring 21 ++ (retiring 22 ++ (retiring 5
    ++ (1 sends Collect ∷ 1 sends Drop 1 ∷ 2 sends Drop 1 ∷ 3 sends Drop 1 ∷ 1 sends Collect ∷ 1 sends Collect ∷ 1 sends Collect ∷ 1 sends Collect ∷ 1 sends Collect ∷ 1 sends Collect ∷ 1 sends Collect ∷ []))))))

pub bound_for_three : sharper_bound 3 ≡ 8
bound_for_three = refl

pub bound_for_largest : sharper_bound 64 ≡ 190
bound_for_largest = refl

pub seven_are_too_few : HandedBackWithin 7 (history_of (hall_of 3 1 1) 70 slowest) → ⊥
unfolding open_table step_table sound record_sound encode_desk decode_desk
seven_are_too_few claim =
    let late : 1 ≤ 0 = claim 1 5 21 31 refl refl (never_shown 5 (history_of (hall_of 3 1 1) 70 slowest) refl 21 31) in
    omega arith

-- ---- When a session may be closed, on tables of 2 desks with 2 screens each and 2 positions, given the session at position 2, the one on
-- desk 2's screen 2, the one that desk 2 owes, and the one that waits on its list.
abbrev standing : ℕ → ℕ → ℕ → ℕ → List ℕ
standing position screen owed waiting =
    (2 ∷ 2 ∷ 2 ∷ 0 ∷ position ∷ 0 ∷ 0 ∷ 0 ∷ screen ∷ []) ++ (replicate 22 0 ++ ((owed ∷ 0 ∷ 0 ∷ 0 ∷ 1 ∷ replicate 8 0) ++ (waiting ∷ replicate 8 0)))

-- 5 is unreferenced though a screen shows it: screens are not references. It is not unreferenced if it is only at the position, only
-- owed, or only on the list.
pub unreferenced-asks :
    Unreferenced (hall_of 2 2 2) (standing 1 5 1 1) 5
    × (Unreferenced (hall_of 2 2 2) (standing 5 1 1 1) 5 → ⊥) × (Unreferenced (hall_of 2 2 2) (standing 1 1 5 1) 5 → ⊥) × (Unreferenced (hall_of 2 2 2) (standing 1 1 1 5) 5 → ⊥)
unreferenced-asks = (
  unreferenced_by_test (hall_of 2 2 2) (standing 1 5 1 1) 5 refl,
  λ none. none.positions 2 (omega arith) (omega arith) refl,
  λ none. none.owed 2 (omega arith) (omega arith) refl,
  λ none. omega (arith, none.lists 2 (omega arith) (omega arith)),
)

-- 5 is not shown nowhere: desk 2's screen 2 shows it.
pub shown_somewhere : ShownNowhere (hall_of 2 2 2) (standing 1 5 1 1) 5 → ⊥
shown_somewhere nowhere = nowhere 2 2 (omega arith) (omega arith) (omega arith) (omega arith) refl

-- The closing rule refuses a table in which a session is on a screen and nowhere else.
pub closing_rule_refuses : ClosingRule (hall_of 2 2 2) (λ i. standing 1 5 1 1) → ⊥
closing_rule_refuses rule = shown_somewhere (rule 0 5 (λ none. omega arith) unreferenced-asks.0)

-- What each call put at a position: the session of an accepted swap that changes it, so nothing by a repeat; past the end none.
abbrev puts : List Event
puts = (2 sends Take 3 4 ⇒ ok 5) ∷ (2 sends Swap 4 6 ⇒ ok 5) ∷ (2 sends Swap 4 7 ⇒ refused_with 12) ∷ (2 sends Drop 3 ⇒ ok 5) ∷ (2 sends Retire ⇒ ok 5) ∷ (2 sends Collect ⇒ ok 5) ∷ (2 sends Swap 4 8 ⇒ ok 6) ∷ (2 sends Swap 4 8 ⇒ ok 8) ∷ []

pub put_by_calls : map (put_at puts) (0 ∷ 1 ∷ 2 ∷ 3 ∷ 4 ∷ 5 ∷ 6 ∷ 7 ∷ 8 ∷ []) ≡ 0 ∷ 6 ∷ 0 ∷ 0 ∷ 0 ∷ 0 ∷ 8 ∷ 0 ∷ 0 ∷ []
put_by_calls = refl

-- 6 was put at index 1, when it was at position 2: so it was put while referenced, before index 2 and not before index 1. 7 was never put.
pub put-while-referenced :
    PutFresh (hall_of 2 2 2) puts (λ i. standing 6 1 1 7) 6 1 × (PutFresh (hall_of 2 2 2) puts (λ i. standing 6 1 1 7) 6 2 → ⊥)
    × PutFresh (hall_of 2 2 2) puts (λ i. standing 6 1 1 7) 7 7
put-while-referenced = (
  put_fresh_by_test (hall_of 2 2 2) puts (λ i. standing 6 1 1 7) 6 1 refl,
  λ fresh. (fresh 1 (omega arith) refl).positions 2 (omega arith) (omega arith) refl,
  put_fresh_by_test (hall_of 2 2 2) puts (λ i. standing 6 1 1 7) 7 7 refl,
)

-- A hand-back of 5 at index 0 after which 5 is on a list, or on a screen; before the call it was nowhere in the table.
abbrev hands_back_five : List Event
hands_back_five = (1 sends Collect ⇒ ok 5) ∷ []

abbrev leaving : List ℕ → ℕ → List ℕ
leaving after zero = standing 1 1 1 1
leaving after (suc i) = after

pub hand-back-refuses :
    (HandBackCloses (hall_of 2 2 2) hands_back_five (leaving (standing 1 1 1 5)) → ⊥) × (HandBackCloses (hall_of 2 2 2) hands_back_five (leaving (standing 1 5 1 1)) → ⊥)
hand-back-refuses = (
  λ closes. omega (arith, (closes 0 1 5 refl (λ i before put. absurd (omega arith))).unreferenced.lists 2 (omega arith) (omega arith)),
  λ closes. shown_somewhere (closes 0 1 5 refl (λ i before put. absurd (omega arith))).unshown,
)

-- Computed by the rules: desk 1 puts 5 at position 1, desk 2 takes it, desk 1 replaces it by 6 and retires it. It is handed back only
-- after the drop, and is then nowhere in the table. It is put again, replaced again, and handed back again.
abbrev pub reused : List Call
reused =
    1 sends Swap 1 5 ∷ 2 sends Take 1 1 ∷ 1 sends Swap 1 6 ∷ 1 sends Retire ∷ 1 sends Collect ∷ 2 sends Drop 1 ∷ 1 sends Collect
    ∷ 1 sends Swap 1 5 ∷ 1 sends Retire ∷ 1 sends Collect ∷ 1 sends Swap 1 0 ∷ 1 sends Retire ∷ 1 sends Collect ∷ []

pub reused_answers : answers_of (history_of (hall_of 2 1 1) 50 reused) ≡ map ok (0 ∷ 5 ∷ 5 ∷ 5 ∷ 0 ∷ 5 ∷ 5 ∷ 6 ∷ 6 ∷ 6 ∷ 5 ∷ 5 ∷ 5 ∷ [])
unfolding open_table step_table sound record_sound encode_desk decode_desk
reused_answers = refl

-- Each swap finds it unreferenced, so it may be closed at each hand-back, at index 6 and at index 12.
pub reused_put_fresh : PutFresh (hall_of 2 1 1) (history_of (hall_of 2 1 1) 50 reused) (tables_of (hall_of 2 1 1) 50 reused) 5 12
unfolding open_table step_table sound record_sound encode_desk decode_desk
reused_put_fresh = put_fresh_by_test (hall_of 2 1 1) (history_of (hall_of 2 1 1) 50 reused) (tables_of (hall_of 2 1 1) 50 reused) 5 12 refl

-- In the history with repeats, those of 5, at indices 2 and 3, find it at the position; but they put nothing, and the swap at index 0 found
-- it unreferenced.
pub repeated_put_fresh : PutFresh (hall_of 2 1 1) (history_of (hall_of 2 1 1) 50 repeated) (tables_of (hall_of 2 1 1) 50 repeated) 5 9
unfolding open_table step_table sound record_sound encode_desk decode_desk
repeated_put_fresh = put_fresh_by_test (hall_of 2 1 1) (history_of (hall_of 2 1 1) 50 repeated) (tables_of (hall_of 2 1 1) 50 repeated) 5 9 refl

-- The session at position 1, what desk 1 owes, how many sessions are on its list, and what desk 2's screen 1 shows.
abbrev parts_of : Hall → List ℕ → List ℕ
parts_of hall table =
    get_or table (position_word 1) 0 ∷ get_or (record_of hall table 1) owed_offset 0 ∷ length (list_of_desk hall table 1) ∷ get_or table (screen_word hall 2 1) 0 ∷ []

-- A session that is shown is not unreferenced: at first it is at the position, then the desk owes it, then it is on the desk's list.
-- So each of the three is needed in the definition.
pub each_is_asked : map (λ (i : ℕ). parts_of (hall_of 2 1 1) (tables_of (hall_of 2 1 1) 50 reused i)) (2 ∷ 3 ∷ 4 ∷ []) ≡ (5 ∷ 0 ∷ 0 ∷ 5 ∷ []) ∷ (6 ∷ 5 ∷ 0 ∷ 5 ∷ []) ∷ (6 ∷ 0 ∷ 1 ∷ 5 ∷ []) ∷ []
unfolding open_table step_table sound record_sound encode_desk decode_desk
each_is_asked = refl

-- A hand-back alone does not mean that the session may be closed. Desk 1 puts 5 at two positions, and desk 2 takes it at position 1.
-- Desk 1 replaces and retires both: two copies of 5 are on its list, and one screen shows 5. So one copy is kept and the last collect
-- hands back the other, while desk 2 shows 5.
abbrev pub put_twice : List Call
put_twice =
    1 sends Swap 1 5 ∷ 1 sends Swap 2 5 ∷ 2 sends Take 1 1 ∷ 1 sends Swap 2 7 ∷ 1 sends Retire ∷ 1 sends Collect
    ∷ 1 sends Swap 1 8 ∷ 1 sends Retire ∷ 1 sends Collect ∷ []

pub put_twice_answers : answers_of (history_of (hall_of 2 1 2) 51 put_twice) ≡ map ok (0 ∷ 0 ∷ 5 ∷ 5 ∷ 5 ∷ 0 ∷ 5 ∷ 5 ∷ 5 ∷ [])
unfolding open_table step_table sound record_sound encode_desk decode_desk
put_twice_answers = refl

pub handed_back_while_shown : (effect_at (history_of (hall_of 2 1 2) 51 put_twice) 8 ≡ hands_back 5 by 1) × (StandsNowhere (hall_of 2 1 2) (tables_of (hall_of 2 1 2) 51 put_twice 9) 5 → ⊥)
unfolding open_table step_table sound record_sound encode_desk decode_desk
handed_back_while_shown = (refl, λ nowhere. nowhere.unshown 2 1 (omega arith) (omega arith) (omega arith) (omega arith) refl)

-- The second swap found it at position 1.
pub put_twice-not-fresh : PutFresh (hall_of 2 1 2) (history_of (hall_of 2 1 2) 51 put_twice) (tables_of (hall_of 2 1 2) 51 put_twice) 5 8 → ⊥
unfolding open_table step_table sound record_sound encode_desk decode_desk
put_twice-not-fresh fresh = (fresh 1 (omega arith) refl).positions 1 (omega arith) (omega arith) refl
