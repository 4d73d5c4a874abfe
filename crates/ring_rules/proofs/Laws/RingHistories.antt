-- Lists of calls on a sound ring and on the first board that it reads as; from an opening on; what holds of the first board passes to the ring.
use Rattle.std.specs.Prelude.{ℕ, zero, suc, ◌+◌, ◌*◌, ◌-◌, ◌%◌, ◌≤◌, ◌<◌, ◌≡◌, refl, Bool, true, false, List, [], ◌∷◌, leb, length, drop, get_or, replicate, take}
use Rattle.std.proofs.Common.{arith, mul-le-mul_right, sym, ap, ◌∙◌, subst, subst₂, le-leb, leb-true, length-drop}
use Rattle.std.proofs.lemmas.List.{length-replicate}
use Rattle.std.proofs.Math.ListN.{get_or-append}
use Rattle.rules.specs.Hall.{Hall, Limits, all_screens, max_desks, max_positions, max_screens}
use Rattle.rules.specs.History.{hand_backs}
use Rattle.rules.specs.Steps.{Answer, Call, Event, Result, ask, decide, end, first_no, in_range, run}
use Rattle.rules.specs.Table.{hall_in, header_words, in_limits, need, open_questions, open_table, opened_table, step_table, within}
use Rattle.rules.proofs.Laws.History.StepEffects.{IsDesk}
use Rattle.rules.proofs.Laws.Table.TableHistories.{opening_asks}
use Rattle.ring_rules.specs.Ring.{beginning_word, linear_table, open_ring, opened_ring, ring_need, ring_questions, ring_sound, ring_width_for, step_ring}
use Rattle.ring_rules.specs.RingDemands.{SameHistory}
use Rattle.ring_rules.proofs.Laws.Beginnings.{beginnings_run}
use Rattle.ring_rules.proofs.Laws.RingOpening.{by_opening, opened_reads, opened-sound, ring-opens}
use Rattle.ring_rules.proofs.Laws.RingSteps.{ring-step}

-- ---- From any sound ring.
pub same_replies : (limits : Limits) (cs : List Call) (t : List ℕ) → ring_sound limits t ≡ true → run (step_ring limits) t cs ≡ run (step_table limits) (linear_table t) cs
same_replies limits [] t is-sound = refl
same_replies limits (c ∷ cs) t is-sound =
    let s = ring-step limits t is-sound c in
    λ i. record { call = c; answer = s.answer i } ∷ (same_replies limits cs (step_ring limits t c).after s.stays ∙ ap (λ (x : List ℕ). run (step_table limits) x cs) s.reads) i

pub same_end : (limits : Limits) (cs : List Call) (t : List ℕ) → ring_sound limits t ≡ true → linear_table (end (step_ring limits) t cs) ≡ end (step_table limits) (linear_table t) cs
same_end limits [] t is-sound = refl
same_end limits (c ∷ cs) t is-sound =
    let s = ring-step limits t is-sound c in
    same_end limits cs (step_ring limits t c).after s.stays ∙ ap (λ (x : List ℕ). end (step_table limits) x cs) s.reads

pub ring_stays_sound : (limits : Limits) (cs : List Call) (t : List ℕ) → ring_sound limits t ≡ true → ring_sound limits (end (step_ring limits) t cs) ≡ true
ring_stays_sound limits [] t is-sound = is-sound
ring_stays_sound limits (c ∷ cs) t is-sound = ring_stays_sound limits cs (step_ring limits t c).after (ring-step limits t is-sound c).stays

pub same_history : (limits : Limits) (t : List ℕ) → ring_sound limits t ≡ true → (cs : List Call)
    → SameHistory (run (step_ring limits) t cs) (run (step_table limits) (linear_table t) cs) (λ i. end (step_ring limits) t (take i cs)) (λ i. end (step_table limits) (linear_table t) (take i cs))
same_history limits t is-sound cs = record { replies = same_replies limits cs t is-sound; reads = λ i. same_end limits (take i cs) t is-sound }

-- ---- The opening, beside that of the first board on the same table less P words.
leb_alike : (m n p q : ℕ) → (m ≤ n → p ≤ q) → (p ≤ q → m ≤ n) → leb m n ≡ leb p q
leb_alike m n p q there back = by_first (leb m n) refl (leb p q) refl
  where
    by_first : (a : Bool) → leb m n ≡ a → (b : Bool) → leb p q ≡ b → a ≡ b
    by_first true e true f = refl
    by_first false e false f = refl
    by_first true e false f = sym (le-leb p q (there (leb-true m n e))) ∙ f
    by_first false e true f = sym e ∙ le-leb m n (back (leb-true p q f))

pub questions_alike : (limits : Limits) (hall : Hall) (table : List ℕ) → first_no (open_questions limits hall (drop hall.desks table)) ≡ first_no (ring_questions limits hall table)
questions_alike limits hall table =
    let less = length-drop hall.desks table in
    let long = leb_alike (need hall) (length (drop hall.desks table)) (ring_need hall) (length table) (λ h. omega (arith, less)) (λ h. omega (arith, less)) in
    λ i. first_no (ask (in_range hall.desks max_desks) 1 ∷ ask (in_range hall.screens max_screens) 2 ∷ ask (in_range hall.positions max_positions) 3 ∷ ask (within limits hall) 22 ∷ ask (long i) 4 ∷ [])

pub opening_answers_alike : (limits : Limits) (hall : Hall) (table : List ℕ) → (open_ring limits hall table).answer ≡ (open_table limits hall (drop hall.desks table)).answer
unfolding open_table
opening_answers_alike limits hall table =
    by_opening limits (λ r. r.answer ≡ (open_table limits hall (drop hall.desks table)).answer) hall table
    (λ n q. sym (ap (λ (m : ℕ). (decide m (drop hall.desks table) 0 (opened_table hall (drop hall.desks table))).answer) (questions_alike limits hall table ∙ q)))
    (λ q. sym (ap (λ (m : ℕ). (decide m (drop hall.desks table) 0 (opened_table hall (drop hall.desks table))).answer) (questions_alike limits hall table ∙ q)))

-- ---- From an accepted opening.
module _ (limits : Limits) (hall : Hall) (table : List ℕ) (accepted : (open_ring limits hall table).answer.number ≡ 0) where
  abbrev ring : List ℕ
  ring = (open_ring limits hall table).after

  abbrev first : Result (List ℕ)
  first = open_table limits hall (drop hall.desks table)

  asks : (in_limits limits hall ≡ true) × (ring_need hall ≤ length table) × ((open_ring limits hall table).after ≡ opened_ring hall table)
  asks = ring-opens limits hall table accepted

  pub first_accepts : first.answer.number ≡ 0
  first_accepts = sym (ap (λ (a : Answer). a.number) (opening_answers_alike limits hall table)) ∙ accepted

  pub opens-sound : ring_sound limits ring ≡ true
  opens-sound = ap (ring_sound limits) asks.2 ∙ opened-sound hall limits table asks.0

  pub opens_as : linear_table ring ≡ first.after
  opens_as = ap linear_table asks.2 ∙ opened_reads hall table ∙ sym (opening_asks limits hall (drop hall.desks table) first_accepts).1

  pub same_from_opening : (cs : List Call)
      → SameHistory (run (step_ring limits) ring cs) (run (step_table limits) first.after cs) (λ i. end (step_ring limits) ring (take i cs)) (λ i. end (step_table limits) first.after (take i cs))
  same_from_opening cs =
      subst (λ (t : List ℕ). SameHistory (run (step_ring limits) ring cs) (run (step_table limits) t cs) (λ i. end (step_ring limits) ring (take i cs)) (λ i. end (step_table limits) t (take i cs)))
      opens_as (same_history limits ring opens-sound cs)

  -- what holds of the first board's history and tables holds of the ring's history and of the tables that it reads as
  pub passes : (cs : List Call) (P : List Event → (ℕ → List ℕ) → Type 0)
      → P (run (step_table limits) first.after cs) (λ i. end (step_table limits) first.after (take i cs))
      → P (run (step_ring limits) ring cs) (λ i. linear_table (end (step_ring limits) ring (take i cs)))
  passes cs P p =
      let same = same_from_opening cs in
      subst₂ P (sym same.replies) (λ j i. sym (same.reads i) j) p

  -- the beginnings: 0 at opening
  pub beginnings_from_opening : (cs : List Call) (d : ℕ) → IsDesk hall d
      → get_or (end (step_ring limits) ring cs) (beginning_word hall d) 0 ≡ hand_backs d (run (step_ring limits) ring cs) % (2 * all_screens hall)
  beginnings_from_opening cs d there =
      let n = hand_backs d (run (step_ring limits) ring cs) in
      let none : get_or ring (beginning_word hall d) 0 ≡ 0 = ap (λ (t : List ℕ). get_or t (beginning_word hall d) 0) asks.2 ∙ opened_word hall table (beginning_word hall d) (omega arith) (omega (arith, record_within hall there.0 there.1)) in
      let sum : get_or ring (beginning_word hall d) 0 + n ≡ n = omega (arith, none) in
      beginnings_run limits hall d there cs ring opens-sound (ap hall_in asks.2) ∙ ap (λ (m : ℕ). m % (2 * all_screens hall)) sum
    where
      record_within : (H : Hall) → 1 ≤ d → d ≤ H.desks → beginning_word H d < ring_need H
      record_within H h g = let m : suc (d - 1) * ring_width_for (all_screens H) ≤ H.desks * ring_width_for (all_screens H) = mul-le-mul_right (ring_width_for (all_screens H)) (omega arith) in omega arith

      opened_word : (H : Hall) (t : List ℕ) (i : ℕ) → header_words ≤ i → i < ring_need H → get_or (opened_ring H t) i 0 ≡ 0
      opened_word H t i h l =
          let k : i ≡ suc (suc (suc (i - header_words))) = omega arith in
          let long = length-replicate {A = ℕ} (ring_need H - header_words) 0 in
          ap (λ (n : ℕ). get_or (opened_ring H t) n 0) k
          ∙ get_or-append (replicate (ring_need H - header_words) 0) (drop (ring_need H) t) 0 (i - header_words) (omega (arith, long))
          ∙ zero_word (ring_need H - header_words) (i - header_words)
        where
          zero_word : (n j : ℕ) → get_or (replicate {A = ℕ} n 0) j 0 ≡ 0
          zero_word zero j = refl
          zero_word (suc n) zero = refl
          zero_word (suc n) (suc j) = zero_word n j
