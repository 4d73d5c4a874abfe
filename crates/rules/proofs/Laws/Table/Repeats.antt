-- Swaps and repeats on a table: a repeat changes no word but its desk's message number, and what any swap promises.
use Rattle.std.specs.Prelude.{ℕ, suc, ◌-◌, ◌≤◌, ◌<◌, ◌≡◌, refl, Bool, true, false, cond, List, length, get_or, set}
use Rattle.std.proofs.Common.{arith, sym, ap, ◌∙◌, length-set, get_or-set_other, get_or-set_same, eq-eqb, eqb-true}
use Rattle.std.proofs.lemmas.Bool.{eqb-false}
use Rattle.rules.specs.Demands.{SwapPromise}
use Rattle.rules.specs.Hall.{Limits}
use Rattle.rules.specs.Steps.{Swap, ◌numbered◌, ◌sends◌, accept, advance, is_repeat, refuse}
use Rattle.rules.specs.Table.{decode, hall_in, need, next_word, owed_offset, position_word, record_of, record_start, sound, step_table}
use Rattle.rules.proofs.Laws.History.StepEffects.{SwapAsked, swap_asked}
use Rattle.rules.proofs.Laws.Table.TableSteps.{accepted_step, asked, held_word, known, owed_word, record_owed, record_within}
use Rattle.rules.proofs.Laws.Table.WordBounds.{by_step}

-- the table after an accepted swap, given whether it is a repeat
abbrev table_after_swap : List ℕ → ℕ → ℕ → ℕ → Bool → List ℕ
table_after_swap t d p v b = cond b t (set (set t (position_word p) v) (record_start (hall_in t) d) (get_or t (position_word p) 0))

-- what an accepted swap found
asks : (limits : Limits) (t : List ℕ) (m d p v : ℕ) → asked limits t (d sends Swap p v numbered m) ≡ 0 → SwapAsked (hall_in t) (decode (hall_in t) t) d p
asks limits t = swap_asked limits (hall_in t) (decode (hall_in t) t)

-- the message number moved on, in the words that the rest of the call leaves
abbrev move_on : List ℕ → ℕ → List ℕ → List ℕ
move_on t d words = let number = next_word (hall_in t) d in set words number (advance (get_or t number 0))

-- its reply is what the position held
replies_old : (limits : Limits) (t : List ℕ) (m d p v : ℕ) → asked limits t (d sends Swap p v numbered m) ≡ 0 → get_or (decode (hall_in t) t).held (p - 1) 0 ≡ get_or t (position_word p) 0
replies_old limits t m d p v q = let a = asks limits t m d p v q in held_word t p a.position.0 a.position.1

pub repeat_stays : (limits : Limits) (t : List ℕ) → sound limits t ≡ true → (m d p : ℕ)
    → let old = get_or t (position_word p) 0 in
    let number = next_word (hall_in t) d in
    asked limits t (d sends Swap p old numbered m) ≡ 0 → step_table limits t (d sends Swap p old numbered m) ≡ accept old (set t number (advance (get_or t number 0)))
repeat_stays limits t s m d p q =
    let old = get_or t (position_word p) 0 in
    accepted_step limits t (d sends Swap p old numbered m) s q ∙ (λ i. accept (replies_old limits t m d p old q i) (move_on t d (table_after_swap t d p old (eq-eqb old old refl i))))

module _ (limits : Limits) (t : List ℕ) (m d p v : ℕ) where
  abbrev old : ℕ
  old = get_or t (position_word p) 0

  abbrev owed_in : List ℕ → ℕ
  owed_in table = get_or (record_of (hall_in t) table d) owed_offset 0

  module _ (long : need (hall_in t) ≤ length t) (a : SwapAsked (hall_in t) (decode (hall_in t) t) d p) where
    inside : record_start (hall_in t) d < length t
    inside = omega (arith, record_within (hall_in t) d a.desk.0 a.desk.1, long)

    -- the position holds what was sent
    holds_sent : (b : Bool) → is_repeat old v ≡ b → get_or (table_after_swap t d p v b) (position_word p) 0 ≡ v
    holds_sent true z = eqb-true old v z
    holds_sent false z =
        get_or-set_other (set t (position_word p) v) (record_start (hall_in t) d) (position_word p) old 0 (λ y. omega (arith, a.position, y))
        ∙ get_or-set_same t (position_word p) v 0 (omega (arith, a.position, inside))

    -- A repeat leaves its desk owing nothing; a change makes it owe the old session, which is not the one that was sent.
    owes_another : (b : Bool) → is_repeat old v ≡ b → (owed_in (table_after_swap t d p v b) ≡ 0 → ⊥) → v ≡ owed_in (table_after_swap t d p v b) → ⊥
    owes_another true z owes same = owes (record_owed (hall_in t) t d ∙ sym (owed_word t d a.desk.0 a.desk.1) ∙ a.owes_nothing)
    owes_another false z owes same =
        let put : List ℕ = set t (position_word p) v in
        let owed : owed_in (set put (record_start (hall_in t) d) old) ≡ old =
        record_owed (hall_in t) (set put (record_start (hall_in t) d) old) d
        ∙ get_or-set_same put (record_start (hall_in t) d) old 0 (omega (arith, inside, length-set t (position_word p) v)) in
        eqb-false old v z (sym (same ∙ owed))

  -- neither the position nor what the desk owes is the message number
  held_moved : 1 ≤ p → p ≤ (hall_in t).positions → (words : List ℕ) → get_or (move_on t d words) (position_word p) 0 ≡ get_or words (position_word p) 0
  held_moved l h words = get_or-set_other words (next_word (hall_in t) d) (position_word p) _ 0 (λ same. omega (arith, l, h, same))

  owed_moved : (words : List ℕ) → owed_in (move_on t d words) ≡ owed_in words
  owed_moved words =
      record_owed (hall_in t) (move_on t d words) d
      ∙ get_or-set_other words (next_word (hall_in t) d) (record_start (hall_in t) d) _ 0 (λ same. omega (arith, same))
      ∙ sym (record_owed (hall_in t) words d)

  pub swap_promised : SwapPromise (hall_in t) d p v t (step_table limits t (d sends Swap p v numbered m))
  swap_promised =
      by_step limits (SwapPromise (hall_in t) d p v t) t (d sends Swap p v numbered m) (refused 4) (λ n q. refused n)
      (λ s q.
      let repeat = is_repeat old v in
      let found = asks limits t m d p v q in
      let words : List ℕ = table_after_swap t d p v repeat in
      let holds = held_moved found.position.0 found.position.1 words ∙ holds_sent (known limits t s).long found repeat refl in
      record {
        replies = λ number. replies_old limits t m d p v q;
        holds = λ number. holds;
        unchanged =
            λ same i other. get_or-set_other words (next_word (hall_in t) d) i _ 0 other
            ∙ ap (λ (b : Bool). get_or (table_after_swap t d p v b) i 0) (eq-eqb old v (sym (replies_old limits t m d p v q) ∙ same));
        replaced =
            λ number owes same. owes_another (known limits t s).long found repeat refl (λ none. owes (owed_moved words ∙ none)) (sym holds ∙ same ∙ owed_moved words);
      })
    where
      refused : (n : ℕ) → SwapPromise (hall_in t) d p v t (refuse (suc n) t)
      refused n = record {
        replies = λ number. absurd (omega (arith, number));
        holds = λ number. absurd (omega (arith, number));
        unchanged = λ same i other. refl;
        replaced = λ number. absurd (omega (arith, number));
      }
