-- What the words of a sound ring say of the state that it holds.
use Rattle.std.specs.Prelude.{ℕ, ◌+◌, ◌-◌, ◌≤◌, ◌<◌, ◌≡◌, List, get_or}
use Rattle.std.proofs.Common.{arith, ◌∙◌, subst}
use Rattle.rules.specs.Hall.{Hall, Limits, all_screens, desk_of, screen_index}
use Rattle.rules.specs.Table.{decode, hall_in, header_words, position_word, record_start, next_word, screen_word}
use Rattle.rules.proofs.Laws.History.ScreenIndex.{screen_in}
use Rattle.rules.proofs.Laws.History.StepEffects.{IsDesk}
use Rattle.rules.proofs.Laws.Table.TableSteps.{held_word, number_word, owed_word, shown_at}
use Rattle.ring_rules.specs.Ring.{linear_table, ring_next_word, ring_start, ring_state}
use Rattle.ring_rules.proofs.Laws.RingSteps.{RingKnown, same_hall_read}
use Rattle.ring_rules.proofs.Laws.RingTables.{number_same, owed_same, word_same}

module _ (limits : Limits) (t : List ℕ) (k : RingKnown limits t) where
  abbrev H : Hall
  H = hall_in t

  abbrev T : List ℕ
  T = linear_table t

  -- a fact about the first board, at the ring's hall
  at_hall : (P : Hall → Type 0) → P (hall_in T) → P H
  at_hall P = subst P (same_hall_read limits t k)

  pub ring_held_word : (p : ℕ) → 1 ≤ p → p ≤ H.positions → get_or (ring_state t).held (p - 1) 0 ≡ get_or t (position_word p) 0
  ring_held_word p h g =
      at_hall (λ x. p ≤ x.positions → get_or (decode x T).held (p - 1) 0 ≡ get_or T (position_word p) 0) (held_word T p h) g
      ∙ word_same H t k.long (position_word p) (omega arith)

  pub ring_shown_at : (i : ℕ) → i < all_screens H → get_or (ring_state t).shown i 0 ≡ get_or t (header_words + H.positions + i) 0
  ring_shown_at i h =
      at_hall (λ x. i < all_screens x → get_or (decode x T).shown i 0 ≡ get_or T (header_words + x.positions + i) 0) (shown_at T i) h
      ∙ word_same H t k.long (header_words + H.positions + i) (omega arith)

  pub ring_shown_word : (d c : ℕ) → IsDesk H d → 1 ≤ c → c ≤ H.screens → get_or (ring_state t).shown (screen_index H d c) 0 ≡ get_or t (screen_word H d c) 0
  ring_shown_word d c there h g = ring_shown_at (screen_index H d c) (screen_in H d c there.0 there.1 h g)

  pub ring_owed_word : (d : ℕ) → IsDesk H d → (desk_of (ring_state t) d).owed ≡ get_or t (ring_start H d) 0
  ring_owed_word d there =
      at_hall (λ x. IsDesk x d → (desk_of (decode x T) d).owed ≡ get_or T (record_start x d) 0) (λ own. owed_word T d own.0 own.1) there
      ∙ owed_same H t k.long d there.0 there.1

  pub ring_number_word : (d : ℕ) → IsDesk H d → (desk_of (ring_state t) d).next ≡ get_or t (ring_next_word H d) 0
  ring_number_word d there =
      at_hall (λ x. IsDesk x d → (desk_of (decode x T) d).next ≡ get_or T (next_word x d) 0) (λ own. number_word T d own.0 own.1) there
      ∙ number_same H t k.long d there.0 there.1
