-- The ring's calls on bytes: histories beside the first board's, the beginnings, and what passes from the first board.
use Rattle.std.specs.Prelude.{ℕ, ◌≡◌, refl, true, List, take}
use Rattle.std.proofs.Common.{sym, ap, ◌∙◌, subst₂}
use Rattle.rules.specs.Bytes.{Calls16, IsBytes, step_bytes, words_of_bytes}
use Rattle.rules.specs.Hall.{Hall, Limits}
use Rattle.rules.specs.Steps.{Call, Event, end, run}
use Rattle.rules.specs.Table.{hall_in, open_table, step_table}
use Rattle.rules.proofs.Laws.Bytes.ByteHistories.{bytes_end, bytes_run, of_bytes, take_calls16}
use Rattle.rules.proofs.Laws.Bytes.FirstBoard.{first_board}
use Rattle.ring_rules.specs.Ring.{linear_table, open_ring_bytes, ring_sound, step_ring_bytes}
use Rattle.ring_rules.specs.RingDemands.{BeginningsCount, FromOpening, SameHistory}
use Rattle.ring_rules.proofs.Laws.Beginnings.{beginnings_run}
use Rattle.ring_rules.proofs.Laws.RingHistories.{first_accepts, passes, same_history}
use Rattle.ring_rules.proofs.Laws.RingWords.{ring_board}

-- a sound ring in bytes, and any bytes of the first board that it reads as
pub same_history_on_bytes : (limits : Limits) (ring first : List ℕ) → IsBytes ring → IsBytes first → ring_sound limits (words_of_bytes ring) ≡ true
    → words_of_bytes first ≡ linear_table (words_of_bytes ring) → (calls : List Call) → Calls16 calls
    → SameHistory (run (step_ring_bytes limits) ring calls) (run (step_bytes limits) first calls) (λ i. words_of_bytes (end (step_ring_bytes limits) ring (take i calls))) (λ i. words_of_bytes (end (step_bytes limits) first (take i calls)))
unfolding step_ring_bytes step_bytes
same_history_on_bytes limits ring first ring_bytes_lem first_bytes is-sound reads calls wide =
    let same = same_history limits (words_of_bytes ring) is-sound calls in
    record {
      replies =
          bytes_run (ring_board limits) ring calls ring_bytes_lem wide ∙ same.replies
          ∙ sym (bytes_run (first_board limits) first calls first_bytes wide ∙ ap (λ (t : List ℕ). run (step_table limits) t calls) reads);
      reads =
          λ i.
          ap linear_table (bytes_end (ring_board limits) ring (take i calls) ring_bytes_lem (take_calls16 i calls wide)) ∙ same.reads i
          ∙ sym (bytes_end (first_board limits) first (take i calls) first_bytes (take_calls16 i calls wide) ∙ ap (λ (t : List ℕ). end (step_table limits) t (take i calls)) reads);
    }

-- the beginnings
pub beginnings_on_bytes : (limits : Limits) (ring : List ℕ) → IsBytes ring → ring_sound limits (words_of_bytes ring) ≡ true → (calls : List Call) → Calls16 calls
    → BeginningsCount (hall_in (words_of_bytes ring)) (words_of_bytes ring) (run (step_ring_bytes limits) ring calls) (words_of_bytes (end (step_ring_bytes limits) ring calls))
unfolding step_ring_bytes
beginnings_on_bytes limits ring ring_bytes_lem is-sound calls wide =
    subst₂ (BeginningsCount (hall_in (words_of_bytes ring)) (words_of_bytes ring)) (sym (bytes_run (ring_board limits) ring calls ring_bytes_lem wide)) (sym (bytes_end (ring_board limits) ring calls ring_bytes_lem wide))
    (λ d first last. beginnings_run limits (hall_in (words_of_bytes ring)) d (first, last) calls (words_of_bytes ring) is-sound refl)

-- what holds of the first board from every accepted opening on holds of the ring
pub passes_on_bytes : (limits : Limits) (hall : Hall) (P : List Event → (ℕ → List ℕ) → Type 0)
    → ((table : List ℕ) → (open_table limits hall table).answer.number ≡ 0 → (calls : List Call)
    → let opened = (open_table limits hall table).after in P (run (step_table limits) opened calls) (λ i. end (step_table limits) opened (take i calls)))
    → FromOpening limits hall P
unfolding open_ring_bytes step_ring_bytes
passes_on_bytes limits hall P holds bytes are accepted calls wide =
    of_bytes (ring_board limits) hall bytes are calls wide (λ history tables. P history (λ i. linear_table (tables i)))
    (passes limits hall (words_of_bytes bytes) accepted calls P (holds _ (first_accepts limits hall (words_of_bytes bytes) accepted) calls))
