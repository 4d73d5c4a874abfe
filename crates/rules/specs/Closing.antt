-- When a session may be closed: the closing rule, on the words of a table. There is no proof here.
-- Document 00: "A video session must never be closed under an operator who is steering by it".
use Rattle.std.specs.Prelude.{ℕ, zero, suc, ◌≤◌, ◌<◌, ◌≡◌, cond, List, [], ◌∷◌, get_or}
use Rattle.rules.specs.Demands.{list_of_desk}
use Rattle.rules.specs.Hall.{Hall}
use Rattle.rules.specs.History.{◌by◌, effect_at, hands_back}
use Rattle.rules.specs.Lists.{occurrences}
use Rattle.rules.specs.Steps.{Collect, Drop, Event, Retire, Step, Swap, Take, is_repeat}
use Rattle.rules.specs.Table.{owed_offset, position_word, record_of, screen_word}

-- Session s is unreferenced: it is at no position, no desk owes it, and it is on no desk's list.
pub record Unreferenced (hall : Hall) (table : List ℕ) (s : ℕ) : Type 0 where
  pub positions : (p : ℕ) → 1 ≤ p → p ≤ hall.positions → get_or table (position_word p) 0 ≡ s → ⊥
  pub owed : (d : ℕ) → 1 ≤ d → d ≤ hall.desks → get_or (record_of hall table d) owed_offset 0 ≡ s → ⊥
  pub lists : (d : ℕ) → 1 ≤ d → d ≤ hall.desks → occurrences s (list_of_desk hall table d) ≡ 0

-- No screen of the hall shows session s, so no operator is steering by it.
abbrev pub ShownNowhere : Hall → List ℕ → ℕ → Type 0
ShownNowhere hall table s = (d c : ℕ) → 1 ≤ d → d ≤ hall.desks → 1 ≤ c → c ≤ hall.screens → get_or table (screen_word hall d c) 0 ≡ s → ⊥

-- Session s is nowhere in the table: unreferenced and on no screen.
pub record StandsNowhere (hall : Hall) (table : List ℕ) (s : ℕ) : Type 0 where
  pub unreferenced : Unreferenced hall table s
  pub unshown : ShownNowhere hall table s

-- ---- The two rules are about a history and about the words of the table after its first i calls, as demands 2 and 3 are.

-- The closing rule: an unreferenced session is on no screen, so it may be closed.
abbrev pub ClosingRule : Hall → (ℕ → List ℕ) → Type 0
ClosingRule hall tables = (i s : ℕ) → (s ≡ 0 → ⊥) → Unreferenced hall (tables i) s → ShownNowhere hall (tables i) s

-- The session that a step put at a position, given the number and the session in its answer: the new one for an accepted swap that
-- changes its position, otherwise none.
abbrev pub step_puts : Step → ℕ → ℕ → ℕ
step_puts (Take c p) number session = 0
step_puts (Drop c) number session = 0
step_puts (Swap p new) zero session = cond (is_repeat session new) 0 new
step_puts (Swap p new) (suc n) session = 0
step_puts Retire number session = 0
step_puts Collect number session = 0

-- The session that the call at an index of a history put; past the end none.
abbrev pub put_at : List Event → ℕ → ℕ
put_at [] index = 0
put_at (event ∷ history) zero = step_puts event.call.step event.answer.number event.answer.session
put_at (event ∷ history) (suc index) = put_at history index

-- Every swap before index h that changed its position to session s found s unreferenced.
abbrev pub PutFresh : Hall → List Event → (ℕ → List ℕ) → ℕ → ℕ → Type 0
PutFresh hall history tables s h = (i : ℕ) → i < h → put_at history i ≡ s → Unreferenced hall (tables i) s

-- A hand-back alone does not mean that the session may be closed: it may have been put at two positions (`handed_back_while_shown` in
-- HistoryCases). If it was never put while it was still referenced, it is nowhere in the table once it is handed back: it may be closed
-- at once.
abbrev pub HandBackCloses : Hall → List Event → (ℕ → List ℕ) → Type 0
HandBackCloses hall history tables =
    (h d s : ℕ) → effect_at history h ≡ hands_back s by d → PutFresh hall history tables s h → StandsNowhere hall (tables (suc h)) s
