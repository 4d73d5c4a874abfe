-- The opening: what its questions answer, and the table that it leaves.
use Rattle.std.proofs.Common.{Bool, leb, leb-true, sym, refl, [], ◌≡◌, ℕ, zero, suc, ◌-◌, ◌*◌, ◌<◌, ◌≤◌, true, false, List, ◌∷◌, ◌++◌, length, drop, set, replicate, ap, ◌∙◌, arith, le-leb}
use lib.ListN.{length-replicate}
use borrow.Author.Tests.{lt-leb}
use borrow.Rule.Slice.PartMut.{mid_len, mid_of, put_mid}
use Rattle.rules.specs.Bytes.{words_of_bytes}
use Rattle.rules.specs.Hall.{Hall, Limits, max_desks, max_positions, max_screens}
use Rattle.rules.specs.Steps.{Answer, ask, decide, first_no, in_range}
use Rattle.rules.specs.Table.{header_words, within}
use Rattle.board.specs.Kind.{Kind, Laws, need_of, opened, opening_questions}
use Rattle.rules.proofs.Laws.Bytes.Bytes.{zero_words}
use Rattle.words.specs.Written.{Written}
use Rattle.words.proofs.Laws.{part_written}
use Rattle.reply.specs.Answer.{answer_of, table_result}
use Rattle.std.specs.Prelude.{Ok, Err}
use Rattle.reply.specs.declared.Reason.{Reason}
use Rattle.reply.proofs.Numbers.{not_0}
use Rattle.reply.specs.declared.Reason.TheVariants.{BadDesks, BadPositions, BadScreens, OverLimits, TableShort}

-- its questions, in order, about a table
module _ {kind : Kind} (laws : Laws kind) (limits : Limits) (H : Hall) (t : List ℕ) where
  refusal : (n : ℕ) → first_no (opening_questions kind limits H t) ≡ suc n → record { number = suc n; session = 0 } ≡ (kind.opens limits H t).answer
  refusal n q = rw (laws.opens_is limits H t, q) refl

  pub bad_desks : in_range H.desks max_desks ≡ false → answer_of (Err BadDesks) ≡ (kind.opens limits H t).answer
  bad_desks out = refusal 0 (rw out)

  module _ (d : in_range H.desks max_desks ≡ true) where
    pub bad_screens : in_range H.screens max_screens ≡ false → answer_of (Err BadScreens) ≡ (kind.opens limits H t).answer
    bad_screens out = refusal 1 (rw (d, out))

    module _ (c : in_range H.screens max_screens ≡ true) where
      pub bad_positions : in_range H.positions max_positions ≡ false → answer_of (Err BadPositions) ≡ (kind.opens limits H t).answer
      bad_positions out = refusal 2 (rw (d, c, out))

      module _ (l : in_range H.positions max_positions ≡ true) where
        pub over_limits : within limits H ≡ false → answer_of (Err OverLimits) ≡ (kind.opens limits H t).answer
        over_limits out = refusal 21 (rw (d, c, l, out))

        module _ (w : within limits H ≡ true) where
          pub table_short : length t < need_of kind H → answer_of (Err TableShort) ≡ (kind.opens limits H t).answer
          table_short h = refusal 3 (rw (d, c, l, w, lt-leb (need_of kind H) (length t) h))

          pub opens : need_of kind H ≤ length t → answer_of (Ok 0) ≡ (kind.opens limits H t).answer
          opens h = rw (laws.opens_is limits H t, d, c, l, w, le-leb (need_of kind H) (length t) h) refl

-- the last of five questions was answered yes
last_yes : (a b c d e : Bool) → first_no (ask a 1 ∷ ask b 2 ∷ ask c 3 ∷ ask d 22 ∷ ask e 4 ∷ []) ≡ 0 → e ≡ true
last_yes false b c d e q = absurd (omega arith)
last_yes true false c d e q = absurd (omega arith)
last_yes true true false d e q = absurd (omega arith)
last_yes true true true false e q = absurd (omega arith)
last_yes true true true true false q = absurd (omega arith)
last_yes true true true true true q = refl

-- what a table is left as, by the answer
module _ {kind : Kind} (laws : Laws kind) (limits : Limits) (H : Hall) (t : List ℕ) where
  abbrev asked : ℕ
  asked = first_no (opening_questions kind limits H t)

  decided : Answer → ℕ → Type 0
  decided answer n = answer ≡ (decide n t 0 (opened kind H t)).answer

  pub not_opened : (reason : Reason) → answer_of (Err reason) ≡ (kind.opens limits H t).answer → table_result (Err reason) t ≡ kind.opens limits H t
  not_opened reason e = by_number asked refl (rw (laws.opens_is limits H t) at e)
    where
      by_number : (n : ℕ) → asked ≡ n → answer_of (Err reason) ≡ (decide asked t 0 (opened kind H t)).answer → table_result (Err reason) t ≡ kind.opens limits H t
      by_number zero q a = absurd (not_0 reason (ap (λ (x : Answer). x.number) (rw q at a)))
      by_number (suc n) q a = (λ i. record { answer = (rw q at a) i; after = t }) ∙ sym (laws.opens_is limits H t ∙ rw q refl)

  module _ {session : ℕ} (e : answer_of (Ok session) ≡ (kind.opens limits H t).answer) where
    pub is_opened : asked ≡ 0
    is_opened = by_number asked refl (rw (laws.opens_is limits H t) at e)
      where
        by_number : (n : ℕ) → asked ≡ n → answer_of (Ok session) ≡ (decide asked t 0 (opened kind H t)).answer → asked ≡ 0
        by_number zero q a = q
        by_number (suc n) q a = absurd (omega (arith, ap (λ (x : Answer). x.number) (rw q at a)))

    -- then the need is there
    pub need_there : need_of kind H ≤ length t
    need_there = leb-true (need_of kind H) (length t) (last_yes (in_range H.desks max_desks) (in_range H.screens max_screens) (in_range H.positions max_positions) (within limits H) (leb (need_of kind H) (length t)) is_opened)

-- the words up to the need were cleared, and then the three of the header stored
stored : {kind : Kind} (laws : Laws kind) (limits : Limits) (H : Hall) (t : List ℕ) (n : ℕ) → first_no (opening_questions kind limits H t) ≡ 0 → n ≡ need_of kind H
    → table_result (Ok 0) (set (set (set (put_mid 0 (n - 0) t (replicate n 0)) 0 H.desks) 1 H.screens) 2 H.positions) ≡ kind.opens limits H t
stored {kind} laws limits H t n asked-all e =
    let behind : n - 0 ≡ need_of kind H = omega (arith, e) in
    rw (laws.opens_is limits H t, asked-all, behind, stores n (omega (arith, e)), e)
  where
    stores : (n : ℕ) → header_words ≤ n
        → set (set (set (replicate n 0 ++ drop (need_of kind H) t) 0 H.desks) 1 H.screens) 2 H.positions
        ≡ H.desks ∷ H.screens ∷ H.positions ∷ replicate (n - header_words) 0 ++ drop (need_of kind H) t
    stores zero g = absurd (omega arith)
    stores (suc zero) g = absurd (omega arith)
    stores (suc (suc zero)) g = absurd (omega arith)
    stores (suc (suc (suc n))) g = let rest : suc (suc (suc n)) - header_words ≡ n = omega arith in rw rest

-- the same on bytes
module _ {kind : Kind} (laws : Laws kind) (H : Hall) (bytes part : List ℕ) (n : ℕ) (e : n ≡ need_of kind H) (room : 2 * n ≤ length bytes) (q : part ≡ replicate (length (mid_of 0 (2 * n - 0) bytes)) 0) where
  zeros : part ≡ replicate (2 * n) 0
  zeros = let long : length (mid_of 0 (2 * n - 0) bytes) ≡ 2 * n = mid_len 0 (2 * n) bytes room ∙ omega arith in rw long at q

  pub cleared : Written bytes (put_mid 0 (n - 0) (words_of_bytes bytes) (replicate n 0)) (put_mid 0 (2 * n - 0) bytes part)
  cleared = part_written 0 n bytes part (replicate n 0) (omega arith) room (ap length zeros ∙ length-replicate {A = ℕ} (2 * n) 0 ∙ omega arith) (ap words_of_bytes zeros ∙ zero_words n)

  pub opened_bytes : (limits : Limits) → first_no (opening_questions kind limits H (words_of_bytes bytes)) ≡ 0
      → table_result (Ok 0) (set (set (set (words_of_bytes (put_mid 0 (2 * n - 0) bytes part)) 0 H.desks) 1 H.screens) 2 H.positions)
      ≡ kind.opens limits H (words_of_bytes bytes)
  opened_bytes limits asked =
      ap (λ (x : List ℕ). table_result (Ok 0) (set (set (set x 0 H.desks) 1 H.screens) 2 H.positions)) cleared.holds
      ∙ stored laws limits H (words_of_bytes bytes) n asked e
