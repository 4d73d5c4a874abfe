-- The calls as the host makes them, on bytes: each agrees with the call on the words in them; demand 1 on bytes.
use Rattle.std.specs.Prelude.{ℕ, zero, suc, ◌+◌, ◌*◌, ◌-◌, ◌/◌, ◌%◌, ◌≤◌, ◌<◌, ◌≡◌, refl, Bool, true, false, ◌&&◌, List, [], ◌∷◌, ◌++◌, length, get_or, drop, replicate, ltb}
use Rattle.std.proofs.Common.{arith, sym, ap, subst, ◌∙◌, append-nil, length-append, length-drop, drop_at, get_or-drop, ltb-false}
use Rattle.rules.specs.Bytes.{Agrees, Call16, IsBytes, Words16, bytes_of_words, on_bytes, open_on_bytes, overwrite_words, pack, step_on_bytes, unpack}
use Rattle.rules.specs.Bytes.{words_of_bytes}
use Rattle.rules.specs.Demands.{Demand1, on_bytes_of}
use Rattle.rules.specs.Hall.{Hall}
use Rattle.rules.specs.Steps.{Answer, Call, Result}
use Rattle.rules.proofs.Laws.Table.WordBounds.{below-append}

-- ---- Words and bytes.
pub words-length : (bytes : List ℕ) → (2 * length (words_of_bytes bytes) ≤ length bytes) × (length bytes ≤ 2 * length (words_of_bytes bytes) + 1)
words-length [] = (omega arith, omega arith)
words-length (low ∷ []) = (omega arith, omega arith)
words-length (low ∷ high ∷ bytes) = (omega (arith, words-length bytes), omega (arith, words-length bytes))

-- bytes that are 0
pub zero_words : (n : ℕ) → words_of_bytes (replicate (2 * n) 0) ≡ replicate n 0
zero_words zero = refl
zero_words (suc n) = let e : 2 * suc n ≡ suc (suc (2 * n)) = omega arith in rw (e, zero_words n)

pub bytes_length : (words : List ℕ) → length (bytes_of_words words) ≡ 2 * length words
bytes_length [] = omega arith
bytes_length (word ∷ words) = omega (arith, bytes_length words)

pub words_are_16 : (bytes : List ℕ) → IsBytes bytes → Words16 (words_of_bytes bytes)
words_are_16 [] h i = omega arith
words_are_16 (low ∷ []) h i = omega arith
words_are_16 (low ∷ high ∷ bytes) h zero = omega (arith, h 0, h 1)
words_are_16 (low ∷ high ∷ bytes) h (suc i) = words_are_16 bytes (λ j. h (suc (suc j))) i

pub bytes_are_bytes : (words : List ℕ) → IsBytes (bytes_of_words words)
bytes_are_bytes [] j = omega arith
bytes_are_bytes (word ∷ words) zero = omega arith
bytes_are_bytes (word ∷ words) (suc zero) = omega arith
bytes_are_bytes (word ∷ words) (suc (suc j)) = bytes_are_bytes words j

pub words_then : (words rest : List ℕ) → Words16 words → words_of_bytes (bytes_of_words words ++ rest) ≡ words ++ words_of_bytes rest
words_then [] rest h = refl
words_then (word ∷ words) rest h =
    let e : word % 256 + 256 * (word / 256 % 256) ≡ word = omega (arith, h 0) in λ i. e i ∷ words_then words rest (λ j. h (suc j)) i

no_word : (bytes : List ℕ) → length bytes ≤ 1 → words_of_bytes bytes ≡ []
no_word [] h = refl
no_word (low ∷ []) h = refl
no_word (low ∷ high ∷ bytes) h = absurd (omega arith)

as_many : (bytes others : List ℕ) → length bytes ≡ length others → length (words_of_bytes bytes) ≡ length (words_of_bytes others)
as_many bytes others e = omega (arith, words-length bytes, words-length others)

-- ---- Words that overwrite bytes.
low_and_high : (low high : ℕ) → low < 256 → high < 256 → ((low + 256 * high) % 256 ≡ low) × ((low + 256 * high) / 256 % 256 ≡ high)
low_and_high low high l h = let d : (low + 256 * high) / 256 ≡ high = omega arith in (omega arith, omega arith)

pub overwrite_back : (bytes : List ℕ) → IsBytes bytes → overwrite_words (words_of_bytes bytes) bytes ≡ bytes
unfolding overwrite_words
overwrite_back [] h = refl
overwrite_back (low ∷ []) h = refl
overwrite_back (low ∷ high ∷ bytes) h =
    let n : ℕ = length (words_of_bytes bytes) in
    let e : 2 * suc n ≡ suc (suc (2 * n)) = omega arith in
    let b = low_and_high low high (h 0) (h 1) in
    (λ i. b.0 i ∷ b.1 i ∷ (bytes_of_words (words_of_bytes bytes) ++ drop (e i) (low ∷ high ∷ bytes)))
    ∙ ap {B = List ℕ} (λ r. low ∷ high ∷ r) (overwrite_back bytes (λ j. h (suc (suc j))))

pub overwrite_length : (words bytes : List ℕ) → 2 * length words ≤ length bytes → length (overwrite_words words bytes) ≡ length bytes
unfolding overwrite_words
overwrite_length words bytes h =
    omega (arith, length-append (bytes_of_words words) (drop (2 * length words) bytes), bytes_length words, length-drop (2 * length words) bytes)

pub overwrite_past : (words bytes : List ℕ) → drop (2 * length words) (overwrite_words words bytes) ≡ drop (2 * length words) bytes
unfolding overwrite_words
overwrite_past words bytes = drop_at (bytes_of_words words) (drop (2 * length words) bytes) (2 * length words) (bytes_length words)

pub overwrite_are_bytes : (words bytes : List ℕ) → IsBytes bytes → IsBytes (overwrite_words words bytes)
unfolding overwrite_words
overwrite_are_bytes words bytes h =
    below-append 256 (bytes_of_words words) (drop (2 * length words) bytes) (bytes_are_bytes words)
    (λ j. rw (get_or-drop (2 * length words) bytes j 0) (h (2 * length words + j)))

pub overwrite_words_lem : (words bytes : List ℕ) → Words16 words → length words ≡ length (words_of_bytes bytes) → words_of_bytes (overwrite_words words bytes) ≡ words
unfolding overwrite_words
overwrite_words_lem words bytes h e =
    words_then words (drop (2 * length words) bytes) h
    ∙ ap (λ (r : List ℕ). words ++ r)
    (no_word (drop (2 * length words) bytes) (omega (arith, length-drop (2 * length words) bytes, words-length bytes)))
    ∙ append-nil words

-- to write the words that are there behind others is to write the others alone
pub overwrite_front : (words bytes : List ℕ) → IsBytes bytes → overwrite_words (words ++ drop (length words) (words_of_bytes bytes)) bytes ≡ overwrite_words words bytes
unfolding overwrite_words
overwrite_front [] bytes h = overwrite_back bytes h
overwrite_front (word ∷ words) [] h = ap (λ (all : List ℕ). overwrite_words (word ∷ all) []) (append-nil words)
overwrite_front (word ∷ words) (low ∷ []) h = ap (λ (all : List ℕ). overwrite_words (word ∷ all) (low ∷ [])) (append-nil words)
overwrite_front (word ∷ words) (low ∷ high ∷ bytes) h =
    let all : List ℕ = words ++ drop (length words) (words_of_bytes bytes) in
    let e : 2 * suc (length all) ≡ suc (suc (2 * length all)) = omega arith in
    let f : 2 * suc (length words) ≡ suc (suc (2 * length words)) = omega arith in
    (λ i. (word % 256) ∷ (word / 256 % 256) ∷ (bytes_of_words all ++ drop (e i) (low ∷ high ∷ bytes)))
    ∙ ap {B = List ℕ} (λ r. (word % 256) ∷ (word / 256 % 256) ∷ r) (overwrite_front words bytes (λ j. h (suc (suc j))))
    ∙ (λ i. (word % 256) ∷ (word / 256 % 256) ∷ (bytes_of_words words ++ drop (sym f i) (low ∷ high ∷ bytes)))

-- ---- The answer in one number.
pub unpack-pack : (answer : Answer) → answer.session < 65536 → unpack (pack answer) ≡ answer
unpack-pack answer h =
    let n : (answer.number * 65536 + answer.session) / 65536 ≡ answer.number = omega arith in
    let s : (answer.number * 65536 + answer.session) % 65536 ≡ answer.session = omega arith in
    λ i. record { number = n i; session = s i }

-- ---- A call on bytes agrees with the call on the words in them, where that keeps the table's length and width.
pub record Kept (table : List ℕ) (result : Result (List ℕ)) : Type 0 where
  pub session : result.answer.session < 65536
  pub words : Words16 result.after
  pub same_length : length result.after ≡ length table

pub agrees : (bytes : List ℕ) (result : Result (List ℕ)) → IsBytes bytes → Kept (words_of_bytes bytes) result → Agrees bytes (on_bytes result bytes) result
agrees bytes result are kept =
    let same : 2 * length result.after ≡ 2 * length (words_of_bytes bytes) = omega (arith, kept.same_length) in
    record {
      answer = refl;
      packs = unpack-pack result.answer kept.session;
      words = overwrite_words_lem result.after bytes kept.words kept.same_length;
      are_bytes = overwrite_are_bytes result.after bytes are;
      same_length = overwrite_length result.after bytes (omega (arith, words-length bytes));
      last_byte = subst (λ (n : ℕ). drop n (overwrite_words result.after bytes) ≡ drop n bytes) same (overwrite_past result.after bytes);
    }

-- What these laws ask of a board on words: its opening and its step, and that they keep a table's length and width.
pub record WordBoard : Type 0 where
  pub opens : Hall → List ℕ → Result (List ℕ)
  pub does : List ℕ → Call → Result (List ℕ)
  pub open_keeps : (hall : Hall) (table : List ℕ) → Words16 table → Kept table (opens hall table)
  pub step_keeps : (table : List ℕ) (call : Call) → Words16 table → Call16 call → Kept table (does table call)

module _ (board : WordBoard) where
  pub bytes_step : (bytes : List ℕ) (call : Call) → IsBytes bytes → Call16 call
      → Agrees bytes (step_on_bytes board.does bytes call) (board.does (words_of_bytes bytes) call)
  bytes_step bytes call are wide =
      agrees bytes (board.does (words_of_bytes bytes) call) are (board.step_keeps (words_of_bytes bytes) call (words_are_16 bytes are) wide)

  pub bytes_open : (hall : Hall) (bytes : List ℕ) → IsBytes bytes
      → Agrees bytes (open_on_bytes board.opens hall bytes) (board.opens hall (words_of_bytes bytes))
  bytes_open hall bytes are =
      agrees bytes (board.opens hall (words_of_bytes bytes)) are (board.open_keeps hall (words_of_bytes bytes) (words_are_16 bytes are))

-- ---- Demand 1.
-- a byte stays where its word stays, and where it stands past the words
pub overwrite_word : (words bytes : List ℕ) (j : ℕ) → IsBytes bytes → length words ≡ length (words_of_bytes bytes)
    → get_or words (j / 2) 0 ≡ get_or (words_of_bytes bytes) (j / 2) 0 → get_or (overwrite_words words bytes) j 0 ≡ get_or bytes j 0
unfolding overwrite_words
overwrite_word [] bytes j h e q = refl
overwrite_word (word ∷ words) [] j h e q = absurd (omega arith)
overwrite_word (word ∷ words) (low ∷ []) j h e q = absurd (omega arith)
overwrite_word (word ∷ words) (low ∷ high ∷ bytes) zero h e q = ap (λ (x : ℕ). x % 256) q ∙ (low_and_high low high (h 0) (h 1)).0
overwrite_word (word ∷ words) (low ∷ high ∷ bytes) (suc zero) h e q = ap (λ (x : ℕ). x / 256 % 256) q ∙ (low_and_high low high (h 0) (h 1)).1
overwrite_word (word ∷ words) (low ∷ high ∷ bytes) (suc (suc j)) h e q =
    let n : 2 * suc (length words) ≡ suc (suc (2 * length words)) = omega arith in
    let i : suc (suc j) / 2 ≡ suc (j / 2) = omega arith in
    ap (λ (m : ℕ). get_or (bytes_of_words words ++ drop m (low ∷ high ∷ bytes)) j 0) n
    ∙ overwrite_word words bytes j (λ k. h (suc (suc k))) (omega arith)
    (subst (λ (k : ℕ). get_or (word ∷ words) k 0 ≡ get_or (words_of_bytes (low ∷ high ∷ bytes)) k 0) i q)

pub same_past : (n : ℕ) (xs ys : List ℕ) → drop n xs ≡ drop n ys → (j : ℕ) → n ≤ j → get_or xs j 0 ≡ get_or ys j 0
same_past n xs ys e j h =
    let k : n + (j - n) ≡ j = omega arith in
    subst (λ (m : ℕ). get_or xs m 0 ≡ get_or ys m 0) k
    (sym (get_or-drop n xs (j - n) 0) ∙ ap (λ (l : List ℕ). get_or l (j - n) 0) e ∙ get_or-drop n ys (j - n) 0)

-- demand 1 on bytes, from that on the words in them
module _ (bytes : List ℕ) (are : IsBytes bytes) (result : Result (List ℕ)) (kept : Kept (words_of_bytes bytes) result) where
  byte_kept : (j : ℕ) → get_or result.after (j / 2) 0 ≡ get_or (words_of_bytes bytes) (j / 2) 0
      → get_or (overwrite_words result.after bytes) j 0 ≡ get_or bytes j 0
  byte_kept j = overwrite_word result.after bytes j are kept.same_length

  last_byte_kept : (j : ℕ) → 2 * length (words_of_bytes bytes) ≤ j → get_or (overwrite_words result.after bytes) j 0 ≡ get_or bytes j 0
  last_byte_kept = same_past (2 * length (words_of_bytes bytes)) (overwrite_words result.after bytes) bytes (agrees bytes result are kept).last_byte

  pub bytes_demand1 : (refusals : List ℕ) (may_change : ℕ → Bool) → Demand1 refusals may_change (words_of_bytes bytes) result
      → Demand1 refusals (on_bytes_of bytes may_change) bytes (on_bytes result bytes)
  bytes_demand1 refusals may_change on-words =
      record {
        refused =
            λ n e.
            (let r = on-words.refused n e in
            (r.0, r.1, ap (λ (words : List ℕ). overwrite_words words bytes) r.2 ∙ overwrite_back bytes are));
        accepted = λ e j unnamed. by_word e j (ltb j (2 * length (words_of_bytes bytes))) refl unnamed;
        same_length = (agrees bytes result are kept).same_length;
      }
    where
      by_word : result.answer.number ≡ 0 → (j : ℕ) (b : Bool) → ltb j (2 * length (words_of_bytes bytes)) ≡ b → b && may_change (j / 2) ≡ false
          → get_or (overwrite_words result.after bytes) j 0 ≡ get_or bytes j 0
      by_word e j true q unnamed = byte_kept j (on-words.accepted e (j / 2) unnamed)
      by_word e j false q unnamed = last_byte_kept j (ltb-false j (2 * length (words_of_bytes bytes)) q)
