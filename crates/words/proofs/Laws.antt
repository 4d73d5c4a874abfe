-- Laws of the words in bytes: one word, a part, a part written back.
use Rattle.std.proofs.Common.{◌≡◌, ℕ, zero, suc, ◌+◌, ◌-◌, ◌*◌, ◌/◌, ◌≤◌, ◌<◌, List, [], ◌∷◌, ◌++◌, length, get_or, set, take, drop, refl, sym, ap, ap₂, ◌∙◌, arith}
use Rattle.std.proofs.Math.Seq.{drop-drop, length-take-le}
use Rattle.std.proofs.lemmas.List.{drop-set-lt}
use borrow.Rule.Slice.PartMut.{drop_put, mid_of, put_mid}
use Rattle.rules.specs.Bytes.{IsBytes, bytes_of_words, overwrite_words, words_of_bytes}
use Rattle.rules.proofs.Laws.Bytes.Bytes.{overwrite_back, words-length}
use Rattle.words.specs.Written.{Written}

-- a table has half as many words as bytes
pub length-words : (bytes : List ℕ) → length (words_of_bytes bytes) ≡ length bytes / 2
length-words bytes = omega (arith, words-length bytes)

-- the bytes of the next word
twice : (k : ℕ) → 2 * suc k ≡ suc (suc (2 * k))
twice k = omega arith

twice_next : (k : ℕ) → 2 * suc k + 1 ≡ suc (suc (2 * k + 1))
twice_next k = omega arith

-- word k is made of the bytes 2k and 2k + 1
pub word_at : (bytes : List ℕ) (k : ℕ) → 2 * k + 1 < length bytes → get_or bytes (2 * k) 0 + 256 * get_or bytes (2 * k + 1) 0 ≡ get_or (words_of_bytes bytes) k 0
word_at [] k h = absurd (omega arith)
word_at (low ∷ []) k h = absurd (omega arith)
word_at (low ∷ high ∷ bytes) zero h = refl
word_at (low ∷ high ∷ bytes) (suc k) h =
    rw (twice_next, twice) (word_at bytes k (omega arith))

-- ---- One word.
-- word k is written: its low byte and its high byte
put_words : (bytes : List ℕ) (k low high : ℕ) → 2 * k + 1 < length bytes
    → words_of_bytes (set (set bytes (2 * k) low) (2 * k + 1) high) ≡ set (words_of_bytes bytes) k (low + 256 * high)
put_words [] k low high h = absurd (omega arith)
put_words (x ∷ []) k low high h = absurd (omega arith)
put_words (x ∷ y ∷ bytes) zero low high h = refl
put_words (x ∷ y ∷ bytes) (suc k) low high h =
    rw (twice_next, twice) (ap {B = List ℕ} (λ l. (x + 256 * y) ∷ l) (put_words bytes k low high (omega arith)))

pub put_written : (bytes : List ℕ) (k low high : ℕ) → 2 * k + 1 < length bytes
    → Written bytes (set (words_of_bytes bytes) k (low + 256 * high)) (set (set bytes (2 * k) low) (2 * k + 1) high)
put_written bytes k low high h =
    let n = 2 * length (words_of_bytes bytes) in
    let l : 2 * k + 1 < n = omega (arith, words-length bytes) in
    record {
      holds = put_words bytes k low high h;
      last = drop-set-lt n (set bytes (2 * k) low) (2 * k + 1) high l ∙ drop-set-lt n bytes (2 * k) low (omega arith);
    }

-- the words of a part
pub words-drop : (n : ℕ) (bytes : List ℕ) → words_of_bytes (drop (2 * n) bytes) ≡ drop n (words_of_bytes bytes)
words-drop zero bytes = refl
words-drop (suc n) [] = rw twice
words-drop (suc n) (low ∷ []) = rw twice
words-drop (suc n) (low ∷ high ∷ bytes) = rw twice (words-drop n bytes)

pub words_take : (n : ℕ) (bytes : List ℕ) → words_of_bytes (take (2 * n) bytes) ≡ take n (words_of_bytes bytes)
words_take zero bytes = refl
words_take (suc n) [] = rw twice
words_take (suc n) (low ∷ []) = rw twice
words_take (suc n) (low ∷ high ∷ bytes) =
    rw twice (ap {B = List ℕ} (λ l. (low + 256 * high) ∷ l) (words_take n bytes))

pub words-part : (a e : ℕ) (bytes : List ℕ) → words_of_bytes (mid_of (2 * a) (2 * e - 2 * a) bytes) ≡ mid_of a (e - a) (words_of_bytes bytes)
words-part a e bytes =
    let n : 2 * e - 2 * a ≡ 2 * (e - a) = omega arith in
    ap (λ (k : ℕ). words_of_bytes (take k (drop (2 * a) bytes))) n ∙ words_take (e - a) (drop (2 * a) bytes) ∙ ap (take (e - a)) (words-drop a bytes)

-- the words of a part written back
pub words_append : (n : ℕ) (front back : List ℕ) → length front ≡ 2 * n → words_of_bytes (front ++ back) ≡ words_of_bytes front ++ words_of_bytes back
words_append n [] back h = refl
words_append n (low ∷ []) back h = absurd (omega arith)
words_append n (low ∷ high ∷ front) back h = ap {B = List ℕ} (λ l. (low + 256 * high) ∷ l) (words_append (n - 1) front back (omega arith))

pub words_put : (a e : ℕ) (bytes part : List ℕ) → a ≤ e → 2 * e ≤ length bytes → length part ≡ 2 * e - 2 * a
    → words_of_bytes (put_mid (2 * a) (2 * e - 2 * a) bytes part) ≡ put_mid a (e - a) (words_of_bytes bytes) (words_of_bytes part)
words_put a e bytes part order room wide =
    let n : 2 * e - 2 * a ≡ 2 * (e - a) = omega arith in
    words_append a (take (2 * a) bytes) (part ++ drop (2 * e - 2 * a) (drop (2 * a) bytes)) (length-take-le (2 * a) bytes (omega arith))
    ∙ ap₂ {C = List ℕ} (λ x y. x ++ y) (words_take a bytes)
    (words_append (e - a) part (drop (2 * e - 2 * a) (drop (2 * a) bytes)) (omega arith)
    ∙ ap {B = List ℕ} (λ y. words_of_bytes part ++ y)
    (ap (λ (k : ℕ). words_of_bytes (drop k (drop (2 * a) bytes))) n ∙ words-drop (e - a) (drop (2 * a) bytes) ∙ ap (drop (e - a)) (words-drop a bytes)))

-- an odd last byte stays where a part is written back
pub put_last : (a e : ℕ) (bytes part : List ℕ) → a ≤ e → 2 * e ≤ length bytes → length part ≡ 2 * e - 2 * a
    → drop (2 * length (words_of_bytes bytes)) (put_mid (2 * a) (2 * e - 2 * a) bytes part) ≡ drop (2 * length (words_of_bytes bytes)) bytes
put_last a e bytes part order room wide =
    let n = 2 * length (words_of_bytes bytes) in
    let k : 2 * e + (n - 2 * e) ≡ n = omega (arith, words-length bytes) in
    let d : drop (2 * e) (put_mid (2 * a) (2 * e - 2 * a) bytes part) ≡ drop (2 * e) bytes = drop_put (2 * a) (2 * e) bytes part (omega arith) room wide in
    ap (λ (m : ℕ). drop m (put_mid (2 * a) (2 * e - 2 * a) bytes part)) (sym k) ∙ sym (drop-drop (n - 2 * e) (2 * e) (put_mid (2 * a) (2 * e - 2 * a) bytes part))
    ∙ ap (drop (n - 2 * e)) d ∙ drop-drop (n - 2 * e) (2 * e) bytes ∙ ap (λ (m : ℕ). drop m bytes) k

-- ---- Written: nothing, one store after another, a part.
pub written_none : (bytes : List ℕ) → Written bytes (words_of_bytes bytes) bytes
written_none bytes = record { holds = refl; last = refl }

pub written_as : {before words words' after : List ℕ} → Written before words after → words ≡ words' → Written before words' after
written_as w e = record { holds = w.holds ∙ e; last = w.last }

pub written_then : {first words before words' after : List ℕ} → Written first words before → length before ≡ length first → Written before words' after
    → Written first words' after
written_then {first} {words} {before} {words'} {after} w same next =
    let n : 2 * length (words_of_bytes first) ≡ 2 * length (words_of_bytes before) = omega (arith, length-words first, length-words before) in
    record { holds = next.holds; last = rw n next.last ∙ w.last }

-- a part is written back
pub part_written : (a e : ℕ) (bytes part words : List ℕ) → a ≤ e → 2 * e ≤ length bytes → length part ≡ 2 * e - 2 * a → words_of_bytes part ≡ words
    → Written bytes (put_mid a (e - a) (words_of_bytes bytes) words) (put_mid (2 * a) (2 * e - 2 * a) bytes part)
part_written a e bytes part words order room wide holds =
    record {
      holds = words_put a e bytes part order room wide ∙ ap (put_mid a (e - a) (words_of_bytes bytes)) holds;
      last = put_last a e bytes part order room wide;
    }

-- the bytes after, from the words in them
pub written_overwrites : {before words after : List ℕ} → IsBytes after → length after ≡ length before → Written before words after
    → after ≡ overwrite_words words before
unfolding overwrite_words
written_overwrites {before} {words} {after} are same w =
    let n : 2 * length (words_of_bytes after) ≡ 2 * length (words_of_bytes before) = omega (arith, length-words before, length-words after) in
    sym (overwrite_back after are) ∙ ap (λ (k : ℕ). bytes_of_words (words_of_bytes after) ++ drop k after) n ∙ ap (λ (l : List ℕ). bytes_of_words (words_of_bytes after) ++ l) w.last
    ∙ ap (λ (k : ℕ). bytes_of_words (words_of_bytes after) ++ drop k before) (sym n) ∙ ap (λ (l : List ℕ). overwrite_words l before) w.holds
