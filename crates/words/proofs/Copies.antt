-- Words copied, and words moved up one.
use Rattle.std.proofs.Common.{◌≡◌, ℕ, ◌+◌, ◌-◌, ◌*◌, ◌/◌, ◌<◌, List, [], ◌∷◌, ◌++◌, length, get_or, take, drop, set, refl, sym, ap, ◌∙◌, arith}
use Rattle.std.proofs.Math.Nat.{sub-zero, zero-add}
use Rattle.std.proofs.Math.ListN.{length-drop}
use Rattle.std.proofs.Math.Seq.{length-take-le, set_at, take_all}
use Rattle.std.proofs.lemmas.List.{drop_all, drop_more, take_more, take_more_set}
use Rattle.std.specs.List.{copy_within}
use Rattle.rules.specs.Bytes.{words_of_bytes}
use Rattle.words.specs.Words.{shift_left}
use Rattle.words.specs.Written.{Written}
use Rattle.words.proofs.Laws.{part_written, words_take, words-drop}

-- copying: one word more
pub copy_next : (d s : List ℕ) (i : ℕ) → i < length d → i < length s → take i d ≡ take i s → take (i + 1) (set d i (get_or s i 0)) ≡ take (i + 1) s
copy_next d s i h g e = rw (take_more_set d i (get_or s i 0) h, e) (sym (take_more s i 0 g))

-- moving up: all but the last word
pub moved_up : (n : ℕ) (bytes : List ℕ) → n + 1 ≡ length bytes / 2
    → Written bytes (take n (drop 1 (words_of_bytes bytes)) ++ drop n (words_of_bytes bytes)) (copy_within bytes 2 (2 * (length bytes / 2)) 0)
moved_up n bytes h =
    let rest = length-drop 2 bytes in
    let k : 2 * (length bytes / 2) - 2 ≡ 2 * n = omega arith in
    rw (k, zero-add)
    (simp sub-zero at (part_written 0 n bytes (take (2 * n) (drop 2 bytes)) (take n (drop 1 (words_of_bytes bytes))) (omega arith) (omega arith)
    (simp sub-zero (length-take-le (2 * n) (drop 2 bytes) (omega arith))) (words_take n (drop 2 bytes) ∙ ap (take n) (words-drop 1 bytes))))

-- moving up: the last word is replaced by 0
pub move_end : (l₀ l : List ℕ) (i : ℕ) → i + 1 ≡ length l₀ → l ≡ take i (drop 1 l₀) ++ drop i l₀ → set l i 0 ≡ drop 1 l₀ ++ (0 ∷ [])
move_end l₀ l i h p =
    let few = length-drop 1 l₀ in
    let last : drop i l₀ ≡ get_or l₀ i 0 ∷ [] = drop_more l₀ i 0 (omega arith) ∙ ap {B = List ℕ} (λ t. get_or l₀ i 0 ∷ t) (drop_all (i + 1) l₀ (omega arith)) in
    let front : take i (drop 1 l₀) ≡ drop 1 l₀ = take_all i (drop 1 l₀) (omega arith) in
    rw (p, last, front) (set_at (drop 1 l₀) (get_or l₀ i 0) [] 0 i (omega arith))

-- a list that has words, moved up
pub shift_some : (l : List ℕ) → 0 < length l → shift_left l ≡ drop 1 l ++ (0 ∷ [])
shift_some [] h = absurd (omega arith)
shift_some (x ∷ l) h = refl
