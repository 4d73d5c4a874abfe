-- A result of the rules on words, and what was written into the bytes.
use Rattle.std.proofs.Common.{◌≡◌, ℕ, List, length, refl, ap, ◌∙◌}
use Rattle.rules.specs.Bytes.{IsBytes, on_bytes, words_of_bytes}
use Rattle.rules.specs.Steps.{Result}
use Rattle.words.specs.Written.{Written}
use Rattle.words.proofs.Laws.{written_none, written_overwrites}
use Rattle.reply.specs.Answer.{Reply, table_result}
use Rattle.board.specs.Results.{Matches}

pub matches : {result : Result (List ℕ)} {before words after : List ℕ} {r : Reply} → table_result r words ≡ result → Written before words after → Matches result before r after
matches {r = r} e w = record { words = (λ i. table_result r (w.holds i)) ∙ e; last = w.last }

-- nothing was written
pub matches_unchanged : {result : Result (List ℕ)} {bytes : List ℕ} {r : Reply} → table_result r (words_of_bytes bytes) ≡ result → Matches result bytes r bytes
matches_unchanged {bytes = bytes} e = matches e (written_none bytes)

-- on bytes
pub on_bytes_lem : {result : Result (List ℕ)} {before after : List ℕ} {r : Reply} → IsBytes after → length after ≡ length before → Matches result before r after
    → table_result r after ≡ on_bytes result before
on_bytes_lem {before = before} {r = r} are same m =
    let written = written_overwrites are same (record { holds = refl; last = m.last }) in
    (λ i. table_result r (written i)) ∙ ap (λ (d : Result (List ℕ)). on_bytes d before) m.words
