-- What is written for an input whose bytes are known.
use Rattle.std.proofs.Common.{ℕ, ◌≡◌, List, Option, None, Some, IfSome, take, refl, ap, subst, ◌∙◌}
use Rattle.std.specs.Io.KnownBytes.{Appends}
use Rattle.program.specs.Outcome.{WritesKnown}

-- It is what is to be written for all of the input, where the first bytes of any are written as all of it.
pub writes_known : (written : List ℕ → List ℕ) (most : ℕ) → ((all : List ℕ) → written (take most all) ≡ written all) → (known : Option (List ℕ)) (bytes : List ℕ)
    → (before after : Option (List ℕ)) → IfSome known (λ all. bytes ≡ take most all) → Appends before after (written bytes) → WritesKnown written known before after
writes_known written most same None bytes before after read gained = (bytes, tt, gained)
writes_known written most same (Some all) bytes before after read gained = (all, refl, subst (Appends before after) (ap written read ∙ same all) gained)
