-- What comes of a program's work on its input, and of a program.
use Rattle.std.specs.Prelude.{◌≡◌, ℕ, List, Option, ◌⊎◌, IfSome, take}
use Rattle.std.specs.Borrow.{Bor, MutBor}
use Rattle.std.specs.Io.KnownBytes.{Appends}
use Rattle.output.specs.Taken.{TakesFront}

-- The work was done on some bytes and an output: on the first bytes of the input, where these are known.
pub record WorksOn {W : Type 0} (known : Option (List ℕ)) (most : ℕ) (Works : Bor (List ℕ) → MutBor W → MutBor W → Type 0) (before after : W) : Type 0 where
  pub bytes : Bor (List ℕ)
  pub front : IfSome known (λ all. bytes.now ≡ take most all)
  pub shown : MutBor W
  pub shows : shown.now ≡ before
  pub left : MutBor W
  pub met : Works bytes shown left
  pub leaves : left.now ≡ after

-- The output holds what is to be written for some bytes: for all of the input, if its bytes are known.
abbrev pub WritesKnown : (List ℕ → List ℕ) → Option (List ℕ) → Option (List ℕ) → Option (List ℕ) → Type 0
WritesKnown written known before after = (bytes : List ℕ) × IfSome known (λ all. bytes ≡ all) × Appends before after (written bytes)

-- A program did its work, on its output and its errors;
pub record Works {W E : Type 0} (Does : MutBor W → MutBor E → MutBor W → MutBor E → Type 0) (before after : W) (quiet told : E) : Type 0 where
  pub to : MutBor W
  pub errors : MutBor E
  pub shows : (to.now ≡ before) × (errors.now ≡ quiet)
  pub to_left : MutBor W
  pub errors_left : MutBor E
  pub met : Does to errors to_left errors_left
  pub leaves : (to_left.now ≡ after) × (errors_left.now ≡ told)

-- or it printed its help, all of it, or said why it could not.
abbrev pub Helps : Option (List ℕ) → Option (List ℕ) → List ℕ → Type 0 → Type 0 → Type 0
Helps before after help quiet said = (Appends before after help × quiet) ⊎ (TakesFront before after help × said)
