-- The front of a line, which ends in one byte, and then the rest.
use Prim.Native.Nat.{ℕ}
use mathlib.Core.List.{List, [], ◌∷◌, ◌++◌}
use lib.Seq.{append_snoc}
use Rattle.buffer.specs.declared.Buffer.{Buffer}
use Rattle.buffer.specs.Put.{Fits, Put}
use Rattle.buffer.proofs.Laws.Put as laws

pub rest_put : (front : List ℕ) (byte : ℕ) {rest : List ℕ} {before middle after : Buffer}
    → Put before middle (front ++ (byte ∷ [])) → Put middle after rest → Put before after (front ++ (byte ∷ rest))
rest_put front byte first second = rw append_snoc at (laws.put_on first second)

module _ (front : List ℕ) (byte : ℕ) (rest : List ℕ) where
  pub front_fits : (before : Buffer) → Fits before (front ++ (byte ∷ rest)) → Fits before (front ++ (byte ∷ []))
  front_fits before both = laws.front_fits before (front ++ (byte ∷ [])) rest (rw append_snoc both)

  pub rest_fits : {before middle : Buffer} → Put before middle (front ++ (byte ∷ [])) → Fits before (front ++ (byte ∷ rest)) → Fits middle rest
  rest_fits put both = laws.rest_fits rest put (rw append_snoc both)
