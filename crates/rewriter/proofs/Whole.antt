-- What follows from the contract of `rewrite`.
use Rattle.std.specs.Prelude.{ℕ, ◌≤◌, ◌≡◌, List, ◌++◌, length, take, drop}
use Rattle.std.proofs.Common.{arith, ◌∙◌, le-leb}
use Rattle.sheet_rules.specs.Rewriting.{rewrite}
use Rattle.sheet_rules.specs.Sheet.{Edition}
use Rattle.sheet_rules.proofs.SheetTheorems.{rewritten_always_fits}
use Rattle.rewriter.specs.Output.{no_room, put, write_whole}
use Rattle.rewriter.proofs.Laws.Output.{put_bytes, put_count, put_rest, put_within}

-- The first bytes of the buffer are those that were to be written, and the rest is unchanged.
module _ (out bytes after : List ℕ) (n : ℕ) (written : put after n ≡ write_whole out bytes) where
  pub their_number : n ≡ length bytes
  their_number = put_count out bytes after n written

  pub first_bytes : take n after ≡ bytes
  first_bytes = put_bytes out bytes after n written

  pub rest_unchanged : drop n after ≡ drop n out
  rest_unchanged = put_rest out bytes after n written

  pub within_the_buffer : n ≤ length after
  within_the_buffer = put_within out bytes after n written

-- A buffer of 65,536 bytes has room for every output.
module _ (from to : Edition) (sheet out : List ℕ) (large : 65536 ≤ length out) where
  pub always_room : write_whole out (rewrite from to sheet) ≡ put (rewrite from to sheet ++ drop (length (rewrite from to sheet)) out) (length (rewrite from to sheet))
  always_room = simp (le-leb (length (rewrite from to sheet)) (length out) (omega (arith, large, rewritten_always_fits from to sheet)))

  pub no_room_never : (after : List ℕ) → no_room after ≡ write_whole out (rewrite from to sheet) → ⊥
  no_room_never after full = let both : no_room after ≡ put _ _ = full ∙ always_room in let z : ◌≡◌ {A = ℕ} 0 1 = cc in omega arith
