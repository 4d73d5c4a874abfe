-- What a buffer holds after bytes were written whole.
use Rattle.std.specs.Prelude.{ℕ, ◌≤◌, ◌≡◌, Bool, true, false, cond, List, ◌++◌, length, take, drop, leb}
use Rattle.std.proofs.Common.{arith, sym, ap, ◌∙◌, length-append, take_at, drop_at}
use Rattle.rewriter.specs.Output.{no_room, put, write_whole}

module _ (out bytes after : List ℕ) (n : ℕ) (written : put after n ≡ write_whole out bytes) where
  abbrev whole : List ℕ
  whole = bytes ++ drop (length bytes) out

  is_put : put after n ≡ put whole (length bytes)
  is_put = by_room (leb (length bytes) (length out)) written
    where
      by_room : (room : Bool) → put after n ≡ cond room (put whole (length bytes)) (no_room out) → put after n ≡ put whole (length bytes)
      by_room true e = e
      by_room false e = absurd (let z : ◌≡◌ {A = ℕ} 0 1 = cc in omega arith)

  pub put_count : n ≡ length bytes
  put_count = cc is_put

  after_is : after ≡ whole
  after_is = cc is_put

  pub put_bytes : take n after ≡ bytes
  put_bytes = ap (take n) after_is ∙ take_at bytes (drop (length bytes) out) n (sym put_count)

  pub put_rest : drop n after ≡ drop n out
  put_rest = ap (drop n) after_is ∙ drop_at bytes (drop (length bytes) out) n (sym put_count) ∙ ap (λ (k : ℕ). drop k out) (sym put_count)

  pub put_within : n ≤ length after
  put_within = omega (arith, put_count, ap length after_is, length-append bytes (drop (length bytes) out))
