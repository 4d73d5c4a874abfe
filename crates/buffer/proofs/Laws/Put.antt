-- Laws of bytes put one after another.
use Rattle.std.specs.Prelude.{ℕ, ◌+◌, ◌≤◌, ◌<◌, ◌≡◌, refl, List, [], ◌∷◌, ◌++◌, drop, set}
use Rattle.std.proofs.Common.{arith, add-one, ◌∙◌, take-append-drop, take_at, length-append}
use Rattle.std.proofs.Math.Path.{sym, ap}
use Rattle.std.proofs.Math.ListN.{length, take}
use Rattle.std.proofs.Math.Seq.{paste}
use Rattle.std.proofs.lemmas.List.{set_split}
use Rattle.std.proofs.lemmas.List.Edits.{paste_all, paste-paste}
use Rattle.buffer.specs.declared.Buffer.{Buffer}
use Rattle.buffer.specs.Put.{Fits, Put, overwrite_at, put_so_far}

pub overwrite_is_paste : (out : List ℕ) (at : ℕ) (bytes : List ℕ) (count : ℕ) → count ≡ length bytes → overwrite_at out at bytes ≡ paste out at bytes count
unfolding overwrite_at
overwrite_is_paste out at bytes count same = ap (λ (n : ℕ). take at out ++ (bytes ++ drop (at + n) out)) (sym same) ∙ sym (paste_all out at bytes count same)

overwrite_on : (out : List ℕ) (at : ℕ) (bytes more : List ℕ) → at ≤ length out
    → overwrite_at (overwrite_at out at bytes) (at + length bytes) more ≡ overwrite_at out at (bytes ++ more)
overwrite_on out at bytes more inside =
    ap (λ (words : List ℕ). overwrite_at words (at + length bytes) more) (overwrite_is_paste out at bytes (length bytes) refl)
    ∙ overwrite_is_paste (paste out at bytes (length bytes)) (at + length bytes) more (length more) refl
    ∙ paste-paste out at bytes more (length bytes) (length more) refl refl inside
    ∙ sym (overwrite_is_paste out at (bytes ++ more) (length bytes + length more) (sym (length-append bytes more)))

-- one byte stored
pub overwrite_one : (out : List ℕ) (at byte : ℕ) → at < length out → set out at byte ≡ overwrite_at out at (byte ∷ [])
unfolding overwrite_at
overwrite_one out at byte inside = set_split out at byte inside ∙ ap (λ (n : ℕ). take at out ++ (byte ∷ drop n out)) (sym (add-one at))

-- nothing put
pub put_none : (buffer : Buffer) → Put buffer buffer []
unfolding overwrite_at
put_none buffer =
    let same : buffer.len + 0 ≡ buffer.len = omega arith in
    record {
      same_reference = refl;
      written = sym (ap (λ (n : ℕ). take buffer.len buffer.bytes.now ++ drop n buffer.bytes.now) same ∙ take-append-drop buffer.len buffer.bytes.now);
      len = omega arith;
      long = refl;
    }

-- bytes put, and more after them
pub put_on : {before middle after : Buffer} {bytes more : List ℕ}
    → Put before middle bytes → Put middle after more → Put before after (bytes ++ more)
put_on {before} {middle} {after} {bytes} {more} first second =
    record {
      same_reference = second.same_reference ∙ first.same_reference;
      written = second.written ∙ (λ i. overwrite_at (first.written i) (first.len i) more) ∙ overwrite_on before.bytes.now before.len bytes more before.within;
      len = omega (arith, second.len, first.len, length-append bytes more);
      long = second.long ∙ first.long;
    }

-- if bytes and more after them fit, then the bytes fit, and once they are put, what follows fits
pub front_fits : (before : Buffer) (bytes more : List ℕ) → Fits before (bytes ++ more) → Fits before bytes
front_fits before bytes more both = omega (arith, both, length-append bytes more)

pub rest_fits : {before middle : Buffer} {bytes : List ℕ} (more : List ℕ) → Put before middle bytes → Fits before (bytes ++ more) → Fits middle more
rest_fits {before} {middle} {bytes} more put both = omega (arith, both, put.len, put.long, length-append bytes more)

-- ---- A buffer into which nothing was put before.
module _ {before after : Buffer} {bytes : List ℕ} (put : Put before after bytes) (empty : before.len ≡ 0) where
  long : after.len ≡ length bytes
  long = omega (arith, put.len, empty)

  front : after.bytes.now ≡ bytes ++ drop (0 + length bytes) before.bytes.now
  unfolding overwrite_at
  front = put.written ∙ ap (λ (n : ℕ). overwrite_at before.bytes.now n bytes) empty

  pub put_first : put_so_far after ≡ bytes
  put_first = (λ i. take (long i) (front i)) ∙ take_at bytes (drop (0 + length bytes) before.bytes.now) (length bytes) refl
