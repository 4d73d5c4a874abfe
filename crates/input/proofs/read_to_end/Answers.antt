use Rattle.std.proofs.Common.{arith, rules, ◌≡◌, ℕ, ◌+◌, ◌-◌, ◌≤◌, List, ◌++◌, length, take, sym, ap, subst, ◌∙◌, length-take-le}
use Rattle.std.proofs.lemmas.Slice.{take-put_mid}
use Rattle.std.proofs.Math.Seq.{take-append-add}
use Rattle.std.proofs.KnownBytes.{Consumes-trans}
use Rattle.std.specs.Io.KnownBytes.{Consumes}
use Rattle.std.proofs.lemmas.List.{take-take}
use borrow.Rule.Slice.PartMut.{put_mid}
use Rattle.input.proofs.read_to_end.Goals as goal

-- what was read into the rest of the buffer stands after what was there
grown : (a k more : ℕ) (xs ys : List ℕ) → a + k ≤ length xs → length ys ≡ k → more ≤ k
    → take (a + more) (put_mid a k xs ys) ≡ take a xs ++ take more ys
grown a k more xs ys fits long few =
    sym (take-take (a + more) (a + k) (put_mid a k xs ys) (omega arith))
    ∙ ap (take (a + more)) (take-put_mid a k xs ys (a + k) (omega arith) (omega arith))
    ∙ sym (ap (λ n. take (n + more) (take a xs ++ ys)) (length-take-le a xs (omega arith)))
    ∙ take-append-add (take a xs) ys more

pub loop-done-preserved : goal.loop-done-preserved
loop-done-preserved g c =
    let buffer = c.loop-done.buffer in
    let done = c.loop-done.done in
    let rest = length buffer - done in
    let long : length c.read.new.buf ≡ rest = search rules in
    let few : c.in_ok-more.more ≤ rest = omega (arith, c.in_ok-more.ensures.bound.0) in
    let joined = grown done rest c.in_ok-more.more buffer c.read.new.buf (omega arith) long few in
    let remaining = g.R.Read.remaining in
    let all = Consumes-trans (remaining c.args.from.now) (remaining c.loop-done.from) (remaining c.read.new.self) _ _ c.loop-done.invariant.1 c.in_ok-more.ensures.bytes.0 in
    (search rules, subst (Consumes (remaining c.args.from.now) (remaining c.read.new.self)) (sym joined) all)
