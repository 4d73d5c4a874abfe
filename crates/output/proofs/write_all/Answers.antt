use Rattle.std.proofs.Common.{arith, ◌≡◌, ℕ, ◌-◌, List, [], ◌++◌, length, take, drop, ap, ◌∙◌, append_assoc, append-nil, length-drop}
use Rattle.std.proofs.KnownBytes.{Appends-trans}
use Rattle.std.proofs.lemmas.List.{take-append-drop, take_all}
use Rattle.output.proofs.Front.{front_kept, front_next, on_err}
use Rattle.output.proofs.write_all.Goals as goal

-- what was taken of the rest stands between what was taken before and what is left
grown : (n : ℕ) (done rest all : List ℕ) → done ++ rest ≡ all → (done ++ take n rest) ++ take (length rest - n) (drop n rest) ≡ all
grown n done rest all joined =
    let left : take (length rest - n) (drop n rest) ≡ drop n rest = take_all (length rest - n) (drop n rest) (omega (arith, length-drop n rest)) in
    append_assoc done (take n rest) _
    ∙ ap (λ l. done ++ (take n rest ++ l)) left
    ∙ ap (λ l. done ++ l) (take-append-drop n rest)
    ∙ joined

pub returns-in_err-more-clause-front : goal.returns-in_err-more-clause-front
returns-in_err-more-clause-front g c =
    let (done, joined, was) = c.loop-rest.invariant in
    on_err c.from_residual.result (front_kept _ _ _ done c.loop-rest.rest.now _ was c.in_err-more.ensures.bytes joined)

pub returns-in-0-clause-front : goal.returns-in-0-clause-front
returns-in-0-clause-front g c =
    let (done, joined, was) = c.loop-rest.invariant in
    let rest = c.loop-rest.rest.now in
    let whole = ap (λ l. done ++ l) (append-nil rest) ∙ joined in
    front_next _ _ _ done rest [] _ was (c.in_ok-more.more, c.in_ok-more.ensures.bound, c.in_ok-more.ensures.bytes) whole

pub loop-rest-preserved : goal.loop-rest-preserved
loop-rest-preserved g c =
    let (done, joined, was) = c.loop-rest.invariant in
    let rest = c.loop-rest.rest.now in
    let more = c.in_ok-more.more in
    (done ++ take more rest, grown more done rest _ joined, Appends-trans _ _ _ done (take more rest) was c.in_ok-more.ensures.bytes)
