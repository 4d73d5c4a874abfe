use Rattle.std.proofs.Common.{rules, ◌≡◌, ℕ, List, Option, IfSome, length, take, refl, subst, inr}
use Rattle.reader.specs.declared.TheConstants.{READ_BYTES}
use Rattle.program.proofs.work_on_input.Goals as goal

-- what was read is the first of the input
front_read : (known : Option (List ℕ)) (part : List ℕ) (n most : ℕ) → n ≡ most → IfSome known (λ all. part ≡ take n all) → IfSome known (λ all. part ≡ take most all)
front_read known part n most same = subst (λ m. IfSome known (λ all. part ≡ take m all)) same

pub returns-in-Err-taken-clause-outcome : goal.returns-in-Err-taken-clause-outcome
returns-in-Err-taken-clause-outcome g c =
    let buffer = c.read_to_end.new.buffer in
    let long : length buffer ≡ READ_BYTES = search rules in
    let front = front_read (g.R.Read.remaining c.args.from.now) (take c.in-Ok.n buffer) (length buffer) READ_BYTES long c.in-Ok.ensures.front in
    inr (record { bytes = _; front = front; shown = _; shows = refl; left = _; met = c.work-handed.ensures; leaves = refl }, λ err. c.fail-in-Err-taken.ensures.front)

pub returns-in_default-clause-outcome : goal.returns-in_default-clause-outcome
returns-in_default-clause-outcome g c =
    let buffer = c.read_to_end.new.buffer in
    let long : length buffer ≡ READ_BYTES = search rules in
    let front = front_read (g.R.Read.remaining c.args.from.now) (take c.in-Ok.n buffer) (length buffer) READ_BYTES long c.in-Ok.ensures.front in
    inr (record { bytes = _; front = front; shown = _; shows = refl; left = _; met = c.work-handed.ensures; leaves = refl }, λ err. search rules)
