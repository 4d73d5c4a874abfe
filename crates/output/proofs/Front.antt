-- What an output took of a whole that was handed to it in parts.
use Rattle.std.proofs.Common.{arith, List, ℕ, ◌≡◌, ◌+◌, ◌++◌, Option, Result, Ok, Err, OnErr, OnOk, length, take, sym, ap, subst, ◌∙◌, length-append}
use Rattle.std.proofs.KnownBytes.{Appends-kept, Appends-trans}
use Rattle.std.proofs.Math.Seq.{take-append-add, take-append_seam}
use Rattle.std.proofs.lemmas.List.{take-append-le, take_all}
use Rattle.std.specs.Io.KnownBytes.{Appends, Keeps}
use Rattle.output.specs.Taken.{TakesFront}

-- all of it
pub front_all : (before after : Option (List ℕ)) (all : List ℕ) → Appends before after all → TakesFront before after all
front_all before after all whole = (length all, omega arith, subst (Appends before after) (sym (take_all (length all) all (omega arith))) whole)

-- the part that is done, where the output stayed as it was then
pub front_kept : (before mid after : Option (List ℕ)) (done rest all : List ℕ) → Appends before mid done → Keeps mid after → done ++ rest ≡ all
    → TakesFront before after all
front_kept before mid after done rest all was kept joined =
    let front : done ≡ take (length done) all = sym (take-append_seam done rest) ∙ ap (take (length done)) joined in
    (length done, omega (arith, length-append done rest, ap length joined), subst (Appends before after) front (Appends-kept before mid after done was kept))

-- the parts that are done, and the first bytes of the next
pub front_next : (before mid after : Option (List ℕ)) (done part rest all : List ℕ) → Appends before mid done → TakesFront mid after part
    → done ++ (part ++ rest) ≡ all → TakesFront before after all
front_next before mid after done part rest all was (n, within, more) joined =
    let together : done ++ take n part ≡ take (length done + n) all =
    ap (λ l. done ++ l) (sym (take-append-le n part rest within))
    ∙ sym (take-append-add done (part ++ rest) n)
    ∙ ap (take (length done + n)) joined in (
      length done + n,
      omega (arith, length-append done (part ++ rest), length-append part rest, ap length joined),
      subst (Appends before after) together (Appends-trans before mid after done (take n part) was more),
    )

-- a call that returned, and one that failed
pub on_err : {T E X : Type 0} (r : Result T E) → X → OnErr r X
on_err (Ok t) x = tt
on_err (Err e) x = x

pub err_next : {T E : Type 0} (r : Result T E) (before mid after : Option (List ℕ)) (done part rest all : List ℕ) → Appends before mid done
    → OnErr r (TakesFront mid after part) → done ++ (part ++ rest) ≡ all → OnErr r (TakesFront before after all)
err_next (Ok t) before mid after done part rest all was err joined = tt
err_next (Err e) before mid after done part rest all was err joined = front_next before mid after done part rest all was err joined

pub front_either : {T E : Type 0} (r : Result T E) (before after : Option (List ℕ)) (all : List ℕ) → OnOk r (Appends before after all)
    → OnErr r (TakesFront before after all) → TakesFront before after all
front_either (Ok t) before after all ok err = front_all before after all ok
front_either (Err e) before after all ok err = err
