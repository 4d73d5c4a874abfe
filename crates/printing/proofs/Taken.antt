-- What an output holds after a batch was handed to it.
use Rattle.std.proofs.Common.{arith, true, List, ℕ, ◌≡◌, ◌+◌, ◌++◌, Option, Result, Ok, Err, OnOk, OnErr, length, take, drop, sym, ap, subst, ◌∙◌, length-append, take_at}
use Rattle.std.proofs.KnownBytes.{Appends-trans}
use Rattle.std.proofs.Math.Seq.{take-add, take-append-add}
use Rattle.std.specs.Io.KnownBytes.{Appends}
use Rattle.std.specs.Result.{is_ok}
use Rattle.output.specs.Taken.{TakesFront}

-- all bytes so far, or the first of them
abbrev pub Taken : {T E : Type 0} → Result T E → Option (List ℕ) → Option (List ℕ) → List ℕ → Type 0
Taken (Ok t) before after bytes = Appends before after bytes
Taken (Err e) before after bytes = TakesFront before after bytes

-- the part at the front of a whole
pub front_of : (part rest whole : List ℕ) (n : ℕ) → part ++ rest ≡ whole → length part ≡ n → part ≡ take n whole
front_of part rest whole n joined long = sym (ap (take n) (sym joined) ∙ take_at part rest n long)

-- the first batch
pub taken_first : {T E : Type 0} (r : Result T E) (before after : Option (List ℕ)) (part all : List ℕ)
    → OnOk r (Appends before after part) → OnErr r (TakesFront before after part) → part ≡ all → Taken r before after all
taken_first (Ok t) before after part all ok err same = subst (Appends before after) same ok
taken_first (Err e) before after part all ok err same = subst (TakesFront before after) same err

-- the next batch
pub taken_next : {T E : Type 0} (r : Result T E) (before mid after : Option (List ℕ)) (done part all : List ℕ)
    → Appends before mid done → OnOk r (Appends mid after part) → OnErr r (TakesFront mid after part) → done ++ part ≡ all → Taken r before after all
taken_next (Ok t) before mid after done part all was ok err joined = subst (Appends before after) joined (Appends-trans before mid after done part was ok)
taken_next (Err e) before mid after done part all was ok (n, within, more) joined =
    subst (TakesFront before after) joined (
      length done + n,
      omega (arith, length-append done part),
      subst (Appends before after) (sym (take-append-add done part n)) (Appends-trans before mid after done (take n part) was more),
    )

-- the bytes up to the next state are those before it, and the batch
pub next_front : (b put : ℕ) (part rest whole : List ℕ) → part ++ rest ≡ drop b whole → length part ≡ put → take b whole ++ part ≡ take (b + put) whole
next_front b put part rest whole joined long = ap (λ l. take b whole ++ l) (front_of part rest (drop b whole) put joined long) ∙ sym (take-add b put whole)

pub taken_whole : {T E : Type 0} (r : Result T E) (before after : Option (List ℕ)) (bytes : List ℕ) → true ≡ is_ok r → Taken r before after bytes
    → Appends before after bytes
taken_whole (Ok t) before after bytes ok taken = taken
taken_whole (Err e) before after bytes ok taken = cc

pub taken_ok : {T E : Type 0} (r : Result T E) (before after : Option (List ℕ)) (bytes : List ℕ) → Taken r before after bytes → OnOk r (Appends before after bytes)
taken_ok (Ok t) before after bytes taken = taken
taken_ok (Err e) before after bytes taken = tt
