-- A session that is read is within the limit of the room, so no step of a sheet is answered 22.
use Rattle.std.specs.Prelude.{ℕ, zero, suc, ◌≤◌, ◌≡◌, Bool, true, false, cond, List, [], ◌∷◌, eqb}
use Rattle.std.proofs.Common.{arith, ◌∙◌, subst, le-leb}
use Rattle.rules.specs.Hall.{Hall, Limits, State, desk_of}
use Rattle.rules.specs.History.{number_at}
use Rattle.rules.specs.Messages.{next_in, send, sent_history}
use Rattle.rules.specs.Steps.{Call, Collect, Drop, Retire, Step, Swap, Take, ◌numbered◌, ◌sends◌, first_no, in_range, is_none, questions}
use Rattle.rules.specs.Table.{decode, hall_in, step_table}
use Rattle.rules.proofs.Laws.History.StepEffects.{in_range_lem}
use Rattle.rules.proofs.Laws.Table.WordBounds.{by_step, first_no_is_asked}
use Rattle.sheet_rules.specs.Lawful.{Lawful}
use Rattle.sheet_rules.specs.Run.{call_of, calls_in, cons_some}
use Rattle.sheet_rules.specs.Sheet.{Edition, FieldHolds, Records, complete, follows, is_code}
use Rattle.sheet_rules.specs.Sheet.{more, opened, reading, record_for, session_field, stop}
use Rattle.sheet_rules.proofs.Laws.Sheet.{EachGoodIn, opened_good}

-- ---- The records that are read are good, so the swaps that they request send no session over the limit.
abbrev Small : ℕ → Step → Type 0
Small most (Take c p) = Unit {0}
Small most (Drop c) = Unit {0}
Small most (Swap p session) = session ≤ most
Small most Retire = Unit {0}
Small most Collect = Unit {0}

abbrev EachSmall : ℕ → List Call → Type 0
EachSmall most [] = Unit {0}
EachSmall most (call ∷ calls) = Small most call.step × EachSmall most calls

small-first : (most code desk screen position session : ℕ) (calls : List Call) → is_code code ≡ true → FieldHolds (follows code session_field) most session
    → EachSmall most calls
    → EachSmall most (cons_some (call_of (record_for code desk screen position session)) calls)
small-first most zero desk screen position session calls good holds later = later
small-first most (suc zero) desk screen position session calls good holds later = (tt, later)
small-first most (suc (suc zero)) desk screen position session calls good holds later = (tt, later)
small-first most (suc (suc (suc zero))) desk screen position session calls good holds later = (holds, later)
small-first most (suc (suc (suc (suc zero)))) desk screen position session calls good holds later = (tt, later)
small-first most (suc (suc (suc (suc (suc zero))))) desk screen position session calls good holds later = (tt, later)
small-first most (suc (suc (suc (suc (suc (suc n)))))) desk screen position session calls good holds later =
    absurd (omega (arith, (in_range_lem (suc (suc (suc (suc (suc (suc n)))))) 5 good).1))

each_small : (most : ℕ) (records : Records) → EachGoodIn most records → EachSmall most (calls_in records)
each_small most complete good = tt
each_small most (stop reason) good = tt
each_small most (more entry rest) good =
    small-first most entry.code entry.desk entry.screen entry.position entry.session (calls_in rest) good.0.code good.0.session
    (each_small most rest good.1)

-- ---- And such a call is not answered 22.
not_22 : (limits : Limits) (hall : Hall) (state : State) (m d : ℕ) (step : Step) → Small limits.sessions step
    → first_no (questions limits hall state (d sends step numbered m)) ≡ 22
    → ⊥
not_22 limits hall state m d (Take c p) small e = omega (arith, first_no_is_asked (questions limits hall state (d sends Take c p numbered m)) 21 e)
not_22 limits hall state m d (Drop c) small e = omega (arith, first_no_is_asked (questions limits hall state (d sends Drop c numbered m)) 21 e)
not_22 limits hall state m d (Swap p session) small e =
    by_answers (in_range d hall.desks) (eqb m (desk_of state d).next) (in_range p hall.positions) (is_none (desk_of state d).owed)
    (subst (λ (yes : Bool). cond {A = ℕ} (in_range d hall.desks) (cond (eqb m (desk_of state d).next) (cond (in_range p hall.positions) (cond yes (cond (is_none (desk_of state d).owed) 0 12) 22) 8) 23) 6 ≡ 22)
    (le-leb session limits.sessions small) e)
  where
    by_answers : (desk number position none : Bool) → cond {A = ℕ} desk (cond number (cond position (cond none 0 12) 8) 23) 6 ≡ 22 → ⊥
    by_answers true true true true e = omega (arith, e)
    by_answers true true true false e = omega (arith, e)
    by_answers true true false none e = omega (arith, e)
    by_answers true false position none e = omega (arith, e)
    by_answers false number position none e = omega (arith, e)
not_22 limits hall state m d Retire small e = omega (arith, first_no_is_asked (questions limits hall state (d sends Retire numbered m)) 21 e)
not_22 limits hall state m d Collect small e = omega (arith, first_no_is_asked (questions limits hall state (d sends Collect numbered m)) 21 e)

step_not_22 : (limits : Limits) (table : List ℕ) (call : Call) → Small limits.sessions call.step → (step_table limits table call).answer.number ≡ 22 → ⊥
step_not_22 limits table call small =
    by_step limits (λ result. result.answer.number ≡ 22 → ⊥) table call (λ e. omega (arith, e))
    (λ n asked e. not_22 limits (hall_in table) (decode (hall_in table) table) call.message call.desk call.step small (asked ∙ e)) (λ sound asked e. omega (arith, e))

run_not_22 : (limits : Limits) (table : List ℕ) (calls : List Call) → EachSmall limits.sessions calls → (i : ℕ)
    → number_at (sent_history limits table calls) i ≡ 22
    → ⊥
run_not_22 limits table [] small i e = omega (arith, e)
run_not_22 limits table (call ∷ calls) small zero e = step_not_22 limits table (call numbered next_in table call.desk) small.0 e
run_not_22 limits table (call ∷ calls) small (suc i) e = run_not_22 limits (send limits table call).after calls small.1 i e

pub sheet_not_22 : {edition : Edition} → Lawful edition → (sheet : List ℕ) (hall : Hall) (records : Records) → reading edition sheet ≡ opened hall records
    → (table : List ℕ) (i : ℕ)
    → number_at (sent_history edition.limits table (calls_in records)) i ≡ 22
    → ⊥
sheet_not_22 {edition} lawful sheet hall records opens table i =
    run_not_22 edition.limits table (calls_in records) (each_small edition.limits.sessions records (opened_good lawful sheet hall records opens)) i
