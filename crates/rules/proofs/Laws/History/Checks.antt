-- Computed tests that show that a history or a table meets a statement, or does not. They use the definitions alone.
use Rattle.std.specs.Prelude.{ℕ, zero, suc, ◌+◌, ◌-◌, ◌≤◌, ◌<◌, ◌≡◌, refl, cond, Bool, true, false, not, ◌&&◌, List, [], ◌∷◌, get_or, eqb, ltb}
use Rattle.std.proofs.Common.{arith, ap, ◌∙◌, sym, subst, true≢false, eq-eqb, eqb-true, lt-ltb, ltb-true}
use Rattle.std.proofs.Math.Decide.{ℕ_discrete, dec_le}
use Rattle.std.proofs.lemmas.Bool.{eqb-false, not-true}
use Rattle.rules.specs.Closing.{PutFresh, Unreferenced, put_at}
use Rattle.rules.specs.Demands.{list_of_desk}
use Rattle.rules.specs.Hall.{Hall}
use Rattle.rules.specs.History.{Action, Effect, Unshown, ◌by◌, collects, drops, effect_at, effect_of, hands_back}
use Rattle.rules.specs.History.{no_action, out_of_room, retires, swaps, takes}
use Rattle.rules.specs.Lists.{every, occurrences, to_nat}
use Rattle.rules.specs.Steps.{Event}
use Rattle.rules.specs.Table.{owed_offset, position_word, record_of}
use Rattle.rules.proofs.Laws.Lists.Bools.{and_left, and_right, and-true}
use Rattle.rules.proofs.Laws.Lists.Lists.{indicator, indicator_same}

-- ---- The indices of the actions that pass a test, from index n on.
abbrev pub indices_where : (Action → Bool) → ℕ → List Event → List ℕ
indices_where test n [] = []
indices_where test n (e ∷ es) =
    cond (test (effect_of e).action) (n ∷ indices_where test (suc n) es) (indices_where test (suc n) es)

pub index_listed : (test : Action → Bool) → test no_action ≡ false → (es : List Event) (n m : ℕ) → test (effect_at es m).action ≡ true
    → 1 ≤ occurrences (n + m) (indices_where test n es)
index_listed test none [] n m t = absurd (true≢false (cc))
index_listed test none (e ∷ es) n zero t =
    let here : n + 0 ≡ n = omega arith in
    rw t (omega (arith, ap (λ (k : ℕ). indicator k n) here, indicator_same n))
index_listed test none (e ∷ es) n (suc m) t =
    by_cases (test (effect_at (e ∷ es) 0).action) (ap (λ (k : ℕ). occurrences k (indices_where test (suc n) es)) next) (index_listed test none es (suc n) m t)
  where
    next : suc n + m ≡ n + suc m
    next = omega arith

    by_cases : (b : Bool) → occurrences (suc n + m) (indices_where test (suc n) es) ≡ occurrences (n + suc m) (indices_where test (suc n) es)
        → 1 ≤ occurrences (suc n + m) (indices_where test (suc n) es)
        → 1 ≤ occurrences (n + suc m) (cond b (n ∷ indices_where test (suc n) es) (indices_where test (suc n) es))
    by_cases true q ih = omega arith
    by_cases false q ih = omega arith

pub index_among : (test : Action → Bool) → test no_action ≡ false → (es : List Event) (indices : List ℕ) → indices_where test 0 es ≡ indices → (m : ℕ)
    → test (effect_at es m).action ≡ true → 1 ≤ occurrences m indices
index_among test none es indices q m t =
    let here : 0 + m ≡ m = omega arith in
    omega (arith, index_listed test none es 0 m t, ap (λ (k : ℕ). occurrences k (indices_where test 0 es)) here, ap (occurrences m) q)

-- nowhere, and at one index or two
pub nowhere : (test : Action → Bool) → test no_action ≡ false → (es : List Event) → indices_where test 0 es ≡ [] → (m : ℕ) → test (effect_at es m).action ≡ true → ⊥
nowhere test none es q m t = omega (arith, index_among test none es [] q m t)

listed_is : (m r : ℕ) → 1 ≤ indicator m r → m ≡ r
listed_is m r h = by_cases (eqb m r) refl h
  where
    by_cases : (b : Bool) → eqb m r ≡ b → 1 ≤ to_nat b → m ≡ r
    by_cases true q h = eqb-true m r q
    by_cases false q h = absurd (omega arith)

pub only_at : (test : Action → Bool) → test no_action ≡ false → (es : List Event) (r : ℕ) → indices_where test 0 es ≡ r ∷ [] → (m : ℕ)
    → test (effect_at es m).action ≡ true → m ≡ r
only_at test none es r q m t = listed_is m r (omega (arith, index_among test none es (r ∷ []) q m t))

pub one_of_two_lem : (P : ℕ → Type 0) (test : Action → Bool) → test no_action ≡ false → (es : List Event) (r r' : ℕ) → indices_where test 0 es ≡ r ∷ r' ∷ []
    → P r → P r' → (m : ℕ) → test (effect_at es m).action ≡ true → P m
one_of_two_lem P test none es r r' q p p' m t = by_cases (dec_le 1 (indicator m r))
  where
    by_cases : Dec (1 ≤ indicator m r) → P m
    by_cases (yes h) = subst P (sym (listed_is m r h)) p
    by_cases (no h) = subst P (sym (listed_is m r' (omega (arith, index_among test none es (r ∷ r' ∷ []) q m t)))) p'

-- ---- An effect as numbers, so that two effects are told apart by computing: its kind, its desk, and what its action names.
abbrev action_parts : ℕ → Action → List ℕ
action_parts d (takes c p session) = 1 ∷ d ∷ c ∷ p ∷ session ∷ []
action_parts d (drops c) = 2 ∷ d ∷ c ∷ []
action_parts d (swaps p) = 3 ∷ d ∷ p ∷ []
action_parts d (retires session) = 4 ∷ d ∷ session ∷ []
action_parts d out_of_room = 5 ∷ d ∷ []
action_parts d collects = 6 ∷ d ∷ []
action_parts d (hands_back session) = 7 ∷ d ∷ session ∷ []
action_parts d no_action = 8 ∷ d ∷ []

abbrev pub part : ℕ → Effect → ℕ
part i effect = get_or (action_parts effect.desk effect.action) i 0

-- an accepted take of session s onto desk d's screen c, and an accepted drop of that screen
abbrev pub is_take_on : ℕ → ℕ → ℕ → Effect → Bool
is_take_on d c s effect = eqb (part 0 effect) 1 && (eqb (part 1 effect) d && (eqb (part 2 effect) c && eqb (part 4 effect) s))

abbrev pub is_drop_of : ℕ → ℕ → Effect → Bool
is_drop_of d c effect = eqb (part 0 effect) 2 && (eqb (part 1 effect) d && eqb (part 2 effect) c)

-- a swap that changes position p, and an accepted retire by desk d
abbrev pub is_swap_at : ℕ → Effect → Bool
is_swap_at p effect = eqb (part 0 effect) 3 && eqb (part 2 effect) p

abbrev pub is_retire_by : ℕ → Effect → Bool
is_retire_by d effect = eqb (part 0 effect) 4 && eqb (part 1 effect) d

-- an accepted take of session s onto any screen
abbrev pub is_take_of : ℕ → Action → Bool
is_take_of s action = eqb (part 0 (action by 0)) 1 && eqb (part 4 (action by 0)) s

-- ---- Indices up to one, and between two.
-- Do all of 1 to n pass a test?
abbrev every_up_to : ℕ → (ℕ → Bool) → Bool
every_up_to zero test = true
every_up_to (suc n) test = test (suc n) && every_up_to n test

up_to : (n : ℕ) (test : ℕ → Bool) → every_up_to n test ≡ true → (p : ℕ) → 1 ≤ p → p ≤ n → test p ≡ true
up_to zero test q p l m = absurd (omega arith)
up_to (suc n) test q p l m = by_last (ℕ_discrete p (suc n)) (up_to n test (and_right (test (suc n)) (every_up_to n test) q) p l)
  where
    by_last : Dec (p ≡ suc n) → (p ≤ n → test p ≡ true) → test p ≡ true
    by_last (yes t) earlier = ap test t ∙ and_left (test (suc n)) (every_up_to n test) q
    by_last (no t) earlier = earlier (omega arith)

-- Does no index between i and j pass a test?
abbrev pub none_between : (ℕ → Bool) → ℕ → ℕ → Bool
none_between test i j = every_up_to j (λ m. not (ltb i m && (ltb m j && test m)))

pub none_between_lem : (test : ℕ → Bool) (i j : ℕ) → none_between test i j ≡ true → (m : ℕ) → i < m → m < j → test m ≡ true → ⊥
none_between_lem test i j none m after before passes =
    let here = up_to j (λ m. not (ltb i m && (ltb m j && test m))) none m (omega arith) (omega arith) in
    let all = and-true (ltb i m) (ltb m j && test m) (lt-ltb i m after) (and-true (ltb m j) (test m) (lt-ltb m j before) passes) in
    true≢false (sym all ∙ not-true _ here)

-- ---- What a screen shows.

-- a session that is never taken is never shown
pub never_shown : (s : ℕ) (es : List Event) → indices_where (is_take_of s) 0 es ≡ [] → (from up_to : ℕ) → Unshown (effect_at es) s from up_to
never_shown s es none from up_to n d c a b shows =
    nowhere (is_take_of s) refl es none shows.taken_at (ap (λ (e : Effect). is_take_of s e.action) shows.take ∙ eq-eqb s s refl)

-- ---- Sessions that are unreferenced, and put only then.
abbrev is_other : ℕ → ℕ → Bool
is_other s x = not (eqb x s)

abbrev pub is_unreferenced : Hall → List ℕ → ℕ → Bool
is_unreferenced hall table s =
    every_up_to hall.positions (λ p. is_other s (get_or table (position_word p) 0))
    && (every_up_to hall.desks (λ d. is_other s (get_or (record_of hall table d) owed_offset 0))
    && every_up_to hall.desks (λ d. eqb (occurrences s (list_of_desk hall table d)) 0))

pub unreferenced_by_test : (hall : Hall) (table : List ℕ) (s : ℕ) → is_unreferenced hall table s ≡ true → Unreferenced hall table s
unreferenced_by_test hall table s q =
    let desks = and_right at_positions (owed && lists) q in
    record {
      positions = λ p l m. eqb-false _ s (not-true _ (up_to hall.positions (λ p. is_other s (get_or table (position_word p) 0)) (and_left at_positions (owed && lists) q) p l (omega arith)));
      owed = λ d l m. eqb-false _ s (not-true _ (up_to hall.desks (λ d. is_other s (get_or (record_of hall table d) owed_offset 0)) (and_left owed lists desks) d l (omega arith)));
      lists = λ d l m. omega (arith, eqb-true (occurrences s (list_of_desk hall table d)) 0 (up_to hall.desks (λ d. eqb (occurrences s (list_of_desk hall table d)) 0) (and_right owed lists desks) d l (omega arith)));
    }
  where
    at_positions : Bool
    at_positions = every_up_to hall.positions (λ p. is_other s (get_or table (position_word p) 0))

    owed : Bool
    owed = every_up_to hall.desks (λ d. is_other s (get_or (record_of hall table d) owed_offset 0))

    lists : Bool
    lists = every_up_to hall.desks (λ d. eqb (occurrences s (list_of_desk hall table d)) 0)

-- (index i is number i + 1)
abbrev pub is_put_fresh : Hall → List Event → (ℕ → List ℕ) → ℕ → ℕ → Bool
is_put_fresh hall history tables s h = every_up_to h (λ n. cond (eqb (put_at history (n - 1)) s) (is_unreferenced hall (tables (n - 1)) s) true)

pub put_fresh_by_test : (hall : Hall) (history : List Event) (tables : ℕ → List ℕ) (s h : ℕ) → is_put_fresh hall history tables s h ≡ true
    → PutFresh hall history tables s h
put_fresh_by_test hall history tables s h q i l put =
    let back : suc i - 1 ≡ i = omega arith in
    let passed = up_to h (λ n. cond (eqb (put_at history (n - 1)) s) (is_unreferenced hall (tables (n - 1)) s) true) q (suc i) (omega arith) (omega arith) in
    unreferenced_by_test hall (tables i) s
    (ap (λ (b : Bool). cond b (is_unreferenced hall (tables i) s) true) (sym (eq-eqb (put_at history i) s put))
    ∙ ap (λ (n : ℕ). cond (eqb (put_at history n) s) (is_unreferenced hall (tables n) s) true) (sym back)
    ∙ passed)

-- ---- Every element is below a bound: the words of a table, and bytes.
pub each_below : (n : ℕ) (xs : List ℕ) → every (λ x. ltb x (suc n)) xs ≡ true → (i : ℕ) → get_or xs i 0 < suc n
each_below n [] q i = omega arith
each_below n (x ∷ xs) q zero = ltb-true x (suc n) (and_left (ltb x (suc n)) (every (λ x. ltb x (suc n)) xs) q)
each_below n (x ∷ xs) q (suc i) = each_below n xs (and_right (ltb x (suc n)) (every (λ x. ltb x (suc n)) xs) q) i
