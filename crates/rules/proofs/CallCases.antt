-- What the statements about one call admit and what they refuse, by computation: demand 1, widths, words and bytes, locality. For each
-- field of each statement there is a result that this field alone refuses. No theorem is used here.
use Rattle.std.specs.Prelude.{ℕ, ◌<◌, ◌≤◌, suc, zero, ◌≡◌, refl, Bool, true, false, cond, List, [], ◌∷◌, ◌++◌, map, get_or, replicate, eqb, ltb}
use Rattle.std.proofs.Common.{arith, ap, subst, true≢false, get_or-set_other}
use Rattle.rules.specs.Bytes.{Agrees, Call16, Calls16, IsBytes, Words16, bytes_of_words, open_bytes, overwrite_words, pack, step_bytes, unpack, words_of_bytes}
use Rattle.rules.proofs.Cases.{wide}
use Rattle.rules.specs.Demands.{Demand1, SwapPromise, footprint, on_bytes_of, opening_footprint, opening_refusals, refusals}
use Rattle.rules.specs.Hall.{Desk, Formed, Hall, State, empty_desk, hall_limits, hall_of, marked, unmarked}
use Rattle.rules.specs.Lists.{occurrences, to_nat}
use Rattle.rules.specs.Locality.{OthersStay, SameView, StepsAlike, desk_at, named_words, position_at, screen_at, screens_read, may_write_position, may_write_screen}
use Rattle.rules.specs.Steps.{Answer, Call, Collect, Drop, Result, Retire, Step, Swap, Take, ◌numbered◌, ◌sends◌, accept, refuse, step}
use Rattle.rules.specs.Table.{decode_desk, encode_desk, open_table, record_sound, sound, step_table}
use Rattle.rules.proofs.Laws.History.Checks.{each_below}

-- ---- Demand 1. "an accepted call writes only the words its step names"

-- The numbers below n that pass a test, in order.
abbrev below : ℕ → (ℕ → Bool) → List ℕ
below zero test = []
below (suc n) test = below n test ++ cond (test n) (n ∷ []) []

-- 2 desks with 2 screens each and 2 positions: S = 4, and desk 2's record of 22 words starts at word 31. Position 1 holds 5; desk 2 owes 9
-- and has 8 ready.
abbrev two_by_two : List ℕ
two_by_two = (2 ∷ 2 ∷ 2 ∷ 5 ∷ 0 ∷ 0 ∷ 0 ∷ 0 ∷ 6 ∷ []) ++ (replicate 22 0 ++ ((9 ∷ 0 ∷ 1 ∷ replicate 10 0) ++ (8 ∷ replicate 8 0)))

-- The words that a call of desk 2 names.
abbrev named : Step → List ℕ
named step = below 60 (footprint two_by_two (2 sends step))

-- take and drop, the one screen; swap, the position, and the owed word only where the position holds a session; a repeat of a session or of
-- 0, none; retire, the owed word, the count of waiting and the first unused slot; collect, all of the record but the owed word; and each of
-- them the message number, the last word of the record
pub words-named :
    map named (Take 1 2 ∷ Take 2 2 ∷ Drop 1 ∷ Drop 2 ∷ Swap 1 7 ∷ Swap 2 7 ∷ Swap 1 0 ∷ Swap 1 5 ∷ Swap 2 0 ∷ Retire ∷ [])
    ≡ (7 ∷ 52 ∷ []) ∷ (8 ∷ 52 ∷ []) ∷ (7 ∷ 52 ∷ []) ∷ (8 ∷ 52 ∷ []) ∷ (3 ∷ 31 ∷ 52 ∷ []) ∷ (4 ∷ 52 ∷ []) ∷ (3 ∷ 31 ∷ 52 ∷ []) ∷ (52 ∷ []) ∷ (52 ∷ []) ∷ (31 ∷ 35 ∷ 45 ∷ 52 ∷ []) ∷ []
words-named = refl

pub words_named_by_collect : named Collect ≡ below 53 (λ i. ltb 31 i)
words_named_by_collect = refl

-- The words that an opening names: all up to the need, 21.
pub words_named_by_opening : below 60 (opening_footprint (hall_of 1 1 1)) ≡ below 21 (λ i. true)
words_named_by_opening = refl

-- The bytes of word 4, in five words and an odd byte; the odd byte belongs to no word.
pub bytes_named : (below 20 (on_bytes_of (replicate 11 7) (eqb 4)) ≡ 8 ∷ 9 ∷ []) × (below 20 (on_bytes_of (replicate 11 7) (eqb 5)) ≡ [])
bytes_named = (refl, refl)

-- The numbers of each step's refusals and of the opening's.
pub refusal-numbers :
    map (λ (step : Step). refusals (2 sends step)) (Take 1 2 ∷ Drop 2 ∷ Swap 1 7 ∷ Retire ∷ Collect ∷ [])
    ≡ (5 ∷ 6 ∷ 23 ∷ 7 ∷ 8 ∷ 9 ∷ 10 ∷ []) ∷ (5 ∷ 6 ∷ 23 ∷ 7 ∷ 11 ∷ []) ∷ (5 ∷ 6 ∷ 23 ∷ 8 ∷ 22 ∷ 12 ∷ []) ∷ (5 ∷ 6 ∷ 23 ∷ 13 ∷ 14 ∷ []) ∷ (5 ∷ 6 ∷ 23 ∷ []) ∷ []
refusal-numbers = refl

pub opening_refusal_numbers : opening_refusals ≡ 1 ∷ 2 ∷ 3 ∷ 22 ∷ 4 ∷ []
opening_refusal_numbers = refl

-- Results of a take that demand 1 refuses. It may give 5 to 10 or 23, and may write word 1 of these four.
abbrev TakeDemand1 : Result (List ℕ) → Type 0
TakeDemand1 = Demand1 (refusals (1 sends Take 1 1)) (eqb 1) (4 ∷ 5 ∷ 6 ∷ 7 ∷ [])

-- It admits a refusal with 5, and an accepted call that wrote word 1.
pub demand_1_admits : TakeDemand1 (refuse 5 (4 ∷ 5 ∷ 6 ∷ 7 ∷ [])) × TakeDemand1 (accept 9 (4 ∷ 9 ∷ 6 ∷ 7 ∷ []))
demand_1_admits = (
  record {
    refused = λ n number. (subst (λ (number : ℕ). 1 ≤ occurrences number (refusals (1 sends Take 1 1))) number (omega arith), refl, refl);
    accepted = λ number i free. refl;
    same_length = refl;
  },
  record { refused = λ n number. absurd (omega (arith, number)); accepted = λ number. kept; same_length = refl },
)
  where
    kept : (i : ℕ) → eqb 1 i ≡ false → ◌≡◌ {A = ℕ} (get_or (4 ∷ 9 ∷ 6 ∷ 7 ∷ []) i 0) (get_or (4 ∷ 5 ∷ 6 ∷ 7 ∷ []) i 0)
    kept zero free = refl
    kept (suc zero) free = absurd (true≢false free)
    kept (suc (suc i)) free = refl

-- It refuses a refusal with a number that is not the step's, with a session, or with a changed word; an accepted call that changed a word
-- that is not named; and a table of another length.
pub demand-1-refuses :
    (TakeDemand1 (refuse 11 (4 ∷ 5 ∷ 6 ∷ 7 ∷ [])) → ⊥)
    × (TakeDemand1 (record { answer = record { number = 5; session = 9 }; after = 4 ∷ 5 ∷ 6 ∷ 7 ∷ [] }) → ⊥)
    × (TakeDemand1 (refuse 5 (4 ∷ 9 ∷ 6 ∷ 7 ∷ [])) → ⊥)
    × (TakeDemand1 (accept 9 (4 ∷ 5 ∷ 9 ∷ 7 ∷ [])) → ⊥)
    × (TakeDemand1 (accept 9 (4 ∷ 9 ∷ 6 ∷ 7 ∷ 0 ∷ [])) → ⊥)
demand-1-refuses = (
  λ demand. omega (arith, (demand.refused 10 refl).0),
  λ demand. omega (arith, (demand.refused 4 refl).1),
  λ demand. omega (arith, ap (λ (after : List ℕ). get_or after 1 0) (demand.refused 4 refl).2),
  λ demand. omega (arith, demand.accepted refl 2 refl),
  λ demand. omega (arith, demand.same_length),
)

-- ---- What a swap promises, in a hall of 1, 1, 1, given the session at the position, what the desk owes and its next message number.
abbrev holds_owes : ℕ → ℕ → ℕ → List ℕ
holds_owes session owed next = 1 ∷ 1 ∷ 1 ∷ session ∷ 0 ∷ owed ∷ replicate 14 0 ++ (next ∷ [])

abbrev Promises : ℕ → List ℕ → Result (List ℕ) → Type 0
Promises = SwapPromise (hall_of 1 1 1) 1 1

-- It admits a swap from 5 to 6, one onto an empty position, a repeat of 0, and a swap that is refused with 12 where the position holds what
-- the desk owes.
pub swap-promise-admits :
    Promises 6 (holds_owes 5 0 8) (accept 5 (holds_owes 6 5 9)) × Promises 6 (holds_owes 0 0 8) (accept 0 (holds_owes 6 0 9))
    × Promises 0 (holds_owes 0 0 8) (accept 0 (holds_owes 0 0 9)) × Promises 7 (holds_owes 5 5 8) (refuse 12 (holds_owes 5 5 8))
swap-promise-admits = (
  record { replies = λ n. refl; holds = λ n. refl; unchanged = λ same. absurd (omega (arith, same)); replaced = λ n owes same. omega (arith, same) },
  record { replies = λ n. refl; holds = λ n. refl; unchanged = λ same. absurd (omega (arith, same)); replaced = λ n owes. absurd (owes refl) },
  record { replies = λ n. refl; holds = λ n. refl; unchanged = λ same. moved; replaced = λ n owes. absurd (owes refl) },
  record {
    replies = λ n. absurd (omega (arith, n));
    holds = λ n. absurd (omega (arith, n));
    unchanged = λ same i other. refl;
    replaced = λ n. absurd (omega (arith, n));
  },
)
  where
    -- the repeat of 0 has moved the message number on, from 8 to 9, and nothing else
    moved : (i : ℕ) → (i ≡ 20 → ⊥) → get_or (holds_owes 0 0 9) i 0 ≡ get_or (holds_owes 0 0 8) i 0
    moved i other = get_or-set_other (holds_owes 0 0 8) 20 i 9 0 other

-- It refuses a swap that replies something else than what was there; one that leaves the position; a repeat that changes what the desk owes;
-- and one that makes its desk owe what the position holds, as a repeat would do that owes.
pub swap-promise-refuses :
    (Promises 6 (holds_owes 5 0 8) (accept 7 (holds_owes 6 5 9)) → ⊥)
    × (Promises 6 (holds_owes 5 0 8) (accept 5 (holds_owes 5 0 9)) → ⊥)
    × (Promises 5 (holds_owes 5 0 8) (accept 5 (holds_owes 5 7 9)) → ⊥)
    × (Promises 6 (holds_owes 5 0 8) (accept 5 (holds_owes 6 6 9)) → ⊥)
    × (Promises 5 (holds_owes 5 0 8) (accept 5 (holds_owes 5 5 9)) → ⊥)
swap-promise-refuses = (
  λ promise. omega (arith, promise.replies refl),
  λ promise. omega (arith, promise.holds refl),
  λ promise. omega (arith, promise.unchanged refl 5 (λ same. omega (arith, same))),
  λ promise. promise.replaced refl (λ none. omega (arith, none)) refl,
  λ promise. promise.replaced refl (λ none. omega (arith, none)) refl,
)

-- ---- Widths.

-- "Every number in a call is 16 bits wide": 65,535 is, 65,536 is not, in any field of any step, and in any call of a list.
abbrev widest : List Call
widest =
    map (λ (step : Step). 65535 sends step numbered 65535)
    (Take 65535 65535 ∷ Drop 65535 ∷ Swap 65535 65535 ∷ Retire ∷ Collect ∷ [])

pub widest-calls : Calls16 widest
widest-calls =
    let small : 65535 < 65536 = omega arith in
    ((small, small, (small, small)), ((small, small, small), ((small, small, (small, small)), ((small, small, tt), ((small, small, tt), tt)))))

pub too_wide :
    (Call16 (1 sends Collect numbered 65536) → ⊥) × (Call16 (65536 sends Collect) → ⊥) × (Call16 (1 sends Take 65536 1) → ⊥) × (Call16 (1 sends Take 1 65536) → ⊥) × (Call16 (1 sends Drop 65536) → ⊥)
    × (Call16 (1 sends Swap 65536 1) → ⊥) × (Call16 (1 sends Swap 1 65536) → ⊥) × (Calls16 (1 sends Collect ∷ 65536 sends Collect ∷ []) → ⊥)
too_wide = (
  λ call. omega (arith, call.0),
  λ call. omega (arith, call.1),
  λ call. omega (arith, call.2.0),
  λ call. omega (arith, call.2.1),
  λ call. omega (arith, call.2),
  λ call. omega (arith, call.2.0),
  λ call. omega (arith, call.2.1),
  λ calls. omega (arith, calls.1.0.1),
)

-- Words of 16 bits, and bytes.
pub width_of_words : Words16 (0 ∷ 65535 ∷ []) × (Words16 (0 ∷ 65536 ∷ []) → ⊥) × IsBytes (0 ∷ 255 ∷ []) × (IsBytes (0 ∷ 256 ∷ []) → ⊥)
width_of_words = (
  each_below 65535 (0 ∷ 65535 ∷ []) refl,
  λ words. omega (arith, words 1),
  each_below 255 (0 ∷ 255 ∷ []) refl,
  λ bytes. omega (arith, bytes 1),
)

-- ---- Bytes. "two to a word, low byte first; an odd last byte is not part of the table"
pub low-byte-first :
    (words_of_bytes (0x2C ∷ 0x01 ∷ 0xFF ∷ 0xFF ∷ 0x00 ∷ 0xFF ∷ 0x07 ∷ []) ≡ 300 ∷ 65535 ∷ 65280 ∷ [])
    × (bytes_of_words (300 ∷ 65535 ∷ 65280 ∷ []) ≡ 0x2C ∷ 0x01 ∷ 0xFF ∷ 0xFF ∷ 0x00 ∷ 0xFF ∷ [])
    × (overwrite_words (300 ∷ []) (9 ∷ 9 ∷ 8 ∷ 8 ∷ 7 ∷ []) ≡ 0x2C ∷ 0x01 ∷ 8 ∷ 8 ∷ 7 ∷ [])
unfolding overwrite_words
low-byte-first = (refl, refl, refl)

-- "the reply number times 65,536, plus the session"
pub packed-answers :
    (pack (record { number = 6; session = 300 }) ≡ 393516)
    × (unpack 393516 ≡ record { number = 6; session = 300 })
    × (unpack 393216 ≡ record { number = 6; session = 0 })
    × (unpack 65535 ≡ record { number = 0; session = 65535 })
packed-answers = (refl, refl, refl, refl)

-- A hall of 1, 1, 1 in 43 bytes: opened, and then with 300 at position 1. The message number is in the last word, and the odd last byte is
-- unchanged.
abbrev one_desk : ℕ → ℕ → ℕ → List ℕ
one_desk low high next = (1 ∷ 0 ∷ 1 ∷ 0 ∷ 1 ∷ 0 ∷ low ∷ high ∷ replicate 32 0) ++ (next ∷ 0 ∷ 9 ∷ [])

pub opening_bytes : open_bytes hall_limits (hall_of 1 1 1) (replicate 43 9) ≡ accept 0 (one_desk 0 0 0)
unfolding open_bytes open_table overwrite_words
opening_bytes = refl

pub swap_bytes : step_bytes hall_limits (one_desk 0 0 0) (1 sends Swap 1 300) ≡ accept 0 (one_desk 0x2C 0x01 1)
unfolding step_bytes step_table overwrite_words sound record_sound encode_desk decode_desk
swap_bytes = refl

-- The repeat of that swap with the next number: every other byte is unchanged. The same message again is refused.
pub repeat-bytes :
    (step_bytes hall_limits (one_desk 0x2C 0x01 1) (1 sends Swap 1 300 numbered 1) ≡ accept 300 (one_desk 0x2C 0x01 2))
    × (step_bytes hall_limits (one_desk 0x2C 0x01 1) (1 sends Swap 1 300) ≡ refuse 23 (one_desk 0x2C 0x01 1))
unfolding step_bytes step_table overwrite_words sound record_sound encode_desk decode_desk
repeat-bytes = (refl, refl)

-- A call on bytes agrees with the call on words, `accept 7 (3 ∷ 2 ∷ 4 ∷ [])` on three words and an odd byte.
abbrev AgreesWith : Result (List ℕ) → Result (List ℕ) → Type 0
AgreesWith = Agrees (1 ∷ 0 ∷ 2 ∷ 0 ∷ 4 ∷ 0 ∷ 9 ∷ [])

pub agrees : AgreesWith (accept 7 (3 ∷ 0 ∷ 2 ∷ 0 ∷ 4 ∷ 0 ∷ 9 ∷ [])) (accept 7 (3 ∷ 2 ∷ 4 ∷ []))
agrees = record {
  answer = refl;
  packs = refl;
  words = refl;
  are_bytes = each_below 255 (3 ∷ 0 ∷ 2 ∷ 0 ∷ 4 ∷ 0 ∷ 9 ∷ []) refl;
  same_length = refl;
  last_byte = refl;
}

-- It does not agree with another answer, with an answer that does not fit into 32 bits, with other words, with numbers that are no bytes,
-- with another odd byte, or with fewer bytes.
pub agrees-refuses :
    (AgreesWith (accept 8 (3 ∷ 0 ∷ 2 ∷ 0 ∷ 4 ∷ 0 ∷ 9 ∷ [])) (accept 7 (3 ∷ 2 ∷ 4 ∷ [])) → ⊥)
    × (AgreesWith (accept 70000 (3 ∷ 0 ∷ 2 ∷ 0 ∷ 4 ∷ 0 ∷ 9 ∷ [])) (accept 70000 (3 ∷ 2 ∷ 4 ∷ [])) → ⊥)
    × (AgreesWith (accept 7 (4 ∷ 0 ∷ 2 ∷ 0 ∷ 4 ∷ 0 ∷ 9 ∷ [])) (accept 7 (3 ∷ 2 ∷ 4 ∷ [])) → ⊥)
    × (AgreesWith (accept 7 (300 ∷ 0 ∷ 2 ∷ 0 ∷ 4 ∷ 0 ∷ 9 ∷ [])) (accept 7 (300 ∷ 2 ∷ 4 ∷ [])) → ⊥)
    × (AgreesWith (accept 7 (3 ∷ 0 ∷ 2 ∷ 0 ∷ 4 ∷ 0 ∷ 8 ∷ [])) (accept 7 (3 ∷ 2 ∷ 4 ∷ [])) → ⊥)
    × (Agrees (1 ∷ 0 ∷ 2 ∷ 0 ∷ []) (accept 7 (3 ∷ 0 ∷ [])) (accept 7 (3 ∷ [])) → ⊥)
agrees-refuses = (
  λ both. omega (arith, ap (λ (answer : Answer). answer.session) both.answer),
  λ both. omega (arith, ap (λ (answer : Answer). answer.session) both.packs),
  λ both. omega (arith, ap (λ (words : List ℕ). get_or words 0 0) both.words),
  λ both. omega (arith, both.are_bytes 0),
  λ both. omega (arith, ap (λ (rest : List ℕ). get_or rest 0 0) both.last_byte),
  λ both. omega (arith, both.same_length),
)

-- ---- Locality. What a call reads, in a hall of 2 desks with 3 screens each and 4 positions.
abbrev pub desk_with : ℕ → List ℕ → Desk
desk_with owed waiting = record { owed = owed; scanned = 0; ready = []; tested = []; waiting = waiting; next = 0 }

abbrev wide_state : State
wide_state = record { held = 7 ∷ 8 ∷ 9 ∷ 10 ∷ []; shown = 1 ∷ 2 ∷ 3 ∷ 4 ∷ 5 ∷ 6 ∷ []; desks = desk_with 5 [] ∷ desk_with 6 (9 ∷ []) ∷ [] }

-- A desk, a screen and a position that the hall has, and the nearest numbers that it does not have.
pub seen_parts :
    (map (λ (d : ℕ). (desk_at wide wide_state d).owed) (0 ∷ 1 ∷ 2 ∷ 3 ∷ []) ≡ 0 ∷ 5 ∷ 6 ∷ 0 ∷ [])
    × (map (screen_at wide wide_state 1) (0 ∷ 1 ∷ 2 ∷ 3 ∷ 4 ∷ []) ≡ 0 ∷ 1 ∷ 2 ∷ 3 ∷ 0 ∷ [])
    × (map (screen_at wide wide_state 2) (0 ∷ 1 ∷ 2 ∷ 3 ∷ 4 ∷ []) ≡ 0 ∷ 4 ∷ 5 ∷ 6 ∷ 0 ∷ [])
    × (map (λ (d : ℕ). screen_at wide wide_state d 2) (0 ∷ 1 ∷ 2 ∷ 3 ∷ []) ≡ 0 ∷ 2 ∷ 5 ∷ 0 ∷ [])
    × (map (position_at wide wide_state) (0 ∷ 1 ∷ 4 ∷ 5 ∷ []) ≡ 0 ∷ 7 ∷ 10 ∷ 0 ∷ [])
seen_parts = (refl, refl, refl, refl, refl)

-- The five steps, each with different numbers.
abbrev steps : List Step
steps = Take 3 1 ∷ Drop 1 ∷ Swap 3 9 ∷ Retire ∷ Collect ∷ []

-- What the screen and the position that each step of desk 2 names hold, and the screens that it reads: only a collect reads any, the next
-- two where something is tested.
pub seen-by-steps :
    (map (λ (step : Step). named_words wide wide_state (2 sends step)) steps ≡ (6 ∷ 7 ∷ []) ∷ (4 ∷ []) ∷ (9 ∷ []) ∷ [] ∷ [] ∷ [])
    × (map (λ (step : Step). screens_read wide wide_state (2 sends step)) steps ≡ [] ∷ [] ∷ [] ∷ [] ∷ (1 ∷ 2 ∷ []) ∷ [])
    × (screens_read wide wide_state (1 sends Collect) ≡ [])
seen-by-steps = (refl, refl, refl)

-- Which of the screens 1 to 3 and of the positions 1 to 3 each step may write.
abbrev written_of : (Step → ℕ → Bool) → List (List ℕ)
written_of writes = map (λ (step : Step). map (λ (n : ℕ). to_nat (writes step n)) (1 ∷ 2 ∷ 3 ∷ [])) steps

pub written-by-steps :
    (written_of may_write_screen ≡ (0 ∷ 0 ∷ 1 ∷ []) ∷ (1 ∷ 0 ∷ 0 ∷ []) ∷ (0 ∷ 0 ∷ 0 ∷ []) ∷ (0 ∷ 0 ∷ 0 ∷ []) ∷ (0 ∷ 0 ∷ 0 ∷ []) ∷ [])
    × (written_of may_write_position ≡ (0 ∷ 0 ∷ 0 ∷ []) ∷ (0 ∷ 0 ∷ 0 ∷ []) ∷ (0 ∷ 0 ∷ 1 ∷ []) ∷ (0 ∷ 0 ∷ 0 ∷ []) ∷ (0 ∷ 0 ∷ 0 ∷ []) ∷ [])
written-by-steps = (refl, refl)

-- In a hall of three desks with one screen each, desk 1 has 5 waiting. These two states differ in everything that a collect of desk 1 does
-- not read: screen 3, position 2 and the other desks.
abbrev pub three_desks : Hall
three_desks = hall_of 3 1 2

abbrev pub quiet : State
quiet = record { held = 7 ∷ 0 ∷ []; shown = 0 ∷ 5 ∷ 0 ∷ []; desks = desk_with 0 (5 ∷ []) ∷ empty_desk ∷ empty_desk ∷ [] }

abbrev pub busy : State
busy = record { held = 7 ∷ 8 ∷ []; shown = 0 ∷ 5 ∷ 9 ∷ []; desks = desk_with 0 (5 ∷ []) ∷ desk_with 4 [] ∷ desk_with 0 (6 ∷ []) ∷ [] }

pub quiet_formed : Formed three_desks quiet
quiet_formed = record { positions = refl; screens = refl; desks = refl }

pub busy_formed : Formed three_desks busy
busy_formed = record { positions = refl; screens = refl; desks = refl }

-- A state of another hall is not of this one: positions, screens, desks.
pub not_formed : (Formed (hall_of 3 1 1) quiet → ⊥) × (Formed (hall_of 3 2 2) quiet → ⊥) × (Formed (hall_of 1 3 2) quiet → ⊥)
not_formed = (λ formed. omega (arith, formed.positions), λ formed. omega (arith, formed.screens), λ formed. omega (arith, formed.desks))

-- What the collect reads, and what a take of position 1 reads, is the same in both.
pub same_view : SameView three_desks quiet busy (1 sends Collect) × SameView three_desks quiet busy (1 sends Take 1 1)
same_view = (record { desk = refl; named = refl; read = refl }, record { desk = refl; named = refl; read = refl })

-- Where screen 2, which the collect reads, shows nothing, 5 is not marked.
abbrev dark : State
dark = record { held = 7 ∷ 0 ∷ []; shown = 0 ∷ 0 ∷ 0 ∷ []; desks = desk_with 0 (5 ∷ []) ∷ empty_desk ∷ empty_desk ∷ [] }

abbrev after_collect : State → Desk
after_collect state = desk_at three_desks (step hall_limits three_desks state (1 sends Collect)).after 1

pub marks_what_it_reads : ((after_collect quiet).tested ≡ marked 5 ∷ []) × ((after_collect dark).tested ≡ unmarked 5 ∷ [])
marks_what_it_reads = (refl, refl)

-- Desk 2's record, position 2, and the screens that a collect reads differ.
pub other-view :
    (SameView three_desks quiet busy (2 sends Retire) → ⊥) × (SameView three_desks quiet busy (1 sends Swap 2 5) → ⊥) × (SameView three_desks quiet dark (1 sends Collect) → ⊥)
other-view = (
  λ view. omega (arith, ap (λ (desk : Desk). desk.owed) view.desk),
  λ view. omega (arith, ap (λ (words : List ℕ). get_or words 0 0) view.named),
  λ view. omega (arith, ap (λ (words : List ℕ). get_or words 1 0) view.read),
)

-- A take does not do the same if the answers differ, or its desk's record afterwards, or its screen.
abbrev DropsAlike : Result State → Result State → Type 0
DropsAlike = StepsAlike three_desks (2 sends Drop 1)

pub not_alike :
    (DropsAlike (accept 5 quiet) (accept 6 quiet) → ⊥)
    × (DropsAlike (accept 5 quiet) (accept 5 (record { held = quiet.held; shown = quiet.shown; desks = busy.desks })) → ⊥)
    × (DropsAlike (accept 5 quiet) (accept 5 dark) → ⊥)
not_alike = (
  λ alike. omega (arith, ap (λ (answer : Answer). answer.session) alike.answer),
  λ alike. omega (arith, ap (λ (desk : Desk). desk.owed) alike.desk),
  λ alike. omega (arith, ap (λ (words : List ℕ). get_or words 0 0) alike.named),
)

-- A take of desk 1 at screen 1 may not write another desk's record, another desk's screen, or a position; a drop of desk 2 not its other
-- screens; and a swap at position 3 not screen 3.
abbrev shows : List ℕ → State
shows screens = record { held = wide_state.held; shown = screens; desks = wide_state.desks }

pub others-do-not-stay :
    (OthersStay three_desks (1 sends Take 1 1) quiet (record { held = quiet.held; shown = quiet.shown; desks = busy.desks }) → ⊥)
    × (OthersStay three_desks (1 sends Take 1 1) quiet dark → ⊥)
    × (OthersStay three_desks (1 sends Take 1 1) quiet (record { held = busy.held; shown = quiet.shown; desks = quiet.desks }) → ⊥)
    × (OthersStay wide (2 sends Drop 1) wide_state (shows (1 ∷ 2 ∷ 3 ∷ 0 ∷ 5 ∷ 0 ∷ [])) → ⊥)
    × (OthersStay wide (2 sends Swap 3 9) wide_state (shows (1 ∷ 2 ∷ 3 ∷ 4 ∷ 5 ∷ 0 ∷ [])) → ⊥)
others-do-not-stay = (
  λ stay. omega (arith, ap (λ (desk : Desk). desk.owed) (stay.desks 2 (λ same. omega arith))),
  λ stay. omega (arith, stay.screens 2 1 (λ same. absurd (omega arith))),
  λ stay. omega (arith, stay.positions 2 refl),
  λ stay. omega (arith, stay.screens 2 3 (λ same. refl)),
  λ stay. omega (arith, stay.screens 2 3 (λ same. refl)),
)
