-- Runs: their requests as single calls; demand 1; and histories in which runs and single calls are mixed.
use Prim.Native.Nat.{ℕ, zero, suc, ◌+◌, ◌*◌, ◌/◌, ◌≤◌, ◌<◌}
use native.Mathlib.Omega.{arith}
use Rattle.std.specs.Prelude.{◌≡◌, Bool, true, false, cond, length, take, drop, eqb, leb, ltb}
use Rattle.std.proofs.Math.Path.{refl, ap, subst}
use Rattle.std.proofs.Common.{sym, ◌∙◌, eqb-true, leb-true, ltb-false, ltb-true}
use mathlib.Core.List.{List, [], ◌∷◌, ◌++◌, map}
use Rattle.std.proofs.Math.Option.{Option, none, some}
use Rattle.std.proofs.Math.ListN.{get_or}
use Rattle.std.proofs.Math.Dec.{eqb-suc-zero}
use Rattle.rules.specs.Bytes.{Call16, Calls16, IsBytes, Words16, overwrite_words, step_bytes, words_of_bytes}
use Rattle.rules.specs.Demands.{Demand1, footprint, on_bytes_of, refusals, step_refusals}
use Rattle.rules.specs.Hall.{Limits}
use Rattle.rules.specs.Lists.{chunks, every, occurrences, to_nat}
use Rattle.rules.specs.Runs.{AllSent16, Lent, RunDemand1, Sent, Sent16, SentDemand1, Singly, after_all, answer_request, answers_to, calls_among, calls_made, calls_of, calls_of_sent}
use Rattle.rules.specs.Runs.{events_in_replies, events_of}
use Rattle.rules.specs.Runs.{in_one_call, lent_after, lent_of, mixed_history, reply_footprint, reply_words, request_for, request_footprint, request_in, requests_in}
use Rattle.rules.specs.Runs.{run_bytes, run_footprint, run_questions, run_refusals, single, table_after_mixed, table_after_sent}
use Rattle.rules.specs.Steps.{Call, Collect, Drop, Event, Result, Retire, Step, Swap, Take, ◌numbered◌, ◌sends◌, ask, decide, end, first_no, run}
use Rattle.rules.specs.Table.{sound, step_table}
use Rattle.rules.proofs.Laws.Bytes.Bytes.{bytes_demand1, bytes_step, overwrite_length, overwrite_past, same_past, words_are_16, words-length, words_then}
use Rattle.rules.proofs.Laws.Bytes.FirstBoard.{first_board}
use Rattle.rules.proofs.Laws.Desk.Decoding.{small-drop, small-take}
use Rattle.rules.proofs.Laws.Lists.Bools.{and_left, and_right}
use Rattle.rules.proofs.Laws.Table.Demand1.{demand1, or_no}
use Rattle.rules.proofs.Laws.Table.WordBounds.{first_no_is_asked, step_refused, step_session}

-- ---- Lists of calls, one after the other.
module _ {T : Type 0} (does : T → Call → Result T) where
  run_append : (before : T) (calls more : List Call) → run does before (calls ++ more) ≡ run does before calls ++ run does (end does before calls) more
  run_append before [] more = refl
  run_append before (call ∷ calls) more =
      ap {B = List Event} (λ r. record { call = call; answer = (does before call).answer } ∷ r) (run_append (does before call).after calls more)

  end_append : (before : T) (calls more : List Call) → end does before (calls ++ more) ≡ end does (end does before calls) more
  end_append before [] more = refl
  end_append before (call ∷ calls) more = end_append (does before call).after calls more

  calls_of_run : (before : T) (calls : List Call) → calls_of (run does before calls) ≡ calls
  calls_of_run before [] = refl
  calls_of_run before (call ∷ calls) = ap {B = List Call} (λ r. call ∷ r) (calls_of_run (does before call).after calls)

-- ---- The calls among requests.
module _ {T : Type 0} (does : T → Call → Result T) where
  all_is_end : (before : T) (requests : List (Option Call)) → after_all does before requests ≡ end does before (calls_among requests)
  all_is_end before [] = refl
  all_is_end before (none ∷ requests) = all_is_end before requests
  all_is_end before (some call ∷ requests) = all_is_end (does before call).after requests

  -- the events in their replies, whatever is behind them
  replies_give_run : (before : T) (requests : List (Option Call)) (rest : List ℕ)
      → events_in_replies requests (reply_words (answers_to does before requests) ++ rest) ≡ run does before (calls_among requests)
  replies_give_run before [] rest = refl
  replies_give_run before (none ∷ requests) rest = replies_give_run before requests rest
  replies_give_run before (some call ∷ requests) rest =
      ap {B = List Event} (λ r. record { call = call; answer = (does before call).answer } ∷ r) (replies_give_run (does before call).after requests rest)

  answers_length : (before : T) (requests : List (Option Call)) → length (reply_words (answers_to does before requests)) ≡ 2 * length requests
  answers_length before [] = omega arith
  answers_length before (request ∷ requests) = omega (arith, answers_length (answer_request does before request).after requests)

-- ---- The numbers of requests are 16 bits wide.
abbrev Request16 : Option Call → Type 0
Request16 none = Unit {0}
Request16 (some call) = Call16 call

abbrev pub Requests16 : List (Option Call) → Type 0
Requests16 [] = Unit {0}
Requests16 (request ∷ requests) = Request16 request × Requests16 requests

request_16 : (code m d c p s : ℕ) → m < 65536 → d < 65536 → c < 65536 → p < 65536 → s < 65536 → Request16 (request_for code m d c p s)
request_16 code m d c p s hm hd hc hp hs = by_code (eqb code 1) (eqb code 2) (eqb code 3) (eqb code 4) (eqb code 5)
  where
    by_code : (take? drop? swap? retire? collect? : Bool)
        → Request16 (cond take? (some (d sends Take c p numbered m)) (cond drop? (some (d sends Drop c numbered m)) (cond swap? (some (d sends Swap p s numbered m)) (cond retire? (some (d sends Retire numbered m)) (cond collect? (some (d sends Collect numbered m)) none)))))
    by_code true drop? swap? retire? collect? = (hm, hd, (hc, hp))
    by_code false true swap? retire? collect? = (hm, hd, hc)
    by_code false false true retire? collect? = (hm, hd, (hp, hs))
    by_code false false false true collect? = (hm, hd, tt)
    by_code false false false false true = (hm, hd, tt)
    by_code false false false false false = tt

chunks_16 : (n w : ℕ) (words : List ℕ) → Words16 words → Requests16 (map request_in (chunks n w words))
chunks_16 zero w words are = tt
chunks_16 (suc n) w words are =
    let first = small-take w words are in
    (request_16 (get_or (take w words) 0 0) (get_or (take w words) 1 0) (get_or (take w words) 2 0) (get_or (take w words) 3 0) (get_or (take w words) 4 0) (get_or (take w words) 5 0) (first 1) (first 2) (first 3) (first 4) (first 5), chunks_16 n w (drop w words) (small-drop w words are))

pub requests_16 : (steps : List ℕ) → IsBytes steps → Requests16 (requests_in (words_of_bytes steps))
requests_16 steps are = chunks_16 (length (words_of_bytes steps) / 6) 6 (words_of_bytes steps) (words_are_16 steps are)

calls_16 : (requests : List (Option Call)) → Requests16 requests → Calls16 (calls_among requests)
calls_16 [] wide = tt
calls_16 (none ∷ requests) wide = calls_16 requests wide.1
calls_16 (some call ∷ requests) wide = (wide.0, calls_16 requests wide.1)

-- ---- The words of an answer are 16 bits wide.
occurs_below : (n most : ℕ) (xs : List ℕ) → 1 ≤ occurrences n xs → every (λ x. ltb x most) xs ≡ true → n < most
occurs_below n most [] occurs below = absurd (omega arith)
occurs_below n most (x ∷ xs) occurs below =
    by_first (eqb n x) refl occurs (λ later. occurs_below n most xs later (and_right (ltb x most) (every (λ x. ltb x most) xs) below))
  where
    by_first : (b : Bool) → eqb n x ≡ b → 1 ≤ to_nat b + occurrences n xs → (1 ≤ occurrences n xs → n < most) → n < most
    by_first true same occurs later = omega (arith, eqb-true n x same, ltb-true x most (and_left (ltb x most) (every (λ x. ltb x most) xs) below))
    by_first false other occurs later = later (omega arith)

refusals-below : (call : Call) → every (λ x. ltb x 65536) (refusals call) ≡ true
refusals-below call = by_step call.step
  where
    by_step : (step : Step) → every (λ x. ltb x 65536) (step_refusals step) ≡ true
    by_step (Take c p) = refl
    by_step (Drop c) = refl
    by_step (Swap p session) = refl
    by_step Retire = refl
    by_step Collect = refl

number_16 : (limits : Limits) (words : List ℕ) (call : Call) → (step_table limits words call).answer.number < 65536
number_16 limits words call = by_number_lem (step_table limits words call).answer.number refl
  where
    by_number_lem : (n : ℕ) → (step_table limits words call).answer.number ≡ n → n < 65536
    by_number_lem zero is = omega arith
    by_number_lem (suc n) is = occurs_below (suc n) 65536 (refusals call) (step_refused limits words call n is).0 (refusals-below call)

append_16 : (calls more : List Call) → Calls16 calls → Calls16 more → Calls16 (calls ++ more)
append_16 [] more a b = b
append_16 (call ∷ calls) more a b = (a.0, append_16 calls more a.1 b)

-- words over the first of some bytes
overwritten : (words bytes : List ℕ) → Words16 words → words_of_bytes (overwrite_words words bytes) ≡ words ++ words_of_bytes (drop (2 * length words) bytes)
unfolding overwrite_words
overwritten words bytes are = words_then words (drop (2 * length words) bytes) are

-- ---- Requests on bytes.
module _ (limits : Limits) where
  -- one request leaves as many bytes, and its answer fits into two words
  record Answered (bytes : List ℕ) (result : Result (List ℕ)) : Type 0 where
    pub are_bytes : IsBytes result.after
    pub same_length : length result.after ≡ length bytes
    pub number : result.answer.number < 65536
    pub session : result.answer.session < 65536

  answered : (bytes : List ℕ) (request : Option Call) → IsBytes bytes → Request16 request → Answered bytes (answer_request (step_bytes limits) bytes request)
  unfolding step_bytes
  answered bytes none are wide = record { are_bytes = are; same_length = refl; number = omega arith; session = omega arith }
  answered bytes (some call) are wide =
      let agrees = bytes_step (first_board limits) bytes call are wide in
      record {
        are_bytes = agrees.are_bytes;
        same_length = agrees.same_length;
        number = number_16 limits (words_of_bytes bytes) call;
        session = step_session limits (words_of_bytes bytes) call (words_are_16 bytes are);
      }

  -- so do all
  record AllAnswered (bytes : List ℕ) (requests : List (Option Call)) : Type 0 where
    pub are_bytes : IsBytes (after_all (step_bytes limits) bytes requests)
    pub same_length : length (after_all (step_bytes limits) bytes requests) ≡ length bytes
    pub words : Words16 (reply_words (answers_to (step_bytes limits) bytes requests))

  two_more : {number session : ℕ} (words : List ℕ) → number < 65536 → session < 65536 → Words16 words → Words16 (number ∷ session ∷ words)
  two_more words n s are zero = n
  two_more words n s are (suc zero) = s
  two_more words n s are (suc (suc i)) = are i

  all_answered : (bytes : List ℕ) (requests : List (Option Call)) → IsBytes bytes → Requests16 requests → AllAnswered bytes requests
  all_answered bytes [] are wide = record { are_bytes = are; same_length = refl; words = λ i. omega arith }
  all_answered bytes (request ∷ requests) are wide =
      let first = answered bytes request are wide.0 in
      let next = (answer_request (step_bytes limits) bytes request).after in
      let rest = all_answered next requests first.are_bytes wide.1 in
      record {
        are_bytes = rest.are_bytes;
        same_length = rest.same_length ∙ first.same_length;
        words = two_more (reply_words (answers_to (step_bytes limits) next requests)) first.number first.session rest.words;
      }

  -- ---- Demand 1.

  -- of a single call
  pub step_demand1 : (bytes : List ℕ) (call : Call) → IsBytes bytes → Call16 call
      → Demand1 (refusals call) (on_bytes_of bytes (footprint (words_of_bytes bytes) call)) bytes (step_bytes limits bytes call)
  unfolding step_bytes
  step_demand1 bytes call are wide =
      let words = words_of_bytes bytes in
      let are16 = words_are_16 bytes are in
      bytes_demand1 bytes are (step_table limits words call) ((first_board limits).step_keeps words call are16 wide) (refusals call) (footprint words call)
      (demand1 limits words are16 call)

  -- a byte that a request does not name, and one that no request names
  request_keeps : (bytes : List ℕ) (request : Option Call) → IsBytes bytes → Request16 request → (j : ℕ) → request_footprint limits bytes request j ≡ false
      → get_or (answer_request (step_bytes limits) bytes request).after j 0 ≡ get_or bytes j 0
  unfolding step_bytes
  request_keeps bytes none are wide j unnamed = refl
  request_keeps bytes (some call) are wide j unnamed =
      by_number_lem (step_table limits (words_of_bytes bytes) call).answer.number refl
    where
      by_number_lem : (n : ℕ) → (step_table limits (words_of_bytes bytes) call).answer.number ≡ n → get_or (step_bytes limits bytes call).after j 0 ≡ get_or bytes j 0
      by_number_lem zero is = (step_demand1 bytes call are wide).accepted is j (rw is at unnamed)
      by_number_lem (suc n) is = ap (λ (b : List ℕ). get_or b j 0) ((step_demand1 bytes call are wide).refused n is).2

  all_keep : (bytes : List ℕ) (requests : List (Option Call)) → IsBytes bytes → Requests16 requests → (j : ℕ) → run_footprint limits bytes requests j ≡ false
      → get_or (after_all (step_bytes limits) bytes requests) j 0 ≡ get_or bytes j 0
  all_keep bytes [] are wide j unnamed = refl
  all_keep bytes (request ∷ requests) are wide j unnamed =
      let next = (answer_request (step_bytes limits) bytes request).after in
      let parts = or_no (request_footprint limits bytes request j) (run_footprint limits next requests j) unnamed in
      all_keep next requests (answered bytes request are wide.0).are_bytes wide.1 j parts.1 ∙ request_keeps bytes request are wide.0 j parts.0

  -- a run that was refused, and one that was accepted
  module _ (steps : List ℕ) (lent : Lent) where
    abbrev requests : List (Option Call)
    requests = requests_in (words_of_bytes steps)

    abbrev asked : ℕ
    asked = first_no (run_questions limits requests lent)

    by_run : (P : Result Lent → Type 0) → ((n : ℕ) → asked ≡ suc n → P (record { answer = record { number = suc n; session = 0 }; after = lent }))
        → (asked ≡ 0 → P (record { answer = record { number = 0; session = 0 }; after = lent_after limits requests lent }))
        → P (run_bytes limits steps lent)
    unfolding run_bytes
    by_run P refused accepted = by_number_lem asked refl
      where
        by_number_lem : (n : ℕ) → asked ≡ n → P (decide asked lent 0 (lent_after limits requests lent))
        by_number_lem zero is = subst (λ (n : ℕ). P (decide n lent 0 (lent_after limits requests lent))) (sym is) (accepted is)
        by_number_lem (suc n) is = subst (λ (n : ℕ). P (decide n lent 0 (lent_after limits requests lent))) (sym is) (refused n is)

    -- an accepted run has room for its replies
    has_room : asked ≡ 0 → 2 * length requests ≤ length (words_of_bytes lent.replies)
    has_room passed = by_room (leb (2 * length requests) (length (words_of_bytes lent.replies))) refl passed
      where
        by_room : (b : Bool) → leb (2 * length requests) (length (words_of_bytes lent.replies)) ≡ b
            → cond b (first_no (ask (sound limits (words_of_bytes lent.table)) 5 ∷ [])) 4 ≡ 0
            → 2 * length requests ≤ length (words_of_bytes lent.replies)
        by_room true room passed = leb-true (2 * length requests) (length (words_of_bytes lent.replies)) room
        by_room false short passed = absurd (omega arith)

    module _ (wide : Requests16 requests) (are : IsBytes lent.table) where
      abbrev written : List ℕ
      written = reply_words (answers_to (step_bytes limits) lent.table requests)

      abbrev Tables : (Lent → List ℕ) → (ℕ → Bool) → Result Lent → Type 0
      Tables part may_change result = Demand1 run_refusals may_change (part lent) (record { answer = result.answer; after = part result.after })

      refused_run : (part : Lent → List ℕ) (may_change : ℕ → Bool) (n : ℕ) → asked ≡ suc n
          → Tables part may_change (record { answer = record { number = suc n; session = 0 }; after = lent })
      refused_run part may_change n is =
          record {
            refused = λ m e. (first_no_is_asked (run_questions limits requests lent) m (is ∙ e), refl, refl);
            accepted = λ e. absurd (omega arith);
            same_length = refl;
          }

      pub run_demand1 : RunDemand1 limits steps lent
      run_demand1 = record {
        table = by_run (Tables (λ l. l.table) (run_footprint limits lent.table requests)) (refused_run (λ l. l.table) (run_footprint limits lent.table requests))
            (λ is. record {
              refused = λ m e. absurd (omega arith);
              accepted = λ e j unnamed. all_keep lent.table requests are wide j unnamed;
              same_length = (all_answered lent.table requests are wide).same_length;
            });
        replies = by_run (Tables (λ l. l.replies) (reply_footprint (length requests))) (refused_run (λ l. l.replies) (reply_footprint (length requests)))
            (λ is. record {
              refused = λ m e. absurd (omega arith);
              accepted = λ e j unnamed.
                  same_past (2 * length written) (overwrite_words written lent.replies) lent.replies (overwrite_past written lent.replies) j
                  (omega (arith, ltb-false j (4 * length requests) unnamed, answers_length (step_bytes limits) lent.table requests));
              same_length = overwrite_length written lent.replies
                  (omega (arith, has_room is, words-length lent.replies, answers_length (step_bytes limits) lent.table requests));
            });
      }

  -- ---- Mixed histories.

  -- events, and the bytes after them, are those of these single calls
  record Single (table : List ℕ) (calls : List Call) (events : List Event) (after : List ℕ) : Type 0 where
    pub wide : Calls16 calls
    pub history : events ≡ run (step_bytes limits) table calls
    pub end_is : after ≡ end (step_bytes limits) table calls
    pub are_bytes : IsBytes after

  single_sent : (table : List ℕ) (sent : Sent) → IsBytes table → Sent16 sent → Single table (calls_of_sent limits table sent) (events_of limits table sent) (table_after_sent limits table sent)
  single_sent table (single call) are wide =
      record { wide = (wide, tt); history = refl; end_is = refl; are_bytes = (answered table (some call) are wide).are_bytes }
  single_sent table (in_one_call steps replies) are wide =
      by_run steps (lent_of replies table)
      (λ result. Single table (cond (eqb result.answer.number 0) (calls_among (requests_in (words_of_bytes steps))) []) (cond (eqb result.answer.number 0) (events_in_replies (requests_in (words_of_bytes steps)) (words_of_bytes result.after.replies)) []) result.after.table)
      (λ n is. rw (eqb-suc-zero n) (record { wide = tt; history = refl; end_is = refl; are_bytes = are })) accepted
    where
      asks : List (Option Call)
      asks = requests_in (words_of_bytes steps)

      asks_16 : Requests16 (requests_in (words_of_bytes steps))
      asks_16 = requests_16 steps wide.0

      written : List ℕ
      written = reply_words (answers_to (step_bytes limits) table (requests_in (words_of_bytes steps)))

      accepted : asked steps (lent_of replies table) ≡ 0
          → Single table (calls_among (requests_in (words_of_bytes steps))) (events_in_replies (requests_in (words_of_bytes steps)) (words_of_bytes (overwrite_words written replies))) (after_all (step_bytes limits) table (requests_in (words_of_bytes steps)))
      accepted is =
          let all = all_answered table (requests_in (words_of_bytes steps)) are asks_16 in
          record {
            wide = calls_16 (requests_in (words_of_bytes steps)) asks_16;
            history =
                ap (events_in_replies (requests_in (words_of_bytes steps))) (overwritten written replies all.words)
                ∙ replies_give_run (step_bytes limits) table (requests_in (words_of_bytes steps)) (words_of_bytes (drop (2 * length written) replies));
            end_is = all_is_end (step_bytes limits) table (requests_in (words_of_bytes steps));
            are_bytes = all.are_bytes;
          }

  single_then : {table : List ℕ} (calls next : List Call) {events : List Event} {between : List ℕ} {more : List Event} {after : List ℕ}
      → Single table calls events between → Single between next more after → Single table (calls ++ next) (events ++ more) after
  single_then {table} calls next one two = record {
    wide = append_16 calls next one.wide two.wide;
    history =
        (λ i. one.history i ++ (two.history ∙ ap (λ (bytes : List ℕ). run (step_bytes limits) bytes next) one.end_is) i)
        ∙ sym (run_append (step_bytes limits) table calls next);
    end_is =
        two.end_is ∙ ap (λ (bytes : List ℕ). end (step_bytes limits) bytes next) one.end_is
        ∙ sym (end_append (step_bytes limits) table calls next);
    are_bytes = two.are_bytes;
  }

  all_single : (table : List ℕ) (sent : List Sent) → IsBytes table → AllSent16 sent
      → Single table (calls_made limits table sent) (mixed_history limits table sent) (table_after_mixed limits table sent)
  all_single table [] are wide = record { wide = tt; history = refl; end_is = refl; are_bytes = are }
  all_single table (first ∷ rest) are wide =
      let one = single_sent table first are wide.0 in
      single_then (calls_of_sent limits table first) (calls_made limits (table_after_sent limits table first) rest) one (all_single (table_after_sent limits table first) rest one.are_bytes wide.1)

  -- so the calls of the history are those that were made
  module _ (table : List ℕ) (sent : List Sent) (are : IsBytes table) (wide : AllSent16 sent) where
    all : Single table (calls_made limits table sent) (mixed_history limits table sent) (table_after_mixed limits table sent)
    all = all_single table sent are wide

    calls_are : calls_of (mixed_history limits table sent) ≡ calls_made limits table sent
    calls_are = ap calls_of all.history ∙ calls_of_run (step_bytes limits) table (calls_made limits table sent)

    pub mixed_16 : Calls16 (calls_of (mixed_history limits table sent))
    mixed_16 = subst Calls16 (sym calls_are) all.wide

    pub mixed_singly : Singly limits table sent
    mixed_singly =
        record {
          calls = calls_are;
          history = all.history ∙ ap (run (step_bytes limits) table) (sym calls_are);
          after = all.end_is ∙ ap (end (step_bytes limits) table) (sym calls_are);
        }

  -- ---- Demand 1 of whatever is sent.
  pub sent_demand1 : (bytes : List ℕ) (sent : Sent) → IsBytes bytes → Sent16 sent → SentDemand1 limits bytes sent
  sent_demand1 bytes (single call) are wide = step_demand1 bytes call are wide
  sent_demand1 bytes (in_one_call steps replies) are wide = run_demand1 steps (lent_of replies bytes) (requests_16 steps wide.0) are
