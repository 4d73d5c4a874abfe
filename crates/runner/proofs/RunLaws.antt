-- A run, step by step: the requests that remain, and what was written so far.
use Rattle.std.specs.Prelude.{Ok, Err}
use Prim.Native.Nat.{ℕ, zero, suc, ◌+◌, ◌*◌, ◌/◌, ◌≤◌, ◌<◌}
use native.Mathlib.Omega.{arith}
use mathlib.Core.Bool.{Bool, true, false}
use mathlib.Core.List.{List, [], ◌∷◌, ◌++◌, append_assoc, append-nil, map}
use mathlib.Core.Option.{Option, none, some}
use mathlib.Core.Path.{◌≡◌, refl, sym, ap, ◌∙◌}
use lib.Dec.{leb}
use lib.ListN.{drop, length, set, take, take-append-drop}
use lib.Seq.{drop-drop, length-take-le}
use Rattle.std.proofs.Common.{length-append}
use Rattle.std.proofs.Math.Seq.{drop-append_seam, take-append_seam}
use borrow.Author.Tests.{leb-true}
use Rattle.rules.specs.Bytes.{IsBytes, overwrite_words, step_bytes, words_of_bytes}
use Rattle.rules.specs.Hall.{Limits}
use Rattle.rules.specs.Lists.{chunks}
use Rattle.rules.specs.Runs.{after_all, answer_request, answers_to, lent_after, lent_of, reply_width, reply_words, request_in, requests_in, run_bytes}
use Rattle.rules.specs.Runs.{step_width}
use Rattle.rules.specs.Steps.{Call, Result}
use Rattle.rules.specs.Table.{sound}
use Rattle.rules.proofs.Laws.Bytes.Bytes.{overwrite_back, overwrite_front, words_are_16}
use Rattle.reply.specs.Answer.{Reply, answer_of, table_result}
use Rattle.reply.specs.declared.Reason.{Reason}
use Rattle.reply.specs.declared.Reason.TheVariants.{TableShort, Unsound}
use Rattle.words.specs.Written.{Written}
use Rattle.words.proofs.Laws.{length-words, words_append, written_overwrites, written_then}
use Rattle.board.specs.Admission.{numbers_in, soundness_of}
use Rattle.board.specs.Results.{Requested}
use Rattle.board.specs.declared.Hall.{Hall}
use Rattle.board.specs.Kind.{first}
use Rattle.board.proofs.AdmissionLaws.{sound-hall}
use Rattle.board.proofs.RecordLaws.{still_sound}
use Rattle.board.proofs.ResultLaws.{on_bytes_lem}
use Rattle.runner.specs.Results.{lent_result}

-- ---- The requests in the steps that remain: one fewer after each step, and none in fewer bytes than a step has.
abbrev pub step_bytes_width : ℕ
step_bytes_width = 2 * step_width

one_remains : (rest step rest' : List ℕ) → rest ≡ step ++ rest' → length step ≡ step_bytes_width
    → requests_in (words_of_bytes rest) ≡ request_in (words_of_bytes step) ∷ requests_in (words_of_bytes rest')
one_remains rest step rest' parts whole =
    ap (λ (bytes : List ℕ). requests_in (words_of_bytes bytes)) parts
    ∙ ap requests_in (words_append step_width step rest' whole)
    ∙ ap (λ (n : ℕ). map request_in (chunks n step_width (first ++ after))) n
    ∙ (λ j. request_in (front j) ∷ map request_in (chunks (length after / step_width) step_width (back j)))
  where
    first : List ℕ
    first = words_of_bytes step

    after : List ℕ
    after = words_of_bytes rest'

    six : length first ≡ step_width
    six = omega (arith, length-words step, whole)

    n : length (first ++ after) / step_width ≡ suc (length after / step_width)
    n = omega (arith, length-append first after, six)

    front : take step_width (first ++ after) ≡ first
    front = ap (λ (k : ℕ). take k (first ++ after)) (sym six) ∙ take-append_seam first after

    back : drop step_width (first ++ after) ≡ after
    back = ap (λ (k : ℕ). drop k (first ++ after)) (sym six) ∙ drop-append_seam first after

none_remain : (rest : List ℕ) → length rest < step_bytes_width → requests_in (words_of_bytes rest) ≡ []
none_remain rest short =
    let none : length (words_of_bytes rest) / step_width ≡ 0 = omega (arith, length-words rest, short) in
    ap (λ (n : ℕ). map request_in (chunks n step_width (words_of_bytes rest))) none

-- ---- Two words written.
take_two : (words : List ℕ) (k a b : ℕ) → suc (suc k) ≤ length words → take (suc (suc k)) (set (set words k a) (suc k) b) ≡ take k words ++ (a ∷ b ∷ [])
take_two [] k a b long = absurd (omega arith)
take_two (x ∷ []) k a b long = absurd (omega arith)
take_two (x ∷ y ∷ words) zero a b long = refl
take_two (x ∷ y ∷ words) (suc k) a b long = ap {B = List ℕ} (λ r. x ∷ r) (take_two (y ∷ words) k a b (omega arith))

drop_two : (words : List ℕ) (k a b : ℕ) → suc (suc k) ≤ length words → drop (suc (suc k)) (set (set words k a) (suc k) b) ≡ drop (suc (suc k)) words
drop_two [] k a b long = absurd (omega arith)
drop_two (x ∷ []) k a b long = absurd (omega arith)
drop_two (x ∷ y ∷ words) zero a b long = refl
drop_two (x ∷ y ∷ words) (suc k) a b long = drop_two (y ∷ words) k a b (omega arith)

-- ---- A step on bytes.
did_on_bytes : (limits : Limits) (asked : Option Call) {before after : List ℕ} {r : Reply} → IsBytes before → IsBytes after → length after ≡ length before
    → Requested first limits asked before r after → table_result r after ≡ answer_request (step_bytes limits) before asked
unfolding step_bytes
did_on_bytes limits none {before} were are same did =
    on_bytes_lem are same did ∙ (λ i. record { answer = record { number = 17; session = 0 }; after = overwrite_back before were i })
did_on_bytes limits (some call) were are same did = on_bytes_lem are same did

-- ---- After i steps, with these bytes of steps left.
pub record Done (limits : Limits) (steps replies₀ table₀ : List ℕ) (i : ℕ) (left replies table : List ℕ) : Type 0 where
  pub are₀ : IsBytes replies₀
  pub are : IsBytes replies
  pub table_are : IsBytes table
  pub parts : step_bytes_width * i + length left ≡ length steps
  pub same_replies : length replies ≡ length replies₀
  pub same_table : length table ≡ length table₀
  pub still : soundness_of first limits (words_of_bytes table) ≡ soundness_of first limits (words_of_bytes table₀)
  -- the steps that remain lead to the same end
  pub end : after_all (step_bytes limits) table (requests_in (words_of_bytes left)) ≡ after_all (step_bytes limits) table₀ (requests_in (words_of_bytes steps))
  -- the replies so far, then those that remain
  pub written : take (reply_width * i) (words_of_bytes replies) ++ reply_words (answers_to (step_bytes limits) table (requests_in (words_of_bytes left)))
      ≡ reply_words (answers_to (step_bytes limits) table₀ (requests_in (words_of_bytes steps)))
  pub rest : drop (reply_width * i) (words_of_bytes replies) ≡ drop (reply_width * i) (words_of_bytes replies₀)
  pub last : drop (2 * length (words_of_bytes replies₀)) replies ≡ drop (2 * length (words_of_bytes replies₀)) replies₀

module _ {limits : Limits} {steps replies₀ table₀ : List ℕ} where
  pub done_none : IsBytes replies₀ → IsBytes table₀ → Done limits steps replies₀ table₀ 0 steps replies₀ table₀
  done_none are table_are =
      record { are₀ = are; are = are; table_are = table_are; parts = omega arith; same_replies = refl; same_table = refl; still = refl; end = refl; written = refl; rest = refl; last = refl }

  -- there is room for the reply to one more
  pub room_for_one : {i : ℕ} {left replies table : List ℕ} → Done limits steps replies₀ table₀ i left replies table → step_bytes_width ≤ length left
      → reply_width * (length (words_of_bytes steps) / step_width) ≤ length (words_of_bytes replies₀)
      → reply_width * i + reply_width ≤ length (words_of_bytes replies)
  room_for_one {replies = replies} done there room = omega (arith, done.parts, there, room, done.same_replies, length-words steps, length-words replies₀, length-words replies)

  pub done_more : {i : ℕ} {left left' replies table replies' table' : List ℕ} (step : List ℕ) (r : Reply) → Done limits steps replies₀ table₀ i left replies table
      → left ≡ step ++ left' → length step ≡ step_bytes_width
      → IsBytes replies' → IsBytes table' → length table' ≡ length table
      → Requested first limits (request_in (words_of_bytes step)) table r table'
      → length replies' ≡ length replies → reply_width * i + reply_width ≤ length (words_of_bytes replies)
      → Written replies (set (set (words_of_bytes replies) (reply_width * i) (answer_of r).number) (reply_width * i + 1) (answer_of r).session) replies'
      → Done limits steps replies₀ table₀ (i + 1) left' replies' table'
  done_more {i} {left} {left'} {replies} {table} {replies'} {table'} step r done parts whole are table_are same did same' room put = record {
    are₀ = done.are₀;
    are = are;
    table_are = table_are;
    parts = omega (arith, done.parts, ap (λ (l : List ℕ). length l) parts ∙ length-append step left', whole);
    same_replies = same' ∙ done.same_replies;
    same_table = same ∙ done.same_table;
    still =
        ap (λ (result : Result (List ℕ)). soundness_of first limits result.after) did.words
        ∙ still_sound limits (words_of_bytes table) (words_are_16 table done.table_are) request ∙ done.still;
    end =
        ap (λ (result : Result (List ℕ)). after_all (step_bytes limits) result.after remaining) one
        ∙ ap (after_all (step_bytes limits) table) (sym (one_remains left step left' parts whole)) ∙ done.end;
    written =
        (λ j. front j ++ reply_words (answers_to (step_bytes limits) table' remaining))
        ∙ append_assoc (take (reply_width * i) (words_of_bytes replies)) ((answer_of r).number ∷ (answer_of r).session ∷ []) (reply_words (answers_to (step_bytes limits) table' remaining))
        ∙ ap (λ (result : Result (List ℕ)). take (reply_width * i) (words_of_bytes replies) ++ reply_words (result.answer ∷ answers_to (step_bytes limits) result.after remaining)) one
        ∙ ap (λ (requests : List (Option Call)). take (reply_width * i) (words_of_bytes replies) ++ reply_words (answers_to (step_bytes limits) table requests)) (sym (one_remains left step left' parts whole))
        ∙ done.written;
    rest =
        ap (λ (words : List ℕ). drop (reply_width * (i + 1)) words) holds
        ∙ ap (λ (k : ℕ). drop k (set (set (words_of_bytes replies) (reply_width * i) (answer_of r).number) (suc (reply_width * i)) (answer_of r).session)) next
        ∙ drop_two (words_of_bytes replies) (reply_width * i) (answer_of r).number (answer_of r).session (omega (arith, room))
        ∙ further (words_of_bytes replies) ∙ ap (λ (words : List ℕ). drop 2 words) done.rest ∙ sym (further (words_of_bytes replies₀))
        ∙ ap (λ (k : ℕ). drop k (words_of_bytes replies₀)) (sym next);
    last = (written_then {first = replies₀} {before = replies} {after = replies'} (record { holds = refl; last = done.last }) done.same_replies put).last;
  }
    where
      request : Option Call
      request = request_in (words_of_bytes step)

      remaining : List (Option Call)
      remaining = requests_in (words_of_bytes left')

      next : reply_width * (i + 1) ≡ suc (suc (reply_width * i))
      next = omega arith

      holds : words_of_bytes replies' ≡ set (set (words_of_bytes replies) (reply_width * i) (answer_of r).number) (suc (reply_width * i)) (answer_of r).session
      holds =
          let second : reply_width * i + 1 ≡ suc (reply_width * i) = omega arith in
          put.holds ∙ ap (λ (k : ℕ). set (set (words_of_bytes replies) (reply_width * i) (answer_of r).number) k (answer_of r).session) second

      front : take (reply_width * (i + 1)) (words_of_bytes replies') ≡ take (reply_width * i) (words_of_bytes replies) ++ ((answer_of r).number ∷ (answer_of r).session ∷ [])
      front =
          (λ j. take (next j) (holds j))
          ∙ take_two (words_of_bytes replies) (reply_width * i) (answer_of r).number (answer_of r).session (omega (arith, room))

      further : (words : List ℕ) → drop (suc (suc (reply_width * i))) words ≡ drop 2 (drop (reply_width * i) words)
      further words =
          let two : reply_width * i + 2 ≡ suc (suc (reply_width * i)) = omega arith in
          sym (drop-drop 2 (reply_width * i) words ∙ ap (λ (k : ℕ). drop k words) two)

      one : table_result r table' ≡ answer_request (step_bytes limits) table request
      one = did_on_bytes limits request done.table_are table_are same did

  -- none remain: both tables are as the rules leave them
  pub done_all : {i : ℕ} {left replies table : List ℕ} → Done limits steps replies₀ table₀ i left replies table → length left < step_bytes_width
      → reply_width * (length (words_of_bytes steps) / step_width) ≤ length (words_of_bytes replies₀)
      → lent_of replies table ≡ lent_after limits (requests_in (words_of_bytes steps)) (lent_of replies₀ table₀)
  done_all {i} {left} {replies} {table} done short room = λ j. lent_of (replies_are j) (table_is j)
    where
      table_is : table ≡ after_all (step_bytes limits) table₀ (requests_in (words_of_bytes steps))
      table_is = sym (ap (after_all (step_bytes limits) table) (none_remain left short)) ∙ done.end

      all : List ℕ
      all = reply_words (answers_to (step_bytes limits) table₀ (requests_in (words_of_bytes steps)))

      front : take (reply_width * i) (words_of_bytes replies) ≡ all
      front =
          sym (append-nil (take (reply_width * i) (words_of_bytes replies)))
          ∙ sym (ap (λ (requests : List (Option Call)). take (reply_width * i) (words_of_bytes replies) ++ reply_words (answers_to (step_bytes limits) table requests)) (none_remain left short))
          ∙ done.written

      long : length all ≡ reply_width * i
      long =
          sym (ap (λ (words : List ℕ). length words) front)
          ∙ length-take-le (reply_width * i) (words_of_bytes replies) (omega (arith, done.parts, room, length-words steps, length-words replies, length-words replies₀, done.same_replies))

      words_are : words_of_bytes replies ≡ all ++ drop (length all) (words_of_bytes replies₀)
      words_are =
          sym (take-append-drop (reply_width * i) (words_of_bytes replies))
          ∙ (λ j. front j ++ done.rest j) ∙ ap (λ (k : ℕ). all ++ drop k (words_of_bytes replies₀)) (sym long)

      replies_are : replies ≡ overwrite_words all replies₀
      replies_are =
          written_overwrites done.are done.same_replies (record { holds = words_are; last = done.last }) ∙ overwrite_front all replies₀ done.are₀

-- ---- The two questions.
chunks-length : (n w : ℕ) (words : List ℕ) → length (map request_in (chunks n w words)) ≡ n
chunks-length zero w words = refl
chunks-length (suc n) w words = ap suc (chunks-length n w (drop w words))

-- room as the code asks for it, by the bytes
abbrev room? : List ℕ → List ℕ → Bool
room? steps replies = leb (reply_width * (length steps / 2 / step_width)) (length replies / 2)

pub run_room : (steps replies : List ℕ) → room? steps replies ≡ true → reply_width * (length (words_of_bytes steps) / step_width) ≤ length (words_of_bytes replies)
run_room steps replies room =
    omega (arith, leb-true (reply_width * (length steps / 2 / step_width)) (length replies / 2) room, length-words steps, length-words replies)

module _ (limits : Limits) (steps replies table : List ℕ) where
  abbrev requests : List (Option Call)
  requests = requests_in (words_of_bytes steps)

  room_is : leb (reply_width * length requests) (length (words_of_bytes replies)) ≡ room? steps replies
  room_is =
      let n : length requests ≡ length steps / 2 / step_width = chunks-length (length (words_of_bytes steps) / step_width) step_width (words_of_bytes steps) ∙ ap (λ (k : ℕ). k / step_width) (length-words steps) in
      λ i. leb (reply_width * n i) (length-words replies i)

  pub run_short : room? steps replies ≡ false → lent_result (Err TableShort) replies table ≡ run_bytes limits steps (lent_of replies table)
  unfolding run_bytes
  run_short short = rw (room_is ∙ short)

  module _ (room : room? steps replies ≡ true) where
    pub run_unsound : {reason : Reason} → Err reason ≡ soundness_of first limits (words_of_bytes table)
        → lent_result (Err reason) replies table ≡ run_bytes limits steps (lent_of replies table)
    unfolding run_bytes soundness_of
    run_unsound {reason} is = by_soundness (sound limits (words_of_bytes table)) refl
      where
        by_soundness : (b : Bool) → sound limits (words_of_bytes table) ≡ b → lent_result (Err reason) replies table ≡ run_bytes limits steps (lent_of replies table)
        by_soundness true e = let z : Err reason ≡ Ok (numbers_in (words_of_bytes table)) = rw e at is in let never : ◌≡◌ {A = ℕ} 0 1 = cc in absurd (omega arith)
        by_soundness false e = let z : Err reason ≡ Err Unsound = rw e at is in let same : reason ≡ Unsound = cc in rw (same, room_is ∙ room, e)

    pub run_accepted : {hall : Hall} {replies' table' : List ℕ} → Ok hall ≡ soundness_of first limits (words_of_bytes table)
        → lent_of replies' table' ≡ lent_after limits requests (lent_of replies table)
        → lent_result (Ok 0) replies' table' ≡ run_bytes limits steps (lent_of replies table)
    unfolding run_bytes
    run_accepted sounds done = rw (room_is ∙ room, (sound-hall sounds).yes_sound) (λ i. record { answer = record { number = 0; session = 0 }; after = done i })
