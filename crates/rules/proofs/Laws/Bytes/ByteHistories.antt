-- Lists of calls on bytes, for any board on words: they have the answers of the calls on the words, so what holds of the words holds of the bytes.
use Rattle.std.specs.Prelude.{ℕ, zero, suc, ◌≡◌, refl, List, [], ◌∷◌, take}
use Rattle.std.proofs.Common.{subst₂, sym, ap, ◌∙◌}
use Rattle.rules.specs.Bytes.{Agrees, Calls16, IsBytes, open_on_bytes, step_on_bytes, words_of_bytes}
use Rattle.rules.specs.Hall.{Hall}
use Rattle.rules.specs.Steps.{Call, Event, end, run}
use Rattle.rules.proofs.Laws.Bytes.Bytes.{WordBoard, bytes_open, bytes_step}

pub take_calls16 : (i : ℕ) (calls : List Call) → Calls16 calls → Calls16 (take i calls)
take_calls16 zero calls w = tt
take_calls16 (suc i) [] w = tt
take_calls16 (suc i) (call ∷ calls) w = (w.0, take_calls16 i calls w.1)

module _ (board : WordBoard) where
  pub bytes_run : (bytes : List ℕ) (calls : List Call) → IsBytes bytes → Calls16 calls
      → run (step_on_bytes board.does) bytes calls ≡ run board.does (words_of_bytes bytes) calls
  bytes_run bytes [] h w = refl
  bytes_run bytes (call ∷ calls) h w =
      let a = bytes_step board bytes call h w.0 in
      let later = bytes_run (step_on_bytes board.does bytes call).after calls a.are_bytes w.1 in
      λ i. record { call = call; answer = a.answer i } ∷ (later ∙ ap (λ (t : List ℕ). run board.does t calls) a.words) i

  pub bytes_end : (bytes : List ℕ) (calls : List Call) → IsBytes bytes → Calls16 calls
      → words_of_bytes (end (step_on_bytes board.does) bytes calls) ≡ end board.does (words_of_bytes bytes) calls
  bytes_end bytes [] h w = refl
  bytes_end bytes (call ∷ calls) h w =
      let a = bytes_step board bytes call h w.0 in
      bytes_end (step_on_bytes board.does bytes call).after calls a.are_bytes w.1 ∙ ap (λ (t : List ℕ). end board.does t calls) a.words

  module _ (hall : Hall) (bytes : List ℕ) (are : IsBytes bytes) (calls : List Call) (wide : Calls16 calls) where
    opened : Agrees bytes (open_on_bytes board.opens hall bytes) (board.opens hall (words_of_bytes bytes))
    opened = bytes_open board hall bytes are

    pub same_history :
        run board.does (board.opens hall (words_of_bytes bytes)).after calls
        ≡ run (step_on_bytes board.does) (open_on_bytes board.opens hall bytes).after calls
    same_history =
        sym
        (bytes_run (open_on_bytes board.opens hall bytes).after calls opened.are_bytes wide
        ∙ ap (λ (t : List ℕ). run board.does t calls) opened.words)

    same_tables : (i : ℕ)
        → end board.does (board.opens hall (words_of_bytes bytes)).after (take i calls)
        ≡ words_of_bytes (end (step_on_bytes board.does) (open_on_bytes board.opens hall bytes).after (take i calls))
    same_tables i =
        sym
        (bytes_end (open_on_bytes board.opens hall bytes).after (take i calls) opened.are_bytes (take_calls16 i calls wide)
        ∙ ap (λ (t : List ℕ). end board.does t (take i calls)) opened.words)

    -- what holds of the words' history and tables holds of the bytes'
    pub of_bytes : (P : List Event → (ℕ → List ℕ) → Type 0)
        → P (run board.does (board.opens hall (words_of_bytes bytes)).after calls) (λ i. end board.does (board.opens hall (words_of_bytes bytes)).after (take i calls))
        → P (run (step_on_bytes board.does) (open_on_bytes board.opens hall bytes).after calls)
        (λ i. words_of_bytes (end (step_on_bytes board.does) (open_on_bytes board.opens hall bytes).after (take i calls)))
    of_bytes P p = subst₂ P same_history (λ j i. same_tables i j) p
