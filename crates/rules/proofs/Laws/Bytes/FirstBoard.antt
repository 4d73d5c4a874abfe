-- The first board as a `WordBoard`, for which the laws of bytes are stated.
use Rattle.std.proofs.Common.{arith}
use Rattle.rules.specs.Hall.{Limits}
use Rattle.rules.specs.Table.{open_table, step_table}
use Rattle.rules.proofs.Laws.Bytes.Bytes.{WordBoard}
use Rattle.rules.proofs.Laws.Table.WordBounds.{open_length, open_session, open_words, step-length, step_session, step_words}

abbrev pub first_board : Limits → WordBoard
first_board limits = record {
  opens = open_table limits;
  does = step_table limits;
  open_keeps = λ hall table wide.
      (record { session = omega (arith, open_session limits hall table); words = open_words limits hall table wide; same_length = open_length limits hall table });
  step_keeps = λ table call wide numbers.
      (record {
        session = step_session limits table call wide;
        words = step_words limits table call wide numbers;
        same_length = step-length limits table call wide;
      });
}
