-- What the contract admits and refuses, for the empty sheet: its whole output, its first line, and other numbers of bytes.
use Rattle.std.specs.Prelude.{ℕ, ◌≡◌, refl, Bool, true, false, List, [], length, drop, Option, Some, None, Err}
use Rattle.reply.specs.declared.Reason.TheVariants.{Unsound}
use Rattle.sheet.specs.Batch.{remaining_output}
use Rattle.std.proofs.Common.{arith}
use Rattle.rules.specs.Numbers.{decode_number}
use Rattle.sheet.specs.declared.State.{State}
use Rattle.sheet_rules.specs.Edition1.{decode_header, hall_edition}
use Rattle.sheet_rules.specs.Lines.{decimal, end_line, line, printed}
use Rattle.sheet_rules.specs.Sheet.{Edition, lent_table, reading}
use Rattle.printing.specs.Output.{HandedOver}
use Rattle.printing.proofs.Whole.{complete_output}

abbrev empty_state : State
empty_state = record { offset = 0; index = 0; carried = None; tally = record { accepted = 0; refused = 0; handed_back = 0 }; soundness = Err Unsound }

-- `0 0 15 0` and `end 0 0 0`, each with its newline, are 19 bytes;
pub all_of_empty : HandedOver hall_edition [] true 19
unfolding printed reading decode_header decode_number decimal line end_line
all_of_empty = record {
  some = omega arith;
  state = None;
  table = lent_table;
  reached = record { within = omega arith; output = refl; calls = []; run = refl; left = refl };
  finished = λ complete. refl;
}

pub all_are_19 : 19 ≡ length (printed hall_edition [])
all_are_19 = complete_output hall_edition [] 19 all_of_empty

-- the first line alone is 9.
pub first_of_empty : HandedOver hall_edition [] false 9
unfolding printed reading decode_header decode_number decimal line end_line
first_of_empty = record {
  some = omega arith;
  state = Some empty_state;
  table = lent_table;
  reached = record { within = omega arith; output = refl; calls = []; run = refl; left = refl };
  finished = λ (complete : false ≡ true). cc;
}

-- No constant number of bytes meets the contract: 0 bytes for no sheet, and 1 byte not for the empty sheet.
pub never_nothing : (edition : Edition) (sheet : List ℕ) (complete : Bool) → HandedOver edition sheet complete 0 → ⊥
never_nothing edition sheet complete handed = omega (arith, handed.some)

pub never_one_byte : (complete : Bool) → HandedOver hall_edition [] complete 1 → ⊥
unfolding printed reading decode_header decode_number decimal line end_line
never_one_byte complete handed = by_state handed.state handed.reached.output
  where
    by_state : (state : Option State) → remaining_output hall_edition [] state handed.table ≡ drop 1 (printed hall_edition []) → ⊥
    by_state None e = let z : ◌≡◌ {A = ℕ} 0 1 = cc in omega arith
    by_state (Some state) e = let z : ◌≡◌ {A = ℕ} 101 32 = cc in omega arith
