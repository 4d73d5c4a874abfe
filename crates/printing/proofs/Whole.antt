-- The theorems about a sheet that was printed completely.
use Rattle.std.specs.Prelude.{ℕ, ◌≡◌, refl, true, List, length}
use Rattle.sheet.specs.Batch.{sheet_table}
use Rattle.sheet_rules.specs.Lines.{printed}
use Rattle.sheet_rules.specs.Sheet.{Edition}
use Rattle.printing.specs.Output.{HandedOver}
use Rattle.printing.proofs.Laws.Output.{finished_bytes, finished_table}

module _ (edition : Edition) (sheet : List ℕ) (bytes : ℕ) (handed : HandedOver edition sheet true bytes) where
  -- All bytes that the rules print for the sheet were handed over,
  pub complete_output : bytes ≡ length (printed edition sheet)
  complete_output = finished_bytes handed.reached (handed.finished refl)

  -- and all its calls were run.
  pub complete_table : handed.table ≡ sheet_table edition sheet
  complete_table = finished_table handed.reached (handed.finished refl)
