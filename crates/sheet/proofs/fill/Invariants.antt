-- The loop of `sheet::fill`: what was put so far is a part of a batch.
use Rattle.std.specs.Prelude.{Some}
use Rattle.rules.specs.Bytes.{words_of_bytes}
use Rattle.reader.specs.Results.{edition_of}
use Rattle.sheet.specs.Batch.{Checked, SameSoundness, batches_left}
use Rattle.sheet.proofs.BatchLaws.{InBatch}
use Rattle.sheet.proofs.fill.Given as goal

abbrev pub invariant-loop-edition : goal.invariant-loop-edition
invariant-loop-edition l =
    InBatch (edition_of l.edition) l.sheet l.initial.current (words_of_bytes l.initial.table) l.initial.out l.current (words_of_bytes l.table) l.out
    × Checked l.edition (Some l.current) l.table
    × SameSoundness l.edition l.initial.table l.table

abbrev pub decreases-loop-edition : goal.decreases-loop-edition
decreases-loop-edition l = batches_left l.sheet (Some l.current)
