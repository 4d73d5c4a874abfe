use Rattle.std.proofs.Common.{◌≡◌, ◌*◌, ◌≤◌, length, take}
use Rattle.rules.specs.Bytes.{words_of_bytes}
use Rattle.rules.specs.Table.{max_words}
use Rattle.reader.specs.Results.{edition_of}
use Rattle.sheet.specs.Batch.{Checked, Numbered, batches_left}
use Rattle.sheet_rules.specs.Lines.{printed}
use Rattle.printing.specs.Output.{Reached}
use Rattle.printing.proofs.Taken.{Taken}
use Rattle.printing.proofs.print.Given as goal

-- each batch leads from one state of the sheet to a later one
abbrev pub invariant-loop-state : goal.invariant-loop-state
invariant-loop-state g l =
    (2 * max_words ≡ length l.table)
    × (length l.out.bytes.now ≡ 65536)
    × Numbered l.state
    × (1 ≤ l.bytes)
    × Reached (edition_of l.edition) l.sheet l.bytes l.state (words_of_bytes l.table)
    × Checked l.edition l.state l.table
    × Taken l.taken (g.W.Write.contents l.fn.to) (g.W.Write.contents l.to) (take l.bytes (printed (edition_of l.edition) l.sheet))

abbrev pub decreases-loop-state : goal.decreases-loop-state
decreases-loop-state g l = batches_left l.sheet l.state
