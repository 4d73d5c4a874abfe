-- `rewriter::put_unless_long` meets its contract.
use native.Mathlib.Omega.{arith}
use Rattle.reader.specs.Results.{carried_of, format_of, record_of, version_of}
use Rattle.sheet_rules.proofs.Laws.Longest.{record_at_most_15}
use Rattle.rewriter.proofs.put_unless_long.Goals as goal

pub put_record-requires : goal.put_record-requires
put_record-requires c =
    let to = c.args.to in
    let fits = record_at_most_15 (version_of to.version) (format_of to.format) (carried_of c.args.carried) (record_of c.args.entry) in
    omega (arith, fits, c.requires, c.if-out-le-MAX_BYTES.true)
