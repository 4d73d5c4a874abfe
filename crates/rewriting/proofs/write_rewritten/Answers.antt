use Rattle.std.proofs.Common.{rules, ℕ, ◌≤◌, length, List, replicate}
use Rattle.reader.specs.Results.{edition_of}
use Rattle.rewriter.proofs.Whole.{no_room_never}
use Rattle.rewriting.proofs.write_rewritten.Goals as goal

-- there is room
pub returns-in-None-clause-handed : goal.returns-in-None-clause-handed
returns-in-None-clause-handed g c =
    let out : List ℕ = replicate 65536 0 in
    let large : 65536 ≤ length out = search rules in
    absurd (no_room_never (edition_of c.args.from) (edition_of c.args.to) c.args.sheet.now out large c.rewrite.new.out c.in-None.ensures)
