-- `printing::print` meets its contract.
use Rattle.std.proofs.Common.{arith, rules, ◌≡◌, ℕ, ◌+◌, take, length, subst, ◌∙◌}
use Rattle.std.proofs.lemmas.List.{take_all}
use Rattle.std.proofs.lemmas.Result.{on_ok_weaker}
use Rattle.std.specs.Prelude.{IsNone}
use Rattle.std.specs.Io.KnownBytes.{Appends}
use Rattle.rules.specs.Bytes.{words_of_bytes}
use Rattle.buffer.proofs.Laws.Put.{put_first}
use Rattle.reader.specs.Results.{edition_of}
use Rattle.sheet.specs.Batch.{RoomFor, record_room, remaining_output}
use Rattle.sheet_rules.proofs.Laws.Sheet.{lent_bytes}
use Rattle.sheet_rules.specs.Lines.{printed}
use Rattle.printing.specs.Output.{Reached}
use Rattle.printing.proofs.Laws.Output.{finished_bytes, reached_batch, reached_fits, reached_start}
use Rattle.printing.proofs.Taken.{front_of, next_front, taken_first, taken_next, taken_ok, taken_whole}
use Rattle.printing.proofs.print.Goals as goal

pub start-state-requires : goal.start-state-requires
start-state-requires g c =
    let room : RoomFor record_room c.new-out.result = search rules in
    (lent_bytes, room)

pub loop-state-init : goal.loop-state-init
loop-state-init g c =
    let start = c.start-state in
    let started = start.ensures.started in
    let edition = edition_of c.args.edition in
    let sheet = c.args.sheet.now in
    let empty = c.new-out.ensures.len in
    let len = start.new.out.len in
    let long : length started.bytes ≡ len = omega (arith, started.put.len, empty) in
    let table = words_of_bytes start.new.table in
    let front = front_of started.bytes (remaining_output edition sheet start.result table) (printed edition sheet) len started.output long in (
      search rules,
      search rules,
      started.numbered,
      omega (arith, started.some, long),
      subst (λ (n : ℕ). Reached edition sheet n start.result table) long (reached_start started),
      start.ensures.checked,
      taken_first c.write_all-taken.result _ _ c.written.result.now _ c.write_all-taken.ensures.all c.write_all-taken.ensures.front (c.written.ensures ∙ put_first started.put empty ∙ front),
    )

pub returns-else-is_some-clause-all : goal.returns-else-is_some-clause-all
returns-else-is_some-clause-all g c =
    let inv = c.loop-state.invariant in
    let whole = printed (edition_of c.args.edition) c.args.sheet.now in
    let before = g.W.Write.contents c.args.to.now in
    let after = g.W.Write.contents c.loop-state.to in
    let finished : IsNone c.loop-state.state = search rules in
    let bytes = finished_bytes inv.4 finished in
    let all : take c.loop-state.bytes whole ≡ whole = take_all c.loop-state.bytes whole (omega (arith, bytes)) in
    on_ok_weaker c.loop-state.taken (subst (Appends before after) all) (taken_ok c.loop-state.taken before after _ inv.6)

pub overflow_add-bytes : goal.overflow_add-bytes
overflow_add-bytes g c =
    let batch = c.fill-state.ensures.batch in
    let reached = reached_batch c.loop-state.invariant.4 batch in
    record { fits = omega (arith, reached_fits reached, batch.partial.put.len, c.clear.ensures.len) }

pub loop-state-preserved : goal.loop-state-preserved
loop-state-preserved g c =
    let inv = c.loop-state.invariant in
    let fill = c.fill-state in
    let batch = fill.ensures.batch in
    let part = batch.partial.bytes in
    let edition = edition_of c.args.edition in
    let sheet = c.args.sheet.now in
    let whole = printed edition sheet in
    let empty = c.clear.ensures.len in
    let len = fill.new.out.len in
    let long : length part ≡ len = omega (arith, batch.partial.put.len, empty) in
    let table = words_of_bytes fill.new.table in
    let joined = next_front c.loop-state.bytes len part (remaining_output edition sheet fill.result table) whole (batch.partial.emitted.output ∙ inv.4.output) long in
    let wrote = c.write_all-taken-in-loop-state in
    let was : Appends (g.W.Write.contents c.args.to.now) (g.W.Write.contents c.loop-state.to) (take c.loop-state.bytes whole) = taken_whole c.loop-state.taken _ _ _ c.loop-state-test.ensures.value inv.6 in
    let written = c.written-in-loop-state in
    let is : written.result.now ≡ part = written.ensures ∙ put_first batch.partial.put empty in (
      search rules,
      search rules,
      batch.progress.numbered,
      omega arith,
      subst (λ (n : ℕ). Reached edition sheet (c.loop-state.bytes + n) fill.result table) long (reached_batch inv.4 batch),
      fill.ensures.checked,
      taken_next wrote.result _ _ _ _ part _ was (rw is at wrote.ensures.all) (rw is at wrote.ensures.front) joined,
    )
