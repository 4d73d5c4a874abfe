-- `sheet::begin` meets its contract.
use native.Mathlib.Omega.{arith}
use mathlib.Core.List.{List}
use mathlib.Core.Path.{◌≡◌, refl, sym, ap, ◌∙◌}
use Prim.Native.Nat.{ℕ}
use Rattle.std.specs.Prelude.{Ok}
use Rattle.std.proofs.lemmas.Result.{err_from_is_err_and}
use Rattle.rules.specs.Hall.{Hall}
use Rattle.rules.specs.Steps.{Result}
use Rattle.rules.specs.Table.{open_table}
use Rattle.limits.specs.Room.{limits_of}
use Rattle.reader.specs.Results.{edition_of, header_of, header_result}
use Rattle.reader.specs.declared.Edition.{Edition}
use Rattle.reader.proofs.Laws.Editions.{edition_lawful, edition_limits}
use Rattle.sheet_rules.specs.Sheet.{lent_table, unopened}
use Rattle.sheet_rules.proofs.Laws.Sheet.{begun_header, not-begun, reading-opens}
use Rattle.sheet.proofs.StartLaws.{opening_is, opening_refused, reads_by}
use Rattle.sheet.proofs.begin.Goals as goal

-- what opening does to the table that was lent, in the rules' terms
opening : (edition : Edition) (hall : Hall) {words : List ℕ} → words ≡ lent_table
    → open_table (limits_of edition.format.limits) hall words ≡ open_table (edition_of edition).limits hall lent_table
opening edition hall lent = λ i. open_table (sym (edition_limits edition) i) hall (lent i)

pub returns-in_err-header : goal.returns-in_err-header
returns-in_err-header c =
    let p = err_from_is_err_and c.from_residual.result c.from_residual.ensures.1 in
    let edition = edition_of c.args.edition in
    let read = sym c.begin_sheet.ensures ∙ ap header_result c.in_err-header.was in
    rw (p.1, p.2) (reading-opens edition c.args.sheet.now (not-begun edition c.args.sheet.now read), c.requires)

pub returns-in_err-open : goal.returns-in_err-open
returns-in_err-open c =
    let p = err_from_is_err_and c.from_residual-in_err-open.result c.from_residual-in_err-open.ensures.1 in
    let read = sym c.begin_sheet.ensures ∙ ap header_result c.in_ok-header.was in
    let opened = c.in_err-open.ensures.words ∙ opening c.args.edition (header_of c.in_ok-header.header) c.requires in
    let ended = opening_refused (edition_of c.args.edition) c.args.sheet.now read c.in_err-open.field-0.0 opened in
    rw p.1 (ended.0 ∙ ap unopened (sym p.2), ended.1)

pub returns : goal.returns
returns c =
    let edition = edition_of c.args.edition in
    let read = sym c.begin_sheet.ensures ∙ ap header_result c.in_ok-header.was in
    let opened = c.in_ok-open.ensures.words ∙ opening c.args.edition (header_of c.in_ok-header.header) c.requires in
    record {
      hall = header_of c.in_ok-header.header;
      accepted = opening_is edition c.args.sheet.now read (Ok c.in_ok-open.field-0) opened;
      reads = reads_by edition c.args.sheet.now read (Ok c.in_ok-open.field-0) opened;
      table = ap (λ (done : Result (List ℕ)). done.after) opened;
      checked = c.check.ensures;
      first_record = refl;
      none_counted = refl;
      numbered = omega (arith, ((edition_lawful c.args.edition (omega arith)).header_moves c.args.sheet.now 0 (header_of c.in_ok-header.header) c.in_ok-header.next (begun_header edition c.args.sheet.now read)).past);
    }
