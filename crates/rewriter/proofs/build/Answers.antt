-- `rewriter::build` meets its contract.
use native.Mathlib.Omega.{arith}
use mathlib.Core.Path.{sym, ap, ◌∙◌}
use Rattle.std.proofs.lemmas.Result.{err_from_is_err_and}
use Rattle.reader.specs.Results.{edition_of, format_of, header_of, header_result, version_of}
use Rattle.rules.specs.Numbers.{Refusal}
use Rattle.sheet_rules.specs.Rewriting.{refused_sheet_line}
use Rattle.sheet_rules.proofs.Laws.Longest.{header_at_most_15}
use Rattle.rewriter.specs.Build.{records_from}
use Rattle.rewriter.proofs.SheetLaws.{writes_later_refusal, writes_opened, writes_refusal, writes_sheet, writes_too_long}
use Rattle.rewriter.proofs.build.Goals as goal

pub returns-in_err-header : goal.returns-in_err-header
returns-in_err-header c =
    let a = c.args in
    let p = err_from_is_err_and c.from_residual.result c.from_residual.ensures.1 in
    let found = sym (ap header_result c.in_err-header.was) ∙ c.open_sheet.ensures in
    rw (p.1, p.2) (writes_refusal (edition_of a.from) (edition_of a.to) a.sheet.now found)

pub put_header-requires : goal.put_header-requires
put_header-requires c =
    let to = c.args.to in
    omega (arith, c.requires, header_at_most_15 (version_of to.version) (format_of to.format) (header_of c.in_ok-header.header))

pub returns-in_err-put_records : goal.returns-in_err-put_records
returns-in_err-put_records c =
    let a = c.args in
    let p = err_from_is_err_and c.from_residual-in_err-put_records.result c.from_residual-in_err-put_records.ensures.1 in
    let found = sym (ap header_result c.in_ok-header.was) ∙ c.open_sheet.ensures in
    let records = records_from (edition_of a.from) a.sheet.now c.in_ok-header.first in
    rw (p.1, p.2)
    (writes_later_refusal (edition_of a.to) (header_of c.in_ok-header.header) records c.in_err-put_records.ensures
    ∙ writes_opened (edition_of a.from) (edition_of a.to) a.sheet.now found)

-- the sheet is too long
pub returns-then-out-gt-MAX_BYTES : goal.returns-then-out-gt-MAX_BYTES
returns-then-out-gt-MAX_BYTES c =
    let a = c.args in
    let found = sym (ap header_result c.in_ok-header.was) ∙ c.open_sheet.ensures in
    let records = records_from (edition_of a.from) a.sheet.now c.in_ok-header.first in
    ap (λ (reason : Refusal). refused_sheet_line reason.number reason.offset) c.from.ensures
    ∙ writes_too_long (edition_of a.to) (header_of c.in_ok-header.header) records c.requires.0 c.put_header.ensures c.in_ok-put_records.ensures c.if-out-gt-MAX_BYTES.true
    ∙ writes_opened (edition_of a.from) (edition_of a.to) a.sheet.now found

pub returns : goal.returns
returns c =
    let a = c.args in
    let found = sym (ap header_result c.in_ok-header.was) ∙ c.open_sheet.ensures in
    let records = records_from (edition_of a.from) a.sheet.now c.in_ok-header.first in
    writes_sheet (edition_of a.to) (header_of c.in_ok-header.header) records c.requires.0 c.put_header.ensures c.in_ok-put_records.ensures c.if-out-gt-MAX_BYTES.false
    ∙ writes_opened (edition_of a.from) (edition_of a.to) a.sheet.now found
