-- `rewriter::open_sheet` meets its contract.
use mathlib.Core.Path.{◌≡◌, sym, ap, ◌∙◌}
use Rattle.std.proofs.lemmas.Result.{err_from_is_err_and}
use Rattle.board.specs.Kind.{first}
use Rattle.board.specs.Opening.{OpeningAnswer}
use Rattle.rules.specs.Hall.{Hall, Limits}
use Rattle.rules.specs.Numbers.{refused}
use Rattle.rules.specs.Steps.{Answer}
use Rattle.rules.specs.Table.{max_words}
use Rattle.limits.specs.Room.{limits_of}
use Rattle.reader.specs.Results.{edition_of, header_of, header_result}
use Rattle.reader.specs.declared.Edition.{Edition}
use Rattle.reader.proofs.Laws.Editions.{edition_limits}
use Rattle.sheet_rules.specs.Sheet.{opening_number}
use Rattle.rewriter.proofs.SheetLaws.{opening_number_lem, sheet_opens, sheet_refused}
use Rattle.rewriter.proofs.open_sheet.Goals as goal

-- the number of the opening, in the rules' terms
opening_is : (edition : Edition) (hall : Hall) {answer : Answer} → OpeningAnswer first (limits_of edition.format.limits) hall max_words answer
    → opening_number (edition_of edition).limits hall ≡ answer.number
opening_is edition hall said = ap (λ (limits : Limits). opening_number limits hall) (edition_limits edition) ∙ opening_number_lem (limits_of edition.format.limits) hall said

pub returns-in_err-opening : goal.returns-in_err-opening
returns-in_err-opening c =
    let a = c.args in
    let p = err_from_is_err_and c.from_residual-in_err-opening.result c.from_residual-in_err-opening.ensures.1 in
    let read = sym c.begin_sheet.ensures ∙ ap header_result c.in_ok-header.was in
    let opening = opening_is a.edition (header_of c.in_ok-header.header) c.in_err-opening.ensures in
    rw p.1 (ap refused p.2 ∙ sheet_refused (edition_of a.edition) a.sheet.now read c.in_err-opening.field-0.0 opening)

pub returns : goal.returns
returns c =
    let a = c.args in
    let read = sym c.begin_sheet.ensures ∙ ap header_result c.in_ok-header.was in
    let opening = opening_is a.edition (header_of c.in_ok-header.header) c.in_ok-opening.ensures in
    sheet_opens (edition_of a.edition) a.sheet.now read opening
