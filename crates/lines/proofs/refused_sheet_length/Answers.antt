-- `lines::refused_sheet_length` meets its contract.
use native.Mathlib.Omega.{arith}
use lib.ListN.{length-append}
use Rattle.sheet_rules.specs.Rewriting.{refused_sheet_line}
use Rattle.sheet_rules.proofs.Laws.Longest.{decimal-length}
use Rattle.lines.proofs.refused_sheet_length.Goals as goal

pub overflow_add-result : goal.overflow_add-result
overflow_add-result c = record { fits = omega (arith, c.decimal_length.ensures, decimal-length c.args.number) }

pub overflow_add-result-2 : goal.overflow_add-result-2
overflow_add-result-2 c =
    let a = c.args in
    record { fits = omega (arith, c.decimal_length.ensures, c.decimal_length-2.ensures, decimal-length a.number, decimal-length a.offset) }

pub overflow_add-result-3 : goal.overflow_add-result-3
overflow_add-result-3 c =
    let a = c.args in
    record { fits = omega (arith, c.decimal_length.ensures, c.decimal_length-2.ensures, decimal-length a.number, decimal-length a.offset) }

pub returns : goal.returns
unfolding refused_sheet_line
returns c = simp length-append (omega (arith, c.decimal_length.ensures, c.decimal_length-2.ensures))
