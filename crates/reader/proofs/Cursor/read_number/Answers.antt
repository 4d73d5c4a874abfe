-- `reader::Cursor::read_number` meets its contract.
use Rattle.std.proofs.Common.{◌≡◌, refl, sym, ap, ◌∙◌, ◌&&◌, ◌+◌, ◌≤◌, ◌%◌, length, arith}
use lib.Dec.{eqb, ltb}
use Rattle.rules.specs.Numbers.{refused}
use Rattle.reader.specs.Results.{padding_of}
use Rattle.reader.proofs.NumberLaws.{Byte, below_next, first_not_padded, last_there, later_padded, more_there, none_there, starts, three_read, weight_small}
use Rattle.reader.proofs.Cursor.read_number.Goals.{After-judge, else-weight-ne1, then-weight-ne1}
use Rattle.reader.proofs.Cursor.read_number.Goals as goal

pub loop-weight-init : goal.loop-weight-init
loop-weight-init c = record { still = refl; next = omega arith; below = omega arith; reading = starts _ _ _ _ }

pub returns-then-self-next-clause-value : goal.returns-then-self-next-clause-value
returns-then-self-next-clause-value c =
    let l = c.loop-weight in
    let past : length l.self.sheet.now ≤ l.self.at + l.weight-index = omega arith in
    ap refused c.at.ensures ∙ sym (l.invariant.reading ∙ none_there _ _ _ _ _ _ c.loop-weight-test.true past)

-- a number is padded if its last byte is zero, and isn't its first
padded_is : (c : After-judge) → c.if-weight-ne1.judge ≡ (ltb 1 (c.loop-weight.weight-index + 1) && eqb c.from-byte.result 0)
padded_is c =
    let i = c.loop-weight.weight-index in
    let inside = c.loop-weight-test.true in
    elim c.if-weight-ne1.branch [
      | then-weight-ne1 w ↦ w.judge-is ∙ later_padded i _ inside (λ one. w.if-weight-ne1.true (weight_small i inside ∙ one))
      | else-weight-ne1 w ↦ (rw w.if-weight-ne1.false at w.judge-is) ∙ first_not_padded i _ inside (sym (weight_small i inside) ∙ w.if-weight-ne1.false)
    ]

pub returns-then-byte-lt128-clause-value : goal.returns-then-byte-lt128-clause-value
returns-then-byte-lt128-clause-value c =
    let l = c.loop-weight in
    let inside = c.loop-weight-test.true in
    let there : Byte l.self.sheet.now (l.self.at + l.weight-index) c.from-byte.result = record { inside = omega arith; is = cc } in
    let last = last_there (padding_of l.self.format.padding) c.args.limit l.self.sheet.now l.self.at l.weight-index l.value inside there c.if-byte-lt128.true in
    let next : l.next + 1 ≡ l.self.at + (l.weight-index + 1) = omega arith in
    cc (padded_is c, weight_small l.weight-index inside, l.invariant.reading, c.judge.ensures.value, last, next)

pub loop-weight-preserved : goal.loop-weight-preserved
loop-weight-preserved c =
    let l = c.loop-weight in
    let inside = c.loop-weight-test.true in
    let there : Byte l.self.sheet.now (l.self.at + l.weight-index) c.from-byte.result = record { inside = omega arith; is = cc } in
    rw (weight_small l.weight-index inside)
    record {
      still = l.invariant.still;
      next = omega arith;
      below = below_next l.weight-index l.value (c.from-byte.result % 128) inside l.invariant.below (omega arith);
      reading = l.invariant.reading ∙ more_there _ _ _ _ _ _ inside there c.if-byte-lt128.false;
    }

pub returns-clause-value : goal.returns-clause-value
returns-clause-value c = ap refused c.at-2.ensures ∙ sym (c.loop-weight.invariant.reading ∙ three_read _ _ _ _ _ _ _ c.loop-weight-test.false)
