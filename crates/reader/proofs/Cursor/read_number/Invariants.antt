-- The loop of `reader::Cursor::read_number`.
use Rattle.std.proofs.Common.{◌≡◌, ◌+◌, ◌-◌, ◌<◌, drop}
use Rattle.rules.specs.Numbers.{decode_number, groups_in}
use Rattle.reader.specs.Results.{padding_of}
use Rattle.reader.proofs.NumberLaws.{read_on, weight}
use Rattle.reader.proofs.Cursor.read_number.Given as goal

abbrev pub invariant-loop-weight : goal.invariant-loop-weight
invariant-loop-weight l =
    let first = l.fn.self in
    let i = l.weight-index in
    record {
      still : l.self ≡ first;
      next : l.next ≡ l.self.at + i;
      below : l.value < weight i;
      reading : decode_number (padding_of first.format.padding) l.limit first.sheet.now first.at
          ≡ read_on (padding_of l.self.format.padding) l.limit l.self.at i l.value (weight i) (groups_in (3 - i) (drop (l.self.at + i) l.self.sheet.now));
    }
