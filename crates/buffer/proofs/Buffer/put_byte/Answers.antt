-- `buffer::Buffer::put_byte` meets its contract.
use native.Mathlib.Omega.{arith}
use mathlib.Core.Path.{refl}
use Rattle.std.proofs.lemmas.List.{length-set}
use Rattle.buffer.proofs.Laws.Put.{overwrite_one}
use Rattle.buffer.proofs.Buffer.put_byte.Goals as goal

pub returns : goal.returns
returns c = record { same_reference = refl; written = overwrite_one c.args.self.now.bytes.now c.args.self.now.len c.args.byte (omega (arith, c.requires)); len = refl; long = length-set c.args.self.now.bytes.now c.args.self.now.len c.args.byte }
