-- `buffer::Buffer::put` meets its contract.
use native.Mathlib.Omega.{arith}
use Rattle.std.proofs.Common.{rules}
use mathlib.Core.Path.{sym, refl, ◌∙◌}
use lib.ListN.{length}
use Prim.Native.Nat.{◌+◌, ◌-◌}
use mathlib.Core.Path.{◌≡◌}
use Rattle.std.proofs.lemmas.Slice.{put_mid-paste}
use Rattle.buffer.proofs.Laws.Put.{overwrite_is_paste}
use Rattle.buffer.proofs.Buffer.put.Goals as goal

pub returns : goal.returns
returns c =
    let buffer = c.args.self.now in
    let bytes = c.args.bytes.now in
    let count : length bytes ≡ buffer.len + length bytes - buffer.len = omega arith in
    record {
      same_reference = refl;
      written =
          put_mid-paste buffer.len (buffer.len + length bytes - buffer.len) buffer.bytes.now c.copy_from_slice.new.self bytes (length bytes) c.copy_from_slice.ensures.after count refl
          ∙ sym (overwrite_is_paste buffer.bytes.now buffer.len bytes (length bytes) refl);
      len = refl;
      long = search rules;
    }
