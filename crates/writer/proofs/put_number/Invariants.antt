-- The loop of `writer::put_number`: what is left fits, and once it is put, the number is.
use Rattle.buffer.specs.Put.{Fits, Put}
use Rattle.buffer.specs.declared.Buffer.{Buffer}
use Rattle.sheet_rules.specs.Edition1.{encode_number}
use Rattle.writer.proofs.put_number.Given as goal

abbrev pub invariant-loop-rest : goal.invariant-loop-rest
invariant-loop-rest l = record {
  fits : Fits l.out (encode_number l.rest);
  goes_on : (after : Buffer) → Put l.out after (encode_number l.rest) → Put l.fn.out after (encode_number l.fn.value);
}

abbrev pub decreases-loop-rest : goal.decreases-loop-rest
decreases-loop-rest l = l.rest
