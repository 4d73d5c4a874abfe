-- `writer::put_number` meets its contract.
use Rattle.std.proofs.Common.{arith}
use Rattle.buffer.proofs.Laws.Put.{put_on}
use Rattle.writer.proofs.EncodeLaws.{encode_last, encode_more}
use Rattle.writer.proofs.put_number.Goals as goal

pub put_byte-requires : goal.put_byte-requires
put_byte-requires c =
    let l = c.loop-rest in
    let fits = rw (encode_more l.rest c.loop-rest-test.true (omega arith)) at l.invariant.fits in
    omega (arith, fits)

pub loop-rest-preserved : goal.loop-rest-preserved
loop-rest-preserved c =
    let l = c.loop-rest in
    let more = encode_more l.rest c.loop-rest-test.true (omega arith) in
    let fits = rw more at l.invariant.fits in
    record {
      fits = omega (arith, fits);
      goes_on = λ after put. l.invariant.goes_on after (rw more (put_on c.put_byte.ensures put));
    }

pub put_byte-requires-2 : goal.put_byte-requires-2
put_byte-requires-2 c =
    let l = c.loop-rest in
    let fits = rw (encode_last l.rest c.loop-rest-test.false) at l.invariant.fits in
    omega (arith, fits)

pub returns : goal.returns
returns c = c.loop-rest.invariant.goes_on _ (rw (encode_last c.loop-rest.rest c.loop-rest-test.false) c.put_byte-2.ensures)
