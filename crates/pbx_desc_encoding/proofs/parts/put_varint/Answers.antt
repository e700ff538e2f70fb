use Rattle.std.proofs.Common.{◌<◌, ◌^◌, arith, append_assoc}
use Rattle.pbx_wire.proofs.Varints.{varint_large}
use Rattle.pbx_desc_encoding.proofs.parts.put_varint.Goals as goal

pub loop-rest-preserved : goal.loop-rest-preserved
loop-rest-preserved c =
    let fits : c.loop-rest.rest < 2 ^ 64 = omega arith in
    let large = varint_large c.loop-rest.rest c.loop-rest-test.true fits in
    rw (c.in_ok-push.ensures.items, append_assoc, ← large) c.loop-rest.invariant
