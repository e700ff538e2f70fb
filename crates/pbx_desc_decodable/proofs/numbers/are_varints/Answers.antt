use Rattle.std.proofs.Common.{ap, length, arith, List, ℕ}
use Rattle.pbx_desc_decodable.proofs.Packed.{read_none, read_more, read_stops, varint_shorter}
use Rattle.pbx_desc_decodable.proofs.numbers.are_varints.Goals as goal

pub loop-rest-init : goal.loop-rest-init
loop-rest-init c = read_none c.args.bytes.now

pub loop-rest-smaller : goal.loop-rest-smaller
loop-rest-smaller c = varint_shorter c.loop-rest.rest.now _ c.in-Ok.after.now c.in-Ok.ensures

pub loop-rest-preserved : goal.loop-rest-preserved
loop-rest-preserved c = read_more c.args.bytes.now c.loop-rest.rest.now _ c.in-Ok.after.now c.in-Ok.ensures c.loop-rest.invariant

pub returns-in-Err : goal.returns-in-Err
returns-in-Err c =
    read_stops c.args.bytes.now c.loop-rest.rest.now _ (λ e. let none = ap (λ (x : List ℕ). length x) e in omega arith) c.loop-rest.invariant c.in-Err.ensures
