use Rattle.std.proofs.Common.{ap, length, map, arith, List, ℕ}
use Rattle.std.proofs.lemmas.List.{map-append}
use Rattle.pbx_content_codec.specs.View.{val_of}
use Rattle.pbx_content_codec.proofs.Packs.{read_none, read_all, read_more, read_stops, varint_shorter, nil_of}
use Rattle.pbx_content_codec.proofs.values.push_varints.Goals as goal

pub loop-rest-init : goal.loop-rest-init
loop-rest-init c = read_none c.args.kind (map val_of c.args.many) c.args.bytes.now

pub loop-rest-smaller : goal.loop-rest-smaller
loop-rest-smaller c = varint_shorter c.args.at c.loop-rest.rest.now c.in-Ok.value c.in-Ok.after.now c.in-Ok.ensures

pub loop-rest-preserved : goal.loop-rest-preserved
loop-rest-preserved c =
    rw (c.in_ok-add-in-Ok.ensures.ok, map-append, c.from_varint.ensures)
    (read_more c.args.kind (map val_of c.args.many) c.args.bytes.now
    (map val_of c.loop-rest.many) c.loop-rest.rest.now c.args.at c.in-Ok.value c.in-Ok.after.now c.in-Ok.ensures c.loop-rest.invariant)

pub returns-in-Err-clause-fault : goal.returns-in-Err-clause-fault
returns-in-Err-clause-fault c =
    read_stops c.in-Err.fault c.args.kind (map val_of c.args.many) c.args.bytes.now (map val_of c.loop-rest.many) c.loop-rest.rest.now c.args.at c.requires
    (λ e. let none = ap (λ (x : List ℕ). length x) e in omega arith) c.loop-rest.invariant c.in-Err.ensures

pub returns-clause-found : goal.returns-clause-found
returns-clause-found c =
    read_all c.args.kind (map val_of c.args.many) c.args.bytes.now (map val_of c.loop-rest.many) c.loop-rest.rest.now c.requires
    (nil_of c.loop-rest.rest.now (omega arith)) c.loop-rest.invariant
