use Rattle.std.proofs.Common.{map, arith, refl, inr}
use Rattle.std.specs.Int.{w32}
use Rattle.std.proofs.lemmas.List.{map-append}
use Rattle.pbx_content.specs.Shape.{as_four}
use Rattle.pbx_content_codec.specs.View.{val_of}
use Rattle.pbx_content_codec.proofs.Packs.{fours_begin, packs_next, packs_stop, packs_end, front_shorter, front_missing, nil_of}
use Rattle.pbx_content_codec.proofs.values.push_fours.Goals as goal

pub loop-rest-init : goal.loop-rest-init
loop-rest-init c = fours_begin c.args.kind (map val_of c.args.many) c.args.bytes.now c.requires

pub loop-rest-smaller : goal.loop-rest-smaller
loop-rest-smaller c = front_shorter w32 4 c.loop-rest.rest.now c.in-Some.value c.in-Some.after.now (omega arith) (omega arith) c.in-Some.ensures

pub loop-rest-preserved : goal.loop-rest-preserved
loop-rest-preserved c =
    rw (c.in_ok-add-in-Some.ensures.ok, map-append, c.from_four.ensures)
    (packs_next c.args.kind w32 4 (map val_of c.args.many) c.args.bytes.now
    (map val_of c.loop-rest.many) c.loop-rest.rest.now c.in-Some.value c.in-Some.after.now (omega arith) (omega arith)
    c.in-Some.ensures c.loop-rest.invariant)

pub returns-in-None-clause-fault : goal.returns-in-None-clause-fault
returns-in-None-clause-fault c =
    inr (packs_stop c.args.kind w32 4 as_four c.args.at (map val_of c.args.many) c.args.bytes.now
    (map val_of c.loop-rest.many) c.loop-rest.rest.now c.requires refl (λ e. absurd cc) (omega arith)
    (front_missing w32 4 c.loop-rest.rest.now c.in-None.ensures) c.loop-rest.invariant)

pub returns-clause-found : goal.returns-clause-found
returns-clause-found c =
    packs_end c.args.kind w32 4 (map val_of c.args.many) c.args.bytes.now (map val_of c.loop-rest.many) c.loop-rest.rest.now (nil_of c.loop-rest.rest.now
    (omega arith)) c.loop-rest.invariant
