use Rattle.std.proofs.Common.{subst, ap, sym, ◌∙◌}
use Rattle.pbx_content.specs.Shape.{declared_of, field_of}
use Rattle.pbx_json_writing.specs.Refusals.{IsKeptFloat}
use Rattle.pbx_json_writing.specs.Kinds.{is_float_number}
use Rattle.pbx_json_writing.proofs.OfKept.{keeps_none, keeps_more, kept_here}
use Rattle.pbx_json_writing.proofs.fields.kept_float.Goals as goal

pub loop-rec-init : goal.loop-rec-init
loop-rec-init c = keeps_none (declared_of c.args.schema.now c.args.type_at)

pub returns-in-Some-clause-found : goal.returns-in-Some-clause-found
returns-in-Some-clause-found c =
    subst (λ rs. IsKeptFloat (declared_of c.args.schema.now c.args.type_at) rs c.in-Some.found.now) c.as_slice-rec-items.ensures
    (kept_here (declared_of c.args.schema.now c.args.type_at) c.as_slice-rec-items.result.now c.loop-rec.rec-index c.rec-item.result c.in-Some.found.now
    c.loop-rec-test.true c.rec-item.is
    (ap (λ n. field_of n (declared_of c.args.schema.now c.args.type_at)) (sym c.number.ensures) ∙ c.in-Some.ensures.found.0)
    c.in-Some.ensures.found.1)

pub loop-rec-preserved : goal.loop-rec-preserved
loop-rec-preserved c =
    keeps_more (declared_of c.args.schema.now c.args.type_at) c.as_slice-rec-items.result.now c.loop-rec.rec-index c.rec-item.result
    c.loop-rec-test.true c.rec-item.is c.loop-rec.invariant
    (ap (is_float_number (declared_of c.args.schema.now c.args.type_at)) (sym c.number.ensures) ∙ c.in_default.ensures.absent)
