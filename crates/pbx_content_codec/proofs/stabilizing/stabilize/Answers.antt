use Rattle.std.proofs.Common.{inl, refl, rules, subst, sym, ◌∙◌}
use Rattle.std.proofs.lemmas.List.{map-id}
use Rattle.std.proofs.lemmas.Iterator.Adapters.{YieldsList-from_vec}
use Rattle.std.proofs.lemmas.Iterator.Consumers.{YieldsList-so_far, YieldsList-turn, YieldsList-end}
use Rattle.pbx_content.specs.Shape.{fields_of}
use Rattle.pbx_content_codec.specs.View.{content_of}
use Rattle.pbx_content_codec.proofs.Stable.{IsStabilizing, stabilizing_none, stabilizing_more, stabilizing_all}
use Rattle.pbx_content_codec.proofs.stabilizing.stabilize.Goals as goal

pub loop-field-init : goal.loop-field-init
loop-field-init c = stabilizing_none c.args.schema.now (fields_of c.args.schema.now c.args.type_at) (content_of c.take_fields-field-items.new.contents)

pub loop-field-preserved : goal.loop-field-preserved
loop-field-preserved c =
    let all = YieldsList-from_vec c.take_fields-field-items.result.items (search rules) (search rules) in
    stabilizing_more c.args.schema.now (fields_of c.args.schema.now c.args.type_at) (content_of c.take_fields-field-items.new.contents)
    (content_of c.loop-field.contents) (content_of c.put_stabilized.new.into) c.take_fields-field-items.result.items c.loop-field.yielded c.in-Some.field
    c.take_fields-field-items.ensures.order
    (YieldsList-so_far all c.loop-field.yielded _ c.loop-field.yielded_by)
    (YieldsList-turn all c.loop-field.yielded _ c.loop-field.yielded_by _ c.next.new.self c.in-Some.field c.in-Some.is c.next.ensures.steps)
    c.loop-field.invariant c.in_ok-put_stabilized.ensures

pub returns : goal.returns
returns c =
    let all = YieldsList-from_vec c.take_fields-field-items.result.items (search rules) (search rules) in
    let done = YieldsList-end all c.loop-field.yielded _ c.loop-field.yielded_by _ c.next.new.self c.in-None.is c.next.ensures.steps in
    stabilizing_all c.args.schema.now (fields_of c.args.schema.now c.args.type_at) (content_of c.args.contents.now)
    (content_of c.take_fields-field-items.new.contents) (content_of c.loop-field.contents) c.take_fields-field-items.result.items
    c.requires (inl (c.args.type_at, refl))
    c.take_fields-field-items.ensures.taken c.take_fields-field-items.ensures.rest
    (subst (λ xs. IsStabilizing c.args.schema.now (fields_of c.args.schema.now c.args.type_at) (content_of c.take_fields-field-items.new.contents)
    (content_of c.loop-field.contents) xs) (sym (map-id c.loop-field.yielded) ∙ done.0) c.loop-field.invariant)
