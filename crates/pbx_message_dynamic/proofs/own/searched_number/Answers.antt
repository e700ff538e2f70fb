use Rattle.std.proofs.Common.{◌≡◌, ◌++◌, ◌∷◌, [], List, ap, sym, ◌∙◌, append-nil, append_assoc}
use Rattle.pbx_desc_records.specs.declared.field.FieldDescriptorProto.{FieldDescriptorProto}
use Rattle.pbx_link_meaning.specs.Descriptors.{Described}
use Rattle.pbx_message_laws.specs.Pools.{IsPooled}
use Rattle.pbx_message_dynamic.proofs.Named.{other_more, named_found, named_none}
use Rattle.pbx_message_dynamic.proofs.own.searched_number.Goals as goal

pub loop-field-init : goal.loop-field-init
loop-field-init c = (tt, sym c.fields-field-items.ensures ∙ sym c.into_iter-field-iterator.ensures.into_iter_gives)

pub returns-then-eq : goal.returns-then-eq
returns-then-eq c =
    let here = c.parent_pool-pool.ensures in
    let of : IsPooled c.args.desc.now = record { pooled = rw here.pool at here.pooled; within = rw here.pool at here.of_it } in
    let step : c.loop-field.field-iterator ≡ c.in-Some.field ∷ c.next.new.self = c.in-Some.ensures.steps in
    rw c.number.ensures (named_found c.args.desc.now c.args.name.now c.loop-field.yielded c.next.new.self c.in-Some.field c.messages_are_placed.ensures.placed
    c.fields_of_messages.ensures.fields of
    (c.loop-field.invariant.1 ∙ ap (λ (xs : List (Described FieldDescriptorProto)). c.loop-field.yielded ++ xs) step) c.loop-field.invariant.0
    (rw c.name.ensures at (sym c.eq.ensures ∙ c.if-eq.true)))

pub loop-field-preserved : goal.loop-field-preserved
loop-field-preserved c =
    let step : c.loop-field.field-iterator ≡ c.in-Some.field ∷ c.next.new.self = c.in-Some.ensures.steps in (
      other_more c.args.name.now c.loop-field.yielded c.in-Some.field c.loop-field.invariant.0 (rw c.name.ensures at (sym c.eq.ensures ∙ c.if-eq.false)),
      c.loop-field.invariant.1 ∙ ap (λ (xs : List (Described FieldDescriptorProto)). c.loop-field.yielded ++ xs) step
          ∙ sym (append_assoc c.loop-field.yielded (c.in-Some.field ∷ []) c.next.new.self),
    )

pub returns : goal.returns
returns c =
    let here = c.parent_pool-pool.ensures in
    let of : IsPooled c.args.desc.now = record { pooled = rw here.pool at here.pooled; within = rw here.pool at here.of_it } in
    let over : c.loop-field.field-iterator ≡ [] = c.in-None.ensures.steps.0 in
    named_none c.args.desc.now c.args.name.now c.loop-field.yielded c.messages_are_placed.ensures.placed of
    (c.loop-field.invariant.1 ∙ ap (λ (xs : List (Described FieldDescriptorProto)). c.loop-field.yielded ++ xs) over ∙ append-nil c.loop-field.yielded)
    c.loop-field.invariant.0
