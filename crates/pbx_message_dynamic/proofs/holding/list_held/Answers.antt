use Rattle.std.proofs.Common.{◌≡◌, ◌++◌, ◌∷◌, [], List, sym, ap, ◌∙◌, subst, append-nil, append_assoc, arith}
use Rattle.pbx_message_dynamic.specs.declared.value.Value.{Value}
use Rattle.pbx_message_dynamic.specs.Values.{AreOfKind}
use Rattle.pbx_message_dynamic.proofs.Items.{none_left, held_more, list_of_held, one_of}
use Rattle.pbx_message_dynamic.proofs.holding.list_held.Goals as goal

pub returns-in-None-held_of-clause-err : goal.returns-in-None-held_of-clause-err
returns-in-None-held_of-clause-err c = λ ones.
    let step : c.loop-value.value-iterator.rest.items ≡ c.in-Some.value ∷ c.next.new.self.rest.items = c.in-Some.ensures.steps.0 in
    c.in-None-held_of.ensures (one_of c.args.value_type.now.holder.pool c.args.value_type.now.kind c.loop-value.yielded c.in-Some.value c.next.new.self.rest.items
    (subst (AreOfKind c.args.value_type.now.holder.pool c.args.value_type.now.kind)
    (c.loop-value.invariant.1 ∙ ap (λ (xs : List Value). c.loop-value.yielded ++ xs) step) ones))

pub loop-value-preserved : goal.loop-value-preserved
loop-value-preserved c =
    let step : c.loop-value.value-iterator.rest.items ≡ c.in-Some.value ∷ c.next.new.self.rest.items = c.in-Some.ensures.steps.0 in (
      rw c.in_ok-add-in-Some-held_of.ensures.ok (held_more c.args.value_type.now.holder.pool c.args.value_type.now.kind c.loop-value.yielded c.loop-value.list c.in-Some.value c.in-Some-held_of.held
          c.loop-value.invariant.0 c.in-Some-held_of.ensures),
      c.loop-value.invariant.1 ∙ ap (λ (xs : List Value). c.loop-value.yielded ++ xs) step ∙ sym (append_assoc c.loop-value.yielded (c.in-Some.value ∷ []) c.next.new.self.rest.items),
    )

pub returns-clause-ok : goal.returns-clause-ok
returns-clause-ok c =
    let over : c.loop-value.value-iterator.rest.items ≡ [] = none_left c.loop-value.value-iterator.rest.items (omega (arith, c.in-None.ensures.steps.0, c.loop-value.value-iterator.rest.ok.0)) in
    let all : c.args.values ≡ c.loop-value.yielded = c.loop-value.invariant.1 ∙ ap (λ (xs : List Value). c.loop-value.yielded ++ xs) over ∙ append-nil c.loop-value.yielded in
    rw all (list_of_held c.args.value_type.now.holder.pool c.args.value_type.now.kind c.loop-value.yielded c.loop-value.list c.items_are_of_kinds.ensures.lists c.loop-value.invariant.0)
