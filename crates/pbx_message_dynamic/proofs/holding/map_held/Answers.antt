use Rattle.std.proofs.Common.{◌≡◌, ◌++◌, ◌∷◌, [], List, sym, ap, ◌∙◌, rules, subst, append-nil, append_assoc, arith}
use Rattle.pbx_content_codec.specs.declared.key.MapKey.{MapKey}
use Rattle.pbx_message_dynamic.specs.Keys.{IsInKeyOrder}
use Rattle.pbx_message_dynamic.specs.declared.value.Value.{Value}
use Rattle.pbx_message_dynamic.specs.Values.{AreEntriesOfKinds}
use Rattle.pbx_message_dynamic.proofs.Items.{none_left, no_pairs_held, pairs_held_more, map_of_held, one_pair}
use Rattle.pbx_message_dynamic.proofs.holding.map_held.Goals as goal

pub loop-key-init : goal.loop-key-init
loop-key-init c = (
  rw c.new-pairs.ensures (no_pairs_held c.args.value_type.now.holder.pool c.args.key_kind c.args.value_type.now.kind),
  sym c.into_entries-key-items.ensures.same ∙ search rules,
)

pub returns-in-None-pair_held-clause-err : goal.returns-in-None-pair_held-clause-err
returns-in-None-pair_held-clause-err c = λ pairs.
    let step : c.loop-key.key-iterator.rest.items ≡ (c.in-Some.key, c.in-Some.value) ∷ c.next.new.self.rest.items = c.in-Some.ensures.steps.0 in
    let both = one_pair c.args.value_type.now.holder.pool c.args.key_kind c.args.value_type.now.kind c.loop-key.yielded (c.in-Some.key, c.in-Some.value)
    c.next.new.self.rest.items (subst (AreEntriesOfKinds c.args.value_type.now.holder.pool c.args.key_kind c.args.value_type.now.kind)
    (c.loop-key.invariant.1 ∙ ap (λ (xs : List (MapKey × Value)). c.loop-key.yielded ++ xs) step) pairs) in
    c.in-None-pair_held.ensures both.0 both.1

pub loop-key-preserved : goal.loop-key-preserved
loop-key-preserved c =
    let step : c.loop-key.key-iterator.rest.items ≡ (c.in-Some.key, c.in-Some.value) ∷ c.next.new.self.rest.items = c.in-Some.ensures.steps.0 in (
      rw c.in_ok-add-in-Some-pair_held.ensures.ok (pairs_held_more c.args.value_type.now.holder.pool c.args.key_kind c.args.value_type.now.kind c.loop-key.yielded c.loop-key.pairs
          (c.in-Some.key, c.in-Some.value) c.in-Some-pair_held.pair c.loop-key.invariant.0 c.in-Some-pair_held.ensures),
      c.loop-key.invariant.1 ∙ ap (λ (xs : List (MapKey × Value)). c.loop-key.yielded ++ xs) step
          ∙ sym (append_assoc c.loop-key.yielded ((c.in-Some.key, c.in-Some.value) ∷ []) c.next.new.self.rest.items),
    )

pub returns-clause-ok : goal.returns-clause-ok
returns-clause-ok c =
    let over : c.loop-key.key-iterator.rest.items ≡ [] = none_left c.loop-key.key-iterator.rest.items (omega (arith, c.in-None.ensures.steps.0, c.loop-key.key-iterator.rest.ok.0)) in
    let all : c.args.map ≡ c.loop-key.yielded = c.loop-key.invariant.1 ∙ ap (λ (xs : List (MapKey × Value)). c.loop-key.yielded ++ xs) over ∙ append-nil c.loop-key.yielded in
    rw all (map_of_held c.args.value_type.now.holder.pool c.args.key_kind c.args.value_type.now.kind c.loop-key.yielded c.loop-key.pairs c.items_are_of_kinds.ensures.maps
    (subst (λ (xs : List (MapKey × Value)). IsInKeyOrder xs) all c.into_entries-key-items.ensures.order) c.loop-key.invariant.0)
