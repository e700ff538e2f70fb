use Rattle.std.proofs.Common.{◌≡◌, ℕ, List, map, option_map, None, refl, sym, ap, ◌∙◌, subst}
use Rattle.std.proofs.lemmas.List.{take_all}
use Rattle.pbx_content.specs.declared.shape.Kind.TheVariants as kind
use Rattle.pbx_content.specs.Content.{Content, Key, Val, number, truth, text, text_key, message, vals_of, pairs_of}
use Rattle.pbx_content.specs.Sound.{AreElements, ArePairs}
use Rattle.pbx_content_codec.specs.declared.contents.Held as held
use Rattle.pbx_content_codec.specs.View.{content_of, val_of, pair_of}
use Rattle.pbx_content_codec.proofs.Tree.{val_of_message}
use Rattle.pbx_types.specs.Texts.{IsInOrder}
use Rattle.pbx_desc_shapes.specs.TypesShape.{types_shape}
use Rattle.pbx_types.specs.Building.{Holds}
use Rattle.pbx_types.proofs.Built.{one_made, puts_some, puts_pairs}
use Rattle.pbx_types.proofs.Told.{values_more, are_more}
use Rattle.pbx_types.proofs.Types.{struct_type, list_type}
use Rattle.pbx_types.specs.declared.tree.ListValue.{out-ListValue}
use Rattle.pbx_types.specs.declared.tree.Struct.{out-Struct}
use Rattle.pbx_types.specs.declared.tree.Value.{Value, out-Value}
use Rattle.pbx_types.specs.Content.{named, struct_content, list_content, value_content}
use Rattle.pbx_types.specs.Layers.{content_under, value_message, value_pair}
use Rattle.pbx_types.proofs.Pairs.{AreGood, good_more, named_from, pairs_more}
use Rattle.pbx_types.proofs.Putting.{list_put, struct_put}
use Rattle.pbx_types.proofs.Trees.{pairs_map, values_map, pair_same, struct_content_at, list_content_at, value_made}
use Rattle.pbx_types.proofs.encoding.+contents.Goals as goal

pub struct_contents-returns : goal.struct_contents-returns
struct_contents-returns t c =
    let r = c.args.record.now in
    let o = out-Struct r in
    let same = sym (pairs_map o.fields) in
    let sound = subst (λ (ps : List (Key × Val)). ArePairs types_shape kind.String (kind.Message 6) (pairs_of ps)) same c.in_ok-named_values.ensures.sound in
    let puts = puts_pairs kind.String (kind.Message 6) c.in_ok-named_values.field-0 (map named (map content_under o.fields)) (c.in_ok-named_values.ensures.pairs ∙ same) sound
    (c.in_ok-put_pairs.ensures kind.String (kind.Message 6)) in
    subst (λ (x : Content). Holds 4 x c.put_pairs.new.contents) (sym (struct_content_at r))
    (one_made 4 _ o.unknown c.put_pairs.new.contents struct_type (refl, tt) refl refl c.in_ok-contents.ensures.content puts c.in_ok-contents.ensures.fit)

pub list_contents-returns : goal.list_contents-returns
list_contents-returns t c =
    let r = c.args.record.now in
    let o = out-ListValue r in
    let same = sym (values_map o.values) in
    let sound = subst (λ (vs : List Val). AreElements types_shape (kind.Message 6) (vals_of vs)) same c.in_ok-element_values.ensures.sound in
    let puts = puts_some (kind.Message 6) c.in_ok-element_values.field-0 (map message (map value_content o.values)) (c.in_ok-element_values.ensures.values ∙ same) sound c.in_ok-put_list.ensures in
    subst (λ (x : Content). Holds 7 x c.put_list.new.contents) (sym (list_content_at r))
    (one_made 7 _ o.unknown c.put_list.new.contents list_type (refl, tt) refl refl c.in_ok-contents.ensures.content puts c.in_ok-contents.ensures.fit)

pub value_contents-returns-in-Some : goal.value_contents-returns-in-Some
value_contents-returns-in-Some t c =
    let o = out-Value c.args.value.now in
    let contents = c.in_ok-list_contents.field-0 in
    let holds = c.in_ok-list_contents.ensures in
    value_made c.args.value.now c.in_ok-contents.contents c.put.new.self c.in_ok-contents.ensures.content c.in_ok-contents.ensures.fit
    (rw c.in-Some.is
    (list_put (option_map number o.null_value) (option_map text o.string_value) (option_map truth o.bool_value) (option_map message (option_map struct_content o.struct_value)) (list_content c.in-Some.list)
    (val_of (held.Message contents)) (content_of c.in_ok-contents.contents) (content_of c.put.new.self) holds.sound (val_of_message contents ∙ ap message holds.content) c.in_ok-put.ensures.ok))

pub value_contents-returns-in-Some-struct_value : goal.value_contents-returns-in-Some-struct_value
value_contents-returns-in-Some-struct_value t c =
    let o = out-Value c.args.value.now in
    let contents = c.in_ok-struct_contents.field-0 in
    let holds = c.in_ok-struct_contents.ensures in
    value_made c.args.value.now c.in_ok-contents.contents c.put-in-Some-struct_value.new.self c.in_ok-contents.ensures.content c.in_ok-contents.ensures.fit
    (rw (c.in_default.is, c.in-Some-struct_value.is)
    (struct_put (option_map number o.null_value) (option_map text o.string_value) (option_map truth o.bool_value) (struct_content c.in-Some-struct_value.fields)
    (val_of (held.Message contents)) (content_of c.in_ok-contents.contents) (content_of c.put-in-Some-struct_value.new.self) holds.sound (val_of_message contents ∙ ap message holds.content)
    c.in_ok-put-2.ensures.ok))

pub value_contents-returns : goal.value_contents-returns
value_contents-returns t c =
    value_made c.args.value.now c.in_ok-contents.contents c.put_scalar.new.contents c.in_ok-contents.ensures.content c.in_ok-contents.ensures.fit c.in_ok-put_scalar.ensures

pub named_values-loop-field-preserved : goal.named_values-loop-field-preserved
named_values-loop-field-preserved t c =
    let items = c.as_slice-field-items.result.now in
    let item = c.field-item.result in
    let contents = c.in_ok-value_contents.field-0 in
    let holds = c.in_ok-value_contents.ensures in
    let own = c.in_ok-named.ensures in
    let pair = pair_same (pair_of c.in_ok-named.field-0) (text_key item.0) (message (value_content item.1)) own.key (own.held ∙ val_of_message contents ∙ ap message holds.content) in
    rw c.in_ok-add.ensures.ok (record {
      pairs = pairs_more value_pair items c.loop-field.field-index item c.loop-field.pairs c.in_ok-named.field-0 c.loop-field-test.true c.field-item.is c.loop-field.invariant.pairs pair;
      sound = good_more items c.loop-field.field-index item c.loop-field-test.true c.field-item.is c.loop-field.invariant.sound own.utf8 holds.sound;
    })

pub named_values-returns-clause-sound : goal.named_values-returns-clause-sound
named_values-returns-clause-sound t c =
    let items = c.as_slice-field-items.result.now in
    let same = c.as_slice-field-items.ensures.same in
    let order : IsInOrder items = rw same c.as_slice-field-items.ensures.order in
    let all = subst (λ (fs : List (List ℕ × Value)). AreGood fs) (take_all _ _ c.loop-field-test.false) c.loop-field.invariant.sound in
    subst (λ (fs : List (List ℕ × Value)). ArePairs types_shape kind.String (kind.Message 6) (pairs_of (map value_pair fs))) same (named_from items order all)

pub element_values-loop-value-preserved : goal.element_values-loop-value-preserved
element_values-loop-value-preserved t c =
    let items = c.as_slice-value-items.result.now in
    let item = c.value-item.result in
    let contents = c.in_ok-value_contents.field-0 in
    let holds = c.in_ok-value_contents.ensures in
    rw c.in_ok-add.ensures.ok (record {
      values = values_more value_message items c.loop-value.value-index item c.loop-value.helds (held.Message contents) c.loop-value-test.true c.value-item.is c.loop-value.invariant.values
          (val_of_message contents ∙ ap message holds.content);
      sound = are_more (kind.Message 6) value_message items c.loop-value.value-index item c.loop-value-test.true c.value-item.is c.loop-value.invariant.sound (6, refl, holds.sound);
    })
