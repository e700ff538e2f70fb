use Rattle.std.proofs.Common.{◌∙◌, ap}
use Rattle.std.specs.List.{position}
use Rattle.pbx_desc_records.specs.declared.field.FieldDescriptorProto.{FieldDescriptorProto}
use Rattle.pbx_link_rules_field.specs.Rules.{is_bad_label, bad_labels_in}
use Rattle.pbx_link_rules_field.proofs.Placed.{field_here, no_field, item_here, item_not}
use Rattle.pbx_link_rules_field.proofs.labels.bad_field.Goals as goal

pub returns-in-Some : goal.returns-in-Some
returns-in-Some c =
    let first = c.bad_label.ensures ∙ ap (position (λ (x : FieldDescriptorProto). is_bad_label c.args.no_required x.label)) c.as_slice.ensures in
    item_here (bad_labels_in c.args.no_required) c.args.messages.now c.loop-message.message-index c.message-item.result c.loop-message-test.true
    c.message-item.is c.loop-message.invariant c.in_ok-place_in_item.field-0
    (field_here c.message-item.result c.item.result.now c.item.ensures 4 (λ d x. is_bad_label c.args.no_required x.label) c.bad_label.result first
    c.in-Some.index c.place.result.now c.in_ok-place_in_item.field-0 c.in-Some.is c.place.ensures c.in_ok-place_in_item.ensures)

pub loop-message-preserved : goal.loop-message-preserved
loop-message-preserved c =
    let first = c.bad_label.ensures ∙ ap (position (λ (x : FieldDescriptorProto). is_bad_label c.args.no_required x.label)) c.as_slice.ensures in
    item_not (bad_labels_in c.args.no_required) c.args.messages.now c.loop-message.message-index c.message-item.result c.loop-message-test.true
    c.message-item.is c.loop-message.invariant
    (no_field c.message-item.result c.item.result.now c.item.ensures 4 (λ d x. is_bad_label c.args.no_required x.label) c.bad_label.result first
    c.in_default.is)
