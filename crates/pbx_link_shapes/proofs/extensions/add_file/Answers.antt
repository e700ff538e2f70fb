use Rattle.std.proofs.Common.{◌∙◌, Bool, ap, arith}
use Rattle.std.specs.Prelude.{option_and_then}
use Rattle.pbx_link_definitions.specs.Definitions.{extensions}
use Rattle.pbx_link_definitions.specs.Says.{is_proto3}
use Rattle.pbx_link_meaning.specs.Descriptors.{referred}
use Rattle.pbx_link_meaning.specs.Shapes.{message_place}
use Rattle.pbx_link_shapes.specs.Items.{part_shape}
use Rattle.pbx_link_shapes.specs.Extending.{field_added}
use Rattle.pbx_link_shapes.proofs.Extended.{none_added, extensions_more}
use Rattle.pbx_link_shapes.proofs.extensions.add_file.Goals as goal

pub loop-index-init : goal.loop-index-init
loop-index-init c = none_added c.args.types.now c.args.messages.now.items

pub loop-index-preserved : goal.loop-index-preserved
loop-index-preserved c =
    let types = c.args.types.now in
    let part = c.in-Some.part in
    let so_far = c.loop-index.messages.items in
    extensions_more types c.args.table.now (extensions c.args.table.now) c.loop-index.index part c.args.messages.now.items so_far c.add_extension.new.messages.items (omega arith)
    c.in-Some.ensures c.loop-index.invariant
    (c.in_ok-add_extension.ensures
    ∙ ap (λ (b : Bool). field_added (option_and_then (message_place types) (referred part.item.extendee)) (part_shape types b part) so_far)
    (c.is_proto3-proto3.ensures ∙ ap is_proto3 c.file.ensures))
