use Rattle.std.proofs.Common.{true, [], ◌∷◌, refl}
use Rattle.pbx_content_codec.specs.View.{content_of}
use Rattle.pbx_desc_shapes.specs.DescriptorShape.{oneof_fields}
use Rattle.pbx_desc_records.specs.declared.field.OneofDescriptorProto.{OneofDescriptorProto}
use Rattle.pbx_desc_encoding.specs.Content.{oneof_values}
use Rattle.pbx_desc_encoding.proofs.Types.{oneof_type, oneof_options_type}
use Rattle.pbx_desc.specs.Exact.{is_exact_if, is_exact_options}
use Rattle.pbx_desc.proofs.Walk.{start, next, done}
use Rattle.pbx_desc.proofs.field.OneofDescriptorProtoFromContents.from_contents.Goals as goal

pub returns : goal.returns
returns c =
    let r : OneofDescriptorProto = record { name = c.take_text-name.result; options = c.take_options-options.result; unknown = c.kept_records.result } in
    let before = start oneof_fields (oneof_values r) (true ∷ is_exact_if is_exact_options r.options ∷ []) (content_of c.args.contents) in
    let at_name = next before c.take_text-name.ensures refl refl refl refl in
    let at_options = next at_name (c.take_options-options.ensures 18 oneof_options_type) refl refl refl refl in
    done 6 oneof_type refl at_options c.kept_records.ensures
