use Rattle.std.proofs.Common.{true, [], ◌∷◌, refl}
use Rattle.pbx_content_codec.specs.View.{content_of}
use Rattle.pbx_desc_shapes.specs.DescriptorShape.{extension_range_fields}
use Rattle.pbx_desc_records.specs.declared.message.ExtensionRange.{ExtensionRange}
use Rattle.pbx_desc_encoding.specs.Content.{extension_range_values}
use Rattle.pbx_desc_encoding.proofs.Types.{extension_range_type, extension_range_options_type}
use Rattle.pbx_desc.specs.Exact.{is_exact_if, is_exact_options}
use Rattle.pbx_desc.proofs.Walk.{start, next, done}
use Rattle.pbx_desc.proofs.message.ExtensionRangeFromContents.from_contents.Goals as goal

pub returns : goal.returns
returns c =
    let r : ExtensionRange = record { start = c.take_number-start.result; end = c.take_number-end.result; options = c.take_options-options.result; unknown = c.kept_records.result } in
    let before = start extension_range_fields (extension_range_values r) (true ∷ true ∷ is_exact_if is_exact_options r.options ∷ []) (content_of c.args.contents) in
    let at_start = next before c.take_number-start.ensures refl refl refl refl in
    let at_end = next at_start c.take_number-end.ensures refl refl refl refl in
    let at_options = next at_end (c.take_options-options.ensures 17 extension_range_options_type) refl refl refl refl in
    done 4 extension_range_type refl at_options c.kept_records.ensures
