use Rattle.std.proofs.Common.{refl}
use Rattle.pbx_desc_shapes.specs.DescriptorShape.{extension_range_fields}
use Rattle.pbx_desc_encoding.specs.Content.{extension_range_values}
use Rattle.pbx_desc_encoding.proofs.Built.{start, next, whole}
use Rattle.pbx_desc_encoding.proofs.Types.{extension_range_type, extension_range_options_type}
use Rattle.pbx_desc_encoding.proofs.message.ExtensionRangeHasContents.to_contents.Goals as goal

pub returns : goal.returns
returns c =
    let r = c.args.self.now in
    let before = start extension_range_fields (extension_range_values r) c.new-fields.result.list c.new-fields.ensures in
    let start = next before c.in_ok-number.ensures refl refl refl in
    let end = next start c.in_ok-number-2.ensures refl refl refl in
    let options = next end (c.in_ok-options.ensures 17 extension_range_options_type) refl refl refl in
    whole 4 extension_range_fields (extension_range_values r) c.options.new.self.list r.unknown c.with_unknown.result extension_range_type refl options c.with_unknown.ensures.content c.with_unknown.ensures.fit
