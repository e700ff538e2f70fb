use Rattle.std.proofs.Common.{refl}
use Rattle.pbx_desc_shapes.specs.DescriptorShape.{source_code_info_fields}
use Rattle.pbx_desc_encoding.specs.Content.{source_code_info_values}
use Rattle.pbx_desc_encoding.proofs.Built.{start, next, whole}
use Rattle.pbx_desc_encoding.proofs.Types.{source_code_info_type}
use Rattle.pbx_desc_encoding.proofs.source.SourceCodeInfoHasContents.to_contents.Goals as goal

pub returns : goal.returns
returns c =
    let r = c.args.self.now in
    let before = start source_code_info_fields (source_code_info_values r) c.new-fields.result.list c.new-fields.ensures in
    let location = next before c.in_ok-records.ensures refl refl refl in
    whole 12 source_code_info_fields (source_code_info_values r) c.records.new.self.list r.unknown c.with_unknown.result source_code_info_type refl location c.with_unknown.ensures.content c.with_unknown.ensures.fit
