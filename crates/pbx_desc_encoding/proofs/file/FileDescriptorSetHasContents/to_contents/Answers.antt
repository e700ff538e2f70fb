use Rattle.std.proofs.Common.{refl}
use Rattle.pbx_desc_shapes.specs.DescriptorShape.{set_fields}
use Rattle.pbx_desc_encoding.specs.Content.{file_set_values}
use Rattle.pbx_desc_encoding.proofs.Built.{start, next, whole}
use Rattle.pbx_desc_encoding.proofs.Types.{file_set_type}
use Rattle.pbx_desc_encoding.proofs.file.FileDescriptorSetHasContents.to_contents.Goals as goal

pub returns : goal.returns
returns c =
    let r = c.args.self.now in
    let before = start set_fields (file_set_values r) c.new-fields.result.list c.new-fields.ensures in
    let file = next before c.in_ok-records.ensures refl refl refl in
    whole 0 set_fields (file_set_values r) c.records.new.self.list r.unknown c.with_unknown.result file_set_type refl file c.with_unknown.ensures.content c.with_unknown.ensures.fit
