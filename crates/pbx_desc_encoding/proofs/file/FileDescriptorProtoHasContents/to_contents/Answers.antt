use Rattle.std.proofs.Common.{refl}
use Rattle.pbx_desc_shapes.specs.DescriptorShape.{file_fields}
use Rattle.pbx_desc_encoding.specs.Content.{file_values}
use Rattle.pbx_desc_encoding.proofs.Built.{start, next, whole}
use Rattle.pbx_desc_encoding.proofs.Types.{file_type, file_options_type}
use Rattle.pbx_desc_encoding.proofs.file.FileDescriptorProtoHasContents.to_contents.Goals as goal

pub returns : goal.returns
returns c =
    let r = c.args.self.now in
    let before = start file_fields (file_values r) c.new-fields.result.list c.new-fields.ensures in
    let name = next before c.in_ok-text.ensures refl refl refl in
    let package_name = next name c.in_ok-text-2.ensures refl refl refl in
    let dependency = next package_name c.in_ok-texts.ensures refl refl refl in
    let message_type = next dependency c.in_ok-records.ensures refl refl refl in
    let enum_type = next message_type c.in_ok-records-2.ensures refl refl refl in
    let service = next enum_type c.in_ok-records-3.ensures refl refl refl in
    let extension = next service c.in_ok-records-4.ensures refl refl refl in
    let options = next extension (c.in_ok-options.ensures 14 file_options_type) refl refl refl in
    let source_code_info = next options c.in_ok-record.ensures refl refl refl in
    let public_dependency = next source_code_info c.in_ok-numbers.ensures refl refl refl in
    let weak_dependency = next public_dependency c.in_ok-numbers-2.ensures refl refl refl in
    let syntax = next weak_dependency c.in_ok-text-3.ensures refl refl refl in
    whole 1 file_fields (file_values r) c.text-3.new.self.list r.unknown c.with_unknown.result file_type refl syntax c.with_unknown.ensures.content c.with_unknown.ensures.fit
