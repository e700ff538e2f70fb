use Rattle.std.proofs.Common.{refl}
use Rattle.pbx_content_codec.specs.View.{content_of}
use Rattle.pbx_desc_shapes.specs.DescriptorShape.{file_fields}
use Rattle.pbx_desc_records.specs.declared.file.FileDescriptorProto.{FileDescriptorProto}
use Rattle.pbx_desc_encoding.specs.Content.{file_values}
use Rattle.pbx_desc_encoding.proofs.Types.{file_options_type}
use Rattle.pbx_desc.specs.Messages.{file_exact}
use Rattle.pbx_desc.proofs.Walk.{start, next, taken}
use Rattle.pbx_desc.proofs.file.fill.Goals as goal

pub returns : goal.returns
returns c =
    let r : FileDescriptorProto = record { name = c.take_text.result; «package» = c.take_text-2.result; dependency = c.in_ok-file.field-0; message_type = c.in_ok-file-2.field-0; enum_type = c.in_ok-file-3.field-0; service = c.in_ok-file-4.field-0; extension = c.in_ok-file-5.field-0; options = c.take_options.result; source_code_info = c.in_ok-file-6.field-0; public_dependency = c.in_ok-file-7.field-0; weak_dependency = c.in_ok-file-8.field-0; syntax = c.take_text-3.result; unknown = c.kept_records.result } in
    let before = start file_fields (file_values r) (file_exact r) (content_of c.args.contents) in
    let at_name = next before c.take_text.ensures refl refl refl refl in
    let at_package_name = next at_name c.take_text-2.ensures refl refl refl refl in
    let at_dependency = next at_package_name c.in_ok-file.ensures refl refl refl refl in
    let at_message_type = next at_dependency c.in_ok-file-2.ensures refl refl refl refl in
    let at_enum_type = next at_message_type c.in_ok-file-3.ensures refl refl refl refl in
    let at_service = next at_enum_type c.in_ok-file-4.ensures refl refl refl refl in
    let at_extension = next at_service c.in_ok-file-5.ensures refl refl refl refl in
    let at_options = next at_extension (c.take_options.ensures 14 file_options_type) refl refl refl refl in
    let at_source_code_info = next at_options c.in_ok-file-6.ensures refl refl refl refl in
    let at_public_dependency = next at_source_code_info c.in_ok-file-7.ensures refl refl refl refl in
    let at_weak_dependency = next at_public_dependency c.in_ok-file-8.ensures refl refl refl refl in
    let at_syntax = next at_weak_dependency c.take_text-3.ensures refl refl refl refl in
    taken at_syntax c.kept_records.ensures
