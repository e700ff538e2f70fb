use Rattle.std.proofs.Common.{◌∙◌, ap, map, []}
use Rattle.pbx_desc_records.specs.declared.file.FileDescriptorProto.{FileDescriptorProto}
use Rattle.pbx_link_definitions.specs.Definitions.{parts, package_of}
use Rattle.pbx_link_tables.specs.Entries.{message_entry, enum_entry, extension_entry, service_entry, in_brackets}
use Rattle.pbx_link_tables.proofs.entry.file_entries.Goals as goal

pub returns : goal.returns
returns c = (
  c.in_ok-messages.ensures ∙ ap (map message_entry) c.messages.ensures,
  c.in_ok-enums.ensures ∙ ap (map enum_entry) c.enums.ensures,
  c.in_ok-extensions.ensures ∙ ap (map extension_entry) c.extensions.ensures,
  c.in_ok-services.ensures ∙ ap (λ s. map service_entry (parts s [] 6 c.as_slice.result.now)) c.text_or_empty.ensures
      ∙ ap (λ xs. map service_entry (parts (package_of c.file-file.result.now) [] 6 xs)) c.as_slice.ensures
      ∙ ap (λ (f : FileDescriptorProto). map service_entry (parts (package_of f) [] 6 f.service)) c.file-file.ensures,
  c.in_ok-json_names.ensures ∙ ap (map in_brackets) c.as_slice-2.ensures,
)
