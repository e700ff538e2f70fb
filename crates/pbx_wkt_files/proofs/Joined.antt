-- The messages of `descriptor.proto` are those of its tables, one behind another.
use Rattle.std.proofs.Common.{◌≡◌, ◌∙◌, List, [], ◌++◌, map, refl, sym, ap, append_assoc}
use Rattle.std.proofs.lemmas.List.{map-append}
use Rattle.pbx_desc_records.specs.declared.message.DescriptorProto.{DescriptorProto}
use Rattle.pbx_wkt_files.specs.Records.{Top, top_record}
use Rattle.pbx_wkt_files.specs.Files.{descriptor_file, descriptor_files, descriptor_members, descriptor_file_options, descriptor_field_options, descriptor_features}

joined_tops : (a b c d e : List Top)
    → (((([] ++ map top_record a) ++ map top_record b) ++ map top_record c) ++ map top_record d) ++ map top_record e ≡ map top_record (a ++ b ++ c ++ d ++ e)
joined_tops a b c d e = simp (map-append, append_assoc)

pub joined : (a b c d e : List DescriptorProto) → a ≡ map top_record descriptor_files → b ≡ map top_record descriptor_members
    → c ≡ map top_record descriptor_file_options → d ≡ map top_record descriptor_field_options → e ≡ map top_record descriptor_features
    → (((([] ++ a) ++ b) ++ c) ++ d) ++ e ≡ map top_record descriptor_file.messages
joined a b c d e ha hb hc hd he = rw (ha, hb, hc, hd, he) (joined_tops descriptor_files descriptor_members descriptor_file_options descriptor_field_options descriptor_features)
