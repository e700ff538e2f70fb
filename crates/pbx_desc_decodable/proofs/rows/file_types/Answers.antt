use Rattle.std.proofs.Common.{refl}
use Rattle.pbx_wkt_files.specs.Files.{descriptor_files, descriptor_members, descriptor_file_options, descriptor_field_options, descriptor_features}
use Rattle.pbx_link_record.specs.Linked.{camel_from}
use Rattle.pbx_desc_decodable.proofs.Opened.{opened, options_opened, options_schema_is}
use Rattle.pbx_desc_decodable.proofs.rows.file_types.Goals as goal

pub returns : goal.returns
unfolding opened options_opened descriptor_files descriptor_members descriptor_file_options descriptor_field_options descriptor_features camel_from
returns c = rw options_schema_is refl
