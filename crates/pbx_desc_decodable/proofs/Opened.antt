-- The schema by the rows of the built-in file.
use Rattle.std.proofs.Common.{◌≡◌, true, false, Some, None, codes, refl, ap, ◌∙◌}
use Rattle.std.specs.List.{list_all}
use Rattle.pbx_content.specs.declared.shape.Kind.TheVariants.{Message}
use Rattle.pbx_content.specs.declared.shape.Cardinality.TheVariants.{Repeated}
use Rattle.pbx_content.specs.declared.shape.FieldShape.{FieldShape}
use Rattle.pbx_content.specs.declared.shape.Shape.{Shape}
use Rattle.pbx_content.specs.Shape.{field_of, fields_of}
use Rattle.pbx_wkt_files.specs.Files.{descriptor_file, descriptor_files, descriptor_members, descriptor_file_options, descriptor_field_options, descriptor_features}
use Rattle.pbx_wkt_laws.proofs.Opened.{all_fields_of}
use Rattle.pbx_link_record.specs.Linked.{camel_from}
use Rattle.pbx_desc_decodable.specs.Schema.{descriptor_schema, without_field_at, options_schema}
use Rattle.pbx_desc_decodable.proofs.Shaped.{no_map, open_shape, shape_is}

no_maps : list_all (no_map descriptor_file) (all_fields_of descriptor_file) ≡ true
unfolding descriptor_files descriptor_members descriptor_file_options descriptor_field_options descriptor_features camel_from
no_maps = refl

-- the schema as it can be computed
unfoldable pub opened : Shape
opened = open_shape descriptor_file

pub schema_is : descriptor_schema ≡ opened
unfolding descriptor_schema opened
schema_is = shape_is descriptor_file no_maps

-- the same without `source_code_info`
unfoldable pub options_opened : Shape
options_opened = record { messages = without_field_at 1 9 opened.messages; enums = opened.enums }

pub options_schema_is : options_schema ≡ options_opened
unfolding options_schema options_opened
options_schema_is = ap (λ (s : Shape). record { messages = without_field_at 1 9 s.messages; enums = s.enums }) schema_is

-- the one field of a set
abbrev pub set_field : FieldShape
set_field = record {
  number = 1;
  name = codes "file";
  json_name = codes "file";
  is_extension = false;
  kind = Message 1;
  cardinality = Repeated;
  presence = false;
  oneof = None;
  packed = false;
  default = None;
  entry = None;
}

found_open : field_of 1 (fields_of opened 0) ≡ Some set_field
unfolding opened descriptor_files descriptor_members descriptor_file_options descriptor_field_options descriptor_features camel_from
found_open = refl

pub set_field_found : field_of 1 (fields_of descriptor_schema 0) ≡ Some set_field
set_field_found = ap (λ (s : Shape). field_of 1 (fields_of s 0)) schema_is ∙ found_open

options_found_open : field_of 1 (fields_of options_opened 0) ≡ Some set_field
unfolding opened options_opened descriptor_files descriptor_members descriptor_file_options descriptor_field_options descriptor_features camel_from
options_found_open = refl

pub options_set_field_found : field_of 1 (fields_of options_schema 0) ≡ Some set_field
options_set_field_found = ap (λ (s : Shape). field_of 1 (fields_of s 0)) options_schema_is ∙ options_found_open
