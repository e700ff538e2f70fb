-- The types of the descriptor records and their fields.
use Rattle.std.proofs.Common.{◌≡◌, [], refl}
use Rattle.pbx_content.specs.Shape.{fields_of}
use Rattle.pbx_desc_shapes.specs.DescriptorShape.{descriptor_shape, set_fields, file_fields, message_fields, field_fields, extension_range_fields, reserved_range_fields, oneof_fields, enum_fields, enum_reserved_range_fields, enum_value_fields, service_fields, method_fields, source_code_info_fields, location_fields}

pub file_set_type : fields_of descriptor_shape 0 ≡ set_fields
unfolding descriptor_shape
file_set_type = refl

pub file_type : fields_of descriptor_shape 1 ≡ file_fields
unfolding descriptor_shape
file_type = refl

pub message_type : fields_of descriptor_shape 2 ≡ message_fields
unfolding descriptor_shape
message_type = refl

pub field_type : fields_of descriptor_shape 3 ≡ field_fields
unfolding descriptor_shape
field_type = refl

pub extension_range_type : fields_of descriptor_shape 4 ≡ extension_range_fields
unfolding descriptor_shape
extension_range_type = refl

pub reserved_range_type : fields_of descriptor_shape 5 ≡ reserved_range_fields
unfolding descriptor_shape
reserved_range_type = refl

pub oneof_type : fields_of descriptor_shape 6 ≡ oneof_fields
unfolding descriptor_shape
oneof_type = refl

pub enum_type : fields_of descriptor_shape 7 ≡ enum_fields
unfolding descriptor_shape
enum_type = refl

pub enum_reserved_range_type : fields_of descriptor_shape 8 ≡ enum_reserved_range_fields
unfolding descriptor_shape
enum_reserved_range_type = refl

pub enum_value_type : fields_of descriptor_shape 9 ≡ enum_value_fields
unfolding descriptor_shape
enum_value_type = refl

pub service_type : fields_of descriptor_shape 10 ≡ service_fields
unfolding descriptor_shape
service_type = refl

pub method_type : fields_of descriptor_shape 11 ≡ method_fields
unfolding descriptor_shape
method_type = refl

pub source_code_info_type : fields_of descriptor_shape 12 ≡ source_code_info_fields
unfolding descriptor_shape
source_code_info_type = refl

pub location_type : fields_of descriptor_shape 13 ≡ location_fields
unfolding descriptor_shape
location_type = refl

pub file_options_type : fields_of descriptor_shape 14 ≡ []
unfolding descriptor_shape
file_options_type = refl

pub message_options_type : fields_of descriptor_shape 15 ≡ []
unfolding descriptor_shape
message_options_type = refl

pub field_options_type : fields_of descriptor_shape 16 ≡ []
unfolding descriptor_shape
field_options_type = refl

pub extension_range_options_type : fields_of descriptor_shape 17 ≡ []
unfolding descriptor_shape
extension_range_options_type = refl

pub oneof_options_type : fields_of descriptor_shape 18 ≡ []
unfolding descriptor_shape
oneof_options_type = refl

pub enum_options_type : fields_of descriptor_shape 19 ≡ []
unfolding descriptor_shape
enum_options_type = refl

pub enum_value_options_type : fields_of descriptor_shape 20 ≡ []
unfolding descriptor_shape
enum_value_options_type = refl

pub service_options_type : fields_of descriptor_shape 21 ≡ []
unfolding descriptor_shape
service_options_type = refl

pub method_options_type : fields_of descriptor_shape 22 ≡ []
unfolding descriptor_shape
method_options_type = refl
