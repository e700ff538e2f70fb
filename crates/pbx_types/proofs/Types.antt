-- The fields of the types of records.
use Rattle.std.proofs.Common.{◌≡◌, [], refl}
use Rattle.pbx_content.specs.Shape.{fields_of}
use Rattle.pbx_desc_shapes.specs.TypesShape.{types_shape, any_fields, time_fields, mask_fields, struct_fields, value_fields, list_fields}

pub any_type : fields_of types_shape 0 ≡ any_fields
unfolding types_shape
any_type = refl

pub duration_type : fields_of types_shape 1 ≡ time_fields
unfolding types_shape
duration_type = refl

pub empty_type : fields_of types_shape 2 ≡ []
unfolding types_shape
empty_type = refl

pub mask_type : fields_of types_shape 3 ≡ mask_fields
unfolding types_shape
mask_type = refl

pub struct_type : fields_of types_shape 4 ≡ struct_fields
unfolding types_shape
struct_type = refl

pub value_type : fields_of types_shape 6 ≡ value_fields
unfolding types_shape
value_type = refl

pub list_type : fields_of types_shape 7 ≡ list_fields
unfolding types_shape
list_type = refl

pub timestamp_type : fields_of types_shape 8 ≡ time_fields
unfolding types_shape
timestamp_type = refl
