-- The types of the single values.
use Rattle.std.proofs.Common.{◌≡◌, [], refl}
use Rattle.pbx_content.specs.declared.shape.Kind.TheVariants as kind
use Rattle.pbx_content.specs.Shape.{fields_of}
use Rattle.pbx_desc_shapes.specs.TypesShape.{types_shape}
use Rattle.pbx_desc_wrappers.specs.Wrapped.{IsWrapper}

pub empty_type : fields_of types_shape 2 ≡ []
unfolding types_shape
empty_type = refl

pub int64_type : IsWrapper 9 kind.Int64
unfolding types_shape
int64_type = (refl, refl)

pub uint64_type : IsWrapper 10 kind.Uint64
unfolding types_shape
uint64_type = (refl, refl)

pub int32_type : IsWrapper 11 kind.Int32
unfolding types_shape
int32_type = (refl, refl)

pub uint32_type : IsWrapper 12 kind.Uint32
unfolding types_shape
uint32_type = (refl, refl)

pub bool_type : IsWrapper 13 kind.Bool
unfolding types_shape
bool_type = (refl, refl)

pub string_type : IsWrapper 14 kind.String
unfolding types_shape
string_type = (refl, refl)

pub bytes_type : IsWrapper 15 kind.Bytes
unfolding types_shape
bytes_type = (refl, refl)
