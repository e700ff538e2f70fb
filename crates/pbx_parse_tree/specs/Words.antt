-- Words of the language.
use Rattle.std.specs.Prelude.{ℕ, List, Bool, ◌||◌, codes}
use Rattle.std.specs.Str.{bytes_eq}
use Rattle.pbx_parse_tree.specs.declared.tree.Scalar.{Scalar}
use Rattle.pbx_parse_tree.specs.declared.tree.Scalar.TheVariants as scalars
use Rattle.pbx_parse_tree.specs.declared.tree.Label.{Label}
use Rattle.pbx_parse_tree.specs.declared.tree.Label.TheVariants as labels
use Rattle.pbx_parse_tree.specs.declared.tree.Modifier.{Modifier}
use Rattle.pbx_parse_tree.specs.declared.tree.Modifier.TheVariants as modifiers

-- how a scalar type is written: the table of scalar value types of the language guide
abbrev pub scalar_word : Scalar → List ℕ
scalar_word scalars.Double = codes "double"
scalar_word scalars.Float = codes "float"
scalar_word scalars.Int32 = codes "int32"
scalar_word scalars.Int64 = codes "int64"
scalar_word scalars.Uint32 = codes "uint32"
scalar_word scalars.Uint64 = codes "uint64"
scalar_word scalars.Sint32 = codes "sint32"
scalar_word scalars.Sint64 = codes "sint64"
scalar_word scalars.Fixed32 = codes "fixed32"
scalar_word scalars.Fixed64 = codes "fixed64"
scalar_word scalars.Sfixed32 = codes "sfixed32"
scalar_word scalars.Sfixed64 = codes "sfixed64"
scalar_word scalars.Bool = codes "bool"
scalar_word scalars.String = codes "string"
scalar_word scalars.Bytes = codes "bytes"

abbrev pub label_word : Label → List ℕ
label_word labels.Optional = codes "optional"
label_word labels.Required = codes "required"
label_word labels.Repeated = codes "repeated"

abbrev pub modifier_word : Modifier → List ℕ
modifier_word modifiers.Public = codes "public"
modifier_word modifiers.Weak = codes "weak"

-- the word is a scalar type's
abbrev pub is_scalar_word : List ℕ → Bool
is_scalar_word t =
    bytes_eq t (codes "double") || bytes_eq t (codes "float") || bytes_eq t (codes "int32") || bytes_eq t (codes "int64")
    || bytes_eq t (codes "uint32") || bytes_eq t (codes "uint64") || bytes_eq t (codes "sint32") || bytes_eq t (codes "sint64")
    || bytes_eq t (codes "fixed32") || bytes_eq t (codes "fixed64") || bytes_eq t (codes "sfixed32") || bytes_eq t (codes "sfixed64")
    || bytes_eq t (codes "bool") || bytes_eq t (codes "string") || bytes_eq t (codes "bytes")

-- the word is a label
abbrev pub is_label_word : List ℕ → Bool
is_label_word t = bytes_eq t (codes "optional") || bytes_eq t (codes "required") || bytes_eq t (codes "repeated")

-- the word begins an item of a message that is no field without a label
abbrev pub begins_item : List ℕ → Bool
begins_item t =
    is_label_word t || bytes_eq t (codes "message") || bytes_eq t (codes "enum") || bytes_eq t (codes "extend") || bytes_eq t (codes "extensions")
    || bytes_eq t (codes "reserved") || bytes_eq t (codes "oneof") || bytes_eq t (codes "option")
