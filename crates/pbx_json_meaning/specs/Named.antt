-- What linking promises of the names in a shape (Protocol Buffers "Language Guide (proto 3)": names are unique in their scope).
use Rattle.std.specs.Prelude.{◌≡◌, ℕ, ℤ, pos, negsuc, int_le, ◌&&◌, Bool, true, false, Some, None, find}
use Rattle.std.specs.List.{list_all}
use Rattle.pbx_content.specs.declared.shape.Shape.{Shape}
use Rattle.pbx_content.specs.declared.shape.FieldShape.{FieldShape}
use Rattle.pbx_content.specs.declared.shape.EnumValueShape.{EnumValueShape}
use Rattle.pbx_content.specs.Shape.{declared_of, field_of, enum_values_of}
use Rattle.pbx_json_meaning.specs.Names.{name_is, extension_is}
use Rattle.pbx_json_meaning.specs.Urls.{is_type_key}
use Rattle.pbx_json_meaning.specs.Scalars.{value_named}
use Rattle.pbx_json_meaning.specs.Canonical.{value_of_number}

-- f is the field of number n of a type, and no extension
abbrev pub IsOwn : Shape → ℕ → ℕ → FieldShape → Type 0
IsOwn shape t n f = (field_of n (declared_of shape t) ≡ Some f) × (f.is_extension ≡ false)

-- f is the extension of number n of a type
abbrev pub IsExtension : Shape → ℕ → ℕ → FieldShape → Type 0
IsExtension shape t n f = (field_of n (declared_of shape t) ≡ Some f) × (f.is_extension ≡ true)

-- a number in 32 bits, as those of enums are (Protocol Buffers "Language Guide (proto 3)": Enumerations)
abbrev pub has_enum_number : ℤ → Bool
has_enum_number z = int_le (negsuc 2147483647) z && int_le z (pos 2147483647)

-- A field's name is no other field's and no extension's JSON name; an extension's JSON name is no other extension's; neither is the key of an `Any`'s
-- type; the name of an enum value is no other value's, and its number has 32 bits.
pub record IsWellNamed (shape : Shape) : Type 0 where
  pub fields : (t n : ℕ) (f : FieldShape) → IsOwn shape t n f → find (name_is f.name) (declared_of shape t) ≡ Some f
  pub apart : (t n : ℕ) (f : FieldShape) → IsOwn shape t n f → find (extension_is f.name) (declared_of shape t) ≡ None
  pub extensions : (t n : ℕ) (f : FieldShape) → IsExtension shape t n f → find (extension_is f.json_name) (declared_of shape t) ≡ Some f
  pub plain_names : (t n : ℕ) (f : FieldShape) → IsOwn shape t n f → is_type_key f.name ≡ false
  pub plain_extensions : (t n : ℕ) (f : FieldShape) → IsExtension shape t n f → is_type_key f.json_name ≡ false
  pub numbers : (e : ℕ) → list_all (λ v. has_enum_number v.number) (enum_values_of shape e) ≡ true
  pub values : (e : ℕ) (z : ℤ) (v : EnumValueShape) → value_of_number z (enum_values_of shape e) ≡ Some v
      → value_named v.name (enum_values_of shape e) ≡ Some v
