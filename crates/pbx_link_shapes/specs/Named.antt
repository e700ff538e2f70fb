-- Fields of a message type by their names.
use Rattle.std.specs.Prelude.{ℕ, List, Bool, not, ◌&&◌, Option, find, option_map}
use Rattle.std.specs.Str.{bytes_eq}
use Rattle.pbx_content.specs.declared.shape.FieldShape.{FieldShape}
use Rattle.pbx_content.specs.declared.shape.Shape.{Shape}
use Rattle.pbx_content.specs.Shape.{declared_of}

-- a field of the message itself, with this name; an extension has none
abbrev pub is_named : List ℕ → FieldShape → Bool
is_named name f = not f.is_extension && bytes_eq f.name name

-- the number of the first of these fields of the name
abbrev pub number_in : List ℕ → List FieldShape → Option ℕ
number_in name fs = option_map (λ (f : FieldShape). f.number) (find (is_named name) fs)

-- the number of the first declared field of the name in the message type at the place
abbrev pub number_named : Shape → ℕ → List ℕ → Option ℕ
number_named shape t name = number_in name (declared_of shape t)
