-- Which field a key of an object names (ProtoJSON Format: lowerCamelCase names, the `json_name` option, and the original names of fields;
-- extensions stand under `[full.name]`).
use Rattle.std.specs.Prelude.{ℕ, List, Bool, not, ◌&&◌, Option, find}
use Rattle.std.specs.Option.{option_or}
use Rattle.std.specs.Str.{bytes_eq}
use Rattle.pbx_content.specs.declared.shape.FieldShape.{FieldShape}

-- a field of the message itself, with this JSON name
abbrev pub json_name_is : List ℕ → FieldShape → Bool
json_name_is key f = not f.is_extension && bytes_eq f.json_name key

-- a field of the message itself, with this name in the source
abbrev pub name_is : List ℕ → FieldShape → Bool
name_is key f = not f.is_extension && bytes_eq f.name key

-- an extension of the message, with this JSON name
abbrev pub extension_is : List ℕ → FieldShape → Bool
extension_is key f = f.is_extension && bytes_eq f.json_name key

-- Of fields in declared order with the extensions behind them: the first of that JSON name, else the first of that name in the source, else the
-- first extension of that JSON name.
abbrev pub field_named : List ℕ → List FieldShape → Option FieldShape
field_named key fs = option_or (find (json_name_is key) fs) (option_or (find (name_is key) fs) (find (extension_is key) fs))
