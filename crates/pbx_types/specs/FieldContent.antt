-- The content of a record of a well-known type: the values of its fields, and its unknown records.
use Rattle.std.specs.Prelude.{List, [], ◌∷◌, filter, Bool, ◌&&◌, Option}
use Rattle.pbx_wire.specs.Text.{is_numbered}
use Rattle.pbx_wire.specs.declared.rec.Rec.{Rec}
use Rattle.pbx_content.specs.declared.shape.FieldShape.{FieldShape}
use Rattle.pbx_content.specs.Content.{Content, content, Fields, no_fields, Val}
use Rattle.pbx_content.specs.Meaning.{shown, with_field}
use Rattle.pbx_content.specs.Shape.{is_kept}
use Rattle.pbx_desc_shapes.specs.TypesShape.{types_shape}

-- a record that may be written, and is read as none of the fields
abbrev pub is_writable : List FieldShape → Rec → Bool
is_writable gs r = is_numbered r && is_kept gs r

-- the records that are kept behind these fields
abbrev pub writable : List FieldShape → List Rec → List Rec
writable gs rs = filter (is_writable gs) rs

-- Values in the order of their fields, under the fields' numbers. Without presence a default is no value, and an empty list or map never is one
-- (Protocol Buffers "Application Note: Field Presence").
abbrev pub fields_from : List FieldShape → List (Option Val) → Fields
fields_from [] vs = no_fields
fields_from (g ∷ gs) [] = no_fields
fields_from (g ∷ gs) (v ∷ vs) = with_field g.number (shown types_shape g.presence g.kind v) (fields_from gs vs)

-- the values of all fields, and what may be written of the unknown records
abbrev pub record_content : List FieldShape → List (Option Val) → List Rec → Content
record_content gs vs unknown = content (fields_from gs vs) (writable gs unknown)
