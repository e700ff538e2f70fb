-- The full names of the types of a shape.
use Rattle.std.specs.Prelude.{ℕ, zero, suc, List, [], ◌∷◌}
use Rattle.pbx_content.specs.declared.shape.Shape.{Shape}
use Rattle.pbx_content.specs.declared.shape.MessageShape.{MessageShape}
use Rattle.pbx_content.specs.declared.shape.EnumShape.{EnumShape}

-- the full name of the message type at a place
abbrev pub message_name_at : List MessageShape → ℕ → List ℕ
message_name_at [] t = []
message_name_at (m ∷ ms) zero = m.full_name
message_name_at (m ∷ ms) (suc t) = message_name_at ms t

-- the full name of a message type; a place outside the shape has the empty one
abbrev pub message_name : Shape → ℕ → List ℕ
message_name shape t = message_name_at shape.messages t

-- the full name of the enum at a place
abbrev pub enum_name_at : List EnumShape → ℕ → List ℕ
enum_name_at [] e = []
enum_name_at (x ∷ xs) zero = x.full_name
enum_name_at (x ∷ xs) (suc e) = enum_name_at xs e

-- the full name of an enum; a place outside the shape has the empty one
abbrev pub enum_name : Shape → ℕ → List ℕ
enum_name shape e = enum_name_at shape.enums e
