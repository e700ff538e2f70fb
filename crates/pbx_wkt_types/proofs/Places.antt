-- What a shape says of the type or enum at a place of the lists.
use Rattle.std.proofs.Common.{◌≡◌, false, nat_lt, ℕ, zero, suc, ◌<◌, ◌≤◌, List, [], ◌∷◌, length, get_or, refl, arith, ◌∙◌}
use Rattle.std.proofs.lemmas.Bool.{le-ltb}
use Rattle.pbx_content.specs.declared.shape.EnumShape.{EnumShape}
use Rattle.pbx_content.specs.declared.shape.MessageShape.{MessageShape}
use Rattle.pbx_wkt_types.specs.Types.{message_name_at, enum_name_at}
use Rattle.pbx_wkt_types.specs.Shapes.{is_proto3_at}

pub message_here : (ms : List MessageShape) (t : ℕ) (d : MessageShape) → t < length ms → message_name_at ms t ≡ (get_or ms t d).full_name
message_here [] t d h = absurd (omega arith)
message_here (m ∷ ms) zero d h = refl
message_here (m ∷ ms) (suc t) d h = message_here ms t d (omega arith)

pub message_past : (ms : List MessageShape) (t : ℕ) → length ms ≤ t → message_name_at ms t ≡ []
message_past [] t h = refl
message_past (m ∷ ms) zero h = absurd (omega arith)
message_past (m ∷ ms) (suc t) h = message_past ms t (omega arith)

pub enum_here : (es : List EnumShape) (e : ℕ) (d : EnumShape) → e < length es → enum_name_at es e ≡ (get_or es e d).full_name
enum_here [] e d h = absurd (omega arith)
enum_here (x ∷ xs) zero d h = refl
enum_here (x ∷ xs) (suc e) d h = enum_here xs e d (omega arith)

pub enum_past : (es : List EnumShape) (e : ℕ) → length es ≤ e → enum_name_at es e ≡ []
enum_past [] e h = refl
enum_past (x ∷ xs) zero h = absurd (omega arith)
enum_past (x ∷ xs) (suc e) h = enum_past xs e (omega arith)

pub proto3_here : (ms : List MessageShape) (t : ℕ) (d : MessageShape) → t < length ms → (get_or ms t d).proto3 ≡ is_proto3_at ms t
proto3_here [] t d h = absurd (omega arith)
proto3_here (m ∷ ms) zero d h = refl
proto3_here (m ∷ ms) (suc t) d h = proto3_here ms t d (omega arith)

pub no_proto3_there : (ms : List MessageShape) (t : ℕ) → length ms ≤ t → nat_lt t (length ms) ≡ is_proto3_at ms t
no_proto3_there ms t h = le-ltb t (length ms) h ∙ at ms t h
  where
    at : (ms : List MessageShape) (t : ℕ) → length ms ≤ t → false ≡ is_proto3_at ms t
    at [] t h = refl
    at (m ∷ ms) zero h = absurd (omega arith)
    at (m ∷ ms) (suc t) h = at ms t (omega arith)
