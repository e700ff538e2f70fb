-- Enums by their places.
use Rattle.std.proofs.Common.{◌≡◌, ℕ, zero, suc, ◌<◌, ◌≤◌, pos, List, [], ◌∷◌, length, get_or, refl, arith}
use Rattle.pbx_content.specs.declared.shape.EnumShape.{EnumShape}
use Rattle.pbx_content.specs.Shape.{first_of, enum_values_at}
use Rattle.pbx_wkt_types.specs.Types.{enum_name_at}

pub enum_here : (es : List EnumShape) (e : ℕ) (d : EnumShape) → e < length es → enum_name_at es e ≡ (get_or es e d).full_name
enum_here [] e d h = absurd (omega arith)
enum_here (x ∷ xs) zero d h = refl
enum_here (x ∷ xs) (suc e) d h = enum_here xs e d (omega arith)

pub enum_past : (es : List EnumShape) (e : ℕ) → length es ≤ e → enum_name_at es e ≡ []
enum_past [] e h = refl
enum_past (x ∷ xs) zero h = absurd (omega arith)
enum_past (x ∷ xs) (suc e) h = enum_past xs e (omega arith)

-- ---- defaults of enums

pub values_here : (es : List EnumShape) (e : ℕ) (d : EnumShape) → e < length es → first_of (get_or es e d).values ≡ first_of (enum_values_at es e)
values_here [] e d h = absurd (omega arith)
values_here (x ∷ es) zero d h = refl
values_here (x ∷ es) (suc e) d h = values_here es e d (omega arith)

pub no_values : (es : List EnumShape) (e : ℕ) → length es ≤ e → pos 0 ≡ first_of (enum_values_at es e)
no_values [] e h = refl
no_values (x ∷ es) zero h = absurd (omega arith)
no_values (x ∷ es) (suc e) h = no_values es e (omega arith)
