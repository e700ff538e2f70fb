-- Enums by their places.
use Rattle.std.proofs.Common.{◌≡◌, ℕ, zero, suc, ◌<◌, ◌≤◌, List, [], ◌∷◌, length, get_or, refl, arith}
use Rattle.pbx_content.specs.declared.shape.EnumShape.{EnumShape}
use Rattle.pbx_content.specs.Shape.{enum_values_at}

pub values_here : (es : List EnumShape) (e : ℕ) (d : EnumShape) → e < length es → enum_values_at es e ≡ (get_or es e d).values
values_here [] e d h = absurd (omega arith)
values_here (x ∷ xs) zero d h = refl
values_here (x ∷ xs) (suc e) d h = values_here xs e d (omega arith)

pub values_past : (es : List EnumShape) (e : ℕ) → length es ≤ e → enum_values_at es e ≡ []
values_past [] e h = refl
values_past (x ∷ xs) zero h = absurd (omega arith)
values_past (x ∷ xs) (suc e) h = values_past xs e (omega arith)
