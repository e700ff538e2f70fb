-- Values of enums by place.
use Rattle.std.proofs.Common.{◌≡◌, ℕ, zero, suc, ◌<◌, ◌≤◌, length, List, [], ◌∷◌, get_or, refl, arith}
use Rattle.pbx_content.specs.declared.shape.EnumShape.{EnumShape}
use Rattle.pbx_content.specs.Shape.{enum_values_at}

pub no_values : (es : List EnumShape) (e : ℕ) → length es ≤ e → [] ≡ enum_values_at es e
no_values [] e h = refl
no_values (x ∷ xs) zero h = absurd (omega arith)
no_values (x ∷ xs) (suc e) h = no_values xs e (omega arith)

pub values_here : (es : List EnumShape) (e : ℕ) (d : EnumShape) → e < length es → (get_or es e d).values ≡ enum_values_at es e
values_here [] e d h = absurd (omega arith)
values_here (x ∷ xs) zero d h = refl
values_here (x ∷ xs) (suc e) d h = values_here xs e d (omega arith)
