-- What items are converted to and from: messages of a type of a shape.
use Rattle.std.specs.Prelude.{ℕ, refl}
use Rattle.std.specs.Coded.{Coded, code_by, coded×, coded_ℕ}
use Rattle.pbx_content.specs.declared.shape.Shape.{Shape}
use Rattle.pbx_content.specs.contracts.shape.Shape as shape_type

-- the shape, and the place of the type in it
pub record Target : Type 0 where
  pub shape : Shape
  pub place : ℕ

abbrev pub target : Shape → ℕ → Target
target shape place = record { shape = shape; place = place }

-- a target as the pair of its parts: what a model's `Value` asks of its type
abbrev pub target_code : Coded Target
target_code = code_by (Shape × ℕ) (coded× shape_type.the_row.coded coded_ℕ) (λ t. (t.shape, t.place)) (λ p. record { shape = p.0; place = p.1 }) (λ _. refl)
