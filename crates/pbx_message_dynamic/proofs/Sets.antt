-- A field of a number that is set.
use Rattle.std.proofs.Common.{◌≡◌, ℕ, Some, ap, ◌∙◌}
use Rattle.pbx_content.specs.declared.shape.FieldShape.{FieldShape}
use Rattle.pbx_content.specs.declared.shape.Shape.{Shape}
use Rattle.pbx_content.specs.Shape.{fields_of, field_of}
use Rattle.pbx_message_laws.proofs.Members.{found}

-- the field of a number is that of its own number
pub own_number : (shape : Shape) (t n : ℕ) (f : FieldShape) → field_of n (fields_of shape t) ≡ Some f → field_of f.number (fields_of shape t) ≡ Some f
own_number shape t n f e = ap (λ (k : ℕ). field_of k (fields_of shape t)) (found n (fields_of shape t) f e).is ∙ e
