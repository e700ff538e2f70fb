use Rattle.std.proofs.Common.{ℕ, List, map, refl, subst}
use Rattle.pbx_content.specs.declared.shape.MessageShape.{MessageShape}
use Rattle.pbx_content.specs.Shape.{declared_at}
use Rattle.pbx_content.specs.Sound.{AreProper}
use Rattle.pbx_content.specs.Index.{AreIndexed}
use Rattle.pbx_content.proofs.SchemaTypes.{AreEnums}
use Rattle.pbx_content.proofs.shape.Schema.new.Goals as goal

pub invariant_of-result : goal.invariant_of-result
invariant_of-result c =
    let found = rw c.in-Ok-Some.field-0-is at c.in-Ok-Some.ensures in
    let of_types : List MessageShape → Type 0 = λ ms. (t : ℕ) → AreProper (declared_at ms t) in
    let index = map (λ entries. entries.items) c.in-Ok-Some.index.items in (
      record { types = subst of_types c.as_slice-2.ensures found.0; enums = subst AreEnums c.as_slice.ensures c.enums_fit.ensures },
      subst (λ (ms : List MessageShape). AreIndexed ms index) c.as_slice-2.ensures found.1,
    )

pub returns-in-Ok-Some-clause-ok : goal.returns-in-Ok-Some-clause-ok
returns-in-Ok-Some-clause-ok c =
    let found = rw c.in-Ok-Some.field-0-is at c.in-Ok-Some.ensures in
    let of_types : List MessageShape → Type 0 = λ ms. (t : ℕ) → AreProper (declared_at ms t) in
    (refl, record { types = subst of_types c.as_slice-2.ensures found.0; enums = subst AreEnums c.as_slice.ensures c.enums_fit.ensures })
