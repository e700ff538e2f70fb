-- The types' fields are proper.
use Rattle.std.proofs.Common.{◌≡◌, ℕ, Bool, true, false, not, ◌&&◌, List, [], ◌∷◌, map, refl, sym, subst}
use Rattle.std.specs.Prelude.{◌==◌}
use Rattle.std.specs.List.{AllByRecursion, IsDistinct, list_all}
use Rattle.pbx_wire.specs.Text.{is_record_number}
use Rattle.pbx_wire.proofs.Written.{both}
use Rattle.pbx_content.specs.declared.shape.FieldShape.{FieldShape}
use Rattle.pbx_content.specs.declared.shape.MessageShape.{MessageShape}
use Rattle.pbx_content.specs.declared.shape.Shape.{Shape}
use Rattle.pbx_content.specs.declared.shape.SchemaError.{SchemaError}
use Rattle.pbx_content.specs.declared.shape.SchemaError.TheVariants.{Improper}
use Rattle.pbx_content.specs.Sound.{has_good_keys, AreProper, IsProper, IsRefused}
use Rattle.pbx_content.proofs.SchemaTypes.{HasProperFields, proper_at, no_enums}
use Rattle.pbx_desc_shapes.specs.TypesShape.{types_shape}

-- the test of numbers that differ, and that of each type
abbrev are_distinct : List ℕ → Bool
are_distinct [] = true
are_distinct (n ∷ ns) = list_all (λ m. not (n == m)) ns && are_distinct ns

abbrev are_proper : List FieldShape → Bool
are_proper fs =
    list_all (λ (f : FieldShape). is_record_number f.number) fs
    && (are_distinct (map (λ (f : FieldShape). f.number) fs) && list_all (λ (f : FieldShape). has_good_keys f.cardinality) fs)

abbrev each_proper : List MessageShape → Bool
each_proper [] = true
each_proper (m ∷ ms) = are_proper m.fields && each_proper ms

not-true : (b : Bool) → not b ≡ true → b ≡ false
not-true true h = absurd cc
not-true false h = refl

apart_from : (n : ℕ) (ms : List ℕ) → list_all (λ m. not (n == m)) ms ≡ true → AllByRecursion (λ m. (n == m) ≡ false) ms
apart_from n [] h = tt
apart_from n (m ∷ ms) h = let parts = both (not (n == m)) _ h in (not-true (n == m) parts.0, apart_from n ms parts.1)

distinct_from : (ns : List ℕ) → are_distinct ns ≡ true → IsDistinct (λ m n. m == n) ns
unfolding IsDistinct
distinct_from [] h = tt
distinct_from (n ∷ ns) h = let parts = both (list_all (λ m. not (n == m)) ns) _ h in (apart_from n ns parts.0, distinct_from ns parts.1)

proper_from : (fs : List FieldShape) → are_proper fs ≡ true → AreProper fs
proper_from fs h =
    let first = both (list_all (λ (f : FieldShape). is_record_number f.number) fs) _ h in
    let rest = both (are_distinct (map (λ (f : FieldShape). f.number) fs)) _ first.1 in
    record { numbered = first.0; distinct = distinct_from (map (λ (f : FieldShape). f.number) fs) rest.0; keyed = rest.1 }

types_from : (ms : List MessageShape) → each_proper ms ≡ true → AllByRecursion HasProperFields ms
types_from [] h = tt
types_from (m ∷ ms) h = let parts = both (are_proper m.fields) _ h in (proper_from m.fields parts.0, types_from ms parts.1)

pub types_shape_proper : IsProper types_shape
unfolding types_shape
types_shape_proper = record { types = proper_at types_shape.messages (types_from types_shape.messages refl); enums = no_enums }

-- so no schema of it is refused as improper
pub not_refused : (shape back : Shape) (e : SchemaError) → shape ≡ types_shape → IsRefused shape e → e ≡ Improper back → ⊥
not_refused shape back e is h improper = (subst (IsRefused shape) improper h).1 (subst IsProper (sym is) types_shape_proper)
