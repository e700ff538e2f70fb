-- The schema is proper.
use Rattle.std.proofs.Common.{◌≡◌, ℕ, zero, suc, ◌<◌, ℤ, pos, negsuc, Bool, true, false, not, ◌&&◌, nat_lt, List, [], ◌∷◌, map, refl, sym, subst, arith}
use Rattle.std.specs.Prelude.{◌==◌}
use Rattle.std.specs.List.{AllByRecursion, IsDistinct, list_all}
use Rattle.std.proofs.lemmas.Bool.Decides.{nat_tests}
use Rattle.std.specs.Int.{w32}
use Rattle.std.specs.Int.RustNames.{FitsSigned}
use Rattle.pbx_wire.specs.Text.{is_record_number}
use Rattle.pbx_wire.proofs.Written.{both}
use Rattle.pbx_content.specs.declared.shape.FieldShape.{FieldShape}
use Rattle.pbx_content.specs.declared.shape.MessageShape.{MessageShape}
use Rattle.pbx_content.specs.declared.shape.EnumShape.{EnumShape}
use Rattle.pbx_content.specs.declared.shape.Shape.{Shape}
use Rattle.pbx_content.specs.declared.shape.SchemaError.{SchemaError}
use Rattle.pbx_content.specs.declared.shape.SchemaError.TheVariants.{Improper}
use Rattle.pbx_content.specs.Shape.{enum_values_at, first_of}
use Rattle.pbx_content.specs.Sound.{has_good_keys, AreProper, IsProper, IsRefused}
use Rattle.pbx_content.proofs.SchemaTypes.{HasProperFields, proper_at}
use Rattle.pbx_wkt_files.specs.Files.{descriptor_files, descriptor_members, descriptor_file_options, descriptor_field_options, descriptor_features}
use Rattle.pbx_link_record.specs.Linked.{camel_from}
use Rattle.pbx_desc_decodable.specs.Schema.{descriptor_schema, options_schema}
use Rattle.pbx_desc_decodable.proofs.Opened.{opened, schema_is, options_opened, options_schema_is}

-- the test of numbers that differ, and that of each type
abbrev are_distinct : List ℕ → Bool
are_distinct [] = true
are_distinct (n ∷ ns) = list_all (λ m. not (n == m)) ns && are_distinct ns

abbrev are_proper : List FieldShape → Bool
are_proper fs =
    list_all (λ (f : FieldShape). is_record_number f.number) fs
    && (are_distinct (map (λ (f : FieldShape). f.number) fs) && list_all (λ (f : FieldShape). has_good_keys f.cardinality) fs)

abbrev each_proper : List MessageShape → Bool
each_proper [] = true
each_proper (m ∷ ms) = are_proper m.fields && each_proper ms

not-true : (b : Bool) → not b ≡ true → b ≡ false
not-true true h = absurd cc
not-true false h = refl

apart_from : (n : ℕ) (ms : List ℕ) → list_all (λ m. not (n == m)) ms ≡ true → AllByRecursion (λ m. (n == m) ≡ false) ms
apart_from n [] h = tt
apart_from n (m ∷ ms) h = let parts = both (not (n == m)) _ h in (not-true (n == m) parts.0, apart_from n ms parts.1)

distinct_from : (ns : List ℕ) → are_distinct ns ≡ true → IsDistinct (λ m n. m == n) ns
unfolding IsDistinct
distinct_from [] h = tt
distinct_from (n ∷ ns) h = let parts = both (list_all (λ m. not (n == m)) ns) _ h in (apart_from n ns parts.0, distinct_from ns parts.1)

proper_from : (fs : List FieldShape) → are_proper fs ≡ true → AreProper fs
proper_from fs h =
    let first = both (list_all (λ (f : FieldShape). is_record_number f.number) fs) _ h in
    let rest = both (are_distinct (map (λ (f : FieldShape). f.number) fs)) _ first.1 in
    record { numbered = first.0; distinct = distinct_from (map (λ (f : FieldShape). f.number) fs) rest.0; keyed = rest.1 }

types_from : (ms : List MessageShape) → each_proper ms ≡ true → AllByRecursion HasProperFields ms
types_from [] h = tt
types_from (m ∷ ms) h = let parts = both (are_proper m.fields) _ h in (proper_from m.fields parts.0, types_from ms parts.1)

-- a number that is no great one
abbrev is_small : ℤ → Bool
is_small (pos n) = nat_lt n 1000
is_small (negsuc n) = false

abbrev are_small : List EnumShape → Bool
are_small [] = true
are_small (e ∷ es) = is_small (first_of e.values) && are_small es

small_fits : (z : ℤ) → is_small z ≡ true → FitsSigned w32 z
small_fits (pos n) h = let few : n < 1000 = grind (arith, nat_tests, h) in record { sfits = omega (arith, few) }
small_fits (negsuc n) h = absurd cc

enums_from : (es : List EnumShape) → are_small es ≡ true → (e : ℕ) → FitsSigned w32 (first_of (enum_values_at es e))
enums_from [] h e = record { sfits = omega arith }
enums_from (x ∷ es) h zero = small_fits (first_of x.values) (both (is_small (first_of x.values)) _ h).0
enums_from (x ∷ es) h (suc e) = enums_from es (both (is_small (first_of x.values)) _ h).1 e

opened_proper : IsProper opened
unfolding opened descriptor_files descriptor_members descriptor_file_options descriptor_field_options descriptor_features camel_from
opened_proper = record {
  types = proper_at opened.messages (types_from opened.messages refl);
  enums = enums_from opened.enums refl;
}

pub descriptor_schema_proper : IsProper descriptor_schema
descriptor_schema_proper = subst IsProper (sym schema_is) opened_proper

options_opened_proper : IsProper options_opened
unfolding opened options_opened descriptor_files descriptor_members descriptor_file_options descriptor_field_options descriptor_features camel_from
options_opened_proper = record {
  types = proper_at options_opened.messages (types_from options_opened.messages refl);
  enums = enums_from options_opened.enums refl;
}

pub options_schema_proper : IsProper options_schema
options_schema_proper = subst IsProper (sym options_schema_is) options_opened_proper

-- so no schema of it is refused as improper
pub not_refused : (shape back : Shape) (e : SchemaError) → shape ≡ options_schema → IsRefused shape e → e ≡ Improper back → ⊥
not_refused shape back e is h improper = (subst (IsRefused shape) improper h).1 (subst IsProper (sym is) options_schema_proper)
