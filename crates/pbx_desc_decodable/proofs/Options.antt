-- What the two shapes say of the fields of a file, of the types below them, and of `source_code_info`.
use Rattle.std.proofs.Common.{◌≡◌, ◌∙◌, ℕ, zero, suc, Bool, true, false, ◌&&◌, List, [], ◌∷◌, ◌++◌, take, drop, Some, None, codes, refl, ap}
use Rattle.std.specs.List.{list_all}
use Rattle.pbx_wire.proofs.Written.{both}
use Rattle.pbx_content.specs.declared.shape.Kind.{Kind}
use Rattle.pbx_content.specs.declared.shape.Kind.TheVariants as kind
use Rattle.pbx_content.specs.declared.shape.Cardinality.{Cardinality}
use Rattle.pbx_content.specs.declared.shape.Cardinality.TheVariants.{Map}
use Rattle.pbx_content.specs.declared.shape.FieldShape.{FieldShape}
use Rattle.pbx_content.specs.declared.shape.MessageShape.{MessageShape}
use Rattle.pbx_content.specs.declared.shape.Shape.{Shape}
use Rattle.pbx_content.specs.Shape.{declared_at, by_number, field_of, fields_of}
use Rattle.pbx_desc_shapes.specs.DescriptorShape.{one_field, list_field, location_fields}
use Rattle.pbx_wkt_files.specs.Files.{descriptor_files, descriptor_members, descriptor_file_options, descriptor_field_options, descriptor_features}
use Rattle.pbx_link_record.specs.Linked.{camel_from}
use Rattle.pbx_desc_decodable.specs.Schema.{descriptor_schema, without_field_at, options_schema}
use Rattle.pbx_desc_decodable.proofs.Opened.{opened, schema_is, options_opened, options_schema_is}

-- ---- the types behind the first two

abbrev pub is_no_map : Cardinality → Bool
is_no_map (Map key) = false
is_no_map _ = true

-- no message of the first two types
abbrev pub is_later : Kind → Bool
is_later (kind.Message zero) = false
is_later (kind.Message (suc zero)) = false
is_later _ = true

abbrev pub are_later : List FieldShape → Bool
are_later fs = list_all (λ (f : FieldShape). is_no_map f.cardinality && is_later f.kind) fs

abbrev each_later : List MessageShape → Bool
each_later [] = true
each_later (m ∷ ms) = are_later (by_number m.fields) && each_later ms

later_open : each_later (drop 2 opened.messages) ≡ true
unfolding opened descriptor_files descriptor_members descriptor_file_options descriptor_field_options descriptor_features camel_from
later_open = refl

later_at : (ms : List MessageShape) (d : ℕ) → each_later ms ≡ true → are_later (by_number (declared_at ms d)) ≡ true
later_at [] d h = refl
later_at (m ∷ ms) zero h = (both (are_later (by_number m.fields)) (each_later ms) h).0
later_at (m ∷ ms) (suc d) h = later_at ms d (both (are_later (by_number m.fields)) (each_later ms) h).1

behind : (ms : List MessageShape) (d : ℕ) → declared_at ms (suc (suc d)) ≡ declared_at (drop 2 ms) d
behind [] d = refl
behind (m ∷ []) d = refl
behind (m ∷ n ∷ ms) d = refl

pub types_are_later : (d : ℕ) → are_later (fields_of descriptor_schema (suc (suc d))) ≡ true
types_are_later d =
    ap (λ (s : Shape). are_later (fields_of s (suc (suc d)))) schema_is
    ∙ ap (λ (fs : List FieldShape). are_later (by_number fs)) (behind opened.messages d) ∙ later_at (drop 2 opened.messages) d later_open

same_behind : (ms : List MessageShape) (n d : ℕ) → declared_at (without_field_at 1 n ms) (suc (suc d)) ≡ declared_at ms (suc (suc d))
same_behind [] n d = refl
same_behind (m ∷ []) n d = refl
same_behind (m ∷ k ∷ ms) n d = refl

pub types_are_same : (d : ℕ) → fields_of options_schema (suc (suc d)) ≡ fields_of descriptor_schema (suc (suc d))
unfolding options_schema
types_are_same d = ap by_number (same_behind descriptor_schema.messages 9 d)

-- ---- the fields of a file

-- the field that is left out
abbrev pub source_field : FieldShape
source_field = one_field 9 (codes "source_code_info") (codes "sourceCodeInfo") (kind.Message 28)

file_parts_open : fields_of opened 1 ≡ take 8 (fields_of options_opened 1) ++ (source_field ∷ drop 8 (fields_of options_opened 1))
unfolding opened options_opened descriptor_files descriptor_members descriptor_file_options descriptor_field_options descriptor_features camel_from
file_parts_open = refl

pub file_parts : fields_of descriptor_schema 1 ≡ take 8 (fields_of options_schema 1) ++ (source_field ∷ drop 8 (fields_of options_schema 1))
file_parts = rw (schema_is, options_schema_is) file_parts_open

source_found_open : field_of 9 (fields_of opened 1) ≡ Some source_field
unfolding opened descriptor_files descriptor_members descriptor_file_options descriptor_field_options descriptor_features camel_from
source_found_open = refl

pub source_found : field_of 9 (fields_of descriptor_schema 1) ≡ Some source_field
source_found = rw schema_is source_found_open

no_source_open : field_of 9 (fields_of options_opened 1) ≡ None
unfolding opened options_opened descriptor_files descriptor_members descriptor_file_options descriptor_field_options descriptor_features camel_from
no_source_open = refl

pub no_source : field_of 9 (fields_of options_schema 1) ≡ None
no_source = rw options_schema_is no_source_open

file_later_open : are_later (fields_of options_opened 1) ≡ true
unfolding opened options_opened descriptor_files descriptor_members descriptor_file_options descriptor_field_options descriptor_features camel_from
file_later_open = refl

pub file_is_later : are_later (fields_of options_schema 1) ≡ true
file_is_later = rw options_schema_is file_later_open

-- ---- the types of `source_code_info`

source_open : fields_of opened 28 ≡ list_field 1 (codes "location") (codes "location") (kind.Message 29) ∷ []
unfolding opened descriptor_files descriptor_members descriptor_file_options descriptor_field_options descriptor_features camel_from
source_open = refl

pub source_is : fields_of descriptor_schema 28 ≡ list_field 1 (codes "location") (codes "location") (kind.Message 29) ∷ []
source_is = rw schema_is source_open

location_open : fields_of opened 29 ≡ location_fields
unfolding opened descriptor_files descriptor_members descriptor_file_options descriptor_field_options descriptor_features camel_from
location_open = refl

pub location_is : fields_of descriptor_schema 29 ≡ location_fields
location_is = rw schema_is location_open
