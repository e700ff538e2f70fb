-- What decodes as a file means something by the schema exactly where it does without `source_code_info`.
use Rattle.std.proofs.Common.{◌≡◌, ℕ, zero, suc, ◌&&◌, Bool, true, false, if◌then◌else◌, List, [], ◌∷◌, ◌++◌, take, drop, Option, Some, None, ◌⊎◌, inl, inr, codes, refl, sym, ap, ◌∙◌, subst}
use Rattle.std.specs.Prelude.{◌==◌, option_and_then}
use Rattle.std.specs.List.{list_all}
use Rattle.std.specs.Option.{is_some}
use Rattle.std.proofs.lemmas.Bool.{eqb-true}
use Rattle.std.proofs.lemmas.List.{take-append-drop}
use Rattle.pbx_wire.specs.declared.rec.Rec.{Rec}
use Rattle.pbx_wire.specs.Reading.{records_in}
use Rattle.pbx_wire.proofs.Written.{both}
use Rattle.pbx_content.specs.declared.shape.Kind.{Kind}
use Rattle.pbx_content.specs.declared.shape.Kind.TheVariants as kind
use Rattle.pbx_content.specs.declared.shape.FieldShape.{FieldShape}
use Rattle.pbx_content.specs.declared.shape.Shape.{Shape}
use Rattle.pbx_content.specs.Records.{number_of}
use Rattle.pbx_content.specs.Shape.{fields_of, field_of}
use Rattle.pbx_content.specs.Meaning.{meaning, meaning_of}
use Rattle.pbx_content.specs.Sound.{IsProper}
use Rattle.pbx_content.proofs.OntoSplits.{is_plain}
use Rattle.pbx_content.proofs.FaultyLaw.{are_above}
use Rattle.pbx_desc_shapes.specs.DescriptorShape.{descriptor_shape, one_field, list_field, source_code_info_fields, location_fields}
use Rattle.pbx_desc_shapes.proofs.DescriptorsProper.{descriptor_shape_proper}
use Rattle.pbx_desc_decodable.specs.Schema.{descriptor_schema, options_schema}
use Rattle.pbx_desc_decodable.proofs.Proper.{descriptor_schema_proper, options_schema_proper}
use Rattle.pbx_desc_decodable.proofs.Options.{is_no_map, is_later, are_later, types_are_later, types_are_same, source_field, source_found, file_parts, no_source, file_is_later, source_is, location_is}
use Rattle.pbx_desc_decodable.proofs.Alike.{ReadAlike, KindsAlike, FoundAlike, AreAlike, together, means_alike}

-- ---- the types below a file

-- each type behind the first two is paired with itself
abbrev Itself : ℕ → ℕ → Type 0
Itself t u = (d : ℕ) × (t ≡ suc (suc d)) × (u ≡ suc (suc d))

later_kind : (k : Kind) → is_later k ≡ true → KindsAlike Itself k k
later_kind (kind.Message zero) h = absurd cc
later_kind (kind.Message (suc zero)) h = absurd cc
later_kind (kind.Message (suc (suc d))) h = inr (suc (suc d), suc (suc d), refl, refl, (d, refl, refl))
later_kind k h = inl (refl, refl)

later_field : (n : ℕ) (fs : List FieldShape) (g : FieldShape) → are_later fs ≡ true → field_of n fs ≡ Some g → ReadAlike Itself g g
later_field n [] g h e = absurd cc
later_field n (f ∷ fs) g h e =
    let parts = both (is_no_map f.cardinality && is_later f.kind) (are_later fs) h in
    let own = both (is_no_map f.cardinality) (is_later f.kind) parts.0 in
    at (n == f.number) e (record { cardinality = refl; no_map = own.0; kind = later_kind f.kind own.1 }) (later_field n fs g parts.1)
  where
    at : (b : Bool) → (if b then Some f else field_of n fs) ≡ Some g → ReadAlike Itself f f → (field_of n fs ≡ Some g → ReadAlike Itself g g)
        → ReadAlike Itself g g
    at true e own more = let is : f ≡ g = cc in subst (λ (x : FieldShape). ReadAlike Itself x x) is own
    at false e own more = more e

-- a field that stands in both lists
found_later : (n : ℕ) (fs gs : List FieldShape) (g : FieldShape) → are_later gs ≡ true → field_of n gs ≡ Some g → field_of n fs ≡ Some g
    → FoundAlike Itself n fs g
found_later n fs gs g h e found = record { field = g; found = found; alike = later_field n gs g h e }

later_alike : (one other : Shape) → IsProper one → IsProper other → ((d : ℕ) → fields_of one (suc (suc d)) ≡ fields_of other (suc (suc d)))
    → ((d : ℕ) → are_later (fields_of other (suc (suc d))) ≡ true) → AreAlike one other Itself
later_alike one other proper other_proper same later = record {
  one_proper = proper;
  other_proper = other_proper;
  fields = λ t u pair n g e.
      let it : field_of n (fields_of other (suc (suc pair.0))) ≡ Some g =
      subst (λ (x : ℕ). field_of n (fields_of other x) ≡ Some g) pair.2 e in
      subst (λ (x : ℕ). FoundAlike Itself n (fields_of one x) g) (sym pair.1)
      (found_later n (fields_of one (suc (suc pair.0))) (fields_of other (suc (suc pair.0))) g (later pair.0) it (ap (field_of n) (same pair.0) ∙ it));
}

options_alike : AreAlike options_schema descriptor_schema Itself
options_alike = later_alike options_schema descriptor_schema options_schema_proper descriptor_schema_proper types_are_same types_are_later

schema_alike : AreAlike descriptor_schema options_schema Itself
schema_alike =
    later_alike descriptor_schema options_schema descriptor_schema_proper options_schema_proper (λ d. sym (types_are_same d))
    (λ d. ap are_later (types_are_same d) ∙ types_are_later d)

-- ---- the types of `source_code_info`

-- SourceCodeInfo and SourceCodeInfo.Location, by their places in the shape of the records and in the schema
abbrev Sources : ℕ → ℕ → Type 0
Sources t u = ((t ≡ 12) × (u ≡ 28)) ⊎ ((t ≡ 13) × (u ≡ 29))

-- lists of fields that read alike one by one
abbrev ListAlike : List FieldShape → List FieldShape → Type 0
ListAlike [] [] = Unit {0}
ListAlike (f ∷ fs) (g ∷ gs) = (f.number ≡ g.number) × ReadAlike Sources f g × ListAlike fs gs
ListAlike _ _ = ⊥

list_found : (fs gs : List FieldShape) → ListAlike fs gs → (n : ℕ) (h : FieldShape) → field_of n gs ≡ Some h → FoundAlike Sources n fs h
list_found [] [] l n h e = absurd cc
list_found [] (g ∷ gs) l n h e = absurd l
list_found (f ∷ fs) [] l n h e = absurd l
list_found (f ∷ fs) (g ∷ gs) (same, own, rest) n h e = at (n == g.number) refl e (list_found fs gs rest n h)
  where
    at : (b : Bool) → (n == g.number) ≡ b → (if b then Some g else field_of n gs) ≡ Some h → (field_of n gs ≡ Some h → FoundAlike Sources n fs h)
        → FoundAlike Sources n (f ∷ fs) h
    at true d e more =
        let is : g ≡ h = cc in
        let here : (n == f.number) ≡ true = ap (λ m. n == m) same ∙ d in
        record { field = f; found = rw here refl; alike = subst (λ (x : FieldShape). ReadAlike Sources f x) is own }
    at false d e more =
        let there = more e in
        let apart : (n == f.number) ≡ false = ap (λ m. n == m) same ∙ d in
        record { field = there.field; found = rw apart there.found; alike = there.alike }

-- the fields of SourceCodeInfo in the schema
abbrev schema_source_fields : List FieldShape
schema_source_fields = list_field 1 (codes "location") (codes "location") (kind.Message 29) ∷ []

sources_listed : ListAlike source_code_info_fields schema_source_fields
sources_listed = (refl, record { cardinality = refl; no_map = refl; kind = inr (13, 29, refl, refl, inr (refl, refl)) }, tt)

-- fields that are no messages read like themselves
plain_listed : (fs : List FieldShape) → list_all (λ (f : FieldShape). is_no_map f.cardinality && is_plain f.kind) fs ≡ true → ListAlike fs fs
plain_listed [] h = tt
plain_listed (f ∷ fs) h =
    let parts = both (is_no_map f.cardinality && is_plain f.kind) (list_all (λ (g : FieldShape). is_no_map g.cardinality && is_plain g.kind) fs) h in
    let own = both (is_no_map f.cardinality) (is_plain f.kind) parts.0 in
    (refl, record { cardinality = refl; no_map = own.0; kind = inl (refl, own.1) }, plain_listed fs parts.1)

locations_listed : ListAlike location_fields location_fields
locations_listed = plain_listed location_fields refl

shape_source : fields_of descriptor_shape 12 ≡ source_code_info_fields
unfolding descriptor_shape
shape_source = refl

shape_location : fields_of descriptor_shape 13 ≡ location_fields
unfolding descriptor_shape
shape_location = refl

source_types : (t u : ℕ) → Sources t u → (n : ℕ) (g : FieldShape) → field_of n (fields_of descriptor_schema u) ≡ Some g
    → FoundAlike Sources n (fields_of descriptor_shape t) g
source_types t u (inl (is, other_is)) n g e =
    rw (is, shape_source) (list_found source_code_info_fields schema_source_fields sources_listed n g
    (rw (other_is, source_is) at e))
source_types t u (inr (is, other_is)) n g e =
    rw (is, shape_location) (list_found location_fields location_fields locations_listed n g (rw (other_is, location_is) at e))

sources_alike : AreAlike descriptor_shape descriptor_schema Sources
sources_alike = record { one_proper = descriptor_shape_proper; other_proper = descriptor_schema_proper; fields = source_types }

-- ---- the fields of a file

beside : (xs ys : List FieldShape) (y : FieldShape) (n : ℕ) → (n == y.number) ≡ false → field_of n (xs ++ (y ∷ ys)) ≡ field_of n (xs ++ ys)
beside [] ys y n h = rw h refl
beside (x ∷ xs) ys y n h = ap (λ (o : Option FieldShape). if n == x.number then Some x else o) (beside xs ys y n h)

other_field : (n : ℕ) → (n == 9) ≡ false → field_of n (fields_of descriptor_schema 1) ≡ field_of n (fields_of options_schema 1)
other_field n h =
    ap (field_of n) file_parts ∙ beside (take 8 (fields_of options_schema 1)) (drop 8 (fields_of options_schema 1)) source_field n h
    ∙ ap (field_of n) (take-append-drop 8 (fields_of options_schema 1))

-- the field 9 in the shape of the records
abbrev own_field : FieldShape
own_field = one_field 9 (codes "source_code_info") (codes "sourceCodeInfo") (kind.Message 12)

shape_field : field_of 9 (fields_of descriptor_shape 1) ≡ Some own_field
unfolding descriptor_shape
shape_field = refl

source_alike : (n : ℕ) (g : FieldShape) → (n == 9) ≡ true → field_of n (fields_of descriptor_schema 1) ≡ Some g
    → FoundAlike Sources n (fields_of descriptor_shape 1) g
source_alike n g nine e =
    let is = eqb-true n 9 nine in
    let same : Some source_field ≡ Some g = sym source_found ∙ ap (λ m. field_of m (fields_of descriptor_schema 1)) (sym is) ∙ e in
    let own : source_field ≡ g = cc in
    let alike : ReadAlike Sources own_field source_field =
    record { cardinality = refl; no_map = refl; kind = inr (12, 28, refl, refl, inl (refl, refl)) } in
    record {
      field = own_field;
      found = ap (λ m. field_of m (fields_of descriptor_shape 1)) is ∙ shape_field;
      alike = subst (ReadAlike Sources own_field) own alike;
    }

-- ---- a record of a file

-- the record means something alone as one of a file
abbrev means_in : Shape → Rec → Bool
means_in s r = is_some (meaning s 100 (fields_of s 1) (r ∷ []))

by_schema : (r : Rec) → means_in descriptor_shape r ≡ true → means_in options_schema r ≡ true → means_in descriptor_schema r ≡ true
by_schema r own without = at (number_of r == 9) refl
  where
    at : (b : Bool) → (number_of r == 9) ≡ b → means_in descriptor_schema r ≡ true
    at true nine =
        means_alike descriptor_shape descriptor_schema Sources 100 (fields_of descriptor_shape 1) (fields_of descriptor_schema 1) r sources_alike
        (are_above descriptor_schema descriptor_schema_proper (fields_of descriptor_schema 1) (inl (1, refl)))
        (λ g e. source_alike (number_of r) g nine e) own
    at false other =
        means_alike options_schema descriptor_schema Itself 100 (fields_of options_schema 1) (fields_of descriptor_schema 1) r options_alike
        (are_above descriptor_schema descriptor_schema_proper (fields_of descriptor_schema 1) (inl (1, refl)))
        (λ g e. let it : field_of (number_of r) (fields_of options_schema 1) ≡ Some g = sym (other_field (number_of r) other) ∙ e in
        found_later (number_of r) (fields_of options_schema 1) (fields_of options_schema 1) g file_is_later it it) without

by_options : (r : Rec) → means_in descriptor_schema r ≡ true → means_in options_schema r ≡ true
by_options r own =
    means_alike descriptor_schema options_schema Itself 100 (fields_of descriptor_schema 1) (fields_of options_schema 1) r schema_alike
    (are_above options_schema options_schema_proper (fields_of options_schema 1) (inl (1, refl)))
    (λ g e. found_later (number_of r) (fields_of descriptor_schema 1) (fields_of options_schema 1) g file_is_later e
    (other_field (number_of r) (not_nine g e (number_of r == 9) refl) ∙ e)) own
  where
    not_nine : (g : FieldShape) → field_of (number_of r) (fields_of options_schema 1) ≡ Some g → (b : Bool) → (number_of r == 9) ≡ b
        → (number_of r == 9) ≡ false
    not_nine g e false d = d
    not_nine g e true d =
        let bad : Some g ≡ None = sym e ∙ ap (λ m. field_of m (fields_of options_schema 1)) (eqb-true (number_of r) 9 d) ∙ no_source in
        absurd cc

-- ---- a file

same_truth : (a b : Bool) → (a ≡ true → b ≡ true) → (b ≡ true → a ≡ true) → a ≡ b
same_truth true b there back = sym (there refl)
same_truth false true there back = back refl
same_truth false false there back = refl

pub file_alike : (text : List ℕ) → is_some (meaning_of descriptor_shape 1 text) ≡ true
    → is_some (meaning_of options_schema 1 text) ≡ is_some (meaning_of descriptor_schema 1 text)
file_alike text own = at (records_in 100 text) own
  where
    at : (o : Option (List Rec)) → is_some (option_and_then (meaning descriptor_shape 100 (fields_of descriptor_shape 1)) o) ≡ true
        → is_some (option_and_then (meaning options_schema 100 (fields_of options_schema 1)) o)
        ≡ is_some (option_and_then (meaning descriptor_schema 100 (fields_of descriptor_schema 1)) o)
    at None e = refl
    at (Some rs) e =
        same_truth (is_some (meaning options_schema 100 (fields_of options_schema 1) rs))
        (is_some (meaning descriptor_schema 100 (fields_of descriptor_schema 1) rs))
        (together descriptor_shape options_schema descriptor_schema 100 (fields_of descriptor_shape 1) (fields_of options_schema 1)
        (fields_of descriptor_schema 1) by_schema rs e)
        (λ b. together descriptor_schema descriptor_schema options_schema 100 (fields_of descriptor_schema 1) (fields_of descriptor_schema 1)
        (fields_of options_schema 1) (λ r x y. by_options r x) rs b b)
