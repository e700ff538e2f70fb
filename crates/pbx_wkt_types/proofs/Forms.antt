-- What the form of a type says of its fields.
use Rattle.std.proofs.Common.{◌≡◌, ℕ, List, [], ◌∷◌, length, Bool, true, codes, None, refl, subst, arith}
use Rattle.pbx_content.specs.declared.shape.Kind.{Kind}
use Rattle.pbx_content.specs.declared.shape.Kind.TheVariants as kind
use Rattle.pbx_content.specs.declared.shape.Cardinality.{Cardinality}
use Rattle.pbx_content.specs.declared.shape.Cardinality.TheVariants.{Singular, Repeated, Map}
use Rattle.pbx_content.specs.declared.shape.Shape.{Shape}
use Rattle.pbx_content.specs.declared.shape.FieldShape.{FieldShape}
use Rattle.pbx_content.specs.Shape.{declared_of, fields_of, field_of, is_float}
use Rattle.pbx_wkt_types.specs.Types.{message_name}
use Rattle.pbx_wkt_types.specs.Known.{scalar, message, google, seconds_and_nanos, of_value, value_rows}
use Rattle.pbx_wkt_types.specs.Shapes.{form_of, has_struct_entry}
use Rattle.pbx_wkt_types.specs.declared.form.Form.TheVariants as forms
use Rattle.pbx_wkt_types.proofs.Declared.{HasRow, HasRows, HasField, of_form, is_wrapped_kind}

-- ---- fields

-- a scalar of a row that is a member of no oneof
as_field : (shape : Shape) (t n : ℕ) (name json : List ℕ) (k : Kind) (c : Cardinality)
    → HasRow shape t (record { number = n; name = name; json_name = json; sort = scalar k; cardinality = c; oneof = None }) → HasField shape t n k c
as_field shape t n name json k c h =
    record { field = h.field; there = h.there; of_kind = h.of_sort; of_cardinality = h.of_cardinality; apart = h.of_oneof; own = h.own }

-- a field of messages of the full name
pub record HasMessages (shape : Shape) (t n : ℕ) (name : List ℕ) (c : Cardinality) : Type 0 where
  pub place : ℕ
  pub named : message_name shape place ≡ name
  pub has : HasField shape t n (kind.Message place) c

as_messages : (shape : Shape) (t n : ℕ) (own json name : List ℕ) (c : Cardinality)
    → HasRow shape t (record { number = n; name = own; json_name = json; sort = message name; cardinality = c; oneof = None }) → HasMessages shape t n name c
as_messages shape t n own json name c h = record {
  place = h.of_sort.0;
  named = h.of_sort.2;
  has = record { field = h.field; there = h.there; of_kind = h.of_sort.1; of_cardinality = h.of_cardinality; apart = h.of_oneof; own = h.own };
}

-- ---- the forms

-- the fields of `Timestamp` and `Duration`
pub record HasTime (shape : Shape) (t : ℕ) : Type 0 where
  pub seconds : HasField shape t 1 kind.Int64 Singular
  pub nanos : HasField shape t 2 kind.Int32 Singular
  pub alone : length (declared_of shape t) ≡ 2

time_from : (shape : Shape) (t : ℕ) → HasRows shape t seconds_and_nanos → HasTime shape t
time_from shape t h = record {
  seconds = as_field shape t 1 (codes "seconds") (codes "seconds") kind.Int64 Singular h.each.0;
  nanos = as_field shape t 2 (codes "nanos") (codes "nanos") kind.Int32 Singular h.each.1.0;
  alone = h.alone;
}

pub timestamp_fields : (shape : Shape) (t : ℕ) → form_of shape t ≡ forms.Timestamp → HasTime shape t
timestamp_fields shape t h =
    let of = of_form shape t forms.Timestamp h refl in
    time_from shape t (subst (HasRows shape t) of.are of.has)

pub duration_fields : (shape : Shape) (t : ℕ) → form_of shape t ≡ forms.Duration → HasTime shape t
duration_fields shape t h =
    let of = of_form shape t forms.Duration h refl in
    time_from shape t (subst (HasRows shape t) of.are of.has)

-- the field of `FieldMask`
pub record HasPaths (shape : Shape) (t : ℕ) : Type 0 where
  pub paths : HasField shape t 1 kind.String Repeated
  pub alone : length (declared_of shape t) ≡ 1

pub mask_fields : (shape : Shape) (t : ℕ) → form_of shape t ≡ forms.FieldMask → HasPaths shape t
mask_fields shape t h =
    let of = of_form shape t forms.FieldMask h refl in
    let has = subst (HasRows shape t) of.are of.has in
    record { paths = as_field shape t 1 (codes "paths") (codes "paths") kind.String Repeated has.each.0; alone = has.alone }

-- `Empty` has none
pub empty_fields : (shape : Shape) (t : ℕ) → form_of shape t ≡ forms.Empty → declared_of shape t ≡ []
empty_fields shape t h =
    let of = of_form shape t forms.Empty h refl in
    let has = subst (HasRows shape t) of.are of.has in
    none (declared_of shape t) has.alone
  where
    none : (fs : List FieldShape) → length fs ≡ 0 → fs ≡ []
    none [] e = refl
    none (f ∷ fs) e = absurd (omega arith)

-- the field of a wrapper, whose kind passes the test
pub record HasValue (shape : Shape) (t : ℕ) (test : Kind → Bool) : Type 0 where
  pub of : Kind
  pub passes : test of ≡ true
  pub value : HasField shape t 1 of Singular
  pub alone : length (declared_of shape t) ≡ 1

value_from : (shape : Shape) (t : ℕ) (test : Kind → Bool) (k : Kind) → test k ≡ true → HasRows shape t (of_value k) → HasValue shape t test
value_from shape t test k passes h =
    record { of = k; passes = passes; value = as_field shape t 1 (codes "value") (codes "value") k Singular h.each.0; alone = h.alone }

pub wrapper_fields : (shape : Shape) (t : ℕ) → form_of shape t ≡ forms.Wrapper → HasValue shape t is_wrapped_kind
wrapper_fields shape t h =
    let of = of_form shape t forms.Wrapper h refl in
    value_from shape t is_wrapped_kind of.are.0 of.are.1 (subst (HasRows shape t) of.are.2 of.has)

pub float_wrapper_fields : (shape : Shape) (t : ℕ) → form_of shape t ≡ forms.FloatWrapper → HasValue shape t is_float
float_wrapper_fields shape t h =
    let of = of_form shape t forms.FloatWrapper h refl in
    value_from shape t is_float of.are.0 of.are.1 (subst (HasRows shape t) of.are.2 of.has)

-- the fields of `Any`
pub record HasPayload (shape : Shape) (t : ℕ) : Type 0 where
  pub type_url : HasField shape t 1 kind.String Singular
  pub value : HasField shape t 2 kind.Bytes Singular
  pub alone : length (declared_of shape t) ≡ 2

pub any_fields : (shape : Shape) (t : ℕ) → form_of shape t ≡ forms.Any → HasPayload shape t
any_fields shape t h =
    let of = of_form shape t forms.Any h refl in
    let has = subst (HasRows shape t) of.are of.has in
    record {
      type_url = as_field shape t 1 (codes "type_url") (codes "typeUrl") kind.String Singular has.each.0;
      value = as_field shape t 2 (codes "value") (codes "value") kind.Bytes Singular has.each.1.0;
      alone = has.alone;
    }

-- the field of `Struct`
pub record HasMembers (shape : Shape) (t : ℕ) : Type 0 where
  pub fields : HasMessages shape t 1 (google (codes "Value")) (Map kind.String)
  pub entry : has_struct_entry shape (field_of 1 (fields_of shape t)) ≡ true
  pub alone : length (declared_of shape t) ≡ 1

pub struct_fields : (shape : Shape) (t : ℕ) → form_of shape t ≡ forms.Struct → HasMembers shape t
struct_fields shape t h =
    let of = of_form shape t forms.Struct h refl in
    let has = subst (HasRows shape t) of.are of.has in
    record {
      fields = as_messages shape t 1 (codes "fields") (codes "fields") (google (codes "Value")) (Map kind.String) has.each.0;
      entry = of.entry;
      alone = has.alone;
    }

-- the field of `ListValue`
pub record HasElements (shape : Shape) (t : ℕ) : Type 0 where
  pub values : HasMessages shape t 1 (google (codes "Value")) Repeated
  pub alone : length (declared_of shape t) ≡ 1

pub list_fields : (shape : Shape) (t : ℕ) → form_of shape t ≡ forms.ListValue → HasElements shape t
list_fields shape t h =
    let of = of_form shape t forms.ListValue h refl in
    let has = subst (HasRows shape t) of.are of.has in
    record { values = as_messages shape t 1 (codes "values") (codes "values") (google (codes "Value")) Repeated has.each.0; alone = has.alone }

-- the fields of `Value` are those of its rows
pub value_fields : (shape : Shape) (t : ℕ) → form_of shape t ≡ forms.Value → HasRows shape t value_rows
value_fields shape t h =
    let of = of_form shape t forms.Value h refl in
    subst (HasRows shape t) of.are of.has
