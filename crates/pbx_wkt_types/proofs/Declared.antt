-- What the table says of a type that has the shape of its name.
use Rattle.std.proofs.Common.{◌≡◌, drop, ℕ, List, [], ◌∷◌, length, Bool, true, false, not, ◌&&◌, ◌==◌, if◌then◌else◌, Option, Some, None, refl, sym, ap, ◌∙◌, subst}
use Rattle.std.specs.List.{list_all, AllByRecursion}
use Rattle.std.specs.Str.{bytes_eq}
use Rattle.std.proofs.lemmas.Slice.Eq.{bytes_eq-Decides}
use Rattle.std.proofs.lemmas.Bool.{eqb-true}
use Rattle.pbx_wire.proofs.Written.{both}
use Rattle.pbx_content.specs.declared.shape.Kind.{Kind}
use Rattle.pbx_content.specs.declared.shape.Kind.TheVariants as kind
use Rattle.pbx_content.specs.declared.shape.Cardinality.{Cardinality}
use Rattle.pbx_content.specs.declared.shape.Cardinality.TheVariants.{Singular, Repeated, Map}
use Rattle.pbx_content.specs.declared.shape.Shape.{Shape}
use Rattle.pbx_content.specs.declared.shape.FieldShape.{FieldShape}
use Rattle.pbx_content.specs.Shape.{declared_of, fields_of, field_of, is_float}
use Rattle.pbx_wkt_types.specs.Types.{message_name, enum_name}
use Rattle.pbx_wkt_types.specs.Known.{Sort, scalar, message, enum, Row, Known, known_types, known_of, any_rows, seconds_and_nanos, struct_rows, of_value, mask_rows, list_rows, value_rows}
use Rattle.pbx_wkt_types.specs.Shapes.{is_proto3_at, type_number, has_sort, same_cardinality, same_oneof, has_member_presence, is_row_there, has_row, has_rows, has_entry, is_as_declared, form_by, form_of}
use Rattle.pbx_wkt_types.specs.declared.form.Form.{Form}
use Rattle.pbx_wkt_types.specs.declared.form.Form.TheVariants as forms
use Rattle.pbx_wkt_types.proofs.WellKnown.{found}

-- ---- kinds by their numbers

-- neither a message nor an enum
abbrev pub is_scalar : Kind → Bool
is_scalar (kind.Message t) = false
is_scalar (kind.Enum e) = false
is_scalar _ = true

abbrev is_scalar_number : ℕ → Bool
is_scalar_number n = not (n == 11) && not (n == 14)

abbrev kind_from : ℕ → Kind
kind_from n =
    if n == 1 then kind.Double else if n == 2 then kind.Float else if n == 3 then kind.Int64 else if n == 4 then kind.Uint64
    else if n == 5 then kind.Int32 else if n == 6 then kind.Fixed64 else if n == 7 then kind.Fixed32 else if n == 8 then kind.Bool
    else if n == 9 then kind.String else if n == 12 then kind.Bytes else if n == 13 then kind.Uint32 else if n == 15 then kind.Sfixed32
    else if n == 16 then kind.Sfixed64 else if n == 17 then kind.Sint32 else kind.Sint64

scalar_number : (k : Kind) → is_scalar k ≡ is_scalar_number (type_number k)
scalar_number (kind.Message t) = refl
scalar_number (kind.Enum e) = refl
scalar_number _ = refl

kind_back : (k : Kind) → is_scalar k ≡ true → kind_from (type_number k) ≡ k
kind_back (kind.Message t) h = absurd cc
kind_back (kind.Enum e) h = absurd cc
kind_back _ h = refl

same_kind : (k l : Kind) → is_scalar k ≡ true → (type_number k == type_number l) ≡ true → l ≡ k
same_kind k l h e =
    let same = eqb-true (type_number k) (type_number l) e in
    let other : is_scalar l ≡ true = scalar_number l ∙ ap is_scalar_number (sym same) ∙ sym (scalar_number k) ∙ h in
    sym (kind_back l other) ∙ ap kind_from (sym same) ∙ kind_back k h

-- ---- a field as its row declares it

-- a row's scalars are scalars
abbrev is_plain_sort : Sort → Bool
is_plain_sort (scalar k) = is_scalar k
is_plain_sort _ = true

abbrev is_plain_cardinality : Cardinality → Bool
is_plain_cardinality (Map k) = is_scalar k
is_plain_cardinality _ = true

abbrev is_plain : Row → Bool
is_plain r = is_plain_sort r.sort && is_plain_cardinality r.cardinality

-- the kind is what the row says
abbrev pub IsSort : Shape → Sort → Kind → Type 0
IsSort shape (scalar k) l = l ≡ k
IsSort shape (message name) l = (t : ℕ) × (l ≡ kind.Message t) × (message_name shape t ≡ name)
IsSort shape (enum name) l = (e : ℕ) × (l ≡ kind.Enum e) × (enum_name shape e ≡ name)

-- the type has the field of the row
pub record HasRow (shape : Shape) (t : ℕ) (r : Row) : Type 0 where
  pub field : FieldShape
  pub there : field_of r.number (fields_of shape t) ≡ Some field
  pub named : field.name ≡ r.name
  pub json_named : field.json_name ≡ r.json_name
  pub of_cardinality : field.cardinality ≡ r.cardinality
  pub of_sort : IsSort shape r.sort field.kind
  pub of_oneof : field.oneof ≡ r.oneof
  pub own : field.is_extension ≡ false
  pub of_presence : has_member_presence r.oneof field.presence ≡ true

-- the type has a field of the number, the kind and the cardinality, which is a member of no oneof and no extension
pub record HasField (shape : Shape) (t n : ℕ) (k : Kind) (c : Cardinality) : Type 0 where
  pub field : FieldShape
  pub there : field_of n (fields_of shape t) ≡ Some field
  pub of_kind : field.kind ≡ k
  pub of_cardinality : field.cardinality ≡ c
  pub apart : field.oneof ≡ None
  pub own : field.is_extension ≡ false

sort_from : (shape : Shape) (s : Sort) (l : Kind) → is_plain_sort s ≡ true → has_sort shape s l ≡ true → IsSort shape s l
sort_from shape (scalar k) l p h = same_kind k l p h
sort_from shape (message name) (kind.Message t) p h = (t, refl, (bytes_eq-Decides (message_name shape t) name).0 h)
sort_from shape (message name) _ p h = absurd cc
sort_from shape (enum name) (kind.Enum e) p h = (e, refl, (bytes_eq-Decides (enum_name shape e) name).0 h)
sort_from shape (enum name) _ p h = absurd cc

cardinality_from : (c d : Cardinality) → is_plain_cardinality c ≡ true → same_cardinality c d ≡ true → d ≡ c
cardinality_from Singular Singular p h = refl
cardinality_from Repeated Repeated p h = refl
cardinality_from (Map k) (Map l) p h = ap Map (same_kind k l p h)
cardinality_from _ _ p h = absurd cc

oneof_from : (a b : Option ℕ) → same_oneof a b ≡ true → b ≡ a
oneof_from None None h = refl
oneof_from (Some a) (Some b) h = ap Some (sym (eqb-true a b h))
oneof_from None (Some b) h = absurd cc
oneof_from (Some a) None h = absurd cc

not_from : (b : Bool) → not b ≡ true → b ≡ false
not_from true h = absurd cc
not_from false h = refl

row_from : (shape : Shape) (t : ℕ) (r : Row) → is_plain r ≡ true → has_row shape t r ≡ true → HasRow shape t r
row_from shape t r plain h = at (field_of r.number (fields_of shape t)) refl h
  where
    at : (o : Option FieldShape) → field_of r.number (fields_of shape t) ≡ o → is_row_there shape r o ≡ true → HasRow shape t r
    at None is e = absurd cc
    at (Some f) is e =
        let p = both (is_plain_sort r.sort) (is_plain_cardinality r.cardinality) plain in
        let m = both _ (has_member_presence r.oneof f.presence) e in
        let a = both _ (not f.is_extension) m.0 in
        let b = both _ (same_oneof r.oneof f.oneof) a.0 in
        let c = both _ (has_sort shape r.sort f.kind) b.0 in
        let d = both _ (same_cardinality r.cardinality f.cardinality) c.0 in
        let g = both (bytes_eq r.name f.name) (bytes_eq r.json_name f.json_name) d.0 in
        record {
          field = f;
          there = is;
          named = sym ((bytes_eq-Decides r.name f.name).0 g.0);
          json_named = sym ((bytes_eq-Decides r.json_name f.json_name).0 g.1);
          of_cardinality = cardinality_from r.cardinality f.cardinality p.1 d.1;
          of_sort = sort_from shape r.sort f.kind p.0 c.1;
          of_oneof = oneof_from r.oneof f.oneof b.1;
          own = not_from f.is_extension a.1;
          of_presence = m.1;
        }

rows_from : (shape : Shape) (t : ℕ) (rs : List Row) → list_all is_plain rs ≡ true → list_all (has_row shape t) rs ≡ true → AllByRecursion (HasRow shape t) rs
rows_from shape t [] plain h = tt
rows_from shape t (r ∷ rs) plain h =
    let p = both (is_plain r) (list_all is_plain rs) plain in
    let a = both (has_row shape t r) (list_all (has_row shape t) rs) h in
    (row_from shape t r p.0 a.0, rows_from shape t rs p.1 a.1)

-- the type has the fields of the rows, and no others
pub record HasRows (shape : Shape) (t : ℕ) (rs : List Row) : Type 0 where
  pub each : AllByRecursion (HasRow shape t) rs
  pub alone : length (declared_of shape t) ≡ length rs

pub all_rows : (shape : Shape) (t : ℕ) (rs : List Row) → list_all is_plain rs ≡ true → has_rows shape t rs ≡ true → HasRows shape t rs
all_rows shape t rs plain h =
    let a = both (length (declared_of shape t) == length rs) (list_all (has_row shape t) rs) h in
    record { each = rows_from shape t rs plain a.1; alone = eqb-true (length (declared_of shape t)) (length rs) a.0 }

-- ---- the rows of each form

-- the kinds that a wrapper has, but for the floats
abbrev pub is_wrapped_kind : Kind → Bool
is_wrapped_kind kind.Int32 = true
is_wrapped_kind kind.Int64 = true
is_wrapped_kind kind.Uint32 = true
is_wrapped_kind kind.Uint64 = true
is_wrapped_kind kind.Bool = true
is_wrapped_kind kind.String = true
is_wrapped_kind kind.Bytes = true
is_wrapped_kind _ = false

-- the rows that types of the form have
abbrev pub AreRowsOf : Form → List Row → Type 0
AreRowsOf forms.Any rs = rs ≡ any_rows
AreRowsOf forms.Timestamp rs = rs ≡ seconds_and_nanos
AreRowsOf forms.Duration rs = rs ≡ seconds_and_nanos
AreRowsOf forms.Struct rs = rs ≡ struct_rows
AreRowsOf forms.ListValue rs = rs ≡ list_rows
AreRowsOf forms.Value rs = rs ≡ value_rows
AreRowsOf forms.FieldMask rs = rs ≡ mask_rows
AreRowsOf forms.Empty rs = rs ≡ []
AreRowsOf forms.Wrapper rs = (k : Kind) × (is_wrapped_kind k ≡ true) × (rs ≡ of_value k)
AreRowsOf forms.FloatWrapper rs = (k : Kind) × (is_float k ≡ true) × (rs ≡ of_value k)
AreRowsOf forms.Fields rs = ⊥
AreRowsOf forms.Misshapen rs = ⊥

-- a type of the table: its rows are those of its form, and their scalars are scalars
abbrev IsListed : Known → Type 0
IsListed k = AreRowsOf k.form k.rows × (list_all is_plain k.rows ≡ true)

each_other : AllByRecursion IsListed (drop 13 known_types)
each_other = ((refl, refl), ((refl, refl), ((refl, refl), ((refl, refl), tt))))

each_last : AllByRecursion IsListed (drop 9 known_types)
each_last = (((kind.Uint64, refl, refl), refl), (((kind.Bool, refl, refl), refl), (((kind.String, refl, refl), refl), (((kind.Bytes, refl, refl), refl), each_other))))

each_wrapper : AllByRecursion IsListed (drop 4 known_types)
each_wrapper = (((kind.Float, refl, refl), refl), (((kind.Double, refl, refl), refl), (((kind.Int32, refl, refl), refl), (((kind.Int64, refl, refl), refl), (((kind.Uint32, refl, refl), refl), each_last)))))

each_listed : AllByRecursion IsListed known_types
each_listed = ((refl, refl), ((refl, refl), ((refl, refl), ((refl, refl), each_wrapper))))

-- the form is that of a type of the table
abbrev pub is_listed_form : Form → Bool
is_listed_form forms.Fields = false
is_listed_form forms.Misshapen = false
is_listed_form _ = true

-- the type has the fields of its form, and of `Struct` the entry
pub record IsOfForm (shape : Shape) (t : ℕ) (form : Form) : Type 0 where
  pub rows : List Row
  pub are : AreRowsOf form rows
  pub has : HasRows shape t rows
  pub entry : has_entry shape t form ≡ true
  pub proto3 : is_proto3_at shape.messages t ≡ true

of_known : (shape : Shape) (t : ℕ) (k : Known) → IsListed k → is_as_declared shape t k ≡ true → IsOfForm shape t k.form
unfolding is_as_declared
of_known shape t k listed h =
    let a = both _ (has_entry shape t k.form) h in
    let b = both (is_proto3_at shape.messages t) (has_rows shape t k.rows) a.0 in
    record { rows = k.rows; are = listed.0; has = all_rows shape t k.rows listed.1 b.1; entry = a.1; proto3 = b.0 }

pub of_form : (shape : Shape) (t : ℕ) (form : Form) → form_of shape t ≡ form → is_listed_form form ≡ true → IsOfForm shape t form
unfolding form_of known_of
of_form shape t form h listed = at (known_of (message_name shape t)) refl h
  where
    by : (k : Known) (b : Bool) → is_as_declared shape t k ≡ b → IsListed k → (if b then k.form else forms.Misshapen) ≡ form → IsOfForm shape t form
    by k true is own e = subst (IsOfForm shape t) e (of_known shape t k own is)
    by k false is own e = absurd (let same : is_listed_form form ≡ false = sym (ap is_listed_form e) in cc)

    at : (o : Option Known) → known_of (message_name shape t) ≡ o → form_by shape t o ≡ form → IsOfForm shape t form
    at None is e = absurd (let same : is_listed_form form ≡ false = sym (ap is_listed_form e) in cc)
    at (Some k) is e =
        by k (is_as_declared shape t k) refl (found IsListed (λ (k : Known). bytes_eq k.name (message_name shape t)) known_types k is each_listed) e
