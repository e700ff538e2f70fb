-- A `Struct`, a `ListValue` or a `Value` that was read of a tree has a tree, which reads back as it.
use Rattle.std.proofs.Common.{◌≡◌, drop, ◌⊎◌, inl, inr, ℕ, pos, ◌&&◌, List, [], ◌∷◌, Bool, true, false, if◌then◌else◌, codes, Option, Some, None, option_map, refl, ap, sym, ◌∙◌, subst}
use Rattle.std.specs.Prelude.{Result, Ok}
use Rattle.std.specs.List.{AllByRecursion}
use Rattle.std.specs.Str.{bytes_eq}
use Rattle.std.proofs.lemmas.Slice.Eq.{bytes_eq-Decides}
use Rattle.serde_json.specs.Data.{Data, null, boolean, number, string, array, object, no_items, no_members}
use Rattle.pbx_content.specs.Content as content
use Rattle.pbx_content.specs.Content.{Content, Fields, Val}
use Rattle.pbx_content.specs.Encoding.{type_of}
use Rattle.pbx_content.specs.Meaning.{shown}
use Rattle.pbx_content.specs.Shape.{declared_of, fields_of, field_of, is_float}
use Rattle.pbx_content.specs.declared.shape.Cardinality.{Cardinality}
use Rattle.pbx_content.specs.declared.shape.Cardinality.TheVariants.{Singular, Repeated, Map}
use Rattle.pbx_content.specs.declared.shape.Kind.{Kind}
use Rattle.pbx_content.specs.declared.shape.Kind.TheVariants as kind
use Rattle.pbx_content.specs.declared.shape.FieldShape.{FieldShape}
use Rattle.pbx_content.specs.declared.shape.Shape.{Shape}
use Rattle.pbx_wkt_types.specs.Known.{Known, google, known_of, known_types, value_rows, Row}
use Rattle.pbx_wkt_types.specs.Shapes.{form_of, form_by, is_as_declared}
use Rattle.pbx_wkt_types.specs.Types.{message_name}
use Rattle.pbx_wkt_types.specs.declared.form.Form.{Form}
use Rattle.pbx_wkt_types.specs.declared.form.Form.TheVariants as forms
use Rattle.pbx_wkt_types.proofs.Declared.{HasRow, HasRows}
use Rattle.pbx_wkt_types.proofs.Forms.{struct_fields, list_fields, value_fields}
use Rattle.pbx_wkt_types.proofs.WellKnown.{found, found_passes}
use Rattle.pbx_json_meaning.specs.Asked.{Target, single, list, map, target_by, has_presence, presence_by, reads_null, one}
use Rattle.pbx_json_meaning.specs.Canonical.{Writing, object_tree, form_tree, keeps_float, tells, content_tree, fields_tell, truth_by, text_by}
use Rattle.pbx_json_meaning.specs.Forms.{is_object_form, skips, kind_in, kind_at, type_at, shown_at, with_first, holding, Own, a_list, a_map, struct_read, list_value_read}
use Rattle.pbx_json_meaning.specs.Forms.{value_with, form_read, itself}
use Rattle.pbx_json_meaning.specs.Scalars.{family}
use Rattle.pbx_json_meaning.specs.Stands.{message_of, object_of, own_as, message_as, list_as, map_as}
use Rattle.pbx_json_meaning.specs.declared.kind.JsonKind.{JsonKind}
use Rattle.pbx_json_laws.proofs.Back.{IsBack}
use Rattle.pbx_json_laws.proofs.Fits.{ValueHeld, a_null, a_truth, a_text, a_struct, a_values, number_held, value_held}
use Rattle.pbx_json_laws.proofs.Parts.{from_map}
use Rattle.pbx_json_laws.proofs.Read.{items_in, entries_in}
use Rattle.pbx_json_laws.proofs.ScalarsBack.{no_null}
use Rattle.pbx_json_laws.proofs.ValueFields.{struct_form, list_form}

-- ---- names and forms

-- a type of the form has its name
abbrev IsNamedSo : Known → Type 0
IsNamedSo k = k.form ≡ forms.Value → k.name ≡ google (codes "Value")

each_later : AllByRecursion IsNamedSo (drop 9 known_types)
each_later = (λ e. cc, (λ e. cc, (λ e. cc, (λ e. cc, (λ e. cc, (λ e. cc, (λ e. refl, (λ e. cc, tt))))))))

each_named : AllByRecursion IsNamedSo known_types
each_named = (λ e. cc, (λ e. cc, (λ e. cc, (λ e. cc, (λ e. cc, (λ e. cc, (λ e. cc, (λ e. cc, (λ e. cc, each_later)))))))))

value_named : (shape : Shape) (t : ℕ) → form_of shape t ≡ forms.Value → message_name shape t ≡ google (codes "Value")
unfolding form_of known_of
value_named shape t h = at (known_of (message_name shape t)) refl h
  where
    by : (k : Known) → bytes_eq k.name (message_name shape t) ≡ true → IsNamedSo k → (b : Bool)
        → (if b then k.form else forms.Misshapen) ≡ forms.Value → message_name shape t ≡ google (codes "Value")
    by k is own true e = sym ((bytes_eq-Decides k.name (message_name shape t)).0 is) ∙ own e
    by k is own false e = absurd (cc)

    at : (o : Option Known) → known_of (message_name shape t) ≡ o → form_by shape t o ≡ forms.Value → message_name shape t ≡ google (codes "Value")
    at None is e = absurd (cc)
    at (Some k) is e =
        by k (found_passes (λ (k : Known). bytes_eq k.name (message_name shape t)) known_types k is)
        (found IsNamedSo (λ (k : Known). bytes_eq k.name (message_name shape t)) known_types k is each_named) (is_as_declared shape t k) e

pub value_reads_null : (shape : Shape) (t : ℕ) → form_of shape t ≡ forms.Value → reads_null shape (kind.Message t) ≡ true
value_reads_null shape t h = (bytes_eq-Decides (message_name shape t) (codes "google.protobuf.Value")).1 (value_named shape t h)

-- ---- reading

struct_reads : (shape : Shape) (u : ℕ) (outer : Content → Content) → form_of shape u ≡ forms.Struct
    → struct_read shape u outer ≡ Ok (a_map (kind_at shape u 1) (λ o. outer (holding shape u 1 o)))
struct_reads shape u outer e = rw e refl

list_reads : (shape : Shape) (u : ℕ) (outer : Content → Content) → form_of shape u ≡ forms.ListValue
    → list_value_read shape u outer ≡ Ok (a_list (kind_at shape u 1) (λ o. outer (holding shape u 1 o)))
list_reads shape u outer e = rw e refl

pub none_kept : (gs : List FieldShape) → keeps_float gs [] ≡ false
none_kept [] = refl
none_kept (f ∷ gs) = rw (at (is_float f.kind), none_kept gs) refl
  where
    at : (b : Bool) → (b && false) ≡ false
    at true = refl
    at false = refl

module _ (shape : Shape) where
  -- what a tree is as a message of a type of this form
  abbrev reads : ℕ → Form → Data → Option Content
  reads t form d =
      if is_object_form form then object_of (message_of (skips form false) (declared_of shape t)) d (entries_in shape false d)
      else own_as shape (form_read shape false t form d) d (items_in shape false d) (entries_in shape false d)

  abbrev own_is : Result Own JsonKind → Data → Option Content
  own_is r d = own_as shape r d (items_in shape false d) (entries_in shape false d)

  misshapen_unread : (t : ℕ) (d : Data) (c : Content) → reads t forms.Misshapen d ≡ Some c → ⊥
  misshapen_unread t d c h = cc

  -- what a map makes of the content, another wrap makes of the wrapped one
  wrapped_map : (u : ℕ) (outer : Content → Content) (d : Data) (c : Content) → form_of shape u ≡ forms.Struct → reads u forms.Struct d ≡ Some c
      → own_is (struct_read shape u outer) d ≡ Some (outer c)
  wrapped_map u outer d c form h =
      let k = kind_at shape u 1 in
      let read = option_map (shown shape false k) (map_as kind.String k d (entries_in shape false d)) in
      let it = from_map (λ o. itself (holding shape u 1 o)) read c (sym (ap (λ r. own_is r d) (struct_reads shape u itself form)) ∙ h) in
      ap (λ r. own_is r d) (struct_reads shape u outer form) ∙ ap (option_map (λ o. outer (holding shape u 1 o))) it.1 ∙ ap (λ x. Some (outer x)) it.2

  wrapped_list : (u : ℕ) (outer : Content → Content) (d : Data) (c : Content) → form_of shape u ≡ forms.ListValue → reads u forms.ListValue d ≡ Some c
      → own_is (list_value_read shape u outer) d ≡ Some (outer c)
  wrapped_list u outer d c form h =
      let k = kind_at shape u 1 in
      let read = option_map (shown shape false k) (list_as k d (items_in shape false d)) in
      let it = from_map (λ o. itself (holding shape u 1 o)) read c (sym (ap (λ r. own_is r d) (list_reads shape u itself form)) ∙ h) in
      ap (λ r. own_is r d) (list_reads shape u outer form) ∙ ap (option_map (λ o. outer (holding shape u 1 o))) it.1 ∙ ap (λ x. Some (outer x)) it.2

  -- a `Value` with such a tree holds the message; the tree is no null
  value_of_map : (t : ℕ) (d : Data) (c : Content) → form_of shape (type_at shape t 5) ≡ forms.Struct → reads (type_at shape t 5) forms.Struct d ≡ Some c
      → (own_is (form_read shape false t forms.Value d) d ≡ Some (value_with shape t 5 c)) × (d ≡ null → ⊥)
  value_of_map t (object ms) c form h =
      (wrapped_map (type_at shape t 5) (value_with shape t 5) (object ms) c form h, λ e. no_null (object ms) (λ x. x) e)
  value_of_map t null c form h = absurd (let bad = sym (ap (λ r. own_is r null) (struct_reads shape (type_at shape t 5) itself form)) ∙ h in cc)
  value_of_map t (boolean b) c form h =
      absurd (let bad = sym (ap (λ r. own_is r (boolean b)) (struct_reads shape (type_at shape t 5) itself form)) ∙ h in cc)
  value_of_map t (number n) c form h = absurd (let bad = sym (ap (λ r. own_is r (number n)) (struct_reads shape (type_at shape t 5) itself form)) ∙ h in cc)
  value_of_map t (string s) c form h = absurd (let bad = sym (ap (λ r. own_is r (string s)) (struct_reads shape (type_at shape t 5) itself form)) ∙ h in cc)
  value_of_map t (array ds) c form h = absurd (let bad = sym (ap (λ r. own_is r (array ds)) (struct_reads shape (type_at shape t 5) itself form)) ∙ h in cc)

  value_of_list : (t : ℕ) (d : Data) (c : Content) → form_of shape (type_at shape t 6) ≡ forms.ListValue → reads (type_at shape t 6) forms.ListValue d ≡ Some c
      → (own_is (form_read shape false t forms.Value d) d ≡ Some (value_with shape t 6 c)) × (d ≡ null → ⊥)
  value_of_list t (array ds) c form h =
      (wrapped_list (type_at shape t 6) (value_with shape t 6) (array ds) c form h, λ e. no_null (array ds) (λ x. x) e)
  value_of_list t null c form h = absurd (let bad = sym (ap (λ r. own_is r null) (list_reads shape (type_at shape t 6) itself form)) ∙ h in cc)
  value_of_list t (boolean b) c form h =
      absurd (let bad = sym (ap (λ r. own_is r (boolean b)) (list_reads shape (type_at shape t 6) itself form)) ∙ h in cc)
  value_of_list t (number n) c form h = absurd (let bad = sym (ap (λ r. own_is r (number n)) (list_reads shape (type_at shape t 6) itself form)) ∙ h in cc)
  value_of_list t (string s) c form h = absurd (let bad = sym (ap (λ r. own_is r (string s)) (list_reads shape (type_at shape t 6) itself form)) ∙ h in cc)
  value_of_list t (object ms) c form h = absurd (let bad = sym (ap (λ r. own_is r (object ms)) (list_reads shape (type_at shape t 6) itself form)) ∙ h in cc)

  module _ (o : Writing) (t : ℕ) where
    -- a message has a tree, which reads as the message, and is null only where null is read as one
    abbrev pub ContentBack : Content → Type 0
    ContentBack c =
        (d : Data) × (content_tree shape o c t ≡ Some d) × (message_as shape false t d (items_in shape false d) (entries_in shape false d) ≡ Some c)
        × (d ≡ null → reads_null shape (kind.Message t) ≡ true)

    -- the field of the number shows the value, which has a tree that reads as it
    abbrev pub FieldBack : ℕ → Val → Type 0
    FieldBack n v = (f : FieldShape) → field_of n (fields_of shape t) ≡ Some f
        → (shown shape (has_presence f) f.kind (Some v) ≡ Some v) × ((d : Data) × IsBack shape o (target_by f f.cardinality) v d)

    -- so does the first field that has a value
    abbrev pub FirstBack : Content → Type 0
    FirstBack (content.content content.no_fields kept) = Unit {0}
    FirstBack (content.content (content.field n v fs) kept) = FieldBack n v

    abbrev tree : Fields → Form → Option Data
    tree fs form =
        if is_object_form form then object_tree shape o (declared_of shape t) fs [] (fields_tell shape o fs)
        else form_tree shape o t form fs [] (fields_tell shape o fs)

    back_by : (form : Form) (fs : Fields) (d : Data) → form_of shape t ≡ form → tree fs form ≡ Some d → reads t form d ≡ Some (content.content fs [])
        → (d ≡ null → reads_null shape (kind.Message t) ≡ true) → ContentBack (content.content fs [])
    back_by form fs d is made back ok = (d, ap (tree fs) is ∙ made, ap (λ x. reads t x d) is ∙ back, ok)

    -- what a field shows it holds
    held_at : (n : ℕ) (f : FieldShape) (v : Val) → field_of n (fields_of shape t) ≡ Some f → shown shape (has_presence f) f.kind (Some v) ≡ Some v
        → holding shape t n (Some v) ≡ content.content (content.field n v content.no_fields) []
    held_at n f v there s =
        ap (λ x. content.content (with_first n (shown_at shape x v) content.no_fields) []) there
        ∙ ap (λ x. content.content (with_first n x content.no_fields) []) s

    -- ---- `Struct`

    map_shown : (f : FieldShape) (v : Val) (k : Kind) (key : Kind) → f.kind ≡ k → f.cardinality ≡ Map key
        → shown shape (has_presence f) f.kind (Some v) ≡ Some v → shown shape false k (Some v) ≡ Some v
    map_shown f v k key is c s =
        ap (λ x. shown shape false x (Some v)) (sym is)
        ∙ ap (λ p. shown shape p f.kind (Some v)) (sym (ap (presence_by f.presence f.kind) c ∙ none f.kind)) ∙ s
      where
        none : (x : Kind) → presence_by f.presence x (Map key) ≡ false
        none (kind.Message u) = refl
        none _ = refl

    list_shown : (f : FieldShape) (v : Val) (k : Kind) → f.kind ≡ k → f.cardinality ≡ Repeated → shown shape (has_presence f) f.kind (Some v) ≡ Some v
        → shown shape false k (Some v) ≡ Some v
    list_shown f v k is c s =
        ap (λ x. shown shape false x (Some v)) (sym is)
        ∙ ap (λ p. shown shape p f.kind (Some v)) (sym (ap (presence_by f.presence f.kind) c ∙ none f.kind)) ∙ s
      where
        none : (x : Kind) → presence_by f.presence x Repeated ≡ false
        none (kind.Message u) = refl
        none _ = refl

    target_is : (f : FieldShape) (k : Kind) (c : Cardinality) (v : Val) (d : Data) → f.kind ≡ k → f.cardinality ≡ c → (tg : Kind → Target)
        → target_by f c ≡ tg f.kind → IsBack shape o (target_by f f.cardinality) v d → IsBack shape o (tg k) v d
    target_is f k c v d is card tg e b =
        let P : Target → Type 0 = λ x. IsBack shape o x v d in
        subst P (ap (target_by f) card ∙ e ∙ ap tg is) b

    struct_back : form_of shape t ≡ forms.Struct → (s : Option Val) → FirstBack (content.content (with_first 1 s content.no_fields) [])
        → ContentBack (content.content (with_first 1 s content.no_fields) [])
    struct_back form None first =
        back_by forms.Struct content.no_fields (object no_members) form refl
        (ap (λ r. own_is r (object no_members)) (struct_reads shape t itself form)) (λ e. absurd (no_null (object no_members) (λ x. x) e))
    struct_back form (Some v) first =
        let has = struct_fields shape t form in
        let f = has.fields.has.field in
        let k = kind_at shape t 1 in
        let is : f.kind ≡ k = sym (ap kind_in has.fields.has.there) in
        let it = first f has.fields.has.there in
        let d = it.1.0 in
        let b = target_is f k (Map kind.String) v d is has.fields.has.of_cardinality (map kind.String) refl it.1.1 in
        back_by forms.Struct (content.field 1 v content.no_fields) d form b.made
        (ap (λ r. own_is r d) (struct_reads shape t itself form)
        ∙ ap (λ r. option_map (λ o. holding shape t 1 o) (option_map (shown shape false k) r)) b.says
        ∙ ap (λ x. Some (holding shape t 1 x)) (map_shown f v k kind.String is has.fields.has.of_cardinality it.0)
        ∙ ap (λ x. Some x) (held_at 1 f v has.fields.has.there it.0))
        (λ e. absurd (b.null_ok e))

    list_back : form_of shape t ≡ forms.ListValue → (s : Option Val) → FirstBack (content.content (with_first 1 s content.no_fields) [])
        → ContentBack (content.content (with_first 1 s content.no_fields) [])
    list_back form None first =
        back_by forms.ListValue content.no_fields (array no_items) form refl
        (ap (λ r. own_is r (array no_items)) (list_reads shape t itself form)) (λ e. absurd (no_null (array no_items) (λ x. x) e))
    list_back form (Some v) first =
        let has = list_fields shape t form in
        let f = has.values.has.field in
        let k = kind_at shape t 1 in
        let is : f.kind ≡ k = sym (ap kind_in has.values.has.there) in
        let it = first f has.values.has.there in
        let d = it.1.0 in
        let b = target_is f k Repeated v d is has.values.has.of_cardinality list refl it.1.1 in
        back_by forms.ListValue (content.field 1 v content.no_fields) d form b.made
        (ap (λ r. own_is r d) (list_reads shape t itself form)
        ∙ ap (λ r. option_map (λ o. holding shape t 1 o) (option_map (shown shape false k) r)) b.says
        ∙ ap (λ x. Some (holding shape t 1 x)) (list_shown f v k is has.values.has.of_cardinality it.0)
        ∙ ap (λ x. Some x) (held_at 1 f v has.values.has.there it.0))
        (λ e. absurd (b.null_ok e))

    pub several_back : (form : Form) → (form ≡ forms.Struct) ⊎ (form ≡ forms.ListValue) → form_of shape t ≡ form → (x : Option Val)
        → FirstBack (holding shape t 1 x) → ContentBack (holding shape t 1 x)
    several_back form (inl e) is None first = struct_back (is ∙ e) None first
    several_back form (inl e) is (Some v) first = struct_back (is ∙ e) (shown_at shape (field_of 1 (fields_of shape t)) v) first
    several_back form (inr e) is None first = list_back (is ∙ e) None first
    several_back form (inr e) is (Some v) first = list_back (is ∙ e) (shown_at shape (field_of 1 (fields_of shape t)) v) first

    -- ---- `Value`

    module _ (form : form_of shape t ≡ forms.Value) where
      has : HasRows shape t value_rows
      has = value_fields shape t form

      -- a member of the oneof shows its value
      member_shown : (f : FieldShape) (v : Val) → f.cardinality ≡ Singular → f.presence ≡ true
          → shown shape (has_presence f) f.kind (Some v) ≡ Some v
      member_shown f v c e = ap (λ q. shown shape q f.kind (Some v)) (ap (presence_by f.presence f.kind) c ∙ at f.kind)
        where
          at : (x : Kind) → presence_by f.presence x Singular ≡ true
          at (kind.Message u) = refl
          at _ = e

      held_is : (r : Row) (row : HasRow shape t r) (v : Val) → row.field.cardinality ≡ Singular → row.field.presence ≡ true
          → holding shape t r.number (Some v) ≡ content.content (content.field r.number v content.no_fields) []
      held_is r row v c e = held_at r.number row.field v row.there (member_shown row.field v c e)

      abbrev alone : ℕ → Val → Content
      alone n v = content.content (content.field n v content.no_fields) []

      -- from the one field that holds the value
      value_by : (n : ℕ) (v : Val) (d : Data) (r : Option Data)
          → tree (content.field n v content.no_fields) forms.Value ≡ (if keeps_float (declared_of shape t) [] then None else r)
          → r ≡ Some d → own_is (form_read shape false t forms.Value d) d ≡ Some (alone n v)
          → ContentBack (alone n v)
      value_by n v d r is made back =
          back_by forms.Value (content.field n v content.no_fields) d form
          (is ∙ ap (λ b. if b then None else r) (none_kept (declared_of shape t)) ∙ made) back (λ e. value_reads_null shape t form)

      -- a message that the field of the row holds
      message_held : (r : Row) (row : HasRow shape t r) (u : ℕ) (e : Content) → row.field.kind ≡ kind.Message u → row.field.cardinality ≡ Singular
          → FieldBack r.number (content.message e)
          → (d : Data) × (tells shape o (content.message e) (one (kind_at shape t r.number)) ≡ Some d)
          × (reads (type_at shape t r.number) (form_of shape (type_at shape t r.number)) d ≡ Some e)
      message_held r row u e of_kind c back =
          let f = row.field in
          let k = kind_at shape t r.number in
          let is : f.kind ≡ k = sym (ap kind_in row.there) in
          let it = back f row.there in
          let d = it.1.0 in
          let place : kind.Message u ≡ kind.Message (type_at shape t r.number) =
          ap (λ x. kind.Message (type_of x)) (sym of_kind ∙ is) in
          let b = target_is f k Singular (content.message e) d is c single refl it.1.1 in
          let own = target_is f (kind.Message (type_at shape t r.number)) Singular (content.message e) d (of_kind ∙ place) c single refl it.1.1 in
          let read = from_map (λ x. Some (content.message x)) (reads (type_at shape t r.number) (form_of shape (type_at shape t r.number)) d)
          (Some (content.message e)) own.says in
          let same : read.0 ≡ e = cc read.2 in
          (d, b.made, read.1 ∙ ap (λ x. Some x) same)

      struct_held : (e : Content) → FieldBack 5 (content.message e) → ContentBack (alone 5 (content.message e))
      struct_held e back =
          let row = has.each.1.1.1.1.0 in
          let it = message_held _ row row.of_sort.0 e row.of_sort.1 row.of_cardinality back in
          let place : row.of_sort.0 ≡ type_at shape t 5 = sym (ap type_of (ap kind_in row.there ∙ row.of_sort.1)) in
          at it.0 it.1 it.2 (struct_form shape (type_at shape t 5) (ap (message_name shape) (sym place) ∙ row.of_sort.2))
        where
          at : (d : Data) → tells shape o (content.message e) (one (kind_at shape t 5)) ≡ Some d
              → reads (type_at shape t 5) (form_of shape (type_at shape t 5)) d ≡ Some e
              → (form_of shape (type_at shape t 5) ≡ forms.Struct) ⊎ (form_of shape (type_at shape t 5) ≡ forms.Misshapen)
              → ContentBack (alone 5 (content.message e))
          at d made back (inr bad) = absurd (misshapen_unread (type_at shape t 5) d e (sym (ap (λ x. reads (type_at shape t 5) x d) bad) ∙ back))
          at d made back (inl is) =
              let row = has.each.1.1.1.1.0 in
              let read = value_of_map t d e is (sym (ap (λ x. reads (type_at shape t 5) x d) is) ∙ back) in
              value_by 5 (content.message e) d (tells shape o (content.message e) (one (kind_at shape t 5))) refl made
              (read.0 ∙ ap (λ x. Some x) (held_is _ row (content.message e) row.of_cardinality row.of_presence))

      list_held : (e : Content) → FieldBack 6 (content.message e) → ContentBack (alone 6 (content.message e))
      list_held e back =
          let row = has.each.1.1.1.1.1.0 in
          let it = message_held _ row row.of_sort.0 e row.of_sort.1 row.of_cardinality back in
          let place : row.of_sort.0 ≡ type_at shape t 6 = sym (ap type_of (ap kind_in row.there ∙ row.of_sort.1)) in
          at it.0 it.1 it.2 (list_form shape (type_at shape t 6) (ap (message_name shape) (sym place) ∙ row.of_sort.2))
        where
          at : (d : Data) → tells shape o (content.message e) (one (kind_at shape t 6)) ≡ Some d
              → reads (type_at shape t 6) (form_of shape (type_at shape t 6)) d ≡ Some e
              → (form_of shape (type_at shape t 6) ≡ forms.ListValue) ⊎ (form_of shape (type_at shape t 6) ≡ forms.Misshapen)
              → ContentBack (alone 6 (content.message e))
          at d made back (inr bad) = absurd (misshapen_unread (type_at shape t 6) d e (sym (ap (λ x. reads (type_at shape t 6) x d) bad) ∙ back))
          at d made back (inl is) =
              let row = has.each.1.1.1.1.1.0 in
              let read = value_of_list t d e is (sym (ap (λ x. reads (type_at shape t 6) x d) is) ∙ back) in
              value_by 6 (content.message e) d (tells shape o (content.message e) (one (kind_at shape t 6))) refl made
              (read.0 ∙ ap (λ x. Some x) (held_is _ row (content.message e) row.of_cardinality row.of_presence))

      -- the one field, by what it holds
      one_held : (x : ValueHeld) → FirstBack (alone (number_held x) (value_held x)) → ContentBack (alone (number_held x) (value_held x))
      one_held a_null first =
          let row = has.each.0 in
          value_by 1 (content.number (pos 0)) null (Some null) refl refl
          (ap (λ x. Some x) (held_is _ row (content.number (pos 0)) row.of_cardinality row.of_presence))
      one_held (a_truth b) first =
          let row = has.each.1.1.1.0 in
          value_by 4 (content.truth b) (boolean b) (tells shape o (content.truth b) (one (kind_at shape t 4))) refl
          (ap (λ k. truth_by (family k) b) (ap kind_in row.there ∙ row.of_sort))
          (ap (λ x. Some x) (held_is _ row (content.truth b) row.of_cardinality row.of_presence))
      one_held (a_text s) first =
          let row = has.each.1.1.0 in
          value_by 3 (content.text s) (string s) (tells shape o (content.text s) (one (kind_at shape t 3))) refl
          (ap (λ k. text_by (family k) s) (ap kind_in row.there ∙ row.of_sort))
          (ap (λ x. Some x) (held_is _ row (content.text s) row.of_cardinality row.of_presence))
      one_held (a_struct e) first = struct_held e first
      one_held (a_values e) first = list_held e first

      number_is : (x : ValueHeld) → holding shape t (number_held x) (Some (value_held x)) ≡ alone (number_held x) (value_held x)
      number_is a_null = let row = has.each.0 in held_is _ row (content.number (pos 0)) row.of_cardinality row.of_presence
      number_is (a_truth b) = let row = has.each.1.1.1.0 in held_is _ row (content.truth b) row.of_cardinality row.of_presence
      number_is (a_text s) = let row = has.each.1.1.0 in held_is _ row (content.text s) row.of_cardinality row.of_presence
      number_is (a_struct e) = let row = has.each.1.1.1.1.0 in held_is _ row (content.message e) row.of_cardinality row.of_presence
      number_is (a_values e) = let row = has.each.1.1.1.1.1.0 in held_is _ row (content.message e) row.of_cardinality row.of_presence

      pub value_back_of : (x : ValueHeld) → FirstBack (holding shape t (number_held x) (Some (value_held x)))
          → ContentBack (holding shape t (number_held x) (Some (value_held x)))
      value_back_of x first =
          let is = number_is x in
          subst ContentBack (sym is) (one_held x (subst FirstBack is first))
