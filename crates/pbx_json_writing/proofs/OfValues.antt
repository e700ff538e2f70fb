-- Messages that are written as the value of one of their fields: `Struct`, `ListValue` and `Value`.
use Rattle.std.proofs.Common.{◌≡◌, ℕ, ℤ, List, Bool, true, false, if◌then◌else◌, Option, Some, None, Result, Ok, Err, IfOk, IfErr, reverse, [], refl, sym, ap, subst, ◌∙◌, arith}
use Rattle.std.specs.Prelude.{◌==◌}
use Rattle.std.proofs.lemmas.Bool.Decides.{nat_tests}
use Rattle.serde_json.specs.Data.{Data, null, array, object, no_items, no_members}
use Rattle.serde_json.specs.View.{view}
use Rattle.serde_json.specs.declared.value.Value.{Value}
use Rattle.pbx_content.specs.Content as content
use Rattle.pbx_content.specs.Content.{Content, Fields, no_fields, field as field_of_number, Val, message, fields, kept, get}
use Rattle.pbx_content.specs.Encoding.{type_of}
use Rattle.pbx_content.specs.Shape.{declared_of, fields_of, field_of}
use Rattle.pbx_content.specs.Sound.{IsSoundAt}
use Rattle.pbx_content.specs.declared.shape.Cardinality.{Cardinality}
use Rattle.pbx_content.specs.declared.shape.Cardinality.TheVariants.{Singular, Repeated, Map}
use Rattle.pbx_content.specs.declared.shape.Kind.{Kind}
use Rattle.pbx_content.specs.declared.shape.Kind.TheVariants as kind
use Rattle.pbx_content.specs.declared.shape.Shape.{Shape}
use Rattle.pbx_content.specs.declared.shape.FieldShape.{FieldShape}
use Rattle.pbx_content.proofs.SoundValues.{get_sound}
use Rattle.pbx_wkt_types.specs.Shapes.{form_of}
use Rattle.pbx_wkt_types.specs.declared.form.Form.{Form}
use Rattle.pbx_wkt_types.specs.declared.form.Form.TheVariants as forms
use Rattle.pbx_wkt_types.proofs.Forms.{struct_fields, list_fields}
use Rattle.pbx_json_meaning.specs.Asked.{one}
use Rattle.pbx_json_meaning.specs.Canonical.{tells, form_tree, field_tree, told_tree, fields_tell, keeps_float, first_field}
use Rattle.pbx_json_meaning.specs.Faults.{SomeWith}
use Rattle.pbx_json_meaning.specs.Forms.{is_object_form, kind_in, kind_at, type_at}
use Rattle.pbx_json_meaning.specs.WriteFaults.{leaf, form_parts, held_parts, several_parts, parts_of}
use Rattle.pbx_json_meaning.specs.Canonical.{Writing}
use Rattle.pbx_json_meaning.specs.declared.kind.JsonKind.TheVariants as fault
use Rattle.pbx_json_writing.specs.Kinds.{told_value, is_passed_form}
use Rattle.pbx_json_writing.specs.Refusals.{Holds, Refused}
use Rattle.pbx_json_writing.specs.declared.refusal.Refusal.{Refusal}
use Rattle.pbx_json_writing.specs.declared.refusal.Refusal.TheVariants as refused
use Rattle.pbx_json_writing.proofs.OfFields.{same_parts}
use Rattle.pbx_json_writing.proofs.OfForms.{own_told, own_parts, own_stops, fits_field}
use Rattle.pbx_json_writing.proofs.Refusing.{Stops}
use Rattle.pbx_json_writing.proofs.ValueRows.{is_held_form, of_value, turned}

turned_not : (m n : ℕ) → (m == n) ≡ false → (n == m) ≡ false
turned_not m n h = grind (arith, nat_tests)

other_than : (m n : ℕ) → (m ≡ n → ⊥) → (m == n) ≡ false
other_than m n apart = at (m == n) refl
  where
    at : (b : Bool) → (m == n) ≡ b → b ≡ false
    at true is = absurd (apart (grind (arith, nat_tests)))
    at false is = refl

pub is_value : (f : Form) → is_passed_form f ≡ true → (f ≡ forms.Struct → ⊥) → (f ≡ forms.ListValue → ⊥) → (f ≡ forms.Any → ⊥) → f ≡ forms.Value
is_value forms.Value passed struct list any = refl
is_value forms.Struct passed struct list any = absurd (struct refl)
is_value forms.ListValue passed struct list any = absurd (list refl)
is_value forms.Any passed struct list any = absurd (any refl)
is_value _ passed struct list any = absurd cc

module _ (shape : Shape) (o : Writing) where
  -- ---- the value of a field

  told_get : (n : ℕ) (k : Kind) (otherwise : Option Data) (fs : Fields)
      → told_tree n k otherwise (fields_tell shape o fs) ≡ told_value shape o k otherwise (get n fs)
  told_get n k otherwise no_fields = refl
  told_get n k otherwise (field_of_number m v fs) = at (n == m) refl (told_get n k otherwise fs)
    where
      at : (b : Bool) → (n == m) ≡ b → told_tree n k otherwise (fields_tell shape o fs) ≡ told_value shape o k otherwise (get n fs)
          → (if m == n then tells shape o v (one k) else told_tree n k otherwise (fields_tell shape o fs))
          ≡ told_value shape o k otherwise (if n == m then Some v else get n fs)
      at true is ih = rw (is, turned n m is) refl
      at false is ih = rw (is, turned_not n m is) ih

  pub value_told : (k : Kind) (otherwise : Option Data) (v : Option Val) (h : Val) (r : Result Value Refusal) → Some h ≡ v
      → IfOk r (λ tree. tells shape o h (one k) ≡ Some (view tree)) → IfOk r (λ tree. told_value shape o k otherwise v ≡ Some (view tree))
  value_told k otherwise v h r is t = subst (λ (w : Option Val). IfOk r (λ tree. told_value shape o k otherwise w ≡ Some (view tree))) is t

  pub value_refused : (k : Kind) (v : Option Val) (h : Val) (r : Result Value Refusal) → Some h ≡ v
      → IfErr r (Refused shape o h k) → IfErr r (λ e. SomeWith v (λ held. Refused shape o held k e))
  value_refused k v h r is t = subst (λ (w : Option Val). IfErr r (λ e. SomeWith w (λ held. Refused shape o held k e))) is t

  sound_value : (k : Kind) (c : Content) (n : ℕ) (v : Val) → Holds shape k (message c) → get n (fields c) ≡ Some v
      → IsSoundAt shape (field_of n (fields_of shape (type_of k))) v
  sound_value k (content.content fs ks) n v holds is =
      let own : type_of k ≡ holds.0 = ap type_of holds.1 in
      subst (λ t. IsSoundAt shape (field_of n (fields_of shape t)) v) (sym own) (get_sound shape (fields_of shape holds.0) n fs v holds.2.1 is).0

  -- ---- a message that is written as the value of a field

  module _ (f : Form) (k : Kind) (c : Content) (n : ℕ) (otherwise : Option Data) (r : Result Value Refusal)
      (is : form_of shape (type_of k) ≡ f) (own : is_object_form f ≡ false)
      (tree : form_tree shape o (type_of k) f (fields c) (kept c) (fields_tell shape o (fields c))
      ≡ field_tree shape (type_of k) n otherwise (fields_tell shape o (fields c))) where
    told : tells shape o (message c) (one k) ≡ told_value shape o (kind_at shape (type_of k) n) otherwise (get n (fields c))
    told = own_told shape o f k c is own ∙ tree ∙ told_get n (kind_at shape (type_of k) n) otherwise (fields c)

    pub passed_told : IfOk r (λ d. told_value shape o (kind_at shape (type_of k) n) otherwise (get n (fields c)) ≡ Some (view d))
        → IfOk r (λ d. tells shape o (message c) (one k) ≡ Some (view d))
    passed_told h = by r h
      where
        by : (x : Result Value Refusal) → IfOk x (λ d. told_value shape o (kind_at shape (type_of k) n) otherwise (get n (fields c)) ≡ Some (view d))
            → IfOk x (λ d. tells shape o (message c) (one k) ≡ Some (view d))
        by (Ok d) e = told ∙ e
        by (Err x) e = tt

    pub passed_refused : ((v : Val) → get n (fields c) ≡ Some v → IsSoundAt shape (field_of n (fields_of shape (type_of k))) v
        → form_parts shape (type_of k) f (fields c) (kept c) ≡ parts_of shape v (one (kind_at shape (type_of k) n)))
        → IfErr r (λ e. SomeWith (get n (fields c)) (λ v. Refused shape o v (kind_at shape (type_of k) n) e)) → IfErr r (Refused shape o (message c) k)
    passed_refused parts h = by r h
      where
        at : (v : Option Val) (e : Refusal) → get n (fields c) ≡ v → SomeWith v (λ held. Refused shape o held (kind_at shape (type_of k) n) e)
            → Refused shape o (message c) k e
        at None e there h = absurd h
        at (Some v) refused.Memory there h = tt
        at (Some v) (refused.Rule rule steps) there h = (
          told ∙ ap (told_value shape o (kind_at shape (type_of k) n) otherwise) there ∙ h.0,
          λ holds.
              let sound = sound_value k c n v holds there in
              same_parts shape o (reverse steps) v (message c) (one (kind_at shape (type_of k) n)) (one k) rule
              (sym (own_parts shape o f k c is own ∙ parts v there sound))
              (h.1 (fits_field shape o (field_of n (fields_of shape (type_of k))) v sound)),
        )

        by : (x : Result Value Refusal) → IfErr x (λ e. SomeWith (get n (fields c)) (λ v. Refused shape o v (kind_at shape (type_of k) n) e))
            → IfErr x (Refused shape o (message c) k)
        by (Ok d) h = tt
        by (Err e) h = at (get n (fields c)) e refl h

  -- ---- lists and maps

  abbrev is_one : Cardinality → Bool
  is_one Singular = true
  is_one _ = false

  several_same : (f : FieldShape) (k : Kind) (v : Val) → is_one f.cardinality ≡ false → IsSoundAt shape (Some f) v → several_parts k (Some v) ≡ parts_of shape v (one k)
  several_same f k (content.message c) apart sound = absurd (let same : is_one f.cardinality ≡ true = ap is_one sound.0 in cc)
  several_same f k (content.number z) apart sound = refl
  several_same f k (content.truth b) apart sound = refl
  several_same f k (content.text s) apart sound = refl
  several_same f k (content.octets s) apart sound = refl
  several_same f k (content.many vs) apart sound = refl
  several_same f k (content.keyed ps) apart sound = refl

  several_at : (t : ℕ) (fs : Fields) (f : FieldShape) (v : Val) → field_of 1 (fields_of shape t) ≡ Some f → is_one f.cardinality ≡ false → get 1 fs ≡ Some v
      → IsSoundAt shape (field_of 1 (fields_of shape t)) v
      → several_parts (kind_at shape t 1) (get 1 fs) ≡ parts_of shape v (one (kind_at shape t 1))
  several_at t fs f v found apart there sound =
      ap (several_parts (kind_at shape t 1)) there
      ∙ several_same f (kind_at shape t 1) v apart (subst (λ g. IsSoundAt shape g v) found sound)

  pub struct_told : (k : Kind) (c : Content) (d : Data) (r : Result Value Refusal) → form_of shape (type_of k) ≡ forms.Struct → d ≡ object no_members
      → IfOk r (λ v. told_value shape o (kind_at shape (type_of k) 1) (Some d) (get 1 (fields c)) ≡ Some (view v))
      → IfOk r (λ d. tells shape o (message c) (one k) ≡ Some (view d))
  struct_told k c d r is empty =
      passed_told forms.Struct k c 1 (Some d) r is refl (ap (λ e. field_tree shape (type_of k) 1 (Some e) (fields_tell shape o (fields c))) (sym empty))

  pub struct_refused : (k : Kind) (c : Content) (r : Result Value Refusal) → form_of shape (type_of k) ≡ forms.Struct
      → IfErr r (λ e. SomeWith (get 1 (fields c)) (λ v. Refused shape o v (kind_at shape (type_of k) 1) e)) → IfErr r (Refused shape o (message c) k)
  struct_refused k c r is =
      let has = (struct_fields shape (type_of k) is).fields.has in
      passed_refused forms.Struct k c 1 (Some (object no_members)) r is refl refl
      (λ v there sound. several_at (type_of k) (fields c) has.field v has.there (ap is_one has.of_cardinality) there sound)

  pub list_told : (k : Kind) (c : Content) (d : Data) (r : Result Value Refusal) → form_of shape (type_of k) ≡ forms.ListValue → d ≡ array no_items
      → IfOk r (λ v. told_value shape o (kind_at shape (type_of k) 1) (Some d) (get 1 (fields c)) ≡ Some (view v))
      → IfOk r (λ d. tells shape o (message c) (one k) ≡ Some (view d))
  list_told k c d r is empty =
      passed_told forms.ListValue k c 1 (Some d) r is refl (ap (λ e. field_tree shape (type_of k) 1 (Some e) (fields_tell shape o (fields c))) (sym empty))

  pub list_refused : (k : Kind) (c : Content) (r : Result Value Refusal) → form_of shape (type_of k) ≡ forms.ListValue
      → IfErr r (λ e. SomeWith (get 1 (fields c)) (λ v. Refused shape o v (kind_at shape (type_of k) 1) e)) → IfErr r (Refused shape o (message c) k)
  list_refused k c r is =
      let has = (list_fields shape (type_of k) is).values.has in
      passed_refused forms.ListValue k c 1 (Some (array no_items)) r is refl refl
      (λ v there sound. several_at (type_of k) (fields c) has.field v has.there (ap is_one has.of_cardinality) there sound)

  -- ---- values

  held_message : (k : Kind) (c : Content) → is_held_form (form_of shape (type_of k)) ≡ true
      → held_parts shape (type_of k) (form_of shape (type_of k)) (Some (message c)) ≡ parts_of shape (message c) (one k)
  held_message k c held = at (form_of shape (type_of k)) refl held
    where
      at : (f : Form) → form_of shape (type_of k) ≡ f → is_held_form f ≡ true → held_parts shape (type_of k) f (Some (message c)) ≡ parts_of shape (message c) (one k)
      at forms.Struct is h = sym (own_parts shape o forms.Struct k c is refl)
      at forms.ListValue is h = sym (own_parts shape o forms.ListValue k c is refl)
      at forms.Misshapen is h = sym (own_parts shape o forms.Misshapen k c is refl)
      at _ is h = absurd cc

  number_held : (f : Form) (t : ℕ) (z : ℤ) → held_parts shape t f (Some (content.number z)) ≡ Ok leaf
  number_held forms.Misshapen t z = refl
  number_held _ t z = refl

  truth_held : (f : Form) (t : ℕ) (b : Bool) → held_parts shape t f (Some (content.truth b)) ≡ Ok leaf
  truth_held forms.Misshapen t b = refl
  truth_held _ t b = refl

  text_held : (f : Form) (t : ℕ) (s : List ℕ) → held_parts shape t f (Some (content.text s)) ≡ Ok leaf
  text_held forms.Misshapen t s = refl
  text_held _ t s = refl

  octets_held : (f : Form) (t : ℕ) (s : List ℕ) → held_parts shape t f (Some (content.octets s)) ≡ Ok leaf
  octets_held forms.Misshapen t s = refl
  octets_held _ t s = refl

  one_held : (f : FieldShape) (v : Val) → f.cardinality ≡ Singular → ((u : ℕ) → f.kind ≡ kind.Message u → is_held_form (form_of shape u) ≡ true)
      → IsSoundAt shape (Some f) v → held_parts shape (type_of f.kind) (form_of shape (type_of f.kind)) (Some v) ≡ parts_of shape v (one f.kind)
  one_held f (content.number z) single of sound = number_held (form_of shape (type_of f.kind)) (type_of f.kind) z
  one_held f (content.truth b) single of sound = truth_held (form_of shape (type_of f.kind)) (type_of f.kind) b
  one_held f (content.text s) single of sound = text_held (form_of shape (type_of f.kind)) (type_of f.kind) s
  one_held f (content.octets s) single of sound = octets_held (form_of shape (type_of f.kind)) (type_of f.kind) s
  one_held f (content.many vs) single of sound = absurd (let bad : Singular ≡ Repeated = sym single ∙ sound.0 in cc)
  one_held f (content.keyed ps) single of sound = absurd (let bad : Singular ≡ Map sound.1.0 = sym single ∙ sound.1.1 in cc)
  one_held f (content.message c) single of sound =
      held_message f.kind c
      (subst (λ u. is_held_form (form_of shape u) ≡ true) (sym (ap type_of sound.1.1)) (of sound.1.0 sound.1.1))

  value_held : (t n : ℕ) (v : Val) → form_of shape t ≡ forms.Value → IsSoundAt shape (field_of n (fields_of shape t)) v
      → held_parts shape (type_at shape t n) (form_of shape (type_at shape t n)) (Some v) ≡ parts_of shape v (one (kind_at shape t n))
  value_held t n v is sound = at (field_of n (fields_of shape t)) refl sound
    where
      at : (g : Option FieldShape) → field_of n (fields_of shape t) ≡ g → IsSoundAt shape g v
          → held_parts shape (type_of (kind_in g)) (form_of shape (type_of (kind_in g))) (Some v) ≡ parts_of shape v (one (kind_in g))
      at None found h = absurd h
      at (Some f) found h = let of = of_value shape t is n f found in one_held f v of.0 of.1 h

  module _ (k : Kind) (c : Content) (is : form_of shape (type_of k) ≡ forms.Value) where
    pub value_float : keeps_float (declared_of shape (type_of k)) (kept c) ≡ true → Stops shape o (message c) k fault.Float []
    value_float keeps = own_stops shape o forms.Value k c fault.Float is refl (rw keeps refl) (rw keeps refl)

    module _ (plain : keeps_float (declared_of shape (type_of k)) (kept c) ≡ false) where
      pub value_null : first_field (fields c) ≡ 1 → tells shape o (message c) (one k) ≡ Some null
      value_null first = own_told shape o forms.Value k c is refl ∙ rw (plain, first) refl

      module _ (n : ℕ) (first : n ≡ first_field (fields c)) (apart : n ≡ 1 → ⊥) (d : Data) (empty : d ≡ null) (r : Result Value Refusal) where
        tree : form_tree shape o (type_of k) forms.Value (fields c) (kept c) (fields_tell shape o (fields c))
            ≡ field_tree shape (type_of k) n (Some d) (fields_tell shape o (fields c))
        tree = rw (plain, ← first, other_than n 1 apart, empty) refl

        parts : (v : Val) → get n (fields c) ≡ Some v → form_parts shape (type_of k) forms.Value (fields c) (kept c)
            ≡ held_parts shape (type_at shape (type_of k) n) (form_of shape (type_at shape (type_of k) n)) (Some v)
        parts v there = rw (plain, ← first, there) refl

        pub held_value_told : IfOk r (λ v. told_value shape o (kind_at shape (type_of k) n) (Some d) (get n (fields c)) ≡ Some (view v))
            → IfOk r (λ v. tells shape o (message c) (one k) ≡ Some (view v))
        held_value_told = passed_told forms.Value k c n (Some d) r is refl tree

        pub held_value_refused : IfErr r (λ e. SomeWith (get n (fields c)) (λ v. Refused shape o v (kind_at shape (type_of k) n) e))
            → IfErr r (Refused shape o (message c) k)
        held_value_refused =
            passed_refused forms.Value k c n (Some d) r is refl tree (λ v there sound. parts v there ∙ value_held (type_of k) n v is sound)
