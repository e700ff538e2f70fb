-- What a message may have and has no tree has a fault in writing, so a content has a canonical tree exactly where writing it has no fault.
use Rattle.std.proofs.Common.{◌≡◌, ◌⊎◌, inl, inr, ℕ, zero, suc, ◌<◌, ◌≤◌, ◌==◌, ◌&&◌, ◌||◌, ◌++◌, ℤ, List, [], ◌∷◌, length, map as map_list, filter, codes, Bool, true, false, if◌then◌else◌, Option, Some, None, option_map, refl, ap, sym, ◌∙◌, subst, arith}
use Rattle.std.specs.Prelude.{Result, Ok, Err, option_and_then}
use Rattle.std.specs.List.{list_any}
use Rattle.std.specs.Str.{bytes_eq}
use Rattle.std.proofs.lemmas.Slice.Eq.{bytes_eq-Decides}
use Rattle.serde_json.specs.Data.{Data, null, string, array, object, Members, put}
use Rattle.pbx_wire.specs.declared.rec.Rec.{Rec}
use Rattle.pbx_content.specs.Content as content
use Rattle.pbx_content.specs.Content.{Content, Fields, Val, Vals, Pairs, get}
use Rattle.pbx_content.specs.Encoding.{type_of}
use Rattle.pbx_content.specs.Meaning.{zero_of, meaning_of}
use Rattle.pbx_content.proofs.SoundLaw.{meaning_sound}
use Rattle.pbx_json_payload_laws.specs.Inside.{AreShorter, AreFieldsShorter, IsValShorter, AreValsShorter, ArePairsShorter}
use Rattle.pbx_json_payload_laws.proofs.Shrinks.{meaning_shrinks}
use Rattle.pbx_json_payload_laws.proofs.Payloads.{nothing_means}
use Rattle.pbx_json_payload_laws.proofs.Shorter.{bytes_short, get_shorter}
use Rattle.pbx_content.specs.Shape.{declared_of, by_number, fields_of, field_of, is_float}
use Rattle.pbx_content.specs.Sound.{IsProper, IsSound, AreSound, IsSoundAt, AreElements, ArePairs, IsNumber}
use Rattle.pbx_content.specs.declared.shape.Cardinality.{Cardinality}
use Rattle.pbx_content.specs.declared.shape.Cardinality.TheVariants.{Singular, Repeated, Map}
use Rattle.pbx_content.specs.declared.shape.Kind.{Kind}
use Rattle.pbx_content.specs.declared.shape.Kind.TheVariants as kind
use Rattle.pbx_content.specs.declared.shape.FieldShape.{FieldShape}
use Rattle.pbx_content.specs.declared.shape.Shape.{Shape}
use Rattle.pbx_wkt_types.specs.Shapes.{form_of}
use Rattle.pbx_wkt_types.specs.declared.form.Form.{Form}
use Rattle.pbx_wkt_types.specs.declared.form.Form.TheVariants as forms
use Rattle.pbx_wkt_types.proofs.Declared.{is_wrapped_kind}
use Rattle.pbx_wkt_types.proofs.Forms.{wrapper_fields, struct_fields, list_fields}
use Rattle.pbx_json_meaning.specs.Asked.{Asked, field, one, root, presence_by}
use Rattle.pbx_json_meaning.specs.Canonical.{Writing, writing, has_key, with_member, with_type, type_and_value, any_with, payload_in, any_tree, Line, Tells, key_of_field, is_kept_of, keeps_float, is_written_default, default_by, default_tree, default_line, told_line, lines, members_of_lines}
use Rattle.pbx_json_meaning.specs.Canonical.{object_tree, scalar_tree, field_tree, first_field, value_tree, form_tree, own_tree, kind_asked, items_of, entry_line, tells, content_tree, fields_tell, vals_tell, pairs_tell, number_by, truth_by, text_by, bytes_by}
use Rattle.pbx_json_meaning.specs.Faults.{SomeWith, OkWith}
use Rattle.pbx_json_meaning.specs.Laws.{CanonicalWithoutFault}
use Rattle.pbx_json_meaning.specs.Scalars.{family}
use Rattle.pbx_json_meaning.specs.Forms.{is_object_form, is_object_type, kind_in, kind_at, type_at, timestamp_tree, duration_tree, mask_tree, text_at, bytes_at}
use Rattle.pbx_json_meaning.specs.Urls.{type_of_url, stands_beside}
use Rattle.pbx_json_meaning.specs.Stands.{all_read, ok_of}
use Rattle.pbx_json_meaning.specs.WriteFaults.{Parts, leaf, elements, keyed, members, payload, Taken, as_leaf, several_parts, struct_parts, held_parts, value_parts, payload_parts, typed_parts, any_parts, form_parts, content_parts, parts_of, into_written, key_in, value_keys, is_twice}
use Rattle.pbx_json_meaning.specs.WriteFaults.{KeyBreaks, IsKeyFault, WriteFaultAt, WriteFault}
use Rattle.pbx_json_meaning.specs.declared.kind.JsonKind.{JsonKind}
use Rattle.pbx_json_meaning.specs.declared.kind.JsonKind.TheVariants as fault
use Rattle.pbx_json_meaning.specs.declared.place.Step.{Step}
use Rattle.pbx_json_meaning.specs.declared.place.Step.TheVariants.{Key, Index}
use Rattle.pbx_json_laws.proofs.FaultParts.{map_none}
use Rattle.pbx_json_laws.proofs.HeldTrees.{get_first, is_message, nothing_held, tells_alike, tree_or, told_at, parts_alike}
use Rattle.pbx_json_laws.proofs.LinesMade.{keys_of, any_key, keys_made, is_bare, not_made, twice_append, twice_in_front, twice_behind}
use Rattle.pbx_json_laws.proofs.ValueFields.{holds_several, IsOfValue, of_value}
use Rattle.pbx_json_laws.proofs.WriteAsked.{IsAsked, number_asked, truth_asked, text_asked, octets_asked, message_asked, many_asked, keyed_asked, field_at, own_field, sound_at}
use Rattle.pbx_json_laws.proofs.WriteClean.{value_lines, untold, default_keys, keys_are, no_error, one_part}
use Rattle.pbx_json_laws.proofs.WriteParts.{FaultOf, ElementFault, element_step, EntryFault, entry_keys, no_twice, entry_step, FieldFault, field_step}
use Rattle.pbx_json_laws.proofs.Parts.{or_right, of_some, unless_some, from_map}
use Rattle.pbx_json_laws.proofs.LongestBytes.{content_bound}
use Rattle.pbx_json_laws.proofs.PayloadTrees.{WritesPayloads, writes_payloads}
use Rattle.pbx_json_laws.proofs.TypeKeys.{stands_object}
use Rattle.pbx_json_laws.proofs.DefaultsBack.{written_default}

module _ (shape : Shape) (o : Writing) where
  -- ---- scalars and defaults have trees

  number_there : (k : Kind) (z : ℤ) → IsNumber k z → number_by shape o k (family k) z ≡ None → ⊥
  number_there kind.Int32 z h e = cc
  number_there kind.Int64 z h e = cc
  number_there kind.Uint32 z h e = cc
  number_there kind.Uint64 z h e = cc
  number_there kind.Sint32 z h e = cc
  number_there kind.Sint64 z h e = cc
  number_there kind.Fixed32 z h e = cc
  number_there kind.Fixed64 z h e = cc
  number_there kind.Sfixed32 z h e = cc
  number_there kind.Sfixed64 z h e = cc
  number_there (kind.Enum n) z h e = cc
  number_there _ z h e = absurd h

  truth_there : (k : Kind) (b : Bool) → k ≡ kind.Bool → truth_by (family k) b ≡ None → ⊥
  truth_there k b is e = (let bad : truth_by (family kind.Bool) b ≡ None = ap (λ x. truth_by (family x) b) (sym is) ∙ e in cc)

  text_there : (k : Kind) (s : List ℕ) → k ≡ kind.String → text_by (family k) s ≡ None → ⊥
  text_there k s is e = (let bad : text_by (family kind.String) s ≡ None = ap (λ x. text_by (family x) s) (sym is) ∙ e in cc)

  bytes_there : (k : Kind) (s : List ℕ) → k ≡ kind.Bytes → bytes_by (family k) s ≡ None → ⊥
  bytes_there k s is e = (let bad : bytes_by (family kind.Bytes) s ≡ None = ap (λ x. bytes_by (family x) s) (sym is) ∙ e in cc)

  zero_there : (k : Kind) → is_float k ≡ false → presence_by false k Singular ≡ false → default_by shape o k (zero_of shape k) ≡ None → ⊥
  zero_there kind.Double f p e = cc
  zero_there kind.Float f p e = cc
  zero_there (kind.Message t) f p e = cc
  zero_there (kind.Enum n) f p e = cc
  zero_there kind.Bool f p e = cc
  zero_there kind.String f p e = cc
  zero_there kind.Bytes f p e = cc
  zero_there _ f p e = cc

  wrapped_zero : (k : Kind) → is_wrapped_kind k ≡ true → default_by shape o k (zero_of shape k) ≡ None → ⊥
  wrapped_zero kind.Double p e = cc
  wrapped_zero kind.Float p e = cc
  wrapped_zero (kind.Message t) p e = cc
  wrapped_zero (kind.Enum n) p e = cc
  wrapped_zero _ p e = cc

  -- a kind whose fields are without presence
  less_presence : (p : Bool) (k : Kind) → presence_by p k Singular ≡ false → presence_by false k Singular ≡ false
  less_presence p (kind.Message t) h = h
  less_presence p _ h = refl

  no_default_bare : (fs : Fields) (ds : List FieldShape) → list_any is_bare (map_list (default_line shape o) (filter (is_written_default o fs) ds)) ≡ false
  no_default_bare fs [] = refl
  no_default_bare fs (f ∷ ds) = at (is_written_default o fs f) refl (no_default_bare fs ds)
    where
      tree : (c : Cardinality) → presence_by f.presence f.kind c ≡ false → is_float f.kind ≡ false → default_tree shape o f c ≡ None → ⊥
      tree Singular p q e = zero_there f.kind q (less_presence f.presence f.kind p) e
      tree Repeated p q e = cc
      tree (Map k) p q e = cc

      some : (x : Option Data) → (x ≡ None → ⊥) → (elim x [ None ↦ true | Some d ↦ false ]) ≡ false
      some None n = absurd (n refl)
      some (Some d) n = refl

      at : (b : Bool) → is_written_default o fs f ≡ b → list_any is_bare (map_list (default_line shape o) (filter (is_written_default o fs) ds)) ≡ false
          → list_any is_bare (map_list (default_line shape o) (if b then f ∷ filter (is_written_default o fs) ds else filter (is_written_default o fs) ds)) ≡ false
      at false e ih = ih
      at true e ih =
          let parts = written_default o fs f e in
          rw (some (default_tree shape o f f.cardinality) (tree f.cardinality parts.0 parts.1), ih) refl

  -- ---- messages

  -- a fault of what is written, by what stands below
  abbrev FaultsOf : Taken → Type 0
  FaultsOf t =
      ((kind : JsonKind) × (t ≡ Err kind))
      ⊎ ((parts : Parts) × (t ≡ Ok parts) × ((step : Step) × (place : List Step) × (kind : JsonKind)
      × (IsKeyFault o parts step place kind ⊎ SomeWith (into_written o parts step) (λ next. WriteFaultAt shape o place next.0 next.1 kind))))

  placed : (v : Val) (a : Asked) → FaultsOf (parts_of shape v a) → FaultOf shape o v a
  placed v a (inl b) = ([], b.0, b.1)
  placed v a (inr b) =
      let step = b.2.0 in
      let place = b.2.1 in
      let kind = b.2.2 in
      let P : Taken → Type 0 = λ x. OkWith x (λ parts.
      IsKeyFault o parts step place kind ⊎ SomeWith (into_written o parts step) (λ next. WriteFaultAt shape o place next.0 next.1 kind)) in
      (step ∷ place, kind, subst P (sym b.1) b.2.3)

  -- a kept record of a float field is at fault at the field's key
  float_key : (kept : List Rec) (gs : List FieldShape) → list_any (λ f. is_float f.kind && is_kept_of kept f) gs ≡ true
      → (s : List ℕ) × (list_any (λ f. is_float f.kind && is_kept_of kept f && bytes_eq (key_of_field o f) s) gs ≡ true)
  float_key kept [] h = absurd (cc)
  float_key kept (f ∷ gs) h = at (is_float f.kind && is_kept_of kept f) refl h (float_key kept gs)
    where
      at : (b : Bool) → (is_float f.kind && is_kept_of kept f) ≡ b → (b || list_any (λ f. is_float f.kind && is_kept_of kept f) gs) ≡ true
          → (list_any (λ f. is_float f.kind && is_kept_of kept f) gs ≡ true
          → (s : List ℕ) × (list_any (λ f. is_float f.kind && is_kept_of kept f && bytes_eq (key_of_field o f) s) gs ≡ true))
          → (s : List ℕ) × (list_any (λ f. is_float f.kind && is_kept_of kept f && bytes_eq (key_of_field o f) s) (f ∷ gs) ≡ true)
      at true e q ih = (key_of_field o f, rw (e, (bytes_eq-Decides (key_of_field o f) (key_of_field o f)).1 refl) refl)
      at false e q ih = let it = ih q in (it.0, or_right _ _ it.1)

  keys_sound : (gs : List FieldShape) (ds : List FieldShape) (fs : Fields) → AreSound shape (by_number gs) fs
      → keys_of (value_lines shape o gs fs ++ map_list (default_line shape o) ds) ≡ value_keys o gs fs ++ map_list (key_of_field o) ds
  keys_sound gs ds content.no_fields h = default_keys shape o gs ds
  keys_sound gs ds (content.field n v fs) h =
      let own = own_field shape n v gs h.0 in
      ap (λ x. (told_line o (tells shape o v) x).0 ∷ keys_of (value_lines shape o gs fs ++ map_list (default_line shape o) ds)) own.1
      ∙ ap (λ x. key_of_field o own.0 ∷ x) (keys_sound gs ds fs h.1)
      ∙ ap (λ x. (key_in o x ++ value_keys o gs fs) ++ map_list (key_of_field o) ds) (sym own.1)

  -- ---- well-known types

  abbrev is_single : Cardinality → Bool
  is_single Singular = true
  is_single _ = false

  never_single : (f : FieldShape) → is_single f.cardinality ≡ false → f.cardinality ≡ Singular → ⊥
  never_single f h e = (let bad : true ≡ false = sym (ap is_single e) ∙ h in cc)

  leaf_held : (t n : ℕ) (v : Val) → is_message (Some v) ≡ false → FaultsOf (Ok leaf)
      → FaultsOf (held_parts shape (type_at shape t n) (form_of shape (type_at shape t n)) (Some v))
  leaf_held t n v m h = subst FaultsOf (sym (nothing_held shape (type_at shape t n) (form_of shape (type_at shape t n)) (Some v) m)) h

  text_faulty : (r : Result Data JsonKind) → ok_of r ≡ None → FaultsOf (as_leaf r)
  text_faulty (Err e) h = inl (e, refl)
  text_faulty (Ok x) h = absurd (cc)

  -- a scalar field's value has a tree, as its default has
  wrapped_there : (f : FieldShape) (v : Option Val) → is_wrapped_kind f.kind ≡ true → f.cardinality ≡ Singular
      → ((w : Val) → v ≡ Some w → IsSoundAt shape (Some f) w) → scalar_tree shape o f.kind v ≡ None → ⊥
  wrapped_there f None k c s h = wrapped_zero f.kind k h
  wrapped_there f (Some (content.number z)) k c s h = number_there f.kind z (s (content.number z) refl).2 h
  wrapped_there f (Some (content.truth b)) k c s h = truth_there f.kind b (s (content.truth b) refl).2 h
  wrapped_there f (Some (content.text x)) k c s h = let it = s (content.text x) refl in text_there f.kind x it.2 h
  wrapped_there f (Some (content.octets x)) k c s h = bytes_there f.kind x (s (content.octets x) refl).2 h
  wrapped_there f (Some (content.message m)) k c s h =
      let it = (s (content.message m) refl).1 in
      let is : f.kind ≡ kind.Message it.0 = it.1 in
      (let bad : is_wrapped_kind (kind.Message it.0) ≡ true = ap is_wrapped_kind (sym is) ∙ k in cc)
  wrapped_there f (Some (content.many vs)) k c s h =
      let is : f.cardinality ≡ Repeated = (s (content.many vs) refl).0 in
      (let bad : Singular ≡ Repeated = sym c ∙ is in cc)
  wrapped_there f (Some (content.keyed ps)) k c s h =
      let it = (s (content.keyed ps) refl).1 in
      let is : f.cardinality ≡ Map it.0 = it.1 in
      (let bad : Singular ≡ Map it.0 = sym c ∙ is in cc)

  wrapper_there : (t : ℕ) → form_of shape t ≡ forms.Wrapper → (fs : Fields) → AreSound shape (fields_of shape t) fs
      → scalar_tree shape o (kind_at shape t 1) (get 1 fs) ≡ None → ⊥
  wrapper_there t form fs s h =
      let has = wrapper_fields shape t form in
      let f = has.value.field in
      let P : Option FieldShape → Type 0 = λ x. (w : Val) → get 1 fs ≡ Some w → IsSoundAt shape x w in
      wrapped_there f (get 1 fs) (ap is_wrapped_kind has.value.of_kind ∙ has.passes) has.value.of_cardinality
      (subst P has.value.there (λ w e. sound_at shape (fields_of shape t) 1 fs w s e))
      (ap (λ x. scalar_tree shape o (kind_in x) (get 1 fs)) (sym has.value.there) ∙ h)

  -- what is known of the values of the fields: where one has no tree, it has a fault
  abbrev AreFaulty : Fields → Type 0
  AreFaulty fs = (n : ℕ) (v : Val) (f : FieldShape) (k : Kind) → get n fs ≡ Some v → IsSoundAt shape (Some f) v → f.kind ≡ k
      → tells shape o v (one k) ≡ None → FaultsOf (parts_of shape v (one k))

  several_faulty : (f : FieldShape) (k : Kind) (d : Data) (x : Option Val) → is_single f.cardinality ≡ false
      → ((v : Val) → x ≡ Some v → IsSoundAt shape (Some f) v)
      → ((v : Val) → x ≡ Some v → IsSoundAt shape (Some f) v → tells shape o v (one k) ≡ None → FaultsOf (parts_of shape v (one k)))
      → tree_or shape o k (Some d) x ≡ None → FaultsOf (several_parts k x)
  several_faulty f k d None c s each h = absurd (cc)
  several_faulty f k d (Some (content.many vs)) c s each h = each (content.many vs) refl (s (content.many vs) refl) h
  several_faulty f k d (Some (content.keyed ps)) c s each h = each (content.keyed ps) refl (s (content.keyed ps) refl) h
  several_faulty f k d (Some (content.number z)) c s each h = absurd (never_single f c (s (content.number z) refl).0)
  several_faulty f k d (Some (content.truth z)) c s each h = absurd (never_single f c (s (content.truth z) refl).0)
  several_faulty f k d (Some (content.text z)) c s each h = absurd (never_single f c (s (content.text z) refl).0)
  several_faulty f k d (Some (content.octets z)) c s each h = absurd (never_single f c (s (content.octets z) refl).0)
  several_faulty f k d (Some (content.message z)) c s each h = absurd (never_single f c (s (content.message z) refl).0)

  -- a `Struct` or a `ListValue`
  struct_faulty : (t : ℕ) (f : FieldShape) (d : Data) (fs : Fields) → field_of 1 (fields_of shape t) ≡ Some f → is_single f.cardinality ≡ false
      → AreSound shape (fields_of shape t) fs → AreFaulty fs → field_tree shape t 1 (Some d) (fields_tell shape o fs) ≡ None
      → FaultsOf (struct_parts shape t fs)
  struct_faulty t f d fs there c s each h =
      let k = kind_at shape t 1 in
      let P : Option FieldShape → Type 0 = λ x. (v : Val) → get 1 fs ≡ Some v → IsSoundAt shape x v in
      several_faulty f k d (get 1 fs) c (subst P there (λ v e. sound_at shape (fields_of shape t) 1 fs v s e))
      (λ v e sound q. each 1 v f k e sound (sym (ap kind_in there)) q) (sym (told_at shape o 1 k (Some d) fs) ∙ h)

  -- a message of such a type that a `Value` holds
  held_faulty : (u : ℕ) (form : Form) (c : Content) → form_of shape u ≡ form → holds_several form ≡ true → FaultsOf (content_parts shape u c)
      → FaultsOf (held_parts shape u form (Some (content.message c)))
  held_faulty u form (content.content fs kept) e s h = at form s (subst FaultsOf (ap parts e) h)
    where
      parts : Form → Taken
      parts x = if is_object_form x then Ok (members false (declared_of shape u) fs kept) else form_parts shape u x fs kept

      at : (x : Form) → holds_several x ≡ true → FaultsOf (parts x) → FaultsOf (held_parts shape u x (Some (content.message (content.content fs kept))))
      at forms.Struct s q = q
      at forms.ListValue s q = q
      at forms.Misshapen s q = q
      at _ s q = absurd (cc)

  -- the value of a field of a `Value`
  value_field_faulty : (t n : ℕ) (v : Val) (f : FieldShape) → field_of n (fields_of shape t) ≡ Some f → IsOfValue shape n f → IsSoundAt shape (Some f) v
      → FaultsOf (parts_of shape v (one (kind_at shape t n)))
      → FaultsOf (held_parts shape (type_at shape t n) (form_of shape (type_at shape t n)) (Some v))
  value_field_faulty t n (content.message c) f there of s h =
      let is : kind_at shape t n ≡ kind.Message s.1.0 = ap kind_in there ∙ s.1.1 in
      let type : type_at shape t n ≡ s.1.0 = ap type_of is in
      let holds : holds_several (form_of shape (type_at shape t n)) ≡ true =
      ap (λ x. holds_several (form_of shape x)) type ∙ of.holds s.1.0 s.1.1 in
      held_faulty (type_at shape t n) (form_of shape (type_at shape t n)) c refl holds h
  value_field_faulty t n (content.number z) f there of s h = leaf_held t n (content.number z) refl h
  value_field_faulty t n (content.truth z) f there of s h = leaf_held t n (content.truth z) refl h
  value_field_faulty t n (content.text z) f there of s h = leaf_held t n (content.text z) refl h
  value_field_faulty t n (content.octets z) f there of s h = leaf_held t n (content.octets z) refl h
  value_field_faulty t n (content.many vs) f there of s h = absurd (let bad : Singular ≡ Repeated = sym of.single ∙ s.0 in cc)
  value_field_faulty t n (content.keyed ps) f there of s h = absurd (let bad : Singular ≡ Map s.1.0 = sym of.single ∙ s.1.1 in cc)

  value_message_faulty : (t : ℕ) (fs : Fields) (kept : List Rec) → form_of shape t ≡ forms.Value → AreSound shape (fields_of shape t) fs → AreFaulty fs
      → value_tree shape t fs kept (fields_tell shape o fs) ≡ None → FaultsOf (value_parts shape t fs kept)
  value_message_faulty t fs kept form s each h = at (keeps_float (declared_of shape t) kept) h
    where
      tree : Fields → Option Data
      tree fs = if first_field fs == 1 then Some null else field_tree shape t (first_field fs) (Some null) (fields_tell shape o fs)

      parts : Fields → Taken
      parts fs = held_parts shape (type_at shape t (first_field fs)) (form_of shape (type_at shape t (first_field fs))) (get (first_field fs) fs)

      told : (fs : Fields) → AreSound shape (fields_of shape t) fs → AreFaulty fs → tree fs ≡ None → FaultsOf (parts fs)
      told content.no_fields s each h = absurd (cc)
      told (content.field n v fs) s each h = by (n == 1) h
        where
          own : (f : FieldShape) × (field_of n (fields_of shape t) ≡ Some f) × IsSoundAt shape (Some f) v
          own = field_at shape v (field_of n (fields_of shape t)) s.0

          below : tells shape o v (one (kind_at shape t n)) ≡ None
              → FaultsOf (held_parts shape (type_at shape t n) (form_of shape (type_at shape t n)) (Some v))
          below q =
              value_field_faulty t n v own.0 own.1 (of_value shape t form n own.0 own.1) own.2
              (each n v own.0 (kind_at shape t n) (get_first n v fs) own.2 (sym (ap kind_in own.1)) q)

          by : (x : Bool) → (if x then Some null else field_tree shape t n (Some null) (fields_tell shape o (content.field n v fs))) ≡ None
              → FaultsOf (parts (content.field n v fs))
          by true q = absurd (cc)
          by false q =
              subst (λ x. FaultsOf (held_parts shape (type_at shape t n) (form_of shape (type_at shape t n)) x)) (sym (get_first n v fs))
              (below (sym (told_at shape o n (kind_at shape t n) (Some null) (content.field n v fs)
              ∙ ap (tree_or shape o (kind_at shape t n) (Some null)) (get_first n v fs)) ∙ q))

      at : (b : Bool) → (if b then None else tree fs) ≡ None → FaultsOf (if b then Err fault.Float else parts fs)
      at true q = inl (fault.Float, refl)
      at false q = told fs s each q

  -- an `Any` without a tree has a fault
  abbrev IsAnyFaulty : Fields → Type 0
  IsAnyFaulty fs = any_tree shape o (text_at (get 1 fs)) (bytes_at (get 2 fs)) ≡ None → FaultsOf (any_parts shape fs)

  form_faulty : (t : ℕ) (form : Form) → form_of shape t ≡ form → (fs : Fields) (kept : List Rec) → AreSound shape (fields_of shape t) fs → AreFaulty fs
      → IsAnyFaulty fs → form_tree shape o t form fs kept (fields_tell shape o fs) ≡ None → FaultsOf (form_parts shape t form fs kept)
  form_faulty t forms.Timestamp e fs kept s each any h = text_faulty (timestamp_tree fs) h
  form_faulty t forms.Duration e fs kept s each any h = text_faulty (duration_tree fs) h
  form_faulty t forms.FieldMask e fs kept s each any h = text_faulty (mask_tree fs) h
  form_faulty t forms.Wrapper e fs kept s each any h = absurd (wrapper_there t e fs s h)
  form_faulty t forms.Struct e fs kept s each any h =
      let has = struct_fields shape t e in
      struct_faulty t has.fields.has.field _ fs has.fields.has.there (ap is_single has.fields.has.of_cardinality) s each h
  form_faulty t forms.ListValue e fs kept s each any h =
      let has = list_fields shape t e in
      struct_faulty t has.values.has.field _ fs has.values.has.there (ap is_single has.values.has.of_cardinality) s each h
  form_faulty t forms.Value e fs kept s each any h = value_message_faulty t fs kept e s each h
  form_faulty t forms.FloatWrapper e fs kept s each any h = inl (fault.Float, refl)
  form_faulty t forms.Misshapen e fs kept s each any h = inl (fault.Shape, refl)
  form_faulty t forms.Fields e fs kept s each any h = inl (fault.WrongKind, refl)
  form_faulty t forms.Any e fs kept s each any h = any h
  form_faulty t forms.Empty e fs kept s each any h = inl (fault.WrongKind, refl)

  -- ---- objects

  message_fault : (t : ℕ) (fs : Fields) (kept : List Rec) → AreSound shape (by_number (declared_of shape t)) fs
      → ((ys : List Line) → list_any is_bare ys ≡ false → list_any is_bare (value_lines shape o (declared_of shape t) fs ++ ys) ≡ true
      → FieldFault shape o (declared_of shape t) fs)
      → AreFaulty fs → IsAnyFaulty fs → content_tree shape o (content.content fs kept) t ≡ None → FaultsOf (content_parts shape t (content.content fs kept))
  message_fault t fs kept sound each own any h = known (is_object_type shape t) h
    where
      gs : List FieldShape
      gs = declared_of shape t

      at_key : (s : List ℕ) (kind : JsonKind) → KeyBreaks o (members false (declared_of shape t) fs kept) s kind
          → FaultsOf (Ok (members false (declared_of shape t) fs kept))
      at_key s kind b = inr (members false (declared_of shape t) fs kept, refl, (Key s, [], kind, inl (refl, b)))

      by_field : FieldFault shape o (declared_of shape t) fs → FaultsOf (Ok (members false (declared_of shape t) fs kept))
      by_field (inr it) =
          at_key it.0 fault.DuplicateField (twice_append it.0 (value_keys o (declared_of shape t) fs)
          (map_list (key_of_field o) (filter (is_written_default o fs) (declared_of shape t))) it.1)
      by_field (inl it) =
          let place = it.3.0 in
          let kind = it.3.1 in
          let P : Option (Val × Asked) → Type 0 = λ x. SomeWith x (λ next. WriteFaultAt shape o place next.0 next.1 kind) in
          inr (members false (declared_of shape t) fs kept, refl, (Key it.0, place, kind, inr (subst P (sym it.2) it.3.2)))

      not_lines : (list_any is_bare (lines shape o (declared_of shape t) fs (fields_tell shape o fs)) ≡ true)
          ⊎ ((s : List ℕ) × (is_twice s (keys_of (lines shape o (declared_of shape t) fs (fields_tell shape o fs))) ≡ true))
          → FaultsOf (Ok (members false (declared_of shape t) fs kept))
      not_lines (inl e) =
          by_field (each (map_list (default_line shape o) (filter (is_written_default o fs) (declared_of shape t))) (no_default_bare fs (declared_of shape t)) e)
      not_lines (inr e) =
          at_key e.0 fault.DuplicateField
          (ap (is_twice e.0) (sym (keys_sound (declared_of shape t) (filter (is_written_default o fs) (declared_of shape t)) fs sound)) ∙ e.1)

      by_float : list_any (λ f. is_float f.kind && is_kept_of kept f) (declared_of shape t) ≡ true → FaultsOf (Ok (members false (declared_of shape t) fs kept))
      by_float e = let it = float_key kept (declared_of shape t) e in at_key it.0 fault.Float it.1

      kept_case : (b : Bool) → keeps_float (declared_of shape t) kept ≡ b
          → (if b then None else option_map object (members_of_lines (lines shape o (declared_of shape t) fs (fields_tell shape o fs)))) ≡ None
          → FaultsOf (Ok (members false (declared_of shape t) fs kept))
      kept_case true e q = by_float e
      kept_case false e q =
          not_lines (not_made (lines shape o (declared_of shape t) fs (fields_tell shape o fs))
          (map_none object (members_of_lines (lines shape o (declared_of shape t) fs (fields_tell shape o fs))) q))

      known : (b : Bool)
          → (if b then object_tree shape o (declared_of shape t) fs kept (fields_tell shape o fs)
          else own_tree shape o t fs kept (fields_tell shape o fs)) ≡ None
          → FaultsOf (if b then Ok (members false (declared_of shape t) fs kept) else form_parts shape t (form_of shape t) fs kept)
      known true q = kept_case (keeps_float (declared_of shape t) kept) refl q
      known false q = form_faulty t (form_of shape t) refl fs kept sound own any q

  -- ---- all values

  elements_found : (k : Kind) (vs : Vals) → ElementFault shape o k vs → FaultsOf (Ok (elements k vs))
  elements_found k vs it =
      let place = it.3.0 in
      let kind = it.3.1 in
      let P : Option (Val × Asked) → Type 0 = λ x. SomeWith x (λ next. WriteFaultAt shape o place next.0 next.1 kind) in
      let is : into_written o (elements k vs) (Index it.0) ≡ Some (it.1, one k) = rw it.2 refl in
      inr (elements k vs, refl, (Index it.0, place, kind, inr (subst P (sym is) it.3.2)))

  entries_found : (k : Kind) (ps : Pairs) → EntryFault shape o k ps → FaultsOf (Ok (keyed k ps))
  entries_found k ps it =
      let place = it.3.0 in
      let kind = it.3.1 in
      let P : Option (Val × Asked) → Type 0 = λ x. SomeWith x (λ next. WriteFaultAt shape o place next.0 next.1 kind) in
      let is : into_written o (keyed k ps) (Key it.0) ≡ Some (it.1, one k) = rw it.2 refl in
      inr (keyed k ps, refl, (Key it.0, place, kind, inr (subst P (sym is) it.3.2)))

  -- the lines of a map are not made only where an entry has no tree
  entry_bare : (kk k : Kind) (ps : Pairs) → ArePairs shape kk k ps
      → (list_any is_bare (map_list (entry_line k) (pairs_tell shape o ps)) ≡ true)
      ⊎ ((s : List ℕ) × (is_twice s (keys_of (map_list (entry_line k) (pairs_tell shape o ps))) ≡ true))
      → list_any is_bare (map_list (entry_line k) (pairs_tell shape o ps)) ≡ true
  entry_bare kk k ps sound (inl e) = e
  entry_bare kk k ps sound (inr e) =
      let never = no_twice shape o kk k e.0 ps sound in
      let bad : true ≡ false = sym e.1 ∙ ap (is_twice e.0) (entry_keys shape o k ps) ∙ never in
      absurd (cc)

  -- ---- messages of `Any`

  -- a message without fields has no URL
  bare_faulty : (t : ℕ) (kept : List Rec) → content_tree shape o (content.content content.no_fields kept) t ≡ None
      → FaultsOf (content_parts shape t (content.content content.no_fields kept))
  bare_faulty t kept h =
      message_fault t content.no_fields kept tt (λ ys none bare. absurd (no_bare ys none bare)) (λ m v f k e s is q. absurd (no_field v e))
      (λ q. inl (fault.AnyType, refl)) h
    where
      no_bare : (ys : List Line) → list_any is_bare ys ≡ false → list_any is_bare ys ≡ true → ⊥
      no_bare ys p q = (let bad : true ≡ false = sym q ∙ p in cc)

      no_field : (v : Val) → None ≡ Some v → ⊥
      no_field v e = cc

  -- a fault of fields is one of the fields beside the type too
  typed_faulty : (gs : List FieldShape) (fs : Fields) (kept : List Rec) → FaultsOf (Ok (members false gs fs kept)) → FaultsOf (Ok (members true gs fs kept))
  typed_faulty gs fs kept (inl it) = absurd (no_error shape o (Ok (members false gs fs kept)) (members false gs fs kept) it.0 refl it.1)
  typed_faulty gs fs kept (inr it) =
      let step = it.2.0 in
      let place = it.2.1 in
      let kind = it.2.2 in
      let P : Parts → Type 0 = λ parts.
      IsKeyFault o parts step place kind ⊎ SomeWith (into_written o parts step) (λ next. WriteFaultAt shape o place next.0 next.1 kind) in
      inr (members true gs fs kept, refl, (step, place, kind, lifted step place kind (subst P (sym (one_part shape o (Ok (members false gs fs kept)) (members false gs fs kept) it.0 refl it.1)) it.2.3)))
    where
      by_key : (s : List ℕ) (k : JsonKind) → KeyBreaks o (members false gs fs kept) s k → KeyBreaks o (members true gs fs kept) s k
      by_key s fault.DuplicateField h =
          twice_behind s (codes "@type") (value_keys o gs fs ++ map_list (key_of_field o) (filter (is_written_default o fs) gs)) h
      by_key s fault.Float h = h
      by_key s _ h = absurd h

      lifted : (step : Step) (place : List Step) (k : JsonKind)
          → (IsKeyFault o (members false gs fs kept) step place k
          ⊎ SomeWith (into_written o (members false gs fs kept) step) (λ next. WriteFaultAt shape o place next.0 next.1 k))
          → (IsKeyFault o (members true gs fs kept) step place k
          ⊎ SomeWith (into_written o (members true gs fs kept) step) (λ next. WriteFaultAt shape o place next.0 next.1 k))
      lifted (Key s) place k (inl b) = inl (b.0, by_key s k b.1)
      lifted (Key s) place k (inr b) = inr b
      lifted (Index i) place k (inl b) = absurd b
      lifted (Index i) place k (inr b) = absurd b

  -- the payload's fault is one of the `Any`
  payload_faulty : (u : ℕ) (p : Content) → FaultsOf (content_parts shape u p) → FaultsOf (payload_parts shape u (Some p))
  payload_faulty u (content.content fs kept) h = at (stands_beside shape u) refl
    where
      beside : (x : Bool) → x ≡ true → FaultsOf (if x then Ok (members false (declared_of shape u) fs kept) else form_parts shape u (form_of shape u) fs kept)
          → FaultsOf (Ok (members true (declared_of shape u) fs kept))
      beside true e q = typed_faulty (declared_of shape u) fs kept q
      beside false e q = absurd (cc)

      at : (x : Bool) → stands_beside shape u ≡ x
          → FaultsOf (if x then Ok (members true (declared_of shape u) fs kept) else Ok (payload u (content.content fs kept)))
      at true e = beside (is_object_type shape u) (stands_object shape u e) h
      at false e =
          let it = placed (content.message (content.content fs kept)) (one (kind.Message u)) h in
          inr (payload u (content.content fs kept), refl, (Key (codes "value"), it.0, it.1, inr it.2))

  -- the type's key is there already
  key_faulty : (u : ℕ) (url : List ℕ) (fs : Fields) (kept : List Rec) (d : Data) → is_object_type shape u ≡ true
      → content_tree shape o (content.content fs kept) u ≡ Some d → with_type url d ≡ None → FaultsOf (Ok (members true (declared_of shape u) fs kept))
  key_faulty u url fs kept d object_type told w = at (is_object_type shape u) object_type told
    where
      at_lines : (ms : Members) → members_of_lines (lines shape o (declared_of shape u) fs (fields_tell shape o fs)) ≡ Some ms → object ms ≡ d
          → FaultsOf (Ok (members true (declared_of shape u) fs kept))
      at_lines ms made is =
          let none : with_type url (object ms) ≡ None = ap (with_type url) is ∙ w in
          let has : has_key (codes "@type") ms ≡ true = taken (has_key (codes "@type") ms) ms (map_none object (with_member (codes "@type") (string url) ms) none) in
          let keys = keys_are shape o (declared_of shape u) (filter (is_written_default o fs) (declared_of shape u)) fs ms made in
          let among : any_key (codes "@type") (value_keys o (declared_of shape u) fs ++ map_list (key_of_field o) (filter (is_written_default o fs) (declared_of shape u))) ≡ true =
          ap (any_key (codes "@type")) (sym keys) ∙ sym (keys_made (codes "@type") (lines shape o (declared_of shape u) fs (fields_tell shape o fs)) ms made) ∙ has in
          inr (
            members true (declared_of shape u) fs kept,
            refl,
            (
              Key (codes "@type"),
              [],
              fault.DuplicateField,
              inl (
                refl,
                twice_in_front (codes "@type") (codes "@type") (value_keys o (declared_of shape u) fs
                    ++ map_list (key_of_field o) (filter (is_written_default o fs) (declared_of shape u))) refl among,
              ),
            ),
          )
        where
          taken : (x : Bool) (ns : Members) → (if x then None else Some (put (codes "@type") (string url) ns)) ≡ None → x ≡ true
          taken true ns q = refl
          taken false ns q = absurd (cc)

      at : (x : Bool) → x ≡ true
          → (if x then object_tree shape o (declared_of shape u) fs kept (fields_tell shape o fs) else own_tree shape o u fs kept (fields_tell shape o fs)) ≡ Some d
          → FaultsOf (Ok (members true (declared_of shape u) fs kept))
      at false q h = absurd (cc)
      at true q h =
          let free = unless_some (keeps_float (declared_of shape u) kept)
          (option_map object (members_of_lines (lines shape o (declared_of shape u) fs (fields_tell shape o fs)))) d h in
          let made = from_map object (members_of_lines (lines shape o (declared_of shape u) fs (fields_tell shape o fs))) d free.1 in
          at_lines made.0 made.1 made.2

  -- the payload has a tree, and the `Any` has none
  joined_faulty : (u : ℕ) (url : List ℕ) (p : Content) (d : Data) → content_tree shape o p u ≡ Some d → any_with shape url u d ≡ None
      → FaultsOf (payload_parts shape u (Some p))
  joined_faulty u url (content.content fs kept) d told h = at (stands_beside shape u) refl h
    where
      at : (x : Bool) → stands_beside shape u ≡ x → (if x then with_type url d else Some (type_and_value url d)) ≡ None
          → FaultsOf (if x then Ok (members true (declared_of shape u) fs kept) else Ok (payload u (content.content fs kept)))
      at true e q = key_faulty u url fs kept d (stands_object shape u e) told q
      at false e q = absurd (cc)

  -- what is known of payloads, which are shorter than what holds them
  abbrev AreInner : ℕ → Type 0
  AreInner size =
      (u : ℕ) (bytes : List ℕ) (p : Content) → 0 < length bytes → length bytes < size → meaning_of shape u bytes ≡ Some p → content_tree shape o p u ≡ None
      → FaultsOf (content_parts shape u p)

  module _ (writes : WritesPayloads shape o) (size : ℕ) (some : 0 < size) (inner : AreInner size) where
    inner_faulty : (u : ℕ) (bytes : List ℕ) (p : Content) → length bytes < size → meaning_of shape u bytes ≡ Some p → content_tree shape o p u ≡ None
        → FaultsOf (content_parts shape u p)
    inner_faulty u (x ∷ xs) p below means h = inner u (x ∷ xs) p (omega arith) below means h
    inner_faulty u [] p below means h =
        let bare : content.content content.no_fields [] ≡ p =
        of_some (content.content content.no_fields []) p (sym (nothing_means shape 100 (fields_of shape u)) ∙ means) in
        subst (λ c. FaultsOf (content_parts shape u c)) bare (bare_faulty u [] (ap (λ c. content_tree shape o c u) bare ∙ h))

    any_faulty : (url bytes : List ℕ) (x : Option ℕ) → length bytes < size → payload_in shape o url bytes x ≡ None → FaultsOf (typed_parts shape bytes x)
    any_faulty url bytes None below h = inl (fault.AnyType, refl)
    any_faulty url bytes (Some u) below h = by_meaning (meaning_of shape u bytes) refl
      where
        by_tree : (p : Content) → meaning_of shape u bytes ≡ Some p → (x : Option Data) → content_tree shape o p u ≡ x → FaultsOf (payload_parts shape u (Some p))
        by_tree p means None e = payload_faulty u p (inner_faulty u bytes p below means e)
        by_tree p means (Some d) e =
            joined_faulty u url p d e (sym (ap (option_and_then (any_with shape url u)) (writes.by_content u bytes p means ∙ e)) ∙ h)

        by_meaning : (x : Option Content) → meaning_of shape u bytes ≡ x → FaultsOf (payload_parts shape u x)
        by_meaning None means = inl (fault.AnyPayload, refl)
        by_meaning (Some p) means = by_tree p means (content_tree shape o p u) refl

    mutual
      -- what stands below a value without a tree
      below_faulty : (v : Val) (a : Asked) → IsValShorter size v → IsAsked shape a v → tells shape o v a ≡ None → FaultsOf (parts_of shape v a)
      below_faulty (content.number z) a below s h = absurd (number_there (kind_asked a) z (number_asked shape a z s) h)
      below_faulty (content.truth b) a below s h = absurd (truth_there (kind_asked a) b (truth_asked shape a b s) h)
      below_faulty (content.text x) a below s h = absurd (text_there (kind_asked a) x (text_asked shape a x s) h)
      below_faulty (content.octets x) a below s h = absurd (bytes_there (kind_asked a) x (octets_asked shape a x s) h)
      below_faulty (content.message c) a below s h = content_faulty c (type_of (kind_asked a)) below (message_asked shape a c s) h
      below_faulty (content.many vs) a below s h =
          elements_found (kind_asked a) vs (vals_faulty vs (kind_asked a) below (many_asked shape a vs s)
          (map_none (λ ds. array (items_of ds)) (all_read (λ (t : Tells). t (one (kind_asked a))) (vals_tell shape o vs)) h))
      below_faulty (content.keyed ps) a below s h =
          let keys = keyed_asked shape a ps s in
          entries_found (kind_asked a) ps (pairs_faulty ps keys.0 (kind_asked a) below keys.1
          (entry_bare keys.0 (kind_asked a) ps keys.1 (not_made (map_list (entry_line (kind_asked a)) (pairs_tell shape o ps))
          (map_none object (members_of_lines (map_list (entry_line (kind_asked a)) (pairs_tell shape o ps))) h))))

      content_faulty : (c : Content) (t : ℕ) → AreShorter size c → IsSound shape t c → content_tree shape o c t ≡ None → FaultsOf (content_parts shape t c)
      content_faulty (content.content fs kept) t below s h =
          message_fault t fs kept s.1 (λ ys none bare. fields_faulty fs (declared_of shape t) below s.1 ys none bare) (each_faulty fs below)
          (λ q. any_faulty (text_at (get 1 fs)) (bytes_at (get 2 fs)) (type_of_url shape (text_at (get 1 fs)))
          (bytes_short size some (get 2 fs) (get_shorter size 2 fs below)) q) h

      each_faulty : (fs : Fields) → AreFieldsShorter size fs → AreFaulty fs
      each_faulty content.no_fields below n v f k e s is h = absurd (cc)
      each_faulty (content.field m w fs) below n v f k e s is h =
          at (n == m) e (each_faulty fs below.1 n v f k) (below_faulty w (field f) below.0)
        where
          at : (b : Bool) → (if b then Some w else get n fs) ≡ Some v
              → (get n fs ≡ Some v → IsSoundAt shape (Some f) v → f.kind ≡ k → tells shape o v (one k) ≡ None → FaultsOf (parts_of shape v (one k)))
              → (IsSoundAt shape (Some f) w → tells shape o w (field f) ≡ None → FaultsOf (parts_of shape w (field f)))
              → FaultsOf (parts_of shape v (one k))
          at false q later own = later q s is h
          at true q later own =
              let same : v ≡ w = sym (of_some w v q) in
              let sound : IsSoundAt shape (Some f) w = subst (λ x. IsSoundAt shape (Some f) x) same s in
              let untold : tells shape o w (field f) ≡ None =
              tells_alike shape o w (field f) (one k) is ∙ ap (λ x. tells shape o x (one k)) (sym same) ∙ h in
              subst FaultsOf (ap (λ x. parts_of shape x (field f)) (sym same) ∙ parts_alike shape v (field f) (one k) is) (own sound untold)

      fields_faulty : (fs : Fields) (gs : List FieldShape) → AreFieldsShorter size fs → AreSound shape (by_number gs) fs → (ys : List Line) → list_any is_bare ys ≡ false
          → list_any is_bare (value_lines shape o gs fs ++ ys) ≡ true → FieldFault shape o gs fs
      fields_faulty content.no_fields gs below s ys none h = absurd (let bad : true ≡ false = sym h ∙ none in cc)
      fields_faulty (content.field n v fs) gs below s ys none h =
          let own = own_field shape n v gs s.0 in
          field_step shape o gs n v fs ys own.0 own.1 (λ q. placed v (field own.0) (below_faulty v (field own.0) below.0 own.2 q))
          (λ q. fields_faulty fs gs below.1 s.1 ys none q) h

      vals_faulty : (vs : Vals) (k : Kind) → AreValsShorter size vs → AreElements shape k vs → all_read (λ (t : Tells). t (one k)) (vals_tell shape o vs) ≡ None → ElementFault shape o k vs
      vals_faulty content.no_vals k below s h = absurd (cc)
      vals_faulty (content.val v vs) k below s h =
          element_step shape o k v vs (λ q. placed v (one k) (below_faulty v (one k) below.0 s.0 q)) (λ q. vals_faulty vs k below.1 s.1 q) h

      pairs_faulty : (ps : Pairs) (kk k : Kind) → ArePairsShorter size ps → ArePairs shape kk k ps → list_any is_bare (map_list (entry_line k) (pairs_tell shape o ps)) ≡ true
          → EntryFault shape o k ps
      pairs_faulty content.no_pairs kk k below s h = absurd (cc)
      pairs_faulty (content.pair l v ps) kk k below s h =
          entry_step shape o kk k l v ps s (λ q. placed v (one k) (below_faulty v (one k) below.0 s.1 q)) (λ q. pairs_faulty ps kk k below.1 s.3 q) h

  -- payloads in payloads end, as they are shorter
  pub found_within : (proper : IsProper shape) (writes : WritesPayloads shape o) (m size : ℕ) → size ≤ m → 0 < size → (c : Content) (t : ℕ) → AreShorter size c → IsSound shape t c
      → content_tree shape o c t ≡ None → FaultsOf (content_parts shape t c)
  found_within proper writes zero size le some c t below sound h = absurd (omega arith)
  found_within proper writes (suc m) size le some c t below sound h =
      content_faulty writes size some
      (λ u bytes p some_bytes short means none.
      found_within proper writes m (length bytes) (omega arith) some_bytes p u (meaning_shrinks shape 100 (fields_of shape u) bytes p means)
      (meaning_sound shape 100 u bytes p proper means).0 none) c t below sound h

pub canonical_without_fault : CanonicalWithoutFault
canonical_without_fault shape t c o proper sound = (clean, found)
  where
    clean : (d : Data) × (content_tree shape (writing shape o) c t ≡ Some d) → (place : List Step) (kind : JsonKind) → ¬ WriteFault shape t c o place kind
    clean it place kind h =
        untold shape (writing shape o) proper (writes_payloads shape o) place (content.message c) (root t) kind (t, refl, sound) h it.0 it.1

    found : ((place : List Step) (kind : JsonKind) → ¬ WriteFault shape t c o place kind) → (d : Data) × (content_tree shape (writing shape o) c t ≡ Some d)
    found f = at (content_tree shape (writing shape o) c t) refl
      where
        at : (x : Option Data) → content_tree shape (writing shape o) c t ≡ x → (d : Data) × (content_tree shape (writing shape o) c t ≡ Some d)
        at (Some d) e = (d, e)
        at None e =
            let bound = content_bound c in
            let faults = found_within shape (writing shape o) proper (writes_payloads shape o) bound.0 bound.0 (omega arith) bound.1 c t bound.2 sound e in
            let it = placed shape (writing shape o) (content.message c) (root t) faults in
            absurd (f it.0 it.1 it.2)
