-- What a message may have, of what is written below it.
use Rattle.std.proofs.Common.{◌≡◌, ℕ, zero, suc, ◌==◌, ℤ, List, Bool, true, false, if◌then◌else◌, Option, Some, None, option_map, refl, ap, sym, ◌∙◌, subst}
use Rattle.std.specs.Prelude.{Result, Ok, Err}
use Rattle.std.specs.Str.{bytes_eq}
use Rattle.std.proofs.lemmas.Bool.{eqb-true}
use Rattle.pbx_wire.specs.declared.rec.Rec.{Rec}
use Rattle.pbx_content.specs.Content as content
use Rattle.pbx_content.specs.Content.{Content, Fields, Val, Vals, Pairs, get, fields}
use Rattle.pbx_content.specs.Encoding.{type_of}
use Rattle.pbx_content.specs.Meaning.{meaning_of}
use Rattle.pbx_content.proofs.SoundLaw.{meaning_sound}
use Rattle.pbx_content.specs.Shape.{declared_of, by_number, fields_of, field_of}
use Rattle.pbx_content.specs.Sound.{IsProper, IsSound, AreSound, IsSoundAt, AreElements, ArePairs, IsElement, IsNumber}
use Rattle.pbx_content.specs.declared.shape.Kind.{Kind}
use Rattle.pbx_content.specs.declared.shape.Kind.TheVariants as kind
use Rattle.pbx_content.specs.declared.shape.FieldShape.{FieldShape}
use Rattle.pbx_content.specs.declared.shape.Shape.{Shape}
use Rattle.pbx_wkt_types.specs.Shapes.{form_of}
use Rattle.pbx_wkt_types.specs.declared.form.Form.{Form}
use Rattle.pbx_wkt_types.specs.declared.form.Form.TheVariants as forms
use Rattle.pbx_json_meaning.specs.Asked.{Asked, field, one}
use Rattle.pbx_json_meaning.specs.Canonical.{Writing, kind_asked, key_text, keeps_float, first_field}
use Rattle.pbx_json_meaning.specs.Forms.{is_object_type, kind_in, type_at, timestamp_tree, duration_tree, mask_tree, text_at, bytes_at}
use Rattle.pbx_json_meaning.specs.Urls.{type_of_url, stands_beside, is_value_key}
use Rattle.pbx_json_meaning.specs.WriteFaults.{Parts, leaf, elements, keyed, members, payload, Taken, as_leaf, several_parts, struct_parts, held_parts, value_parts, payload_parts, typed_parts, form_parts}
use Rattle.pbx_json_meaning.specs.WriteFaults.{content_parts, message_parts, parts_of, val_at, val_under, is_under, asked_of, field_under, into_written}
use Rattle.pbx_json_meaning.specs.declared.kind.JsonKind.{JsonKind}
use Rattle.pbx_json_meaning.specs.declared.kind.JsonKind.TheVariants as fault
use Rattle.pbx_json_meaning.specs.declared.place.Step.{Step}
use Rattle.pbx_json_meaning.specs.declared.place.Step.TheVariants.{Key, Index}
use Rattle.pbx_json_laws.proofs.Numbers.{field_of-by_number}
use Rattle.pbx_json_laws.proofs.Parts.{of_some}

module _ (shape : Shape) where
  -- ---- what is asked of a value that a message may have

  abbrev pub IsAsked : Asked → Val → Type 0
  IsAsked (field f) v = IsSoundAt shape (Some f) v
  IsAsked (one k) v = IsElement shape k v

  pub number_asked : (a : Asked) (z : ℤ) → IsAsked a (content.number z) → IsNumber (kind_asked a) z
  number_asked (field f) z h = h.2
  number_asked (one k) z h = h

  pub truth_asked : (a : Asked) (b : Bool) → IsAsked a (content.truth b) → kind_asked a ≡ kind.Bool
  truth_asked (field f) b h = h.2
  truth_asked (one k) b h = h

  pub text_asked : (a : Asked) (s : List ℕ) → IsAsked a (content.text s) → kind_asked a ≡ kind.String
  text_asked (field f) s h = h.2
  text_asked (one k) s h = h.0

  pub octets_asked : (a : Asked) (s : List ℕ) → IsAsked a (content.octets s) → kind_asked a ≡ kind.Bytes
  octets_asked (field f) s h = h.2
  octets_asked (one k) s h = h

  pub message_asked : (a : Asked) (c : Content) → IsAsked a (content.message c) → IsSound shape (type_of (kind_asked a)) c
  message_asked (field f) c h = let P : ℕ → Type 0 = λ t. IsSound shape t c in subst P (sym (ap type_of h.1.1)) h.1.2
  message_asked (one k) c h = let P : ℕ → Type 0 = λ t. IsSound shape t c in subst P (sym (ap type_of h.1)) h.2

  pub many_asked : (a : Asked) (vs : Vals) → IsAsked a (content.many vs) → AreElements shape (kind_asked a) vs
  many_asked (field f) vs h = h.2
  many_asked (one k) vs h = absurd h

  pub keyed_asked : (a : Asked) (ps : Pairs) → IsAsked a (content.keyed ps) → (key : Kind) × ArePairs shape key (kind_asked a) ps
  keyed_asked (field f) ps h = (h.1.0, h.1.2)
  keyed_asked (one k) ps h = absurd h

  -- ---- each number is that of a field

  sound_field : (v : Val) (x : Option FieldShape) → IsSoundAt shape x v → (f : FieldShape) × (x ≡ Some f)
  sound_field (content.number z) None h = absurd h
  sound_field (content.truth z) None h = absurd h
  sound_field (content.text z) None h = absurd h
  sound_field (content.octets z) None h = absurd h
  sound_field (content.message z) None h = absurd h
  sound_field (content.many z) None h = absurd h
  sound_field (content.keyed z) None h = absurd h
  sound_field v (Some f) h = (f, refl)

  pub field_at : (v : Val) (x : Option FieldShape) → IsSoundAt shape x v → (f : FieldShape) × (x ≡ Some f) × IsSoundAt shape (Some f) v
  field_at v x h =
      let it = sound_field v x h in
      let P : Option FieldShape → Type 0 = λ y. IsSoundAt shape y v in
      (it.0, it.1, subst P it.1 h)

  pub own_field : (n : ℕ) (v : Val) (gs : List FieldShape) → IsSoundAt shape (field_of n (by_number gs)) v
      → (f : FieldShape) × (field_of n gs ≡ Some f) × IsSoundAt shape (Some f) v
  own_field n v gs h = let it = field_at v (field_of n (by_number gs)) h in (it.0, sym (field_of-by_number n gs) ∙ it.1, it.2)

  -- a value that is there is that of its field
  pub sound_at : (gs : List FieldShape) (n : ℕ) (fs : Fields) (v : Val) → AreSound shape gs fs → get n fs ≡ Some v → IsSoundAt shape (field_of n gs) v
  sound_at gs n content.no_fields v s h = absurd (cc)
  sound_at gs n (content.field m w fs) v s h = at (n == m) refl h (sound_at gs n fs v s.1)
    where
      at : (b : Bool) → (n == m) ≡ b → (if b then Some w else get n fs) ≡ Some v → (get n fs ≡ Some v → IsSoundAt shape (field_of n gs) v)
          → IsSoundAt shape (field_of n gs) v
      at false e q ih = ih q
      at true e q ih =
          let place : m ≡ n = sym (eqb-true n m e) in
          let value : w ≡ v = of_some w v q in
          subst (λ x. IsSoundAt shape (field_of n gs) x) value (subst (λ x. IsSoundAt shape (field_of x gs) w) place s.0)

  sound_fields : (t : ℕ) (c : Content) → IsSound shape t c → AreSound shape (fields_of shape t) (fields c)
  sound_fields t (content.content fs kept) s = s.1

  -- ---- what is written below

  abbrev pub AreParts : Parts → Type 0
  AreParts leaf = Unit {0}
  AreParts (elements k vs) = AreElements shape k vs
  AreParts (keyed k ps) = (key : Kind) × ArePairs shape key k ps
  AreParts (members typed gs fs kept) = AreSound shape (by_number gs) fs
  AreParts (payload u c) = IsSound shape u c

  abbrev pub AreTaken : Taken → Type 0
  AreTaken (Err kind) = Unit {0}
  AreTaken (Ok parts) = AreParts parts

  leaf_taken : {X : Type 0} (r : Result X JsonKind) → AreTaken (as_leaf r)
  leaf_taken (Err kind) = tt
  leaf_taken (Ok x) = tt

  struct_taken : (t : ℕ) (fs : Fields) → AreSound shape (fields_of shape t) fs → AreTaken (struct_parts shape t fs)
  struct_taken t fs s = at (field_of 1 (fields_of shape t)) (get 1 fs) (λ w e. sound_at (fields_of shape t) 1 fs w s e)
    where
      at : (y : Option FieldShape) (x : Option Val) → ((w : Val) → x ≡ Some w → IsSoundAt shape y w) → AreTaken (several_parts (kind_in y) x)
      at y None g = tt
      at None (Some (content.many vs)) g = absurd (g (content.many vs) refl)
      at None (Some (content.keyed ps)) g = absurd (g (content.keyed ps) refl)
      at (Some f) (Some (content.many vs)) g = many_asked (field f) vs (g (content.many vs) refl)
      at (Some f) (Some (content.keyed ps)) g = keyed_asked (field f) ps (g (content.keyed ps) refl)
      at y (Some (content.number z)) g = tt
      at y (Some (content.truth z)) g = tt
      at y (Some (content.text z)) g = tt
      at y (Some (content.octets z)) g = tt
      at y (Some (content.message z)) g = tt

  held_taken : (t : ℕ) (form : Form) (x : Option Val) → ((c : Content) → x ≡ Some (content.message c) → AreSound shape (fields_of shape t) (fields c))
      → AreTaken (held_parts shape t form x)
  held_taken t forms.Misshapen (Some (content.message c)) g = tt
  held_taken t _ (Some (content.message c)) g = struct_taken t (fields c) (g c refl)
  held_taken t _ _ g = tt

  value_taken : (t : ℕ) (fs : Fields) (kept : List Rec) → AreSound shape (fields_of shape t) fs → AreTaken (value_parts shape t fs kept)
  value_taken t fs kept s = at (keeps_float (declared_of shape t) kept)
    where
      n : ℕ
      n = first_field fs

      own : (y : Option FieldShape) (c : Content) → IsSoundAt shape y (content.message c)
          → AreSound shape (fields_of shape (type_of (kind_in y))) (fields c)
      own None c h = absurd h
      own (Some f) c h = sound_fields (type_of f.kind) c (message_asked (field f) c h)

      at : (b : Bool)
          → AreTaken (if b then Err fault.Float else held_parts shape (type_at shape t n) (form_of shape (type_at shape t n)) (get n fs))
      at true = tt
      at false =
          held_taken (type_at shape t n) (form_of shape (type_at shape t n)) (get n fs)
          (λ c e. own (field_of n (fields_of shape t)) c (sound_at (fields_of shape t) n fs (content.message c) s e))

  module _ (proper : IsProper shape) where
    payload_taken : (u : ℕ) (x : Option Content) → ((p : Content) → x ≡ Some p → IsSound shape u p) → AreTaken (payload_parts shape u x)
    payload_taken u None g = tt
    payload_taken u (Some p) g = at (stands_beside shape u)
      where
        at : (b : Bool) → AreTaken (if b then Ok (members true (declared_of shape u) (content.fields p) (content.kept p)) else Ok (payload u p))
        at true = sound_fields u p (g p refl)
        at false = g p refl

    -- what a payload means may be held by a message of its type
    typed_taken : (bytes : List ℕ) (x : Option ℕ) → AreTaken (typed_parts shape bytes x)
    typed_taken bytes None = tt
    typed_taken bytes (Some u) = payload_taken u (meaning_of shape u bytes) (λ p e. (meaning_sound shape 100 u bytes p proper e).0)

    form_taken : (t : ℕ) (form : Form) (fs : Fields) (kept : List Rec) → AreSound shape (fields_of shape t) fs → AreTaken (form_parts shape t form fs kept)
    form_taken t forms.Timestamp fs kept s = leaf_taken (timestamp_tree fs)
    form_taken t forms.Duration fs kept s = leaf_taken (duration_tree fs)
    form_taken t forms.FieldMask fs kept s = leaf_taken (mask_tree fs)
    form_taken t forms.Struct fs kept s = struct_taken t fs s
    form_taken t forms.ListValue fs kept s = struct_taken t fs s
    form_taken t forms.Value fs kept s = value_taken t fs kept s
    form_taken t forms.Any fs kept s = typed_taken (bytes_at (get 2 fs)) (type_of_url shape (text_at (get 1 fs)))
    form_taken t _ fs kept s = tt

    message_taken : (t : ℕ) (fs : Fields) (kept : List Rec) → AreSound shape (fields_of shape t) fs → AreTaken (message_parts shape t fs kept)
    message_taken t fs kept s = at (is_object_type shape t)
      where
        at : (b : Bool) → AreTaken (if b then Ok (members false (declared_of shape t) fs kept) else form_parts shape t (form_of shape t) fs kept)
        at true = s
        at false = form_taken t (form_of shape t) fs kept s

    content_taken : (t : ℕ) (c : Content) → IsSound shape t c → AreTaken (content_parts shape t c)
    content_taken t (content.content fs kept) s = message_taken t fs kept s.1

    pub parts_taken : (v : Val) (a : Asked) → IsAsked a v → AreTaken (parts_of shape v a)
    parts_taken (content.number z) a s = tt
    parts_taken (content.truth z) a s = tt
    parts_taken (content.text z) a s = tt
    parts_taken (content.octets z) a s = tt
    parts_taken (content.message c) a s = content_taken (type_of (kind_asked a)) c (message_asked a c s)
    parts_taken (content.many vs) a s = many_asked a vs s
    parts_taken (content.keyed ps) a s = keyed_asked a ps s

  -- ---- where a step leads

  element_at : (i : ℕ) (k : Kind) (vs : Vals) (v : Val) → AreElements shape k vs → val_at i vs ≡ Some v → IsElement shape k v
  element_at i k content.no_vals v s h = absurd (cc)
  element_at zero k (content.val w vs) v s h = let P : Val → Type 0 = λ x. IsElement shape k x in subst P (of_some w v h) s.0
  element_at (suc i) k (content.val w vs) v s h = element_at i k vs v s.1 h

  entry_under : (x : List ℕ) (key k : Kind) (ps : Pairs) (v : Val) → ArePairs shape key k ps → val_under x ps ≡ Some v → IsElement shape k v
  entry_under x key k content.no_pairs v s h = absurd (cc)
  entry_under x key k (content.pair l w ps) v s h = at (bytes_eq (key_text l) x) h (entry_under x key k ps v s.3)
    where
      at : (b : Bool) → (if b then Some w else val_under x ps) ≡ Some v → (val_under x ps ≡ Some v → IsElement shape k v) → IsElement shape k v
      at true q ih = let P : Val → Type 0 = λ y. IsElement shape k y in subst P (of_some w v q) s.1
      at false q ih = ih q

  module _ (o : Writing) where
    value_under : (x : List ℕ) (gs : List FieldShape) (fs : Fields) (next : Val × Asked) → AreSound shape (by_number gs) fs
        → field_under o x gs fs ≡ Some next → IsAsked next.1 next.0
    value_under x gs content.no_fields next s h = absurd (cc)
    value_under x gs (content.field n v fs) next s h = at (is_under o x (field_of n gs)) h (value_under x gs fs next s.1)
      where
        own : (f : FieldShape) × (field_of n gs ≡ Some f) × IsSoundAt shape (Some f) v
        own = own_field n v gs s.0

        at : (b : Bool) → (if b then asked_of (field_of n gs) v else field_under o x gs fs) ≡ Some next
            → (field_under o x gs fs ≡ Some next → IsAsked next.1 next.0) → IsAsked next.1 next.0
        at true q ih =
            let is : (v, field own.0) ≡ next = of_some _ next (sym (ap (λ y. asked_of y v) own.1) ∙ q) in
            let P : Val × Asked → Type 0 = λ y. IsAsked y.1 y.0 in
            subst P is own.2
        at false q ih = ih q

    pub next_asked : (parts : Parts) (step : Step) (next : Val × Asked) → AreParts parts → into_written o parts step ≡ Some next → IsAsked next.1 next.0
    next_asked (elements k vs) (Index i) next s h = at (val_at i vs) refl h
      where
        at : (x : Option Val) → val_at i vs ≡ x → option_map (λ v. (v, one k)) x ≡ Some next → IsAsked next.1 next.0
        at None e q = absurd (cc)
        at (Some v) e q =
            let is : (v, one k) ≡ next = of_some _ next q in
            let P : Val × Asked → Type 0 = λ y. IsAsked y.1 y.0 in
            subst P is (element_at i k vs v s e)
    next_asked (keyed k ps) (Key x) next s h = at (val_under x ps) refl h
      where
        at : (y : Option Val) → val_under x ps ≡ y → option_map (λ v. (v, one k)) y ≡ Some next → IsAsked next.1 next.0
        at None e q = absurd (cc)
        at (Some v) e q =
            let is : (v, one k) ≡ next = of_some _ next q in
            let P : Val × Asked → Type 0 = λ y. IsAsked y.1 y.0 in
            subst P is (entry_under x s.0 k ps v s.1 e)
    next_asked (members typed gs fs kept) (Key x) next s h = value_under x gs fs next s h
    next_asked (payload u c) (Key x) next s h = at (is_value_key x) h
      where
        at : (b : Bool) → (if b then Some (content.message c, one (kind.Message u)) else None) ≡ Some next → IsAsked next.1 next.0
        at false q = absurd (cc)
        at true q =
            let is : (content.message c, one (kind.Message u)) ≡ next = of_some _ next q in
            let P : Val × Asked → Type 0 = λ y. IsAsked y.1 y.0 in
            subst P is (u, refl, s)
    next_asked leaf step next s h = absurd (cc)
    next_asked (elements k vs) (Key x) next s h = absurd (cc)
    next_asked (keyed k ps) (Index i) next s h = absurd (cc)
    next_asked (members typed gs fs kept) (Index i) next s h = absurd (cc)
    next_asked (payload u c) (Index i) next s h = absurd (cc)
