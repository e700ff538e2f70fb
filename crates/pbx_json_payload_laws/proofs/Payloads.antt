-- A payload is written as the content that its bytes mean: how deep payloads may stand inside payloads does not matter, as each is shorter than what holds it.
use Rattle.std.proofs.Common.{◌≡◌, ℕ, zero, suc, ◌<◌, ◌==◌, ℤ, List, [], ◌∷◌, length, Bool, true, false, if◌then◌else◌, Option, Some, None, refl, sym, ap, subst, ◌∙◌, arith}
use Rattle.std.specs.Prelude.{option_and_then, option_map}
use Rattle.serde_json.specs.Data.{Data}
use Rattle.pbx_wire.specs.declared.rec.Rec.{Rec}
use Rattle.pbx_wire.specs.Reading.{records_in, body_at, items_at, item_at}
use Rattle.pbx_content.specs.Content as content
use Rattle.pbx_content.specs.Content.{Content, Fields, no_fields, field as field_of_number, Val, Vals, no_vals, val, Pairs, no_pairs, pair, Key, get}
use Rattle.pbx_content.specs.Encoding.{type_of}
use Rattle.pbx_content.specs.Meaning.{Inner, no_inner, records_of, by_cardinality, value_among, singular, values, layer, meaning, meaning_within, meaning_of}
use Rattle.pbx_content.specs.Shape.{declared_of, fields_of, is_float}
use Rattle.pbx_content.specs.declared.shape.Cardinality.{Cardinality}
use Rattle.pbx_content.specs.declared.shape.Cardinality.TheVariants.{Singular, Repeated, Map}
use Rattle.pbx_content.specs.declared.shape.FieldShape.{FieldShape}
use Rattle.pbx_content.specs.declared.shape.Kind.{Kind}
use Rattle.pbx_content.specs.declared.shape.Kind.TheVariants as kind
use Rattle.pbx_content.specs.declared.shape.Shape.{Shape}
use Rattle.pbx_wkt_types.specs.Shapes.{form_of}
use Rattle.pbx_wkt_types.specs.declared.form.Form.{Form}
use Rattle.pbx_wkt_types.specs.declared.form.Form.TheVariants as forms
use Rattle.pbx_json_meaning.specs.Asked.{Asked}
use Rattle.pbx_json_meaning.specs.Canonical.{Writing, writing, Tells, Told, kind_asked, array_tree, entries_tree, object_tree, own_tree, form_tree, any_tree, payload_in}
use Rattle.pbx_json_meaning.specs.Canonical.{message_tree, tells, content_tree, fields_tell, vals_tell, pairs_tell, payload_tree, tree_of_payload}
use Rattle.pbx_json_meaning.specs.Forms.{is_object_type, kind_at, text_at, bytes_at}
use Rattle.pbx_json_meaning.specs.Urls.{type_of_url}
use Rattle.pbx_json_meaning.specs.declared.options.SerializeOptions.{SerializeOptions}
use Rattle.pbx_json_payload_laws.specs.Inside.{AreShorter, AreFieldsShorter, IsValShorter, AreValsShorter, ArePairsShorter}
use Rattle.pbx_json_payload_laws.proofs.Shrinks.{meaning_shrinks}
use Rattle.pbx_json_payload_laws.specs.Laws.{PayloadsByContent}
use Rattle.pbx_json_payload_laws.proofs.Shorter.{bytes_short, get_shorter}

-- ---- contents under two writings

alike : {X Y : Type 0} (f g : X → Y) → ((x : X) → f x ≡ g x) → f ≡ g
alike f g h = λ i. λ x. h x i

module _ (shape : Shape) (o : SerializeOptions) (f g : ℕ → List ℕ → Option Data) where
  -- the two writings
  abbrev first : Writing
  first = record { options = o; payloads = f }

  abbrev second : Writing
  second = record { options = o; payloads = g }

  form_same : (t : ℕ) (own : Form) (fs : Fields) (kept : List Rec) (told : List Told)
      → any_tree shape first (text_at (get 1 fs)) (bytes_at (get 2 fs)) ≡ any_tree shape second (text_at (get 1 fs)) (bytes_at (get 2 fs))
      → form_tree shape first t own fs kept told ≡ form_tree shape second t own fs kept told
  form_same t forms.Timestamp fs kept told any = refl
  form_same t forms.Duration fs kept told any = refl
  form_same t forms.FieldMask fs kept told any = refl
  form_same t forms.Wrapper fs kept told any = refl
  form_same t forms.Struct fs kept told any = refl
  form_same t forms.ListValue fs kept told any = refl
  form_same t forms.Value fs kept told any = refl
  form_same t forms.Any fs kept told any = any
  form_same t _ fs kept told any = refl

  message_same : (t : ℕ) (fs : Fields) (kept : List Rec) (told : List Told)
      → any_tree shape first (text_at (get 1 fs)) (bytes_at (get 2 fs)) ≡ any_tree shape second (text_at (get 1 fs)) (bytes_at (get 2 fs))
      → message_tree shape first t fs kept told ≡ message_tree shape second t fs kept told
  message_same t fs kept told any = at (is_object_type shape t)
    where
      at : (b : Bool) → (if b then object_tree shape first (declared_of shape t) fs kept told else own_tree shape first t fs kept told)
          ≡ (if b then object_tree shape second (declared_of shape t) fs kept told else own_tree shape second t fs kept told)
      at true = refl
      at false = form_same t (form_of shape t) fs kept told any

  -- a message without fields holds no payload
  bare_same : (t : ℕ) (kept : List Rec) → content_tree shape first (content.content no_fields kept) t ≡ content_tree shape second (content.content no_fields kept) t
  bare_same t kept = message_same t no_fields kept [] refl

  module _ (n : ℕ) (some : 0 < n) (same : (u : ℕ) (b : List ℕ) → length b < n → f u b ≡ g u b) where
    any_same : (url bytes : List ℕ) → length bytes < n → any_tree shape first url bytes ≡ any_tree shape second url bytes
    any_same url bytes short = at (type_of_url shape url)
      where
        at : (u : Option ℕ) → payload_in shape first url bytes u ≡ payload_in shape second url bytes u
        at None = refl
        at (Some u) = rw (same u bytes short) refl

    mutual
      tells_same : (v : Val) (a : Asked) → IsValShorter n v → tells shape first v a ≡ tells shape second v a
      tells_same (content.number z) a h = refl
      tells_same (content.truth b) a h = refl
      tells_same (content.text s) a h = refl
      tells_same (content.octets s) a h = refl
      tells_same (content.message c) a h = content_same c (type_of (kind_asked a)) h
      tells_same (content.many vs) a h = ap (array_tree (kind_asked a)) (vals_same vs h)
      tells_same (content.keyed ps) a h = ap (entries_tree (kind_asked a)) (pairs_same ps h)

      pub content_same : (c : Content) (t : ℕ) → AreShorter n c → content_tree shape first c t ≡ content_tree shape second c t
      content_same (content.content fs kept) t h =
          ap (message_tree shape first t fs kept) (fields_same fs h)
          ∙ message_same t fs kept (fields_tell shape second fs) (any_same (text_at (get 1 fs)) (bytes_at (get 2 fs)) (bytes_short n some (get 2 fs) (get_shorter n 2 fs h)))

      fields_same : (fs : Fields) → AreFieldsShorter n fs → fields_tell shape first fs ≡ fields_tell shape second fs
      fields_same no_fields h = refl
      fields_same (field_of_number m v fs) h =
          let own : tells shape first v ≡ tells shape second v = alike (tells shape first v) (tells shape second v) (λ a. tells_same v a h.0) in
          ap (λ (t : Tells). record { number = m; tells = t } ∷ fields_tell shape first fs) own
          ∙ ap (λ ts. record { number = m; tells = tells shape second v } ∷ ts) (fields_same fs h.1)

      vals_same : (vs : Vals) → AreValsShorter n vs → vals_tell shape first vs ≡ vals_tell shape second vs
      vals_same no_vals h = refl
      vals_same (val v vs) h =
          let own : tells shape first v ≡ tells shape second v = alike (tells shape first v) (tells shape second v) (λ a. tells_same v a h.0) in
          ap (λ (t : Tells). t ∷ vals_tell shape first vs) own ∙ ap (λ ts. tells shape second v ∷ ts) (vals_same vs h.1)

      pairs_same : (ps : Pairs) → ArePairsShorter n ps → pairs_tell shape first ps ≡ pairs_tell shape second ps
      pairs_same no_pairs h = refl
      pairs_same (pair k v ps) h =
          let own : tells shape first v ≡ tells shape second v = alike (tells shape first v) (tells shape second v) (λ a. tells_same v a h.0) in
          ap (λ (t : Tells). (k, t) ∷ pairs_tell shape first ps) own ∙ ap (λ ts. (k, tells shape second v) ∷ ts) (pairs_same ps h.1)

-- ---- no bytes mean the empty message

no_singular : (shape : Shape) (inner : Inner) (p : Bool) (k : Kind) → singular shape inner p k [] ≡ Some None
no_singular shape inner p (kind.Message t) = refl
no_singular shape inner p k = refl

no_value : (shape : Shape) (inner : Inner) (f : FieldShape) (c : Cardinality) → by_cardinality shape inner f c [] ≡ Some None
no_value shape inner f Singular = no_singular shape inner f.presence f.kind
no_value shape inner f Repeated = refl
no_value shape inner f (Map k) = refl

among_none : (shape : Shape) (inner : Inner) (all : List FieldShape) (f : FieldShape) → value_among shape inner all f [] ≡ Some None
among_none shape inner all f = at (is_float f.kind)
  where
    one : (b : Bool) → (if b then Some None else by_cardinality shape inner f f.cardinality []) ≡ Some None
    one true = refl
    one false = no_value shape inner f f.cardinality

    at : (b : Bool) → option_and_then (λ all. if b then Some None else by_cardinality shape inner f f.cardinality [])
        (if b then Some None else by_cardinality shape inner f f.cardinality []) ≡ Some None
    at b = rw (one b) refl

no_values : (shape : Shape) (inner : Inner) (all fs : List FieldShape) → values shape inner all fs [] ≡ Some no_fields
no_values shape inner all [] = refl
no_values shape inner all (f ∷ fs) = rw (among_none shape inner all f, no_values shape inner all fs) refl

no_layer : (shape : Shape) (inner : Inner) (fs : List FieldShape) → layer shape inner fs [] ≡ Some (content.content no_fields [])
no_layer shape inner fs = rw (no_values shape inner fs fs) refl

no_records : (levels : ℕ) → records_in levels [] ≡ Some []
unfolding body_at items_at item_at
no_records levels = refl

no_meaning : (shape : Shape) (levels : ℕ) (fs : List FieldShape) → meaning shape levels fs [] ≡ Some (content.content no_fields [])
unfolding meaning
no_meaning shape zero fs = no_layer shape no_inner fs
no_meaning shape (suc levels) fs = no_layer shape (λ gs bs. option_and_then (meaning shape levels gs) (records_of levels bs)) fs

pub nothing_means : (shape : Shape) (levels : ℕ) (fs : List FieldShape) → meaning_within shape levels fs [] ≡ Some (content.content no_fields [])
nothing_means shape levels fs = ap (option_and_then (meaning shape levels fs)) (no_records levels) ∙ no_meaning shape levels fs

-- ---- turns

module _ (shape : Shape) (o : SerializeOptions) where
  -- a payload's content under two ways of writing payloads that agree on shorter bytes
  within_same : (f g : ℕ → List ℕ → Option Data) (u : ℕ) (bytes : List ℕ) (c : Content) → meaning_of shape u bytes ≡ Some c
      → ((v : ℕ) (b : List ℕ) → length b < length bytes → f v b ≡ g v b)
      → content_tree shape (record { options = o; payloads = f }) c u ≡ content_tree shape (record { options = o; payloads = g }) c u
  within_same f g u [] c means same =
      let bare : content.content no_fields [] ≡ c = let both : Some (content.content no_fields []) ≡ Some c = sym (nothing_means shape 100 (fields_of shape u)) ∙ means in cc in
      rw (← bare) (bare_same shape o f g u [])
  within_same f g u (x ∷ xs) c means same =
      content_same shape o f g (length (x ∷ xs)) (omega arith) same c u (meaning_shrinks shape 100 (fields_of shape u) (x ∷ xs) c means)

  -- more turns than bytes change nothing
  turns_same : (m n u : ℕ) (bytes : List ℕ) → length bytes < m → length bytes < n → payload_tree shape o m u bytes ≡ payload_tree shape o n u bytes
  unfolding payload_tree
  turns_same zero n u bytes h k = absurd (omega arith)
  turns_same (suc m) zero u bytes h k = absurd (omega arith)
  turns_same (suc m) (suc n) u bytes h k = at (meaning_of shape u bytes) refl (λ v b short. turns_same m n v b (omega arith) (omega arith))
    where
      at : (d : Option Content) → meaning_of shape u bytes ≡ d
          → ((v : ℕ) (b : List ℕ) → length b < length bytes → payload_tree shape o m v b ≡ payload_tree shape o n v b)
          → option_and_then (λ c. content_tree shape (record { options = o; payloads = payload_tree shape o m }) c u) d
          ≡ option_and_then (λ c. content_tree shape (record { options = o; payloads = payload_tree shape o n }) c u) d
      at None means ih = refl
      at (Some c) means ih = within_same (payload_tree shape o m) (payload_tree shape o n) u bytes c means ih

pub payloads_by_content : PayloadsByContent
unfolding payload_tree
payloads_by_content shape o u bytes c means =
    ap (option_and_then (λ d. content_tree shape (record { options = o; payloads = payload_tree shape o (length bytes) }) d u)) means
    ∙ within_same shape o (payload_tree shape o (length bytes)) (tree_of_payload shape o) u bytes c means
    (λ v b short. turns_same shape o (length bytes) (suc (length b)) v b short (omega arith))
