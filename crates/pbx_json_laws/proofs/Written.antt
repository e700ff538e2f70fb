-- What is written of a content has a tree for each `Any` inside it.
use Rattle.std.proofs.Common.{◌≡◌, ℕ, ◌||◌, ◌++◌, List, [], ◌∷◌, map as map_list, filter, Bool, true, false, if◌then◌else◌, Option, Some, None, option_map, refl, ap, sym, ◌∙◌, subst}
use Rattle.pbx_wire.specs.declared.rec.Rec.{Rec}
use Rattle.serde_json.specs.Data.{Data, array, object, Members}
use Rattle.pbx_content.specs.Content as content
use Rattle.pbx_content.specs.Content.{Content, Fields, Val, Vals, Pairs, Key, get}
use Rattle.pbx_content.specs.Encoding.{type_of}
use Rattle.pbx_content.specs.Meaning.{is_default}
use Rattle.pbx_content.specs.Shape.{declared_of, fields_of, field_of}
use Rattle.pbx_content.specs.declared.shape.Kind.{Kind}
use Rattle.pbx_content.specs.declared.shape.FieldShape.{FieldShape}
use Rattle.pbx_content.specs.declared.shape.Shape.{Shape}
use Rattle.pbx_wkt_types.specs.Shapes.{form_of}
use Rattle.pbx_wkt_types.specs.declared.form.Form.{Form}
use Rattle.pbx_wkt_types.specs.declared.form.Form.TheVariants as forms
use Rattle.pbx_json_meaning.specs.Asked.{one, Target, single, list, map, target_by, has_presence}
use Rattle.pbx_json_meaning.specs.Canonical.{Writing, Line, Told, Tells, told_line, default_line, is_written_default, lines, members_of_lines, object_tree, form_tree, any_tree}
use Rattle.pbx_json_meaning.specs.Canonical.{keeps_float, items_of, entry_line, tells, content_tree, fields_tell, vals_tell, pairs_tell}
use Rattle.pbx_json_meaning.specs.Forms.{is_object_form, kind_in as kind_of, kind_at, shown_at, with_first, holding, text_at, bytes_at}
use Rattle.pbx_json_meaning.specs.Stands.{all_read}
use Rattle.pbx_json_laws.proofs.Back.{kind_in, kind_by, tells_kind}
use Rattle.pbx_json_laws.proofs.Fits.{Fits, FitsAs, IsOwnRead, FieldsFit, AllFit, PairsFit, FitsOption, ValueHeld, a_null, a_truth, a_text, a_struct, a_values, number_held, value_held}
use Rattle.pbx_json_laws.proofs.FormsBack.{is_held}
use Rattle.pbx_json_laws.proofs.LinesMade.{added}
use Rattle.pbx_json_laws.proofs.Numbers.{field_of-by_number}
use Rattle.pbx_json_laws.proofs.Parts.{from_then, from_map, unless_some}

-- the trees of the fields' values stand in what is written
abbrev pub has_parts : Form → Bool
has_parts form = is_object_form form || is_held form

-- the `Any` of these fields has a tree
abbrev pub HasTree : Shape → Writing → Fields → Type 0
HasTree shape o fs = (d : Data) × (any_tree shape o (text_at (get 1 fs)) (bytes_at (get 2 fs)) ≡ Some d)

abbrev mutual
  -- each `Any` whose tree stands in what is written of the content has a tree
  pub IsWritten : Shape → Writing → Content → ℕ → Type 0
  IsWritten shape o (content.content fs kept) t =
      (form_of shape t ≡ forms.Any → HasTree shape o fs) × (has_parts (form_of shape t) ≡ true → FieldsAreWritten shape o fs (declared_of shape t))

  pub FieldsAreWritten : Shape → Writing → Fields → List FieldShape → Type 0
  FieldsAreWritten shape o content.no_fields gs = Unit {0}
  FieldsAreWritten shape o (content.field n v fs) gs = ValIsWritten shape o v (kind_of (field_of n gs)) × FieldsAreWritten shape o fs gs

  pub ValIsWritten : Shape → Writing → Val → Kind → Type 0
  ValIsWritten shape o (content.number z) k = Unit {0}
  ValIsWritten shape o (content.truth b) k = Unit {0}
  ValIsWritten shape o (content.text s) k = Unit {0}
  ValIsWritten shape o (content.octets b) k = Unit {0}
  ValIsWritten shape o (content.message c) k = IsWritten shape o c (type_of k)
  ValIsWritten shape o (content.many vs) k = ValsAreWritten shape o vs k
  ValIsWritten shape o (content.keyed ps) k = PairsAreWritten shape o ps k

  pub ValsAreWritten : Shape → Writing → Vals → Kind → Type 0
  ValsAreWritten shape o content.no_vals k = Unit {0}
  ValsAreWritten shape o (content.val v vs) k = ValIsWritten shape o v k × ValsAreWritten shape o vs k

  pub PairsAreWritten : Shape → Writing → Pairs → Kind → Type 0
  PairsAreWritten shape o content.no_pairs k = Unit {0}
  PairsAreWritten shape o (content.pair l v ps) k = ValIsWritten shape o v k × PairsAreWritten shape o ps k

module _ (shape : Shape) (o : Writing) where
  -- what has a tree as the field of the number is written
  abbrev ValDown : ℕ → Val → List FieldShape → Type 0
  ValDown n v gs = (d : Data) → tells shape o v (one (kind_of (field_of n gs))) ≡ Some d → ValIsWritten shape o v (kind_of (field_of n gs))

  -- the same of the field that stands first
  abbrev FirstDown : ℕ → Content → Type 0
  FirstDown t (content.content content.no_fields kept) = Unit {0}
  FirstDown t (content.content (content.field n v fs) kept) = ValDown n v (declared_of shape t)

  val_down_by : (n : ℕ) (v : Val) (gs : List FieldShape)
      → ((tg : Target) → Fits shape v tg → (d : Data) → tells shape o v (one (kind_in tg)) ≡ Some d → ValIsWritten shape o v (kind_in tg))
      → FitsOption shape v (Fits shape v) (field_of n gs) → ValDown n v gs
  val_down_by n v gs ih h = at (field_of n gs) h
    where
      at : (x : Option FieldShape) → FitsOption shape v (Fits shape v) x → (d : Data) → tells shape o v (one (kind_of x)) ≡ Some d → ValIsWritten shape o v (kind_of x)
      at None h d e = absurd h
      at (Some f) h d e =
          let is : kind_in (target_by f f.cardinality) ≡ f.kind = kind_by f f.cardinality in
          subst (ValIsWritten shape o v) is (ih (target_by f f.cardinality) h.0 d (ap (λ k. tells shape o v (one k)) is ∙ e))

  -- ---- objects of fields

  -- the line of a field has the tree of its value
  line_tells : (n : ℕ) (v : Val) (gs : List FieldShape) (d : Data) → (told_line o (tells shape o v) (field_of n gs)).1 ≡ Some d
      → tells shape o v (one (kind_of (field_of n gs))) ≡ Some d
  line_tells n v gs d h = at (field_of n gs) h
    where
      at : (x : Option FieldShape) → (told_line o (tells shape o v) x).1 ≡ Some d → tells shape o v (one (kind_of x)) ≡ Some d
      at None h = absurd (cc)
      at (Some f) h = sym (tells_kind shape o v f) ∙ h

  abbrev value_line : List FieldShape → Told → Line
  value_line gs t = told_line o t.tells (field_of t.number gs)

  -- an object of lines
  lines_made : (fs : Fields) (kept : List Rec) (gs : List FieldShape) (d : Data) → object_tree shape o gs fs kept (fields_tell shape o fs) ≡ Some d
      → (ms : Members) × (members_of_lines (lines shape o gs fs (fields_tell shape o fs)) ≡ Some ms) × (object ms ≡ d)
  lines_made fs kept gs d h =
      from_map object (members_of_lines (lines shape o gs fs (fields_tell shape o fs))) d
      (unless_some (keeps_float gs kept) (option_map object (members_of_lines (lines shape o gs fs (fields_tell shape o fs)))) d h).1

  -- the tree of a message by the form of its type
  abbrev tree_by : ℕ → Fields → List Rec → Form → Option Data
  tree_by t fs kept form =
      if is_object_form form then object_tree shape o (declared_of shape t) fs kept (fields_tell shape o fs)
      else form_tree shape o t form fs kept (fields_tell shape o fs)

  pub object_made : (fs : Fields) (kept : List Rec) (t : ℕ) (d : Data) → is_object_form (form_of shape t) ≡ true
      → content_tree shape o (content.content fs kept) t ≡ Some d
      → (ms : Members) × (members_of_lines (lines shape o (declared_of shape t) fs (fields_tell shape o fs)) ≡ Some ms) × (object ms ≡ d)
  object_made fs kept t d is h =
      let own : tree_by t fs kept (form_of shape t) ≡ object_tree shape o (declared_of shape t) fs kept (fields_tell shape o fs) = rw is refl in
      lines_made fs kept (declared_of shape t) d (sym own ∙ h)

  -- ---- the value of one field

  -- a value that shows is the value
  shown_down : (n t : ℕ) (v : Val) (P : Option Val → Type 0) → P None → P (Some v) → P (shown_at shape (field_of n (fields_of shape t)) v)
  shown_down n t v P none some = at (field_of n (fields_of shape t))
    where
      by : (a b : Bool) → P (if a then Some v else (if b then None else Some v))
      by true b = some
      by false true = none
      by false false = some

      at : (x : Option FieldShape) → P (shown_at shape x v)
      at None = none
      at (Some f) = by (has_presence f) (is_default shape f.kind v)

  -- what is known of a content that a tree was written of
  abbrev Down : ℕ → Form → Content → Type 0
  Down t form (content.content fs kept) =
      FirstDown t (content.content fs kept) → (d : Data) → form_tree shape o t form fs kept (fields_tell shape o fs) ≡ Some d → FieldsAreWritten shape o fs (declared_of shape t)

  -- the tree of the one field is that of its value
  one_down : (n t : ℕ) (v : Val) (d : Data) → ValDown n v (declared_of shape t) → tells shape o v (one (kind_at shape t n)) ≡ Some d
      → FieldsAreWritten shape o (content.field n v content.no_fields) (declared_of shape t)
  one_down n t v d down h = (down d (ap (λ x. tells shape o v (one (kind_of x))) (sym (field_of-by_number n (declared_of shape t))) ∙ h), tt)

  struct_down : (t : ℕ) (x : Option Val) → Down t forms.Struct (holding shape t 1 x)
  struct_down t None = λ first d h. tt
  struct_down t (Some v) =
      shown_down 1 t v (λ s. Down t forms.Struct (content.content (with_first 1 s content.no_fields) [])) (λ first d h. tt) (λ first d h. one_down 1 t v d first h)

  list_down : (t : ℕ) (x : Option Val) → Down t forms.ListValue (holding shape t 1 x)
  list_down t None = λ first d h. tt
  list_down t (Some v) =
      shown_down 1 t v (λ s. Down t forms.ListValue (content.content (with_first 1 s content.no_fields) [])) (λ first d h. tt) (λ first d h. one_down 1 t v d first h)

  value_down : (t : ℕ) (x : ValueHeld) → Down t forms.Value (holding shape t (number_held x) (Some (value_held x)))
  value_down t x =
      shown_down (number_held x) t (value_held x) (λ s. Down t forms.Value (content.content (with_first (number_held x) s content.no_fields) []))
      (λ first d h. tt) (at x)
    where
      unless : (n : ℕ) (v : Val) (d : Data) (b : Bool) → (if b then None else tells shape o v (one (kind_at shape t n))) ≡ Some d
          → tells shape o v (one (kind_at shape t n)) ≡ Some d
      unless n v d b h = (unless_some b (tells shape o v (one (kind_at shape t n))) d h).1

      at : (x : ValueHeld) → Down t forms.Value (content.content (content.field (number_held x) (value_held x) content.no_fields) [])
      at a_null first d h = (tt, tt)
      at (a_truth b) first d h = (tt, tt)
      at (a_text s) first d h = (tt, tt)
      at (a_struct c) first d h = one_down 5 t (content.message c) d first (unless 5 (content.message c) d (keeps_float (declared_of shape t) []) h)
      at (a_values c) first d h = one_down 6 t (content.message c) d first (unless 6 (content.message c) d (keeps_float (declared_of shape t) []) h)

  held_down : (form : Form) (c : Content) (t : ℕ) → is_held form ≡ true → IsOwnRead shape t form c → Down t form c
  held_down forms.Struct c t at (x, e) = subst (Down t forms.Struct) e (struct_down t x)
  held_down forms.ListValue c t at (x, e) = subst (Down t forms.ListValue) e (list_down t x)
  held_down forms.Value c t at (x, e) = subst (Down t forms.Value) e (value_down t x)
  held_down _ c t at own = absurd (cc)

  -- ---- all contents

  message_down : (fs : Fields) (kept : List Rec) (t : ℕ) (d : Data) → IsOwnRead shape t (form_of shape t) (content.content fs kept)
      → content_tree shape o (content.content fs kept) t ≡ Some d
      → ((ys : List Line) (ms : Members) → members_of_lines (map_list (value_line (declared_of shape t)) (fields_tell shape o fs) ++ ys) ≡ Some ms
      → FieldsAreWritten shape o fs (declared_of shape t))
      → FirstDown t (content.content fs kept) → IsWritten shape o (content.content fs kept) t
  message_down fs kept t d own h each first = (any, λ p. at (is_object_form (form_of shape t)) refl (is_held (form_of shape t)) refl p)
    where
      any : form_of shape t ≡ forms.Any → HasTree shape o fs
      any is = (d, sym (ap (tree_by t fs kept) is) ∙ h)

      at : (b : Bool) → is_object_form (form_of shape t) ≡ b → (a : Bool) → is_held (form_of shape t) ≡ a → (b || a) ≡ true
          → FieldsAreWritten shape o fs (declared_of shape t)
      at true e a q p =
          let it = object_made fs kept t d e h in
          each (map_list (default_line shape o) (filter (is_written_default o fs) (declared_of shape t))) it.0 it.1
      at false e true q p =
          let own_tree : tree_by t fs kept (form_of shape t) ≡ form_tree shape o t (form_of shape t) fs kept (fields_tell shape o fs) = rw e refl in
          held_down (form_of shape t) (content.content fs kept) t q own first d (sym own_tree ∙ h)
      at false e false q p = absurd (cc)

  mutual
    pub content_down : (c : Content) (t : ℕ) → FitsAs shape c t → (d : Data) → content_tree shape o c t ≡ Some d → IsWritten shape o c t
    content_down (content.content fs kept) t h d e =
        message_down fs kept t d h.1 e (λ ys ms made. fields_down fs (declared_of shape t) h.4 ys ms made) (first_down fs kept t h.4)

    first_down : (fs : Fields) (kept : List Rec) (t : ℕ) → FieldsFit shape fs (declared_of shape t) → FirstDown t (content.content fs kept)
    first_down content.no_fields kept t h = tt
    first_down (content.field n v fs) kept t h = val_down_by n v (declared_of shape t) (val_down v) h.0

    fields_down : (fs : Fields) (gs : List FieldShape) → FieldsFit shape fs gs → (ys : List Line) (ms : Members)
        → members_of_lines (map_list (value_line gs) (fields_tell shape o fs) ++ ys) ≡ Some ms → FieldsAreWritten shape o fs gs
    fields_down content.no_fields gs h ys ms e = tt
    fields_down (content.field n v fs) gs h ys ms e =
        let it = added (told_line o (tells shape o v) (field_of n gs)) (map_list (value_line gs) (fields_tell shape o fs) ++ ys) ms e in
        (val_down_by n v gs (val_down v) h.0 it.tree (line_tells n v gs it.tree it.has_tree), fields_down fs gs h.1 ys it.others it.rest)

    val_down : (v : Val) (tg : Target) → Fits shape v tg → (d : Data) → tells shape o v (one (kind_in tg)) ≡ Some d → ValIsWritten shape o v (kind_in tg)
    val_down (content.number z) tg h d e = tt
    val_down (content.truth b) tg h d e = tt
    val_down (content.text s) tg h d e = tt
    val_down (content.octets b) tg h d e = tt
    val_down (content.message c) (single k) h d e =
        let is : type_of k ≡ h.0 = ap type_of h.1 in
        subst (IsWritten shape o c) (sym is) (content_down c h.0 h.2 d (ap (content_tree shape o c) (sym is) ∙ e))
    val_down (content.many vs) (list k) h d e =
        let it = from_map (λ ds. array (items_of ds)) (all_read (λ (t : Tells). t (one k)) (vals_tell shape o vs)) d e in
        vals_down vs k h.1 it.0 it.1
    val_down (content.keyed ps) (map kk vk) h d e =
        let it = from_map object (members_of_lines (map_list (entry_line vk) (pairs_tell shape o ps))) d e in
        pairs_down ps kk vk h.1 it.0 it.1
    val_down _ _ h d e = absurd h

    vals_down : (vs : Vals) (k : Kind) → AllFit shape vs k → (ds : List Data) → all_read (λ (t : Tells). t (one k)) (vals_tell shape o vs) ≡ Some ds
        → ValsAreWritten shape o vs k
    vals_down content.no_vals k h ds e = tt
    vals_down (content.val v vs) k h ds e =
        let first = from_then (λ y. option_map (λ ys. y ∷ ys) (all_read (λ (t : Tells). t (one k)) (vals_tell shape o vs))) (tells shape o v (one k)) ds e in
        let rest = from_map (λ ys. first.0 ∷ ys) (all_read (λ (t : Tells). t (one k)) (vals_tell shape o vs)) ds first.2 in
        (val_down v (single k) h.0 first.0 first.1, vals_down vs k h.1 rest.0 rest.1)

    pairs_down : (ps : Pairs) (kk vk : Kind) → PairsFit shape ps kk vk → (ms : Members)
        → members_of_lines (map_list (entry_line vk) (pairs_tell shape o ps)) ≡ Some ms → PairsAreWritten shape o ps vk
    pairs_down content.no_pairs kk vk h ms e = tt
    pairs_down (content.pair l v ps) kk vk h ms e =
        let it = added (entry_line vk (l, tells shape o v)) (map_list (entry_line vk) (pairs_tell shape o ps)) ms e in
        (val_down v (single vk) h.1 it.tree it.has_tree, pairs_down ps kk vk h.3 it.others it.rest)
