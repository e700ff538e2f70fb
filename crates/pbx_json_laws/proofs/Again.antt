-- All that was read of a tree has a tree where the payloads inside it have one, and it reads back as the same.
use Rattle.std.proofs.Common.{◌≡◌, inl, inr, ℕ, List, [], ◌∷◌, map as map_list, Bool, true, false, Option, Some, None, option_map, option_and_then, refl, ap, sym, ◌∙◌, subst}
use Rattle.pbx_wire.specs.declared.rec.Rec.{Rec}
use Rattle.serde_json.specs.Data.{Data, array, object, item, Members, no_members, member}
use Rattle.pbx_content.specs.Content as content
use Rattle.pbx_content.specs.Content.{Content, Fields, Val, Vals, Pairs, Key, vals_of, get}
use Rattle.pbx_content.specs.Encoding.{type_of, encoded}
use Rattle.pbx_content.specs.Meaning.{is_default}
use Rattle.pbx_content.specs.Shape.{declared_of, field_of, is_float}
use Rattle.pbx_content.specs.Sound.{IsProper}
use Rattle.pbx_content.specs.declared.shape.Kind.{Kind}
use Rattle.pbx_content.specs.declared.shape.Kind.TheVariants as kind
use Rattle.pbx_content.specs.declared.shape.FieldShape.{FieldShape}
use Rattle.pbx_content.specs.declared.shape.Shape.{Shape}
use Rattle.pbx_wkt_types.specs.Shapes.{form_of}
use Rattle.pbx_wkt_types.specs.declared.form.Form.{Form}
use Rattle.pbx_wkt_types.specs.declared.form.Form.TheVariants as forms
use Rattle.pbx_json_meaning.specs.Forms.{is_object_form, skips, kind_in as kind_of}
use Rattle.pbx_json_meaning.specs.Asked.{field, one, Target, single, list, map, target_by}
use Rattle.pbx_json_meaning.specs.Names.{field_named}
use Rattle.pbx_json_meaning.specs.Canonical.{Writing, key_of_field, Tells}
use Rattle.pbx_json_meaning.specs.Canonical.{items_of, entry_line, tells, content_tree, fields_tell, vals_tell, pairs_tell}
use Rattle.pbx_json_meaning.specs.Clash.{naming_of, name_fault}
use Rattle.pbx_json_meaning.specs.Named.{IsWellNamed}
use Rattle.pbx_json_meaning.specs.Stands.{pairs_of, if_differ, Says, all_read, present, entries_read, own_as, message_as, map_as, said}
use Rattle.pbx_json_meaning.specs.Stands.{items_said, entries_said}
use Rattle.pbx_json_laws.proofs.EntriesBack.{LinesSay, ReadsAs, lines_read}
use Rattle.pbx_json_laws.proofs.Fits.{Fits, FitsAs, IsOwnRead, FieldsFit, AllFit, PairsFit, FitsOption}
use Rattle.pbx_json_laws.proofs.LinesBack.{ValuesBack, lines_back}
use Rattle.pbx_json_laws.proofs.NamesBack.{key_names}
use Rattle.pbx_json_laws.proofs.ScalarsBack.{number_back, truth_back, text_as_is, bytes_back, key_back, no_null}
use Rattle.pbx_json_laws.proofs.Back.{kind_in, kind_by, tells_kind, IsBack, element_says, field_says, scalar_is_back, no_float}
use Rattle.pbx_json_laws.proofs.DefaultsBack.{default_back}
use Rattle.pbx_json_laws.proofs.FormsBack.{is_held, is_packed, packed_form, form_back}
use Rattle.pbx_json_laws.proofs.AnyBack.{Reads, any_back}
use Rattle.pbx_json_laws.proofs.Written.{has_parts, HasTree, IsWritten, FieldsAreWritten, ValIsWritten, ValsAreWritten, PairsAreWritten}
use Rattle.pbx_json_laws.proofs.OwnBack.{none_kept, ContentBack, FieldBack, FirstBack, several_back, value_back_of}
use Rattle.pbx_json_laws.proofs.Numbers.{field_of-by_number}
use Rattle.pbx_json_laws.proofs.Payload.{payload_fits}
use Rattle.pbx_json_laws.proofs.Read.{items_in, entries_in}
use Rattle.pbx_json_laws.proofs.Parts.{of_some}
use Rattle.pbx_json_laws.proofs.FitSound.{no_number}

module _ (shape : Shape) (proper : IsProper shape) (well : IsWellNamed shape) (o : Writing) (clean : name_fault (naming_of o.options) shape ≡ None)
    (payload : (u : ℕ) (p : Content) (d : Data) → FitsAs shape p u → o.payloads u (encoded shape u p) ≡ Some d → Reads shape u p d) where
  named : (t n : ℕ) (f : FieldShape) → field_of n (declared_of shape t) ≡ Some f → field_named (key_of_field o f) (declared_of shape t) ≡ Some f
  named t n f e = key_names shape t o proper well clean n f e

  -- ---- messages

  -- what is written is read with unknown keys denied
  denied : (form : Form) → skips form false ≡ false
  denied forms.Empty = refl
  denied _ = refl

  object_of_lines : (fs : Fields) (t : ℕ) → is_object_form (form_of shape t) ≡ true → FitsAs shape (content.content fs []) t
      → ValuesBack shape o (declared_of shape t) (named t) fs (fields_tell shape o fs) → ContentBack shape o t (content.content fs [])
  object_of_lines fs t is h back =
      let gs = declared_of shape t in
      let it = lines_back shape o gs (named t) (proper.types t) fs h.2 h.3 (fields_tell shape o fs) back (λ f e w. default_back shape proper well o fs f w) in
      let made : content_tree shape o (content.content fs []) t ≡ Some (object it.0) =
      rw (is, none_kept gs) (ap (λ r. option_map object r) it.1) in
      let says : message_as shape false t (object it.0) [] (entries_said shape false it.0) ≡ Some (content.content fs []) =
      rw (is, denied (form_of shape t)) it.2 in
      (object it.0, made, says, λ e. absurd (no_null (object it.0) (λ x. x) e))

  -- a message that is told by a text or a scalar
  form_at_once : (fs : Fields) (kept : List Rec) (t : ℕ) → is_object_form (form_of shape t) ≡ false → is_held (form_of shape t) ≡ false
      → is_packed (form_of shape t) ≡ false → FitsAs shape (content.content fs kept) t → ContentBack shape o t (content.content fs kept)
  form_at_once fs kept t is at none h =
      let it = form_back shape proper well o t (form_of shape t) (content.content fs kept) refl is at none h.1 in (
        it.tree,
        rw is (it.made kept (fields_tell shape o fs)),
        rw is (ap (λ r. own_as shape r it.tree (items_in shape false it.tree) (entries_in shape false it.tree)) it.back),
        λ e. absurd (it.not_null e),
      )

  -- a message that is told by the value of one field
  form_held : (form : Form) (c : Content) (t : ℕ) → form_of shape t ≡ form → is_held form ≡ true → IsOwnRead shape t form c → FirstBack shape o t c
      → ContentBack shape o t c
  form_held forms.Struct c t is at (x, e) first =
      let P : Content → Type 0 = λ y. FirstBack shape o t y → ContentBack shape o t y in
      subst P e (several_back shape o t forms.Struct (inl refl) is x) first
  form_held forms.ListValue c t is at (x, e) first =
      let P : Content → Type 0 = λ y. FirstBack shape o t y → ContentBack shape o t y in
      subst P e (several_back shape o t forms.ListValue (inr refl) is x) first
  form_held forms.Value c t is at (x, e) first =
      let P : Content → Type 0 = λ y. FirstBack shape o t y → ContentBack shape o t y in
      subst P e (value_back_of shape o t is x) first
  form_held _ c t is at own first = absurd (cc)

  -- an `Any`
  packed_back : (fs : Fields) (kept : List Rec) (t : ℕ) → form_of shape t ≡ forms.Any → FitsAs shape (content.content fs kept) t → HasTree shape o fs
      → ContentBack shape o t (content.content fs kept)
  packed_back fs kept t is h tree =
      let P : Form → Type 0 = λ form. IsOwnRead shape t form (content.content fs kept) in
      let it = subst P is h.1 in
      any_back shape o t (content.content fs kept) is it
      (λ d made. payload it.place it.payload d (payload_fits shape proper well t (content.content fs kept) it) made) tree.0 tree.1

  content_of_lines : (fs : Fields) (kept : List Rec) (t : ℕ) → FitsAs shape (content.content fs kept) t
      → (has_parts (form_of shape t) ≡ true → ValuesBack shape o (declared_of shape t) (named t) fs (fields_tell shape o fs))
      → (has_parts (form_of shape t) ≡ true → FirstBack shape o t (content.content fs kept))
      → (form_of shape t ≡ forms.Any → HasTree shape o fs) → ContentBack shape o t (content.content fs kept)
  content_of_lines fs kept t h back first tree = at (is_object_form (form_of shape t)) refl (is_held (form_of shape t)) refl (is_packed (form_of shape t)) refl
    where
      at : (b : Bool) → is_object_form (form_of shape t) ≡ b → (a : Bool) → is_held (form_of shape t) ≡ a → (p : Bool) → is_packed (form_of shape t) ≡ p
          → ContentBack shape o t (content.content fs kept)
      at true e a q p r =
          let P : List Rec → Type 0 = λ k. FitsAs shape (content.content fs k) t → ContentBack shape o t (content.content fs k) in
          subst P (sym h.0) (λ g. object_of_lines fs t e g (back (rw e refl))) h
      at false e true q p r = form_held (form_of shape t) (content.content fs kept) t refl q h.1 (first (rw (e, q) refl))
      at false e false q true r = let is = packed_form (form_of shape t) r in packed_back fs kept t is h (tree is)
      at false e false q false r = form_at_once fs kept t e q r h

  -- ---- lists and maps

  abbrev somes : Vals → List (Option Val)
  somes content.no_vals = []
  somes (content.val v vs) = Some v ∷ somes vs

  present_somes : (vs : Vals) → vals_of (present (somes vs)) ≡ vs
  present_somes content.no_vals = refl
  present_somes (content.val v vs) = ap (content.val v) (present_somes vs)

  -- each element has a tree, which says it
  abbrev ElementsBack : Vals → Kind → Type 0
  ElementsBack vs k =
      (ds : List Data) × (all_read (λ (t : Tells). t (one k)) (vals_tell shape o vs) ≡ Some ds)
      × (all_read (λ (s : Says). s (one k)) (items_said shape false (items_of ds)) ≡ Some (somes vs))

  abbrev ValueBack : Val → Target → Type 0
  ValueBack v tg = (d : Data) × IsBack shape o tg v d

  one_more : (v : Val) (vs : Vals) (k : Kind) → ValueBack v (single k) → ElementsBack vs k → ElementsBack (content.val v vs) k
  one_more v vs k it rest = (
    it.0 ∷ rest.0,
    ap (option_and_then (λ y. option_map (λ ys. y ∷ ys) (all_read (λ (t : Tells). t (one k)) (vals_tell shape o vs)))) it.1.made
        ∙ ap (option_map (λ ys. it.0 ∷ ys)) rest.1,
    ap (option_and_then (λ y. option_map (λ ys. y ∷ ys) (all_read (λ (s : Says). s (one k)) (items_said shape false (items_of rest.0)))))
        (element_says shape o k v it.0 it.1)
        ∙ ap (option_map (λ ys. Some v ∷ ys)) rest.2,
  )

  list_back : (v : Val) (vs : Vals) (k : Kind) → is_float k ≡ false → ValueBack v (single k) → ElementsBack vs k
      → ValueBack (content.many (content.val v vs)) (list k)
  unfolding one_more
  list_back v vs k f it rest =
      let all = one_more v vs k it rest in (
        array (item it.0 (items_of rest.0)),
        record {
          made = ap (option_map (λ ds. array (items_of ds))) all.1;
          says = rw f (ap (option_map (λ os. Some (content.many (vals_of (present os))))) all.2
              ∙ ap (λ x. Some (Some (content.many x))) (present_somes (content.val v vs)));
          null_ok = λ e. absurd (no_null (array (item it.0 (items_of rest.0))) (λ x. x) e);
        },
      )

  abbrev PairsBack : Pairs → Kind → Kind → Type 0
  PairsBack ps kk vk = LinesSay shape false kk vk ps (map_list (entry_line vk) (pairs_tell shape o ps))

  pairs_float : (ps : Pairs) (kk vk : Kind) → is_default shape vk (content.keyed ps) ≡ false → PairsFit shape ps kk vk → is_float vk ≡ false
  pairs_float content.no_pairs kk vk n h = absurd (cc)
  pairs_float (content.pair l v ps) kk vk n h = no_float shape o vk v h.1

  map_back : (ps : Pairs) (kk vk : Kind) → is_default shape vk (content.keyed ps) ≡ false → is_float vk ≡ false → PairsBack ps kk vk
      → ValueBack (content.keyed ps) (map kk vk)
  map_back ps kk vk n f lines_say =
      let it = lines_read shape false kk vk ps (map_list (entry_line vk) (pairs_tell shape o ps)) lines_say in (
        object it.0,
        record {
          made = ap (option_map object) it.1;
          says = says it.0 it.2;
          null_ok = λ e. absurd (no_null (object it.0) (λ x. x) e);
        },
      )
    where
      says : (ms : Members) → ReadsAs shape false kk vk ps ms → map_as kk vk (object ms) (entries_said shape false ms) ≡ Some (Some (content.keyed ps))
      says no_members r =
          let none : [] ≡ r.found = of_some [] r.found r.reads in
          let bare : content.no_pairs ≡ ps = ap (λ es. pairs_of es) none ∙ r.pairs in
          let bad : true ≡ false = ap (λ x. is_default shape vk (content.keyed x)) bare ∙ n in
          absurd (cc)
      says (member s d ms) r =
          let read_all : entries_read kk vk (entries_said shape false (member s d ms)) ≡ Some (Some (content.keyed ps)) =
          ap (option_and_then if_differ) r.reads ∙ rw (r.differ, r.pairs) refl in
          rw f read_all

  -- ---- all values

  message_back : (c : Content) (k : Kind) (t : ℕ) → k ≡ kind.Message t → ContentBack shape o t c → ValueBack (content.message c) (single k)
  message_back c k t e it =
      let P : Kind → Type 0 = λ x. ValueBack (content.message c) (single x) in
      subst P (sym e) (
        it.0,
        record {
          made = it.1;
          says = ap (λ r. option_map (λ c. Some (content.message c)) r) it.2;
          null_ok = it.3;
        },
      )

  -- the value of a field, as its cardinality says
  written_by : (v : Val) (f : FieldShape) → ValIsWritten shape o v f.kind → ValIsWritten shape o v (kind_in (target_by f f.cardinality))
  written_by v f w = subst (ValIsWritten shape o v) (sym (kind_by f f.cardinality)) w

  abbrev IsReadBack : Val → Type 0
  IsReadBack v = (tg : Target) → Fits shape v tg → ValIsWritten shape o v (kind_in tg) → ValueBack v tg

  field_value : (v : Val) (fs : Fields) (n : ℕ) (gs : List FieldShape) → IsReadBack v → (x : Option FieldShape) → field_of n gs ≡ x
      → FitsOption shape v (Fits shape v) x → ValIsWritten shape o v (kind_of x)
      → (f : FieldShape) × (field_of n gs ≡ Some f)
      × ((d : Data) × (tells shape o v (field f) ≡ Some d) × (said shape false d (field f) ≡ Some (Some v)))
  field_value v fs n gs back None e h w = absurd h
  field_value v fs n gs back (Some f) e h w =
      let it = back (target_by f f.cardinality) h.0 (written_by v f w) in (
        f,
        e,
        (
          it.0,
          tells_kind shape o v f ∙ ap (λ k. tells shape o v (one k)) (sym (kind_by f f.cardinality)) ∙ it.1.made,
          field_says shape o f (Some v) it.0 it.1.says it.1.null_ok (Some v) h.1,
        ),
      )

  first_value : (v : Val) (n t : ℕ) → IsReadBack v → FitsOption shape v (Fits shape v) (field_of n (declared_of shape t))
      → ValIsWritten shape o v (kind_of (field_of n (declared_of shape t))) → FieldBack shape o t n v
  first_value v n t back h w f there =
      let is : field_of n (declared_of shape t) ≡ Some f = sym (field_of-by_number n (declared_of shape t)) ∙ there in
      let P : Option FieldShape → Type 0 = λ x. FitsOption shape v (Fits shape v) x in
      let Q : Option FieldShape → Type 0 = λ x. ValIsWritten shape o v (kind_of x) in
      let own : FitsOption shape v (Fits shape v) (Some f) = subst P is h in
      (own.1, back (target_by f f.cardinality) own.0 (written_by v f (subst Q is w)))

  mutual
    value_back : (v : Val) → IsReadBack v
    value_back (content.number z) (single k) h w =
        let it = number_back shape well o k z h.0 h.1 in
        (it.0, scalar_is_back shape o k (content.number z) it.0 (no_number k z h.0) it.1)
    value_back (content.truth b) (single k) h w =
        let it = truth_back shape well o k b h in
        (it.0, scalar_is_back shape o k (content.truth b) it.0 (λ t e. absurd (let q : kind.Bool ≡ kind.Message t = sym h ∙ e in cc)) it.1)
    value_back (content.text s) (single k) h w =
        let it = text_as_is shape well o k s h.0 in
        (it.0, scalar_is_back shape o k (content.text s) it.0 (λ t e. absurd (let q : kind.String ≡ kind.Message t = sym h.0 ∙ e in cc)) it.1)
    value_back (content.octets s) (single k) h w =
        let it = bytes_back shape well o k s h.0 h.1 in
        (it.0, scalar_is_back shape o k (content.octets s) it.0 (λ t e. absurd (let q : kind.Bytes ≡ kind.Message t = sym h.0 ∙ e in cc)) it.1)
    value_back (content.message c) (single k) h w =
        message_back c k h.0 h.1 (content_back c h.0 h.2 (subst (IsWritten shape o c) (ap type_of h.1) w))
    value_back (content.many vs) (list k) h w = many_back vs k h.0 h.1 w
    value_back (content.keyed ps) (map kk vk) h w = map_back ps kk vk h.0 (pairs_float ps kk vk h.0 h.1) (pairs_back ps kk vk h.1 w)
    value_back _ _ h w = absurd h

    many_back : (vs : Vals) (k : Kind) → is_default shape k (content.many vs) ≡ false → AllFit shape vs k → ValsAreWritten shape o vs k
        → ValueBack (content.many vs) (list k)
    many_back content.no_vals k n h w = absurd (cc)
    many_back (content.val v vs) k n h w = list_back v vs k (no_float shape o k v h.0) (value_back v (single k) h.0 w.0) (elements_back vs k h.1 w.1)

    elements_back : (vs : Vals) (k : Kind) → AllFit shape vs k → ValsAreWritten shape o vs k → ElementsBack vs k
    elements_back content.no_vals k h w = ([], refl, refl)
    elements_back (content.val v vs) k h w = one_more v vs k (value_back v (single k) h.0 w.0) (elements_back vs k h.1 w.1)

    pairs_back : (ps : Pairs) (kk vk : Kind) → PairsFit shape ps kk vk → PairsAreWritten shape o ps vk → PairsBack ps kk vk
    pairs_back content.no_pairs kk vk h w = tt
    pairs_back (content.pair l v ps) kk vk h w =
        let it = value_back v (single vk) h.1 w.0 in
        (key_back kk l h.0, (it.0, it.1.made, element_says shape o vk v it.0 it.1), h.2, pairs_back ps kk vk h.3 w.1)

    pub content_back : (c : Content) (t : ℕ) → FitsAs shape c t → IsWritten shape o c t → ContentBack shape o t c
    content_back (content.content fs kept) t h w =
        content_of_lines fs kept t h (λ p. fields_back fs t h.4 (w.1 p)) (λ p. first_back fs kept t h.4 (w.1 p)) w.0

    first_back : (fs : Fields) (kept : List Rec) (t : ℕ) → FieldsFit shape fs (declared_of shape t) → FieldsAreWritten shape o fs (declared_of shape t)
        → FirstBack shape o t (content.content fs kept)
    first_back content.no_fields kept t h w = tt
    first_back (content.field n v fs) kept t h w = first_value v n t (value_back v) h.0 w.0

    fields_back : (fs : Fields) (t : ℕ) → FieldsFit shape fs (declared_of shape t) → FieldsAreWritten shape o fs (declared_of shape t)
        → ValuesBack shape o (declared_of shape t) (named t) fs (fields_tell shape o fs)
    fields_back content.no_fields t h w = tt
    fields_back (content.field n v fs) t h w =
        (refl, field_value v fs n (declared_of shape t) (value_back v) (field_of n (declared_of shape t)) refl h.0 w.0, fields_back fs t h.1 w.1)
