-- What has a canonical tree has no fault in writing.
use Rattle.std.proofs.Common.{◌≡◌, ◌⊎◌, inl, inr, ℕ, zero, suc, ◌==◌, ◌&&◌, ◌||◌, ◌++◌, List, [], ◌∷◌, map as map_list, filter, codes, Bool, true, false, if◌then◌else◌, Option, Some, None, option_map, refl, ap, sym, ◌∙◌, subst}
use Rattle.std.specs.Prelude.{Result, Ok, Err}
use Rattle.std.specs.List.{list_any}
use Rattle.std.specs.Str.{bytes_eq}
use Rattle.std.proofs.lemmas.Bool.{eqb-true}
use Rattle.serde_json.specs.Data.{Data, null, boolean, number, string, array, object, Members, put}
use Rattle.pbx_wire.specs.declared.rec.Rec.{Rec}
use Rattle.pbx_content.specs.Content as content
use Rattle.pbx_content.specs.Content.{Content, Fields, Val, Vals, Pairs, get}
use Rattle.pbx_content.specs.Encoding.{type_of}
use Rattle.pbx_content.specs.Meaning.{meaning_of}
use Rattle.pbx_content.specs.Shape.{declared_of, fields_of, field_of, is_float}
use Rattle.pbx_content.specs.Sound.{IsProper, AreSound}
use Rattle.pbx_content.specs.declared.shape.Kind.{Kind}
use Rattle.pbx_content.specs.declared.shape.Kind.TheVariants as kind
use Rattle.pbx_content.specs.declared.shape.FieldShape.{FieldShape}
use Rattle.pbx_content.specs.declared.shape.Shape.{Shape}
use Rattle.pbx_wkt_types.specs.Shapes.{form_of}
use Rattle.pbx_wkt_types.specs.declared.form.Form.{Form}
use Rattle.pbx_wkt_types.specs.declared.form.Form.TheVariants as forms
use Rattle.pbx_json_meaning.specs.Asked.{Asked, field, one}
use Rattle.pbx_json_meaning.specs.Canonical.{Writing, Line, Tells, Told, key_of_field, is_kept_of, keeps_float, is_written_default, default_line, told_line, lines, has_key, with_member, members_of_lines, key_text}
use Rattle.pbx_json_meaning.specs.Canonical.{object_tree, field_tree, first_field, value_tree, with_type, type_and_value, any_with, payload_in, form_tree, own_tree, kind_asked, items_of, entry_line, tells, content_tree, fields_tell, vals_tell, pairs_tell}
use Rattle.pbx_json_meaning.specs.Faults.{SomeWith, OkWith}
use Rattle.pbx_json_meaning.specs.Forms.{is_object_form, is_object_type, kind_in, kind_at, type_at, timestamp_tree, duration_tree, mask_tree, text_at, bytes_at}
use Rattle.pbx_json_meaning.specs.Urls.{type_of_url, stands_beside, is_value_key}
use Rattle.pbx_json_meaning.specs.Stands.{all_read, ok_of}
use Rattle.pbx_json_meaning.specs.WriteFaults.{Parts, leaf, elements, keyed, members, payload, Taken, as_leaf, several_parts, struct_parts, held_parts, value_parts, payload_parts, typed_parts, form_parts, parts_of, val_at, val_under, is_under, asked_of, field_under}
use Rattle.pbx_json_meaning.specs.WriteFaults.{into_written, key_in, value_keys, is_twice, KeyBreaks, IsKeyFault, WriteFaultAt}
use Rattle.pbx_json_meaning.specs.declared.kind.JsonKind.{JsonKind}
use Rattle.pbx_json_meaning.specs.declared.kind.JsonKind.TheVariants as fault
use Rattle.pbx_json_meaning.specs.declared.place.Step.{Step}
use Rattle.pbx_json_meaning.specs.declared.place.Step.TheVariants.{Key, Index}
use Rattle.pbx_json_laws.proofs.HeldTrees.{get_first, is_message, nothing_held, tree_or, told_at}
use Rattle.pbx_json_laws.proofs.LinesMade.{keys_of, any_key, Added, added, keys_made, never_twice}
use Rattle.pbx_json_laws.proofs.Parts.{from_then, from_map, unless_some, of_some, neither}
use Rattle.pbx_json_laws.proofs.PayloadTrees.{WritesPayloads}
use Rattle.pbx_json_laws.proofs.TypeKeys.{type_never_twice, stands_object}
use Rattle.pbx_json_laws.proofs.ValueFields.{holds_several, IsOfValue, of_value}
use Rattle.pbx_json_laws.proofs.WriteAsked.{IsAsked, message_asked, field_at, AreTaken, parts_taken, next_asked}

module _ (shape : Shape) (o : Writing) where
  -- what a step leads to has no tree
  abbrev IsNeverTold : Val × Asked → Type 0
  IsNeverTold next = (d : Data) → tells shape o next.0 next.1 ≡ Some d → ⊥

  -- a step that breaks a rule, or leads to what has no tree
  abbrev IsBroken : Parts → Step → List Step → JsonKind → Type 0
  IsBroken parts step place kind = IsKeyFault o parts step place kind ⊎ SomeWith (into_written o parts step) IsNeverTold

  -- ---- lists and maps

  element_told : (k : Kind) (i : ℕ) (v : Val) (vs : Vals) (ds : List Data) → val_at i vs ≡ Some v
      → all_read (λ (t : Tells). t (one k)) (vals_tell shape o vs) ≡ Some ds → (d : Data) × (tells shape o v (one k) ≡ Some d)
  element_told k i v content.no_vals ds g h = absurd (cc)
  element_told k zero v (content.val w vs) ds g h =
      let it = from_then (λ y. option_map (λ ys. y ∷ ys) (all_read (λ (t : Tells). t (one k)) (vals_tell shape o vs))) (tells shape o w (one k)) ds h in
      (it.0, ap (λ x. tells shape o x (one k)) (sym (of_some w v g)) ∙ it.1)
  element_told k (suc i) v (content.val w vs) ds g h =
      let it = from_then (λ y. option_map (λ ys. y ∷ ys) (all_read (λ (t : Tells). t (one k)) (vals_tell shape o vs))) (tells shape o w (one k)) ds h in
      let rest = from_map (λ ys. it.0 ∷ ys) (all_read (λ (t : Tells). t (one k)) (vals_tell shape o vs)) ds it.2 in
      element_told k i v vs rest.0 g rest.1

  elements_clean : (k : Kind) (vs : Vals) (ds : List Data) → all_read (λ (t : Tells). t (one k)) (vals_tell shape o vs) ≡ Some ds
      → (step : Step) (place : List Step) (kind : JsonKind) → IsBroken (elements k vs) step place kind → ⊥
  elements_clean k vs ds h (Key s) place kind (inl b) = b.1
  elements_clean k vs ds h (Index i) place kind (inl b) = b
  elements_clean k vs ds h (Key s) place kind (inr b) = b
  elements_clean k vs ds h (Index i) place kind (inr b) = at (val_at i vs) refl b
    where
      at : (x : Option Val) → val_at i vs ≡ x → SomeWith (option_map (λ v. (v, one k)) x) IsNeverTold → ⊥
      at None e b = b
      at (Some v) e b = let it = element_told k i v vs ds e h in b it.0 it.1

  entry_told : (k : Kind) (s : List ℕ) (v : Val) (ps : Pairs) (ms : Members) → val_under s ps ≡ Some v
      → members_of_lines (map_list (entry_line k) (pairs_tell shape o ps)) ≡ Some ms → (d : Data) × (tells shape o v (one k) ≡ Some d)
  entry_told k s v content.no_pairs ms g h = absurd (cc)
  entry_told k s v (content.pair l w ps) ms g h = at (bytes_eq (key_text l) s) g
      (λ q. entry_told k s v ps it.others q it.rest)
    where
      it : Added (key_text l, tells shape o w (one k)) (map_list (entry_line k) (pairs_tell shape o ps)) ms
      it = added (key_text l, tells shape o w (one k)) (map_list (entry_line k) (pairs_tell shape o ps)) ms h

      at : (b : Bool) → (if b then Some w else val_under s ps) ≡ Some v → (val_under s ps ≡ Some v → (d : Data) × (tells shape o v (one k) ≡ Some d))
          → (d : Data) × (tells shape o v (one k) ≡ Some d)
      at true q ih = (it.tree, ap (λ x. tells shape o x (one k)) (sym (of_some w v q)) ∙ it.has_tree)
      at false q ih = ih q

  keyed_clean : (k : Kind) (ps : Pairs) (ms : Members) → members_of_lines (map_list (entry_line k) (pairs_tell shape o ps)) ≡ Some ms
      → (step : Step) (place : List Step) (kind : JsonKind) → IsBroken (keyed k ps) step place kind → ⊥
  keyed_clean k ps ms h (Key s) place kind (inl b) = b.1
  keyed_clean k ps ms h (Index i) place kind (inl b) = b
  keyed_clean k ps ms h (Index i) place kind (inr b) = b
  keyed_clean k ps ms h (Key s) place kind (inr b) = at (val_under s ps) refl b
    where
      at : (x : Option Val) → val_under s ps ≡ x → SomeWith (option_map (λ v. (v, one k)) x) IsNeverTold → ⊥
      at None e b = b
      at (Some v) e b = let it = entry_told k s v ps ms e h in b it.0 it.1

  -- ---- messages

  module _ (gs : List FieldShape) where
    abbrev pub value_line : Told → Line
    value_line t = told_line o t.tells (field_of t.number gs)

    abbrev pub value_lines : Fields → List Line
    value_lines fs = map_list value_line (fields_tell shape o fs)

    -- the line of a field that has a tree
    line_told : (t : Tells) (x : Option FieldShape) (d : Data) → (told_line o t x).1 ≡ Some d
        → (f : FieldShape) × (x ≡ Some f) × (t (field f) ≡ Some d)
    line_told t None d h = absurd (cc)
    line_told t (Some f) d h = (f, refl, h)

    field_told : (s : List ℕ) (next : Val × Asked) (ys : List Line) (fs : Fields) (ms : Members) → field_under o s gs fs ≡ Some next
        → members_of_lines (value_lines fs ++ ys) ≡ Some ms → (d : Data) × (tells shape o next.0 next.1 ≡ Some d)
    field_told s next ys content.no_fields ms g h = absurd (cc)
    field_told s next ys (content.field n v fs) ms g h =
        at (is_under o s (field_of n gs)) g (λ q. field_told s next ys fs it.others q it.rest)
      where
        head : Line
        head = told_line o (tells shape o v) (field_of n gs)

        it : Added (told_line o (tells shape o v) (field_of n gs)) (value_lines fs ++ ys) ms
        it = added (told_line o (tells shape o v) (field_of n gs)) (value_lines fs ++ ys) ms h

        own : (x : Option FieldShape) → field_of n gs ≡ x → asked_of x v ≡ Some next → (d : Data) × (tells shape o next.0 next.1 ≡ Some d)
        own None e q = absurd (cc)
        own (Some f) e q =
            let line = line_told (tells shape o v) (field_of n gs) it.tree it.has_tree in
            let same : line.0 ≡ f = of_some line.0 f (sym line.1 ∙ e) in
            let is : (v, field f) ≡ next = of_some _ next q in
            let P : Val × Asked → Type 0 = λ x. (d : Data) × (tells shape o x.0 x.1 ≡ Some d) in
            subst P is (it.tree, ap (λ x. tells shape o v (field x)) (sym same) ∙ line.2)

        at : (b : Bool) → (if b then asked_of (field_of n gs) v else field_under o s gs fs) ≡ Some next
            → (field_under o s gs fs ≡ Some next → (d : Data) × (tells shape o next.0 next.1 ≡ Some d)) → (d : Data) × (tells shape o next.0 next.1 ≡ Some d)
        at true q ih = own (field_of n gs) refl q
        at false q ih = ih q

    pub default_keys : (ds : List FieldShape) → keys_of (map_list (default_line shape o) ds) ≡ map_list (key_of_field o) ds
    default_keys [] = refl
    default_keys (d ∷ ds) = ap (λ x. key_of_field o d ∷ x) (default_keys ds)

    -- the keys of the lines are those that are written
    pub keys_are : (ds : List FieldShape) (fs : Fields) (ms : Members) → members_of_lines (value_lines fs ++ map_list (default_line shape o) ds) ≡ Some ms
        → keys_of (value_lines fs ++ map_list (default_line shape o) ds) ≡ value_keys o gs fs ++ map_list (key_of_field o) ds
    keys_are ds content.no_fields ms h = default_keys ds
    keys_are ds (content.field n v fs) ms h =
        let ys = map_list (default_line shape o) ds in
        let it = added (told_line o (tells shape o v) (field_of n gs)) (value_lines fs ++ ys) ms h in
        let line = line_told (tells shape o v) (field_of n gs) it.tree it.has_tree in
        ap (λ x. (told_line o (tells shape o v) x).0 ∷ keys_of (value_lines fs ++ ys)) line.1
        ∙ ap (λ x. key_of_field o line.0 ∷ x) (keys_are ds fs it.others it.rest)
        ∙ ap (λ x. (key_in o x ++ value_keys o gs fs) ++ map_list (key_of_field o) ds) (sym line.1)

    -- no key of a float field is at fault where none has a kept record
    no_float_key : (kept : List Rec) (s : List ℕ) (fs : List FieldShape) → list_any (λ f. is_float f.kind && is_kept_of kept f) fs ≡ false
        → list_any (λ f. is_float f.kind && is_kept_of kept f && bytes_eq (key_of_field o f) s) fs ≡ true → ⊥
    no_float_key kept s [] n h = cc
    no_float_key kept s (f ∷ fs) n h =
        let parts = neither (is_float f.kind && is_kept_of kept f) (list_any (λ f. is_float f.kind && is_kept_of kept f) fs) n in
        at (is_float f.kind && is_kept_of kept f) (bytes_eq (key_of_field o f) s) parts.0 h (λ q. no_float_key kept s fs parts.1 q)
      where
        at : (a b : Bool) → a ≡ false → ((a && b) || list_any (λ f. is_float f.kind && is_kept_of kept f && bytes_eq (key_of_field o f) s) fs) ≡ true
            → (list_any (λ f. is_float f.kind && is_kept_of kept f && bytes_eq (key_of_field o f) s) fs ≡ true → ⊥) → ⊥
        at true b e q ih = cc
        at false b e q ih = ih q

    -- the type's key is not among the members, where it is to stand with them
    abbrev IsFree : Bool → Data → Type 0
    IsFree typed d = typed ≡ true → (ms : Members) → object ms ≡ d → has_key (codes "@type") ms ≡ false

    members_clean : (typed : Bool) (fs : Fields) (kept : List Rec) (d : Data) → object_tree shape o gs fs kept (fields_tell shape o fs) ≡ Some d → IsFree typed d
        → (step : Step) (place : List Step) (kind : JsonKind) → IsBroken (members typed gs fs kept) step place kind → ⊥
    members_clean typed fs kept d h free_type (Index i) place kind (inl b) = b
    members_clean typed fs kept d h free_type (Index i) place kind (inr b) = b
    members_clean typed fs kept d h free_type (Key s) place kind (inl b) = at kind b.1
      where
        free : (keeps_float gs kept ≡ false) × (option_map object (members_of_lines (lines shape o gs fs (fields_tell shape o fs))) ≡ Some d)
        free = unless_some (keeps_float gs kept) (option_map object (members_of_lines (lines shape o gs fs (fields_tell shape o fs)))) d h

        made : (ms : Members) × (members_of_lines (lines shape o gs fs (fields_tell shape o fs)) ≡ Some ms) × (object ms ≡ d)
        made = from_map object (members_of_lines (lines shape o gs fs (fields_tell shape o fs))) d free.1

        keys : keys_of (lines shape o gs fs (fields_tell shape o fs)) ≡ value_keys o gs fs ++ map_list (key_of_field o) (filter (is_written_default o fs) gs)
        keys = keys_are (filter (is_written_default o fs) gs) fs made.0 made.1

        fresh : typed ≡ true → any_key (codes "@type") (value_keys o gs fs ++ map_list (key_of_field o) (filter (is_written_default o fs) gs)) ≡ false
        fresh e =
            ap (any_key (codes "@type")) (sym keys) ∙ sym (keys_made (codes "@type") (lines shape o gs fs (fields_tell shape o fs)) made.0 made.1)
            ∙ free_type e made.0 made.2

        never : is_twice s (value_keys o gs fs ++ map_list (key_of_field o) (filter (is_written_default o fs) gs)) ≡ false
        never = ap (is_twice s) (sym keys) ∙ never_twice s (lines shape o gs fs (fields_tell shape o fs)) made.0 made.1

        at : (kind : JsonKind) → KeyBreaks o (members typed gs fs kept) s kind → ⊥
        at fault.DuplicateField k =
            let bad : true ≡ false =
            sym k ∙ type_never_twice s typed (value_keys o gs fs) (map_list (key_of_field o) (filter (is_written_default o fs) gs)) fresh never in
            cc
        at fault.Float k = no_float_key kept s gs free.0 k
        at _ k = k
    members_clean typed fs kept d h free_type (Key s) place kind (inr b) = at (field_under o s gs fs) refl b
      where
        free : (keeps_float gs kept ≡ false) × (option_map object (members_of_lines (lines shape o gs fs (fields_tell shape o fs))) ≡ Some d)
        free = unless_some (keeps_float gs kept) (option_map object (members_of_lines (lines shape o gs fs (fields_tell shape o fs)))) d h

        made : (ms : Members) × (members_of_lines (lines shape o gs fs (fields_tell shape o fs)) ≡ Some ms) × (object ms ≡ d)
        made = from_map object (members_of_lines (lines shape o gs fs (fields_tell shape o fs))) d free.1

        at : (x : Option (Val × Asked)) → field_under o s gs fs ≡ x → SomeWith x IsNeverTold → ⊥
        at None e q = q
        at (Some next) e q =
            let it = field_told s next (map_list (default_line shape o) (filter (is_written_default o fs) gs)) fs made.0 e made.1 in
            q it.0 it.1

  -- ---- all values

  -- the value itself breaks a rule, or what is written below it
  abbrev IsFaulty : Taken → Type 0
  IsFaulty t =
      ((kind : JsonKind) × (t ≡ Err kind))
      ⊎ ((parts : Parts) × (t ≡ Ok parts) × ((step : Step) × (place : List Step) × (kind : JsonKind) × IsBroken parts step place kind))

  pub no_error : (t : Taken) (x : Parts) (k : JsonKind) → t ≡ Ok x → t ≡ Err k → ⊥
  no_error t x k p q = cc

  pub one_part : (t : Taken) (x y : Parts) → t ≡ Ok x → t ≡ Ok y → x ≡ y
  one_part t x y p q = cc

  none_below : (t : Taken) (parts : Parts) → t ≡ Ok parts → ((step : Step) (place : List Step) (kind : JsonKind) → IsBroken parts step place kind → ⊥)
      → IsFaulty t → ⊥
  none_below t parts e f (inl b) = no_error t parts b.0 e b.1
  none_below t parts e f (inr b) =
      let P : Parts → Type 0 = λ x. IsBroken x b.2.0 b.2.1 b.2.2 in
      f b.2.0 b.2.1 b.2.2 (subst P (one_part t b.0 parts b.1 e) b.2.3)

  leaf_clean : (step : Step) (place : List Step) (kind : JsonKind) → IsBroken leaf step place kind → ⊥
  leaf_clean (Key k) place kind (inl b) = b.1
  leaf_clean (Index i) place kind (inl b) = b
  leaf_clean (Key k) place kind (inr b) = b
  leaf_clean (Index i) place kind (inr b) = b

  -- ---- well-known types

  text_clean : (r : Result Data JsonKind) (d : Data) → ok_of r ≡ Some d → IsFaulty (as_leaf r) → ⊥
  text_clean (Err e) d h b = absurd (cc)
  text_clean (Ok x) d h b = none_below (Ok leaf) leaf refl leaf_clean b

  many_clean : (k : Kind) (vs : Vals) (d : Data) → tells shape o (content.many vs) (one k) ≡ Some d → IsFaulty (Ok (elements k vs)) → ⊥
  many_clean k vs d h b =
      let it = from_map (λ ds. array (items_of ds)) (all_read (λ (t : Tells). t (one k)) (vals_tell shape o vs)) d h in
      none_below (Ok (elements k vs)) (elements k vs) refl (elements_clean k vs it.0 it.1) b

  entries_clean : (k : Kind) (ps : Pairs) (d : Data) → tells shape o (content.keyed ps) (one k) ≡ Some d → IsFaulty (Ok (keyed k ps)) → ⊥
  entries_clean k ps d h b =
      let it = from_map object (members_of_lines (map_list (entry_line k) (pairs_tell shape o ps))) d h in
      none_below (Ok (keyed k ps)) (keyed k ps) refl (keyed_clean k ps it.0 it.1) b

  bare_clean : IsFaulty (Ok leaf) → ⊥
  bare_clean b = none_below (Ok leaf) leaf refl leaf_clean b

  several_clean : (k : Kind) (otherwise : Option Data) (x : Option Val) (d : Data) → tree_or shape o k otherwise x ≡ Some d → IsFaulty (several_parts k x) → ⊥
  several_clean k otherwise None d h b = bare_clean b
  several_clean k otherwise (Some (content.many vs)) d h b = many_clean k vs d h b
  several_clean k otherwise (Some (content.keyed ps)) d h b = entries_clean k ps d h b
  several_clean k otherwise (Some (content.number z)) d h b = bare_clean b
  several_clean k otherwise (Some (content.truth z)) d h b = bare_clean b
  several_clean k otherwise (Some (content.text z)) d h b = bare_clean b
  several_clean k otherwise (Some (content.octets z)) d h b = bare_clean b
  several_clean k otherwise (Some (content.message z)) d h b = bare_clean b

  -- a `Struct` or a `ListValue`
  struct_clean : (t : ℕ) (otherwise : Option Data) (fs : Fields) (d : Data) → field_tree shape t 1 otherwise (fields_tell shape o fs) ≡ Some d
      → IsFaulty (struct_parts shape t fs) → ⊥
  struct_clean t otherwise fs d h b =
      several_clean (kind_at shape t 1) otherwise (get 1 fs) d (sym (told_at shape o 1 (kind_at shape t 1) otherwise fs) ∙ h) b

  -- a message of such a type that a `Value` holds
  held_clean : (u : ℕ) (form : Form) (c : Content) (d : Data) → form_of shape u ≡ form → holds_several form ≡ true → content_tree shape o c u ≡ Some d
      → IsFaulty (held_parts shape u form (Some (content.message c))) → ⊥
  held_clean u form (content.content fs kept) d e s h b = at form s told b
    where
      tree : Form → Option Data
      tree x = if is_object_form x then object_tree shape o (declared_of shape u) fs kept (fields_tell shape o fs)
          else form_tree shape o u x fs kept (fields_tell shape o fs)

      told : tree form ≡ Some d
      told = ap tree (sym e) ∙ h

      at : (x : Form) → holds_several x ≡ true → tree x ≡ Some d → IsFaulty (held_parts shape u x (Some (content.message (content.content fs kept)))) → ⊥
      at forms.Struct s q b = struct_clean u _ fs d q b
      at forms.ListValue s q b = struct_clean u _ fs d q b
      at forms.Misshapen s q b = absurd (cc)
      at _ s q b = absurd (cc)

  leaf_held : (t n : ℕ) (v : Val) → is_message (Some v) ≡ false
      → IsFaulty (held_parts shape (type_at shape t n) (form_of shape (type_at shape t n)) (Some v)) → ⊥
  leaf_held t n v m b = bare_clean (subst IsFaulty (nothing_held shape (type_at shape t n) (form_of shape (type_at shape t n)) (Some v) m) b)

  -- the value of a field of a `Value`
  value_field_clean : (t n : ℕ) (v : Val) (f : FieldShape) (d : Data) → field_of n (fields_of shape t) ≡ Some f → IsOfValue shape n f
      → IsAsked shape (field f) v → tells shape o v (one (kind_at shape t n)) ≡ Some d
      → IsFaulty (held_parts shape (type_at shape t n) (form_of shape (type_at shape t n)) (Some v)) → ⊥
  value_field_clean t n (content.message c) f d there of s h b =
      let is : kind_at shape t n ≡ kind.Message s.1.0 = ap kind_in there ∙ s.1.1 in
      let type : type_at shape t n ≡ s.1.0 = ap type_of is in
      let holds : holds_several (form_of shape (type_at shape t n)) ≡ true =
      ap (λ x. holds_several (form_of shape x)) type ∙ of.holds s.1.0 s.1.1 in
      held_clean (type_at shape t n) (form_of shape (type_at shape t n)) c d refl holds h b
  value_field_clean t n (content.number z) f d there of s h b = leaf_held t n (content.number z) refl b
  value_field_clean t n (content.truth z) f d there of s h b = leaf_held t n (content.truth z) refl b
  value_field_clean t n (content.text z) f d there of s h b = leaf_held t n (content.text z) refl b
  value_field_clean t n (content.octets z) f d there of s h b = leaf_held t n (content.octets z) refl b
  value_field_clean t n (content.many z) f d there of s h b = leaf_held t n (content.many z) refl b
  value_field_clean t n (content.keyed z) f d there of s h b = leaf_held t n (content.keyed z) refl b

  value_clean : (t : ℕ) (fs : Fields) (kept : List Rec) (d : Data) → form_of shape t ≡ forms.Value → AreSound shape (fields_of shape t) fs
      → value_tree shape t fs kept (fields_tell shape o fs) ≡ Some d → IsFaulty (value_parts shape t fs kept) → ⊥
  value_clean t fs kept d form s h b = told fs s it.1 (subst P it.0 b)
    where
      tree : Fields → Option Data
      tree fs = if first_field fs == 1 then Some null else field_tree shape t (first_field fs) (Some null) (fields_tell shape o fs)

      parts : Fields → Taken
      parts fs = held_parts shape (type_at shape t (first_field fs)) (form_of shape (type_at shape t (first_field fs))) (get (first_field fs) fs)

      it : (keeps_float (declared_of shape t) kept ≡ false) × (tree fs ≡ Some d)
      it = unless_some (keeps_float (declared_of shape t) kept) (tree fs) d h

      P : Bool → Type 0
      P x = IsFaulty (if x then Err fault.Float else parts fs)

      told : (fs : Fields) → AreSound shape (fields_of shape t) fs → tree fs ≡ Some d → IsFaulty (parts fs) → ⊥
      told content.no_fields s h b = bare_clean (subst IsFaulty (nothing_held shape (type_at shape t 0) (form_of shape (type_at shape t 0)) None refl) b)
      told (content.field n v fs) s h b = at (n == 1) refl h
        where
          own : (f : FieldShape) × (field_of n (fields_of shape t) ≡ Some f) × IsAsked shape (field f) v
          own = field_at shape v (field_of n (fields_of shape t)) s.0

          of : IsOfValue shape n own.0
          of = of_value shape t form n own.0 own.1

          below : IsFaulty (held_parts shape (type_at shape t n) (form_of shape (type_at shape t n)) (Some v))
          below = subst (λ x. IsFaulty (held_parts shape (type_at shape t n) (form_of shape (type_at shape t n)) x)) (get_first n v fs) b

          first : (w : Val) → v ≡ w → is_message (Some w) ≡ false → ⊥
          first w e m = leaf_held t n v (ap (λ x. is_message (Some x)) e ∙ m) below

          -- null
          null_clean : n ≡ 1 → (w : Val) → v ≡ w → ⊥
          null_clean e (content.message c) is =
              let s : IsAsked shape (field own.0) (content.message c) = subst (IsAsked shape (field own.0)) is own.2 in
              let enum = of.first e in
              (let bad : kind.Enum enum.0 ≡ kind.Message s.1.0 = sym enum.1 ∙ s.1.1 in cc)
          null_clean e (content.number z) is = first (content.number z) is refl
          null_clean e (content.truth z) is = first (content.truth z) is refl
          null_clean e (content.text z) is = first (content.text z) is refl
          null_clean e (content.octets z) is = first (content.octets z) is refl
          null_clean e (content.many z) is = first (content.many z) is refl
          null_clean e (content.keyed z) is = first (content.keyed z) is refl

          at : (x : Bool) → (n == 1) ≡ x
              → (if x then Some null else field_tree shape t n (Some null) (fields_tell shape o (content.field n v fs))) ≡ Some d → ⊥
          at true e q = null_clean (eqb-true n 1 e) v refl
          at false e q =
              value_field_clean t n v own.0 d own.1 of own.2
              (sym (told_at shape o n (kind_at shape t n) (Some null) (content.field n v fs)
              ∙ ap (tree_or shape o (kind_at shape t n) (Some null)) (get_first n v fs)) ∙ q) below

  -- under `value`
  under_clean : (u : ℕ) (p : Content) (d : Data) → content_tree shape o p u ≡ Some d
      → (step : Step) (place : List Step) (k : JsonKind) → IsBroken (payload u p) step place k → ⊥
  under_clean u p d h (Key s) place k (inl b) = b.1
  under_clean u p d h (Index i) place k (inl b) = b
  under_clean u p d h (Index i) place k (inr b) = b
  under_clean u p d h (Key s) place k (inr b) = at (is_value_key s) b
    where
      at : (x : Bool) → SomeWith (if x then Some (content.message p, one (kind.Message u)) else None) IsNeverTold → ⊥
      at true b = b d h
      at false b = b

  -- what has the type among its members is an object in which it was not
  free_of : (url : List ℕ) (e d : Data) → with_type url e ≡ Some d → (ms : Members) → object ms ≡ e → has_key (codes "@type") ms ≡ false
  free_of url (object ns) d h ms is =
      let made = from_map object (with_member (codes "@type") (string url) ns) d h in
      let same : ms ≡ ns = (cc) in
      ap (has_key (codes "@type")) same ∙ (unless_some (has_key (codes "@type") ns) (Some (put (codes "@type") (string url) ns)) made.0 made.1).0
  free_of url null d h ms is = absurd (cc)
  free_of url (boolean b) d h ms is = absurd (cc)
  free_of url (number n) d h ms is = absurd (cc)
  free_of url (string s) d h ms is = absurd (cc)
  free_of url (array ds) d h ms is = absurd (cc)

  beside_clean : (u : ℕ) (url : List ℕ) (p : Content) (e d : Data) → is_object_type shape u ≡ true → content_tree shape o p u ≡ Some e
      → with_type url e ≡ Some d → IsFaulty (Ok (members true (declared_of shape u) (content.fields p) (content.kept p))) → ⊥
  beside_clean u url (content.content fs kept) e d object_type told w b =
      none_below (Ok (members true (declared_of shape u) fs kept)) (members true (declared_of shape u) fs kept) refl
      (members_clean (declared_of shape u) true fs kept e (tree (is_object_type shape u) object_type told) (λ q ms is. free_of url e d w ms is)) b
    where
      tree : (x : Bool) → x ≡ true
          → (if x then object_tree shape o (declared_of shape u) fs kept (fields_tell shape o fs) else own_tree shape o u fs kept (fields_tell shape o fs)) ≡ Some e
          → object_tree shape o (declared_of shape u) fs kept (fields_tell shape o fs) ≡ Some e
      tree true q h = h
      tree false q h = absurd (cc)

  module _ (proper : IsProper shape) (writes : WritesPayloads shape o) where
    payload_clean : (u : ℕ) (url bytes : List ℕ) (x : Option Content) → meaning_of shape u bytes ≡ x → (e d : Data) → o.payloads u bytes ≡ Some e
        → any_with shape url u e ≡ Some d → IsFaulty (payload_parts shape u x) → ⊥
    payload_clean u url bytes None means e d q w b = (let bad : None ≡ Some e = sym (writes.by_none u bytes means) ∙ q in cc)
    payload_clean u url bytes (Some p) means e d q w b = at (stands_beside shape u) refl w b
      where
        told : content_tree shape o p u ≡ Some e
        told = sym (writes.by_content u bytes p means) ∙ q

        at : (x : Bool) → stands_beside shape u ≡ x → (if x then with_type url e else Some (type_and_value url e)) ≡ Some d
            → IsFaulty (if x then Ok (members true (declared_of shape u) (content.fields p) (content.kept p)) else Ok (payload u p)) → ⊥
        at true is w b = beside_clean u url p e d (stands_object shape u is) told w b
        at false is w b = none_below (Ok (payload u p)) (payload u p) refl (under_clean u p e told) b

    any_clean : (url bytes : List ℕ) (x : Option ℕ) (d : Data) → payload_in shape o url bytes x ≡ Some d → IsFaulty (typed_parts shape bytes x) → ⊥
    any_clean url bytes None d h b = cc
    any_clean url bytes (Some u) d h b =
        let it = from_then (any_with shape url u) (o.payloads u bytes) d h in
        payload_clean u url bytes (meaning_of shape u bytes) refl it.0 d it.1 it.2 b

    form_clean : (t : ℕ) (form : Form) (fs : Fields) (kept : List Rec) (d : Data) → form_of shape t ≡ form → AreSound shape (fields_of shape t) fs
        → form_tree shape o t form fs kept (fields_tell shape o fs) ≡ Some d → IsFaulty (form_parts shape t form fs kept) → ⊥
    form_clean t forms.Timestamp fs kept d e s h b = text_clean (timestamp_tree fs) d h b
    form_clean t forms.Duration fs kept d e s h b = text_clean (duration_tree fs) d h b
    form_clean t forms.FieldMask fs kept d e s h b = text_clean (mask_tree fs) d h b
    form_clean t forms.Wrapper fs kept d e s h b = bare_clean b
    form_clean t forms.Struct fs kept d e s h b = struct_clean t _ fs d h b
    form_clean t forms.ListValue fs kept d e s h b = struct_clean t _ fs d h b
    form_clean t forms.Value fs kept d e s h b = value_clean t fs kept d e s h b
    form_clean t forms.Any fs kept d e s h b = any_clean (text_at (get 1 fs)) (bytes_at (get 2 fs)) (type_of_url shape (text_at (get 1 fs))) d h b
    form_clean t _ fs kept d e s h b = absurd (cc)

    -- ---- values

    told_clean : (v : Val) (a : Asked) (d : Data) → IsAsked shape a v → tells shape o v a ≡ Some d → IsFaulty (parts_of shape v a) → ⊥
    told_clean (content.number z) a d s h b = bare_clean b
    told_clean (content.truth z) a d s h b = bare_clean b
    told_clean (content.text z) a d s h b = bare_clean b
    told_clean (content.octets z) a d s h b = bare_clean b
    told_clean (content.many vs) a d s h b = many_clean (kind_asked a) vs d h b
    told_clean (content.keyed ps) a d s h b = entries_clean (kind_asked a) ps d h b
    told_clean (content.message (content.content fs kept)) a d s h b = at (is_object_type shape (type_of (kind_asked a))) h b
      where
        t : ℕ
        t = type_of (kind_asked a)

        no_type : false ≡ true → ⊥
        no_type e = cc

        sound : AreSound shape (fields_of shape t) fs
        sound = (message_asked shape a (content.content fs kept) s).1

        at : (x : Bool)
            → (if x then object_tree shape o (declared_of shape t) fs kept (fields_tell shape o fs)
            else own_tree shape o t fs kept (fields_tell shape o fs)) ≡ Some d
            → IsFaulty (if x then Ok (members false (declared_of shape t) fs kept) else form_parts shape t (form_of shape t) fs kept) → ⊥
        at true q b =
            none_below (Ok (members false (declared_of shape t) fs kept)) (members false (declared_of shape t) fs kept) refl
            (members_clean (declared_of shape t) false fs kept d q (λ e. absurd (no_type e))) b
        at false q b = form_clean t (form_of shape t) fs kept d refl sound q b

    with_some : {X : Type 0} (P Q : X → Type 0) (x : Option X) → ((y : X) → x ≡ Some y → P y → Q y) → SomeWith x P → SomeWith x Q
    with_some P Q None f h = h
    with_some P Q (Some y) f h = f y refl h

    taken_with : (t : Taken) (step : Step) (place : List Step) (kind : JsonKind) → AreTaken shape t
        → ((next : Val × Asked) → IsAsked shape next.1 next.0 → WriteFaultAt shape o place next.0 next.1 kind → IsNeverTold next)
        → OkWith t (λ parts. IsKeyFault o parts step place kind ⊎ SomeWith (into_written o parts step) (λ next. WriteFaultAt shape o place next.0 next.1 kind))
        → IsFaulty t
    taken_with (Err e) step place kind s f h = absurd h
    taken_with (Ok parts) step place kind s f h = inr (parts, refl, (step, place, kind, broken h))
      where
        broken : IsKeyFault o parts step place kind ⊎ SomeWith (into_written o parts step) (λ next. WriteFaultAt shape o place next.0 next.1 kind)
            → IsBroken parts step place kind
        broken (inl b) = inl b
        broken (inr b) =
            inr (with_some (λ next. WriteFaultAt shape o place next.0 next.1 kind) IsNeverTold (into_written o parts step)
            (λ next e g. f next (next_asked shape o parts step next s e) g) b)

    -- a value with a fault at some place has no tree
    pub untold : (place : List Step) (v : Val) (a : Asked) (kind : JsonKind) → IsAsked shape a v → WriteFaultAt shape o place v a kind
        → (d : Data) → tells shape o v a ≡ Some d → ⊥
    untold [] v a kind s h d e = told_clean v a d s e (inl (kind, h))
    untold (step ∷ place) v a kind s h d e =
        told_clean v a d s e (taken_with (parts_of shape v a) step place kind (parts_taken shape proper v a s)
        (λ next t g. λ x q. untold place next.0 next.1 kind t g x q) h)
