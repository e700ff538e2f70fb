-- No key of an ordinary message is that of the type of an `Any`, so the URL of its type can stand among its members.
use Rattle.std.proofs.Common.{◌≡◌, ℕ, ◌&&◌, ◌++◌, List, [], ◌∷◌, map as map_list, filter, codes, Bool, true, false, not, if◌then◌else◌, Option, Some, None, refl, ap, sym, ◌∙◌}
use Rattle.std.specs.List.{list_all}
use Rattle.serde_json.specs.Data.{Data, string, object, Members, put}
use Rattle.pbx_content.specs.Content as content
use Rattle.pbx_content.specs.Content.{Content, Fields}
use Rattle.pbx_content.specs.Shape.{declared_of, field_of}
use Rattle.pbx_content.specs.Sound.{IsProper}
use Rattle.pbx_content.specs.declared.shape.FieldShape.{FieldShape}
use Rattle.pbx_content.specs.declared.shape.Shape.{Shape}
use Rattle.pbx_wkt_types.specs.Shapes.{form_of}
use Rattle.pbx_json_meaning.specs.Canonical.{Writing, Line, Told, key_of_field, told_line, default_line, is_written_default, lines, members_of_lines, has_key, with_type, type_and_value, any_with}
use Rattle.pbx_json_meaning.specs.Canonical.{content_tree, fields_tell}
use Rattle.pbx_json_meaning.specs.Clash.{naming_of, name_fault}
use Rattle.pbx_json_meaning.specs.Forms.{is_object_form}
use Rattle.pbx_json_meaning.specs.Named.{IsWellNamed}
use Rattle.pbx_json_meaning.specs.Urls.{is_type_key, stands_beside}
use Rattle.pbx_json_laws.proofs.FaultFields.{failing}
use Rattle.pbx_json_laws.proofs.LinesMade.{keys_of, any_key, keys_made}
use Rattle.pbx_json_laws.proofs.NamesBack.{json_plain}
use Rattle.pbx_json_laws.proofs.Numbers.{found_number}
use Rattle.pbx_json_laws.proofs.Parts.{both, from_not, found_passes, nor_of}
use Rattle.pbx_json_laws.proofs.Payloads.{beside_is}
use Rattle.pbx_json_laws.proofs.Written.{object_made}

module _ (shape : Shape) (proper : IsProper shape) (well : IsWellNamed shape) (o : Writing) (clean : name_fault (naming_of o.options) shape ≡ None) where
  key_plain : (t n : ℕ) (f : FieldShape) → field_of n (declared_of shape t) ≡ Some f → is_type_key (key_of_field o f) ≡ false
  key_plain t n f e = at o.options.use_proto_field_name f.is_extension refl
    where
      at : (b x : Bool) → f.is_extension ≡ x → is_type_key (if b && not x then f.name else f.json_name) ≡ false
      at true true q = well.plain_extensions t n f (e, q)
      at true false q = well.plain_names t n f (e, q)
      at false true q = well.plain_extensions t n f (e, q)
      at false false q = json_plain (naming_of o.options) shape t n f clean e q

  -- the key is not that of the type
  abbrev is_plain : FieldShape → Bool
  is_plain f = not (is_type_key (key_of_field o f))

  all_plain : (t : ℕ) → list_all is_plain (declared_of shape t) ≡ true
  all_plain t = at (list_all is_plain (declared_of shape t)) refl
    where
      at : (b : Bool) → list_all is_plain (declared_of shape t) ≡ b → b ≡ true
      at true e = refl
      at false e =
          let gs = declared_of shape t in
          let it = failing is_plain gs e in
          let no : is_plain it.0 ≡ false = from_not (is_plain it.0) (found_passes (λ x. not (is_plain x)) gs it.0 it.1) in
          let there = found_number gs (proper.types t).distinct (λ x. not (is_plain x)) it.0 it.1 in
          let yes' : is_plain it.0 ≡ true = ap not (key_plain t it.0.number it.0 there) in
          absurd (let bad : true ≡ false = sym yes' ∙ no in cc)

  defaults_plain : (fs : Fields) (ds : List FieldShape) → list_all is_plain ds ≡ true
      → any_key (codes "@type") (keys_of (map_list (default_line shape o) (filter (is_written_default o fs) ds))) ≡ false
  defaults_plain fs [] h = refl
  defaults_plain fs (f ∷ ds) h = at (is_written_default o fs f) (defaults_plain fs ds parts.1)
    where
      parts : (is_plain f ≡ true) × (list_all is_plain ds ≡ true)
      parts = both (is_plain f) (list_all is_plain ds) h

      at : (b : Bool) → any_key (codes "@type") (keys_of (map_list (default_line shape o) (filter (is_written_default o fs) ds))) ≡ false
          → any_key (codes "@type")
          (keys_of (map_list (default_line shape o) (if b then f ∷ filter (is_written_default o fs) ds else filter (is_written_default o fs) ds))) ≡ false
      at true ih = nor_of (is_type_key (key_of_field o f)) _ (from_not (is_type_key (key_of_field o f)) parts.0) ih
      at false ih = ih

  told_plain : (t : ℕ) (ys : List Line) → any_key (codes "@type") (keys_of ys) ≡ false → (ts : List Told)
      → any_key (codes "@type") (keys_of (map_list (λ (x : Told). told_line o x.tells (field_of x.number (declared_of shape t))) ts ++ ys)) ≡ false
  told_plain t ys base [] = base
  told_plain t ys base (x ∷ ts) =
      nor_of (is_type_key (told_line o x.tells (field_of x.number (declared_of shape t))).0) _ (at (field_of x.number (declared_of shape t)) refl) (told_plain t ys base ts)
    where
      at : (q : Option FieldShape) → field_of x.number (declared_of shape t) ≡ q → is_type_key (told_line o x.tells q).0 ≡ false
      at None e = refl
      at (Some f) e = key_plain t x.number f e

  -- an object of fields has no such key
  typeless : (t : ℕ) (fs : Fields) (ms : Members) → members_of_lines (lines shape o (declared_of shape t) fs (fields_tell shape o fs)) ≡ Some ms
      → has_key (codes "@type") ms ≡ false
  typeless t fs ms h =
      keys_made (codes "@type") (lines shape o (declared_of shape t) fs (fields_tell shape o fs)) ms h
      ∙ told_plain t (map_list (default_line shape o) (filter (is_written_default o fs) (declared_of shape t))) (defaults_plain fs (declared_of shape t) (all_plain t))
      (fields_tell shape o fs)

  -- so a payload that has a tree makes that of an `Any`
  pub any_made : (url : List ℕ) (u : ℕ) (p : Content) (d : Data) → content_tree shape o p u ≡ Some d → (e : Data) × (any_with shape url u d ≡ Some e)
  any_made url u (content.content fs kept) d h = at (stands_beside shape u) refl
    where
      beside : is_object_form (form_of shape u) ≡ true → (e : Data) × (with_type url d ≡ Some e)
      beside own =
          let it = object_made shape o fs kept u d own h in
          let free : has_key (codes "@type") it.0 ≡ false = typeless u fs it.0 it.1 in
          let tree : with_type url (object it.0) ≡ Some (object (put (codes "@type") (string url) it.0)) = rw free refl in
          (object (put (codes "@type") (string url) it.0), ap (with_type url) (sym it.2) ∙ tree)

      at : (b : Bool) → stands_beside shape u ≡ b → (e : Data) × ((if b then with_type url d else Some (type_and_value url d)) ≡ Some e)
      at true q = beside (ap is_object_form (beside_is (form_of shape u) q))
      at false q = (type_and_value url d, refl)
