-- What a tree stands for is written, where the payloads of its `Any` messages are read again.
use Rattle.std.proofs.Common.{◌≡◌, ℕ, zero, suc, ◌++◌, List, [], ◌∷◌, length, Bool, true, Option, Some, None, option_and_then, refl, ap, sym, ◌∙◌, subst}
use Rattle.std.specs.List.{list_all}
use Rattle.std.proofs.lemmas.List.Folds.{list_all-append}
use Rattle.serde_json.specs.Data.{Data}
use Rattle.pbx_content.specs.Content as content
use Rattle.pbx_content.specs.Content.{Content, Fields, fields, Val, Vals, Pairs, get}
use Rattle.pbx_content.specs.Encoding.{type_of, encoded}
use Rattle.pbx_content.specs.Meaning.{meaning_of}
use Rattle.pbx_content.specs.Shape.{declared_of, by_number, fields_of, field_of}
use Rattle.pbx_content.specs.Sound.{IsProper}
use Rattle.pbx_content.specs.declared.shape.Kind.{Kind}
use Rattle.pbx_content.specs.declared.shape.FieldShape.{FieldShape}
use Rattle.pbx_content.specs.declared.shape.Shape.{Shape}
use Rattle.pbx_wkt_types.specs.Shapes.{form_of}
use Rattle.pbx_wkt_types.specs.declared.form.Form.{Form}
use Rattle.pbx_wkt_types.specs.declared.form.Form.TheVariants as forms
use Rattle.pbx_wkt_types.proofs.Forms.{any_fields}
use Rattle.pbx_json_meaning.specs.Asked.{Target, single, list, map, target_by}
use Rattle.pbx_json_meaning.specs.Canonical.{Writing, writing, canonical, content_tree, any_with, payload_tree}
use Rattle.pbx_json_meaning.specs.Clash.{naming_of, name_fault}
use Rattle.pbx_json_meaning.specs.Fits.{Payload, payload_with, payload_by, payloads, fields_payloads, val_payloads, vals_payloads, pairs_payloads, decoded_passes, decodes_within}
use Rattle.pbx_json_meaning.specs.Fits.{payload_fits, payloads_fit}
use Rattle.pbx_json_meaning.specs.Forms.{kind_in as kind_of, packed, bytes_at}
use Rattle.pbx_json_meaning.specs.Laws.{FittingIsWritten}
use Rattle.pbx_json_meaning.specs.Named.{IsWellNamed}
use Rattle.pbx_json_meaning.specs.Urls.{type_of_url}
use Rattle.pbx_json_meaning.specs.declared.options.SerializeOptions.{SerializeOptions}
use Rattle.pbx_json_laws.proofs.Again.{content_back}
use Rattle.pbx_json_laws.proofs.AnyBack.{url_packed, bytes_packed, any_written}
use Rattle.pbx_json_laws.proofs.Back.{kind_in, kind_by}
use Rattle.pbx_json_laws.proofs.Fits.{Fits, FitsAs, IsPacked, IsOwnRead, FieldsFit, AllFit, PairsFit, FitsOption}
use Rattle.pbx_json_laws.proofs.FitTrees.{standing_fits}
use Rattle.pbx_json_laws.proofs.Numbers.{field_of-by_number}
use Rattle.pbx_json_laws.proofs.Parts.{both}
use Rattle.pbx_json_laws.proofs.Payload.{payload_fits as payload_is_read}
use Rattle.pbx_json_laws.proofs.Rewritten.{within, PayloadsBack, means_itself, turns_back, writing_back}
use Rattle.pbx_json_laws.proofs.PlainKeys.{any_made}
use Rattle.pbx_json_laws.proofs.Written.{HasTree, IsWritten, FieldsAreWritten, ValIsWritten, ValsAreWritten, PairsAreWritten}

-- ---- payloads that pass a test

module _ (shape : Shape) (o : Writing) (passes : Payload → Bool) where
  -- all of these pass
  abbrev All : List Payload → Type 0
  All ps = list_all passes ps ≡ true

  parts : (ps qs : List Payload) → All (ps ++ qs) → All ps × All qs
  parts ps qs h = both (list_all passes ps) (list_all passes qs) (sym (list_all-append passes ps qs) ∙ h)

  abbrev ValUp : Val → Type 0
  ValUp v = (tg : Target) → Fits shape v tg → All (val_payloads shape v (kind_in tg)) → ValIsWritten shape o v (kind_in tg)

  field_up : (n : ℕ) (v : Val) (gs : List FieldShape) → ValUp v → FitsOption shape v (Fits shape v) (field_of n gs)
      → All (val_payloads shape v (kind_of (field_of n (by_number gs)))) → ValIsWritten shape o v (kind_of (field_of n gs))
  field_up n v gs up h e = at (field_of n gs) h (ap (λ x. list_all passes (val_payloads shape v (kind_of x))) (sym (field_of-by_number n gs)) ∙ e)
    where
      at : (x : Option FieldShape) → FitsOption shape v (Fits shape v) x → All (val_payloads shape v (kind_of x)) → ValIsWritten shape o v (kind_of x)
      at None h e = absurd h
      at (Some f) h e =
          let is : kind_in (target_by f f.cardinality) ≡ f.kind = kind_by f f.cardinality in
          subst (ValIsWritten shape o v) is (up (target_by f f.cardinality) h.0 (ap (λ k. list_all passes (val_payloads shape v k)) is ∙ e))

  -- an `Any` whose payload passes has a tree
  abbrev AnyUp : Type 0
  AnyUp = (t : ℕ) (c : Content) → form_of shape t ≡ forms.Any → IsPacked shape t c → All (payload_by shape forms.Any (fields c)) → HasTree shape o (fields c)

  module _ (any_up : AnyUp) where
    mutual
      -- so do all inside a content whose payloads pass
      pub content_up : (c : Content) (t : ℕ) → FitsAs shape c t → All (payloads shape c t) → IsWritten shape o c t
      content_up (content.content fs kept) t h e =
          let it = parts (payload_by shape (form_of shape t) fs) (fields_payloads shape (fields_of shape t) fs) e in (
            λ is.
                let own : IsPacked shape t (content.content fs kept) =
                (let P : Form → Type 0 = λ form. IsOwnRead shape t form (content.content fs kept) in subst P is h.1) in
                any_up t (content.content fs kept) is own (ap (λ form. list_all passes (payload_by shape form fs)) (sym is) ∙ it.0),
            λ p. fields_up fs (declared_of shape t) h.4 it.1,
          )

      fields_up : (fs : Fields) (gs : List FieldShape) → FieldsFit shape fs gs → All (fields_payloads shape (by_number gs) fs) → FieldsAreWritten shape o fs gs
      fields_up content.no_fields gs h e = tt
      fields_up (content.field n v fs) gs h e =
          let it = parts (val_payloads shape v (kind_of (field_of n (by_number gs)))) (fields_payloads shape (by_number gs) fs) e in
          (field_up n v gs (val_up v) h.0 it.0, fields_up fs gs h.1 it.1)

      val_up : (v : Val) → ValUp v
      val_up (content.number z) tg h e = tt
      val_up (content.truth b) tg h e = tt
      val_up (content.text s) tg h e = tt
      val_up (content.octets b) tg h e = tt
      val_up (content.message c) (single k) h e =
          let is : type_of k ≡ h.0 = ap type_of h.1 in
          subst (IsWritten shape o c) (sym is) (content_up c h.0 h.2 (ap (λ u. list_all passes (payloads shape c u)) (sym is) ∙ e))
      val_up (content.many vs) (list k) h e = vals_up vs k h.1 e
      val_up (content.keyed ps) (map kk vk) h e = pairs_up ps kk vk h.1 e
      val_up _ _ h e = absurd h

      vals_up : (vs : Vals) (k : Kind) → AllFit shape vs k → All (vals_payloads shape vs k) → ValsAreWritten shape o vs k
      vals_up content.no_vals k h e = tt
      vals_up (content.val v vs) k h e =
          let it = parts (val_payloads shape v k) (vals_payloads shape vs k) e in
          (val_up v (single k) h.0 it.0, vals_up vs k h.1 it.1)

      pairs_up : (ps : Pairs) (kk vk : Kind) → PairsFit shape ps kk vk → All (pairs_payloads shape ps vk) → PairsAreWritten shape o ps vk
      pairs_up content.no_pairs kk vk h e = tt
      pairs_up (content.pair l v ps) kk vk h e =
          let it = parts (val_payloads shape v vk) (pairs_payloads shape ps vk) e in
          (val_up v (single vk) h.1 it.0, pairs_up ps kk vk h.3 it.1)

  -- ---- one payload

  -- the payload of a content
  abbrev payload_of : ℕ → Content → Payload
  payload_of u p = record { type_at = u; bytes = encoded shape u p }

  -- each payload that passes has a tree, which an `Any` can be made of
  abbrev pub AreMade : Type 0
  AreMade =
      (u : ℕ) (p : Content) → FitsAs shape p u → passes (payload_of u p) ≡ true
      → (d : Data) × (o.payloads u (encoded shape u p) ≡ Some d) × ((url : List ℕ) → (e : Data) × (any_with shape url u d ≡ Some e))

  pub any_up_from : IsProper shape → IsWellNamed shape → AreMade → AnyUp
  any_up_from proper well made t c is it h =
      let e = packed shape t it.url it.place it.payload in
      let P : Content → Type 0 = λ x. All (payload_by shape forms.Any (fields x)) in
      subst (λ x. HasTree shape o (fields x)) it.packs (tree (subst P (sym it.packs) h))
    where
      tree : All (payload_by shape forms.Any (fields (packed shape t it.url it.place it.payload)))
          → HasTree shape o (fields (packed shape t it.url it.place it.payload))
      tree h =
          let e = packed shape t it.url it.place it.payload in
          let has = any_fields shape t is in
          let one : payload_by shape forms.Any (fields e) ≡ payload_of it.place it.payload ∷ [] =
          ap (λ x. payload_with (bytes_at (get 2 (fields e))) (type_of_url shape x)) (url_packed shape t it.url it.place it.payload has)
          ∙ ap (payload_with (bytes_at (get 2 (fields e)))) it.named
          ∙ ap (λ b. payload_with b (Some it.place)) (bytes_packed shape t it.url it.place it.payload has) in
          let passed : passes (payload_of it.place it.payload) ≡ true = (both (passes (payload_of it.place it.payload)) true (sym (ap (list_all passes) one) ∙ h)).0 in
          let got = made it.place it.payload (payload_is_read shape proper well t c it) passed in
          let whole = got.2 it.url in
          (whole.0, any_written shape o t it.url it.place it.payload is it.named ∙ ap (option_and_then (any_with shape it.url it.place)) got.1 ∙ whole.1)

-- ---- turns

module _ (shape : Shape) (proper : IsProper shape) (well : IsWellNamed shape) (o : SerializeOptions)
    (clean : name_fault (naming_of o) shape ≡ None) where
  -- a content whose payloads pass has a tree
  tree_made : (w : Writing) (same : w.options ≡ o) (passes : Payload → Bool) → PayloadsBack shape proper well o clean w → AreMade shape w passes
      → (c : Content) (t : ℕ) → FitsAs shape c t → list_all passes (payloads shape c t) ≡ true → (d : Data) × (content_tree shape w c t ≡ Some d)
  tree_made w same passes back made c t h e =
      let none : name_fault (naming_of w.options) shape ≡ None = ap (λ x. name_fault (naming_of x) shape) same ∙ clean in
      let written = content_up shape w passes (any_up_from shape w passes proper well made) c t h e in
      let it = content_back shape proper well w none back c t h written in
      (it.0, it.1)

  within_made : (turns : ℕ) → AreMade shape (within shape proper well o clean turns) (decodes_within shape turns)
  unfolding payload_tree decodes_within
  within_made zero u p h e = absurd (cc)
  within_made (suc turns) u p h e = at (meaning_of shape u (encoded shape u p)) refl e (within_made turns)
    where
      w : Writing
      w = record { options = o; payloads = payload_tree shape o turns }

      at : (q : Option Content) → meaning_of shape u (encoded shape u p) ≡ q → decoded_passes shape (decodes_within shape turns) u q ≡ true
          → AreMade shape (record { options = o; payloads = payload_tree shape o turns }) (decodes_within shape turns)
          → (d : Data) × (payload_tree shape o (suc turns) u (encoded shape u p) ≡ Some d)
          × ((url : List ℕ) → (e : Data) × (any_with shape url u d ≡ Some e))
      at None means k below = absurd (cc)
      at (Some q) means k below =
          let same : q ≡ p = means_itself shape proper well o clean u p q h means in
          let all : list_all (decodes_within shape turns) (payloads shape p u) ≡ true = ap (λ x. list_all (decodes_within shape turns) (payloads shape x u)) (sym same) ∙ k in
          let it = tree_made w refl (decodes_within shape turns) (turns_back shape proper well o clean turns) below p u h all in (
            it.0,
            ap (option_and_then (λ c. content_tree shape w c u)) means ∙ ap (λ c. content_tree shape w c u) same ∙ it.1,
            λ url. any_made shape proper well w clean url u p it.0 it.1,
          )

  writing_made : AreMade shape (writing shape o) (payload_fits shape)
  writing_made u p h e = within_made (suc (length (encoded shape u p))) u p h e

  pub fitting_tree : (t : ℕ) (c : Content) → FitsAs shape c t → payloads_fit shape t c ≡ true → (d : Data) × (canonical shape t c o ≡ Some d)
  fitting_tree t c h fit = tree_made (writing shape o) refl (payload_fits shape) (writing_back shape proper well o clean) writing_made c t h fit

-- ---- the law

pub fitting_is_written : FittingIsWritten
fitting_is_written shape t allow tree c o proper well clean texts h fit =
    fitting_tree shape proper well o clean t c (standing_fits shape t allow tree c proper well texts h) fit
