-- What is read of a tree may be held by a message.
use Rattle.std.proofs.Common.{◌≡◌, inl, inr, ℕ, ◌&&◌, ℤ, List, [], Bool, true, false, Option, Some, None, refl, ap, sym, ◌∙◌, subst}
use Rattle.std.specs.Prelude.{not}
use Rattle.std.specs.List.{list_all}
use Rattle.pbx_wire.specs.declared.rec.Rec.{Rec}
use Rattle.pbx_content.specs.Content as content
use Rattle.pbx_content.specs.Content.{Content, Fields, Val, Vals, Pairs, has, IsAscending}
use Rattle.pbx_content.specs.Meaning.{shown}
use Rattle.pbx_content.specs.Shape.{declared_of, by_number, fields_of, field_of, is_other}
use Rattle.pbx_content.specs.Sound.{IsSound, AreSound, IsSoundAt, AreElements, ArePairs, IsElement, IsNumber, IsShown, AreKept, has_one_member}
use Rattle.pbx_content.specs.declared.shape.Kind.{Kind}
use Rattle.pbx_content.specs.declared.shape.Kind.TheVariants as kind
use Rattle.pbx_content.specs.declared.shape.Cardinality.{Cardinality}
use Rattle.pbx_content.specs.declared.shape.Cardinality.TheVariants.{Singular, Repeated, Map}
use Rattle.pbx_content.specs.declared.shape.FieldShape.{FieldShape}
use Rattle.pbx_content.specs.declared.shape.Shape.{Shape}
use Rattle.pbx_json_meaning.specs.Asked.{single, target_by, presence_by}
use Rattle.pbx_json_meaning.specs.Laws.{StandsSound}
use Rattle.pbx_json_laws.proofs.Fits.{Fits, FitsAs, FieldsFit, AllFit, PairsFit, FitsOption}
use Rattle.pbx_json_laws.proofs.FitShown.{no_default}
use Rattle.pbx_json_laws.proofs.FitTrees.{standing_fits}
use Rattle.pbx_json_laws.proofs.Numbers.{field_of-by_number, all-by_number, all_along}

-- ---- oneofs

-- in order of their numbers too, of each oneof at most one member has a value
one_member : (gs : List FieldShape) (fs : Fields) → has_one_member gs fs ≡ true → has_one_member (by_number gs) fs ≡ true
one_member gs fs h =
    all-by_number (λ f. list_all (pair f) (by_number gs)) gs
    ∙ all_along (λ f. list_all (pair f) (by_number gs)) (λ f. list_all (pair f) gs) (λ f. all-by_number (pair f) gs) gs ∙ h
  where
    pair : FieldShape → FieldShape → Bool
    pair f g = not (is_other f g && has f.number fs && has g.number fs)

-- ---- one field

shown_singular : (shape : Shape) (f : FieldShape) (v : Val) → shown shape f.presence f.kind (Some v) ≡ Some v → IsShown shape f v
shown_singular shape f v h = at f.presence refl h
  where
    at : (b : Bool) → f.presence ≡ b → shown shape b f.kind (Some v) ≡ Some v → IsShown shape f v
    at true e k = inl e
    at false e k = inr (no_default shape f.kind v k)

-- a value that is no message shows as the flag says
presence_is : (p : Bool) (k : Kind) → ((t : ℕ) → k ≡ kind.Message t → ⊥) → presence_by p k Singular ≡ p
presence_is p (kind.Message t) n = absurd (n t refl)
presence_is p _ n = refl

pub no_number : (k : Kind) (z : ℤ) → IsNumber k z → (t : ℕ) → k ≡ kind.Message t → ⊥
no_number k z h t e = let P : Kind → Type 0 = λ x. IsNumber x z in subst P e h

visible : (shape : Shape) (f : FieldShape) (v : Val) → ((t : ℕ) → f.kind ≡ kind.Message t → ⊥)
    → shown shape (presence_by f.presence f.kind Singular) f.kind (Some v) ≡ Some v → IsShown shape f v
visible shape f v n h = shown_singular shape f v (ap (λ p. shown shape p f.kind (Some v)) (sym (presence_is f.presence f.kind n)) ∙ h)

-- ---- all contents

module _ (shape : Shape) where
  -- what a field of the cardinality has
  abbrev IsSoundBy : FieldShape → Cardinality → Val → Type 0
  IsSoundBy f c v =
      f.cardinality ≡ c → Fits shape v (target_by f c) → shown shape (presence_by f.presence f.kind c) f.kind (Some v) ≡ Some v
      → IsSoundAt shape (Some f) v

  number_sound : (f : FieldShape) (z : ℤ) (c : Cardinality) → IsSoundBy f c (content.number z)
  number_sound f z Singular e h s = (e, visible shape f (content.number z) (no_number f.kind z h.0) s, h.0)
  number_sound f z Repeated e h s = absurd h
  number_sound f z (Map k) e h s = absurd h

  truth_sound : (f : FieldShape) (b : Bool) (c : Cardinality) → IsSoundBy f c (content.truth b)
  truth_sound f b Singular e h s = (e, visible shape f (content.truth b) (λ t q. absurd (cc)) s, h)
  truth_sound f b Repeated e h s = absurd h
  truth_sound f b (Map k) e h s = absurd h

  text_sound : (f : FieldShape) (x : List ℕ) (c : Cardinality) → IsSoundBy f c (content.text x)
  text_sound f x Singular e h s =
      let is : f.kind ≡ kind.String = h.0 in
      (e, visible shape f (content.text x) (λ t q. absurd (cc)) s, is, h.1)
  text_sound f x Repeated e h s = absurd h
  text_sound f x (Map k) e h s = absurd h

  octets_sound : (f : FieldShape) (x : List ℕ) (c : Cardinality) → IsSoundBy f c (content.octets x)
  octets_sound f x Singular e h s =
      let is : f.kind ≡ kind.Bytes = h.0 in
      (e, visible shape f (content.octets x) (λ t q. absurd (cc)) s, is)
  octets_sound f x Repeated e h s = absurd h
  octets_sound f x (Map k) e h s = absurd h

  message_sound : (f : FieldShape) (m : Content) → ((t : ℕ) → FitsAs shape m t → IsSound shape t m) → (c : Cardinality) → IsSoundBy f c (content.message m)
  message_sound f m ih Singular e h s = (e, (h.0, h.1, ih h.0 h.2))
  message_sound f m ih Repeated e h s = absurd h
  message_sound f m ih (Map k) e h s = absurd h

  many_sound : (f : FieldShape) (vs : Vals) → ((k : Kind) → AllFit shape vs k → AreElements shape k vs) → (c : Cardinality) → IsSoundBy f c (content.many vs)
  many_sound f vs ih Repeated e h s = (e, h.0, ih f.kind h.1)
  many_sound f vs ih Singular e h s = absurd h
  many_sound f vs ih (Map k) e h s = absurd h

  keyed_sound : (f : FieldShape) (ps : Pairs) → ((kk vk : Kind) → PairsFit shape ps kk vk → ArePairs shape kk vk ps) → (c : Cardinality)
      → IsSoundBy f c (content.keyed ps)
  keyed_sound f ps ih (Map k) e h s = (h.0, (k, e, ih k f.kind h.1))
  keyed_sound f ps ih Singular e h s = absurd h
  keyed_sound f ps ih Repeated e h s = absurd h

  nothing_kept : (gs : List FieldShape) (kept : List Rec) → kept ≡ [] → AreKept gs kept
  nothing_kept gs kept e = let P : List Rec → Type 0 = λ k. AreKept gs k in subst P (sym e) (record { unread = refl; numbered = refl; fit = refl })

  option_sound : (v : Val) (o p : Option FieldShape) → p ≡ o → ((f : FieldShape) → FitsOption shape v (Fits shape v) (Some f) → IsSoundAt shape (Some f) v)
      → FitsOption shape v (Fits shape v) o → IsSoundAt shape p v
  option_sound v None p e ih h = absurd h
  option_sound v (Some f) p e ih h = let P : Option FieldShape → Type 0 = λ x. IsSoundAt shape x v in subst P (sym e) (ih f h)

  mutual
    pub content_sound : (c : Content) (t : ℕ) → FitsAs shape c t → IsSound shape t c
    content_sound (content.content fs kept) t h = (
      h.2,
      fields_sound fs (declared_of shape t) h.4,
      one_member (declared_of shape t) fs h.3,
      nothing_kept (fields_of shape t) kept h.0,
    )

    fields_sound : (fs : Fields) (gs : List FieldShape) → FieldsFit shape fs gs → AreSound shape (by_number gs) fs
    fields_sound content.no_fields gs h = tt
    fields_sound (content.field n v fs) gs h =
        (option_sound v (field_of n gs) (field_of n (by_number gs)) (field_of-by_number n gs) (value_sound v) h.0, fields_sound fs gs h.1)

    value_sound : (v : Val) (f : FieldShape) → FitsOption shape v (Fits shape v) (Some f) → IsSoundAt shape (Some f) v
    value_sound (content.number z) f h = number_sound f z f.cardinality refl h.0 h.1
    value_sound (content.truth b) f h = truth_sound f b f.cardinality refl h.0 h.1
    value_sound (content.text s) f h = text_sound f s f.cardinality refl h.0 h.1
    value_sound (content.octets s) f h = octets_sound f s f.cardinality refl h.0 h.1
    value_sound (content.message c) f h = message_sound f c (content_sound c) f.cardinality refl h.0 h.1
    value_sound (content.many vs) f h = many_sound f vs (elements_sound vs) f.cardinality refl h.0 h.1
    value_sound (content.keyed ps) f h = keyed_sound f ps (pairs_sound ps) f.cardinality refl h.0 h.1

    element_sound : (v : Val) (k : Kind) → Fits shape v (single k) → IsElement shape k v
    element_sound (content.number z) k h = h.0
    element_sound (content.truth b) k h = h
    element_sound (content.text s) k h = h
    element_sound (content.octets s) k h = h.0
    element_sound (content.message c) k h = (h.0, h.1, content_sound c h.0 h.2)
    element_sound (content.many vs) k h = absurd h
    element_sound (content.keyed ps) k h = absurd h

    elements_sound : (vs : Vals) (k : Kind) → AllFit shape vs k → AreElements shape k vs
    elements_sound content.no_vals k h = tt
    elements_sound (content.val v vs) k h = (element_sound v k h.0, elements_sound vs k h.1)

    pairs_sound : (ps : Pairs) (kk vk : Kind) → PairsFit shape ps kk vk → ArePairs shape kk vk ps
    pairs_sound content.no_pairs kk vk h = tt
    pairs_sound (content.pair l v ps) kk vk h = (h.0, element_sound v vk h.1, h.2, pairs_sound ps kk vk h.3)

pub stands_sound : StandsSound
stands_sound shape t allow tree c proper well texts h = content_sound shape c t (standing_fits shape t allow tree c proper well texts h)
