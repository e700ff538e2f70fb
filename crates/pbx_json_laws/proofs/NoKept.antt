-- A content that was read keeps no records, at any depth.
use Rattle.std.proofs.Common.{ℕ, List, Option, Some, None}
use Rattle.pbx_json_payload_laws.specs.Inside.{HasNoKept, FieldsHaveNoKept, ValHasNoKept, ValsHaveNoKept, PairsHaveNoKept}
use Rattle.pbx_content.specs.Content as content
use Rattle.pbx_content.specs.Content.{Content, Fields, Val, Vals, Pairs}
use Rattle.pbx_content.specs.Shape.{declared_of, field_of}
use Rattle.pbx_content.specs.declared.shape.Kind.{Kind}
use Rattle.pbx_content.specs.declared.shape.FieldShape.{FieldShape}
use Rattle.pbx_content.specs.declared.shape.Shape.{Shape}
use Rattle.pbx_json_meaning.specs.Asked.{Target, nothing, single, list, map, target_by}
use Rattle.pbx_json_laws.proofs.Fits.{Fits, FitsAs, FieldsFit, AllFit, PairsFit, FitsOption}

module _ (shape : Shape) where
  option_kept : (v : Val) (o : Option FieldShape) → ((at : Target) → Fits shape v at → ValHasNoKept v) → FitsOption shape v (Fits shape v) o → ValHasNoKept v
  option_kept v None ih h = absurd h
  option_kept v (Some f) ih h = ih (target_by f f.cardinality) h.0

  mutual
    pub fits_kept : (c : Content) (t : ℕ) → FitsAs shape c t → HasNoKept c
    fits_kept (content.content fs kept) t h = (fields_kept fs (declared_of shape t) h.4, h.0)

    fields_kept : (fs : Fields) (gs : List FieldShape) → FieldsFit shape fs gs → FieldsHaveNoKept fs
    fields_kept content.no_fields gs h = tt
    fields_kept (content.field n v fs) gs h = (option_kept v (field_of n gs) (value_kept v) h.0, fields_kept fs gs h.1)

    value_kept : (v : Val) (at : Target) → Fits shape v at → ValHasNoKept v
    value_kept (content.number z) at h = tt
    value_kept (content.truth b) at h = tt
    value_kept (content.text s) at h = tt
    value_kept (content.octets b) at h = tt
    value_kept (content.message c) (single k) h = fits_kept c h.0 h.2
    value_kept (content.message c) nothing h = absurd h
    value_kept (content.message c) (list k) h = absurd h
    value_kept (content.message c) (map kk vk) h = absurd h
    value_kept (content.many vs) (list k) h = elements_kept vs k h.1
    value_kept (content.many vs) nothing h = absurd h
    value_kept (content.many vs) (single k) h = absurd h
    value_kept (content.many vs) (map kk vk) h = absurd h
    value_kept (content.keyed ps) (map kk vk) h = pairs_kept ps kk vk h.1
    value_kept (content.keyed ps) nothing h = absurd h
    value_kept (content.keyed ps) (single k) h = absurd h
    value_kept (content.keyed ps) (list k) h = absurd h

    elements_kept : (vs : Vals) (k : Kind) → AllFit shape vs k → ValsHaveNoKept vs
    elements_kept content.no_vals k h = tt
    elements_kept (content.val v vs) k h = (value_kept v (single k) h.0, elements_kept vs k h.1)

    pairs_kept : (ps : Pairs) (kk vk : Kind) → PairsFit shape ps kk vk → PairsHaveNoKept ps
    pairs_kept content.no_pairs kk vk h = tt
    pairs_kept (content.pair l v ps) kk vk h = (value_kept v (single vk) h.1, pairs_kept ps kk vk h.3)
