-- A value that is read for a kind is of the kind, and a key that is read is of the kind of keys.
use Rattle.std.proofs.Common.{◌≡◌, ℕ, ℤ, List, Bool, true, Some, refl}
use Rattle.std.specs.Prelude.{Result, Ok}
use Rattle.std.specs.Str.{is_utf8}
use Rattle.base64.specs.GeneralPurpose.{IsBytes}
use Rattle.serde_json.specs.Data.{Data, string}
use Rattle.pbx_content.specs.Content as content
use Rattle.pbx_content.specs.Content.{Val, Key, number_key, truth_key, text_key}
use Rattle.pbx_content.specs.Shape.{is_key_kind}
use Rattle.pbx_content.specs.Sound.{IsNumber, IsKeyOf}
use Rattle.pbx_content.specs.declared.shape.Kind.{Kind}
use Rattle.pbx_content.specs.declared.shape.Kind.TheVariants as kind
use Rattle.pbx_content.specs.declared.shape.Shape.{Shape}
use Rattle.pbx_json_meaning.specs.Asked.{single}
use Rattle.pbx_json_meaning.specs.Named.{IsWellNamed}
use Rattle.pbx_json_meaning.specs.Scalars.{Family, integers, truths, texts, bytes_texts, floats, messages, enums, family, integer_read}
use Rattle.pbx_json_meaning.specs.Scalars.{scalar_read, word_read, key_of, key_read}
use Rattle.pbx_json_meaning.specs.Trees.{HasTexts}
use Rattle.pbx_json_meaning.specs.declared.kind.JsonKind.{JsonKind}
use Rattle.pbx_json_laws.proofs.Fits.{Fits, IsNull}
use Rattle.pbx_json_laws.proofs.FitScalars.{IsOf, IsOfFamily, number_of_kind, integer_lies, family_fits}
use Rattle.pbx_json_laws.proofs.Parts.{from_if_ok}

module _ (shape : Shape) where
  number_fits : (k : Kind) (z : ℤ) → IsOfFamily shape (family k) (content.number z) → IsNumber k z × IsNull shape k z
  number_fits (kind.Enum e) z h = (h.0, h.1)
  number_fits kind.Int32 z h = (number_of_kind kind.Int32 z h, tt)
  number_fits kind.Sint32 z h = (number_of_kind kind.Sint32 z h, tt)
  number_fits kind.Sfixed32 z h = (number_of_kind kind.Sfixed32 z h, tt)
  number_fits kind.Int64 z h = (number_of_kind kind.Int64 z h, tt)
  number_fits kind.Sint64 z h = (number_of_kind kind.Sint64 z h, tt)
  number_fits kind.Sfixed64 z h = (number_of_kind kind.Sfixed64 z h, tt)
  number_fits kind.Uint32 z h = (number_of_kind kind.Uint32 z h, tt)
  number_fits kind.Fixed32 z h = (number_of_kind kind.Fixed32 z h, tt)
  number_fits kind.Uint64 z h = (number_of_kind kind.Uint64 z h, tt)
  number_fits kind.Fixed64 z h = (number_of_kind kind.Fixed64 z h, tt)
  number_fits _ z h = absurd h

  truth_kind : (k : Kind) (b : Bool) → IsOfFamily shape (family k) (content.truth b) → k ≡ kind.Bool
  truth_kind kind.Bool b h = refl
  truth_kind _ b h = absurd h

  text_kind : (k : Kind) (s : List ℕ) → IsOfFamily shape (family k) (content.text s) → (k ≡ kind.String) × (is_utf8 s ≡ true)
  text_kind kind.String s h = (refl, h)
  text_kind _ s h = absurd h

  bytes_kind : (k : Kind) (s : List ℕ) → IsOfFamily shape (family k) (content.octets s) → (k ≡ kind.Bytes) × IsBytes s
  bytes_kind kind.Bytes s h = (refl, h)
  bytes_kind _ s h = absurd h

  no_message : (k : Kind) (c : content.Content) → IsOfFamily shape (family k) (content.message c) → ⊥
  no_message kind.Int32 c h = h
  no_message _ c h = h

  no_many : (k : Kind) (vs : content.Vals) → IsOfFamily shape (family k) (content.many vs) → ⊥
  no_many kind.Int32 vs h = h
  no_many _ vs h = h

  no_keyed : (k : Kind) (ps : content.Pairs) → IsOfFamily shape (family k) (content.keyed ps) → ⊥
  no_keyed kind.Int32 ps h = h
  no_keyed _ ps h = h

  kind_fits : (k : Kind) (v : Val) → IsOfFamily shape (family k) v → Fits shape v (single k)
  kind_fits k (content.number z) h = number_fits k z h
  kind_fits k (content.truth b) h = truth_kind k b h
  kind_fits k (content.text s) h = text_kind k s h
  kind_fits k (content.octets s) h = bytes_kind k s h
  kind_fits k (content.message c) h = absurd (no_message k c h)
  kind_fits k (content.many vs) h = absurd (no_many k vs h)
  kind_fits k (content.keyed ps) h = absurd (no_keyed k ps h)

pub scalar_fits : (shape : Shape) → IsWellNamed shape → (allow : Bool) (k : Kind) (d : Data) (v : Val) → HasTexts d
    → scalar_read shape allow k d ≡ Ok (Some v) → Fits shape v (single k)
scalar_fits shape well allow k d v t h = kind_fits shape k v (family_fits shape well allow (family k) d v t h)

-- ---- keys

-- what a key is by the family of its kind
abbrev IsKeyIn : Family → List ℕ → Key → Type 0
IsKeyIn (integers min max) s l = (z : ℤ) × (number_key z ≡ l) × IsOf (integers min max) z
IsKeyIn truths s l = (b : Bool) × (truth_key b ≡ l)
IsKeyIn _ s l = text_key s ≡ l

abbrev key_result : Key → Result Key JsonKind
key_result l = Ok l

key_from : (k l : Key) → key_result k ≡ key_result l → k ≡ l
key_from k l e = cc

key_in : (f : Family) (s : List ℕ) (l : Key) → key_of f s ≡ Ok l → IsKeyIn f s l
key_in (integers min max) s l h =
    let it = from_if_ok (integer_read min max (string s)) (λ z. Ok (number_key z)) l h in
    (it.0, (let e : key_result (number_key it.0) ≡ key_result l = it.2 in key_from (number_key it.0) l e), integer_lies min max (string s) it.0 it.1)
key_in truths s l h =
    let it = from_if_ok (word_read s) (λ b. Ok (truth_key b)) l h in
    (it.0, (let e : key_result (truth_key it.0) ≡ key_result l = it.2 in key_from (truth_key it.0) l e))
key_in texts s l h = cc
key_in bytes_texts s l h = cc
key_in floats s l h = cc
key_in (messages t) s l h = cc
key_in (enums e) s l h = cc

key_of_kind : (k : Kind) (s : List ℕ) (l : Key) → is_key_kind k ≡ true → is_utf8 s ≡ true → IsKeyIn (family k) s l → IsKeyOf k l
key_of_kind kind.Bool s l good t h = rw (← h.1) tt
key_of_kind kind.String s l good t h = rw (← h) t
key_of_kind kind.Int32 s l good t h = rw (← h.1) (number_of_kind kind.Int32 h.0 h.2)
key_of_kind kind.Sint32 s l good t h = rw (← h.1) (number_of_kind kind.Sint32 h.0 h.2)
key_of_kind kind.Sfixed32 s l good t h = rw (← h.1) (number_of_kind kind.Sfixed32 h.0 h.2)
key_of_kind kind.Int64 s l good t h = rw (← h.1) (number_of_kind kind.Int64 h.0 h.2)
key_of_kind kind.Sint64 s l good t h = rw (← h.1) (number_of_kind kind.Sint64 h.0 h.2)
key_of_kind kind.Sfixed64 s l good t h = rw (← h.1) (number_of_kind kind.Sfixed64 h.0 h.2)
key_of_kind kind.Uint32 s l good t h = rw (← h.1) (number_of_kind kind.Uint32 h.0 h.2)
key_of_kind kind.Fixed32 s l good t h = rw (← h.1) (number_of_kind kind.Fixed32 h.0 h.2)
key_of_kind kind.Uint64 s l good t h = rw (← h.1) (number_of_kind kind.Uint64 h.0 h.2)
key_of_kind kind.Fixed64 s l good t h = rw (← h.1) (number_of_kind kind.Fixed64 h.0 h.2)
key_of_kind kind.Double s l good t h = absurd (cc)
key_of_kind kind.Float s l good t h = absurd (cc)
key_of_kind kind.Bytes s l good t h = absurd (cc)
key_of_kind (kind.Message m) s l good t h = absurd (cc)
key_of_kind (kind.Enum e) s l good t h = absurd (cc)

pub key_fits : (k : Kind) (s : List ℕ) (l : Key) → is_key_kind k ≡ true → is_utf8 s ≡ true → key_read k s ≡ Ok l → IsKeyOf k l
key_fits k s l good t h = key_of_kind k s l good t (key_in (family k) s l h)
