-- Messages whose payloads are read again, and that nest no deeper than is read (Protocol Buffers "Proto Limits": readers limit how deep messages nest).
use Rattle.std.specs.Prelude.{ℕ, zero, suc, nat_le, List, [], ◌∷◌, ◌++◌, length, Bool, false, ◌&&◌, Option, Some, None}
use Rattle.std.specs.List.{list_all}
use Rattle.pbx_content.specs.Content as content
use Rattle.pbx_content.specs.Content.{Content, Fields, no_fields, field as field_of_number, Val, Vals, no_vals, val, Pairs, no_pairs, pair, get}
use Rattle.pbx_content.specs.declared.shape.Kind.{Kind}
use Rattle.pbx_content.specs.declared.shape.Shape.{Shape}
use Rattle.pbx_content.specs.declared.shape.FieldShape.{FieldShape}
use Rattle.pbx_content.specs.Shape.{fields_of, field_of}
use Rattle.pbx_content.specs.Encoding.{type_of}
use Rattle.pbx_content.specs.Sound.{depth}
use Rattle.pbx_content.specs.Meaning.{meaning_of}
use Rattle.pbx_wkt_types.specs.Shapes.{form_of}
use Rattle.pbx_wkt_types.specs.declared.form.Form.{Form}
use Rattle.pbx_wkt_types.specs.declared.form.Form.TheVariants as forms
use Rattle.pbx_json_meaning.specs.Urls.{type_of_url}
use Rattle.pbx_json_meaning.specs.Forms.{kind_in, text_at, bytes_at}

-- the type of a payload, and its bytes
pub record Payload : Type 0 where
  pub type_at : ℕ
  pub bytes : List ℕ

-- the payload of the type that the URL names, if there is one
abbrev pub payload_with : List ℕ → Option ℕ → List Payload
payload_with bytes None = []
payload_with bytes (Some u) = record { type_at = u; bytes = bytes } ∷ []

-- the payload of a message of a form: of an `Any` whose URL names a message of the shape
abbrev pub payload_by : Shape → Form → Fields → List Payload
payload_by shape forms.Any fs = payload_with (bytes_at (get 2 fs)) (type_of_url shape (text_at (get 1 fs)))
payload_by shape _ fs = []

abbrev mutual
  -- the payloads of a message and of all messages inside it
  pub payloads : Shape → Content → ℕ → List Payload
  payloads shape (content.content fs kept) t = payload_by shape (form_of shape t) fs ++ fields_payloads shape (fields_of shape t) fs

  -- those of the fields' values
  pub fields_payloads : Shape → List FieldShape → Fields → List Payload
  fields_payloads shape gs no_fields = []
  fields_payloads shape gs (field_of_number n v fs) = val_payloads shape v (kind_in (field_of n gs)) ++ fields_payloads shape gs fs

  -- those of a value of a kind
  pub val_payloads : Shape → Val → Kind → List Payload
  val_payloads shape (content.number z) k = []
  val_payloads shape (content.truth b) k = []
  val_payloads shape (content.text s) k = []
  val_payloads shape (content.octets b) k = []
  val_payloads shape (content.message c) k = payloads shape c (type_of k)
  val_payloads shape (content.many vs) k = vals_payloads shape vs k
  val_payloads shape (content.keyed ps) k = pairs_payloads shape ps k

  -- those of the elements
  pub vals_payloads : Shape → Vals → Kind → List Payload
  vals_payloads shape no_vals k = []
  vals_payloads shape (val v vs) k = val_payloads shape v k ++ vals_payloads shape vs k

  -- those of the values of entries
  pub pairs_payloads : Shape → Pairs → Kind → List Payload
  pairs_payloads shape no_pairs k = []
  pairs_payloads shape (pair l v ps) k = val_payloads shape v k ++ pairs_payloads shape ps k

-- the payloads of what was decoded, if anything was, pass the test
abbrev pub decoded_passes : Shape → (Payload → Bool) → ℕ → Option Content → Bool
decoded_passes shape passes u None = false
decoded_passes shape passes u (Some c) = list_all passes (payloads shape c u)

-- A payload decodes as its type, within 100 levels of its own, and so do the payloads inside it. Bytes inside a payload are shorter than it: `turns`
-- bounds how deep payloads stand, and one more than the payload's length is enough.
unfoldable pub decodes_within : Shape → ℕ → Payload → Bool
decodes_within shape zero p = false
decodes_within shape (suc turns) p = decoded_passes shape (decodes_within shape turns) p.type_at (meaning_of shape p.type_at p.bytes)

-- a payload decodes, and so do those inside it
abbrev pub payload_fits : Shape → Payload → Bool
payload_fits shape p = decodes_within shape (suc (length p.bytes)) p

-- each payload in a content of the type decodes
abbrev pub payloads_fit : Shape → ℕ → Content → Bool
payloads_fit shape t c = list_all (payload_fits shape) (payloads shape c t)

-- at most 100 levels stand below the top, and each payload decodes
abbrev pub fits : Shape → ℕ → Content → Bool
fits shape t c = nat_le (depth c) 100 && payloads_fit shape t c
