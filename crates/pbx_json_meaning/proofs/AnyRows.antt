-- Worked rows of messages of `google.protobuf.Any` (google/protobuf/any.proto; ProtoJSON Format: Any).
use Rattle.std.proofs.Common.{◌≡◌, pos, List, [], ◌∷◌, true, false, ℕ, Some, codes, refl, inl, inr}
use Rattle.serde_json.specs.Data.{Data, string, null, boolean, object, no_members, member}
use Rattle.pbx_content.specs.Content as content
use Rattle.pbx_content.specs.Content.{Content}
use Rattle.pbx_content.specs.Meaning.{meaning}
use Rattle.pbx_wire.specs.Reading.{body_at, items_at, item_at, key_at, varint_at, keyed_at, value_at}
use Rattle.pbx_wkt_types.specs.Known.{known_of}
use Rattle.pbx_wkt_types.specs.Shapes.{form_of, is_as_declared}
use Rattle.pbx_json_meaning.specs.Options.{default_writing}
use Rattle.pbx_json_meaning.specs.Stands.{content_for}
use Rattle.pbx_json_meaning.specs.Faults.{JsonFault}
use Rattle.pbx_json_meaning.specs.Forms.{packed}
use Rattle.pbx_json_meaning.specs.Fits.{fits, decodes_within}
use Rattle.pbx_json_meaning.specs.Canonical.{canonical, payload_tree}
use Rattle.pbx_json_meaning.specs.WriteFaults.{WriteFault}
use Rattle.pbx_json_meaning.specs.declared.kind.JsonKind.TheVariants as fault
use Rattle.pbx_json_meaning.specs.declared.place.Step.TheVariants.{Key}
use Rattle.pbx_json_meaning.proofs.Rows.{pool, int, one_key, two_keys}

-- an `Any` names a type, behind a `/`
row_any_empty : JsonFault pool 15 false (object no_members) [] fault.AnyType
unfolding form_of known_of is_as_declared
row_any_empty = refl

row_any_no_slash : JsonFault pool 15 false (one_key (codes "@type") (string (codes "M"))) [] fault.AnyType
unfolding form_of known_of is_as_declared
row_any_no_slash = refl

row_any_no_text : JsonFault pool 15 false (one_key (codes "@type") (int 1)) [] fault.AnyType
unfolding form_of known_of is_as_declared
row_any_no_text = refl

row_any_no_object : JsonFault pool 15 false (string (codes "/M")) [] fault.WrongKind
unfolding form_of known_of is_as_declared
row_any_no_object = refl

-- the fields of an ordinary payload stand beside `@type`
abbrev any_m : List ℕ → Content
any_m bytes = content.content (content.field 1 (content.text (codes "/M")) (content.field 2 (content.octets bytes) content.no_fields)) []

row_any_message : content_for pool 15 false (two_keys (codes "@type") (string (codes "/M")) (codes "foo") (int 150))
    ≡ Some (packed pool 15 (codes "/M") 0 (content.content (content.field 1 (content.number (pos 150)) content.no_fields) []))
unfolding form_of known_of is_as_declared
row_any_message = refl

row_any_unknown : JsonFault pool 15 false (two_keys (codes "@type") (string (codes "/M")) (codes "value") (int 1)) (Key (codes "value") ∷ []) fault.UnknownField
unfolding form_of known_of is_as_declared
row_any_unknown = inl (refl, refl, (refl, refl))

row_any_message_written : canonical pool 15 (any_m (8 ∷ 150 ∷ 1 ∷ [])) default_writing
    ≡ Some (two_keys (codes "@type") (string (codes "/M")) (codes "foo") (int 150))
unfolding form_of known_of is_as_declared payload_tree meaning body_at items_at item_at key_at varint_at keyed_at value_at
row_any_message_written = refl

row_any_payload : WriteFault pool 15 (any_m (8 ∷ [])) default_writing [] fault.AnyPayload
unfolding form_of known_of is_as_declared meaning body_at items_at item_at key_at varint_at keyed_at value_at
row_any_payload = refl

row_any_payload_fits : fits pool 15 (any_m (8 ∷ [])) ≡ false
unfolding form_of known_of is_as_declared decodes_within meaning body_at items_at item_at key_at varint_at keyed_at value_at
row_any_payload_fits = refl

row_any_untyped : WriteFault pool 15 content.empty default_writing [] fault.AnyType
unfolding form_of known_of is_as_declared
row_any_untyped = refl

-- a payload without a type is none
row_any_untyped_fits : fits pool 15 content.empty ≡ true
unfolding form_of known_of is_as_declared
row_any_untyped_fits = refl

-- a well-known payload stands under `value`
abbrev any_wrapped : Data → Data
any_wrapped d = two_keys (codes "@type") (string (codes "/google.protobuf.Int64Value")) (codes "value") d

row_any_value : content_for pool 15 false (any_wrapped (string (codes "7")))
    ≡ Some (packed pool 15 (codes "/google.protobuf.Int64Value") 12 (content.content (content.field 1 (content.number (pos 7)) content.no_fields) []))
unfolding form_of known_of is_as_declared
row_any_value = refl

row_any_no_value : JsonFault pool 15 false (one_key (codes "@type") (string (codes "/google.protobuf.Int64Value"))) [] fault.AnyValue
unfolding form_of known_of is_as_declared
row_any_no_value = refl

row_any_below : JsonFault pool 15 false (any_wrapped (boolean true)) (Key (codes "value") ∷ []) fault.WrongKind
unfolding form_of known_of is_as_declared
row_any_below = inr refl

-- null is no value of a wrapper here
row_any_null : JsonFault pool 15 false (any_wrapped null) (Key (codes "value") ∷ []) fault.WrongKind
unfolding form_of known_of is_as_declared
row_any_null = inr refl

-- an extra key, which stands before `value`
abbrev any_extra : Data
any_extra =
    object (member (codes "@type") (string (codes "/google.protobuf.Int64Value")) (member (codes "a") null (member (codes "value") (int 7) no_members)))

row_any_extra : JsonFault pool 15 false any_extra (Key (codes "a") ∷ []) fault.UnknownField
unfolding form_of known_of is_as_declared
row_any_extra = inl (refl, refl, (refl, refl))

row_any_extra_allowed : content_for pool 15 true any_extra
    ≡ Some (packed pool 15 (codes "/google.protobuf.Int64Value") 12 (content.content (content.field 1 (content.number (pos 7)) content.no_fields) []))
unfolding form_of known_of is_as_declared
row_any_extra_allowed = refl

-- a payload of a well-known name without its shape
row_any_misshapen : JsonFault pool 15 false (two_keys (codes "@type") (string (codes "/google.protobuf.Duration")) (codes "value") (string (codes "1s")))
    (Key (codes "value") ∷ []) fault.Shape
unfolding form_of known_of is_as_declared
row_any_misshapen = inr refl

-- an `Any` in an `Any`
abbrev any_in_any : Data
any_in_any =
    two_keys (codes "@type") (string (codes "/google.protobuf.Any")) (codes "value") (two_keys (codes "@type") (string (codes "/M")) (codes "foo") (int 7))

row_any_in_any : content_for pool 15 false any_in_any
    ≡ Some (packed pool 15 (codes "/google.protobuf.Any") 15
    (packed pool 15 (codes "/M") 0 (content.content (content.field 1 (content.number (pos 7)) content.no_fields) [])))
unfolding form_of known_of is_as_declared
row_any_in_any = refl
