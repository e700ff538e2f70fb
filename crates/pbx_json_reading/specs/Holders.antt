-- What a message of a form of its own is read as, by what the reader keeps of it.
use Rattle.std.specs.Prelude.{Bool, true, false, Option, Some, None}
use Rattle.pbx_content.specs.Content.{Content, Val}
use Rattle.pbx_content.specs.declared.shape.Kind.TheVariants as kind
use Rattle.pbx_content.specs.declared.shape.Shape.{Shape}
use Rattle.pbx_content.specs.Shape.{declared_of}
use Rattle.pbx_content_codec.specs.View.{content_of}
use Rattle.pbx_wkt_types.specs.declared.form.Form.{Form}
use Rattle.pbx_wkt_types.specs.declared.form.Form.TheVariants as forms
use Rattle.pbx_json_meaning.specs.Forms as meaning
use Rattle.pbx_json_meaning.specs.Forms.{kind_at, holding, value_with, packed}
use Rattle.pbx_json_reading.specs.declared.holders.Own.{Own}
use Rattle.pbx_json_reading.specs.declared.holders.Own.TheVariants as own
use Rattle.pbx_json_reading.specs.declared.holders.Holder.{Holder}
use Rattle.pbx_json_reading.specs.declared.holders.Outer.{Outer}
use Rattle.pbx_json_reading.specs.declared.holders.Packing.{Packing}

-- messages of the form have trees with elements or members of any sort
abbrev pub has_any_parts : Form → Bool
has_any_parts forms.Struct = true
has_any_parts forms.ListValue = true
has_any_parts forms.Value = true
has_any_parts forms.Any = true
has_any_parts _ = false

-- the content, in the `Value` that holds it if there is one
abbrev pub in_outer : Shape → Option Outer → Content → Content
in_outer shape None c = c
in_outer shape (Some o) c = value_with shape o.place o.number c

-- the content of a list or a map, if it is present
abbrev pub held_in : Shape → Holder → Option Val → Content
held_in shape h o = in_outer shape h.outer (holding shape h.place 1 o)

-- the content of an `Any` with that of its payload
abbrev pub packed_by : Shape → Packing → Content → Content
packed_by shape p c = packed shape p.place p.url.now p.payload c

-- what is read: contents at once, a list, a map, or the payload of an `Any`
abbrev pub own_of : Shape → Own → meaning.Own
own_of shape (own.Whole c) = meaning.whole (content_of c)
own_of shape (own.Elements h) = meaning.a_list (kind_at shape h.place 1) (held_in shape h)
own_of shape (own.Members h) = meaning.a_map (kind_at shape h.place 1) (held_in shape h)
own_of shape (own.Beside p) = meaning.beside p.skips (declared_of shape p.payload) (packed_by shape p)
own_of shape (own.Under p) = meaning.under p.skips (kind.Message p.payload) (packed_by shape p)
