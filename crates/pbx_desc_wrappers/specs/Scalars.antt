-- What the messages hold that single values stand for: the wrappers of `google/protobuf/wrappers.proto`, each with the one field `value` of number 1.
use Rattle.std.specs.Prelude.{pos, Bool, false, not, [], length, ◌==◌, if◌then◌else◌}
use Rattle.std.specs.Ordering.{int_eq}
use Rattle.pbx_content.specs.Content.{Content, content, no_fields, field, empty, Val, number, truth, text, octets}

-- the default of its kind: 0, false, the empty text or no bytes (Protocol Buffers "Language Guide (proto 3)": Default Field Values)
abbrev pub is_zero : Val → Bool
is_zero (number z) = int_eq z (pos 0)
is_zero (truth b) = not b
is_zero (text s) = length s == 0
is_zero (octets b) = length b == 0
is_zero _ = false

-- the content of the wrapper of a value; a default is no value of the field (Protocol Buffers "Application Note: Field Presence")
abbrev pub wrapper_content : Val → Content
wrapper_content v = if is_zero v then empty else content (field 1 v no_fields) []
