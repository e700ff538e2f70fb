-- The bytes of a text, short or long.
use Rattle.std.specs.Prelude.{ℕ, List, string_bytes}
use Rattle.pbx_wire.specs.declared.text.Body.{Body}
use Rattle.pbx_wire.specs.declared.text.Body.TheVariants as body

abbrev pub body_bytes : Body → List ℕ
body_bytes (body.Short s) = s.bytes
body_bytes (body.Long s) = string_bytes s
