use Rattle.std.proofs.Common.{◌≡◌, ◌++◌, drop, string_bytes}
use Rattle.std.specs.List.{flat_map}
use Rattle.pbx_parse_translation.specs.Texts.{escape, escaped}
use Rattle.pbx_parse_translation.proofs.texts.escaped.Given as goal

abbrev pub invariant-each : goal.invariant-each
invariant-each l = string_bytes l.text ++ flat_map escape (drop l.b-index l.bytes) ≡ escaped l.bytes
