use Rattle.std.proofs.Common.{◌≡◌, ◌++◌, drop, map, string_bytes}
use Rattle.std.specs.List.{flat_map}
use Rattle.pbx_parse_tree.specs.View.{name_of, next_of, separated_of}
use Rattle.pbx_parse_translation.specs.Texts.{dotted, full_text}
use Rattle.pbx_parse_translation.proofs.texts.add_full_text.Given as goal

abbrev pub invariant-each : goal.invariant-each
invariant-each l = string_bytes l.text ++ flat_map dotted (map (next_of name_of) (drop l.name-index l.name-items)) ≡ string_bytes l.fn.text ++ full_text (separated_of name_of l.full)
