use Rattle.std.proofs.Common.{◌≡◌, ◌++◌, drop}
use Rattle.pbx_parse_tree.specs.View.{body_of}
use Rattle.pbx_parse_translation.specs.Messages.{nested_types}
use Rattle.pbx_parse_translation.proofs.messages.+nested_types.Given as goal

abbrev pub invariant-each : goal.invariant-each
invariant-each l = l.records ++ nested_types l.version (body_of (drop l.item-index l.item-items)) ≡ nested_types l.version (body_of l.item-items)
