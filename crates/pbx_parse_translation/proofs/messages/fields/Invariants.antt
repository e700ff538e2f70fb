use Rattle.std.proofs.Common.{◌≡◌, ◌++◌, drop, map}
use Rattle.pbx_parse_tree.specs.View.{item_of}
use Rattle.pbx_parse_translation.specs.Messages.{fields_from}
use Rattle.pbx_parse_translation.proofs.messages.fields.Given as goal

abbrev pub invariant-each : goal.invariant-each
invariant-each l = l.all ++ fields_from l.version l.written l.synthetic (map item_of (drop l.item-index l.items)) ≡ fields_from l.version 0 l.oneofs (map item_of l.items)
