use Rattle.std.proofs.Common.{◌≡◌, map, take}
use Rattle.std.specs.List.{filter_map}
use Rattle.pbx_parse_tree.specs.View.{setting_of}
use Rattle.pbx_parse_tree.proofs.statements.set_among.Given as goal

abbrev pub invariant-each : goal.invariant-each
invariant-each g l = map setting_of l.all.items ≡ filter_map g.T.HasSetting.set (take l.item-index l.items)
