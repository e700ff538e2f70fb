use Rattle.std.proofs.Common.{◌≡◌, map, length}
use Rattle.pbx_parse_tree.specs.Conditions.{lacks as lacks_of}
use Rattle.pbx_parse_tree.specs.View.{setting_of}
use Rattle.pbx_parse_tree.proofs.conditions.lacks.Given as goal

abbrev pub invariant-scan : goal.invariant-scan
invariant-scan l = lacks_of l.fn.name (map setting_of l.rest) ≡ lacks_of l.fn.name (map setting_of l.settings)

abbrev pub decreases-scan : goal.decreases-scan
decreases-scan l = length l.rest
