use Rattle.std.proofs.Common.{◌≤◌, max, map, drop}
use Rattle.pbx_content.specs.Content.{vals_of}
use Rattle.pbx_content.specs.Sound.{vals_depth}
use Rattle.pbx_message_dynamic.specs.Values.{val_of_value}
use Rattle.pbx_message_dynamic.proofs.levels.list_levels.Given as goal

abbrev pub invariant-loop-value : goal.invariant-loop-value
invariant-loop-value l =
    (vals_depth (vals_of (map val_of_value l.fn.values))
    ≤ max l.deepest (vals_depth (vals_of (map val_of_value (drop l.value-index l.fn.values)))))
    × (l.deepest ≤ 1024)
