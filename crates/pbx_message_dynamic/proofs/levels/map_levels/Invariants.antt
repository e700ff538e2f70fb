use Rattle.std.proofs.Common.{◌≤◌, max, map, drop}
use Rattle.pbx_content.specs.Content.{pairs_of}
use Rattle.pbx_content.specs.Sound.{pairs_depth}
use Rattle.pbx_message_dynamic.specs.Typed.{entry_of_value}
use Rattle.pbx_message_dynamic.proofs.levels.map_levels.Given as goal

abbrev pub invariant-loop-entry : goal.invariant-loop-entry
invariant-loop-entry l =
    (pairs_depth (pairs_of (map entry_of_value l.fn.entries))
    ≤ max l.deepest (pairs_depth (pairs_of (map entry_of_value (drop l.entry-index l.fn.entries)))))
    × (l.deepest ≤ 1024)
