use Rattle.std.proofs.Common.{◌≡◌, ◌-◌, ◌^◌, min, max, map, drop}
use Rattle.pbx_content.specs.Content.{vals_of, pairs_of}
use Rattle.pbx_content.specs.Sound.{fields_depth, vals_depth, pairs_depth}
use Rattle.pbx_content_codec.specs.View.{val_of, pair_of, entry_of, fields_in}
use Rattle.pbx_content_codec.proofs.levels.+levels.Given as goal

abbrev pub invariant-fields_depth-loop-field : goal.invariant-fields_depth-loop-field
invariant-fields_depth-loop-field l =
    min (fields_depth (fields_in (map entry_of l.field-items))) (2 ^ 32 - 1)
    ≡ max l.deepest (min (fields_depth (fields_in (map entry_of (drop l.field-index l.field-items)))) (2 ^ 32 - 1))

abbrev pub invariant-many_depth-loop-held : goal.invariant-many_depth-loop-held
invariant-many_depth-loop-held l =
    min (vals_depth (vals_of (map val_of l.held-items))) (2 ^ 32 - 1)
    ≡ max l.deepest (min (vals_depth (vals_of (map val_of (drop l.held-index l.held-items)))) (2 ^ 32 - 1))

abbrev pub invariant-pairs_depth-loop-pair : goal.invariant-pairs_depth-loop-pair
invariant-pairs_depth-loop-pair l =
    min (pairs_depth (pairs_of (map pair_of l.pair-items))) (2 ^ 32 - 1)
    ≡ max l.deepest (min (pairs_depth (pairs_of (map pair_of (drop l.pair-index l.pair-items)))) (2 ^ 32 - 1))
