use Rattle.std.proofs.Common.{◌≡◌, map}
use Rattle.pbx_content.specs.Content.{pairs_of, by_key}
use Rattle.pbx_content_codec.specs.View.{pair_of}
use Rattle.pbx_json_reading.proofs.entries.by_key.Given as goal

abbrev pub invariant-loop-pair : goal.invariant-loop-pair
invariant-loop-pair l = pairs_of (map pair_of l.sorted) ≡ by_key (map pair_of l.yielded)
