use Rattle.std.proofs.Common.{◌≡◌, ◌≤◌, length, take}
use Rattle.pbx_text.specs.Base64.{without_padding}
use Rattle.pbx_text.proofs.base_64.unpadded.Given as goal

abbrev pub invariant-loop-end : goal.invariant-loop-end
invariant-loop-end l = record {
  is : without_padding (take l.end l.text) ≡ without_padding l.text;
  within : l.end ≤ length l.text;
}

abbrev pub decreases-loop-end : goal.decreases-loop-end
decreases-loop-end l = l.end
