use Rattle.std.proofs.Common.{◌≡◌, drop}
use Rattle.pbx_content.specs.Index.{are_good}
use Rattle.pbx_content.proofs.index.are_good.Given as goal

abbrev pub invariant-loop-field : goal.invariant-loop-field
invariant-loop-field l = are_good l.fields ≡ are_good (drop l.field-index l.fields)
