use Rattle.std.proofs.Common.{◌≡◌, ◌≤◌, ℤ, length, drop}
use Rattle.pbx_json_meaning.specs.Canonical.{value_of_number}
use Rattle.pbx_json_writing.specs.Indexes.{value_at}
use Rattle.pbx_json_writing.proofs.enums.index_of.Given as goal

abbrev pub invariant-loop-left : goal.invariant-loop-left
invariant-loop-left l = record {
  within : l.left ≤ length l.values;
  so : (z : ℤ) → value_at l.values l.index z ≡ value_of_number z (drop l.left l.values);
}

abbrev pub decreases-loop-left : goal.decreases-loop-left
decreases-loop-left l = l.left
