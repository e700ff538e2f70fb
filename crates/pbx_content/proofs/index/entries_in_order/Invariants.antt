use Rattle.std.proofs.Common.{◌≡◌, take}
use Rattle.pbx_content.specs.Index.{numbered}
use Rattle.pbx_content.proofs.index.entries_in_order.Given as goal

abbrev pub invariant-loop-place : goal.invariant-loop-place
invariant-loop-place l = l.entries.items ≡ numbered 0 (take l.place l.fields)
