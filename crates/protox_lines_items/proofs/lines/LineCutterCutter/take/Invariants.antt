use Rattle.std.proofs.Common.{◌≤◌, ◌-◌, ◌++◌, ℕ, List, length, take}
use Rattle.protox_lines_items.specs.Lines.{LineStands}
use Rattle.protox_lines_items.proofs.lines.LineCutterCutter.take.Given as goal

abbrev pub invariant-cutting : goal.invariant-cutting
invariant-cutting l = record {
  within : l.count ≤ length l.bytes;
  -- the bytes that were taken ended no item
  stands : (read : List ℕ) (items : List (List ℕ)) → LineStands l.fn.self read items → LineStands l.self (read ++ take l.count l.bytes) items;
}

abbrev pub decreases-cutting : goal.decreases-cutting
decreases-cutting l = length l.bytes - l.count
