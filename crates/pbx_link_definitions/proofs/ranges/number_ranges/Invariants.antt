use Rattle.std.proofs.Common.{◌≡◌, ◌++◌, ◌<◌, drop, get_or, pos, negsuc}
use mir.Val.{SFits}
use mir.Syntax.{w32}
use Rattle.pbx_link_definitions.proofs.Rising.{raised}
use Rattle.pbx_link_definitions.proofs.ranges.number_ranges.Given as goal

abbrev pub invariant-loop-span : goal.invariant-loop-span
invariant-loop-span l = record {
  so_far : raised (negsuc 2147483647) l.span-items ≡ l.rising.items ++ raised l.end (drop l.span-index l.span-items);
  fits : 0 < l.span-index → SFits w32 (get_or l.span-items 0 (record { start = pos 0; «end» = pos 0 })).start;
}
