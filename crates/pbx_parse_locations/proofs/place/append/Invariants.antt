use Rattle.std.proofs.Common.{◌≡◌, ◌++◌, take}
use Rattle.pbx_parse_locations.proofs.place.append.Given as goal

abbrev pub invariant-loop-number : goal.invariant-loop-number
invariant-loop-number l = l.numbers ≡ l.fn.numbers ++ take l.number-index l.more
