use Rattle.std.proofs.Common.{◌≡◌, map, take}
use Rattle.std.specs.List.{enumerate_from}
use Rattle.pbx_link_rules_record.specs.Spans.{span_of}
use Rattle.pbx_link_rules_record.proofs.spans.spans.Given as goal

abbrev pub invariant-loop-index : goal.invariant-loop-index
invariant-loop-index l = l.spans.items ≡ map span_of (enumerate_from 0 (take l.index l.ranges))
