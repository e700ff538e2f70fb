use Rattle.std.proofs.Common.{◌≡◌, ◌++◌, map, take}
use Rattle.pbx_desc_records.specs.declared.message.ExtensionRange.{ExtensionRange}
use Rattle.pbx_link_definitions.specs.Spans.{span_of}
use Rattle.pbx_link_definitions.proofs.ranges.add_extension_ranges.Given as goal

abbrev pub invariant-loop-range : goal.invariant-loop-range
invariant-loop-range l = l.spans.items ≡ l.initial.spans.items ++ map (λ (r : ExtensionRange). span_of r.start r.«end») (take l.range-index l.ranges)
