use Rattle.std.proofs.Common.{◌≡◌, ◌-◌, ◌^◌, ◌<◌, ◌≤◌}
use Rattle.pbx_wire.specs.Reading.{varint_at}
use Rattle.pbx_wire.proofs.Numbers.{with_low}
use Rattle.pbx_wire.proofs.read.read_long_number.Given as goal

abbrev pub invariant-loop-more : goal.invariant-loop-more
invariant-loop-more l = record {
  few : l.more ≤ 9;
  weight_is : l.weight ≡ 128 ^ (9 - l.more);
  below : l.low < l.weight;
  reads : with_low l.low l.weight (varint_at l.at l.more l.rest) ≡ varint_at l.at 9 l.bytes;
}

abbrev pub decreases-loop-more : goal.decreases-loop-more
decreases-loop-more l = l.more
