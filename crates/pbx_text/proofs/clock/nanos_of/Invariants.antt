use Rattle.std.proofs.Common.{◌≡◌, ◌<◌, ◌^◌, ◌++◌, replicate, take}
use Rattle.pbx_text.specs.Decimal.{digits_value}
use Rattle.pbx_text.proofs.clock.nanos_of.Given as goal

abbrev pub invariant-loop-place : goal.invariant-loop-place
invariant-loop-place l = record {
  value : l.nanos ≡ digits_value (take l.place (l.digits ++ replicate 9 48));
  small : l.nanos < 10 ^ l.place;
}
