use Rattle.std.specs.List.{list_any}
use Rattle.std.specs.Str.{bytes_eq}
use Rattle.pbx_link_rules.proofs.Twice.{HasSeen, NoneAgain}
use Rattle.pbx_link_rules.proofs.names.repeated_name.Given as goal

abbrev pub invariant-loop-index : goal.invariant-loop-index
invariant-loop-index l = record {
  none : NoneAgain l.names l.index;
  seen : HasSeen l.names l.index (λ q. list_any (λ k. bytes_eq q k.now) l.seen.keys);
}
