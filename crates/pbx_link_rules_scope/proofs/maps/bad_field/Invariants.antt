use Rattle.std.proofs.Common.{ℕ, List, bytes_eq}
use Rattle.std.specs.List.{list_any}
use Rattle.pbx_link_rules_scope.proofs.Entries.{NoneClashes, Named}
use Rattle.pbx_link_rules_scope.proofs.maps.bad_field.Given as goal

abbrev pub invariant-loop-index : goal.invariant-loop-index
invariant-loop-index g l = record {
  none : NoneClashes (g.V.Visible.files l.seen) l.scope l.fields l.index;
  named : Named (g.V.Visible.files l.seen) l.scope l.fields (λ (q : List ℕ). list_any (λ k. bytes_eq q k.now) l.names.keys) l.index;
}
