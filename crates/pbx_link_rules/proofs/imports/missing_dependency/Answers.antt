use Rattle.std.proofs.Common.{[], ℕ, List, not}
use Rattle.pbx_link_scope.specs.Pooled.{has_file}
use Rattle.pbx_link_rules.proofs.Listed.{item_here, item_none}
use Rattle.pbx_link_rules.proofs.imports.missing_dependency.Goals as goal

pub returns-in_ok-place_in-in-Some : goal.returns-in_ok-place_in-in-Some
returns-in_ok-place_in-in-Some g c =
    item_here (λ (name : List ℕ). not (has_file (g.P.Pooled.files c.args.pool.now) name)) 3 c.args.names.now c.in-Some.index [] c.in_ok-place_in-in-Some.field-0
    c.in-Some.ensures c.in_ok-place_in-in-Some.ensures

pub returns-in-None : goal.returns-in-None
returns-in-None g c = item_none (λ (name : List ℕ). not (has_file (g.P.Pooled.files c.args.pool.now) name)) 3 c.args.names.now c.in-None.ensures
