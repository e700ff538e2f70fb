use Rattle.std.proofs.Common.{ℤ, pos, is_none}
use Rattle.pbx_link_scope.specs.Scope.{item_at}
use Rattle.pbx_link_rules.proofs.Listed.{item_here, item_none}
use Rattle.pbx_link_rules.proofs.imports.bad_index.Goals as goal

pub returns-in_ok-place_in-in-Some : goal.returns-in_ok-place_in-in-Some
returns-in_ok-place_in-in-Some c =
    item_here (λ (z : ℤ). is_none (item_at c.args.names.now z)) c.args.list c.args.numbers.now c.in-Some.index (pos 0) c.in_ok-place_in-in-Some.field-0
    c.in-Some.ensures c.in_ok-place_in-in-Some.ensures

pub returns-in-None : goal.returns-in-None
returns-in-None c = item_none (λ (z : ℤ). is_none (item_at c.args.names.now z)) c.args.list c.args.numbers.now c.in-None.ensures
