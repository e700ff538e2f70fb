use Rattle.std.proofs.Common.{ℕ, List, ◌++◌, take, subst}
use Rattle.std.specs.List.{flat_map}
use Rattle.pbx_parse_translation.specs.Scope.{Holds}
use Rattle.pbx_parse_translation.proofs.Taken.{taken_more}
use Rattle.pbx_parse_translation.proofs.scope.add_all_names.Goals as goal

pub each-preserved : goal.each-preserved
each-preserved g c = λ before h.
    let f = g.T.Names.names in
    let xs = c.args.items.now in
    let had = before ++ flat_map f (take c.each.item-index xs) in
    let P : List (List ℕ) → Type 0 = λ names. Holds c.add_names.new.scope names in
    subst P (taken_more f xs c.each.item-index c.item-item.result before c.each-test.true c.item-item.is) (c.in_ok-add_names.ensures had (c.each.invariant before h))
