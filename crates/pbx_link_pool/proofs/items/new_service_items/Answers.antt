use Rattle.std.proofs.Common.{◌∙◌, ℕ, List, ap}
use Rattle.pbx_link_definitions.specs.Names.{qualified, text_or_empty}
use Rattle.pbx_link_pool.specs.Items.{is_new}
use Rattle.pbx_link_pool.proofs.Numbered.{numbered_more}
use Rattle.pbx_link_pool.proofs.items.new_service_items.Goals as goal

pub loop-i-preserved : goal.loop-i-preserved
loop-i-preserved c =
    let scope = c.args.scope.now in
    numbered_more (is_new c.args.map.now) (λ x. (qualified scope (text_or_empty x.1.name), (c.args.index, x.0))) c.args.services.now c.loop-i.i c.index-services-i.result
    (c.in_ok-name.name, (c.args.index, c.loop-i.i)) c.loop-i.items c.add_new.new.items c.loop-i-test.true c.index-services-i.is
    (ap (λ (s : List ℕ). (s, (c.args.index, c.loop-i.i))) (c.in_ok-name.ensures ∙ ap (qualified scope) c.text_or_empty.ensures))
    c.loop-i.invariant c.in_ok-add_new.ensures
