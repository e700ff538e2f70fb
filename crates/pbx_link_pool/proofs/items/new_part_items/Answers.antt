use Rattle.std.proofs.Common.{◌∙◌, ℕ, List, ap}
use Rattle.pbx_link_definitions.specs.Names.{qualified, text_or_empty}
use Rattle.pbx_link_pool.specs.Items.{is_new}
use Rattle.pbx_link_pool.proofs.Numbered.{numbered_more}
use Rattle.pbx_link_pool.proofs.items.new_part_items.Goals as goal

pub loop-i-preserved : goal.loop-i-preserved
loop-i-preserved g c =
    let part = c.index-parts-i.result in
    let name = g.T.Named.name in
    numbered_more (is_new c.args.map.now) (λ x. (qualified x.1.scope (text_or_empty (name x.1.item)), (c.args.index, x.0))) c.args.parts.now c.loop-i.i part
    (c.in_ok-name.name, (c.args.index, c.loop-i.i)) c.loop-i.items c.add_new.new.items c.loop-i-test.true c.index-parts-i.is
    (ap (λ (s : List ℕ). (s, (c.args.index, c.loop-i.i)))
    (c.in_ok-name.ensures ∙ ap (λ s. qualified s c.own_name.result.now) c.scope.ensures ∙ ap (qualified part.scope) (c.own_name.ensures ∙ ap (λ x. text_or_empty (name x)) c.item.ensures)))
    c.loop-i.invariant c.in_ok-add_new.ensures
