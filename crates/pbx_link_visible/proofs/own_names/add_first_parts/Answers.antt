use Rattle.std.proofs.Common.{◌∙◌, ap}
use Rattle.std.specs.BTreeMap.{get_by_text}
use Rattle.std.specs.String.{string_bytes}
use Rattle.pbx_link_definitions.specs.Names.{qualified, text_or_empty}
use Rattle.pbx_link_visible.proofs.Texts.{first_named}
use Rattle.pbx_link_visible.proofs.own_names.add_first_parts.Goals as goal

pub loop-index-preserved : goal.loop-index-preserved
loop-index-preserved g c = λ q.
    let part = c.index-parts-index.result in
    let name = g.T.Named.name in
    first_named (λ p. qualified p.scope (text_or_empty (name p.item))) (λ i. (c.args.sort, i)) q (string_bytes c.in_ok-key.key) c.args.parts.now c.loop-index.index part
    (get_by_text c.args.places.now q) (get_by_text c.loop-index.places q) (get_by_text c.add_first.new.places q) c.loop-index-test.true c.index-parts-index.is
    (c.in_ok-key.ensures ∙ ap (λ s. qualified s c.own_name.result.now) c.scope.ensures ∙ ap (qualified part.scope) (c.own_name.ensures ∙ ap (λ x. text_or_empty (name x)) c.item.ensures))
    (c.loop-index.invariant q) (c.in_ok-add_first.ensures q)
