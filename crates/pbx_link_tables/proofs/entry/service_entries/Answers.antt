use Rattle.std.proofs.Common.{◌∙◌, ap, [], ◌++◌, ◌∷◌}
use Rattle.pbx_link_definitions.proofs.Defined.{mapped_more}
use Rattle.pbx_link_tables.specs.declared.entry.Entry.{Entry}
use Rattle.pbx_link_tables.specs.Entries.{service_entry}
use Rattle.pbx_link_tables.proofs.Kept.{service_made}
use Rattle.pbx_link_tables.proofs.entry.service_entries.Goals as goal

pub loop-index-preserved : goal.loop-index-preserved
loop-index-preserved c =
    mapped_more service_entry c.args.scope.now [] c.in_ok-place.place 6 c.args.services.now c.loop-index.index c.index-services-index.result [] c.loop-index.table c.add.new.self
    c.loop-index-test.true c.index-services-index.is c.loop-index.invariant c.in_ok-place.ensures
    (c.in_ok-add.ensures.ok ∙ ap (λ (e : Entry). c.loop-index.table ++ e ∷ [])
    (service_made c.args.scope.now c.text_or_empty-own_name.result.now c.as_slice.result.now c.in_ok-place.place c.loop-index.index c.index-services-index.result c.in_ok-made_entry.field-0
    c.text_or_empty-own_name.ensures c.as_slice.ensures c.in_ok-made_entry.ensures))
