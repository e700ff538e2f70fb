use Rattle.std.proofs.Common.{◌∙◌, ap}
use Rattle.std.specs.Prelude.{slice_get}
use Rattle.pbx_link_definitions.specs.Definitions.{services}
use Rattle.pbx_link_tables.specs.Entries.{service_entry}
use Rattle.pbx_link_tables.proofs.Kept.{service_is, none_is}
use Rattle.pbx_link_tables.proofs.table.FileTable.service.Goals as goal

pub returns-in-Some : goal.returns-in-Some
returns-in-Some c =
    service_is c.self.inside.file c.self.inside.entries c.as_slice.result.now c.as_slice-in-Some.result.now c.args.index c.in-Some.entry.now _ _ c.self.invariant c.as_slice.ensures c.in-Some.ensures c.as_slice-in-Some.ensures c.item-in-Some.ensures c.part_with.ensures
    ∙ ap (λ f. slice_get (services f) c.args.index) c.self.view_is

pub returns-in-None : goal.returns-in-None
returns-in-None c =
    none_is service_entry (services c.self.inside.file) c.self.inside.entries.services c.as_slice.result.now c.args.index c.self.invariant.3 c.as_slice.ensures c.in-None.ensures
    ∙ ap (λ f. slice_get (services f) c.args.index) c.self.view_is
