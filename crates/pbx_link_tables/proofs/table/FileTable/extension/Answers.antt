use Rattle.std.proofs.Common.{◌∙◌, ap}
use Rattle.std.specs.Prelude.{slice_get}
use Rattle.pbx_link_definitions.specs.Definitions.{extensions}
use Rattle.pbx_link_tables.specs.Entries.{extension_entry}
use Rattle.pbx_link_tables.proofs.Kept.{extension_is, none_is}
use Rattle.pbx_link_tables.proofs.table.FileTable.extension.Goals as goal

pub returns-in-Some : goal.returns-in-Some
returns-in-Some c =
    extension_is c.self.inside.file c.self.inside.entries c.as_slice.result.now c.args.index c.in-Some.entry.now c.as_slice-in-Some.result.now c.holder-place.result.now _ _ c.self.invariant c.as_slice.ensures c.in-Some.ensures c.as_slice-in-Some.ensures c.holder-place.ensures c.extension_at.ensures c.part_with.ensures
    ∙ ap (λ f. slice_get (extensions f) c.args.index) c.self.view_is

pub returns-in-None : goal.returns-in-None
returns-in-None c =
    none_is extension_entry (extensions c.self.inside.file) c.self.inside.entries.extensions c.as_slice.result.now c.args.index c.self.invariant.2 c.as_slice.ensures c.in-None.ensures
    ∙ ap (λ f. slice_get (extensions f) c.args.index) c.self.view_is
