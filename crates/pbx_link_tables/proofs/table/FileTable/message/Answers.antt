use Rattle.std.proofs.Common.{◌∙◌, ap}
use Rattle.std.specs.Prelude.{slice_get}
use Rattle.pbx_link_definitions.specs.Definitions.{messages}
use Rattle.pbx_link_tables.specs.Entries.{message_entry}
use Rattle.pbx_link_tables.proofs.Kept.{message_is, none_is}
use Rattle.pbx_link_tables.proofs.table.FileTable.message.Goals as goal

pub returns-in-Some : goal.returns-in-Some
returns-in-Some c =
    message_is c.self.inside.file c.self.inside.entries c.as_slice.result.now c.args.index c.in-Some.kept.now c.as_slice-in-Some.result.now _ _ c.self.invariant c.as_slice.ensures c.in-Some.ensures c.as_slice-in-Some.ensures c.message_at.ensures c.part_with.ensures
    ∙ ap (λ f. slice_get (messages f) c.args.index) c.self.view_is

pub returns-in-None : goal.returns-in-None
returns-in-None c =
    none_is message_entry (messages c.self.inside.file) c.self.inside.entries.messages c.as_slice.result.now c.args.index c.self.invariant.0 c.as_slice.ensures c.in-None.ensures
    ∙ ap (λ f. slice_get (messages f) c.args.index) c.self.view_is
