use Rattle.std.proofs.Common.{◌∙◌, Some, ap}
use Rattle.std.specs.Prelude.{slice_get, option_map}
use Rattle.pbx_link_definitions.specs.Definitions.{extensions}
use Rattle.pbx_link_tables.specs.Entries.{json_name}
use Rattle.pbx_link_tables.proofs.Kept.{json_name_is}
use Rattle.pbx_link_tables.proofs.table.FileTable.extension_json_name.Goals as goal

pub returns-in-Some : goal.returns-in-Some
returns-in-Some c =
    ap Some c.as_str.ensures ∙ c.in-Some.ensures
    ∙ json_name_is c.self.inside.file c.self.inside.entries c.as_slice.result.now c.args.index c.self.invariant c.as_slice.ensures
    ∙ ap (λ f. option_map json_name (slice_get (extensions f) c.args.index)) c.self.view_is

pub returns-in-None : goal.returns-in-None
returns-in-None c =
    c.in-None.ensures ∙ json_name_is c.self.inside.file c.self.inside.entries c.as_slice.result.now c.args.index c.self.invariant c.as_slice.ensures
    ∙ ap (λ f. option_map json_name (slice_get (extensions f) c.args.index)) c.self.view_is
