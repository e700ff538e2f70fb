use Rattle.std.proofs.Common.{◌∙◌, ap}
use Rattle.std.specs.Prelude.{is_some}
use Rattle.pbx_link_rules.proofs.Looked.{file_there}
use Rattle.pbx_link_rules.proofs.imports.has_file.Goals as goal

pub returns : goal.returns
returns g c = c.is_some.ensures ∙ ap is_some c.file_index.ensures.found ∙ file_there (g.P.Pooled.files c.args.pool.now) c.args.name.now
