use Rattle.std.proofs.Common.{◌∙◌, ap}
use Rattle.std.specs.Prelude.{is_some}
use Rattle.pbx_link_rules.proofs.Looked.{definition_there}
use Rattle.pbx_link_rules.proofs.packages.is_defined.Goals as goal

pub returns : goal.returns
returns g c = c.is_some.ensures ∙ ap is_some c.definition_with_file.ensures.found ∙ definition_there (g.P.Pooled.files c.args.pool.now) c.args.name.now
