use Rattle.pbx_parse_tree.specs.Fits.{allowed as allowed_of}
use Rattle.pbx_parse_tree.proofs.AllFit.{none_fit}
use Rattle.pbx_parse_reader.proofs.parts.settings.Goals as goal

pub returns-else-sees-clause-fits : goal.returns-else-sees-clause-fits
returns-else-sees-clause-fits c = none_fit (allowed_of c.args.allowed)
