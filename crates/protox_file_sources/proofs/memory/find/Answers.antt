use Rattle.protox_file_sources.proofs.Texts.{told_found}
use Rattle.protox_file_sources.proofs.memory.find.Goals as goal

pub returns : goal.returns
returns c = told_found c.args.files.now c.args.name.now c.get.result c.get.ensures.value
