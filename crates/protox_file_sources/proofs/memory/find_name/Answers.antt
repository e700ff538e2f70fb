use Rattle.std.proofs.Common.{◌∙◌, sym}
use Rattle.protox_file_sources.proofs.Texts.{looked_up}
use Rattle.protox_file_sources.proofs.memory.find_name.Goals as goal

pub returns : goal.returns
returns c = c.get.ensures.value ∙ sym (looked_up c.args.names.now c.args.path.now)
