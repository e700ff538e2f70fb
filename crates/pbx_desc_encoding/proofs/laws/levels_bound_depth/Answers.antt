use Rattle.pbx_desc_encoding.proofs.Depths.{message_depth, file_depth, file_set_depth, files_depth}
use Rattle.pbx_desc_encoding.proofs.laws.levels_bound_depth.Goals as goal

pub returns-clause-message : goal.returns-clause-message
returns-clause-message c = message_depth

pub returns-clause-file : goal.returns-clause-file
returns-clause-file c = file_depth

pub returns-clause-set : goal.returns-clause-set
returns-clause-set c = file_set_depth

pub returns-clause-files : goal.returns-clause-files
returns-clause-files c = files_depth
