use Rattle.protox_file.proofs.Once.{sets_read_once}
use Rattle.protox_file.proofs.Sets.{decodes_files}
use Rattle.protox_file.proofs.laws.sets_are_read_once.Goals as goal

pub returns-clause-once : goal.returns-clause-once
returns-clause-once c = sets_read_once

pub returns-clause-decoded : goal.returns-clause-decoded
returns-clause-decoded c = decodes_files
