use Rattle.protox_transcode.proofs.Determined.{refuses_not, files_once}
use Rattle.protox_transcode.proofs.laws.transcoded_is_determined.Goals as goal

pub returns-clause-alone : goal.returns-clause-alone
returns-clause-alone c = refuses_not c.opens_once.ensures.paths

pub returns-clause-once : goal.returns-clause-once
returns-clause-once c = files_once c.opens_once.ensures.paths
