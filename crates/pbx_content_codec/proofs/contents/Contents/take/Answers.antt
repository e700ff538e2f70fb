use Rattle.pbx_content_codec.proofs.TreeFields.{taken, left}
use Rattle.pbx_content_codec.proofs.contents.Contents.take.Goals as goal

pub returns-clause-value : goal.returns-clause-value
returns-clause-value c = taken c.args.self.now c.args.number c.take.result c.take.ensures.value

pub returns-clause-rest : goal.returns-clause-rest
returns-clause-rest c = left c.args.self.now c.args.number c.take.new.self c.take.ensures.rest
