use Rattle.pbx_content_codec.proofs.TreeFields.{put_told}
use Rattle.pbx_content_codec.proofs.contents.Contents.put.Goals as goal

pub returns-clause-ok : goal.returns-clause-ok
returns-clause-ok c = put_told c.args.self.now c.args.number c.args.held c.put.new.self c.put.result c.put.ensures.order c.put.ensures.ok
