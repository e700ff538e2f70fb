use Rattle.pbx_content_codec.proofs.TreeFields.{got}
use Rattle.pbx_content_codec.proofs.contents.Contents.get.Goals as goal

pub returns : goal.returns
returns c = got c.args.self.now c.args.number c.get.result c.get.ensures
