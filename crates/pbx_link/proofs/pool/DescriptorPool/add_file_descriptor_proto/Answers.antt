use Rattle.std.proofs.Common.{◌∙◌}
use Rattle.pbx_link.proofs.pool.DescriptorPool.add_file_descriptor_proto.Goals as goal

pub returns-in-Err-add-clause-refused : goal.returns-in-Err-add-clause-refused
returns-in-Err-add-clause-refused c =
    c.descriptor_error.ensures c.args.self.now c.args.file (c.in-Ok.ensures ∙ c.text_or_empty.ensures) c.in-Err-add.ensures.refused
