use Rattle.std.proofs.Common.{refl}
use Rattle.pbx_content_codec.specs.View.{content_of}
use Rattle.pbx_desc_shapes.specs.DescriptorShape.{file_fields}
use Rattle.pbx_desc_encoding.specs.Content.{file_values}
use Rattle.pbx_desc_encoding.proofs.Types.{file_type}
use Rattle.pbx_desc.specs.Messages.{file_exact}
use Rattle.pbx_desc.proofs.Walk.{whole}
use Rattle.pbx_desc.proofs.file.FileDescriptorProtoFromContents.from_contents.Goals as goal

pub returns : goal.returns
returns c = whole 1 file_fields (file_values c.fill.new.file) (file_exact c.fill.new.file) c.fill.new.file.unknown (content_of c.args.contents) file_type refl c.in_default.ensures
