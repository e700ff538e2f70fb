use Rattle.std.proofs.Common.{◌≤◌, ◌∙◌, ap, subst}
use Rattle.std.specs.Prelude.{IfOk}
use Rattle.pbx_content.specs.Same.{Decodes}
use Rattle.pbx_content.specs.Sound.{depth}
use Rattle.pbx_desc_records.specs.declared.file.FileDescriptorProto.{FileDescriptorProto}
use Rattle.pbx_desc_shapes.specs.DescriptorShape.{descriptor_shape}
use Rattle.pbx_desc_encoding.specs.Content.{file_content}
use Rattle.pbx_link_meaning.specs.Descriptors.{FileDescribed}
use Rattle.pbx_link.proofs.file.FileDescriptor.encode_to_vec.Goals as goal

pub returns-clause-decodes : goal.returns-clause-decodes
returns-clause-decodes c =
    subst
    (λ (f : FileDescriptorProto). IfOk c.encode_to_vec.result (λ v. depth (file_content f) ≤ 100 → Decodes descriptor_shape 1 v.items (file_content f)))
    (c.file.ensures ∙ c.as_ref.ensures ∙ ap (λ (d : FileDescribed). d.file) c.self.view_is) c.encode_to_vec.ensures.decodes
