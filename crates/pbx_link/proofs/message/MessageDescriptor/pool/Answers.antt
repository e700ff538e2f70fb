use Rattle.std.proofs.Common.{subst}
use Rattle.std.specs.Prelude.{Contains}
use Rattle.pbx_desc_records.specs.declared.message.DescriptorProto.{DescriptorProto}
use Rattle.pbx_link_definitions.specs.Definitions.{messages}
use Rattle.pbx_link_meaning.specs.Descriptors.{Described}
use Rattle.pbx_link.specs.Tables.{no_message}
use Rattle.pbx_link.proofs.References.{part_within}
use Rattle.pbx_link.proofs.message.MessageDescriptor.pool.Goals as goal

pub returns-clause-file : goal.returns-clause-file
returns-clause-file c = subst (λ (d : Described DescriptorProto). Contains d.pool d.file) c.self.view_is c.self.invariant.0

pub returns-clause-message : goal.returns-clause-message
returns-clause-message c =
    subst (λ (d : Described DescriptorProto). Contains (messages d.file) d.part) c.self.view_is
    (part_within no_message (messages c.self.inside.table) c.self.inside.index c.self.invariant.1)
