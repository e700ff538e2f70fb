use Rattle.std.proofs.Common.{sym, subst}
use Rattle.std.specs.Prelude.{List, Contains}
use Rattle.pbx_desc_records.specs.declared.file.FileDescriptorProto.{FileDescriptorProto}
use Rattle.pbx_link_definitions.specs.Definitions.{messages}
use Rattle.pbx_link_meaning.specs.Descriptors.{all_messages}
use Rattle.pbx_link.specs.Tables.{no_message}
use Rattle.pbx_link.proofs.Parts.{contains_described}
use Rattle.pbx_link.proofs.message.MessageDescriptor.parent_pool.Goals as goal

pub returns-clause-of_it : goal.returns-clause-of_it
returns-clause-of_it c =
    subst (λ (pool : List FileDescriptorProto). Contains (all_messages pool) c.args.self.now) (sym c.copy.ensures)
    (contains_described no_message messages c.self.inside.pool c.self.inside.table c.self.inside.index c.args.self.now c.self.invariant.0
    c.self.invariant.1 c.self.view_is)
