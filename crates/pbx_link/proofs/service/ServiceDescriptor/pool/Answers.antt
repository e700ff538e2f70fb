use Rattle.std.proofs.Common.{subst}
use Rattle.std.specs.Prelude.{Contains}
use Rattle.pbx_desc_records.specs.declared.service.ServiceDescriptorProto.{ServiceDescriptorProto}
use Rattle.pbx_link_definitions.specs.Definitions.{services}
use Rattle.pbx_link_meaning.specs.Descriptors.{Described}
use Rattle.pbx_link.specs.Tables.{no_service}
use Rattle.pbx_link.proofs.References.{part_within}
use Rattle.pbx_link.proofs.service.ServiceDescriptor.pool.Goals as goal

pub returns-clause-file : goal.returns-clause-file
returns-clause-file c = subst (λ (d : Described ServiceDescriptorProto). Contains d.pool d.file) c.self.view_is c.self.invariant.0

pub returns-clause-service : goal.returns-clause-service
returns-clause-service c =
    subst (λ (d : Described ServiceDescriptorProto). Contains (services d.file) d.part) c.self.view_is
    (part_within no_service (services c.self.inside.table) c.self.inside.index c.self.invariant.1)
