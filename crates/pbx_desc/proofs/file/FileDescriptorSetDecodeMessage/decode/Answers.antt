use Rattle.std.proofs.Common.{subst}
use Rattle.pbx_content.specs.declared.shape.Shape.{Shape}
use Rattle.pbx_content.specs.Meaning.{parts_meaning_of}
use Rattle.pbx_content.specs.Faults.{IsFaultOfParts, IsToldFault}
use Rattle.pbx_desc.proofs.file.FileDescriptorSetDecodeMessage.decode.Goals as goal

pub returns-clause-fault : goal.returns-clause-fault
returns-clause-fault c =
    subst (λ (s : Shape). IsToldFault (parts_meaning_of s 0 c.args.bytes.now) (IsFaultOfParts s 0 c.args.bytes.now) c.in-Err.fault) c.in_ok-schema.ensures c.in-Err.ensures.fault
