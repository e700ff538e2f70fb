use Rattle.pbx_content.specs.declared.shape.Kind.TheVariants as kind
use Rattle.pbx_desc_wrappers.proofs.Wrappers.{uint32_type}
use Rattle.pbx_desc_wrappers.proofs.Sound.{value_read}
use Rattle.pbx_desc.proofs.integers.U32DecodeMessage.decode.Goals as goal

pub returns-clause-found : goal.returns-clause-found
returns-clause-found c = value_read (c.in_ok-wrapped_value.ensures.found kind.Uint32 uint32_type) c.u32_in.ensures
