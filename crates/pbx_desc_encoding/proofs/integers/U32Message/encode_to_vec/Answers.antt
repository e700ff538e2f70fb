use Rattle.std.proofs.Common.{rules}
use Rattle.pbx_content.specs.declared.shape.Kind.TheVariants as kind
use Rattle.pbx_desc_wrappers.proofs.Held.{of_u32}
use Rattle.pbx_desc_wrappers.proofs.Wrappers.{uint32_type}
use Rattle.pbx_desc_encoding.proofs.integers.U32Message.encode_to_vec.Goals as goal

pub wrapper_bytes-requires : goal.wrapper_bytes-requires
wrapper_bytes-requires c = (kind.Uint32, uint32_type, of_u32 c.args.self.now (search rules))
