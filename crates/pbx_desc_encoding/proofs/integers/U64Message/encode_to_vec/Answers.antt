use Rattle.std.proofs.Common.{rules}
use Rattle.pbx_content.specs.declared.shape.Kind.TheVariants as kind
use Rattle.pbx_desc_wrappers.proofs.Held.{of_u64}
use Rattle.pbx_desc_wrappers.proofs.Wrappers.{uint64_type}
use Rattle.pbx_desc_encoding.proofs.integers.U64Message.encode_to_vec.Goals as goal

pub wrapper_bytes-requires : goal.wrapper_bytes-requires
wrapper_bytes-requires c = (kind.Uint64, uint64_type, of_u64 c.args.self.now (search rules))
