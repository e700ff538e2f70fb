use Rattle.std.proofs.Common.{to_z, of_z, rules}
use Rattle.std.specs.Int.{w32}
use Rattle.pbx_content.specs.declared.shape.Kind.TheVariants as kind
use Rattle.pbx_desc_wrappers.proofs.Held.{of_i32}
use Rattle.pbx_desc_wrappers.proofs.Wrappers.{int32_type}
use Rattle.pbx_desc_encoding.proofs.integers.I32Message.encode_to_vec.Goals as goal

pub wrapper_bytes-requires : goal.wrapper_bytes-requires
wrapper_bytes-requires c = (kind.Int32, int32_type, of_i32 (to_z w32 (of_z w32 c.args.self.now)) (search rules))
