use Rattle.std.proofs.Common.{to_z, of_z, rules}
use Rattle.std.specs.Int.{w64}
use Rattle.pbx_content.specs.declared.shape.Kind.TheVariants as kind
use Rattle.pbx_desc_wrappers.proofs.Held.{of_i64}
use Rattle.pbx_desc_wrappers.proofs.Wrappers.{int64_type}
use Rattle.pbx_desc_encoding.proofs.integers.I64Message.encode_to_vec.Goals as goal

pub wrapper_bytes-requires : goal.wrapper_bytes-requires
wrapper_bytes-requires c = (kind.Int64, int64_type, of_i64 (to_z w64 (of_z w64 c.args.self.now)) (search rules))
