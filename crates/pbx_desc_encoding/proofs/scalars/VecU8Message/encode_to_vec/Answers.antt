use Rattle.pbx_content.specs.declared.shape.Kind.TheVariants as kind
use Rattle.pbx_desc_wrappers.proofs.Held.{of_bytes}
use Rattle.pbx_desc_wrappers.proofs.Wrappers.{bytes_type}
use Rattle.pbx_desc_encoding.proofs.scalars.VecU8Message.encode_to_vec.Goals as goal

pub wrapper_bytes-requires : goal.wrapper_bytes-requires
wrapper_bytes-requires c = (kind.Bytes, bytes_type, of_bytes c.in_ok-octets.octets)
