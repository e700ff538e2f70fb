use Rattle.pbx_content.specs.declared.shape.Kind.TheVariants as kind
use Rattle.pbx_desc_wrappers.proofs.Held.{of_bool}
use Rattle.pbx_desc_wrappers.proofs.Wrappers.{bool_type}
use Rattle.pbx_desc_encoding.proofs.scalars.BoolMessage.encode_to_vec.Goals as goal

pub wrapper_bytes-requires : goal.wrapper_bytes-requires
wrapper_bytes-requires c = (kind.Bool, bool_type, of_bool c.args.self.now)
