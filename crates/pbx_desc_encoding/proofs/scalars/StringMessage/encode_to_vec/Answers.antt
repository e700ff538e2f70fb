use Rattle.pbx_content.specs.declared.shape.Kind.TheVariants as kind
use Rattle.pbx_desc_wrappers.proofs.Held.{of_text}
use Rattle.pbx_desc_wrappers.proofs.Wrappers.{string_type}
use Rattle.pbx_desc_encoding.proofs.scalars.StringMessage.encode_to_vec.Goals as goal

pub wrapper_bytes-requires : goal.wrapper_bytes-requires
wrapper_bytes-requires c = (kind.String, string_type, of_text c.in_ok-text.text c.as_str.result.now c.in_ok-text.ensures c.as_str.utf8)
