use Rattle.pbx_content.specs.declared.shape.Kind.TheVariants as kind
use Rattle.pbx_desc_wrappers.proofs.Wrappers.{bytes_type}
use Rattle.pbx_desc_wrappers.proofs.Sound.{value_read}
use Rattle.pbx_desc.proofs.scalars.VecU8DecodeMessage.decode.Goals as goal

pub returns-clause-found : goal.returns-clause-found
returns-clause-found c =
    rw (c.in_ok-from_slice.ensures.items, c.as_slice.ensures)
    (value_read (c.in_ok-wrapped_value.ensures.found kind.Bytes bytes_type) c.octets_in-octets.ensures)
