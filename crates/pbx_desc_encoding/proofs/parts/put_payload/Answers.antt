use Rattle.std.proofs.Common.{◌++◌, ◌+◌, ◌*◌, ℕ, ap, ◌∙◌}
use Rattle.pbx_wire.specs.Varint.{varint}
use Rattle.pbx_desc_encoding.proofs.Behind.{payload_put}
use Rattle.pbx_desc_encoding.proofs.parts.put_payload.Goals as goal

pub returns : goal.returns
returns c =
    let first = c.args.out.now.items in
    payload_put c.args.number c.args.payload.now first c.put_varint.new.out.items c.put_varint-2.new.out.items c.extend_from_slice.new.self.items
    (c.in_ok-put_varint.ensures ∙ ap (λ (n : ℕ). first ++ varint (n * 8 + 2)) c.from.ensures) c.in_ok-put_varint-2.ensures c.in_ok-extend_from_slice.ensures.items
