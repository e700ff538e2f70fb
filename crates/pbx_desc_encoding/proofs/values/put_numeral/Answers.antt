use Rattle.std.proofs.Common.{◌++◌, ◌*◌, ℕ, ap, ◌∙◌}
use Rattle.pbx_wire.specs.Varint.{varint}
use Rattle.pbx_desc_encoding.proofs.Behind.{varint_put}
use Rattle.pbx_desc_encoding.proofs.Places.{on_ok}
use Rattle.pbx_desc_encoding.proofs.values.put_numeral.Goals as goal

pub returns : goal.returns
returns c =
    let first = c.args.out.now.items in
    on_ok c.put_varint-2.result
    (varint_put c.args.number c.args.numeral first c.put_varint.new.out.items c.put_varint-2.new.out.items (c.in_ok-put_varint.ensures ∙ ap (λ (n : ℕ). first ++ varint (n * 8)) c.from.ensures))
    c.put_varint-2.ensures
