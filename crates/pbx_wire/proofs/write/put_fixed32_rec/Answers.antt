use Rattle.std.proofs.Common.{◌+◌, ◌*◌}
use Rattle.pbx_wire.specs.Varint.{varint}
use Rattle.pbx_wire.proofs.Texts.{fixed32_text, in_pieces}
use Rattle.pbx_wire.proofs.Kept.{kept_same}
use Rattle.pbx_wire.proofs.write.put_fixed32_rec.Goals as goal

pub returns-clause-ok : goal.returns-clause-ok
returns-clause-ok c =
    in_pieces c.append.result c.args.out.now c.put_key.new.out c.append.new.self (varint (c.args.number * 8 + 5)) c.to_le_bytes.result _
    (rw (c.to_le_bytes.ensures) (fixed32_text c.args.number c.args.value)) c.in_ok-put_key.ensures.ok c.append.ensures.ok

pub returns-clause-err : goal.returns-clause-err
returns-clause-err c =
    kept_same c.append.result c.args.out.now c.put_key.new.out c.append.new.self _ c.in_ok-put_key.ensures.ok c.append.ensures.err
