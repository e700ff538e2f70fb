use Rattle.std.proofs.Common.{◌+◌, ◌*◌, ◌++◌, length, refl, append_assoc}
use Rattle.std.proofs.Transfers.{starts_with_of_append, starts_with_trans}
use Rattle.pbx_wire.specs.Varint.{varint}
use Rattle.pbx_wire.proofs.Texts.{bytes_text, in_pieces}
use Rattle.pbx_wire.proofs.Kept.{handed_on, kept_same}
use Rattle.pbx_wire.proofs.write.put_bytes_rec.Goals as goal

pub returns-clause-text : goal.returns-clause-text
returns-clause-text c =
    let head = varint (c.args.number * 8 + 2) ++ varint (length c.args.payload.now) in
    in_pieces c.append.result c.args.out.now c.put_varint.new.out c.append.new.self head c.args.payload.now _
    (rw (bytes_text c.args.number c.args.payload.now, append_assoc) refl)
    (rw (c.in_ok-put_varint.ensures.ok, c.in_ok-put_key.ensures.ok, append_assoc) refl) c.append.ensures.ok

pub returns-in_err-put_varint-clause-err : goal.returns-in_err-put_varint-clause-err
returns-in_err-put_varint-clause-err c =
    handed_on c.from_residual-in_err-put_varint.result c.args.out.now c.put_varint.new.out
    (starts_with_trans c.put_varint.new.out c.put_key.new.out c.args.out.now c.in_err-put_varint.ensures.err
    (starts_with_of_append c.put_key.new.out c.args.out.now _ c.in_ok-put_key.ensures.ok))

pub returns-clause-err : goal.returns-clause-err
returns-clause-err c =
    let head = varint (c.args.number * 8 + 2) ++ varint (length c.args.payload.now) in
    kept_same c.append.result c.args.out.now c.put_varint.new.out c.append.new.self head
    (rw (c.in_ok-put_varint.ensures.ok, c.in_ok-put_key.ensures.ok, append_assoc) refl) c.append.ensures.err
