use Rattle.std.proofs.Common.{◌+◌, ◌*◌, ◌++◌, ap, ◌∙◌, arith}
use Rattle.pbx_wire.specs.Varint.{varint}
use Rattle.pbx_wire.proofs.Texts.{varint_text, in_pieces}
use Rattle.pbx_wire.proofs.Kept.{kept_behind}
use Rattle.pbx_wire.proofs.write.put_varint_rec.Goals as goal

pub returns-clause-ok : goal.returns-clause-ok
returns-clause-ok c =
    in_pieces c.put_varint.result c.args.out.now c.put_key.new.out c.put_varint.new.out (varint (c.args.number * 8 + 0)) (varint c.args.value) _
    (varint_text c.args.number c.args.value ∙ ap (λ k. varint k ++ varint c.args.value) (omega (arith))) c.in_ok-put_key.ensures.ok c.put_varint.ensures.ok

pub returns-clause-err : goal.returns-clause-err
returns-clause-err c =
    kept_behind c.put_varint.result c.args.out.now c.put_key.new.out c.put_varint.new.out _ c.in_ok-put_key.ensures.ok c.put_varint.ensures.err
