use Rattle.std.proofs.Common.{◌≡◌, true, false, sym, ◌∙◌, ap, ◌++◌, ◌∷◌, []}
use Rattle.pbx_wire.specs.Text.{is_fit}
use Rattle.pbx_wire.specs.Number.{is_writable_beside}
use Rattle.pbx_wire.proofs.Walks.{all_pushed, filter_in, filter_out}
use Rattle.pbx_wire.proofs.rec.writable_beside.Goals as goal
use Rattle.pbx_wire.proofs.rec.writable_beside.Goals.{then-is_writable_beside+in_ok-copy+in_ok-add, else-is_writable_beside}

pub loop-rec-preserved : goal.loop-rec-preserved
loop-rec-preserved c =
    let p = is_writable_beside c.args.numbers.now in
    let rs = c.as_slice-rec-items.result.now in
    elim c.if-is_writable_beside.branch [
      | then-is_writable_beside+in_ok-copy+in_ok-add w ↦
          let is : p c.rec-item.result ≡ true = sym c.is_writable_beside.ensures.writable ∙ w.if-is_writable_beside.true in
          rw (w.kept-is, w.in_ok-add.ensures.ok, w.in_ok-copy.ensures) (record {
            kept =
                ap (λ ks. ks ++ c.rec-item.result ∷ []) c.loop-rec.invariant.kept
                ∙ sym (filter_in p rs c.loop-rec.rec-index c.rec-item.result c.loop-rec-test.true c.rec-item.is is);
            fit = all_pushed is_fit c.loop-rec.kept c.rec-item.result c.loop-rec.invariant.fit (c.is_writable_beside.ensures.fit w.if-is_writable_beside.true);
          })
      | else-is_writable_beside w ↦
          let is : p c.rec-item.result ≡ false = sym c.is_writable_beside.ensures.writable ∙ w.if-is_writable_beside.false in
          rw w.kept-is (record {
            kept = c.loop-rec.invariant.kept ∙ sym (filter_out p rs c.loop-rec.rec-index c.rec-item.result c.loop-rec-test.true c.rec-item.is is);
            fit = c.loop-rec.invariant.fit;
          })
    ]
