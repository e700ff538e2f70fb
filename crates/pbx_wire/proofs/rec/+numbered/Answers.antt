use Rattle.std.proofs.Common.{◌≡◌, true, sym, ◌∙◌, rules}
use Rattle.pbx_wire.specs.Text.{is_numbered, is_fit}
use Rattle.pbx_wire.proofs.Written.{all_more}
use Rattle.pbx_wire.proofs.Walks.{all_rest}
use Rattle.pbx_wire.proofs.rec.+numbered.Goals as goal

pub are_numbered-loop-rec-preserved : goal.are_numbered-loop-rec-preserved
are_numbered-loop-rec-preserved t c =
    let yes : c.is_numbered.result ≡ true = search rules in
    let is : is_numbered c.rec-item.result ≡ true = sym c.is_numbered.ensures.numbered ∙ yes in
    record {
      numbered = c.loop-rec.invariant.numbered ∙ all_rest is_numbered c.as_slice-rec-items.result.now c.loop-rec.rec-index c.rec-item.result c.loop-rec-test.true c.rec-item.is is;
      fit = all_more is_fit c.as_slice-rec-items.result.now c.loop-rec.rec-index c.rec-item.result c.loop-rec-test.true c.rec-item.is c.loop-rec.invariant.fit (c.is_numbered.ensures.fit yes);
    }
