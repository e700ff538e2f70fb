use Rattle.std.proofs.Common.{map, ap, ◌∙◌}
use Rattle.pbx_content.specs.Content.{vals_of}
use Rattle.pbx_content_codec.specs.View.{val_of}
use Rattle.pbx_json_meaning.specs.Forms.{texts_of}
use Rattle.pbx_json_writing.proofs.OfForms.{texts_more, texts_done}
use Rattle.pbx_json_writing.proofs.forms.texts_listed.Goals as goal

pub loop-held-preserved : goal.loop-held-preserved
loop-held-preserved c =
    texts_more c.as_slice-held-items.result.now c.loop-held.held-index c.held-item.result c.loop-held.texts _ c.in_ok-text.text
    c.loop-held-test.true c.held-item.is c.loop-held.invariant c.in_ok-text.ensures c.in_ok-add.ensures.ok

pub returns : goal.returns
returns c =
    texts_done c.as_slice-held-items.result.now c.loop-held.held-index c.loop-held.texts c.loop-held-test.false c.loop-held.invariant
    ∙ ap (λ hs. texts_of (vals_of (map val_of hs))) c.as_slice-held-items.ensures
