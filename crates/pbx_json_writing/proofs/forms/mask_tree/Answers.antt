use Rattle.std.proofs.Common.{subst}
use Rattle.pbx_content.specs.Content.{get, fields}
use Rattle.pbx_content_codec.specs.View.{content_of}
use Rattle.pbx_text.specs.Mask.{mask_written}
use Rattle.pbx_json_meaning.specs.Forms.{texts_in}
use Rattle.pbx_json_writing.specs.Refusals.{IsAnswer}
use Rattle.pbx_json_writing.proofs.OfForms.{answer_of}
use Rattle.pbx_json_writing.proofs.forms.mask_tree.Goals as goal

pub returns-clause-written : goal.returns-clause-written
returns-clause-written c =
    c.told_text.ensures.written (mask_written (texts_in (get 1 (fields (content_of c.args.contents.now)))))
    (subst (λ ps. IsAnswer (mask_written ps) c.write_mask-written.result) c.in-Ok.ensures
    (answer_of (mask_written c.in-Ok.paths) c.write_mask-written.result c.write_mask-written.ensures.ok c.write_mask-written.ensures.err))

pub returns-clause-refused : goal.returns-clause-refused
returns-clause-refused c =
    c.told_text.ensures.refused (mask_written (texts_in (get 1 (fields (content_of c.args.contents.now)))))
    (subst (λ ps. IsAnswer (mask_written ps) c.write_mask-written.result) c.in-Ok.ensures
    (answer_of (mask_written c.in-Ok.paths) c.write_mask-written.result c.write_mask-written.ensures.ok c.write_mask-written.ensures.err))
