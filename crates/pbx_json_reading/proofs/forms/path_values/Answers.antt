use Rattle.std.proofs.Common.{◌∙◌, ap, map}
use Rattle.pbx_content_codec.specs.View.{val_of}
use Rattle.pbx_json_reading.proofs.Tree.{texts_more}
use Rattle.pbx_json_reading.proofs.forms.path_values.Goals as goal

pub loop-path-preserved : goal.loop-path-preserved
loop-path-preserved c =
    ap (map val_of) c.in_ok-add.ensures.ok ∙ texts_more c.loop-path.values c.loop-path.yielded c.in-Some.path c.loop-path.invariant
