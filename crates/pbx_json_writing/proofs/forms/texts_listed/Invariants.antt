use Rattle.std.proofs.Common.{◌≡◌, map, take}
use Rattle.pbx_content.specs.Content.{vals_of}
use Rattle.pbx_content_codec.specs.View.{val_of}
use Rattle.pbx_json_meaning.specs.Forms.{texts_of}
use Rattle.pbx_json_writing.proofs.forms.texts_listed.Given as goal

abbrev pub invariant-loop-held : goal.invariant-loop-held
invariant-loop-held l = l.texts ≡ texts_of (vals_of (map val_of (take l.held-index l.held-items)))
