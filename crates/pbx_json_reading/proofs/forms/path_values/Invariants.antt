use Rattle.std.proofs.Common.{◌≡◌, map}
use Rattle.pbx_content.specs.Content.{text}
use Rattle.pbx_content_codec.specs.View.{val_of}
use Rattle.pbx_json_reading.proofs.forms.path_values.Given as goal

abbrev pub invariant-loop-path : goal.invariant-loop-path
invariant-loop-path l = map val_of l.values ≡ map text l.yielded
