use Rattle.std.proofs.Common.{ap, ◌∙◌}
use Rattle.pbx_content.specs.Content.{keyed}
use Rattle.pbx_content_codec.proofs.Tree.{val_of-Pairs}
use Rattle.pbx_content_codec.proofs.pairs.with_entry.Goals as goal

pub returns-in-Ok : goal.returns-in-Ok
returns-in-Ok c = val_of-Pairs c.add_entry.new.pairs ∙ ap keyed c.in-Ok.ensures
