use Rattle.pbx_parse_translation.specs.Messages.{extension_ranges_in}
use Rattle.pbx_parse_translation.proofs.Whole.{gathered}
use Rattle.pbx_parse_translation.proofs.messages.extension_ranges.Goals as goal

pub returns : goal.returns
returns c = gathered c.args.items.now extension_ranges_in c.in_ok-ranges.ranges c.in_ok-ranges.ensures
