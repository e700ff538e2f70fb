use Rattle.pbx_parse_translation.specs.Messages.{reserved_ranges_in, reserved_names_in}
use Rattle.pbx_parse_translation.proofs.Whole.{gathered}
use Rattle.pbx_parse_translation.proofs.messages.ranges_and_names.Goals as goal

pub returns : goal.returns
returns c =
    let xs = c.args.items.now in
    (gathered xs reserved_ranges_in c.in_ok-ranges.ranges c.in_ok-ranges.ensures, gathered xs reserved_names_in c.in_ok-names.names c.in_ok-names.ensures)
