use Rattle.pbx_parse_translation.specs.Messages.{enums_in, extensions_in}
use Rattle.pbx_parse_translation.proofs.Whole.{gathered}
use Rattle.pbx_parse_translation.proofs.messages.enums_and_extensions.Goals as goal

pub returns : goal.returns
returns c =
    let v = c.args.version in
    let xs = c.args.items.now in
    (gathered xs enums_in c.in_ok-enums.enums c.in_ok-enums.ensures, gathered xs (extensions_in v) c.in_ok-extensions.extensions c.in_ok-extensions.ensures)
