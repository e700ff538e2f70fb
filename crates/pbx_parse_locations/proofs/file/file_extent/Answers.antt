use Rattle.pbx_parse_locations.proofs.Last.{whole_file}
use Rattle.pbx_parse_locations.proofs.file.file_extent.Goals as goal

pub returns-in-Some-Some : goal.returns-in-Some-Some
returns-in-Some-Some c = whole_file c.args.tokens.now c.in-Some-Some.first.now c.in-Some-Some.last.now c.in-Some-Some.ensures.value c.in-Some-Some.ensures'.value
