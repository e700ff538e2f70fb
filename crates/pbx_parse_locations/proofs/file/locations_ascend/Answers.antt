use Rattle.pbx_parse_locations.proofs.Ascending.{file_is}
use Rattle.pbx_parse_locations.proofs.file.locations_ascend.Goals as goal

pub returns : goal.returns
returns c = λ whole f h. (file_is whole f h).ascends
