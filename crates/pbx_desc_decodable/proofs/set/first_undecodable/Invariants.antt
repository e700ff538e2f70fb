use Rattle.std.proofs.Common.{◌≡◌, drop, find}
use Rattle.pbx_desc_decodable.specs.Sets.{is_undecodable}
use Rattle.pbx_desc_decodable.proofs.set.first_undecodable.Given as goal

abbrev pub invariant-loop-file : goal.invariant-loop-file
invariant-loop-file l = find is_undecodable l.files ≡ find is_undecodable (drop l.file-index l.files)
