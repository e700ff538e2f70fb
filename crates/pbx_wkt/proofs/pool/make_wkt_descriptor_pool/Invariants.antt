use Rattle.std.proofs.Common.{◌≡◌, take}
use Rattle.pbx_wkt_files.specs.Files.{wkt_files}
use Rattle.pbx_wkt.proofs.pool.make_wkt_descriptor_pool.Given as goal

abbrev pub invariant-loop-index : goal.invariant-loop-index
invariant-loop-index l = l.pool ≡ take l.index wkt_files
