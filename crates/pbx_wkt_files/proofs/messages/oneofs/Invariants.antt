use Rattle.std.proofs.Common.{◌≡◌, map, take}
use Rattle.pbx_wkt_files.specs.Rows.{named_oneof}
use Rattle.pbx_wkt_files.proofs.messages.oneofs.Given as goal

abbrev pub invariant-loop-name : goal.invariant-loop-name
invariant-loop-name l = l.oneofs ≡ map (λ name. named_oneof name.now) (take l.name-index l.names)
