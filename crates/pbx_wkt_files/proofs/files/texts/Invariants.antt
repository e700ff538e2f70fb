use Rattle.std.proofs.Common.{◌≡◌, map, take}
use Rattle.pbx_wkt_files.proofs.files.texts.Given as goal

abbrev pub invariant-loop-row : goal.invariant-loop-row
invariant-loop-row l = l.texts ≡ map (λ text. text.now) (take l.row-index l.rows)
