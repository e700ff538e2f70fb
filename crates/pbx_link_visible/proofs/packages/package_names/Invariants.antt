use Rattle.std.proofs.Common.{◌≡◌, ◌++◌, ℕ, List, take}
use Rattle.std.specs.List.{flat_map}
use Rattle.pbx_link_names.specs.Packages.{is_there, IsSound}
use Rattle.pbx_link_definitions.specs.Names.{among}
use Rattle.pbx_link_scope.specs.Scope.{packages}
use Rattle.pbx_link_visible.specs.Names.{packages_at}
use Rattle.pbx_link_visible.proofs.packages.package_names.Given as goal

abbrev pub invariant-loop-index : goal.invariant-loop-index
invariant-loop-index g l =
    IsSound l.names × ((q : List ℕ) → is_there q l.names ≡ among (packages l.file ++ flat_map (packages_at (g.P.Pooled.files l.pool)) (take l.index-index l.indexes)) q)
