use Rattle.std.proofs.Common.{◌≡◌, drop, map}
use Rattle.std.specs.Prelude.{find}
use Rattle.std.specs.Str.{bytes_eq}
use Rattle.pbx_wkt_types.specs.Known.{Known}
use Rattle.pbx_wkt_types.specs.Rows.{row_type}
use Rattle.pbx_wkt_types.proofs.shape.named.Given as goal

abbrev pub invariant-loop-row : goal.invariant-loop-row
invariant-loop-row l =
    find (λ (known : Known). bytes_eq known.name l.full_name) (map row_type l.types)
    ≡ find (λ (known : Known). bytes_eq known.name l.full_name) (map row_type (drop l.row-index l.types))
