use Rattle.std.proofs.Common.{◌≡◌}
use Rattle.pbx_message_dynamic.proofs.Items.{val-Map}
use Rattle.pbx_message_dynamic.proofs.levels.value_levels.Goals as goal

pub returns-in-Map : goal.returns-in-Map
returns-in-Map c =
    let entries : c.as_slice-in-Map.result.now ≡ c.in-Map.entries = c.as_slice-in-Map.ensures.same in
    let levels = rw entries at c.map_levels.ensures in
    rw (c.in-Map.is, val-Map c.in-Map.entries) levels
