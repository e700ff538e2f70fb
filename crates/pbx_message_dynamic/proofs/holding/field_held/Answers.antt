use Rattle.pbx_message_dynamic.proofs.Items.{map_field, ok_more}
use Rattle.pbx_message_dynamic.proofs.holding.field_held.Goals as goal

pub returns-in-Map-value-clause-ok : goal.returns-in-Map-value-clause-ok
returns-in-Map-value-clause-ok c =
    let pool = c.args.value_type.now.holder.pool in
    let k = c.args.value_type.now.kind in
    rw (c.in-Map.is, c.in-Map-value.is) (ok_more _ _ c.map_held.result (λ h m. map_field pool c.in-Map.key_kind k c.in-Map-value.map h m) c.map_held.ensures.ok)
