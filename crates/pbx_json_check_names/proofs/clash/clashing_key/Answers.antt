use Rattle.std.proofs.Common.{◌≡◌, ◌+◌, ◌-◌, ◌<◌, length, option_map, arith}
use Rattle.std.specs.BTreeMap.{get_by_text}
use Rattle.pbx_json_check_names.proofs.Keys.{least_more}
use Rattle.pbx_json_check_names.proofs.clash.clashing_key.Goals as goal

pub loop-left-preserved : goal.loop-left-preserved
loop-left-preserved c =
    let next : c.loop-left.left ≡ c.loop-left.left - 1 + 1 = omega arith in
    let within : c.loop-left.left - 1 < length c.args.fields.now = omega arith in (
      omega arith,
      least_more c.args.fields.now c.loop-left.left (c.loop-left.left - 1) c.index-fields-left.result (get_by_text c.in_ok-uses.uses)
          (option_map (λ k. k.now) c.loop-left.least) (option_map (λ k. k.now) c.least_with_field-least.result) next within c.index-fields-left.is
          c.in_ok-uses.ensures c.loop-left.invariant.1 c.least_with_field-least.ensures,
    )
