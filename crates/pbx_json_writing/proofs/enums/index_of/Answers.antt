use Rattle.std.proofs.Common.{◌≡◌, ◌+◌, ◌-◌, ◌<◌, Some, cond, length, ap, ◌∙◌, arith, to_z, of_z, rules}
use Rattle.std.specs.Int.{w128}
use Rattle.std.specs.BTreeMap.{get, is_at}
use Rattle.std.specs.Ordering.{int_cmp}
use Rattle.pbx_json_writing.proofs.OfEnums.{index_more}
use Rattle.pbx_json_writing.proofs.enums.index_of.Goals as goal

pub loop-left-preserved : goal.loop-left-preserved
loop-left-preserved c =
    let next : c.loop-left.left ≡ c.loop-left.left - 1 + 1 = omega arith in
    let same : to_z w128 (of_z w128 c.number_of.result) ≡ c.number_of.result = search rules in
    let within : c.loop-left.left - 1 < length c.args.values.now = omega arith in
    record {
      within = omega arith;
      so =
          index_more c.args.values.now c.loop-left.left (c.loop-left.left - 1) c.index-values-left.result c.loop-left.index c.insert.new.self next within
          c.index-values-left.is
          (λ q. c.in_ok-insert.ensures.updates.0 q
          ∙ ap (λ k. cond (is_at (int_cmp k) q) (Some (c.loop-left.left - 1)) (get int_cmp c.loop-left.index q)) (same ∙ c.number_of.ensures))
          c.loop-left.invariant.so;
    }
