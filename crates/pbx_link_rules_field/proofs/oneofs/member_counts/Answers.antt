use Rattle.std.proofs.Common.{◌≡◌, ◌∙◌, ◌+◌, ◌<◌, length, length-set, set, ap, sym, arith}
use Rattle.pbx_link_rules_field.specs.Members.{index_below}
use Rattle.pbx_link_rules_field.proofs.Counted.{index_is_below, few, counted, counted_more, not_counted}
use Rattle.pbx_link_rules_field.proofs.oneofs.member_counts.Goals as goal
use Rattle.pbx_link_rules_field.proofs.oneofs.member_counts.Goals.{in-Some, in_default}

pub overflow_add-index_mut : goal.overflow_add-index_mut
overflow_add-index_mut c =
    let below = index_is_below c.len-in-loop-field.result c.field-item.result.oneof_index c.in-Some.index c.in-Some.ensures in
    let within : c.in-Some.index < length c.loop-field.counts.items = omega (arith, below.0, c.loop-field.counts.ok.0) in
    let now = counted c.as_slice-field-items.result.now c.loop-field.field-index c.field-item.result c.loop-field.counts.items
    c.loop-field-test.true c.field-item.is c.loop-field.invariant.so_far c.in-Some.index
    c.index_mut.result.now within c.index_mut.ensures.value in
    let small = few c.as_slice-field-items.result.now c.loop-field.field-index c.in-Some.index (omega arith) in
    omega (arith, now, small)

pub loop-field-preserved : goal.loop-field-preserved
loop-field-preserved c =
    elim c.match-oneof_of.branch [
      | in-Some w ↦
          let below = index_is_below c.len-in-loop-field.result c.field-item.result.oneof_index w.in-Some.index w.in-Some.ensures in
          let within : w.in-Some.index < length c.loop-field.counts.items = omega (arith, below.0, c.loop-field.counts.ok.0) in
          let items : c.match-oneof_of.counts.items
          ≡ set c.loop-field.counts.items w.in-Some.index (w.index_mut.result.now + 1) = ap (λ v. v.items) w.counts-is in
          let long : length c.match-oneof_of.counts.items ≡ length c.loop-field.counts.items = ap length items
          ∙ length-set c.loop-field.counts.items w.in-Some.index (w.index_mut.result.now + 1) in
          record {
            long = long ∙ c.loop-field.invariant.long;
            so_far = counted_more c.as_slice-field-items.result.now c.loop-field.field-index c.field-item.result c.loop-field.counts.items
                c.loop-field-test.true c.field-item.is c.loop-field.invariant.so_far
                c.match-oneof_of.counts.items w.in-Some.index w.index_mut.result.now within below.1 w.index_mut.ensures.value items long;
          }
      | in_default w ↦
          let items : c.match-oneof_of.counts.items ≡ c.loop-field.counts.items = ap (λ v. v.items) w.counts-is in
          let same : c.len-in-loop-field.result ≡ length c.loop-field.counts.items = omega (arith, c.loop-field.counts.ok.0) in
          record {
            long = ap length items ∙ c.loop-field.invariant.long;
            so_far = not_counted c.as_slice-field-items.result.now c.loop-field.field-index c.field-item.result c.loop-field.counts.items
                c.loop-field-test.true c.field-item.is c.loop-field.invariant.so_far
                c.match-oneof_of.counts.items (sym w.in_default.is ∙ c.oneof_of.ensures
                ∙ ap (λ n. index_below n c.field-item.result.oneof_index) same) items;
          }
    ]
