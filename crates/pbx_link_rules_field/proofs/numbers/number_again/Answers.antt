use Rattle.std.proofs.Common.{◌∙◌, below_more, rules, ap, w32}
use mir.Val.{SFits}
use Rattle.std.proofs.lemmas.Int.{to_z-of_z}
use Rattle.pbx_link_rules_field.proofs.Numbered.{number_there, number_new, number_added, no_number_new, no_number_added}
use Rattle.pbx_link_rules_field.proofs.numbers.number_again.Goals as goal
use Rattle.pbx_link_rules_field.proofs.numbers.number_again.Goals.{in-Some+in_ok-insert+else-not-branch, in_default}

pub returns-then-not-branch : goal.returns-then-not-branch
returns-then-not-branch c =
    let fits : SFits w32 c.in-Some.number = search rules in
    let added = simp to_z-of_z at c.in_ok-insert.ensures.added in (
      c.loop-index-test.true,
      number_there c.args.fields.now c.loop-index.index c.index-fields-index.result c.loop-index.seen.keys c.loop-index-test.true
          c.index-fields-index.is c.loop-index.invariant.seen c.in-Some.number c.in-Some.is
          c.in_ok-insert.field-0 added c.if-not-branch.true,
    )

pub loop-index-preserved : goal.loop-index-preserved
loop-index-preserved c =
    elim c.match-field.branch [
      | in-Some+in_ok-insert+else-not-branch w ↦
          let fits : SFits w32 w.in-Some.number = search rules in
          let added = simp to_z-of_z at w.in_ok-insert.ensures.added in
          let keys = simp to_z-of_z at w.in_ok-insert.ensures.keys in
          record {
            none = below_more _ _ c.loop-index.invariant.none
                (number_new c.args.fields.now c.loop-index.index c.index-fields-index.result c.loop-index.seen.keys c.loop-index-test.true
                c.index-fields-index.is c.loop-index.invariant.seen w.in-Some.number w.in-Some.is
                w.in_ok-insert.field-0 added w.if-not-branch.false);
            seen = number_added c.args.fields.now c.loop-index.index c.index-fields-index.result c.loop-index.seen.keys c.loop-index-test.true
                c.index-fields-index.is c.loop-index.invariant.seen w.in-Some.number w.in-Some.is
                c.match-field.seen.keys (ap (λ s. s.keys) w.seen-is ∙ keys);
          }
      | in_default w ↦
          record {
            none = below_more _ _ c.loop-index.invariant.none
                (no_number_new c.args.fields.now c.loop-index.index c.index-fields-index.result c.loop-index.seen.keys c.loop-index-test.true
                c.index-fields-index.is c.loop-index.invariant.seen w.in_default.is);
            seen = no_number_added c.args.fields.now c.loop-index.index c.index-fields-index.result c.loop-index.seen.keys c.loop-index-test.true
                c.index-fields-index.is c.loop-index.invariant.seen w.in_default.is
                c.match-field.seen.keys (ap (λ s. s.keys) w.seen-is);
          }
    ]
