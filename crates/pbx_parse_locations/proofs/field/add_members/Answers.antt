use Rattle.std.proofs.Common.{None, ap, ◌∙◌}
use Rattle.pbx_parse_tree.specs.View.{kind_of, tail_of, member_of}
use Rattle.pbx_parse_locations.specs.declared.field.Typed.{Typed}
use Rattle.pbx_parse_locations.specs.Locations.{Parts, type_of_kind, member_parts, field_locations, field_at}
use Rattle.pbx_parse_locations.proofs.Added.{one_more, skips}
use Rattle.pbx_parse_locations.proofs.Skipped.{no_member}
use Rattle.pbx_parse_locations.proofs.field.add_members.Goals as goal
use Rattle.pbx_parse_locations.proofs.field.add_members.Goals.{in-Field+in_ok-path+in_ok-add_field+in_ok-index, in_default}

pub each-preserved : goal.each-preserved
each-preserved c =
    let xs = c.args.members.now in
    let x = c.member-item.result in
    elim c.match-member.branch [
      | in-Field+in_ok-path+in_ok-add_field+in_ok-index w ↦
          let here = ap (λ i. member_parts (member_of i)) w.in-Field.is in
          let parts : Typed → Parts = λ t. record { label = None; typed = t; tail = tail_of w.in-Field.tail } in
          rw (w.out-is, w.index-is)
          (one_more (field_at c.args.path.now 2) member_parts member_of xs c.each.member-index x _ _ _ _ _ _ _ _ c.each-test.true c.member-item.is here c.each.invariant w.in_ok-add_field.ensures (ap (λ t. field_locations w.in_ok-path.path (parts t)) w.type_of_kind.ensures ∙ ap (λ p. field_locations p (parts (type_of_kind (kind_of w.in-Field.kind)))) w.in_ok-path.ensures) w.in_ok-index.ensures)
      | in_default w ↦ rw (w.out-is, w.index-is) (skips (field_at c.args.path.now 2) member_parts member_of xs c.each.member-index x _ _ _ _ c.each-test.true c.member-item.is (no_member x w.in_default.not-Field) c.each.invariant)
    ]
