use Rattle.std.proofs.Common.{◌∙◌, ◌++◌, ℕ, List, ap}
use Rattle.pbx_desc_records.specs.declared.field.FieldDescriptorProto.{FieldDescriptorProto}
use Rattle.pbx_parse_tree.specs.declared.tree.Member.{Member}
use Rattle.pbx_parse_tree.specs.View.{member_of}
use Rattle.pbx_parse_translation.specs.Fields.{member_records}
use Rattle.pbx_parse_translation.proofs.Lists.{flat_seen, none_left}
use Rattle.pbx_parse_translation.proofs.fields.add_members.Goals as goal

abbrev seen_member : ℕ → Member → List FieldDescriptorProto
seen_member oneof m = member_records oneof (member_of m)

pub returns : goal.returns
returns c =
    let members = c.args.members.now in
    none_left (seen_member c.args.oneof) members c.each.member-index c.each.records _ c.each-test.false c.each.invariant
    ∙ ap (λ rs. c.args.records.now ++ rs) (flat_seen (member_records c.args.oneof) member_of members)
