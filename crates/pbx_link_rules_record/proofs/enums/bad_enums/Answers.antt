use Rattle.std.proofs.Common.{◌∙◌, List, Bool, ap, subst}
use Rattle.std.specs.Prelude.{Contains}
use Rattle.std.specs.List.{flat_map}
use Rattle.pbx_desc_records.specs.declared.enumeration.EnumDescriptorProto.{EnumDescriptorProto}
use Rattle.pbx_link_definitions.specs.Says.{is_proto3}
use Rattle.pbx_link_definitions.specs.Definitions.{Part, enums}
use Rattle.pbx_link_rules_record.specs.EnumRules.{bad_enum}
use Rattle.pbx_link_rules_record.proofs.Walked.{flat_here}
use Rattle.pbx_link_rules_record.proofs.enums.bad_enums.Goals as goal

pub returns-in-Some : goal.returns-in-Some
returns-in-Some c =
    let b = c.is_proto3-proto3.result in
    let es = c.enums-part-items.result.now in
    let found : Contains (flat_map (bad_enum b) es) c.in-Some.place =
    flat_here (bad_enum b) es c.loop-part.part-index c.part-item.result (flat_map (bad_enum b) es) c.in_ok-place.field-0 c.in-Some.place c.loop-part.invariant c.loop-part-test.true c.part-item.is c.in_ok-place.ensures c.in-Some.is in
    subst (λ (p : Bool). Contains (flat_map (bad_enum p) (enums c.args.parts.now)) c.in-Some.place) (c.is_proto3-proto3.ensures ∙ ap is_proto3 c.file.ensures)
    (subst (λ (l : List (Part EnumDescriptorProto)). Contains (flat_map (bad_enum b) l) c.in-Some.place) c.enums-part-items.ensures found)
