use Rattle.std.proofs.Common.{◌≡◌, ◌∙◌, ◌++◌, ◌∷◌, [], ℕ, List, pos, Option, subst, arith}
use Rattle.std.specs.List.{flat_map}
use Rattle.std.proofs.lemmas.List.{at_drop_all}
use Rattle.pbx_desc_records.specs.declared.service.ServiceDescriptorProto.{ServiceDescriptorProto}
use Rattle.pbx_link_definitions.specs.Definitions.{Place, part, parts}
use Rattle.pbx_link_definitions.specs.Places.{IsAmong}
use Rattle.pbx_link_rules_record.specs.OptionRules.{uninterpreted_in_service}
use Rattle.pbx_link_rules_record.proofs.Among.{part_at_index, length-parts}
use Rattle.pbx_link_rules_record.proofs.Walked.{flat_here, flat_next}
use Rattle.pbx_link_rules_record.proofs.uninterpreted.in_services.Goals as goal

-- what a search in a service says of it as a part
as_part : (scope : List ℕ) (i : ℕ) (s : ServiceDescriptorProto) (pl place : Place) (o : Option Place) → pl ≡ place → place ≡ [] ++ pos 6 ∷ pos i ∷ []
    → ((scope : List ℕ) (index : ℕ) → IsAmong (uninterpreted_in_service (record { scope = scope; place = pl; index = index; item = s })) o) → IsAmong (uninterpreted_in_service (part scope [] 6 i s)) o
as_part scope i s pl place o same at h =
    subst (λ (q : Place). IsAmong (uninterpreted_in_service (record { scope = scope; place = q; index = i; item = s })) o) (same ∙ at) (h scope i)

pub returns-in-Some : goal.returns-in-Some
returns-in-Some c = λ scope.
    let ss = c.args.services.now in let i = c.loop-index.index in let s = c.index-services-index.result in
    flat_here uninterpreted_in_service (parts scope [] 6 ss) i (part scope [] 6 i s) _ c.in_ok-place-2.field-0 c.in-Some.place (c.loop-index.invariant scope)
    (omega (arith, c.loop-index-test.true, length-parts scope [] 6 ss)) (part_at_index scope [] 6 ss i s (part scope [] 6 i s) c.loop-index-test.true c.index-services-index.is)
    (as_part scope i s c.as_slice.result.now c.in_ok-place.place c.in_ok-place-2.field-0 c.as_slice.ensures c.in_ok-place.ensures c.in_ok-place-2.ensures) c.in-Some.is

pub loop-index-preserved : goal.loop-index-preserved
loop-index-preserved c = λ scope.
    let ss = c.args.services.now in let i = c.loop-index.index in let s = c.index-services-index.result in
    flat_next uninterpreted_in_service (parts scope [] 6 ss) i (part scope [] 6 i s) _ c.in_ok-place-2.field-0 (c.loop-index.invariant scope)
    (omega (arith, c.loop-index-test.true, length-parts scope [] 6 ss)) (part_at_index scope [] 6 ss i s (part scope [] 6 i s) c.loop-index-test.true c.index-services-index.is)
    (as_part scope i s c.as_slice.result.now c.in_ok-place.place c.in_ok-place-2.field-0 c.as_slice.ensures c.in_ok-place.ensures c.in_ok-place-2.ensures) c.in_default.is

pub returns : goal.returns
returns c = λ scope.
    let ss = c.args.services.now in
    c.loop-index.invariant scope ∙ at_drop_all (flat_map uninterpreted_in_service) (parts scope [] 6 ss) c.loop-index.index (omega (arith, c.loop-index-test.false, length-parts scope [] 6 ss))
