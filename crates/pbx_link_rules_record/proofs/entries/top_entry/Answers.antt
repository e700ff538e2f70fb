use Rattle.std.proofs.Common.{[], List, sym, subst}
use Rattle.std.specs.Prelude.{Contains}
use Rattle.pbx_desc_records.specs.declared.message.DescriptorProto.{DescriptorProto}
use Rattle.pbx_link_definitions.specs.Says.{is_entry}
use Rattle.pbx_link_definitions.specs.Definitions.{Place, Part, parts}
use Rattle.pbx_link_definitions.specs.Places.{places_where}
use Rattle.pbx_link_rules_record.proofs.ItemPlaces.{where_found_in, where_not_in, IsFound, IsNotFound}
use Rattle.pbx_link_rules_record.proofs.entries.top_entry.Goals as goal

pub returns-in_ok-place_in-in-Some : goal.returns-in_ok-place_in-in-Some
returns-in_ok-place_in-in-Some c = λ scope.
    subst (λ (p : Place). Contains (places_where (λ (m : Part DescriptorProto). is_entry m.item) (λ m. m.place) (parts scope [] 4 c.args.messages.now)) p) (sym c.in_ok-place_in-in-Some.ensures)
    (where_found_in scope [] 4 c.args.messages.now is_entry c.in-Some.index (subst (λ (l : List DescriptorProto). IsFound is_entry l c.in-Some.index) c.as_slice.ensures c.in-Some.ensures))

pub returns-in-None : goal.returns-in-None
returns-in-None c = λ scope. where_not_in scope [] 4 c.args.messages.now is_entry (subst (λ (l : List DescriptorProto). IsNotFound is_entry l) c.as_slice.ensures c.in-None.ensures)
