use Rattle.std.proofs.Common.{◌≡◌, ◌∙◌, ℕ, List, ap, subst, bytes_eq}
use Rattle.std.specs.Prelude.{position}
use Rattle.std.specs.List.{list_any}
use Rattle.pbx_desc_records.specs.declared.enumeration.EnumValueDescriptorProto.{EnumValueDescriptorProto}
use Rattle.pbx_link_definitions.specs.Names.{among, text_or_empty}
use Rattle.pbx_link_definitions.proofs.Indexes.{position_is_index, index_same}
use Rattle.pbx_link_rules_record.proofs.enums.reserved_name.Goals as goal

pub returns : goal.returns
returns c =
    let e = c.args.declared.now in
    let keys = c.in_ok-names.names.keys in
    index_same (λ i v. list_any (λ k. bytes_eq (text_or_empty v.name) k.now) keys) (λ i v. among e.reserved_name (text_or_empty v.name)) e.value c.first_named.result
    (λ i v. c.in_ok-names.ensures (text_or_empty v.name) ∙ ap (λ (ns : List (List ℕ)). among ns (text_or_empty v.name)) c.as_slice.ensures)
    (position_is_index (λ v. list_any (λ k. bytes_eq (text_or_empty v.name) k.now) keys) e.value c.first_named.result
    (subst (λ (vs : List EnumValueDescriptorProto). c.first_named.result ≡ position (λ v. list_any (λ k. bytes_eq (text_or_empty v.name) k.now) keys) vs) c.as_slice-2.ensures c.first_named.ensures))
