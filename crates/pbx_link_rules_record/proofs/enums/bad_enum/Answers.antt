use Rattle.std.proofs.Common.{◌≡◌, ◌∙◌, ◌++◌, ◌∷◌, [], ℕ, List, Bool, false, Option, Some, None, pos, ap, sym, subst}
use Rattle.std.specs.Prelude.{Contains}
use Rattle.std.proofs.lemmas.Bool.{false≢true}
use Rattle.pbx_desc_records.specs.declared.enumeration.EnumDescriptorProto.{EnumDescriptorProto}
use Rattle.pbx_desc_records.specs.declared.enumeration.EnumValueDescriptorProto.{EnumValueDescriptorProto}
use Rattle.pbx_link_definitions.specs.Definitions.{Place}
use Rattle.pbx_link_definitions.specs.Found.{IsIndex}
use Rattle.pbx_link_rules_record.specs.EntryRules.{is_empty}
use Rattle.pbx_link_rules_record.specs.EnumRules.{bad_enum, breaks_value}
use Rattle.pbx_link_rules_record.proofs.ItemPlaces.{values_none, values_some}
use Rattle.pbx_link_rules_record.proofs.enums.bad_enum.Goals as goal

abbrev empty_in : EnumDescriptorProto → Bool
empty_in d = is_empty d.value

not_nil : (vs : List EnumValueDescriptorProto) → false ≡ is_empty vs → vs ≡ [] → ⊥
not_nil vs e nil = false≢true (e ∙ ap (λ (l : List EnumValueDescriptorProto). is_empty l) nil)

-- what is said of a record that is lent
lent : (proto3 : Bool) (d e : EnumDescriptorProto) (o p : Option ℕ) → d ≡ e → o ≡ p → IsIndex (breaks_value proto3 d) d.value o → IsIndex (breaks_value proto3 e) e.value p
lent proto3 d e o p same is h = subst (λ (x : EnumDescriptorProto). IsIndex (breaks_value proto3 x) x.value p) same (subst (IsIndex (breaks_value proto3 d) d.value) is h)

pub returns-in_ok-place_in-in-Some : goal.returns-in_ok-place_in-in-Some
returns-in_ok-place_in-in-Some c =
    let e = c.args.part.now in
    let i = c.in-Some.index in
    let d : EnumValueDescriptorProto = record { name = None; number = None; options = None; unknown = [] } in
    let at : c.in_ok-place_in-in-Some.field-0 ≡ e.place ++ pos 2 ∷ pos i ∷ [] = c.in_ok-place_in-in-Some.ensures ∙ ap (λ (p : Place). p ++ pos 2 ∷ pos i ∷ []) c.place-in-Some.ensures in
    subst (Contains (bad_enum c.args.proto3 e)) (sym at)
    (values_some c.args.proto3 e i d (lent c.args.proto3 c.item-declared.result.now e.item c.in_ok-index.field-0 (Some i) c.item-declared.ensures c.in-Some.is c.in_ok-index.ensures))

pub returns-in-None : goal.returns-in-None
returns-in-None c =
    let e = c.args.part.now in
    values_none c.args.proto3 e (not_nil e.item.value (c.if-is_empty.ensures ∙ ap empty_in c.item-declared.ensures))
    (lent c.args.proto3 c.item-declared.result.now e.item c.in_ok-index.field-0 None c.item-declared.ensures c.in-None.is c.in_ok-index.ensures)
