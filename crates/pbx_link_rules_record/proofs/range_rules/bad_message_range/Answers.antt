use Rattle.std.proofs.Common.{◌≡◌, ◌∙◌, ◌⊎◌, ◌||◌, ◌++◌, ◌∷◌, [], Bool, true, false, pos, inl, inr, ap, sym, subst}
use Rattle.std.specs.Prelude.{Contains}
use Rattle.pbx_desc_records.specs.declared.message.DescriptorProto.{DescriptorProto, out-DescriptorProto}
use Rattle.pbx_link_definitions.specs.Definitions.{Place}
use Rattle.pbx_link_definitions.specs.Ranges.{all_ranges}
use Rattle.pbx_link_definitions.specs.Found.{IsIndex, is_earlier}
use Rattle.pbx_link_rules_record.specs.EntryRules.{is_empty}
use Rattle.pbx_link_rules_record.specs.RangeRules.{is_bad_range, share_number, bad_message_ranges}
use Rattle.pbx_link_rules_record.proofs.ItemPlaces.{first_extension, message_range_some, message_range_none}
use Rattle.pbx_link_rules_record.proofs.range_rules.bad_message_range.Goals as goal
use Rattle.pbx_link_rules_record.proofs.range_rules.bad_message_range.Goals.{else-proto3-via-then-proto3+else-not-is_empty, else-proto3-via-else-proto3}

abbrev empty_in : DescriptorProto → Bool
empty_in d = is_empty (out-DescriptorProto d).extension_range

pub returns-then-not-is_empty : goal.returns-then-not-is_empty
returns-then-not-is_empty c =
    let m = c.args.part.now in
    let at : c.in_ok-place_in.field-0 ≡ m.place ++ pos 5 ∷ pos 0 ∷ [] = c.in_ok-place_in.ensures ∙ ap (λ (p : Place). p ++ pos 5 ∷ pos 0 ∷ []) c.place.ensures in
    subst (Contains (bad_message_ranges c.args.proto3 m)) (sym at)
    (first_extension m c.args.proto3 c.if-proto3.true (sym (ap empty_in c.item-message.ensures) ∙ sym c.is_empty.ensures ∙ c.if-not-is_empty.true))

pub returns-in-Some : goal.returns-in-Some
returns-in-Some c =
    let m = c.args.part.now in
    let rs = c.as_slice.result.now in
    let is : rs ≡ all_ranges m.item = c.as_slice.ensures ∙ c.in_ok-ranges.ensures ∙ ap all_ranges c.item-message.ensures in
    message_range_some m c.args.proto3 rs c.in-Some.index c.in_ok-range_place-in-Some.field-0 is
    (subst (IsIndex (λ k r. is_bad_range r || is_earlier share_number rs k r) rs) c.in-Some.is c.in_ok-index.ensures) c.in_ok-range_place-in-Some.ensures

pub returns : goal.returns
returns c =
    let m = c.args.part.now in
    let rs = c.as_slice.result.now in
    let is : rs ≡ all_ranges m.item = c.as_slice.ensures ∙ c.in_ok-ranges.ensures ∙ ap all_ranges c.item-message.ensures in
    let off : (c.args.proto3 ≡ false) ⊎ (empty_in m.item ≡ true) = elim c.else-proto3.branch [
      | else-proto3-via-then-proto3+else-not-is_empty w ↦ inr (sym (ap empty_in c.item-message.ensures) ∙ sym w.is_empty.ensures ∙ w.if-not-is_empty.false)
      | else-proto3-via-else-proto3 w ↦ inl w.if-proto3.false
    ] in
    message_range_none m c.args.proto3 rs is (subst (IsIndex (λ k r. is_bad_range r || is_earlier share_number rs k r) rs) c.in-None.is c.in_ok-index.ensures) off
