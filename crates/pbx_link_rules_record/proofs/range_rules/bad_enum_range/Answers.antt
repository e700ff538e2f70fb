use Rattle.std.proofs.Common.{◌≡◌, ◌∙◌, ◌<◌, ◌||◌, ◌++◌, ◌∷◌, [], List, map, length, get_or, Some, None, pos, ap, sym, subst}
use Rattle.std.specs.Prelude.{Contains}
use Rattle.pbx_desc_records.specs.declared.enumeration.EnumDescriptorProto.{EnumDescriptorProto}
use Rattle.pbx_link_definitions.specs.Definitions.{Place, Part}
use Rattle.pbx_link_definitions.specs.Ranges.{Range}
use Rattle.pbx_link_definitions.specs.Found.{IsIndex, is_earlier}
use Rattle.pbx_link_rules_record.specs.RangeRules.{is_empty_range, share_number, enum_range, enum_ranges, bad_enum_ranges}
use Rattle.pbx_link_rules_record.proofs.Among.{items_are, place_at_index}
use Rattle.pbx_link_rules_record.proofs.ItemPlaces.{ranges_some, ranges_none}
use Rattle.pbx_link_rules_record.proofs.range_rules.bad_enum_range.Goals as goal

abbrev own : EnumDescriptorProto → List Range
own e = map enum_range e.reserved_range

pub returns-in-Some : goal.returns-in-Some
returns-in-Some c =
    let e = c.args.part.now in
    let rs = c.as_slice.result.now in
    let i = c.in-Some.index in
    let is : rs ≡ own e.item = c.as_slice.ensures ∙ c.in_ok-ranges.ensures ∙ ap own c.item.ensures in
    let d : Part Range = record { scope = []; place = []; index = 0; item = record { start = pos 0; «end» = None } } in
    let h : IsIndex (λ k r. is_empty_range r || is_earlier share_number rs k r) rs (Some i) = subst (IsIndex (λ k r. is_empty_range r || is_earlier share_number rs k r) rs) c.in-Some.is c.in_ok-index.ensures in
    let at : c.in_ok-place_in-in-Some.field-0 ≡ e.place ++ pos 4 ∷ pos i ∷ [] = c.in_ok-place_in-in-Some.ensures ∙ ap (λ (p : Place). p ++ pos 4 ∷ pos i ∷ []) c.place.ensures in
    let there : (get_or (enum_ranges e) i d).place ≡ e.place ++ pos 4 ∷ pos i ∷ [] = place_at_index [] e.place 4 (own e.item) i d (subst (λ (l : List Range). i < length l) is h.0) in
    subst (Contains (bad_enum_ranges e)) (there ∙ sym at) (ranges_some is_empty_range (enum_ranges e) rs i d (is ∙ sym (items_are [] e.place 4 (own e.item))) h)

pub returns : goal.returns
returns c =
    let e = c.args.part.now in
    let rs = c.as_slice.result.now in
    let is : rs ≡ own e.item = c.as_slice.ensures ∙ c.in_ok-ranges.ensures ∙ ap own c.item.ensures in
    ranges_none is_empty_range (enum_ranges e) rs (is ∙ sym (items_are [] e.place 4 (own e.item))) (subst (IsIndex (λ k r. is_empty_range r || is_earlier share_number rs k r) rs) c.in-None.is c.in_ok-index.ensures)
