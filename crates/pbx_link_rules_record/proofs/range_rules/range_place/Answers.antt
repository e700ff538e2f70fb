use Rattle.std.proofs.Common.{◌≡◌, ◌∙◌, ◌++◌, ◌<◌, ◌≤◌, ◌-◌, ℕ, [], ◌∷◌, pos, length, ap, sym, subst}
use Rattle.std.proofs.lemmas.Result.{IfOk-weaker}
use Rattle.pbx_desc_records.specs.declared.message.DescriptorProto.{DescriptorProto, out-DescriptorProto}
use Rattle.pbx_link_definitions.specs.Definitions.{Place}
use Rattle.pbx_link_rules_record.proofs.ItemPlaces.{range_in_first, range_in_other}
use Rattle.pbx_link_rules_record.proofs.range_rules.range_place.Goals as goal

pub returns-then-index-count : goal.returns-then-index-count
returns-then-index-count c =
    let m = c.args.part.now in
    let count : c.len-count.result ≡ length (out-DescriptorProto m.item).extension_range = c.len-count.ensures ∙ ap (λ (d : DescriptorProto). length (out-DescriptorProto d).extension_range) c.item.ensures in
    IfOk-weaker c.place_in.result _ _
    (λ place at r lt. at ∙ ap (λ (p : Place). p ++ pos 5 ∷ pos c.args.index ∷ []) c.place.ensures ∙ sym (range_in_first m c.args.index r (subst (λ (n : ℕ). c.args.index < n) count c.if-index-count.true)))
    c.place_in.ensures

pub returns : goal.returns
returns c =
    let m = c.args.part.now in
    let count : c.len-count.result ≡ length (out-DescriptorProto m.item).extension_range = c.len-count.ensures ∙ ap (λ (d : DescriptorProto). length (out-DescriptorProto d).extension_range) c.item.ensures in
    IfOk-weaker c.place_in-2.result _ _
    (λ place at r lt. at ∙ ap (λ (p : Place). p ++ pos 9 ∷ pos (c.args.index - c.len-count.result) ∷ []) c.place-2.ensures ∙ ap (λ (n : ℕ). m.place ++ pos 9 ∷ pos (c.args.index - n) ∷ []) count
    ∙ sym (range_in_other m c.args.index r (subst (λ (n : ℕ). n ≤ c.args.index) count c.if-index-count.false) lt))
    c.place_in-2.ensures
