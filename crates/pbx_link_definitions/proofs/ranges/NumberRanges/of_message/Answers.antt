use Rattle.std.proofs.Common.{◌≡◌, ◌∙◌, ◌++◌, map, ap}
use Rattle.std.proofs.lemmas.Result.{IfOk-weaker}
use Rattle.pbx_desc_records.specs.declared.message.DescriptorProto.{out-DescriptorProto}
use Rattle.pbx_desc_records.specs.declared.message.ExtensionRange.{ExtensionRange}
use Rattle.pbx_desc_records.specs.declared.message.ReservedRange.{ReservedRange}
use Rattle.pbx_link_definitions.specs.Ranges.{in_ranges, extension_ranges, reserved_ranges}
use Rattle.pbx_link_definitions.specs.Spans.{span_range, span_of}
use Rattle.pbx_link_definitions.proofs.Spanned.{spans_have, both_have}
use Rattle.pbx_link_definitions.proofs.ranges.NumberRanges.of_message.Goals as goal

pub returns : goal.returns
returns c =
    let m = out-DescriptorProto c.args.message.now in
    let ext = map (λ (r : ExtensionRange). span_of r.start r.«end») m.extension_range in
    let res = map (λ (r : ReservedRange). span_of r.start r.«end») m.reserved_range in
    let first : c.add_extension_ranges.new.spans.items ≡ ext =
    c.in_ok-add_extension_ranges.ensures ∙ ap (λ ss. ss ++ map (λ (r : ExtensionRange). span_of r.start r.«end») c.as_slice.result.now)
    c.new-spans.ensures.items
    ∙ ap (map (λ (r : ExtensionRange). span_of r.start r.«end»)) c.as_slice.ensures in
    let spans : c.add_reserved_ranges.new.spans.items ≡ ext ++ res =
    c.in_ok-add_reserved_ranges.ensures ∙ ap (λ ss. ss ++ map (λ (r : ReservedRange). span_of r.start r.«end») c.as_slice-2.result.now) first
    ∙ ap (λ rs. ext ++ map (λ (r : ReservedRange). span_of r.start r.«end») rs) c.as_slice-2.ensures in
    IfOk-weaker c.number_ranges.result _ _
    (λ made h number. h number ∙ ap (λ ss. in_ranges (map span_range ss) number) spans
    ∙ both_have ext res (extension_ranges c.args.message.now) (reserved_ranges c.args.message.now) number
    (spans_have (λ (r : ExtensionRange). r.start) (λ r. r.«end») m.extension_range number) (spans_have (λ (r : ReservedRange). r.start) (λ r.
    r.«end») m.reserved_range number))
    c.number_ranges.ensures
