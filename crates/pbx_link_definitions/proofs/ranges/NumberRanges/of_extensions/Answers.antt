use Rattle.std.proofs.Common.{◌≡◌, ◌∙◌, ◌++◌, map, ap}
use Rattle.std.proofs.lemmas.Result.{IfOk-weaker}
use Rattle.pbx_desc_records.specs.declared.message.DescriptorProto.{out-DescriptorProto}
use Rattle.pbx_desc_records.specs.declared.message.ExtensionRange.{ExtensionRange}
use Rattle.pbx_link_definitions.specs.Ranges.{in_ranges}
use Rattle.pbx_link_definitions.specs.Spans.{span_range, span_of}
use Rattle.pbx_link_definitions.proofs.Spanned.{spans_have}
use Rattle.pbx_link_definitions.proofs.ranges.NumberRanges.of_extensions.Goals as goal

pub returns : goal.returns
returns c =
    let ranges = (out-DescriptorProto c.args.message.now).extension_range in
    let spans : c.add_extension_ranges.new.spans.items ≡ map (λ (r : ExtensionRange). span_of r.start r.«end») ranges =
    c.in_ok-add_extension_ranges.ensures ∙ ap (λ ss. ss ++ map (λ (r : ExtensionRange). span_of r.start r.«end») c.as_slice.result.now)
    c.new-spans.ensures.items
    ∙ ap (map (λ (r : ExtensionRange). span_of r.start r.«end»)) c.as_slice.ensures in
    IfOk-weaker c.number_ranges.result _ _
    (λ made h number. h number ∙ ap (λ ss. in_ranges (map span_range ss) number) spans
    ∙ spans_have (λ (r : ExtensionRange). r.start) (λ r. r.«end») ranges number) c.number_ranges.ensures
