use Rattle.std.proofs.Common.{◌∙◌, ◌++◌, List, map, ap}
use Rattle.pbx_desc_records.specs.declared.message.DescriptorProto.{out-DescriptorProto}
use Rattle.pbx_desc_records.specs.declared.message.ExtensionRange.{ExtensionRange}
use Rattle.pbx_desc_records.specs.declared.message.ReservedRange.{ReservedRange}
use Rattle.pbx_link_definitions.specs.Says.{signed_or_zero}
use Rattle.pbx_link_definitions.specs.Ranges.{Range}
use Rattle.pbx_link_rules_record.proofs.ranges.message_ranges.Goals as goal

abbrev left : ExtensionRange → Range
left r = record { start = signed_or_zero r.start; «end» = r.«end» }

abbrev reserved : ReservedRange → Range
reserved r = record { start = signed_or_zero r.start; «end» = r.«end» }

pub returns : goal.returns
returns c =
    c.in_ok-add_ranges-2.ensures
    ∙ ap (λ (rs : List Range). rs ++ map reserved c.as_slice-2.result.now) c.in_ok-add_ranges.ensures
    ∙ ap (λ (rs : List Range). (rs ++ map left c.as_slice.result.now) ++ map reserved c.as_slice-2.result.now) c.new-ranges.ensures
    ∙ ap (λ (rs : List ExtensionRange). map left rs ++ map reserved c.as_slice-2.result.now) c.as_slice.ensures
    ∙ ap (λ (rs : List ReservedRange). map left (out-DescriptorProto c.args.message.now).extension_range ++ map reserved rs) c.as_slice-2.ensures
