use Rattle.std.proofs.Common.{◌≡◌, ◌++◌, List, OnOk, subst, sym, ap, ◌∙◌}
use Rattle.pbx_desc_records.specs.declared.message.ReservedRange.{ReservedRange}
use Rattle.pbx_parse_tree.specs.declared.tree.RangeNumber.{RangeNumber}
use Rattle.pbx_parse_tree.specs.declared.tree.Reserved.{Reserved}
use Rattle.pbx_parse_tree.specs.View.{range_of, range_number_of, reserved_of}
use Rattle.pbx_parse_translation.specs.Messages.{reserved_range, ranges_reserved}
use Rattle.pbx_parse_translation.proofs.Lists.{listed_seen}
use Rattle.pbx_parse_translation.proofs.messages.add_reserved_ranges.Goals as goal

pub returns-in-Ranges : goal.returns-in-Ranges
returns-in-Ranges c =
    subst (λ (rs : List ReservedRange). OnOk c.add_each.result (c.add_each.new.records ≡ c.args.records.now ++ rs))
    (listed_seen reserved_range (range_of range_number_of) c.in-Ranges.ranges ∙ sym (ap (λ (r : Reserved RangeNumber). ranges_reserved (reserved_of range_number_of r)) c.in-Ranges.is))
    c.add_each.ensures
