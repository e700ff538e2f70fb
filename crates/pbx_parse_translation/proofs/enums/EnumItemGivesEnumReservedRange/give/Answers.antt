use Rattle.std.proofs.Common.{◌∙◌, ◌++◌, sym, ap}
use Rattle.std.proofs.lemmas.Result.{on_ok_weaker}
use Rattle.pbx_parse_tree.specs.declared.tree.EnumItem.TheVariants as enum_items
use Rattle.pbx_parse_tree.specs.View.{range_of, enum_number_of, enum_item_of}
use Rattle.pbx_parse_translation.specs.Enums.{enum_range, range_records}
use Rattle.pbx_parse_translation.proofs.Lists.{listed_seen}
use Rattle.pbx_parse_translation.proofs.enums.EnumItemGivesEnumReservedRange.give.Goals as goal

pub returns-in-Reserved-Ranges : goal.returns-in-Reserved-Ranges
returns-in-Reserved-Ranges c =
    let it = c.in-Reserved-Ranges in
    let inner = rw it.is at it.field-0-is in
    on_ok_weaker c.add_each.result
    (λ e. e
    ∙ ap (λ rs. c.args.records.now ++ rs) (listed_seen enum_range (range_of enum_number_of) it.ranges)
    ∙ ap (λ i. c.args.records.now ++ range_records (enum_item_of i)) (sym (it.is ∙ ap enum_items.Reserved inner)))
    c.add_each.ensures
