use Rattle.std.proofs.Common.{◌∙◌, ◌++◌, sym, ap}
use Rattle.std.proofs.lemmas.Result.{on_ok_weaker}
use Rattle.pbx_parse_tree.specs.declared.tree.EnumItem.TheVariants as enum_items
use Rattle.pbx_parse_tree.specs.View.{literal_of, enum_item_of}
use Rattle.pbx_parse_translation.specs.Texts.{string_text}
use Rattle.pbx_parse_translation.specs.Enums.{reserved_names_in}
use Rattle.pbx_parse_translation.proofs.Lists.{listed_seen}
use Rattle.pbx_parse_translation.proofs.enums.EnumItemGivesText.give.Goals as goal

pub returns-in-Reserved-Names : goal.returns-in-Reserved-Names
returns-in-Reserved-Names c =
    let it = c.in-Reserved-Names in
    let inner = rw it.is at it.field-0-is in
    on_ok_weaker c.add_each.result
    (λ e. e
    ∙ ap (λ ts. c.args.records.now ++ ts) (listed_seen string_text literal_of it.names)
    ∙ ap (λ i. c.args.records.now ++ reserved_names_in (enum_item_of i)) (sym (it.is ∙ ap enum_items.Reserved inner)))
    c.add_each.ensures
