use Rattle.std.proofs.Common.{refl, ap, ◌∙◌}
use Rattle.pbx_parse_tree.specs.View.{head_of, map_of, item_of}
use Rattle.pbx_parse_tree.specs.Tree.{item_map}
use Rattle.pbx_parse_locations.proofs.Items.{body_item_of_message, body_item_of_map, plain_is}
use Rattle.pbx_parse_locations.proofs.block.nested_message.Goals as goal

pub returns-in-Message : goal.returns-in-Message
returns-in-Message c =
    let m = c.in-Message in
    record {
      head = head_of m.head;
      is = rw c.as_slice.ensures.value (ap item_of m.is ∙ body_item_of_message m.head m.items m.close);
      keyword = refl;
      name = refl;
    }

pub returns-in-Map : goal.returns-in-Map
returns-in-Map c = record {
  item = item_map (map_of c.in-Map.field-0);
  is = ap item_of c.in-Map.is ∙ body_item_of_map c.in-Map.field-0;
  made = refl;
}

pub returns-in_default : goal.returns-in_default
returns-in_default c = plain_is c.args.item.now c.in_default.not-Message c.in_default.not-Map
