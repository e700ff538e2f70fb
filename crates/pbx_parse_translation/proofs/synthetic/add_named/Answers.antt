use Rattle.std.proofs.Common.{[]}
use Rattle.std.specs.List.{flat_map}
use Rattle.pbx_parse_tree.specs.View.{item_of}
use Rattle.pbx_parse_translation.specs.Messages.{names_in}
use Rattle.pbx_parse_translation.proofs.synthetic.add_named.Goals as goal

pub returns : goal.returns
returns c = c.add_synthetic.ensures (flat_map (λ i. names_in (item_of i)) c.args.items.now) (c.in_ok-add_all_names.ensures [] c.new-scope.ensures)
