use Rattle.std.proofs.Common.{◌≡◌, ◌≤◌, ◌+◌, ◌*◌, List, length, map, true}
use Rattle.pbx_parse_token.specs.Tokens.{Token}
use Rattle.pbx_parse_tree.specs.Tree.{Body}
use Rattle.pbx_parse_tree.specs.Grammar.{body_then}
use Rattle.pbx_parse_tree.specs.declared.options.OptionPlace.TheVariants as places
use Rattle.pbx_parse_tree.specs.Conditions.{option_fits, all_fit}
use Rattle.pbx_parse_tree.specs.View.{setting_of, item_of, all_before}
use Rattle.pbx_parse_reader.specs.Bodies.{message_fits}
use Rattle.pbx_parse_reader.specs.View.{left, ends_block}
use Rattle.pbx_parse_reader.proofs.Steps.{body_behind}
use Rattle.pbx_parse_reader.proofs.messages.+body.Given as goal

abbrev pub decreases-one_item : goal.decreases-one_item
decreases-one_item l = 3 * l.levels

abbrev pub decreases-items : goal.decreases-items
decreases-items l = 3 * l.levels + 1

abbrev pub decreases-message : goal.decreases-message
decreases-message l = 3 * l.levels + 2

abbrev pub invariant-items-each : goal.invariant-items-each
invariant-items-each l =
    let front = map item_of l.items.items in
    record {
      found : (b : Body) (rest : List Token) → left l.cursor ≡ body_then b rest → left l.fn.cursor ≡ body_then (all_before front b) rest;
      fits : (b : Body) → body_behind l.version l.levels (map setting_of l.seen.items) b ≡ true → message_fits l.version l.levels (all_before front b) ≡ true;
      set : all_fit (option_fits places.Message) (map setting_of l.seen.items) ≡ true;
      only : (b : Body) (rest : List Token) → message_fits l.version l.levels b ≡ true → ends_block rest ≡ true → left l.fn.cursor ≡ body_then b rest
          → (d : Body) × (b ≡ all_before front d) × (body_behind l.version l.levels (map setting_of l.seen.items) d ≡ true) × (left l.cursor ≡ body_then d rest);
      shorter : length (left l.cursor) ≤ length (left l.fn.cursor);
    }

abbrev pub decreases-items-each : goal.decreases-items-each
decreases-items-each l = length (left l.cursor)
