use Rattle.std.proofs.Common.{◌≡◌, ◌≤◌, ◌++◌, List, length, map, true}
use Rattle.pbx_parse_token.specs.Tokens.{Token}
use Rattle.pbx_parse_tree.specs.Grammar.{list_then}
use Rattle.pbx_parse_reader.specs.Blocks.{nothing, before_of, all_behind}
use Rattle.pbx_parse_reader.specs.View.{left}
use Rattle.pbx_parse_reader.proofs.blocks.block.Given as goal

abbrev pub invariant-each : goal.invariant-each
invariant-each g l =
    let p = g.P.BlockItem in
    let front = map p.view l.items.items in
    record {
      found : left l.fn.cursor ≡ list_then p.spelled front (left l.cursor);
      fit : (us : List p.Tree) → all_behind (p.behind l.version) p.after (before_of l.seen) us ≡ true → all_behind (p.behind l.version) p.after nothing (front ++ us) ≡ true;
      only : (ts : List p.Tree) (rest : List Token) → all_behind (p.behind l.version) p.after nothing ts ≡ true → p.stop rest ≡ true → left l.fn.cursor ≡ list_then p.spelled ts rest
          → (us : List p.Tree) × (ts ≡ front ++ us) × (all_behind (p.behind l.version) p.after (before_of l.seen) us ≡ true) × (left l.cursor ≡ list_then p.spelled us rest);
      shorter : length (left l.cursor) ≤ length (left l.fn.cursor);
    }

abbrev pub decreases-each : goal.decreases-each
decreases-each g l = length (left l.cursor)
