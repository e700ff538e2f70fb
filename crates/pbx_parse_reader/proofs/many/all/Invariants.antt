use Rattle.std.proofs.Common.{◌≡◌, ◌≤◌, ◌++◌, List, length, map, true}
use Rattle.std.specs.List.{list_all}
use Rattle.pbx_parse_token.specs.Tokens.{Token}
use Rattle.pbx_parse_tree.specs.Grammar.{list_then}
use Rattle.pbx_parse_reader.specs.View.{left}
use Rattle.pbx_parse_reader.proofs.many.all.Given as goal

abbrev pub invariant-each : goal.invariant-each
invariant-each g l =
    let p = g.P.Production in
    let fits = p.fits l.version in
    let front = map p.view l.items.items in
    record {
      found : left l.fn.cursor ≡ list_then p.spelled front (left l.cursor);
      fit : list_all fits front ≡ true;
      only : ((after : List Token) → p.follows after ≡ true) → (ts : List p.Tree) (rest : List Token) → list_all fits ts ≡ true → g.P.ListItem.stop rest ≡ true → left l.fn.cursor ≡ list_then p.spelled ts rest
          → (us : List p.Tree) × (ts ≡ front ++ us) × (list_all fits us ≡ true) × (left l.cursor ≡ list_then p.spelled us rest);
      shorter : length (left l.cursor) ≤ length (left l.fn.cursor);
    }

abbrev pub decreases-each : goal.decreases-each
decreases-each g l = length (left l.cursor)
