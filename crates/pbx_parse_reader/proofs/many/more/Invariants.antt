use Rattle.std.proofs.Common.{◌≡◌, ◌≤◌, ◌++◌, ◌∷◌, List, length, map, true, false}
use Rattle.std.specs.List.{list_all}
use Rattle.pbx_parse_token.specs.declared.token.Span.{Span}
use Rattle.pbx_parse_token.specs.Tokens.{Token}
use Rattle.pbx_parse_tree.specs.Grammar.{marked, list_then, next_then}
use Rattle.pbx_parse_tree.specs.View.{next_of}
use Rattle.pbx_parse_reader.specs.View.{left, sees_mark, next_fits}
use Rattle.pbx_parse_reader.proofs.many.more.Given as goal

abbrev pub invariant-each : goal.invariant-each
invariant-each g l =
    let p = g.P.Production in
    let fits = next_fits p.fits l.version in
    let spelled = next_then l.mark p.spelled in
    let front = map (next_of p.view) l.items.items in
    record {
      found : left l.fn.cursor ≡ list_then spelled front (left l.cursor);
      fit : list_all fits front ≡ true;
      only : ((s : Span) (after : List Token) → p.follows (marked l.mark s ∷ after) ≡ true) → (ts : List (Span × p.Tree)) (rest : List Token) → list_all fits ts ≡ true
          → p.follows rest ≡ true → sees_mark l.mark rest ≡ false → left l.fn.cursor ≡ list_then spelled ts rest
          → (us : List (Span × p.Tree)) × (ts ≡ front ++ us) × (list_all fits us ≡ true) × (left l.cursor ≡ list_then spelled us rest);
      shorter : length (left l.cursor) ≤ length (left l.fn.cursor);
    }

abbrev pub decreases-each : goal.decreases-each
decreases-each g l = length (left l.cursor)
