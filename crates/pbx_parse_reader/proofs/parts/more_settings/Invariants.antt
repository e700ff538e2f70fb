use Rattle.std.proofs.Common.{◌≡◌, ◌≤◌, ◌++◌, ◌∷◌, [], List, length, map, true, false}
use Rattle.pbx_parse_token.specs.declared.token.Span.{Span}
use Rattle.pbx_parse_token.specs.Tokens.{Token}
use Rattle.pbx_parse_tree.specs.Tree.{Setting}
use Rattle.pbx_parse_tree.specs.Conditions.{all_fit}
use Rattle.pbx_parse_tree.specs.Fits.{allowed as allowed_of}
use Rattle.pbx_parse_tree.specs.Grammar.{list_then, next_then, setting_then}
use Rattle.pbx_parse_tree.specs.View.{setting_of, next_of}
use Rattle.pbx_parse_reader.specs.View.{left, sees_mark}
use Rattle.pbx_parse_reader.proofs.parts.more_settings.Given as goal

abbrev pub invariant-each : goal.invariant-each
invariant-each l =
    let fits = all_fit (allowed_of l.allowed) in
    let spelled = next_then 44 setting_then in
    let front = map (next_of setting_of) l.more.items in
    let first = setting_of l.first in
    record {
      found : left l.fn.cursor ≡ list_then spelled front (left l.cursor);
      seen : map setting_of l.seen.items ++ setting_of l.last ∷ [] ≡ first ∷ map (λ x. x.1) front;
      fit : fits (first ∷ map (λ x. x.1) front) ≡ true;
      only : (xs : List (Span × Setting)) (rest : List Token) → fits (first ∷ map (λ x. x.1) xs) ≡ true → sees_mark 44 rest ≡ false → left l.fn.cursor ≡ list_then spelled xs rest
          → (us : List (Span × Setting)) × (xs ≡ front ++ us) × (left l.cursor ≡ list_then spelled us rest);
      shorter : length (left l.cursor) ≤ length (left l.fn.cursor);
    }

abbrev pub decreases-each : goal.decreases-each
decreases-each l = length (left l.cursor)
