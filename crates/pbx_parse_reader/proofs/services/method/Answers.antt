use Rattle.std.proofs.Common.{◌∙◌, ◌∷◌, ◌&&◌, List, codes, ap}
use Rattle.std.proofs.lemmas.Result.{err_from_is_err_and}
use Rattle.pbx_parse_token.specs.Tokens.{Token}
use Rattle.pbx_parse_tree.specs.Grammar.{worded, named, method_type_then}
use Rattle.pbx_parse_tree.specs.Conditions.{method_type_fits, method_end_fits}
use Rattle.pbx_parse_tree.specs.View.{name_of, method_type_of}
use Rattle.pbx_parse_reader.proofs.Lists.{both}
use Rattle.pbx_parse_reader.proofs.services.method.Goals as goal

pub returns-in_err-returns-clause-only : goal.returns-in_err-returns-clause-only
returns-in_err-returns-clause-only c = λ m rest fit e.
    let q = err_from_is_err_and c.from_residual-in_err-returns.result c.from_residual-in_err-returns.ensures.1 in
    let a = both (method_type_fits m.input && method_type_fits m.output) (method_end_fits m.end) fit in
    let b = both (method_type_fits m.input) (method_type_fits m.output) a.0 in
    let keyword = c.in_ok-keyword.ensures.only m.keyword _ e in
    let name = c.in_ok-name.ensures.only m.name _ keyword.1 in
    let input = c.in_ok-input.ensures.only m.input _ b.0 name.1 in
    rw (q.1, q.2) (c.in_err-returns.ensures.only m.returns _ input.1)

pub returns-clause-found : goal.returns-clause-found
returns-clause-found c =
    let output = c.in_ok-output.ensures.found ∙ ap (method_type_then (method_type_of c.in_ok-output.output)) c.in_ok-end.ensures.found in
    let returns = c.in_ok-returns.ensures.found ∙ ap (λ (ts : List Token). worded (codes "returns") c.in_ok-returns.returns ∷ ts) output in
    let input = c.in_ok-input.ensures.found ∙ ap (method_type_then (method_type_of c.in_ok-input.input)) returns in
    let name = c.in_ok-name.ensures.found ∙ ap (λ (ts : List Token). named (name_of c.in_ok-name.name) ∷ ts) input in
    c.in_ok-keyword.ensures.found ∙ ap (λ (ts : List Token). worded (codes "rpc") c.in_ok-keyword.keyword ∷ ts) name
