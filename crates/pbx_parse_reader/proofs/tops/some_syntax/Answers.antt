use Rattle.std.proofs.Common.{◌∙◌, ◌∷◌, Option, sym, ap}
use Rattle.std.proofs.lemmas.Option.{none-some}
use Rattle.pbx_parse_tree.specs.declared.tree.Version.{Version}
use Rattle.pbx_parse_tree.specs.Tree.{Literal}
use Rattle.pbx_parse_tree.specs.Grammar.{marked, quoted}
use Rattle.pbx_parse_tree.specs.Conditions.{syntax_version}
use Rattle.pbx_parse_reader.proofs.tops.some_syntax.Goals as goal

pub returns-in_default-clause-only : goal.returns-in_default-clause-only
returns-in_default-clause-only c = λ s v rest fits e.
    let keyword = c.in_ok-keyword.ensures.only s.keyword (marked 61 s.equals ∷ quoted s.value ∷ marked 59 s.end ∷ rest) e in
    let equals = c.in_ok-equals.ensures.only s.equals (quoted s.value ∷ marked 59 s.end ∷ rest) keyword.1 in
    let value = c.in_ok-value.ensures.only s.value (marked 59 s.end ∷ rest) equals.1 in
    let named : Literal → Option Version = λ l. syntax_version (record { keyword = s.keyword; equals = s.equals; value = l; end = s.end }) in
    none-some v (c.in_default.ensures s.keyword s.equals s.end ∙ ap named value.0 ∙ fits)

pub returns-clause-fits : goal.returns-clause-fits
returns-clause-fits c = sym (c.in-Some.ensures c.in_ok-keyword.keyword c.in_ok-equals.equals c.in_ok-end.end)
