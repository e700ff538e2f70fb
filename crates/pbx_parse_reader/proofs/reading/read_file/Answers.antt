use Rattle.std.proofs.Common.{◌≡◌, ◌∙◌, [], List, Option, None, Some, map, true, refl, sym, ap}
use Rattle.std.proofs.lemmas.Bool.{false≢true}
use Rattle.std.proofs.lemmas.Result.{err_from_is_err_and}
use Rattle.pbx_parse_tree.specs.declared.tree.Version.{Version}
use Rattle.pbx_parse_tree.specs.Tree.{Syntax, Top, File}
use Rattle.pbx_parse_tree.specs.Grammar.{list_then, top_then}
use Rattle.pbx_parse_tree.specs.Conditions.{version_of, fit_with}
use Rattle.pbx_parse_tree.specs.View.{top_of}
use Rattle.pbx_parse_reader.proofs.Begin.{tops_begin}
use Rattle.pbx_parse_reader.proofs.reading.read_file.Goals as goal

-- a file that fits is of a version
version_in : (o : Option Version) (ts : List Top) → fit_with o ts ≡ true → (v : Version) × (o ≡ Some v)
version_in None ts fits = absurd (false≢true fits)
version_in (Some v) ts fits = (v, refl)

pub returns-in_err-syntax-clause-only : goal.returns-in_err-syntax-clause-only
returns-in_err-syntax-clause-only c = λ t fits e.
    let q = err_from_is_err_and c.from_residual.result c.from_residual.ensures.1 in
    let version = version_in (version_of t.syntax) t.tops fits in
    rw (q.1, q.2) (c.in_err-syntax.ensures.only t.syntax version.0 (list_then top_then t.tops []) version.1 (tops_begin t.tops) e)

pub returns-in_err-tops-clause-only : goal.returns-in_err-tops-clause-only
returns-in_err-tops-clause-only c = λ t fits e.
    let q = err_from_is_err_and c.from_residual-in_err-tops.result c.from_residual-in_err-tops.ensures.1 in
    let some = version_in (version_of t.syntax) t.tops fits in
    let r = c.in_ok-syntax.ensures.only t.syntax some.0 (list_then top_then t.tops []) some.1 (tops_begin t.tops) e in
    let version : version_of t.syntax ≡ Some c.in_ok-syntax.version = ap version_of (sym r.0) ∙ c.in_ok-syntax.ensures.fits in
    rw (q.1, q.2) (c.in_err-tops.ensures.only t.tops (sym (ap (λ (v : Option Version). fit_with v t.tops) version) ∙ fits) r.1)

pub returns-clause-only : goal.returns-clause-only
returns-clause-only c = λ t fits e.
    let some = version_in (version_of t.syntax) t.tops fits in
    let r = c.in_ok-syntax.ensures.only t.syntax some.0 (list_then top_then t.tops []) some.1 (tops_begin t.tops) e in
    let version : version_of t.syntax ≡ Some c.in_ok-syntax.version = ap version_of (sym r.0) ∙ c.in_ok-syntax.ensures.fits in
    let tops = c.in_ok-tops.ensures.only t.tops (sym (ap (λ (v : Option Version). fit_with v t.tops) version) ∙ fits) r.1 in
    let made : Option Syntax → List Top → File = λ s ts. record { syntax = s; tops = ts } in
    ap (λ (s : Option Syntax). made s (map top_of c.in_ok-tops.tops.items)) r.0 ∙ ap (made t.syntax) tops
