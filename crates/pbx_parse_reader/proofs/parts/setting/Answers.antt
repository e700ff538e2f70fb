use Rattle.std.proofs.Common.{◌≡◌, ◌∙◌, ◌∷◌, true, sym, ap, map}
use Rattle.std.proofs.lemmas.Bool.{false≢true}
use Rattle.std.proofs.lemmas.Result.{err_from_is_err_and}
use Rattle.pbx_parse_tree.specs.Tree.{Name}
use Rattle.pbx_parse_tree.specs.Grammar.{marked, constant_then}
use Rattle.pbx_parse_tree.specs.Fits.{allowed as allowed_of, may_follow, wanted_fits}
use Rattle.pbx_parse_tree.specs.View.{name_of, setting_of}
use Rattle.pbx_parse_reader.proofs.parts.setting.Goals as goal

pub returns-in-Err-clause-only : goal.returns-in-Err-clause-only
returns-in-Err-clause-only c = λ s rest fit e.
    let allowed = allowed_of c.args.allowed in
    let seen = map setting_of c.args.seen.now in
    let name = c.in_ok-name.ensures.only s.name (marked 61 s.equals ∷ constant_then s.value rest) e in
    let same : may_follow allowed seen (record { name = name_of c.in_ok-name.name; equals = s.equals; value = s.value }) ≡ true =
    ap (λ (n : Name). may_follow allowed seen (record { name = n; equals = s.equals; value = s.value })) name.0 ∙ fit in
    absurd (false≢true (sym (c.in-Err.ensures s.equals s.value) ∙ same))

pub returns-in_err-value-clause-only : goal.returns-in_err-value-clause-only
returns-in_err-value-clause-only c = λ s rest fit e.
    let q = err_from_is_err_and c.from_residual-in_err-value.result c.from_residual-in_err-value.ensures.1 in
    let allowed = allowed_of c.args.allowed in
    let seen = map setting_of c.args.seen.now in
    let name = c.in_ok-name.ensures.only s.name (marked 61 s.equals ∷ constant_then s.value rest) e in
    let same : may_follow allowed seen (record { name = name_of c.in_ok-name.name; equals = s.equals; value = s.value }) ≡ true =
    ap (λ (n : Name). may_follow allowed seen (record { name = n; equals = s.equals; value = s.value })) name.0 ∙ fit in
    let equals = c.in_ok-equals.ensures.only s.equals (constant_then s.value rest) name.1 in
    let fits : wanted_fits c.in-Ok.wanted s.value ≡ true = sym (c.in-Ok.ensures s.equals s.value) ∙ same in
    rw (q.1, q.2) (c.in_err-value.ensures.only s.value rest fits equals.1)
