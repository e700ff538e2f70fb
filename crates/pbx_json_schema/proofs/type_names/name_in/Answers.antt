use Rattle.std.proofs.Common.{◌≡◌, ◌∙◌, ap, sym, List, ℕ, Some, drop, arith}
use Rattle.std.proofs.lemmas.Str.Pattern.{drop_at_char}
use Rattle.pbx_json_meaning.specs.Urls.{after_slash}
use Rattle.pbx_json_schema.proofs.Urls.{no_slash, slash_at}
use Rattle.pbx_json_schema.proofs.type_names.name_in.Goals as goal

pub returns-in-Some : goal.returns-in-Some
returns-in-Some c =
    let url = c.args.url.now in
    let s = c.in-Some.ensures.cases in
    ap (λ (name : List ℕ). Some name) s.4 ∙ sym (slash_at url s.0 (drop s.1 url) (drop_at_char 47 url s.0 s.1 s.2.1 (omega arith)) (no_slash (drop s.1 url) s.2.0))

pub returns-in-None : goal.returns-in-None
returns-in-None c = sym (no_slash c.args.url.now c.in-None.ensures.cases)
