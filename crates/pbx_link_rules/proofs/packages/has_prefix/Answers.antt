use Rattle.std.proofs.Common.{◌≡◌, ◌∙◌, ◌++◌, ℕ, List, Some, None, ap, sym}
use Rattle.std.proofs.lemmas.Bool.Decides.{Decides-eqb}
use Rattle.std.proofs.lemmas.Slice.Eq.{strip_prefix_is}
use Rattle.pbx_link_rules.proofs.Prefixes.{prefix_ends, no_prefix}
use Rattle.pbx_link_rules.proofs.packages.has_prefix.Goals as goal

pub returns-in-Some : goal.returns-in-Some
returns-in-Some c =
    let cut = strip_prefix_is Decides-eqb c.as_bytes.result.now c.as_bytes-2.result.now (Some c.in-Some.rest) c.in-Some.ensures.cases in
    let whole : c.args.whole.now ≡ c.args.name.now ++ c.in-Some.rest.now =
    sym c.as_bytes.ensures.value ∙ cut ∙ ap (λ (s : List ℕ). s ++ c.in-Some.rest.now) c.as_bytes-2.ensures.value in
    c.ends_part.ensures ∙ prefix_ends c.args.whole.now c.args.name.now c.in-Some.rest.now whole

pub returns-in-None : goal.returns-in-None
returns-in-None c =
    let cut = strip_prefix_is Decides-eqb c.as_bytes.result.now c.as_bytes-2.result.now None c.in-None.ensures.cases in
    no_prefix c.args.whole.now c.args.name.now
    (λ rest e. cut rest (c.as_bytes.ensures.value ∙ e ∙ ap (λ (s : List ℕ). s ++ rest) (sym c.as_bytes-2.ensures.value)))
