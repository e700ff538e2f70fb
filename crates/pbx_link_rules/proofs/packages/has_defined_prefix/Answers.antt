use Rattle.std.proofs.Common.{◌≡◌, ◌∙◌, ◌-◌, ℕ, Some, None, take, ap, arith}
use Rattle.std.specs.List.{list_any}
use Rattle.std.proofs.lemmas.Str.Pattern.{rfind_char}
use Rattle.pbx_link_definitions.specs.Names.{among, prefixes}
use Rattle.pbx_link_rules.specs.Rules.{pool_names}
use Rattle.pbx_link_rules.proofs.Prefixes.{any_last, any_here, any_before}
use Rattle.pbx_link_rules.proofs.packages.has_defined_prefix.Goals as goal

pub returns-then-is_defined : goal.returns-then-is_defined
returns-then-is_defined g c =
    let s = c.loop-at.current.now in
    let found = rfind_char 46 s (Some c.in-Some.at) c.in-Some.ensures.cases (omega arith) in
    any_here (among (pool_names (g.P.Pooled.files c.args.pool.now))) s c.in-Some.at found.0 found.1 found.2 c.if-is_defined.ensures ∙ c.loop-at.invariant.1

pub loop-at-preserved : goal.loop-at-preserved
loop-at-preserved g c =
    let s = c.loop-at.current.now in
    let test = among (pool_names (g.P.Pooled.files c.args.pool.now)) in
    let found = rfind_char 46 s (Some c.in-Some.at) c.in-Some.ensures.cases (omega arith) in
    let all : c.in-Some.at - 0 ≡ c.in-Some.at = omega arith in (
      c.range-current.utf8,
      ap (λ t. list_any test (prefixes t)) (c.range-current.ensures.value ∙ ap (λ (n : ℕ). take n s) all)
          ∙ any_before test s c.in-Some.at found.0 found.1 found.2 c.if-is_defined.ensures ∙ c.loop-at.invariant.1,
    )

pub returns : goal.returns
returns g c =
    let s = c.loop-at.current.now in
    c.is_defined-2.ensures
    ∙ any_last (among (pool_names (g.P.Pooled.files c.args.pool.now))) s (rfind_char 46 s None c.in_default.ensures.cases (omega arith)) ∙ c.loop-at.invariant.1
