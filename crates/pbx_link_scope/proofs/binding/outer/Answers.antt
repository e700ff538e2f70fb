use Rattle.std.proofs.Common.{◌≡◌, ◌∙◌, ◌-◌, ℕ, Some, None, take, ap, sym, arith}
use Rattle.std.proofs.lemmas.Str.Pattern.{rfind_char}
use Rattle.pbx_link_scope.proofs.Outward.{no_dot, outer_none, outer_at}
use Rattle.pbx_link_scope.proofs.binding.outer.Goals as goal

pub returns-in-Some : goal.returns-in-Some
returns-in-Some c =
    let found = rfind_char 46 c.args.scope.now (Some c.in-Some.at) c.in-Some.ensures.cases (omega arith) in
    let all : c.in-Some.at - 0 ≡ c.in-Some.at = omega arith in
    c.range.ensures.value ∙ ap (λ (n : ℕ). take n c.args.scope.now) all ∙ outer_at c.args.scope.now c.in-Some.at found.0 found.1 found.2

pub returns-in-None : goal.returns-in-None
returns-in-None c = sym (outer_none c.args.scope.now (no_dot c.args.scope.now (rfind_char 46 c.args.scope.now None c.in-None.ensures.cases (omega arith))))
