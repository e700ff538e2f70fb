use Rattle.std.proofs.Common.{◌≡◌, ◌∙◌, ◌-◌, ℕ, ℤ, pos, List, get_or, int_le, int_lt, true, false, ltb, to_z, of_z, w64, ap, sym, subst, arith, rules}
use Rattle.std.specs.List.{list_any}
use Rattle.std.specs.List.Sorted.{IsPartitionPoint}
use mir.Val.{SFits}
use Rattle.std.proofs.lemmas.Bool.Decides.{nat_tests}
use Rattle.std.proofs.lemmas.Int.{to_z-of_z}
use Rattle.std.proofs.lemmas.List.{get_or_default}
use Rattle.pbx_link_rules_record.specs.declared.number_set.Step.{Step}
use Rattle.pbx_link_rules_record.specs.Spans.{Rise, has_step}
use Rattle.pbx_link_rules_record.proofs.Reaching.{found_there, none_there}
use Rattle.pbx_link_rules_record.proofs.number_set.NumberSet.contains.Goals as goal

abbrev no_step : Step
no_step = record { start = pos 0; reach = pos 0 }

-- a number is not changed on its way into a call
at_number : (ts : List Step) (z : ℤ) (k : ℕ) → SFits w64 z → IsPartitionPoint (λ (t : Step). int_le t.start (to_z w64 (of_z w64 z)) ≡ true) (λ (t : Step). int_le t.start (to_z w64 (of_z w64 z)) ≡ false) ts k
    → IsPartitionPoint (λ (t : Step). int_le t.start z ≡ true) (λ (t : Step). int_le t.start z ≡ false) ts k
at_number ts z k fits h = subst (λ (a : ℤ). IsPartitionPoint (λ (t : Step). int_le t.start a ≡ true) (λ (t : Step). int_le t.start a ≡ false) ts k) (to_z-of_z w64 z fits) h

pub returns-then-started-gt0 : goal.returns-then-started-gt0
returns-then-started-gt0 c =
    let ts : List Step = c.as_slice-steps.result.now in
    let z : ℤ = c.args.number in
    let k : ℕ = c.started-started.result in
    let x : Step = get_or ts (k - 1) no_step in
    let same : ts ≡ c.args.self.now = c.as_slice-steps.ensures.value ∙ c.self.view_is in
    let up : Rise ts = subst Rise (sym c.as_slice-steps.ensures.value) c.self.invariant in
    let is : x ≡ get_or ts (k - 1) x = get_or_default ts (k - 1) no_step x (omega (arith, c.started-started.ensures.bound)) in
    let tested : int_lt (to_z w64 (of_z w64 z)) (to_z w64 (of_z w64 x.reach)) ≡ int_lt z x.reach =
    ap (λ (a : ℤ). int_lt a (to_z w64 (of_z w64 x.reach))) (to_z-of_z w64 z (search rules)) ∙ ap (int_lt z) (to_z-of_z w64 x.reach (search rules)) in
    found_there ts z k x (int_lt (to_z w64 (of_z w64 z)) (to_z w64 (of_z w64 x.reach))) up c.if-started-gt0.true c.started-started.ensures.bound is (at_number ts z k (search rules) (c.started-started.ensures.parts up)) tested
    ∙ ap (λ (l : List Step). list_any (has_step z) l) same

pub returns-else-started-gt0 : goal.returns-else-started-gt0
returns-else-started-gt0 c =
    let ts : List Step = c.as_slice-steps.result.now in
    let same : ts ≡ c.args.self.now = c.as_slice-steps.ensures.value ∙ c.self.view_is in
    let up : Rise ts = subst Rise (sym c.as_slice-steps.ensures.value) c.self.invariant in
    let none : ltb 0 c.started-started.result ≡ false = grind (arith, nat_tests, c.if-started-gt0.false) in
    none ∙ none_there ts c.args.number c.started-started.result up c.if-started-gt0.false (at_number ts c.args.number c.started-started.result (search rules) (c.started-started.ensures.parts up)) ∙ ap (λ (l : List Step). list_any (has_step c.args.number) l) same
