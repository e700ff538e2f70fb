use Rattle.std.proofs.Common.{◌≡◌, ◌∙◌, ◌+◌, ℤ, pos, List, [], ◌∷◌, ◌++◌, get_or, to_z, of_z, w64, ap, sym, subst, arith, rules}
use Rattle.std.specs.Int.{int_max}
use Rattle.std.proofs.lemmas.List.{get_or_default}
use Rattle.std.proofs.lemmas.Int.{to_z-of_z}
use Rattle.pbx_link_rules_record.specs.declared.spans.Span.{Span}
use Rattle.pbx_link_rules_record.specs.declared.number_set.Step.{Step}
use Rattle.pbx_link_rules_record.proofs.Reaching.{AreStepsTo, IsReach, reach_none, reach_more, step_more, greater}
use Rattle.pbx_link_rules_record.proofs.number_set.steps.Goals as goal

abbrev no_span : Span
no_span = record { start = pos 0; «end» = pos 0; index = 0 }

pub loop-span-init : goal.loop-span-init
loop-span-init c =
    let same : to_z w64 (of_z w64 c.first_end-reach.result) ≡ c.first_end-reach.result = to_z-of_z w64 c.first_end-reach.result (search rules) in
    record {
      done = reach_none c.args.spans.now c.new-steps.result.items c.new-steps.ensures.items;
      reach = subst (IsReach c.args.spans.now 0) (sym same) (λ k s lt. absurd (omega arith), (0, omega arith, λ s lt. c.first_end-reach.ensures s lt));
    }

pub loop-span-preserved : goal.loop-span-preserved
loop-span-preserved c =
    let ss = c.args.spans.now in
    let i = c.loop-span.span-index in
    let ts = c.loop-span.steps.items in
    let x : Span = get_or ss i no_span in
    let z : ℤ = c.loop-span.reach in
    let y : ℤ = c.max-reach.result in
    let from : to_z w64 (of_z w64 x.start) ≡ x.start = to_z-of_z w64 x.start (search rules) in
    let upto : to_z w64 (of_z w64 y) ≡ y = to_z-of_z w64 y (search rules) in
    let own : to_z w64 (of_z w64 x.«end») ≡ x.«end» = to_z-of_z w64 x.«end» (search rules) in
    let is : y ≡ int_max z x.«end» = c.max-reach.ensures.value ∙ ap (λ (a : ℤ). int_max a (to_z w64 (of_z w64 x.«end»))) c.loop-span.reach-is ∙ ap (int_max z) own in
    let one = greater z x.«end» y is in
    let there : x ≡ get_or ss i x = get_or_default ss i no_span x c.loop-span-test.true in
    let so_far : IsReach ss i z = subst (IsReach ss i) c.loop-span.reach-is c.loop-span.invariant.reach in
    let pushed : c.push.new.self.items ≡ ts ++ record { start = x.start; reach = y } ∷ [] =
    c.in_ok-push.ensures.items ∙ ap (λ (a : ℤ). ts ++ record { start = a; reach = to_z w64 (of_z w64 y) } ∷ []) from ∙ ap (λ (a : ℤ). ts ++ record { start = x.start; reach = a } ∷ []) upto in
    record {
      done = subst (λ (us : List Step). AreStepsTo ss us (i + 1)) (sym pushed) (step_more ss ts i x z y c.loop-span-test.true there so_far one.0 one.1 one.2 c.loop-span.invariant.done);
      reach = subst (IsReach ss (i + 1)) (sym upto) (reach_more ss i x z y c.loop-span-test.true there so_far one.0 one.1 one.2);
    }
