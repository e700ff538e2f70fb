use Rattle.std.proofs.Common.{arith, ◌≡◌, ◌<◌, ◌∙◌, rules, of_calls, pos, negsuc, get_or, length, sym, ap, subst, to_z}
use Rattle.std.proofs.Common.{w32}
use mir.Val.{SFits}
use Rattle.std.proofs.lemmas.Int.{to_z-of_z}
use Rattle.std.proofs.lemmas.Fn.{always_returns_same}
use Rattle.pbx_link_definitions.specs.declared.ranges.Span.{Span}
use Rattle.pbx_link_definitions.proofs.Rising.{raised, has, raised_more, raised_rise, starts_rise, raised_has, all_raised, none_under, first_fits, same_numbers}
use Rattle.pbx_link_definitions.specs.Spans.{Rise}
use Rattle.std.specs.List.{list_any}
use Rattle.pbx_link_definitions.proofs.ranges.number_ranges.Goals as goal

pub loop-span-preserved : goal.loop-span-preserved
loop-span-preserved c =
    let s : Span = get_or c.deref-span-items.result.now c.loop-span.span-index (record { start = pos 0; «end» = pos 0 }) in
    let a : SFits w32 s.start = search rules in
    let b : SFits w32 s.«end» = search rules in
    let d : SFits w32 c.max-end.result = search rules in
    let is = simp to_z-of_z at c.max-end.ensures.value in
    let pushed = simp to_z-of_z at c.in_ok-push.ensures.items in
    let more = raised_more (negsuc 2147483647) (to_z w32 c.loop-span.end-bits) c.max-end.result c.deref-span-items.result.now
    c.loop-span.rising.items c.push.new.self.items c.loop-span.span-index (record { start = pos 0; «end» = pos 0 })
    c.loop-span-test.true is pushed c.loop-span.invariant.so_far in
    record {
      so_far = simp to_z-of_z more;
      fits = λ h. first_fits (λ i. SFits w32 (get_or c.deref-span-items.result.now i (record { start = pos 0; «end» = pos 0 })).start)
          c.loop-span.span-index c.loop-span.invariant.fits a;
    }

pub invariant_of-result : goal.invariant_of-result
invariant_of-result c =
    let sorted = c.sort_unstable_by_key.new.self.items in
    let same : c.deref-span-items.result.now ≡ sorted = c.deref-span-items.ensures.value in
    let starts = starts_rise sorted (c.sort_unstable_by_key.ensures.sorted (λ s. s.start) (always_returns_same _ _ _ (λ a r f k. search (
      rules,
      of_calls,
    )))) in
    let all : c.loop-span.rising.items ≡ raised (negsuc 2147483647) c.deref-span-items.result.now = all_raised _ _ _ _ _ c.loop-span-test.false
    c.loop-span.invariant.so_far in
    subst Rise (sym (all ∙ ap (raised (negsuc 2147483647)) same)) (raised_rise (negsuc 2147483647) sorted starts)

pub returns : goal.returns
returns c =
    let sorted = c.sort_unstable_by_key.new.self.items in
    let same : c.deref-span-items.result.now ≡ sorted = c.deref-span-items.ensures.value in
    let starts = starts_rise sorted (c.sort_unstable_by_key.ensures.sorted (λ s. s.start) (always_returns_same _ _ _ (λ a r f k. search (
      rules,
      of_calls,
    )))) in
    let all : c.loop-span.rising.items ≡ raised (negsuc 2147483647) c.deref-span-items.result.now = all_raised _ _ _ _ _ c.loop-span-test.false
    c.loop-span.invariant.so_far in
    let nothing : Span = record { start = pos 0; «end» = pos 0 } in
    let fits : 0 < length sorted → SFits w32 (get_or sorted 0 nothing).start = λ h. subst (λ ss. SFits w32 (get_or ss 0 nothing).start) same
    (c.loop-span.invariant.fits (omega (arith, ap length same))) in
    same_numbers c.loop-span.rising.items c.args.spans.items (λ z. ap (λ ss. list_any (has z) ss) (all ∙ ap (raised (negsuc 2147483647)) same)
    ∙ raised_has c.args.spans.items sorted z c.sort_unstable_by_key.ensures.permutation starts (none_under z sorted nothing fits))
