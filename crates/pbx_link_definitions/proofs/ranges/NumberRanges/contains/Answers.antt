use Rattle.std.proofs.Common.{◌≡◌, ◌∙◌, ◌-◌, true, false, rules, of_calls, pos, List, Some, get_or, map, sym, ap}
use Rattle.std.proofs.Common.{subst, arith}
use mir.Val.{SFits}
use mir.Syntax.{w32}
use Rattle.std.specs.Prelude.{int_le, nat_lt}
use Rattle.std.specs.List.{list_any}
use Rattle.std.specs.List.Sorted.{IsPartitionPoint}
use Rattle.std.proofs.lemmas.Int.{to_z-of_z}
use Rattle.std.proofs.lemmas.Fn.{always_returns_same}
use Rattle.pbx_link_definitions.specs.Ranges.{Range, in_ranges}
use Rattle.pbx_link_definitions.specs.Spans.{span_range, Rise}
use Rattle.pbx_link_definitions.proofs.Rising.{has, in_spans, in_no_range, found, none_found, le_over}
use Rattle.pbx_link_definitions.proofs.ranges.NumberRanges.contains.Goals as goal

pub returns-in_default : goal.returns-in_default
returns-in_default c = sym (in_no_range c.args.self.now c.args.number c.in_default.is)

pub returns-then-count-gt0 : goal.returns-then-count-gt0
returns-then-count-gt0 c =
    let spans = c.as_slice-spans.result.now in
    let same : spans ≡ c.self.inside.spans.items = c.as_slice-spans.ensures.value in
    let rise : Rise spans = subst Rise (sym same) c.self.invariant in
    let n : SFits w32 c.in-Some.number = search rules in
    let point : IsPartitionPoint (λ s. int_le s.start c.in-Some.number ≡ true) (λ s. int_le s.start c.in-Some.number
    ≡ false) spans c.partition_point-count.result =
    c.partition_point-count.ensures.partitioned (λ s. int_le s.start c.in-Some.number) (always_returns_same _ _ _ (λ a r f k. search (
      rules,
      of_calls,
    )))
    (λ i j d le lt h. le_over (get_or spans i d).start (get_or spans j d).start c.in-Some.number (rise i j d le lt).0 h) in
    let here = found spans c.in-Some.number (c.partition_point-count.result - 1) (record { start = pos 0; «end» = pos 0 }) rise (omega (
      arith,
      c.partition_point-count.ensures.bound,
    ))
    (subst (λ k. IsPartitionPoint (λ s. int_le s.start c.in-Some.number ≡ true) (λ s. int_le s.start c.in-Some.number
    ≡ false) spans k) (omega arith) point) in
    let whole : in_ranges c.args.self.now c.args.number ≡ list_any (has c.in-Some.number) spans =
    ap (in_ranges c.args.self.now) c.in-Some.is ∙ ap (λ (rs : List Range). in_ranges rs (Some c.in-Some.number)) (sym c.self.view_is
    ∙ ap (map span_range) (sym same)) ∙ in_spans spans c.in-Some.number in
    let e : SFits w32 (get_or spans (c.partition_point-count.result - 1) (record { start = pos 0; «end» = pos 0 })).«end» = search rules in
    simp to_z-of_z (here ∙ sym whole)

pub returns-else-count-gt0 : goal.returns-else-count-gt0
returns-else-count-gt0 c =
    let spans = c.as_slice-spans.result.now in
    let same : spans ≡ c.self.inside.spans.items = c.as_slice-spans.ensures.value in
    let rise : Rise spans = subst Rise (sym same) c.self.invariant in
    let n : SFits w32 c.in-Some.number = search rules in
    let point : IsPartitionPoint (λ s. int_le s.start c.in-Some.number ≡ true) (λ s. int_le s.start c.in-Some.number
    ≡ false) spans c.partition_point-count.result =
    c.partition_point-count.ensures.partitioned (λ s. int_le s.start c.in-Some.number) (always_returns_same _ _ _ (λ a r f k. search (
      rules,
      of_calls,
    )))
    (λ i j d le lt h. le_over (get_or spans i d).start (get_or spans j d).start c.in-Some.number (rise i j d le lt).0 h) in
    let whole : in_ranges c.args.self.now c.args.number ≡ list_any (has c.in-Some.number) spans =
    ap (in_ranges c.args.self.now) c.in-Some.is ∙ ap (λ (rs : List Range). in_ranges rs (Some c.in-Some.number)) (sym c.self.view_is
    ∙ ap (map span_range) (sym same)) ∙ in_spans spans c.in-Some.number in
    let none : c.partition_point-count.result ≡ 0 = omega arith in
    ap (λ k. nat_lt 0 k) none ∙ none_found spans c.in-Some.number (subst (λ k. IsPartitionPoint (λ s. int_le s.start c.in-Some.number
    ≡ true) (λ s. int_le s.start c.in-Some.number ≡ false) spans k) none point) ∙ sym whole
