use Rattle.std.proofs.Common.{◌≡◌, ◌∙◌, ℕ, ◌+◌, ◌-◌, ◌⊎◌, ◌<ℤ◌, ◌≤ℤ◌, inl, inr, pos, length, take, drop, get_or, Some, ap, sym, subst, arith, rules}
use Rattle.std.proofs.lemmas.Int.{ints}
use Rattle.pbx_link_rules_record.specs.declared.spans.Span.{Span}
use Rattle.pbx_link_rules_record.specs.Spans.{IsSharedIn}
use Rattle.pbx_link_rules_record.proofs.Overlaps.{item_behind, shared_found, none_more, ends_more, near_still, EndBefore}
use Rattle.pbx_link_rules_record.proofs.spans.shared.Goals as goal
use Rattle.pbx_link_rules_record.proofs.spans.shared.Goals.{else-span-via-then-span+else-span-furthest, else-span-via-else-span, then-furthest-span, else-furthest-span}

abbrev no_span : Span
no_span = record { start = pos 0; «end» = pos 0; index = 0 }

pub returns-then-span-furthest : goal.returns-then-span-furthest
returns-then-span-furthest c =
    let ss = c.args.spans.now in
    let i = c.loop-span.span-index in
    let x : Span = get_or (take (length ss - 1) (drop 1 ss)) i no_span in
    let at = item_behind ss i no_span c.loop-span-test.true in
    let own : x.start <ℤ x.«end» = search rules in
    let other : x.start <ℤ c.loop-span.furthest.now.«end» = search rules in
    subst (λ (n : ℕ). IsSharedIn ss (Some n)) (sym c.max.ensures)
    (shared_found ss i x c.loop-span.furthest.now at.0 at.1 c.loop-span.invariant.near own other)

pub loop-span-preserved : goal.loop-span-preserved
loop-span-preserved c =
    let ss = c.args.spans.now in
    let i = c.loop-span.span-index in
    let x : Span = get_or (take (length ss - 1) (drop 1 ss)) i no_span in
    let f : Span = c.loop-span.furthest.now in
    let at = item_behind ss i no_span c.loop-span-test.true in
    let apart : (x.«end» ≤ℤ x.start) ⊎ (f.«end» ≤ℤ x.start) = elim c.else-span.branch [
      | else-span-via-then-span+else-span-furthest w ↦ inr (search rules)
      | else-span-via-else-span w ↦ inl (search rules)
    ] in
    let none = none_more ss i x f.«end» at.0 at.1 c.loop-span.invariant.none c.loop-span.invariant.ends apart in
    elim c.if-furthest-span.branch [
      | then-furthest-span w ↦
          let now : c.if-furthest-span.furthest.now ≡ x = ap (λ r. r.now) w.furthest-is in
          let le : f.«end» ≤ℤ x.«end» = search (rules, w.if-furthest-span.true) in
          let near : c.if-furthest-span.furthest.now ≡ get_or ss (i + 1) c.if-furthest-span.furthest.now = now ∙ at.1 ∙ ap (get_or ss (i + 1)) (sym now) in
          record {
            near = (i + 1, omega arith, near);
            ends = subst (λ (t : Span). EndBefore ss (i + 1) t.«end») (sym now) (ends_more ss i x f.«end» x.«end» at.0 at.1 c.loop-span.invariant.ends le (omega (arith, ints)));
            none = none;
          }
      | else-furthest-span w ↦
          let now : c.if-furthest-span.furthest.now ≡ f = ap (λ r. r.now) w.furthest-is in
          let le : x.«end» ≤ℤ f.«end» = search (rules, w.if-furthest-span.false) in
          record {
            near = near_still ss i f c.if-furthest-span.furthest.now now c.loop-span.invariant.near;
            ends = subst (λ (t : Span). EndBefore ss (i + 1) t.«end») (sym now) (ends_more ss i x f.«end» f.«end» at.0 at.1 c.loop-span.invariant.ends (omega (arith, ints)) le);
            none = none;
          }
    ]
