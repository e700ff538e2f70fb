use Rattle.std.proofs.Common.{◌≡◌, ◌-◌, ℕ, suc, true, false, get_or, sym, ap, ◌∙◌, arith}
use Rattle.pbx_content.specs.Content.{key_before}
use Rattle.pbx_content_codec.specs.View.{pair_of}
use Rattle.pbx_content_codec.proofs.Keyed.{last_order, order_at, order_down}
use Rattle.pbx_content_codec.proofs.pairs.are_in_order.Goals as goal

pub loop-place-init : goal.loop-place-init
loop-place-init c = (omega arith, last_order c.args.pairs.now)

pub loop-place-preserved : goal.loop-place-preserved
loop-place-preserved c = (
  omega (arith, c.loop-place.invariant.0),
  order_down c.args.pairs.now c.loop-place.place c.index-pairs-place.result c.index-pairs-place-in-loop-place.result (omega (arith, c.loop-place-test.true))
      c.loop-place.invariant.0 (sym c.is_before.ensures ∙ c.if-not-is_before.false)
      c.loop-place.invariant.1,
)

pub returns-then-not-is_before-clause-always : goal.returns-then-not-is_before-clause-always
returns-then-not-is_before-clause-always c = λ ordered.
    let next : suc (c.loop-place.place - 2) ≡ c.loop-place.place - 1 = omega (arith, c.loop-place-test.true) in
    let pairs = c.args.pairs.now in
    let before = order_at pairs (c.loop-place.place - 2) c.index-pairs-place.result c.index-pairs-place-in-loop-place.result (omega
    (arith, c.loop-place-test.true, c.loop-place.invariant.0)) ordered in
    let same = ap (λ (n : ℕ). key_before (pair_of (get_or pairs (c.loop-place.place - 2) c.index-pairs-place.result)).0
    (pair_of (get_or pairs n c.index-pairs-place-in-loop-place.result)).0) next in
    let bad : false ≡ true = sym c.if-not-is_before.true ∙ c.is_before.ensures ∙ sym same ∙ before in bad
