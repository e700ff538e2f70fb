use Rattle.std.proofs.Common.{◌+◌, ◌-◌, ◌/◌, length, sym, ◌∙◌, arith}
use Rattle.pbx_types.proofs.TextPlaces.{place_within, place_above, place_below, all_less}
use Rattle.pbx_types.proofs.text_map.place_of.Goals as goal

pub loop-low-init : goal.loop-low-init
loop-low-init g c = (omega arith, place_within c.args.text.now c.args.entries.now, omega arith)

pub loop-low-preserved-then-is_before-2 : goal.loop-low-preserved-then-is_before-2
loop-low-preserved-then-is_before-2 g c =
    let bounds = c.loop-low.invariant in
    let test = c.loop-low-test.true in
    let middle = c.loop-low.low + (c.loop-low.high - c.loop-low.low) / 2 in
    place_above c.args.text.now c.args.entries.now middle c.loop-low.high c.index-entries-middle.result c.requires (omega (arith, bounds.2, test))
    (sym c.is_before-in-loop-low.ensures ∙ c.if-is_before-2.true) bounds.1 bounds.2

pub loop-low-preserved : goal.loop-low-preserved
loop-low-preserved g c =
    let bounds = c.loop-low.invariant in
    let test = c.loop-low-test.true in
    let middle = c.loop-low.low + (c.loop-low.high - c.loop-low.low) / 2 in
    place_below c.args.text.now c.args.entries.now c.loop-low.low middle c.index-entries-middle.result (omega (arith, bounds.2, test))
    (sym c.is_before-in-loop-low.ensures ∙ c.if-is_before-2.false) bounds.0

pub returns-then-is_before : goal.returns-then-is_before
returns-then-is_before g c =
    all_less c.args.text.now (length c.args.entries.now - 1) c.args.entries.now c.index-entries-len.result c.requires (omega (arith, c.if-len-gt0.true))
    (sym c.is_before.ensures ∙ c.if-is_before.true)
