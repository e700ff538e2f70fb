use Rattle.std.proofs.Common.{◌+◌, ◌-◌, ◌/◌, length, arith}
use Rattle.pbx_content_map.proofs.Places.{place_within, place_above, place_below, all_less}
use Rattle.pbx_content_map.proofs.map.place_of.Goals as goal

pub loop-low-init : goal.loop-low-init
loop-low-init g c = (omega arith, place_within c.args.number c.args.entries.now, omega arith)

pub loop-low-preserved-then-entries-middle : goal.loop-low-preserved-then-entries-middle
loop-low-preserved-then-entries-middle g c =
    let bounds = c.loop-low.invariant in
    let test = c.loop-low-test.true in
    let middle = c.loop-low.low + (c.loop-low.high - c.loop-low.low) / 2 in
    place_above c.args.number c.args.entries.now middle c.loop-low.high c.index-entries-middle.result c.requires (omega (arith, bounds.2, test))
    c.if-entries-middle.true bounds.1 bounds.2

pub loop-low-preserved : goal.loop-low-preserved
loop-low-preserved g c =
    let bounds = c.loop-low.invariant in
    let test = c.loop-low-test.true in
    let middle = c.loop-low.low + (c.loop-low.high - c.loop-low.low) / 2 in
    place_below c.args.number c.args.entries.now c.loop-low.low middle c.index-entries-middle.result (omega (arith, bounds.2, test))
    c.if-entries-middle.false bounds.0

pub returns-then-entries-len : goal.returns-then-entries-len
returns-then-entries-len g c =
    all_less c.args.number (length c.args.entries.now - 1) c.args.entries.now c.index-entries-len.result c.requires (omega (arith, c.if-len-gt0.true)) c.if-entries-len.true
