use Rattle.std.proofs.Common.{ℕ, Some, ap, sym, ◌∙◌, arith}
use Rattle.pbx_content_map.proofs.Places.{found_within, found_value, gap_none}
use Rattle.pbx_content_map.proofs.map.NumberMap.get.Goals as goal

pub index-requires : goal.index-requires
index-requires g c =
    let found = rw c.as_slice.ensures.value at c.in-Ok.ensures.found in
    let within = found_within c.args.number c.in-Ok.at c.self.inside.entries.items found in
    omega (arith, within, c.self.inside.entries.ok.0)

pub returns-in-Ok : goal.returns-in-Ok
returns-in-Ok g c =
    let found = rw c.as_slice.ensures.value at c.in-Ok.ensures.found in
    rw (← c.self.view_is) (ap (λ (x : ℕ × g.row.T.Denot). Some x.1) c.index.ensures
    ∙ sym (found_value c.args.number c.in-Ok.at c.self.inside.entries.items c.index.result.now found))

pub returns-in-Err : goal.returns-in-Err
returns-in-Err g c =
    let missing = rw c.as_slice.ensures.value at c.in-Err.ensures.missing in
    rw (← c.self.view_is) (sym (gap_none c.args.number c.in-Err.field-0 c.self.inside.entries.items c.self.invariant missing).0)
