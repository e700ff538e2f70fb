use Rattle.std.proofs.Common.{List, ℕ, sym, subst, arith, ◌≡◌}
use Rattle.pbx_types.specs.Texts.{IsInOrder}
use Rattle.pbx_types.proofs.TextPlaces.{found_within, gap_within, found_set, gap_filled, ordered_with, ordered_put}
use Rattle.pbx_types.proofs.text_map.TextMap.insert.Goals as goal

pub index_mut-requires : goal.index_mut-requires
index_mut-requires g c =
    let found = rw c.as_slice.ensures.value at c.in-Ok.ensures.found in
    let within = found_within c.args.text c.in-Ok.at c.self.inside.entries.items found in
    omega (arith, within, c.self.inside.entries.ok.0)

pub invariant_of-self : goal.invariant_of-self
invariant_of-self g c =
    let found = rw c.as_slice.ensures.value at c.in-Ok.ensures.found in
    subst (λ (es : List (List ℕ × g.row.T.Denot)). IsInOrder es)
    (sym (found_set c.args.text c.in-Ok.at c.args.value c.self.inside.entries.items found))
    (ordered_with c.args.text c.args.value c.self.inside.entries.items c.self.invariant)

pub add_at-requires : goal.add_at-requires
add_at-requires g c =
    let missing = rw c.as_slice.ensures.value at c.in-Err.ensures.missing in
    gap_within c.args.text c.in-Err.at c.self.inside.entries.items missing

pub invariant_of-self-in-Err : goal.invariant_of-self-in-Err
invariant_of-self-in-Err g c =
    let missing = rw c.as_slice.ensures.value at c.in-Err.ensures.missing in
    ordered_put c.args.text c.in-Err.at c.args.value c.self.inside.entries.items c.add_at.new.entries.items
    (λ (back : List ℕ × g.row.T.Denot). back ≡ (c.args.text, c.args.value)) c.add_at.result missing c.self.invariant c.add_at.ensures

pub returns-in-Ok : goal.returns-in-Ok
returns-in-Ok g c =
    let found = rw c.as_slice.ensures.value at c.in-Ok.ensures.found in
    rw (← c.self.view_is) (found_set c.args.text c.in-Ok.at c.args.value c.self.inside.entries.items found)

pub returns-in-Err : goal.returns-in-Err
returns-in-Err g c =
    let missing = rw c.as_slice.ensures.value at c.in-Err.ensures.missing in
    rw (← c.self.view_is, gap_filled c.args.text c.in-Err.at c.args.value c.self.inside.entries.items missing) c.add_at.ensures
