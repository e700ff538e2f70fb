use Rattle.std.proofs.Common.{ℕ, List, sym, subst, arith}
use Rattle.pbx_content_map.specs.Entries.{IsAscending}
use Rattle.pbx_content_map.proofs.Places.{found_within, gap_within, found_set, gap_filled, ascending-with, ascending-put}
use Rattle.pbx_content_map.proofs.map.NumberMap.put.Goals as goal

pub index_mut-requires : goal.index_mut-requires
index_mut-requires g c =
    let found = rw c.as_slice.ensures.value at c.in-Ok.ensures.found in
    let within = found_within c.args.number c.in-Ok.at c.self.inside.entries.items found in
    omega (arith, within, c.self.inside.entries.ok.0)

pub invariant_of-self : goal.invariant_of-self
invariant_of-self g c =
    let found = rw c.as_slice.ensures.value at c.in-Ok.ensures.found in
    subst (λ (es : List (ℕ × g.row.T.Denot)). IsAscending es)
    (sym (found_set c.args.number c.in-Ok.at c.args.value c.self.inside.entries.items found))
    (ascending-with c.args.number c.args.value c.self.inside.entries.items c.self.invariant)

pub add_at-requires : goal.add_at-requires
add_at-requires g c =
    let missing = rw c.as_slice.ensures.value at c.in-Err.ensures.missing in
    gap_within c.args.number c.in-Err.at c.self.inside.entries.items missing

pub invariant_of-self-in-Err : goal.invariant_of-self-in-Err
invariant_of-self-in-Err g c =
    let missing = rw c.as_slice.ensures.value at c.in-Err.ensures.missing in
    ascending-put c.args.number c.in-Err.at c.args.value c.self.inside.entries.items c.add_at.new.entries.items c.add_at.result missing c.self.invariant
    c.add_at.ensures.ok c.add_at.ensures.err

pub returns-in-Ok-clause-ok : goal.returns-in-Ok-clause-ok
returns-in-Ok-clause-ok g c =
    let found = rw c.as_slice.ensures.value at c.in-Ok.ensures.found in
    rw (← c.self.view_is) (found_set c.args.number c.in-Ok.at c.args.value c.self.inside.entries.items found)

pub returns-in-Err-clause-ok : goal.returns-in-Err-clause-ok
returns-in-Err-clause-ok g c =
    let missing = rw c.as_slice.ensures.value at c.in-Err.ensures.missing in
    rw (← c.self.view_is, gap_filled c.args.number c.in-Err.at c.args.value c.self.inside.entries.items missing) c.add_at.ensures.ok
