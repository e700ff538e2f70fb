use Rattle.std.proofs.Common.{ℕ, List, sym, ◌∙◌, subst, arith}
use Rattle.pbx_content_map.specs.Entries.{IsAscending}
use Rattle.pbx_content_map.proofs.Places.{found_within, taken_value, found_rest, gap_none, ascending-without}
use Rattle.pbx_content_map.proofs.map.NumberMap.take.Goals as goal

pub remove-requires : goal.remove-requires
remove-requires g c =
    let found = rw c.as_slice.ensures.value at c.in-Ok.ensures.found in
    let within = found_within c.args.number c.in-Ok.at c.self.inside.entries.items found in
    omega (arith, within, c.self.inside.entries.ok.0)

pub invariant_of-self : goal.invariant_of-self
invariant_of-self g c =
    let found = rw c.as_slice.ensures.value at c.in-Ok.ensures.found in
    let rest = found_rest c.args.number c.in-Ok.at c.self.inside.entries.items found in
    subst (λ (es : List (ℕ × g.row.T.Denot)). IsAscending es) (rest ∙ sym c.remove.ensures.items)
    (ascending-without c.args.number c.self.inside.entries.items c.self.invariant)

pub returns-in-Ok-clause-value : goal.returns-in-Ok-clause-value
returns-in-Ok-clause-value g c =
    let found = rw c.as_slice.ensures.value at c.in-Ok.ensures.found in
    rw (← c.self.view_is) (taken_value c.args.number c.in-Ok.at c.self.inside.entries.items c.remove.result found c.remove.ensures.value)

pub returns-in-Ok-clause-rest : goal.returns-in-Ok-clause-rest
returns-in-Ok-clause-rest g c =
    let found = rw c.as_slice.ensures.value at c.in-Ok.ensures.found in
    rw (← c.self.view_is) (c.remove.ensures.items ∙ sym (found_rest c.args.number c.in-Ok.at c.self.inside.entries.items found))

pub returns-in-Err-clause-value : goal.returns-in-Err-clause-value
returns-in-Err-clause-value g c =
    let missing = rw c.as_slice.ensures.value at c.in-Err.ensures.missing in
    rw (← c.self.view_is) (sym (gap_none c.args.number c.in-Err.field-0 c.self.inside.entries.items c.self.invariant missing).0)

pub returns-in-Err-clause-rest : goal.returns-in-Err-clause-rest
returns-in-Err-clause-rest g c =
    let missing = rw c.as_slice.ensures.value at c.in-Err.ensures.missing in
    rw (← c.self.view_is) (sym (gap_none c.args.number c.in-Err.field-0 c.self.inside.entries.items c.self.invariant missing).1)
