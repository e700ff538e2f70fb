use Rattle.std.proofs.Common.{[], List, ap, subst, sym, ◌∙◌, ℕ}
use Rattle.pbx_content_map.specs.Entries.{with_entry, IsAscending}
use Rattle.pbx_content_map.proofs.Places.{with_one, ascending_entries}
use Rattle.pbx_content_map.proofs.map.NumberMap.from_entries.Goals as goal

pub loop-number-preserved : goal.loop-number-preserved
loop-number-preserved g c =
    c.in_ok-put.ensures.ok ∙ ap (λ (es : List (ℕ × g.row.T.Denot)). with_entry c.in-Some.number c.in-Some.value es) c.loop-number.invariant
    ∙ sym (with_one [] c.loop-number.yielded c.in-Some.number c.in-Some.value)

pub returns-then-are_ascending : goal.returns-then-are_ascending
returns-then-are_ascending g c = sym (ascending_entries c.args.entries.items (subst IsAscending c.as_slice.ensures.value (c.are_ascending.ensures c.if-are_ascending.true)))
